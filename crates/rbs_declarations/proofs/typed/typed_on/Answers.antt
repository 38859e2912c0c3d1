use Rattle.std.proofs.Common.{◌≡◌, Bool, subst}
use Rattle.rbs_terminals.specs.declared.token.Token.{Token}
use Rattle.rbs_types.specs.declared.state.State.{State}
use Rattle.rbs_types.specs.Symbols.{token}
use Rattle.rbs_types.specs.Ends.{ends_before}
use Rattle.rbs_types.specs.Machine as types
use Rattle.rbs_declarations.proofs.Taken.{goes_behind, goes_inside}
use Rattle.rbs_declarations.proofs.typed.typed_on.Goals as goal

-- said of the state in the box
told : (inner state : State) (t : Token) (is : Bool) → state ≡ inner → is ≡ ends_before (types.final state) (types.next state (token t.kind t.spot)) → is ≡ ends_before (types.final inner) (types.next inner t)
told inner state t is same said = subst (λ (s : State). is ≡ ends_before (types.final s) (types.next s t)) same said

pub returns-then-is_ended : goal.returns-then-is_ended
returns-then-is_ended c =
    goes_behind c.args.around.file c.args.around.decls c.args.around.frames c.args.purpose c.args.inner (types.next c.args.inner c.args.token) c.args.token.kind c.args.token.spot c.behind_type.result
    c.is_ended.result (told c.args.inner c.get.result.now c.args.token c.is_ended.result c.get.ensures c.is_ended.ensures) c.if-is_ended.true c.behind_type.ensures

pub returns-else-is_ended : goal.returns-else-is_ended
returns-else-is_ended c =
    goes_inside c.args.around.file c.args.around.decls c.args.around.frames c.args.purpose c.args.inner (types.next c.args.inner c.args.token) c.args.token.kind c.args.token.spot c.inside_type.result
    c.is_ended.result (told c.args.inner c.get.result.now c.args.token c.is_ended.result c.get.ensures c.is_ended.ensures) c.if-is_ended.false c.inside_type.ensures
