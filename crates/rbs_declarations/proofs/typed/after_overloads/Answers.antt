use Rattle.rbs_declarations.proofs.Turns.{confirmed, refuted}
use Rattle.rbs_declarations.proofs.Taken.{overloads_go_on, overloads_end}
use Rattle.rbs_declarations.proofs.typed.after_overloads.Goals as goal

pub returns-then-is_mark : goal.returns-then-is_mark
returns-then-is_mark c done params ty e =
    overloads_go_on c.args.around.file c.args.around.decls c.args.around.frames c.args.signature done params ty c.args.overloads c.args.token.kind c.args.token.spot c.next_overload.result
    e (confirmed c.is_mark.ensures c.if-is_mark.true) c.next_overload.ensures

pub returns-else-is_mark : goal.returns-else-is_mark
returns-else-is_mark c done params ty e =
    overloads_end c.args.around.file c.args.around.decls c.args.around.frames c.args.signature done params ty c.args.overloads c.args.token.kind c.args.token.spot c.then_method.result
    e (refuted c.is_mark.ensures c.if-is_mark.false) c.then_method.ensures
