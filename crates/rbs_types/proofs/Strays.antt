-- A byte that begins no token continues no type, and within the limits no integer is past 64 bits.
use Rattle.std.proofs.Common.{ℕ, ◌≡◌, refl, ap, Bool, true, false, List, [], ◌∷◌, ◌++◌, Option, Some, None, option_and_then}
use Rattle.rbs_terminals.specs.declared.token.Token.{Token}
use Rattle.rbs_terminals.specs.declared.token.Spot.{Spot}
use Rattle.rbs_terminals.specs.declared.token.Kind.TheVariants as kind
use Rattle.sig_model.specs.PlainTy as plain
use Rattle.sig_model.specs.PlainTy.{PlainTy}
use Rattle.viable_prefixes.specs.Runs.{reads, Each}
use Rattle.viable_prefixes.proofs.Goes.{none_some}
use Rattle.rbs_types.specs.declared.state.Members.{Members}
use Rattle.rbs_types.specs.declared.state.Members.TheVariants as members
use Rattle.rbs_types.specs.declared.state.Parameters.{Parameters}
use Rattle.rbs_types.specs.declared.state.Listed.{Listed}
use Rattle.rbs_types.specs.declared.state.Level.{Level}
use Rattle.rbs_types.specs.declared.state.Owner.{Owner}
use Rattle.rbs_types.specs.declared.state.Owner.TheVariants as owner
use Rattle.rbs_types.specs.declared.state.Frame.{Frame}
use Rattle.rbs_types.specs.declared.state.Frame.TheVariants as frame
use Rattle.rbs_types.specs.declared.state.Opening.{Opening}
use Rattle.rbs_types.specs.declared.state.Opening.TheVariants as opening
use Rattle.rbs_types.specs.declared.state.Focus.{Focus}
use Rattle.rbs_types.specs.declared.state.Focus.TheVariants as focus
use Rattle.rbs_types.specs.declared.state.State.{State}
use Rattle.rbs_types.specs.Symbols.{token}
use Rattle.rbs_types.specs.Parts.{grown, no_name, no_parameters, takes_positional, takes_optional}
use Rattle.rbs_types.specs.Machine.{start, ground, next, final, step, all_ended, slot_of, argument_begins, after_listed, in_bracket, after_type, joined, after_opt, after_simple, after_opening}
use Rattle.rbs_types.specs.Limits.{IsSmall, IsWritten}
use Rattle.rbs_types.proofs.Complete.{complete}

-- ---- no state takes it

bracket_ends : (t : PlainTy) (f : Frame) (frames : List Frame) → in_bracket t f frames kind.Stray ≡ None
bracket_ends t (frame.Paren outer) frames = refl
bracket_ends t (frame.Arguments n done outer) frames = refl
bracket_ends t (frame.Tuple done outer) frames = refl
bracket_ends t (frame.Record done key needed outer) frames = refl
bracket_ends t (frame.Parameter before x o) frames = refl
bracket_ends t (frame.Block needed inner outer level) frames = refl

type_ends : (t : PlainTy) (frames : List Frame) → after_type t frames kind.Stray ≡ None
type_ends t [] = refl
type_ends t (f ∷ frames) = bracket_ends t f frames

opt_ends : (t : PlainTy) (ms : Members) (frames : List Frame) → after_opt t ms frames kind.Stray ≡ None
opt_ends t (members.Operands us is) frames = type_ends (joined plain.union us (joined plain.inter is t)) frames
opt_ends t members.Result frames = type_ends t frames
opt_ends t members.Closed frames = type_ends t frames

simple_ends : (t : PlainTy) (level : Level) (frames : List Frame) → after_simple t level frames kind.Stray ≡ None
simple_ends t level frames = opt_ends (all_ended level.heads t) level.members frames

argument_ends : (before : Parameters) (needed takes : Bool) (o : Owner) (frames : List Frame) → argument_begins before needed takes None o frames kind.Stray ≡ None
argument_ends before needed true o frames = refl
argument_ends before needed false o frames = refl

listed_ends : (l : Listed) (o : Owner) (frames : List Frame) → after_listed l o frames kind.Stray ≡ None
listed_ends l (owner.Function level) frames = refl
listed_ends l (owner.Block needed outer level) frames = refl

opening_ends : (o : Opening) (w : List ℕ) (frames : List Frame) → after_opening o w frames kind.Stray ≡ None
opening_ends opening.Alias w frames = simple_ends (plain.name (grown no_name w) plain.no_tys) ground frames
opening_ends (opening.Base b) w frames = simple_ends (plain.base b) ground frames
opening_ends opening.Singleton w frames = refl

step_ends : (f : Focus) (frames : List Frame) (s : Spot) → step f frames kind.Stray s ≡ None
step_ends (focus.Type level) frames s = refl
step_ends (focus.Scope n level) frames s = refl
step_ends (focus.Upper n level) frames s = simple_ends (plain.name n plain.no_tys) level frames
step_ends (focus.Bare n level) frames s = simple_ends (plain.name n plain.no_tys) level frames
step_ends (focus.Singleton level) frames s = refl
step_ends (focus.SingletonOpen level) frames s = refl
step_ends (focus.SingletonScope n level) frames s = refl
step_ends (focus.SingletonUpper n level) frames s = refl
step_ends (focus.Paren level) frames s = refl
step_ends (focus.Tuple level) frames s = refl
step_ends (focus.Record level) frames s = refl
step_ends (focus.Key done level) frames s = refl
step_ends (focus.KeyQuestion done level) frames s = refl
step_ends (focus.KeyName done key needed level) frames s = refl
step_ends (focus.Simple t level) frames s = simple_ends t level frames
step_ends (focus.Optional t ms) frames s = opt_ends t ms frames
step_ends (focus.Function level) frames s = refl
step_ends (focus.Parameters o) frames s = argument_ends no_parameters true (takes_positional no_parameters) o frames
step_ends (focus.Parameter before o) frames s = argument_ends before true (takes_positional before) o frames
step_ends (focus.ParameterQuestion before o) frames s = argument_ends before false (takes_optional before) o frames
step_ends (focus.ParameterWord before needed w p o) frames s = opening_ends p w (frame.Parameter before (slot_of needed) o ∷ frames)
step_ends (focus.ParameterKey before needed w o) frames s = refl
step_ends (focus.ParameterNamed p o) frames s = refl
step_ends (focus.KeyRestNamed l o) frames s = refl
step_ends (focus.Listed l o) frames s = listed_ends l o frames
step_ends (focus.BlockQuestion outer level) frames s = refl
step_ends (focus.Block needed outer level) frames s = refl
step_ends (focus.Headed h level) frames s = refl

pub stray_ends : (m : State) (s : Spot) → next m (token kind.Stray s) ≡ None
stray_ends m s = step_ends m.focus m.frames s

-- ---- and so it stands in no text

-- what is left behind some tokens, with the byte at the end
abbrev left : List Token → Spot → State → Option PlainTy
left ts s m = reads next final m (ts ++ token kind.Stray s ∷ [])

reads_none : (ts : List Token) (m : State) (s : Spot) → left ts s m ≡ None
unfolding reads
reads_none [] m s = ap (option_and_then (λ m. reads next final m [])) (stray_ends m s)
reads_none (c ∷ ts) m s = go (next m c) (λ m. reads_none ts m s)
  where
    go : (o : Option State) → ((m : State) → left ts s m ≡ None) → option_and_then (left ts s) o ≡ None
    go None ih = refl
    go (Some m) ih = ih m

pub stray_unwritten : (t : PlainTy) (ts : List Token) (s : Spot) → IsWritten t (ts ++ token kind.Stray s ∷ []) → ⊥
stray_unwritten t ts s w = none_some _ t (reads_none ts start s) (complete t (ts ++ token kind.Stray s ∷ []) w)

-- ---- integers past 64 bits

pub past_unfit : (ts : List Token) (s : Spot) → Each IsSmall (ts ++ token kind.PastInteger s ∷ []) → ⊥
past_unfit [] s small = small.0
past_unfit (c ∷ ts) s small = past_unfit ts s small.1
