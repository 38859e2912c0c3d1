-- Steps that hand a token on, as it is not the mark that may stand here.
use Rattle.std.proofs.Common.{◌≡◌, refl, subst, List, ◌∷◌, Bool, true, false, IsTrue, ◌↔◌, Result}
use Rattle.rbs_terminals.specs.declared.token.Mark.TheVariants as mark
use Rattle.rbs_terminals.specs.declared.token.Kind.{Kind}
use Rattle.rbs_terminals.specs.declared.token.Kind.TheVariants as kind
use Rattle.rbs_terminals.specs.Kinds.{lower_of}
use Rattle.sig_model.specs.PlainTy as plain
use Rattle.sig_model.specs.PlainTy.{PlainTys}
use Rattle.rbs_types.specs.declared.refused.Stuck.{Stuck}
use Rattle.rbs_types.specs.declared.state.Level.{Level}
use Rattle.rbs_types.specs.declared.state.Parameters.{Parameters}
use Rattle.rbs_types.specs.declared.state.Owner.{Owner}
use Rattle.rbs_types.specs.declared.state.Frame.{Frame}
use Rattle.rbs_types.specs.declared.state.Frame.TheVariants as frame
use Rattle.rbs_types.specs.declared.state.State.{State}
use Rattle.rbs_types.specs.Parts.{no_parameters, nothing_listed, takes_positional}
use Rattle.rbs_types.specs.Machine.{ground, wants, after_tuple, after_outer, after_function, argument_begins, parameter_begins, after_parameters}
use Rattle.rbs_types.specs.Does.{Does}

-- no test is both true and false
refuted : {b : Bool} → IsTrue b → b ≡ false → ⊥
refuted t f = cc

pub tuple_goes_on : (level : Level) (frames : List Frame) (k : Kind) (done : PlainTys) (r : Result State Stuck) (b : Bool) → (IsTrue b ↔ (k ≡ kind.Mark mark.CloseSquare)) → b ≡ false
    → done ≡ plain.no_tys → Does (wants ground (frame.Tuple done level ∷ frames) k) r → Does (after_tuple level frames k) r
tuple_goes_on level frames (kind.Mark mark.CloseSquare) done r b e f g d = absurd (refuted (e.1 refl) f)
tuple_goes_on level frames k done r b e f g d = subst (λ x. Does (wants ground (frame.Tuple x level ∷ frames) k) r) g d

pub function_goes_on : (level : Level) (frames : List Frame) (k : Kind) (r : Result State Stuck) (b : Bool) → (IsTrue b ↔ (k ≡ kind.Mark mark.Open)) → b ≡ false
    → Does (after_outer nothing_listed level frames k) r → Does (after_function level frames k) r
function_goes_on level frames (kind.Mark mark.Open) r b e f d = absurd (refuted (e.1 refl) f)
function_goes_on level frames k r b e f d = d

pub parameter_goes_on : (before : Parameters) (owner : Owner) (frames : List Frame) (k : Kind) (takes : Bool) (r : Result State Stuck) (a b c : Bool)
    → (IsTrue a ↔ (k ≡ kind.Mark mark.Question)) → a ≡ false → (IsTrue b ↔ (k ≡ kind.Mark mark.Star)) → b ≡ false → (IsTrue c ↔ (k ≡ kind.Mark mark.DoubleStar)) → c ≡ false
    → takes ≡ takes_positional before → Does (argument_begins before true takes (lower_of k) owner frames k) r → Does (parameter_begins before owner frames k) r
parameter_goes_on before owner frames (kind.Mark mark.Question) takes r a b c ea fa eb fb ec fc g d = absurd (refuted (ea.1 refl) fa)
parameter_goes_on before owner frames (kind.Mark mark.Star) takes r a b c ea fa eb fb ec fc g d = absurd (refuted (eb.1 refl) fb)
parameter_goes_on before owner frames (kind.Mark mark.DoubleStar) takes r a b c ea fa eb fb ec fc g d = absurd (refuted (ec.1 refl) fc)
parameter_goes_on before owner frames k takes r a b c ea fa eb fb ec fc g d = subst (λ x. Does (argument_begins before true x (lower_of k) owner frames k) r) g d

pub parameters_go_on : (owner : Owner) (frames : List Frame) (k : Kind) (r : Result State Stuck) (b : Bool) → (IsTrue b ↔ (k ≡ kind.Mark mark.Close)) → b ≡ false
    → Does (parameter_begins no_parameters owner frames k) r → Does (after_parameters owner frames k) r
parameters_go_on owner frames (kind.Mark mark.Close) r b e f d = absurd (refuted (e.1 refl) f)
parameters_go_on owner frames k r b e f d = d
