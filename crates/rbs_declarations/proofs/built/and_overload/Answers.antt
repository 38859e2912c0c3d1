use Rattle.std.proofs.Common.{◌≡◌, refl, sym, List, None}
use Rattle.sig_model.specs.PlainTy as plain
use Rattle.sig_model.specs.PlainTy.{PlainTy}
use Rattle.sig_model.specs.PlainMember.{PlainParam, PlainMethod}
use Rattle.rbs_types.specs.Parts.{function_in}
use Rattle.rbs_declarations.specs.Machine.{and_overload}
use Rattle.rbs_declarations.proofs.built.and_overload.Goals as goal

no_overload : (done : List PlainMethod) (ps : List PlainParam) (t : PlainTy) → function_in t ≡ None → and_overload done ps t ≡ None
no_overload done ps (plain.fun f) e = cc
no_overload done ps t e = refl

pub returns-in-None : goal.returns-in-None
returns-in-None c = sym (no_overload c.args.done c.args.params c.args.ty c.in-None.ensures)
