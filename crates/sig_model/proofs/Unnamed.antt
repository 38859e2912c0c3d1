-- Parameters without names, and their plain twins.
use Rattle.std.specs.Prelude.{◌≡◌, refl, List, [], ◌∷◌, None, map}
use Rattle.std.proofs.Common.{ap}
use Rattle.sig_model.specs.declared.ty.Ty.{Ty}
use Rattle.sig_model.specs.declared.ty.Arg.{Arg}
use Rattle.sig_model.specs.PlainTy.{plain_ty, plain_tys, plain_args, more_args}
use Rattle.sig_model.specs.Built.{unnamed}

abbrev pub unnamed_arg : Ty → Arg
unnamed_arg t = record { ty = t; name = None }

pub plain_unnamed : (ts : List Ty) → plain_args (map unnamed_arg ts) ≡ unnamed (plain_tys ts)
plain_unnamed [] = refl
plain_unnamed (t ∷ ts) = ap (more_args (plain_ty t) None) (plain_unnamed ts)
