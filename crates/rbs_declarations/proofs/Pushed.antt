-- Lists of the parts of declarations, one more at the end, and their plain twins.
use Rattle.std.proofs.Common.{◌≡◌, refl, ap, List, [], ◌∷◌, ◌++◌}
use Rattle.sig_model.specs.declared.decl.TyParam.{TyParam}
use Rattle.sig_model.specs.declared.decl.MethodTy.{MethodTy}
use Rattle.sig_model.specs.PlainMember.{plain_param, plain_params, plain_method, plain_methods}
use Rattle.sig_model.specs.Plain.{plain_all}

pub plain_params_push : (ps : List TyParam) (p : TyParam) → plain_params (ps ++ p ∷ []) ≡ plain_params ps ++ plain_param p ∷ []
plain_params_push [] p = refl
plain_params_push (q ∷ ps) p = ap (λ qs. plain_param q ∷ qs) (plain_params_push ps p)

pub plain_methods_push : (ms : List MethodTy) (m : MethodTy) → plain_methods (ms ++ m ∷ []) ≡ plain_methods ms ++ plain_method m ∷ []
plain_methods_push [] m = refl
plain_methods_push (n ∷ ms) m = ap (λ ns. plain_method n ∷ ns) (plain_methods_push ms m)

-- the laws of plain types and declarations, and these
pub ruleset pushed = (plain_all, plain_params_push, plain_methods_push)
