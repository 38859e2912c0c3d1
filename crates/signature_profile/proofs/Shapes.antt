-- Lists of declarations, of parts and of parameters, whose elements are tested one by one.
use Rattle.std.proofs.Common.{ℕ, ◌≡◌, ◌+◌, ◌<◌, ◌≤◌, refl, sym, ap, ◌∙◌, Bool, true, false, List, [], ◌∷◌, length, drop, get_or, Option, Some, None, arith}
use Rattle.std.proofs.lemmas.List.{drop_all}
use Rattle.std.specs.Prelude.{◌&&◌, is_none}
use Rattle.std.specs.List.{list_all}
use Rattle.sig_model.specs.declared.ty.Arg.{Arg}
use Rattle.sig_model.specs.declared.ty.RecKey.{RecKey}
use Rattle.sig_model.specs.declared.decl.TyParam.{TyParam}
use Rattle.sig_model.specs.declared.decl.MethodTy.{MethodTy}
use Rattle.sig_model.specs.declared.decl.Decl.{Decl}
use Rattle.sig_model.specs.declared.decl.Part.{Part}
use Rattle.sig_model.specs.PlainTy.{PlainTy, plain_ty, plain_args, plain_keys, more_args}
use Rattle.sig_model.specs.PlainMember.{plain_params, plain_methods}
use Rattle.sig_model.specs.PlainDecl.{PlainParts, plain_decl, plain_decls, plain_parts, part_before}
use Rattle.signature_profile.specs.Shape.{no_item, no_arg, no_key, are_unnamed, is_one_overload, are_methods, is_class, are_classes}
use Rattle.signature_profile.proofs.Lists.{left_at}

-- what has an element isn't empty
pub some_params : (ps : List TyParam) → 1 ≤ length ps → false ≡ no_item (plain_params ps)
some_params [] h = absurd (omega arith)
some_params (p ∷ ps) h = refl

pub some_args : (args : List Arg) → 1 ≤ length args → false ≡ no_arg (plain_args args)
some_args [] h = absurd (omega arith)
some_args (a ∷ args) h = refl

pub some_keys : (ks : List RecKey) → 1 ≤ length ks → false ≡ no_key (plain_keys ks)
some_keys [] h = absurd (omega arith)
some_keys (k ∷ ks) h = refl

-- two overloads are more than one
pub more_overloads : (ms : List MethodTy) → 2 ≤ length ms → false ≡ is_one_overload (plain_methods ms)
more_overloads [] h = absurd (omega arith)
more_overloads (m ∷ []) h = absurd (omega arith)
more_overloads (m ∷ n ∷ ms) h = refl

unnamed_more : (t : PlainTy) (n : Option (List ℕ)) (args : List Arg) → is_none n && are_unnamed (plain_args args) ≡ are_unnamed (more_args t n (plain_args args))
unnamed_more t None args = refl
unnamed_more t (Some w) args = refl

pub all_unnamed : (args : List Arg) → list_all (λ a. is_none a.name) args ≡ are_unnamed (plain_args args)
all_unnamed [] = refl
all_unnamed (a ∷ args) = ap (λ b. is_none a.name && b) (all_unnamed args) ∙ unnamed_more (plain_ty a.ty) a.name args

pub all_classes : (ds : List Decl) → list_all (λ d. is_class (plain_decl d)) ds ≡ are_classes (plain_decls ds)
all_classes [] = refl
all_classes (d ∷ ds) = ap (λ b. is_class (plain_decl d) && b) (all_classes ds)

-- the parts before the index are methods
pub record MethodsRead (parts : List Part) (i : ℕ) : Type 0 where
  pub same : are_methods (plain_parts parts) ≡ are_methods (plain_parts (drop i parts))

-- what a part adds
step : (parts : List Part) (i : ℕ) (p : Part) (good : Bool) → i < length parts → p ≡ get_or parts i p → ((behind : PlainParts) → are_methods (part_before p behind) ≡ good && are_methods behind)
    → are_methods (plain_parts (drop i parts)) ≡ good && are_methods (plain_parts (drop (i + 1) parts))
step parts i p good h e a = ap (λ ps. are_methods (plain_parts ps)) (left_at parts i p h e) ∙ a (plain_parts (drop (i + 1) parts))

pub methods_more : (parts : List Part) (i : ℕ) (p : Part) (good : Bool) → MethodsRead parts i → i < length parts → p ≡ get_or parts i p
    → ((behind : PlainParts) → are_methods (part_before p behind) ≡ good && are_methods behind) → good ≡ true → MethodsRead parts (i + 1)
methods_more parts i p good r h e a g = record { same = r.same ∙ step parts i p good h e a ∙ ap (λ b. b && are_methods (plain_parts (drop (i + 1) parts))) g }

pub methods_stop : (parts : List Part) (i : ℕ) (p : Part) (good : Bool) → MethodsRead parts i → i < length parts → p ≡ get_or parts i p
    → ((behind : PlainParts) → are_methods (part_before p behind) ≡ good && are_methods behind) → good ≡ false → false ≡ are_methods (plain_parts parts)
methods_stop parts i p good r h e a g = sym (r.same ∙ step parts i p good h e a ∙ ap (λ b. b && are_methods (plain_parts (drop (i + 1) parts))) g)

pub methods_all : (parts : List Part) (i : ℕ) → MethodsRead parts i → length parts ≤ i → true ≡ are_methods (plain_parts parts)
methods_all parts i r h = sym (r.same ∙ ap (λ ps. are_methods (plain_parts ps)) (drop_all i parts h))
