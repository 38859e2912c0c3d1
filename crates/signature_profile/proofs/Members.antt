-- Methods and classes, part by part.
use Rattle.std.proofs.Common.{ℕ, ◌≡◌, ◌+◌, ◌<◌, ◌≤◌, refl, sym, ap, ◌∙◌, subst, Bool, true, false, List, [], ◌∷◌, ◌++◌, length, drop, get_or, Option, Some, None, append-nil, arith}
use Rattle.std.proofs.lemmas.List.{drop_all}
use Rattle.std.specs.Prelude.{◌↔◌, ◌||◌, slice_get, IsTrue}
use Rattle.std.specs.List.{IsDistinct, AllByRecursion}
use Rattle.names.specs.Places.{same_name, is_among}
use Rattle.sig_model.specs.declared.ty.Ty.{Ty}
use Rattle.sig_model.specs.declared.ty.Arg.{Arg}
use Rattle.sig_model.specs.declared.ty.TypeName.{TypeName}
use Rattle.sig_model.specs.declared.decl.Vis.{Vis}
use Rattle.sig_model.specs.declared.decl.MethodTy.{MethodTy}
use Rattle.sig_model.specs.declared.decl.Member.TheVariants as a_member
use Rattle.sig_model.specs.declared.decl.Decl.{Decl}
use Rattle.sig_model.specs.declared.decl.Part.{Part}
use Rattle.sig_model.specs.PlainTy as plain
use Rattle.sig_model.specs.PlainTy.{PlainFun, plain_ty, plain_tys, plain_fun, plain_args}
use Rattle.sig_model.specs.PlainMember.{plain_member}
use Rattle.sig_model.specs.PlainDecl.{PlainDecls, PlainParts, plain_decl, plain_decls, plain_parts, part_before}
use Rattle.profile_words.specs.Words.{core_classes, value_classes}
use Rattle.signature_profile.specs.Profile.{AreParameters, HasDeclared, IsDeclared, IsKnown, IsMethodName, IsParameter, IsWellNamed, HasWellNamed, result_of, classes_of, method_before, methods_of, class_names}
use Rattle.signature_profile.specs.WellNamed.{MethodsLeft, ClassesLeft, MethodsOfClasses, AdmitsPart, AdmitsDecl, AdmitsMethods}
use Rattle.signature_profile.proofs.Lists.{left_at}
use Rattle.signature_profile.proofs.Named.{left_is, all_of_map}

pub some_method : (v : Option Vis) (s : Bool) (n : List ℕ) (os : List MethodTy) (o : MethodTy) (behind : List (List ℕ × PlainFun)) → slice_get os 0 ≡ Some o
    → method_before (plain_member (a_member.Method v s n os)) behind ≡ (n, plain_fun o.fun) ∷ behind
some_method v s n [] o behind e = absurd (cc)
some_method v s n (m ∷ ms) o behind e =
    let same : m ≡ o = cc in
    ap (λ (m : MethodTy). (n, plain_fun m.fun) ∷ behind) same

pub none_method : (v : Option Vis) (s : Bool) (n : List ℕ) (os : List MethodTy) (behind : List (List ℕ × PlainFun)) → slice_get os 0 ≡ None → method_before (plain_member (a_member.Method v s n os)) behind ≡ behind
none_method v s n [] behind e = refl
none_method v s n (m ∷ ms) behind e = absurd (cc)

-- a type with arguments is declared nowhere
pub bare_declared : (classes : List (List ℕ)) (n : TypeName) (args : List Ty) → IsDeclared classes (plain.name n (plain_tys args)) → args ≡ []
bare_declared classes n [] h = refl
bare_declared classes n (t ∷ ts) h = absurd h

-- the parameters before the index are read
pub record ArgsRead (classes : List (List ℕ)) (args : List Arg) (i : ℕ) : Type 0 where
  pub same : AreParameters classes (plain_args args) ↔ AreParameters classes (plain_args (drop i args))

pub args_none : (classes : List (List ℕ)) (args : List Arg) → ArgsRead classes args 0
args_none classes args = record { same = (λ h. h, λ h. h) }

pub args_more : (classes : List (List ℕ)) (args : List Arg) (i : ℕ) (a : Arg) → ArgsRead classes args i → i < length args → a ≡ get_or args i a
    → IsParameter classes (plain_ty a.ty) → ArgsRead classes args (i + 1)
args_more classes args i a r h e p =
    let left = left_at args i a h e in
    record {
      same = (
        λ m. (subst (λ xs. AreParameters classes (plain_args xs)) left (r.same.0 m)).1,
        λ m. r.same.1 (subst (λ xs. AreParameters classes (plain_args xs)) (sym left) (p, m)),
      );
    }

pub args_stop : (classes : List (List ℕ)) (args : List Arg) (i : ℕ) (a : Arg) → ArgsRead classes args i → i < length args → a ≡ get_or args i a
    → (IsParameter classes (plain_ty a.ty) → ⊥) → AreParameters classes (plain_args args) → ⊥
args_stop classes args i a r h e f w = f (subst (λ xs. AreParameters classes (plain_args xs)) (left_at args i a h e) (r.same.0 w)).0

pub args_all : (classes : List (List ℕ)) (args : List Arg) (i : ℕ) → ArgsRead classes args i → length args ≤ i → AreParameters classes (plain_args args)
args_all classes args i r h = r.same.1 (subst (λ xs. AreParameters classes (plain_args xs)) (sym (drop_all i args h)) tt)

-- the path of one word
pub one_word : (path : List (List ℕ)) (word : List ℕ) → 1 ≤ length path → length path < 2 → word ≡ get_or path 0 word → path ≡ word ∷ []
one_word [] word h k e = absurd (omega arith)
one_word (w ∷ []) word h k e = ap (λ w. w ∷ []) (sym e)
one_word (w ∷ v ∷ rest) word h k e = absurd (omega arith)

-- the methods before the index were read
pub record PartsRead (classes : List (List ℕ)) (parts : List Part) (i : ℕ) (seen : List (List ℕ)) : Type 0 where
  pub same : MethodsLeft classes [] (methods_of (plain_parts parts)) ↔ MethodsLeft classes seen (methods_of (plain_parts (drop i parts)))

pub parts_none : (classes : List (List ℕ)) (parts : List Part) (seen : List (List ℕ)) → seen ≡ [] → PartsRead classes parts 0 seen
parts_none classes parts seen e =
    record { same = subst (λ seen. MethodsLeft classes [] (methods_of (plain_parts parts)) ↔ MethodsLeft classes seen (methods_of (plain_parts parts))) (sym e) (λ h. h, λ h. h) }

pub parts_more : (classes seen now : List (List ℕ)) (parts : List Part) (i : ℕ) (p : Part) → PartsRead classes parts i seen → i < length parts → p ≡ get_or parts i p
    → AdmitsPart classes seen now (part_before p) true → PartsRead classes parts (i + 1) now
parts_more classes seen now parts i p r h e a =
    let left = left_at parts i p h e in
    let step = a (plain_parts (drop (i + 1) parts)) in
    record {
      same = (
        λ m. step.0 (subst (λ ps. MethodsLeft classes seen (methods_of (plain_parts ps))) left (r.same.0 m)),
        λ m. r.same.1 (subst (λ ps. MethodsLeft classes seen (methods_of (plain_parts ps))) (sym left) (step.1 m)),
      );
    }

pub methods_named : (classes : List (List ℕ)) (ms : List (List ℕ × PlainFun)) → MethodsLeft classes [] ms ↔ HasWellNamed classes ms
methods_named classes ms =
    let l = left_is (λ (m : List ℕ × PlainFun). m.0) (λ m. IsMethodName m.0 (result_of m.1) × HasDeclared classes m.1) ms in
    (λ h. record { once = (l.0 h).0; each = (l.0 h).1 }, λ h. l.1 (h.once, h.each))

pub parts_stop : (classes seen now : List (List ℕ)) (parts : List Part) (i : ℕ) (p : Part) → PartsRead classes parts i seen → i < length parts → p ≡ get_or parts i p
    → AdmitsPart classes seen now (part_before p) false → HasWellNamed classes (methods_of (plain_parts parts)) → ⊥
parts_stop classes seen now parts i p r h e a w =
    a (plain_parts (drop (i + 1) parts))
    (subst (λ ps. MethodsLeft classes seen (methods_of (plain_parts ps))) (left_at parts i p h e) (r.same.0 ((methods_named classes (methods_of (plain_parts parts))).1 w)))

pub parts_all : (classes seen : List (List ℕ)) (parts : List Part) (i : ℕ) → PartsRead classes parts i seen → length parts ≤ i → HasWellNamed classes (methods_of (plain_parts parts))
parts_all classes seen parts i r h =
    (methods_named classes (methods_of (plain_parts parts))).0
    (r.same.1 (subst (λ ps. MethodsLeft classes seen (methods_of (plain_parts ps))) (sym (drop_all i parts h)) tt))

-- the classes before the index were read
pub record DeclsRead (decls : List Decl) (i : ℕ) (seen : List (List ℕ)) : Type 0 where
  pub same : ClassesLeft [] (classes_of (plain_decls decls)) ↔ ClassesLeft seen (classes_of (plain_decls (drop i decls)))
  pub names : class_names (plain_decls decls) ≡ seen ++ class_names (plain_decls (drop i decls))

pub decls_none : (decls : List Decl) (seen : List (List ℕ)) → seen ≡ [] → DeclsRead decls 0 seen
decls_none decls seen e = subst (λ seen. DeclsRead decls 0 seen) (sym e) (record { same = (λ h. h, λ h. h); names = refl })

pub decls_more : (seen now : List (List ℕ)) (decls : List Decl) (i : ℕ) (d : Decl) → DeclsRead decls i seen → i < length decls → d ≡ get_or decls i d
    → AdmitsDecl seen now (plain_decl d) true → DeclsRead decls (i + 1) now
decls_more seen now decls i d r h e a =
    let left = left_at decls i d h e in
    let step = a (plain_decls (drop (i + 1) decls)) in
    record {
      same = (
        λ m. step.0.0 (subst (λ ds. ClassesLeft seen (classes_of (plain_decls ds))) left (r.same.0 m)),
        λ m. r.same.1 (subst (λ ds. ClassesLeft seen (classes_of (plain_decls ds))) (sym left) (step.0.1 m)),
      );
      names = r.names ∙ ap (λ ds. seen ++ class_names (plain_decls ds)) left ∙ step.1;
    }

pub decls_stop : (seen now : List (List ℕ)) (decls : List Decl) (i : ℕ) (d : Decl) → DeclsRead decls i seen → i < length decls → d ≡ get_or decls i d
    → AdmitsDecl seen now (plain_decl d) false → ClassesLeft [] (classes_of (plain_decls decls)) → ⊥
decls_stop seen now decls i d r h e a w =
    a (plain_decls (drop (i + 1) decls)) (subst (λ ds. ClassesLeft seen (classes_of (plain_decls ds))) (left_at decls i d h e) (r.same.0 w))

pub decls_all : (seen : List (List ℕ)) (decls : List Decl) (i : ℕ) → DeclsRead decls i seen → length decls ≤ i
    → ClassesLeft [] (classes_of (plain_decls decls)) × (seen ≡ class_names (plain_decls decls))
decls_all seen decls i r h =
    let end = drop_all i decls h in (
      r.same.1 (subst (λ ds. ClassesLeft seen (classes_of (plain_decls ds))) (sym end) tt),
      sym (r.names ∙ ap (λ ds. seen ++ class_names (plain_decls ds)) end ∙ append-nil seen),
    )

-- the methods of the classes before the index are well named
pub record ClassesRead (classes : List (List ℕ)) (decls : List Decl) (i : ℕ) : Type 0 where
  pub same : MethodsOfClasses classes (classes_of (plain_decls decls)) ↔ MethodsOfClasses classes (classes_of (plain_decls (drop i decls)))

pub classes_none : (classes : List (List ℕ)) (decls : List Decl) → ClassesRead classes decls 0
classes_none classes decls = record { same = (λ h. h, λ h. h) }

pub classes_more : (classes : List (List ℕ)) (decls : List Decl) (i : ℕ) (d : Decl) → ClassesRead classes decls i → i < length decls → d ≡ get_or decls i d
    → AdmitsMethods classes (plain_decl d) true → ClassesRead classes decls (i + 1)
classes_more classes decls i d r h e a =
    let left = left_at decls i d h e in
    let step = a (plain_decls (drop (i + 1) decls)) in
    record {
      same = (
        λ m. step.0 (subst (λ ds. MethodsOfClasses classes (classes_of (plain_decls ds))) left (r.same.0 m)),
        λ m. r.same.1 (subst (λ ds. MethodsOfClasses classes (classes_of (plain_decls ds))) (sym left) (step.1 m)),
      );
    }

pub classes_stop : (classes : List (List ℕ)) (decls : List Decl) (i : ℕ) (d : Decl) → ClassesRead classes decls i → i < length decls → d ≡ get_or decls i d
    → AdmitsMethods classes (plain_decl d) false → MethodsOfClasses classes (classes_of (plain_decls decls)) → ⊥
classes_stop classes decls i d r h e a w =
    a (plain_decls (drop (i + 1) decls)) (subst (λ ds. MethodsOfClasses classes (classes_of (plain_decls ds))) (left_at decls i d h e) (r.same.0 w))

pub classes_all : (classes : List (List ℕ)) (decls : List Decl) (i : ℕ) → ClassesRead classes decls i → length decls ≤ i → MethodsOfClasses classes (classes_of (plain_decls decls))
classes_all classes decls i r h = r.same.1 (subst (λ ds. MethodsOfClasses classes (classes_of (plain_decls ds))) (sym (drop_all i decls h)) tt)

pub classes_named : (ds : PlainDecls) → ClassesLeft [] (classes_of ds) ↔ (IsDistinct same_name (class_names ds) × AllByRecursion (λ n. is_among n core_classes ≡ false) (class_names ds))
classes_named ds =
    let l = left_is (λ (c : List ℕ × PlainParts). c.0) (λ c. is_among c.0 core_classes ≡ false) (classes_of ds) in
    let m = all_of_map (λ n. is_among n core_classes ≡ false) (λ (c : List ℕ × PlainParts). c.0) (classes_of ds) in
    (λ h. ((l.0 h).0, m.1 (l.0 h).1), λ h. l.1 (h.0, m.0 h.1))

-- the names of classes and the methods of each
pub well_named_is : (classes : List (List ℕ)) (ds : PlainDecls) → ClassesLeft [] (classes_of ds) → classes ≡ class_names ds → MethodsOfClasses classes (classes_of ds) ↔ IsWellNamed ds
well_named_is classes ds l c =
    let n = (classes_named ds).0 l in (
      λ m. record { classes_once = n.0; classes_own = n.1; methods = subst (λ names. MethodsOfClasses names (classes_of ds)) c m },
      λ w. subst (λ names. MethodsOfClasses names (classes_of ds)) (sym c) w.methods,
    )

-- no classes that are well named where the names aren't
pub classes_refused : (ds : PlainDecls) → (ClassesLeft [] (classes_of ds) → ⊥) → IsWellNamed ds → ⊥
classes_refused ds f w = f ((classes_named ds).1 (w.classes_once, w.classes_own))

-- a name of one word is known where it is a class of the file
pub known_word : (classes : List (List ℕ)) (rooted : Bool) (path : List (List ℕ)) (word : List ℕ) (found : Bool) → rooted ≡ false → path ≡ word ∷ [] → is_among word value_classes ≡ false → found ≡ is_among word classes
    → IsTrue found ↔ IsKnown classes rooted path
known_word classes rooted path word found r p n f =
    let whole : (is_among word value_classes || is_among word classes) ≡ found = ap (λ b. b || is_among word classes) n ∙ sym f in
    subst (λ (path : List (List ℕ)). IsTrue found ↔ IsKnown classes rooted path) (sym p)
    (subst (λ (rooted : Bool). IsTrue found ↔ IsKnown classes rooted (word ∷ [])) (sym r) (λ h. whole ∙ h, λ h. sym whole ∙ h))
