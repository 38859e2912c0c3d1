-- The heights of lists with one more, and of a declaration with its parts.
use Rattle.std.proofs.Common.{ℕ, max, ◌-◌, ◌≤◌, ◌≡◌, refl, List, [], ◌∷◌, ◌++◌, Option, Some, None, arith}
use Rattle.sig_model.specs.declared.place.Place.{Place}
use Rattle.sig_model.specs.declared.decl.Notes.{Notes}
use Rattle.sig_model.specs.PlainTy as plain
use Rattle.sig_model.specs.PlainTy.{PlainTy}
use Rattle.sig_model.specs.Height.{height}
use Rattle.sig_model.specs.PlainMember.{PlainParam, PlainMethod, PlainMember}
use Rattle.sig_model.specs.PlainDecl as decl
use Rattle.sig_model.specs.PlainDecl.{PlainDecl, PlainParts, PlainDecls, append_parts}
use Rattle.rbs_declarations.specs.declared.state.Heading.{Heading}
use Rattle.rbs_declarations.specs.declared.state.Heading.TheVariants as heading
use Rattle.rbs_declarations.specs.declared.state.Purpose.{Purpose}
use Rattle.rbs_declarations.specs.declared.state.Purpose.TheVariants as purpose
use Rattle.rbs_declarations.specs.Grammar.{and_inner, and_member, and_decl}
use Rattle.rbs_declarations.specs.Machine.{body_of, and_overload}
use Rattle.rbs_declarations.specs.Heights.{option_height, params_height, methods_height, member_height, body_height, decl_height, parts_height, decls_height}
use Rattle.rbs_declarations.specs.Needs.{heading_height, phrase_height}

-- ---- lists with one more

pub params_and : (ps : List PlainParam) (p : PlainParam) → params_height (ps ++ p ∷ []) ≡ max (params_height ps) (option_height p.bound)
params_and [] p = omega arith
params_and (q ∷ ps) p = omega (arith, params_and ps p)

pub methods_and : (ms : List PlainMethod) (m : PlainMethod) → methods_height (ms ++ m ∷ []) ≡ max (methods_height ms) (methods_height (m ∷ []))
methods_and [] m = omega arith
methods_and (l ∷ ms) m = omega (arith, methods_and ms m)

parts_append : (ps qs : PlainParts) → parts_height (append_parts ps qs) ≡ max (parts_height ps) (parts_height qs)
parts_append decl.no_parts qs = omega arith
parts_append (decl.inner d ps) qs = omega (arith, parts_append ps qs)
parts_append (decl.member p n m ps) qs = omega (arith, parts_append ps qs)

pub inner_and : (ps : PlainParts) (d : PlainDecl) → parts_height (and_inner ps d) ≡ max (parts_height ps) (decl_height d)
inner_and ps d = omega (arith, parts_append ps (decl.inner d decl.no_parts))

pub member_and : (ps : PlainParts) (p : Place) (n : Notes) (m : PlainMember) → parts_height (and_member ps p n m) ≡ max (parts_height ps) (member_height m)
member_and ps p n m = omega (arith, parts_append ps (decl.member p n m decl.no_parts))

pub decls_and : (ds : PlainDecls) (d : PlainDecl) → decls_height (and_decl ds d) ≡ max (decls_height ds) (decl_height d)
decls_and decl.no_decls d = omega arith
decls_and (decl.more_decls c ds) d = omega (arith, decls_and ds d)

-- ---- wholes

pub body_of_height : (h : Heading) (ps : PlainParts) → body_height (body_of h ps) ≡ max (heading_height h) (parts_height ps)
body_of_height (heading.Class n qs t) ps = refl
body_of_height (heading.Module n qs us) ps = refl
body_of_height (heading.Interface n qs) ps = refl

-- the overloads with one more, where there are such, have this height
abbrev pub AreHigh : ℕ → Option (List PlainMethod) → Type 0
AreHigh n None = Unit {0}
AreHigh n (Some ms) = n ≡ methods_height ms

pub overload_and : (done : List PlainMethod) (ps : List PlainParam) (t : PlainTy) → AreHigh (max (max (methods_height done) (params_height ps)) (height t - 1)) (and_overload done ps t)
overload_and done ps (plain.fun f) = omega (arith, methods_and done (record { params = ps; fun = f }))
overload_and done ps _ = tt

-- a phrase is as high at least where its tree is higher
pub phrase_mono : (p : Purpose) (a b : ℕ) → a ≤ b → phrase_height p a ≤ phrase_height p b
phrase_mono (purpose.Overload sig done ps) a b h = omega arith
phrase_mono (purpose.Alias begun n ps) a b h = h
phrase_mono (purpose.Constant begun n) a b h = h
phrase_mono (purpose.Attribute begun v k n) a b h = h
phrase_mono (purpose.Variable begun single n) a b h = h
phrase_mono (purpose.Parent begun n ps) a b h = h
phrase_mono (purpose.SelfType begun n ps us) a b h = h
phrase_mono (purpose.Mixin begun m) a b h = h
phrase_mono (purpose.Bound o done p) a b h = h
