-- Type parameters that were read.
use Rattle.std.proofs.Common.{ℕ, ◌≡◌, ◌≤◌, ◌<◌, ◌-◌, sym, subst, Bool, true, false, List, [], ◌∷◌, ◌++◌, Option, Some, None, arith}
use Rattle.rbs_terminals.specs.declared.token.Token.{Token}
use Rattle.rbs_terminals.specs.declared.token.Spot.{Spot}
use Rattle.rbs_terminals.specs.declared.token.Mark.TheVariants as mark
use Rattle.rbs_terminals.specs.declared.token.Keyword.TheVariants as keyword
use Rattle.rbs_terminals.specs.declared.token.Kind.{Kind}
use Rattle.rbs_terminals.specs.declared.token.Kind.TheVariants as kind
use Rattle.sig_model.specs.declared.ty.TypeName.{TypeName}
use Rattle.sig_model.specs.declared.decl.Variance.{Variance}
use Rattle.sig_model.specs.PlainTy as plain
use Rattle.sig_model.specs.PlainTy.{PlainTy}
use Rattle.sig_model.specs.PlainMember.{PlainParam}
use Rattle.rbs_types.specs.Symbols.{token}
use Rattle.rbs_types.specs.Grammar.{Name, of_class, of_class_or_interface}
use Rattle.rbs_phrases.specs.Fronts.{Marked}
use Rattle.rbs_declarations.specs.Grammar.{Unchecked, checked, unchecked, Varied, varied, unbound, bound, bound_single, param, is_new_param, last_param, more_params, no_params, params}
use Rattle.rbs_declarations.specs.Heights.{params_height}
use Rattle.rbs_files.specs.Within.{IsApplied, IsParams}
use Rattle.rbs_files.specs.Keywords.{Worded, SkipsWord}
use Rattle.rbs_files.specs.Parameters.{variance_at, variance_next, IsBound, IsParam, Lengthens}

varied_at : {rest : List Token} (v : Variance) (k : Kind) (s : Spot) → Some v ≡ variance_at k → Varied v (token k s ∷ rest) rest
varied_at v (kind.Keyword k) s e = varied k v s (sym e)
varied_at v _ s e = absurd (cc)

-- the variance that stands next was taken
pub variance_taken : (v : Variance) (ts : List Token) (c : Token) (rest : List Token) → Some v ≡ variance_next ts → ts ≡ c ∷ rest → Varied v ts rest
variance_taken v ts c rest e next = subst (λ ts. Varied v ts rest) (sym next) (varied_at v c.kind c.spot (subst (λ ts. Some v ≡ variance_next ts) next e))

pub unbounded : (room : ℕ) (ts rest : List Token) → ts ≡ rest → IsBound room None ts rest
unbounded room ts rest e = subst (λ ts. IsBound room None ts rest) (sym e) (unbound, omega arith, omega arith)

pub bounded : (room : ℕ) (t : PlainTy) (ts mid rest : List Token) → Marked mark.Less ts mid → IsApplied room of_class_or_interface t mid rest → IsBound room (Some t) ts rest
bounded room t ts mid rest less h =
    let (d, low, high) = h in
    subst (λ ts. IsBound room (Some t) ts rest) (sym less.1) (bound less.0 d, low, high)

pub bounded_single : (room : ℕ) (n : TypeName) (ts a b c d rest : List Token) → 0 < room → Marked mark.Less ts a → Worded keyword.Singleton a b
    → Marked mark.Open b c → Name of_class n c d → Marked mark.Close d rest → IsBound room (Some (plain.single n)) ts rest
bounded_single room n ts a b c d rest more less singleton opening h closing =
    let named : Name of_class n c (token (kind.Mark mark.Close) closing.0 ∷ rest) = subst (λ d. Name of_class n c d) closing.1 h in
    let whole : IsBound room (Some (plain.single n)) (token (kind.Mark mark.Less) less.0 ∷ token (kind.Keyword keyword.Singleton) singleton.0 ∷ token (kind.Mark mark.Open) opening.0 ∷ c) rest
    = (bound_single less.0 singleton.0 opening.0 closing.0 named, more, omega arith) in
    let same : ts ≡ token (kind.Mark mark.Less) less.0 ∷ token (kind.Keyword keyword.Singleton) singleton.0 ∷ token (kind.Mark mark.Open) opening.0 ∷ c = cc (less.1, singleton.1, opening.1) in
    subst (λ ts. IsBound room (Some (plain.single n)) ts rest) (sym same) whole

unchecked_is : (u : Bool) (ts rest : List Token) → SkipsWord keyword.Unchecked u ts rest → Unchecked u ts rest
unchecked_is true ts rest h = subst (λ ts. Unchecked true ts rest) (sym h.1) (unchecked h.0)
unchecked_is false ts rest h = subst (λ ts. Unchecked false ts rest) (sym h.0) checked

pub one_param : (room : ℕ) (before : List PlainParam) (w : List ℕ) (u : Bool) (v : Variance) (b : Option PlainTy) (ts mid mid' mid'' rest : List Token)
    → is_new_param w before ≡ true → SkipsWord keyword.Unchecked u ts mid → Varied v mid mid' → (s : Spot) → mid' ≡ token (kind.Upper w) s ∷ mid'' → IsBound room b mid'' rest
    → IsParam room before (record { name = w; unchecked = u; variance = v; bound = b }) ts rest
one_param room before w u v b ts mid mid' mid'' rest new h d s e k =
    let (l, low, high) = k in
    (new, param w s (unchecked_is u ts mid h) (subst (λ mid'. Varied v mid mid') e d) l, low, high)

pub more_follow : (room : ℕ) (before all : List PlainParam) (p : PlainParam) (ts mid mid' rest : List Token) → IsParam room before p ts mid → Marked mark.Comma mid mid'
    → Lengthens room (before ++ p ∷ []) all mid' rest → Lengthens room before all ts rest
more_follow room before all p ts mid mid' rest h comma further =
    let (new, d, low, high) = subst (λ mid. IsParam room before p ts mid) comma.1 h in
    let (l, most) = further in
    (more_params comma.0 new d l, omega (arith, low, most))

pub none_follows : (room : ℕ) (before : List PlainParam) (p : PlainParam) (ts rest : List Token) → IsParam room before p ts rest → Lengthens room before (before ++ p ∷ []) ts rest
none_follows room before p ts rest h =
    let (new, d, low, high) = h in
    (last_param new d, low)

pub unparameterized : (room : ℕ) (ts rest : List Token) → ts ≡ rest → IsParams room [] ts rest
unparameterized room ts rest e = subst (λ ts. IsParams room [] ts rest) (sym e) (no_params, omega arith, omega arith)

pub parameterized : (room : ℕ) (ps : List PlainParam) (ts a b rest : List Token) → 0 < room → Marked mark.OpenSquare ts a
    → Lengthens (room - 1) [] ps a b → params_height ps ≤ 200 → Marked mark.CloseSquare b rest → IsParams room ps ts rest
parameterized room ps ts a b rest more opening h high closing =
    let (l, most) = subst (λ b. Lengthens (room - 1) [] ps a b) closing.1 h in
    subst (λ ts. IsParams room ps ts rest) (sym opening.1) (params opening.0 closing.0 l, omega (arith, more, most), high)
