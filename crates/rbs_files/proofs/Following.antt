-- What follows, by the keyword or the mark that is next and by what stands before it.
use Rattle.std.proofs.Common.{ℕ, ◌≡◌, ◌&&◌, refl, ◌∙◌, ap, Bool, true, false, List, [], ◌∷◌, Option, Some, None}
use Rattle.rbs_terminals.specs.declared.token.Token.{Token}
use Rattle.rbs_terminals.specs.declared.token.Spot.{Spot}
use Rattle.rbs_terminals.specs.declared.token.Mark.{Mark}
use Rattle.rbs_terminals.specs.declared.token.Keyword.{Keyword}
use Rattle.rbs_terminals.specs.declared.token.Kind.{Kind}
use Rattle.rbs_terminals.specs.declared.token.Kind.TheVariants as kind
use Rattle.rbs_terminals.specs.Sorts.{sort_of, next_before}
use Rattle.rbs_types.specs.Symbols.{on_line}
use Rattle.rbs_declarations.specs.declared.operators.Operator.{Operator}
use Rattle.rbs_declarations.specs.Operators.{extended}
use Rattle.rbs_declarations.specs.Words.{is_joined, extended_at, extension, takes_vis, vis_belongs, variance_of, end_at}
use Rattle.rbs_phrases.specs.Fronts.{Front, whole}
use Rattle.rbs_phrases.specs.Ahead.{mark_of, keyword_of, next_mark, next_keyword}
use Rattle.rbs_files.specs.Behind.{mark_if, mark_at, joined_mark, joined_next}
use Rattle.rbs_files.specs.Parameters.{variance_at, variance_next}

clash : {X : Type 0} (x : X) → Some x ≡ None → ⊥
clash x e = cc

-- ---- keywords

variance_is : (x : Kind) (k : Keyword) → keyword_of (Some (sort_of x)) ≡ Some k → variance_at x ≡ variance_of k
variance_is (kind.Keyword n) k e = ap variance_of (cc)
variance_is _ k e = absurd (cc)

pub variance_found : (ts : List Token) (k : Keyword) → next_keyword ts ≡ Some k → variance_next ts ≡ variance_of k
variance_found [] k e = absurd (cc)
variance_found (c ∷ ts) k e = variance_is c.kind k e

no_variance_is : (x : Kind) → keyword_of (Some (sort_of x)) ≡ None → variance_at x ≡ None
no_variance_is (kind.Keyword n) e = absurd (clash n e)
no_variance_is _ e = refl

pub no_variance : (ts : List Token) → next_keyword ts ≡ None → variance_next ts ≡ None
no_variance [] e = refl
no_variance (c ∷ ts) e = no_variance_is c.kind e

and_false : (b : Bool) → (b && false) ≡ false
and_false true = refl
and_false false = refl

no_vis_is : (x : Kind) → keyword_of (Some (sort_of x)) ≡ None → takes_vis x ≡ false
no_vis_is (kind.Keyword n) e = absurd (clash n e)
no_vis_is _ e = refl

pub no_vis : (ts : List Token) → next_keyword ts ≡ None → vis_belongs ts ≡ false
no_vis [] e = refl
no_vis (c ∷ ts) e = ap (λ b. on_line c.spot && b) (no_vis_is c.kind e) ∙ and_false (on_line c.spot)

-- ---- marks directly behind the terminal before them

joined_is : (x : Kind) (s : Spot) → is_joined s ≡ true → mark_at x s ≡ mark_of (Some (sort_of x))
joined_is (kind.Mark m) s e = ap (λ b. mark_if b m) e
joined_is _ s e = refl

pub joined_found : (ts : List Token) → joined_next ts ≡ true → joined_mark ts ≡ next_mark ts
joined_found [] e = refl
joined_found (c ∷ ts) e = joined_is c.kind c.spot e

apart_is : (x : Kind) (s : Spot) → is_joined s ≡ false → mark_at x s ≡ None
apart_is (kind.Mark m) s e = ap (λ b. mark_if b m) e
apart_is _ s e = refl

pub no_joined : (ts : List Token) → joined_next ts ≡ false → joined_mark ts ≡ None
no_joined [] e = refl
no_joined (c ∷ ts) e = apart_is c.kind c.spot e

-- what an operator becomes by a mark that may be next
abbrev pub extended_by : Operator → Option Mark → Option Operator
extended_by o None = None
extended_by o (Some m) = extended o m

extends_mark : (o : Operator) (m : Mark) (s : Spot) (b : Bool) → is_joined s ≡ b → extended_at o (kind.Mark m) s ≡ extended_by o (mark_if b m)
extends_mark o m s true e = rw e refl
extends_mark o m s false e = rw e refl

extends_is : (o : Operator) (x : Kind) (s : Spot) → extended_at o x s ≡ extended_by o (mark_at x s)
extends_is o (kind.Mark m) s = extends_mark o m s (is_joined s) refl
extends_is o _ s = refl

pub extension_is : (o : Operator) (ts : List Token) → extension o ts ≡ extended_by o (joined_mark ts)
extension_is o [] = refl
extension_is o (c ∷ ts) = extends_is o c.kind c.spot

-- ---- ends

pub end_before : (last e : ℕ) (ts : List Token) → next_before ts ≡ Some e → e ≡ end_at last ts
end_before last e [] f = absurd (cc)
end_before last e (c ∷ ts) f = cc

none_before : (ts : List Token) → next_before ts ≡ None → ts ≡ []
none_before [] f = refl
none_before (c ∷ ts) f = absurd (clash c.spot.before f)

-- behind the last terminal
pub end_of_text : (f : Front) → next_before f.rest ≡ None → f.end ≡ end_at (whole f).last f.rest
end_of_text f e = of_rest f.rest (none_before f.rest e)
  where
    of_rest : (ts : List Token) → ts ≡ [] → f.end ≡ end_at (whole (record { rest = ts; end = f.end; opened = f.opened })).last ts
    of_rest ts e = rw e refl
