-- Names that were read.
use Rattle.std.proofs.Common.{◌≡◌, refl, sym, ◌∙◌, ap, subst, true, false, ◌&&◌, List, ◌∷◌}
use Rattle.rbs_terminals.specs.declared.token.Token.{Token}
use Rattle.rbs_terminals.specs.declared.token.Spot.{Spot}
use Rattle.rbs_terminals.specs.declared.token.Kind.{Kind}
use Rattle.rbs_terminals.specs.declared.token.Kind.TheVariants as kind
use Rattle.rbs_terminals.specs.declared.token.Mark.TheVariants as mark
use Rattle.sig_model.specs.declared.ty.TypeName.{TypeName}
use Rattle.rbs_types.specs.Symbols.{token, sign, on_line, scope_at, scope_follows}
use Rattle.rbs_types.specs.Parts.{grown, root}
use Rattle.rbs_types.specs.Grammar.{Use, Words, capital, interface, small, outer, Name, rooted}
use Rattle.rbs_phrases.specs.Uses.{is_upper, Ends}

-- with its last word
pub last_word : {u : Use} {n m : TypeName} {rest : List Token} (k : Kind) → Ends u n k m → (is_upper k && scope_follows rest) ≡ false → (s : Spot) → Words u n m (token k s ∷ rest) rest
last_word {u = u} {n = n} {rest = rest} (kind.Upper w) e f s = subst (λ m. Words u n m (token (kind.Upper w) s ∷ rest) rest) (sym e.1) (capital w s e.0 f)
last_word {u = u} {n = n} {rest = rest} (kind.Interface w) e f s = subst (λ m. Words u n m (token (kind.Interface w) s ∷ rest) rest) (sym e.1) (interface w s e.0)
last_word {u = u} {n = n} {rest = rest} (kind.Lower w) e f s = subst (λ m. Words u n m (token (kind.Lower w) s ∷ rest) rest) (sym e.1) (small w s e.0)
last_word _ e f s = absurd e

-- a `::` that follows is one on the line
scope_is : (k : Kind) (s : Spot) → scope_at k s ≡ true → (k ≡ kind.Mark mark.Scope) × (on_line s ≡ true)
scope_is (kind.Mark mark.Scope) s e = (refl, e)
scope_is _ s e = absurd (cc)

-- with one more word, and what is left behind the `::`
pub outer_word : {u : Use} {n m : TypeName} {rest : List Token} (w : List _) (ts : List Token) (c : Token) (mid : List Token)
    → scope_follows ts ≡ true → ts ≡ c ∷ mid → Words u (grown n w) m mid rest → (s : Spot) → Words u n m (token (kind.Upper w) s ∷ ts) rest
outer_word {u = u} {n = n} {m = m} {rest = rest} w ts c mid f e h s =
    let is = scope_is c.kind c.spot (subst (λ ts. scope_follows ts ≡ true) e f) in
    let same : c ∷ mid ≡ sign mark.Scope c.spot ∷ mid = ap (λ k. token k c.spot ∷ mid) is.0 in
    subst (λ ts. Words u n m (token (kind.Upper w) s ∷ ts) rest) (sym (e ∙ same)) (outer w s c.spot is.1 h)

pub rooted_name : {u : Use} {n : TypeName} {ts rest : List Token} (k : Kind) → k ≡ kind.Mark mark.Scope → Words u root n ts rest → (s : Spot) → Name u n (token k s ∷ ts) rest
rooted_name {u = u} {n = n} {ts = ts} {rest = rest} k e h s = subst (λ k. Name u n (token k s ∷ ts) rest) (sym e) (rooted s h)
