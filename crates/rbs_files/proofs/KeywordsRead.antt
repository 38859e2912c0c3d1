-- Keywords that were read, or weren't.
use Rattle.std.proofs.Common.{ℕ, ◌≡◌, ◌∙◌, ap, subst, Bool, true, false, List, [], ◌∷◌, Some}
use Rattle.rbs_terminals.specs.declared.token.Token.{Token}
use Rattle.rbs_terminals.specs.declared.token.Keyword.{Keyword}
use Rattle.rbs_terminals.specs.declared.token.Kind.{Kind}
use Rattle.rbs_terminals.specs.declared.token.Kind.TheVariants as kind
use Rattle.rbs_types.specs.Symbols.{token}
use Rattle.rbs_terminals.specs.Sorts.{sort_of}
use Rattle.rbs_phrases.specs.Ahead.{keyword_of, next_keyword}
use Rattle.rbs_files.specs.Keywords.{Worded, WordedTo, IsWordNext, SkipsWord}

keyword_is : (k : Keyword) (x : Kind) → keyword_of (Some (sort_of x)) ≡ Some k → x ≡ kind.Keyword k
keyword_is k (kind.Keyword n) e = cc
keyword_is k _ e = absurd (cc)

pub found_next : (k : Keyword) (ts : List Token) → next_keyword ts ≡ Some k → IsWordNext k ts
found_next k [] e = absurd (cc)
found_next k (c ∷ ts) e = keyword_is k c.kind e

pub next_found : (k : Keyword) (ts : List Token) → IsWordNext k ts → next_keyword ts ≡ Some k
next_found k [] h = absurd h
next_found k (c ∷ ts) h = ap (λ x. keyword_of (Some (sort_of x))) h

-- the keyword that stands next was taken
pub worded : (k : Keyword) (ts : List Token) (c : Token) (rest : List Token) → ts ≡ c ∷ rest → IsWordNext k ts → Worded k ts rest
worded k ts c rest e h = (c.spot, e ∙ ap (λ k. token k c.spot ∷ rest) (subst (λ ts. IsWordNext k ts) e h))

-- so too, and it ends there
pub worded_to : (k : Keyword) (e : ℕ) (ts : List Token) (c : Token) (rest : List Token) → ts ≡ c ∷ rest → e ≡ c.spot.end → IsWordNext k ts → WordedTo k e ts rest
worded_to k e ts c rest f stop h = (c.spot, f ∙ ap (λ k. token k c.spot ∷ rest) (subst (λ ts. IsWordNext k ts) f h), stop)

module _ (k : Keyword) (ts rest : List Token) where
  pub word_taken : (b : Bool) → b ≡ true → SkipsWord k b ts rest → Worded k ts rest
  word_taken true e h = h
  word_taken false e h = absurd (cc)

  pub no_word : (b : Bool) → b ≡ false → SkipsWord k b ts rest → ts ≡ rest
  no_word false e h = h.0
  no_word true e h = absurd (cc)
