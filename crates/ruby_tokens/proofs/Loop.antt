-- The lexer's loop over the characters.
use Rattle.std.proofs.Common.{ℕ, suc, ◌≡◌, ◌+◌, ◌<◌, ◌≤◌, sym, ◌∙◌, ap, subst, List, [], ◌∷◌, length, drop, get_or, Option, Some, None, arith, Result, Err, add-one, drop-cons}
use Rattle.std.specs.Char.{encode_utf8}
use Rattle.std.proofs.lemmas.Str.{length-encode, len_utf8_bounds}
use Rattle.source_text.specs.Characters.{width}
use Rattle.ruby_tokens.specs.declared.token.Token.{Token}
use Rattle.ruby_tokens.specs.declared.mode.Lexer.{Lexer}
use Rattle.ruby_tokens.specs.declared.refused.Refused.{Refused}
use Rattle.ruby_tokens.specs.Machine.{step, ends}
use Rattle.ruby_tokens.specs.Reads.{reads}
use Rattle.ruby_tokens.specs.declared.refused.Refused.TheVariants.{NoToken, NoMemory}
use Rattle.ruby_tokens.specs.Does.{Does, Ends}
use Rattle.ruby_tokens.proofs.Characters.{width_more}
use Rattle.ruby_tokens.proofs.Runs.{goes}

pub here : (cs : List ℕ) (i c : ℕ) → i < length cs → c ≡ get_or cs i c → drop i cs ≡ c ∷ drop (i + 1) cs
here cs i c l e = rw (add-one, drop-cons cs i c) (ap (λ d. d ∷ drop (suc i) cs) (sym e))

pub place_more : (cs : List ℕ) (i c at size : ℕ) → i < length cs → c ≡ get_or cs i c → at + width (drop i cs) ≡ size → (at + length (encode_utf8 c)) + width (drop (i + 1) cs) ≡ size
place_more cs i c at size l e f = omega (arith, f, ap width (here cs i c l e), width_more c (drop (i + 1) cs))

pub room : (cs : List ℕ) (i c at size : ℕ) → i < length cs → c ≡ get_or cs i c → at + width (drop i cs) ≡ size → at + 1 ≤ size
room cs i c at size l e f = omega (arith, place_more cs i c at size l e f, length-encode c, (len_utf8_bounds c).0)

pub run_more : (cs : List ℕ) (i c at : ℕ) (l m : Lexer) (r : Option (List Token)) → i < length cs → c ≡ get_or cs i c → reads l at (drop i cs) ≡ r → step l.tokens l.mode at c ≡ Some m
    → reads m (at + length (encode_utf8 c)) (drop (i + 1) cs) ≡ r
run_more cs i c at l m r lt e f s = sym (goes l m at c (drop (i + 1) cs) s) ∙ ap (λ w. reads l at w) (sym (here cs i c lt e)) ∙ f

stuck : (l : Lexer) (at c : ℕ) (cs : List ℕ) → step l.tokens l.mode at c ≡ None → reads l at (c ∷ cs) ≡ None
unfolding reads
stuck l at c cs e = rw e

pub run_none : (cs : List ℕ) (i c at : ℕ) (l : Lexer) (r : Option (List Token)) → i < length cs → c ≡ get_or cs i c → reads l at (drop i cs) ≡ r → step l.tokens l.mode at c ≡ None → r ≡ None
run_none cs i c at l r lt e f s = sym f ∙ ap (λ w. reads l at w) (here cs i c lt e) ∙ stuck l at c (drop (i + 1) cs) s

pub run_end : (cs : List ℕ) (at : ℕ) (l : Lexer) (r : Option (List Token)) (result : Result (List Token) Refused) → cs ≡ [] → reads l at cs ≡ r → Ends (ends l.tokens l.mode at) result → Ends r result
unfolding reads
run_end cs at l r result e f h = subst (λ o. Ends o result) (ap (λ w. reads l at w) (sym e) ∙ f) h

-- where no state follows
pub refuse : (o : Option Lexer) (r : Option (List Token)) (e : Refused) → (o ≡ None → r ≡ None) → Does o (Err e) → Ends r (Err e)
refuse o r NoToken n d = n d
refuse o r NoMemory n d = tt
