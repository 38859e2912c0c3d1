-- What the lexer reads has a division with the same tokens.
use Rattle.std.proofs.Common.{ℕ, ◌≡◌, ◌+◌, Bool, true, false, refl, sym, ◌∙◌, ap, subst, List, [], ◌∷◌, ◌++◌, length, Option, Some, None}
use Rattle.std.specs.Prelude.{if◌then◌else◌, option_and_then, pos}
use Rattle.std.specs.Char.{encode_utf8}
use Rattle.std.proofs.lemmas.List.{append-nil}
use Rattle.std.proofs.Math.Nat.{add-zero}
use Rattle.names.specs.Places.{is_among}
use Rattle.source_text.specs.Characters.{run_ends}
use Rattle.ruby_tokens.specs.declared.token.Token.{Token}
use Rattle.ruby_tokens.specs.declared.token.Kind.{Kind}
use Rattle.ruby_tokens.specs.declared.token.Kind.TheVariants as kind
use Rattle.ruby_tokens.specs.declared.mode.Mode.{Mode}
use Rattle.ruby_tokens.specs.declared.mode.Mode.TheVariants as mode
use Rattle.ruby_tokens.specs.declared.mode.Lexer.{Lexer}
use Rattle.ruby_tokens.specs.Words.{word_kind}
use Rattle.ruby_tokens.specs.Literals.{IsSymbol, symbol_word, digits_end, operators}
use Rattle.ruby_tokens.specs.Tokens.{Divides, ended}
use Rattle.ruby_tokens.specs.Lines.{at_start, behind_comment}
use Rattle.ruby_tokens.specs.Notes.{is_type_note}
use Rattle.ruby_tokens.specs.Machine.{with_token, noted, signed, step, ends}
use Rattle.ruby_tokens.specs.Reads.{reads, first}
use Rattle.ruby_tokens.proofs.Characters.{one_byte, width_one}
use Rattle.ruby_tokens.proofs.From.{made, body_word, Completes, FromToken, From, Back, choose, closed}
use Rattle.ruby_tokens.proofs.Begins.{begin_back}
use Rattle.ruby_tokens.proofs.Steps as steps
use Rattle.ruby_tokens.proofs.Steps.{text_end}

step_back : (tokens : List Token) (m : Mode) (at c : ℕ) (cs : List ℕ) → Back (λ ts. From m at ts (c ∷ cs)) tokens at c cs (step tokens m at c)
step_back tokens (mode.Between b) at c cs = begin_back tokens b at c cs
step_back tokens (mode.Comment joined) at c cs = steps.comment_back tokens 0 at c cs joined
step_back tokens (mode.Note start joined text) at c cs = steps.note_back tokens start at c cs joined text
step_back tokens (mode.Word start text) at c cs = steps.word_back tokens start at c cs text
step_back tokens (mode.Minus start) at c cs = steps.minus_back tokens start at c cs
step_back tokens (mode.Zero start) at c cs = steps.zero_back tokens start at c cs
step_back tokens (mode.Digits start minus q) at c cs = steps.digits_back tokens start at c cs minus q
step_back tokens (mode.Underscore start minus q) at c cs = steps.underscore_back tokens start at c cs minus q
step_back tokens (mode.Single start text) at c cs = steps.single_back tokens start at c cs text
step_back tokens (mode.SingleEscape start text) at c cs = steps.single_escape_back tokens start at c cs text
step_back tokens (mode.Double start text) at c cs = steps.double_back tokens start at c cs text
step_back tokens (mode.DoubleEscape start text) at c cs = steps.double_escape_back tokens start at c cs text
step_back tokens (mode.DoubleHash start text) at c cs = steps.double_hash_back tokens start at c cs text
step_back tokens (mode.Colon start) at c cs = steps.colon_back tokens start at c cs
step_back tokens (mode.Under start) at c cs = steps.under_back tokens start at c cs
step_back tokens (mode.SymbolWord start text) at c cs = steps.symbol_word_back tokens start at c cs text
step_back tokens (mode.SymbolEnding start text) at c cs = steps.symbol_ending_back tokens start at c cs text
step_back tokens (mode.SymbolOperator start text) at c cs = steps.symbol_operator_back tokens start at c cs text

-- The tokens where the text ends have a reading of the empty rest.
abbrev EndBack : (List Token → Type 0) → List Token → Option (List Token) → Type 0
EndBack G tokens None = Unit {0}
EndBack G tokens (Some us) = (ts : List Token) × (us ≡ tokens ++ ts) × G ts

last : (tokens : List Token) (m : Mode) (k : Kind) (start at : ℕ) → Completes m k 0 [] [] → EndBack (λ ts. FromToken m start at ts []) tokens (Some (with_token tokens k start at))
last tokens m k start at done = (made k start at ∷ [], refl, closed m k done ended)

end_here : (tokens : List Token) {G : List Token → Type 0} → G [] → EndBack G tokens (Some tokens)
end_here tokens g = ([], sym (append-nil tokens), g)

noted_is : (tokens : List Token) (start at : ℕ) (b : Bool) → (if b then with_token tokens kind.TypeNote start at else tokens) ≡ tokens ++ (if b then made kind.TypeNote start at ∷ [] else [])
noted_is tokens start at true = refl
noted_is tokens start at false = sym (append-nil tokens)

note_end : (tokens : List Token) (start : ℕ) (joined : Bool) (at : ℕ) (text : List ℕ) → EndBack (λ ts. From (mode.Note start joined text) at ts []) tokens (Some (noted tokens start text at))
note_end tokens start joined at text =
    let ts : List Token = if is_type_note text then made kind.TypeNote start at ∷ [] else [] in (
      ts,
      noted_is tokens start at (is_type_note text),
      (
        [],
        [],
        [],
        run_ends,
        subst (λ n. Divides (behind_comment joined) n [] []) (sym (add-zero at)) ended,
        ap (λ n. if is_type_note text then made kind.TypeNote start n ∷ [] else []) (sym (add-zero at))
            ∙ ap (λ t. if is_type_note t then made kind.TypeNote start (at + 0) ∷ [] else []) (sym (append-nil text)),
      ),
    )

under_end : IsSymbol (95 ∷ []) 1 (95 ∷ []) []
under_end = subst (λ n. IsSymbol (95 ∷ []) n (95 ∷ []) []) (width_one 95 ∙ one_byte 95 refl) (symbol_word refl run_ends tt tt)

ends_back : (tokens : List Token) (m : Mode) (at : ℕ) → EndBack (λ ts. From m at ts []) tokens (ends tokens m at)
ends_back tokens (mode.Between b) at = end_here tokens ended
ends_back tokens (mode.Comment joined) at = end_here tokens ([], [], run_ends, ended)
ends_back tokens (mode.Note start joined text) at = note_end tokens start joined at text
ends_back tokens (mode.Word start text) at = last tokens (mode.Word start text) (word_kind text) start at ([], run_ends, text_end word_kind text, refl)
ends_back tokens (mode.Zero start) at = last tokens (mode.Zero start) (kind.Integer (pos 0)) start at (refl, tt, refl, refl)
ends_back tokens (mode.Digits start minus q) at = last tokens (mode.Digits start minus q) (kind.Integer (signed minus q)) start at (q, digits_end tt, (λ l. l), refl)
ends_back tokens (mode.Under start) at = last tokens (mode.Under start) (kind.Symbol (encode_utf8 95)) start at (95 ∷ [], under_end, ap kind.Symbol (sym (append-nil (encode_utf8 95))))
ends_back tokens (mode.SymbolWord start text) at = last tokens (mode.SymbolWord start text) (kind.Symbol text) start at ([], body_word run_ends tt, text_end kind.Symbol text)
ends_back tokens (mode.SymbolEnding start text) at = last tokens (mode.SymbolEnding start text) (kind.Symbol text) start at (refl, tt, refl, refl)
ends_back tokens (mode.SymbolOperator start text) at = choose (EndBack (λ ts. FromToken (mode.SymbolOperator start text) start at ts []) tokens) (is_among text operators) (Some (with_token tokens (kind.Symbol text) start at)) None
    (λ o. last tokens (mode.SymbolOperator start text) (kind.Symbol text) start at ([], run_ends, subst (λ t. is_among t operators ≡ true) (sym (append-nil text)) o, text_end kind.Symbol text, refl))
    (λ o. tt)
ends_back tokens (mode.Minus start) at = tt
ends_back tokens (mode.Underscore start minus q) at = tt
ends_back tokens (mode.Single start text) at = tt
ends_back tokens (mode.SingleEscape start text) at = tt
ends_back tokens (mode.Double start text) at = tt
ends_back tokens (mode.DoubleEscape start text) at = tt
ends_back tokens (mode.DoubleHash start text) at = tt
ends_back tokens (mode.Colon start) at = tt

-- the tokens that were read, beside those before
abbrev Read : Lexer → ℕ → List ℕ → List Token → Type 0
Read l at cs us = (ts : List Token) × (us ≡ l.tokens ++ ts) × From l.mode at ts cs

from_end : {G : List Token → Type 0} (tokens us : List Token) (o : Option (List Token)) → EndBack G tokens o → o ≡ Some us → (ts : List Token) × (us ≡ tokens ++ ts) × G ts
from_end tokens us None b e = cc
from_end tokens us (Some vs) b e = let i : us ≡ vs = cc in (b.0, i ∙ b.1, b.2)

from_step : {G : List Token → Type 0} (tokens us : List Token) (at c : ℕ) (cs : List ℕ) (o : Option Lexer) → Back G tokens at c cs o
    → ((l : Lexer) → reads l (at + length (encode_utf8 c)) cs ≡ Some us → Read l (at + length (encode_utf8 c)) cs us)
    → option_and_then (λ l. reads l (at + length (encode_utf8 c)) cs) o ≡ Some us → (ts : List Token) × (us ≡ tokens ++ ts) × G ts
from_step tokens us at c cs None b read e = cc
from_step tokens us at c cs (Some l) b read e =
    let r = read l e in
    let s = b r.0 r.2 in
    (s.0, r.1 ∙ s.1, s.2)

read_back : (cs : List ℕ) (l : Lexer) (at : ℕ) (us : List Token) → reads l at cs ≡ Some us → Read l at cs us
unfolding reads
read_back [] l at us e = from_end l.tokens us (ends l.tokens l.mode at) (ends_back l.tokens l.mode at) e
read_back (c ∷ cs) l at us e = from_step l.tokens us at c cs (step l.tokens l.mode at c) (step_back l.tokens l.mode at c cs) (λ m f. read_back cs m (at + length (encode_utf8 c)) us f) e

pub reads_divides : (cs : List ℕ) (us : List Token) → reads first 0 cs ≡ Some us → Divides at_start 0 us cs
reads_divides cs us e = let r = read_back cs first 0 us e in subst (λ ts. Divides at_start 0 ts cs) (sym r.1) r.2
