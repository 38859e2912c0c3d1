-- What the characters behind a place make of what was read before it.
use Rattle.std.proofs.Common.{ℕ, ◌≡◌, ◌+◌, ◌≤◌, ◌^◌, Bool, true, false, refl, sym, ◌∙◌, ap, subst, List, [], ◌∷◌, ◌++◌, length, append_assoc, Option, Some, None, arith}
use Rattle.std.specs.Prelude.{encode_utf8_all, if◌then◌else◌, pos}
use Rattle.std.specs.Char.{encode_utf8}
use Rattle.std.proofs.Math.Nat.{add-zero}
use Rattle.names.specs.Places.{is_among}
use Rattle.source_text.specs.Characters.{width, Run, is_name_character}
use Rattle.ruby_tokens.specs.declared.before.Before.{Before}
use Rattle.ruby_tokens.specs.declared.token.Token.{Token}
use Rattle.ruby_tokens.specs.declared.token.Kind.{Kind}
use Rattle.ruby_tokens.specs.declared.token.Kind.TheVariants as kind
use Rattle.ruby_tokens.specs.declared.mode.Mode.{Mode}
use Rattle.ruby_tokens.specs.declared.mode.Mode.TheVariants as mode
use Rattle.ruby_tokens.specs.declared.mode.Lexer.{Lexer}
use Rattle.ruby_tokens.specs.Words.{word_kind}
use Rattle.ruby_tokens.specs.Literals.{Magnitude, Digits, EndsZero, negative, Single, Double, NoBrace, IsSymbol, EndsSymbol, is_mark, is_ending, operators}
use Rattle.ruby_tokens.specs.Tokens.{Lexes, is_in_line, Divides, token}
use Rattle.ruby_tokens.specs.Lines.{in_line, behind_comment}
use Rattle.ruby_tokens.specs.Notes.{is_type_note}
use Rattle.ruby_tokens.specs.Machine.{with_token, signed, limit}

abbrev pub made : Kind → ℕ → ℕ → Token
made k start end = record { kind = k; start = start; end = end }

-- what stands behind a symbol's first characters
pub data Body : List ℕ → ℕ → List ℕ → List ℕ → Type 0 where
  body_word : {w cs rest : List ℕ} → Run is_name_character w cs rest → EndsSymbol rest → Body w (width w) cs rest
  body_ending : {d : ℕ} {w cs rest : List ℕ} → Run is_name_character w cs (d ∷ rest) → is_ending d ≡ true → EndsSymbol rest → Body (w ++ d ∷ []) (width w + 1) cs rest

-- `Completes m k n cs rest`: the characters `cs` make of what was read a token of the kind `k`, which ends `n` bytes on, and go on with `rest`.
abbrev pub Completes : Mode → Kind → ℕ → List ℕ → List ℕ → Type 0
Completes (mode.Word start text) k n cs rest = (w : List ℕ) × Run is_name_character w cs rest × (k ≡ word_kind (text ++ encode_utf8_all w)) × (n ≡ width w)
Completes (mode.Minus start) k n cs rest = (v : ℕ) × Magnitude v n cs rest × (v ≤ 2 ^ 63) × (k ≡ kind.Integer (negative v))
Completes (mode.Zero start) k n cs rest = (cs ≡ rest) × EndsZero cs × (k ≡ kind.Integer (pos 0)) × (n ≡ 0)
Completes (mode.Digits start minus m) k n cs rest = (v : ℕ) × Digits m v n cs rest × (m ≤ limit minus → v ≤ limit minus) × (k ≡ kind.Integer (signed minus v))
Completes (mode.Underscore start minus m) k n cs rest = (v : ℕ) × Digits m v (1 + n) (95 ∷ cs) rest × (m ≤ limit minus → v ≤ limit minus) × (k ≡ kind.Integer (signed minus v))
Completes (mode.Single start text) k n cs rest = (v : List ℕ) × Single v n cs rest × (k ≡ kind.Text (text ++ encode_utf8_all v))
Completes (mode.SingleEscape start text) k n cs rest = (v : List ℕ) × Single v (1 + n) (92 ∷ cs) rest × (k ≡ kind.Text (text ++ encode_utf8_all v))
Completes (mode.Double start text) k n cs rest = (v : List ℕ) × Double v n cs rest × (k ≡ kind.Text (text ++ encode_utf8_all v))
Completes (mode.DoubleEscape start text) k n cs rest = (v : List ℕ) × Double v (1 + n) (92 ∷ cs) rest × (k ≡ kind.Text (text ++ encode_utf8_all v))
Completes (mode.DoubleHash start text) k n cs rest = (v : List ℕ) × Double v n cs rest × NoBrace cs × (k ≡ kind.Text (text ++ encode_utf8_all v))
Completes (mode.Colon start) k n cs rest = (v : List ℕ) × IsSymbol v n cs rest × (k ≡ kind.Symbol (encode_utf8_all v))
Completes (mode.Under start) k n cs rest = (v : List ℕ) × IsSymbol v (1 + n) (95 ∷ cs) rest × (k ≡ kind.Symbol (encode_utf8_all v))
Completes (mode.SymbolWord start text) k n cs rest = (v : List ℕ) × Body v n cs rest × (k ≡ kind.Symbol (text ++ encode_utf8_all v))
Completes (mode.SymbolEnding start text) k n cs rest = (cs ≡ rest) × EndsSymbol cs × (k ≡ kind.Symbol text) × (n ≡ 0)
Completes (mode.SymbolOperator start text) k n cs rest =
    (w : List ℕ) × Run is_mark w cs rest × (is_among (text ++ encode_utf8_all w) operators ≡ true) × (k ≡ kind.Symbol (text ++ encode_utf8_all w)) × (n ≡ width w)
Completes _ k n cs rest = ⊥

-- a token that began at `start`, and what follows it
pub record FromToken (m : Mode) (start at : ℕ) (ts : List Token) (cs : List ℕ) : Type 0 where
  pub k : Kind
  pub n : ℕ
  pub rest : List ℕ
  pub us : List Token
  pub completes : Completes m k n cs rest
  pub divides : Divides in_line (at + n) us rest
  pub is : ts ≡ made k start (at + n) ∷ us

-- the tokens from a mode on
abbrev pub From : Mode → ℕ → List Token → List ℕ → Type 0
From (mode.Between b) at ts cs = Divides b at ts cs
From (mode.Comment joined) at ts cs = (text : List ℕ) × (rest : List ℕ) × Run is_in_line text cs rest × Divides (behind_comment joined) (at + width text) ts rest
From (mode.Note start joined text) at ts cs =
    (w : List ℕ) × (rest : List ℕ) × (us : List Token) × Run is_in_line w cs rest × Divides (behind_comment joined) (at + width w) us rest
    × (ts ≡ (if is_type_note (text ++ w) then made kind.TypeNote start (at + width w) ∷ us else us))
From (mode.Word start text) at ts cs = FromToken (mode.Word start text) start at ts cs
From (mode.Minus start) at ts cs = FromToken (mode.Minus start) start at ts cs
From (mode.Zero start) at ts cs = FromToken (mode.Zero start) start at ts cs
From (mode.Digits start minus m) at ts cs = FromToken (mode.Digits start minus m) start at ts cs
From (mode.Underscore start minus m) at ts cs = FromToken (mode.Underscore start minus m) start at ts cs
From (mode.Single start text) at ts cs = FromToken (mode.Single start text) start at ts cs
From (mode.SingleEscape start text) at ts cs = FromToken (mode.SingleEscape start text) start at ts cs
From (mode.Double start text) at ts cs = FromToken (mode.Double start text) start at ts cs
From (mode.DoubleEscape start text) at ts cs = FromToken (mode.DoubleEscape start text) start at ts cs
From (mode.DoubleHash start text) at ts cs = FromToken (mode.DoubleHash start text) start at ts cs
From (mode.Colon start) at ts cs = FromToken (mode.Colon start) start at ts cs
From (mode.Under start) at ts cs = FromToken (mode.Under start) start at ts cs
From (mode.SymbolWord start text) at ts cs = FromToken (mode.SymbolWord start text) start at ts cs
From (mode.SymbolEnding start text) at ts cs = FromToken (mode.SymbolEnding start text) start at ts cs
From (mode.SymbolOperator start text) at ts cs = FromToken (mode.SymbolOperator start text) start at ts cs

-- Where a step from the character `c` at `at` leads to a state from which there are tokens, there are tokens `ts` with `G ts` from before the character.
abbrev pub Back : (List Token → Type 0) → List Token → ℕ → ℕ → List ℕ → Option Lexer → Type 0
Back G tokens at c cs None = Unit {0}
Back G tokens at c cs (Some l) = (us : List Token) → From l.mode (at + length (encode_utf8 c)) us cs → (ts : List Token) × (l.tokens ++ us ≡ tokens ++ ts) × G ts

pub choose : {S : Type 0} (G : S → Type 0) (b : Bool) (x y : S) → (b ≡ true → G x) → (b ≡ false → G y) → G (if b then x else y)
choose G true x y t f = t refl
choose G false x y t f = f refl

-- one more character of a token
pub keeps : {start at : ℕ} {ts : List Token} {cs : List ℕ} (m m' : Mode) (c : ℕ)
    → ((k : Kind) (n : ℕ) (rest : List ℕ) → Completes m' k n cs rest → Completes m k (length (encode_utf8 c) + n) (c ∷ cs) rest)
    → FromToken m' start (at + length (encode_utf8 c)) ts cs → FromToken m start at ts (c ∷ cs)
keeps {start = start} {at = at} m m' c more f =
    let same : (at + length (encode_utf8 c)) + f.n ≡ at + (length (encode_utf8 c) + f.n) = omega arith in
    record {
      k = f.k;
      n = length (encode_utf8 c) + f.n;
      rest = f.rest;
      us = f.us;
      completes = more f.k f.n f.rest f.completes;
      divides = subst (λ n. Divides in_line n f.us f.rest) same f.divides;
      is = f.is ∙ ap (λ n. made f.k start n ∷ f.us) same;
    }

-- the first character of a token
pub begins : {at : ℕ} {ts : List Token} {cs : List ℕ} (b : Before) (m : Mode) (c : ℕ)
    → ((k : Kind) (n : ℕ) (rest : List ℕ) → Completes m k n cs rest → Lexes k (length (encode_utf8 c) + n) (c ∷ cs) rest)
    → FromToken m at (at + length (encode_utf8 c)) ts cs → Divides b at ts (c ∷ cs)
begins {at = at} {cs = cs} b m c more f =
    let same : (at + length (encode_utf8 c)) + f.n ≡ at + (length (encode_utf8 c) + f.n) = omega arith in
    subst (λ ts. Divides b at ts (c ∷ cs)) (sym (f.is ∙ ap (λ n. made f.k at n ∷ f.us) same))
    (token (more f.k f.n f.rest f.completes) (subst (λ n. Divides in_line n f.us f.rest) same f.divides))

-- a token that ends where the place is
pub closed : {start at : ℕ} {us : List Token} {cs : List ℕ} (m : Mode) (k : Kind) → Completes m k 0 cs cs → Divides in_line at us cs
    → FromToken m start at (made k start at ∷ us) cs
closed {start = start} {at = at} {us = us} {cs = cs} m k done d = record {
  k = k;
  n = 0;
  rest = cs;
  us = us;
  completes = done;
  divides = subst (λ n. Divides in_line n us cs) (sym (add-zero at)) d;
  is = ap (λ n. made k start n ∷ us) (sym (add-zero at));
}

-- a token that ends before the character, which is taken anew
pub ended_back : (tokens : List Token) (m : Mode) (k : Kind) (start at c : ℕ) (cs : List ℕ) (o : Option Lexer) → Completes m k 0 (c ∷ cs) (c ∷ cs)
    → Back (λ ts. Divides in_line at ts (c ∷ cs)) (with_token tokens k start at) at c cs o → Back (λ ts. FromToken m start at ts (c ∷ cs)) tokens at c cs o
ended_back tokens m k start at c cs None done b = tt
ended_back tokens m k start at c cs (Some l) done b = λ us f.
    let r = b us f in (made k start at ∷ r.0, r.1 ∙ append_assoc tokens (made k start at ∷ []) r.0, closed m k done r.2)

-- a character that ends its token
pub last_back : {us : List Token} {cs : List ℕ} (tokens : List Token) (start at : ℕ) (m : Mode) (k : Kind) (c : ℕ) → length (encode_utf8 c) ≡ 1 → Completes m k 1 (c ∷ cs) cs
    → Divides in_line (at + length (encode_utf8 c)) us cs → (ts : List Token) × (with_token tokens k start (at + 1) ++ us ≡ tokens ++ ts) × FromToken m start at ts (c ∷ cs)
last_back {us = us} {cs = cs} tokens start at m k c o done d = (
  made k start (at + 1) ∷ us,
  append_assoc tokens (made k start (at + 1) ∷ []) us,
  record {
    k = k;
    n = 1;
    rest = cs;
    us = us;
    completes = done;
    divides = subst (λ n. Divides in_line (at + n) us cs) o d;
    is = refl;
  },
)
