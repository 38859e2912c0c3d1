-- What a character's sort says of it.
use Rattle.std.proofs.Common.{ℕ, ◌≡◌, ◌≢◌, true, false, subst}
use Rattle.std.specs.Prelude.{◌==◌}
use Rattle.std.specs.Char.{is_ascii_digit}
use Rattle.std.proofs.lemmas.Bool.{eqb-true}
use Rattle.source_text.specs.Characters.{is_blank, starts_word}
use Rattle.ruby_tokens.specs.declared.starts.Sort.{Sort}
use Rattle.ruby_tokens.specs.declared.starts.Sort.TheVariants as sort
use Rattle.ruby_tokens.specs.Starts.{sort_of, mark_sort}
use Rattle.ruby_tokens.proofs.From.{choose}

-- what is told of a character by its sort
abbrev pub Tells : ℕ → Sort → Type 0
Tells c sort.Word = starts_word c ≡ true
Tells c sort.Blank = is_blank c ≡ true
Tells c sort.Zero = c ≡ 48
Tells c sort.Digit = (is_ascii_digit c ≡ true) × (c ≢ 48)
Tells c sort.Comment = c ≡ 35
Tells c sort.Minus = c ≡ 45
Tells c sort.Single = c ≡ 39
Tells c sort.Double = c ≡ 34
Tells c sort.Symbol = c ≡ 58
Tells c sort.Open = c ≡ 40
Tells c sort.Close = c ≡ 41
Tells c sort.Comma = c ≡ 44
Tells c sort.Dot = c ≡ 46
Tells c sort.Equals = c ≡ 61
Tells c sort.Semicolon = c ≡ 59
Tells c sort.Newline = c ≡ 10
Tells c sort.Nothing = Unit {0}

mark_tells : (c : ℕ) → Tells c (mark_sort c)
mark_tells c =
    choose (Tells c) (c == 35) sort.Comment _ (eqb-true c 35) (λ e.
    choose (Tells c) (c == 45) sort.Minus _ (eqb-true c 45) (λ e.
    choose (Tells c) (c == 39) sort.Single _ (eqb-true c 39) (λ e.
    choose (Tells c) (c == 34) sort.Double _ (eqb-true c 34) (λ e.
    choose (Tells c) (c == 58) sort.Symbol _ (eqb-true c 58) (λ e.
    choose (Tells c) (c == 40) sort.Open _ (eqb-true c 40) (λ e.
    choose (Tells c) (c == 41) sort.Close _ (eqb-true c 41) (λ e.
    choose (Tells c) (c == 44) sort.Comma _ (eqb-true c 44) (λ e.
    choose (Tells c) (c == 46) sort.Dot _ (eqb-true c 46) (λ e.
    choose (Tells c) (c == 61) sort.Equals _ (eqb-true c 61) (λ e.
    choose (Tells c) (c == 59) sort.Semicolon _ (eqb-true c 59) (λ e.
    choose (Tells c) (c == 10) sort.Newline sort.Nothing (eqb-true c 10) (λ e. tt))))))))))))

not_zero : (c : ℕ) → (c == 48) ≡ false → c ≢ 48
not_zero c e i = let f : (48 == 48) ≡ false = subst (λ d. (d == 48) ≡ false) i e in cc

pub tells : (c : ℕ) → Tells c (sort_of c)
tells c =
    choose (Tells c) (starts_word c) sort.Word _ (λ e. e) (λ e.
    choose (Tells c) (is_blank c) sort.Blank _ (λ e. e) (λ e.
    choose (Tells c) (c == 48) sort.Zero _ (eqb-true c 48) (λ z.
    choose (Tells c) (is_ascii_digit c) sort.Digit (mark_sort c) (λ e. (e, not_zero c z)) (λ e. mark_tells c))))
