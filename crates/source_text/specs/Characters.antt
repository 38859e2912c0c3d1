-- The characters of source text, as their codes.
use Rattle.std.specs.Prelude.{◌≡◌, ℕ, Bool, true, false, ◌||◌, ◌==◌, nat_lt, if◌then◌else◌, List, [], ◌∷◌, length, encode_utf8_all}
use Rattle.std.specs.Char.{is_ascii_alphabetic, is_ascii_alphanumeric}
use Rattle.unicode_ident.specs.Ident.{is_xid_continue}

-- a space, a tab or a carriage return
abbrev pub is_blank : ℕ → Bool
is_blank c = (c == 32 || c == 9) || c == 13

-- an ASCII letter or digit, an underscore, or past ASCII one that goes on with an identifier
abbrev pub is_name_character : ℕ → Bool
is_name_character c = if nat_lt c 128 then is_ascii_alphanumeric c || c == 95 else is_xid_continue c

-- an ASCII letter or an underscore
abbrev pub starts_word : ℕ → Bool
starts_word c = is_ascii_alphabetic c || c == 95

-- how many bytes characters take
abbrev pub width : List ℕ → ℕ
width cs = length (encode_utf8_all cs)

-- `Run p w cs rest`: the characters `cs` begin with `w`, each of which passes the test, and go on with `rest`, which doesn't begin with one that passes.
pub data Run (p : ℕ → Bool) : List ℕ → List ℕ → List ℕ → Type 0 where
  run_ends : Run p [] [] []
  run_stops : {c : ℕ} {cs : List ℕ} → p c ≡ false → Run p [] (c ∷ cs) (c ∷ cs)
  run_goes : {c : ℕ} {w cs rest : List ℕ} → p c ≡ true → Run p w cs rest → Run p (c ∷ w) (c ∷ cs) rest
