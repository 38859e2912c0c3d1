-- A token's text tells its kind.
use Rattle.std.proofs.Common.{ℕ, ◌≡◌, Bool, true, false, refl, sym, ◌∙◌, ap, subst, List, [], ◌∷◌, ◌++◌, inl, inr, arith}
use Rattle.std.specs.Prelude.{◌⊎◌, ◌==◌, ◌||◌, if◌then◌else◌}
use Rattle.std.specs.Char.{is_ascii_digit, is_ascii_uppercase}
use Rattle.rbs_lexer.specs.declared.token.TokenKind.{TokenKind}
use Rattle.rbs_lexer.specs.declared.token.TokenKind.TheVariants as kind
use Rattle.std.proofs.lemmas.Bool.{eqb-true}
use Rattle.source_text.specs.Characters.{is_name_character}
use Rattle.rbs_lexer.specs.Names.{IsNameRest, IsLower, IsUpper, IsInterfaceName, IsWord, IsMethodName, operators, starts_lower}
use Rattle.rbs_lexer.specs.Integers.{IsNumber}
use Rattle.rbs_lexer.specs.Kinds.{IsToken, marks}
use Rattle.rbs_lexer.specs.Scanned.{IsNoteRest, begins_upper, begins_interface}
use Rattle.rbs_lexer.proofs.Bytes.{not_true, and_true}
use Rattle.rbs_lexer.proofs.Listed.{Each, among_each}
use Rattle.rbs_lexer.proofs.FirstBytes.{clash, empty_token}
use Rattle.rbs_lexer.proofs.NameFronts.{repeated_tail, upper_ascii}

abbrev kind_of_pair : ℕ → ℕ → TokenKind
kind_of_pair b c =
    if b == 45 then (if is_ascii_digit c then kind.Int else kind.Mark)
    else if b == 64 then kind.Ivar
    else if b == 37 then kind.Annotation
    else if b == 58 then (if c == 58 then kind.Mark else kind.Sym)
    else kind.Mark

abbrev kind_behind : ℕ → List ℕ → TokenKind
kind_behind b [] = kind.Mark
kind_behind b (c ∷ v) = kind_of_pair b c

-- what a word is, by its first byte
abbrev kind_of_word : ℕ → List ℕ → TokenKind
kind_of_word b v = if begins_interface b v then kind.IfaceName else kind.Ident

abbrev kind_of : List ℕ → TokenKind
kind_of [] = kind.Mark
kind_of (b ∷ v) =
    if is_ascii_uppercase b then kind.Upper
    else if starts_lower b then kind_of_word b v
    else if is_ascii_digit b then kind.Int
    else if b == 34 then kind.Str
    else if b == 35 then kind.Comment
    else kind_behind b v

mark_kinds : Each (λ w. kind_of w ≡ kind.Mark) marks
mark_kinds = (
  refl,
  (refl, (refl, (refl, (refl, (refl, (refl, (refl, (refl, (refl, (refl, (refl, (refl, (refl, (refl, (refl, (refl, (refl, (refl, (refl, (refl, (refl, (refl, (refl, (refl, (refl, tt))))))))))))))))))))))))),
)

-- the name of a method doesn't begin with a colon
abbrev NoColon : List ℕ → Type 0
NoColon [] = ⊥
NoColon (c ∷ w) = (c == 58) ≡ false

operator_no_colon : Each NoColon operators
operator_no_colon = (
  refl,
  (refl, (refl, (refl, (refl, (refl, (refl, (refl, (refl, (refl, (refl, (refl, (refl, (refl, (refl, tt)))))))))))))),
)

letter_no_colon : (c : ℕ) → (starts_lower c || is_ascii_uppercase c) ≡ true → (c == 58) ≡ false
letter_no_colon c e = grind arith

or_true : (x y : Bool) → (x ≡ true) ⊎ (y ≡ true) → (x || y) ≡ true
or_true true y h = refl
or_true false y (inl e) = absurd (clash e)
or_true false y (inr e) = e

word_no_colon : (w : List ℕ) → IsWord w → NoColon w
word_no_colon [] (inl h) = h
word_no_colon [] (inr h) = h
word_no_colon (c ∷ w) (inl h) = letter_no_colon c (or_true (starts_lower c) (is_ascii_uppercase c) (inl h.0))
word_no_colon (c ∷ w) (inr h) = letter_no_colon c (or_true (starts_lower c) (is_ascii_uppercase c) (inr h.0))

extended : (w x : List ℕ) (b : ℕ) → x ≡ w ++ b ∷ [] → NoColon w → NoColon x
extended [] x b e h = absurd h
extended (c ∷ w) x b e h = subst NoColon (sym e) h

name_no_colon : (w : List ℕ) → IsMethodName w → NoColon w
name_no_colon w (inl (inl h)) = word_no_colon w h
name_no_colon x (inl (inr (w, b, h, g, e))) = extended w x b e (word_no_colon w h)
name_no_colon w (inr o) = among_each NoColon w operators operator_no_colon o

symbol_kind : (v : List ℕ) → NoColon v → kind_of (58 ∷ v) ≡ kind.Sym
symbol_kind [] h = absurd h
symbol_kind (c ∷ v) h = rw h

variable_kind : (v : List ℕ) → IsLower v → kind_of (64 ∷ v) ≡ kind.Ivar
variable_kind [] h = absurd h
variable_kind (c ∷ v) h = refl

negative_kind : (v : List ℕ) → IsNumber v → kind_of (45 ∷ v) ≡ kind.Int
negative_kind [] h = absurd h
negative_kind (c ∷ v) h = rw h.0

no_upper : (b : ℕ) → starts_lower b ≡ true → is_ascii_uppercase b ≡ false
no_upper b s = grind arith

digit_plain : (b : ℕ) → is_ascii_digit b ≡ true → (is_ascii_uppercase b ≡ false) × (starts_lower b ≡ false)
digit_plain b d = (grind arith, grind arith)

upper_begins : (v : List ℕ) → IsUpper v → begins_upper v ≡ true
upper_begins [] h = absurd h
upper_begins (c ∷ v) h = h.0

interface_of : (b : ℕ) (v : List ℕ) → IsNameRest v → begins_interface b v ≡ true → IsInterfaceName (b ∷ v)
interface_of b [] r e = absurd (clash ((and_true (b == 95) false e).1))
interface_of b (c ∷ v) r e =
    let both = and_true (b == 95) (is_ascii_uppercase c) e in
    (eqb-true b 95 both.0, (both.1, repeated_tail is_name_character c v (c ∷ v) (upper_ascii c both.1) r refl))

interface_kind : (v : List ℕ) → IsUpper v → kind_of (95 ∷ v) ≡ kind.IfaceName
interface_kind v h = rw (upper_begins v h)

note_kind : (v : List ℕ) → IsNoteRest v → kind_of (37 ∷ v) ≡ kind.Annotation
note_kind [] h = absurd h
note_kind (c ∷ v) h = refl

lower_kind : (b : ℕ) (v : List ℕ) → IsLower (b ∷ v) → kind_of (b ∷ v) ≡ kind.Ident
lower_kind b v h = rw (no_upper b h.0, h.0, not_true (begins_interface b v) (λ e. h.2 (interface_of b v h.1 e)))

number_kind : (b : ℕ) (v : List ℕ) → is_ascii_digit b ≡ true → kind_of (b ∷ v) ≡ kind.Int
number_kind b v d = rw ((digit_plain b d).0, (digit_plain b d).1, d)

-- the same first byte
at_byte : (k : TokenKind) (b c : ℕ) (v : List ℕ) → b ≡ c → kind_of (c ∷ v) ≡ k → kind_of (b ∷ v) ≡ k
at_byte k b c v e h = ap (λ b. kind_of (b ∷ v)) e ∙ h

kind_is : (k : TokenKind) (w : List ℕ) → IsToken k w → kind_of w ≡ k
kind_is kind.Mark w h = among_each (λ w. kind_of w ≡ kind.Mark) w marks mark_kinds h
kind_is k [] h = absurd (empty_token k h)
kind_is kind.Ident (b ∷ v) h = lower_kind b v h
kind_is kind.Upper (b ∷ v) h = rw h.0
kind_is kind.IfaceName (b ∷ v) h = at_byte kind.IfaceName b 95 v h.0 (interface_kind v h.1)
kind_is kind.Ivar (b ∷ v) h = at_byte kind.Ivar b 64 v h.0 (variable_kind v h.1)
kind_is kind.Int (b ∷ v) (inl h) = number_kind b v h.0
kind_is kind.Int (b ∷ v) (inr h) = at_byte kind.Int b 45 v h.0 (negative_kind v h.1)
kind_is kind.Str (b ∷ v) h = at_byte kind.Str b 34 v h.0 refl
kind_is kind.Sym (b ∷ v) h = at_byte kind.Sym b 58 v h.0 (symbol_kind v (name_no_colon v h.1))
kind_is kind.Annotation (b ∷ v) h = at_byte kind.Annotation b 37 v h.0 (note_kind v h.1)
kind_is kind.Comment (b ∷ v) h = at_byte kind.Comment b 35 v h.0 refl

pub one_kind : (j k : TokenKind) (w : List ℕ) → IsToken j w → IsToken k w → j ≡ k
one_kind j k w h g = sym (kind_is j w h) ∙ kind_is k w g
