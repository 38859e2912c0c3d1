-- The printed names of methods are read back.
use Rattle.std.proofs.Common.{ℕ, suc, ◌<◌, ◌≡◌, refl, sym, ◌∙◌, ap, subst, Bool, true, false, List, [], ◌∷◌, ◌++◌, length, get_or, append-nil, Some, None, inl, inr, arith}
use Rattle.std.specs.Prelude.{◌&&◌, ◌==◌, codes, encode_utf8}
use Rattle.std.specs.Char.{is_ascii_uppercase}
use Rattle.std.proofs.lemmas.Str.{inside_one}
use Rattle.source_text.specs.Characters.{is_name_character, starts_word}
use Rattle.rbs_lexer.specs.declared.token.TokenKind.TheVariants as token_kind
use Rattle.rbs_lexer.specs.Pieces.{IsCharacter, Repeated, repeated_none, repeated_more}
use Rattle.rbs_lexer.specs.Names.{IsWord, IsOperator, IsMethodName, starts_lower, is_ending, operators}
use Rattle.rbs_lexer.proofs.Bytes.{bool_cases, not_true}
use Rattle.rbs_lexer.proofs.Listed.{Each, among_each}
use Rattle.rbs_terminals.specs.declared.token.Token.{Token}
use Rattle.rbs_terminals.specs.declared.token.Spot.{Spot}
use Rattle.rbs_terminals.specs.declared.token.Gap.{Gap}
use Rattle.rbs_terminals.specs.declared.token.Gap.TheVariants as gap
use Rattle.rbs_terminals.specs.declared.token.Mark.{Mark}
use Rattle.rbs_terminals.specs.declared.token.Mark.TheVariants as mark
use Rattle.rbs_terminals.specs.declared.token.Kind.{Kind}
use Rattle.rbs_terminals.specs.declared.token.Kind.TheVariants as kind
use Rattle.rbs_terminals.specs.Kinds.{kind_at, lower_of}
use Rattle.rbs_types.specs.Symbols.{token, sign, scope_at, scope_follows}
use Rattle.rbs_declarations.specs.declared.operators.Operator.{Operator}
use Rattle.rbs_declarations.specs.declared.operators.Operator.TheVariants as operator
use Rattle.rbs_declarations.specs.Operators.{operator_text, is_operator, begun_by, extended}
use Rattle.rbs_declarations.specs.Words.{method_word, is_capital, is_joined, ending_of, extended_at, extension}
use Rattle.rbs_declarations.specs.Grammar as grammar
use Rattle.rbs_declarations.specs.Grammar.{MethodName, Marks}
use Rattle.printed_tokens.specs.Pieces.{Piece, tok}
use Rattle.printed_tokens.specs.Layout as lay
use Rattle.printed_tokens.specs.Layout.{word_token, stem, ending, operator_pieces, method_pieces}
use Rattle.printed_tokens.specs.Fits.{Fits}
use Rattle.printed_signatures.proofs.Split.{first, first_mark, onward}
use Rattle.printed_signatures.proofs.WordKinds.{lower_word, upper_word}

-- ---- what stands behind a name

-- what follows goes on with no name of a method
abbrev pub EndsMethod : List Token → Type 0
EndsMethod rest = (scope_follows rest ≡ false) × ((o : Operator) → extension o rest ≡ None)

apart_extends : (o : Operator) (k : Kind) (s : Spot) → is_joined s ≡ false → extended_at o k s ≡ None
apart_extends o (kind.Mark m) s e = rw e
apart_extends o _ s e = refl

-- a terminal that doesn't stand directly behind the name
pub apart_ends : (ts : List Token) (k : Kind) (s : Spot) → is_joined s ≡ false → scope_at k s ≡ false → EndsMethod (token k s ∷ ts)
apart_ends ts k s e f = (f, λ o. apart_extends o k s e)

no_colon : (o : Operator) → extended o mark.Colon ≡ None
no_colon operator.Minus = refl
no_colon _ = refl

colon_extends : (o : Operator) (s : Spot) (b : Bool) → is_joined s ≡ b → extended_at o (kind.Mark mark.Colon) s ≡ None
colon_extends o s true e = rw e (no_colon o)
colon_extends o s false e = apart_extends o (kind.Mark mark.Colon) s e

pub colon_ends : (s : Spot) (ts : List Token) → EndsMethod (sign mark.Colon s ∷ ts)
colon_ends s ts = (refl, λ o. colon_extends o s (is_joined s) refl)

-- ---- the bytes of a word are no endings

abbrev NoEnding : List ℕ → Type 0
NoEnding [] = Unit {0}
NoEnding (b ∷ w) = (is_ending b ≡ false) × NoEnding w

no_ending_append : (v w : List ℕ) → NoEnding v → NoEnding w → NoEnding (v ++ w)
no_ending_append [] w h k = k
no_ending_append (b ∷ v) w h k = (h.0, no_ending_append v w h.1 k)

each_byte : (w : List ℕ) → ((k : ℕ) → k < length w → is_ending (get_or w k 0) ≡ false) → NoEnding w
each_byte [] h = tt
each_byte (b ∷ w) h = (h 0 (omega arith), each_byte w (λ k l. h (suc k) (omega arith)))

ending_small : (b : ℕ) → is_ending b ≡ true → b < 128
ending_small b e = grind arith

name_no_ending : (b : ℕ) → is_name_character b ≡ true → is_ending b ≡ true → ⊥
name_no_ending b e f = grind arith

character_no_ending : (c : ℕ) → is_name_character c ≡ true → (k : ℕ) → k < length (encode_utf8 c) → is_ending (get_or (encode_utf8 c) k 0) ≡ false
character_no_ending c e k l = not_true (is_ending (get_or (encode_utf8 c) k 0))
    (λ t.
    let is : c ≡ get_or (encode_utf8 c) k 0 = inside_one c [] (encode_utf8 c) k (sym (append-nil (encode_utf8 c))) l (ending_small (get_or (encode_utf8 c) k 0) t) in
    name_no_ending (get_or (encode_utf8 c) k 0) (subst (λ b. is_name_character b ≡ true) is e) t)

rest_no_ending : {w : List ℕ} → Repeated (IsCharacter is_name_character) w → NoEnding w
rest_no_ending repeated_none = tt
rest_no_ending (repeated_more {x = x} {w = w} (c, s, p, e) r f) =
    subst NoEnding (sym f) (no_ending_append x w (subst NoEnding (sym e) (each_byte (encode_utf8 c) (character_no_ending c p))) (rest_no_ending r))

lower_no_ending : (b : ℕ) → starts_lower b ≡ true → is_ending b ≡ false
lower_no_ending b e = grind arith

upper_no_ending : (b : ℕ) → is_ascii_uppercase b ≡ true → is_ending b ≡ false
upper_no_ending b e = grind arith

word_no_ending : (w : List ℕ) → IsWord w → NoEnding w
word_no_ending [] (inl h) = absurd h
word_no_ending [] (inr h) = absurd h
word_no_ending (b ∷ w) (inl h) = (lower_no_ending b h.0, rest_no_ending h.1)
word_no_ending (b ∷ w) (inr h) = (upper_no_ending b h.0, rest_no_ending h.1)

-- ---- the stem and the ending

stem_alone : (w : List ℕ) → NoEnding w → stem w ≡ w
stem_alone [] h = refl
stem_alone (b ∷ []) h = rw h.0
stem_alone (b ∷ c ∷ w) h = ap (λ v. b ∷ v) (stem_alone (c ∷ w) h.1)

ending_none : (w : List ℕ) → NoEnding w → ending w ≡ []
ending_none [] h = refl
ending_none (b ∷ []) h = rw h.0
ending_none (b ∷ c ∷ w) h = ending_none (c ∷ w) h.1

stem_ended : (w : List ℕ) (e : ℕ) → is_ending e ≡ true → stem (w ++ e ∷ []) ≡ w
stem_ended [] e h = rw h
stem_ended (b ∷ []) e h = ap (λ v. b ∷ v) (stem_ended [] e h)
stem_ended (b ∷ c ∷ w) e h = ap (λ v. b ∷ v) (stem_ended (c ∷ w) e h)

ending_ended : (w : List ℕ) (e : ℕ) → is_ending e ≡ true → ending (w ++ e ∷ []) ≡ tok token_kind.Mark (e ∷ []) ∷ []
ending_ended [] e h = rw h
ending_ended (b ∷ []) e h = ending_ended [] e h
ending_ended (b ∷ c ∷ w) e h = ending_ended (c ∷ w) e h

-- ---- words

lower_starts : (b : ℕ) → starts_lower b ≡ true → starts_word b ≡ true
lower_starts b e = grind arith

upper_starts : (b : ℕ) → is_ascii_uppercase b ≡ true → starts_word b ≡ true
upper_starts b e = grind arith

-- the first byte of a word, and the pieces where a word begins
begun : (b : ℕ) (v : List ℕ) → starts_word b ≡ true → method_pieces (b ∷ v) ≡ lay.word (stem (b ∷ v)) ∷ ending (b ∷ v)
begun b v e = rw e

word_begins : (w v : List ℕ) → IsWord w → method_pieces (w ++ v) ≡ lay.word (stem (w ++ v)) ∷ ending (w ++ v)
word_begins [] v (inl h) = absurd h
word_begins [] v (inr h) = absurd h
word_begins (b ∷ w) v (inl h) = begun b (w ++ v) (lower_starts b h.0)
word_begins (b ∷ w) v (inr h) = begun b (w ++ v) (upper_starts b h.0)

alone_pieces : (w : List ℕ) → IsWord w → method_pieces w ≡ lay.word w ∷ []
alone_pieces w h =
    ap method_pieces (sym (append-nil w)) ∙ word_begins w [] h ∙ ap (λ w. lay.word (stem w) ∷ ending w) (append-nil w)
    ∙ (λ i. lay.word (stem_alone w (word_no_ending w h) i) ∷ ending_none w (word_no_ending w h) i)

ended_pieces : (w : List ℕ) (e : ℕ) → IsWord w → is_ending e ≡ true → method_pieces (w ++ e ∷ []) ≡ lay.word w ∷ tok token_kind.Mark (e ∷ []) ∷ []
ended_pieces w e h k = word_begins w (e ∷ []) h ∙ (λ i. lay.word (stem_ended w e k i) ∷ ending_ended w e k i)

lower_method : (k : Kind) (w : List ℕ) → lower_of k ≡ Some w → method_word k ≡ Some w
lower_method (kind.Lower v) w e = e
lower_method (kind.Keyword k) w e = e
lower_method _ w e = absurd (cc)

-- the terminal that the word is
word_is : (w : List ℕ) → IsWord w → method_word (kind_at (word_token w) w) ≡ Some w
word_is w (inl h) = lower_method (kind_at (word_token w) w) w (lower_word w h)
word_is w (inr h) = ap method_word (upper_word w h)

no_scope_kind : (b s : Bool) → s ≡ false → (b && s) ≡ false
no_scope_kind true s e = e
no_scope_kind false s e = refl

word_read : (w : List ℕ) → IsWord w → (g : Gap) (ts rest : List Token) → Fits g (lay.word w ∷ []) ts rest → EndsMethod rest → MethodName w ts rest
word_read w h g ts rest f q =
    let k = kind_at (word_token w) w in
    let (s, more, at, j, e) = first g (word_token w) w k refl [] ts rest f in
    subst (λ ts. MethodName w ts rest) (sym (onward at e)) (grammar.bare_word k w s (word_is w h) (no_scope_kind (is_capital k) (scope_follows rest) q.0))

-- the mark that is an ending
ending_mark : (b : ℕ) → is_ending b ≡ true → (m : Mark) × (kind_at token_kind.Mark (b ∷ []) ≡ kind.Mark m) × (ending_of m ≡ Some (b ∷ []))
ending_mark b e =
    let P : ℕ → Type 0 = λ b. (m : Mark) × (kind_at token_kind.Mark (b ∷ []) ≡ kind.Mark m) × (ending_of m ≡ Some (b ∷ [])) in
    bool_cases (b == 63) (λ t. subst P (sym (is_byte b 63 t)) (mark.Question, refl, refl)) (λ n.
    bool_cases (b == 33) (λ t. subst P (sym (is_byte b 33 t)) (mark.Bang, refl, refl)) (λ n'. subst P (sym (the_last b e n n')) (mark.Equals, refl, refl)))
  where
    is_byte : (b c : ℕ) → (b == c) ≡ true → b ≡ c
    is_byte b c e = grind arith

    the_last : (b : ℕ) → is_ending b ≡ true → (b == 63) ≡ false → (b == 33) ≡ false → b ≡ 61
    the_last b e f g = grind arith

joined_spot : (s : Spot) → s.gap ≡ gap.Joined → is_joined s ≡ true
joined_spot s e = rw e

ended_read : (w : List ℕ) (b : ℕ) → IsWord w → is_ending b ≡ true → (g : Gap) (ts rest : List Token) → Fits g (lay.word w ∷ tok token_kind.Mark (b ∷ []) ∷ []) ts rest → MethodName (w ++ b ∷ []) ts rest
ended_read w b h k g ts rest f =
    let x = kind_at (word_token w) w in
    let (m, is, text) = ending_mark b k in
    let (s, more, at, j, f') = first g (word_token w) w x refl (tok token_kind.Mark (b ∷ []) ∷ []) ts rest f in
    let (s', more', at', j', e) = first gap.Joined token_kind.Mark (b ∷ []) (kind.Mark m) is [] more rest f' in
    subst (λ ts. MethodName (w ++ b ∷ []) ts rest) (sym (onward at (onward at' e)))
    (grammar.marked_word x w (b ∷ []) m s s' (word_is w h) text (joined_spot s' j'))

-- ---- operators

-- these marks lead from one operator to another
abbrev Leads : Operator → List Mark → Operator → Type 0
Leads o [] p = o ≡ p
Leads o (m ∷ ms) p = (q : Operator) × (extended o m ≡ Some q) × Leads q ms p

abbrev marks_pieces : List Mark → List Piece
marks_pieces [] = []
marks_pieces (m ∷ ms) = lay.sign m ∷ marks_pieces ms

extended_joined : (o : Operator) (m : Mark) (s : Spot) → s.gap ≡ gap.Joined → extended_at o (kind.Mark m) s ≡ extended o m
extended_joined o m s e = rw e

marks_read : (ms : List Mark) (o p : Operator) → Leads o ms p → is_operator p ≡ true → (ts rest : List Token) → Fits gap.Joined (marks_pieces ms) ts rest → EndsMethod rest → Marks o p ts rest
marks_read [] o p l h ts rest e q = subst (λ ts. Marks o p ts rest) (sym e) (subst (λ o. Marks o p rest rest) (sym l) (grammar.no_more h (q.1 p)))
marks_read (m ∷ ms) o p l h ts rest f q =
    let (s, more, at, j, f') = first_mark gap.Joined m (marks_pieces ms) ts rest f in
    subst (λ ts. Marks o p ts rest) (sym at) (grammar.one_more m s (extended_joined o m s j ∙ l.1) (marks_read ms l.0 p l.2 h more rest f' q))

-- the marks of an operator
record Spelled (w : List ℕ) : Type 0 where
  begin : Mark
  marks : List Mark
  from : Operator
  to : Operator
  pieces : method_pieces w ≡ lay.sign begin ∷ marks_pieces marks
  begun : begun_by begin ≡ Some from
  leads : Leads from marks to
  whole : is_operator to ≡ true
  text : operator_text to ≡ w

one_mark : (w : List ℕ) (m : Mark) (o : Operator) → method_pieces w ≡ lay.sign m ∷ [] → begun_by m ≡ Some o → is_operator o ≡ true → operator_text o ≡ w → Spelled w
one_mark w m o p b h e = record { begin = m; marks = []; from = o; to = o; pieces = p; begun = b; leads = refl; whole = h; text = e }

two_marks : (w : List ℕ) (m n : Mark) (o q : Operator) → method_pieces w ≡ lay.sign m ∷ lay.sign n ∷ [] → begun_by m ≡ Some o → extended o n ≡ Some q → is_operator q ≡ true → operator_text q ≡ w → Spelled w
two_marks w m n o q p b x h e = record { begin = m; marks = n ∷ []; from = o; to = q; pieces = p; begun = b; leads = (q, x, refl); whole = h; text = e }

three_marks : (w : List ℕ) (m n l : Mark) (o q r : Operator) → method_pieces w ≡ lay.sign m ∷ lay.sign n ∷ lay.sign l ∷ [] → begun_by m ≡ Some o → extended o n ≡ Some q → extended q l ≡ Some r → is_operator r ≡ true
    → operator_text r ≡ w → Spelled w
three_marks w m n l o q r p b x y h e = record { begin = m; marks = n ∷ l ∷ []; from = o; to = r; pieces = p; begun = b; leads = (q, x, (r, y, refl)); whole = h; text = e }

all_spelled : Each Spelled operators
all_spelled = (
  one_mark (codes "+") mark.Plus operator.Plus refl refl refl refl,
  (
    one_mark (codes "-") mark.Minus operator.Minus refl refl refl refl,
    (
      one_mark (codes "*") mark.Star operator.Times refl refl refl refl,
      (
        one_mark (codes "/") mark.Slash operator.Divide refl refl refl refl,
        (
          one_mark (codes "%") mark.Percent operator.Modulo refl refl refl refl,
          (
            two_marks (codes "==") mark.Equals mark.Equals operator.Assign operator.Equal refl refl refl refl refl,
            (
              one_mark (codes "<") mark.Less operator.Less refl refl refl refl,
              (
                two_marks (codes "<=") mark.Less mark.Equals operator.Less operator.LessEqual refl refl refl refl refl,
                (
                  one_mark (codes ">") mark.Greater operator.Greater refl refl refl refl,
                  (
                    two_marks (codes ">=") mark.Greater mark.Equals operator.Greater operator.GreaterEqual refl refl refl refl refl,
                    (
                      three_marks (codes "<=>") mark.Less mark.Equals mark.Greater operator.Less operator.LessEqual operator.Compare refl refl refl refl refl refl,
                      (
                        two_marks (codes "<<") mark.Less mark.Less operator.Less operator.Append refl refl refl refl refl,
                        (
                          two_marks (codes "[]") mark.OpenSquare mark.CloseSquare operator.Open operator.Index refl refl refl refl refl,
                          (
                            three_marks (codes "[]=") mark.OpenSquare mark.CloseSquare mark.Equals operator.Open operator.Index operator.IndexAssign refl refl refl refl refl refl,
                            (two_marks (codes "-@") mark.Minus mark.At operator.Minus operator.UnaryMinus refl refl refl refl refl, tt),
                          ),
                        ),
                      ),
                    ),
                  ),
                ),
              ),
            ),
          ),
        ),
      ),
    ),
  ),
)

operator_read : (w : List ℕ) → IsOperator w → (g : Gap) (ts rest : List Token) → Fits g (method_pieces w) ts rest → EndsMethod rest → MethodName w ts rest
operator_read w h g ts rest f q =
    let is : Spelled w = among_each Spelled w operators all_spelled h in
    let (s, more, at, j, f') = first_mark g is.begin (marks_pieces is.marks) ts rest (subst (λ ps. Fits g ps ts rest) is.pieces f) in
    subst (λ w. MethodName w ts rest) is.text
    (subst (λ ts. MethodName (operator_text is.to) ts rest) (sym at) (grammar.an_operator is.begin s is.begun (marks_read is.marks is.from is.to is.leads is.whole more rest f' q)))

-- ---- all names

pub method_name_read : (w : List ℕ) → IsMethodName w → (g : Gap) (ts rest : List Token) → Fits g (method_pieces w) ts rest → EndsMethod rest → MethodName w ts rest
method_name_read w (inl (inl h)) g ts rest f q = word_read w h g ts rest (subst (λ ps. Fits g ps ts rest) (alone_pieces w h) f) q
method_name_read w (inl (inr (v, b, h, k, e))) g ts rest f q =
    subst (λ w. MethodName w ts rest) (sym e) (ended_read v b h k g ts rest (subst (λ ps. Fits g ps ts rest) (ap method_pieces e ∙ ended_pieces v b h k) f))
method_name_read w (inr h) g ts rest f q = operator_read w h g ts rest f q

-- a kind that is no `::`
word_no_scope : (k : Kind) (s : Spot) (w : List ℕ) → method_word k ≡ Some w → scope_at k s ≡ false
word_no_scope (kind.Mark m) s w e = absurd (cc)
word_no_scope _ s w e = refl

begun_no_scope : (m : Mark) (s : Spot) (o : Operator) → begun_by m ≡ Some o → scope_at (kind.Mark m) s ≡ false
begun_no_scope mark.Scope s o e = absurd (cc)
begun_no_scope _ s o e = refl

blank_apart : (s : Spot) → s.gap ≡ gap.Blank → is_joined s ≡ false
blank_apart s e = rw e

-- a blank and a name behind a name end that
pub name_ends : (w : List ℕ) → IsMethodName w → (ts rest : List Token) → Fits gap.Blank (method_pieces w) ts rest → EndsMethod ts
name_ends w (inl (inl h)) ts rest f =
    let k = kind_at (word_token w) w in
    let (s, more, at, j, f') = first gap.Blank (word_token w) w k refl [] ts rest (subst (λ ps. Fits gap.Blank ps ts rest) (alone_pieces w h) f) in
    subst EndsMethod (sym at) (apart_ends more k s (blank_apart s j) (word_no_scope k s w (word_is w h)))
name_ends w (inl (inr (v, b, h, x, e))) ts rest f =
    let k = kind_at (word_token v) v in
    let (s, more, at, j, f') = first gap.Blank (word_token v) v k refl (tok token_kind.Mark (b ∷ []) ∷ []) ts rest (subst (λ ps. Fits gap.Blank ps ts rest) (ap method_pieces e ∙ ended_pieces v b h x) f) in
    subst EndsMethod (sym at) (apart_ends more k s (blank_apart s j) (word_no_scope k s v (word_is v h)))
name_ends w (inr h) ts rest f =
    let is : Spelled w = among_each Spelled w operators all_spelled h in
    let (s, more, at, j, f') = first_mark gap.Blank is.begin (marks_pieces is.marks) ts rest (subst (λ ps. Fits gap.Blank ps ts rest) is.pieces f) in
    subst EndsMethod (sym at) (apart_ends more (kind.Mark is.begin) s (blank_apart s j) (begun_no_scope is.begin s is.from is.begun))
