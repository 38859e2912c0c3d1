-- The terminals of bytes are as bytes give them.
use Rattle.std.proofs.Common.{ℕ, zero, suc, ◌+◌, ◌-◌, ◌^◌, ◌<◌, ◌≤◌, ◌≡◌, refl, sym, ◌∙◌, ap, subst, Bool, true, false, List, [], ◌∷◌, ◌++◌, length, take, drop, inl, inr, arith, length-append}
use Rattle.std.specs.Prelude.{◌⊎◌, ◌==◌, ◌&&◌, if◌then◌else◌, ℤ, pos, negsuc, neg_ℤ, slice_range, encode_utf8_all, Option, Some, None, IfSome}
use Rattle.std.specs.Prelude.{IsUtf8 as IsEncoded}
use Rattle.std.specs.Char.{IsScalar, encode_utf8, is_ascii_digit}
use lib.Utf8.{scalars}
use Rattle.std.proofs.Math.Seq.{take-append_seam}
use Rattle.rbs_lexer.specs.declared.token.TokenKind.{TokenKind}
use Rattle.rbs_lexer.specs.declared.token.TokenKind.TheVariants as token
use Rattle.rbs_lexer.specs.declared.token.SigToken.{SigToken}
use Rattle.rbs_lexer.specs.Pieces.{Repeated, repeated_none, repeated_more, IsCharacter, Closed, is_in_line, is_note_character}
use Rattle.rbs_lexer.specs.Names.{IsLower}
use Rattle.rbs_lexer.specs.Integers.{IsNumber, IsInteger, value_from, FitsSigned, Fits64}
use Rattle.rbs_lexer.specs.Kinds.{IsToken, marks}
use Rattle.rbs_lexer.specs.Division.{IsFit, End, Divides}
use Rattle.rbs_lexer.proofs.Bytes.{bool_cases}
use Rattle.rbs_lexer.proofs.Listed.{Each as EachWord, among_each}
use Rattle.rbs_terminals.specs.declared.before.Before.{Before}
use Rattle.rbs_terminals.specs.declared.token.Token.{Token}
use Rattle.rbs_terminals.specs.declared.token.Mark.{Mark}
use Rattle.rbs_terminals.specs.declared.token.Keyword.{Keyword}
use Rattle.rbs_terminals.specs.declared.token.Kind.{Kind}
use Rattle.rbs_terminals.specs.Keywords.{keyword_of}
use Rattle.rbs_terminals.specs.Marks.{mark_of}
use Rattle.rbs_terminals.specs.Values.{integer_value, unescaped}
use Rattle.rbs_terminals.specs.Kinds.{word_kind, mark_kind, kind_at}
use Rattle.rbs_terminals.specs.Terminals.{is_comment, text_of, begins_line, carried, at_start, behind_comment, behind_token, terminals_from, terminals, AllStand}
use Rattle.rbs_terminals.proofs.Numbers.{utf8_unescaped}
use Rattle.rbs_terminals.proofs.Texts.{string_inside}
use Rattle.rbs_terminals.proofs.Stands.{all_stand}
use Rattle.printed_signatures.specs.Writable.{IsUtf8, Is64, any_character, AreComments}
use Rattle.printed_signatures.specs.Lexical.{IsLexicalKind, IsLexical}
use Rattle.printed_signatures.proofs.TypesWritable.{AreLexical}

-- ---- integers

neg_is : (m : ℕ) → m ≤ 2 ^ 63 → Is64 (neg_ℤ (pos m))
neg_is zero h = omega arith
neg_is (suc n) h = omega arith

no_minus : (c : ℕ) → is_ascii_digit c ≡ true → (c == 45) ≡ false
no_minus c e = grind arith

number_is : (w : List ℕ) → IsNumber w → Fits64 w → Is64 (integer_value w)
number_is [] d f = absurd d
number_is (c ∷ w) d f = other (c == 45) refl
  where
    other : (b : Bool) → (c == 45) ≡ b → Is64 (integer_value (c ∷ w))
    other true e = absurd (clash (sym (no_minus c d.0) ∙ e))
      where
        clash : false ≡ true → ⊥
        clash e = cc
    other false e = rw e (plain e)
      where
        plain : (c == 45) ≡ false → value_from 0 (c ∷ w) < 2 ^ 63
        plain e = subst (λ b. FitsSigned b c w) e f

signed_is : (b : ℕ) (w : List ℕ) → b ≡ 45 → Fits64 (b ∷ w) → Is64 (integer_value (b ∷ w))
signed_is b w e f = subst (λ b. Is64 (integer_value (b ∷ w))) (sym e) (neg_is (value_from 0 w) (subst (λ b. Fits64 (b ∷ w)) e f))

integer_is : (w : List ℕ) → IsInteger w → Fits64 w → Is64 (integer_value w)
integer_is w (inl h) f = number_is w h f
integer_is [] (inr h) f = absurd h
integer_is (b ∷ w) (inr h) f = signed_is b w h.0 f

-- ---- texts

and_parts : (a b : Bool) → (a && b) ≡ true → (a ≡ true) × (b ≡ true)
and_parts true b e = (refl, e)
and_parts false b e = absurd cc

characters_of : (cs : List ℕ) → scalars cs ≡ true → IsUtf8 (encode_utf8_all cs)
characters_of [] e = repeated_none
characters_of (c ∷ cs) e = let both = and_parts _ _ e in repeated_more (c, both.0, refl, refl) (characters_of cs both.1) refl

encoded_is : (w : List ℕ) → IsEncoded w → IsUtf8 w
encoded_is w (cs, (s, e)) = subst IsUtf8 e (characters_of cs s)

-- what stands before a last byte
inside : (P : List ℕ → Type 0) (b m : ℕ) (v : List ℕ) → Closed b P v → m ≡ length v - 1 → P (take m v)
inside P b m v (x, p, e) f =
    let long : length v ≡ length x + 1 = ap length e ∙ length-append x (b ∷ []) in
    let size : m ≡ length x = omega (arith, f, long) in
    subst P (sym (ap (λ n. take n v) size ∙ ap (take (length x)) e ∙ take-append_seam x (b ∷ []))) p

note_inside : (w : List ℕ) → IsToken token.Annotation w → Repeated (IsCharacter is_note_character) (slice_range w 3 (length w - 1))
note_inside [] h = absurd h
note_inside (a ∷ []) h = absurd h.1
note_inside (a ∷ b ∷ []) h = absurd h.1.1
note_inside (a ∷ b ∷ c ∷ v) h = inside (Repeated (IsCharacter is_note_character)) 125 ((length (a ∷ b ∷ c ∷ v) - 1) - 3) v h.1.1.1 (omega arith)

-- ---- kinds

marks_lexical : EachWord (λ w. IsLexicalKind (mark_kind (mark_of w))) marks
marks_lexical = (tt, (tt, (tt, (tt, (tt, (tt, (tt, (tt, (tt, (tt, (tt, (tt, (tt, (tt, (tt, (tt, (tt, (tt, (tt, (tt, (tt, (tt, (tt, (tt, (tt, (tt, tt))))))))))))))))))))))))))

word_lexical : (w : List ℕ) → IsLower w → (r : Option Keyword) → keyword_of w ≡ r → IsLexicalKind (word_kind w r)
word_lexical w h None e = (h, e)
word_lexical w h (Some k) e = tt

no_comment : (k : TokenKind) → is_comment k ≡ true → is_comment k ≡ false → ⊥
no_comment k e f = cc

kind_lexical : (k : TokenKind) (w : List ℕ) → is_comment k ≡ false → IsToken k w → IsFit k w → IsLexicalKind (kind_at k w)
kind_lexical token.Ident w e h f = word_lexical w h (keyword_of w) refl
kind_lexical token.Upper w e h f = h
kind_lexical token.IfaceName w e h f = h
kind_lexical token.Ivar [] e h f = absurd h
kind_lexical token.Ivar (b ∷ w) e h f = h.1
kind_lexical token.Int w e h f = integer_is w h f
kind_lexical token.Str w e h f = encoded_is (unescaped (slice_range w 1 (length w - 1))) (utf8_unescaped (string_inside w h))
kind_lexical token.Sym [] e h f = absurd h
kind_lexical token.Sym (b ∷ w) e h f = h.1
kind_lexical token.Mark w e h f = among_each (λ w. IsLexicalKind (mark_kind (mark_of w))) w marks marks_lexical h
kind_lexical token.Annotation w e h f = note_inside w h
kind_lexical token.Comment w e h f = absurd (no_comment token.Comment refl e)

-- ---- comments

comment_text : (k : TokenKind) (w : List ℕ) → is_comment k ≡ true → IsToken k w → Repeated (IsCharacter is_in_line) (drop 1 w)
comment_text token.Comment [] e h = absurd h
comment_text token.Comment (b ∷ w) e h = h.1
comment_text token.Ident w e h = absurd (no_comment token.Ident e refl)
comment_text token.Upper w e h = absurd (no_comment token.Upper e refl)
comment_text token.IfaceName w e h = absurd (no_comment token.IfaceName e refl)
comment_text token.Ivar w e h = absurd (no_comment token.Ivar e refl)
comment_text token.Int w e h = absurd (no_comment token.Int e refl)
comment_text token.Str w e h = absurd (no_comment token.Str e refl)
comment_text token.Sym w e h = absurd (no_comment token.Sym e refl)
comment_text token.Mark w e h = absurd (no_comment token.Mark e refl)
comment_text token.Annotation w e h = absurd (no_comment token.Annotation e refl)

comments_and : (ws : List (List ℕ)) (w : List ℕ) → AreComments ws → Repeated (IsCharacter is_in_line) w → AreComments (ws ++ w ∷ [])
comments_and [] w h i = (i, tt)
comments_and (v ∷ ws) w h i = (h.0, comments_and ws w h.1 i)

either_comments : (b : Bool) (ws vs : List (List ℕ)) → AreComments ws → AreComments vs → AreComments (if b then ws else vs)
either_comments true ws vs h i = h
either_comments false ws vs h i = i

module _ (bytes : List ℕ) where
  carried_comments : (before : Before) (start : ℕ) → AreComments before.comments → AreComments (carried bytes before start)
  carried_comments before start h = either_comments _ before.comments [] h tt

  terminals_lexical : (at : ℕ) (before : Before) (ts : List SigToken) → AllStand bytes at ts → AreComments before.comments → AreLexical (terminals_from bytes before ts)
  terminals_lexical at before [] h c = tt
  terminals_lexical at before (t ∷ ts) h c =
      bool_cases (is_comment t.kind)
      (λ e. rw e (terminals_lexical t.place.end (behind_comment bytes before t) ts h.1
      (either_comments (begins_line bytes before t.place.start) (carried bytes before t.place.start ++ drop 1 (text_of bytes t) ∷ []) []
      (comments_and (carried bytes before t.place.start) (drop 1 (text_of bytes t)) (carried_comments before t.place.start c) (comment_text t.kind (text_of bytes t) e h.0.text)) tt)))
      (λ e. rw e (record { kind = kind_lexical t.kind (text_of bytes t) e h.0.text h.0.fit; comments = carried_comments before t.place.start c }, terminals_lexical t.place.end (behind_token t) ts h.1 tt))

  -- the terminals of the tokens that bytes divide into
  pub all_lexical : (file : ℕ) (ts : List SigToken) (end : End) → Divides file 0 ts end bytes → AreLexical (terminals bytes ts)
  all_lexical file ts end d = terminals_lexical 0 at_start ts (all_stand file bytes ts end d) tt
