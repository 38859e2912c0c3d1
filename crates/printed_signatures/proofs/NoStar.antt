-- No printed type begins with a star, so one before it is a mark by itself.
use Rattle.std.proofs.Common.{ℕ, suc, ◌+◌, ◌^◌, ◌<◌, ◌≡◌, refl, sym, ◌∙◌, ap, subst, Bool, true, false, List, [], ◌∷◌, ◌++◌, length, inl, inr, arith}
use Rattle.std.specs.Prelude.{◌⊎◌, ◌==◌, ◌||◌, not, ℤ, pos, negsuc}
use Rattle.std.specs.Char.{is_ascii_uppercase, is_ascii_digit}
use Rattle.std.specs.Fmt.{decimal, signed_decimal}
use Rattle.sig_model.specs.declared.ty.TypeName.{TypeName}
use Rattle.sig_model.specs.declared.ty.BaseTy.{BaseTy}
use Rattle.sig_model.specs.declared.ty.BaseTy.TheVariants as base
use Rattle.sig_model.specs.PlainTy as plain
use Rattle.sig_model.specs.PlainTy.{PlainTy, PlainTys}
use Rattle.rbs_lexer.specs.declared.token.TokenKind.TheVariants as token
use Rattle.rbs_lexer.specs.Names.{IsUpper, IsLower, IsInterfaceName, starts_lower}
use Rattle.rbs_lexer.specs.Integers.{IsNumber, IsInteger}
use Rattle.rbs_terminals.specs.declared.token.Mark.TheVariants as mark
use Rattle.rbs_types.specs.Grammar.{Use, of_type}
use Rattle.rbs_printer.specs.Texts.{base_text}
use Rattle.rbs_printer.specs.Types.{Site, whole, in_union, in_inter, before_question, needs_parentheses}
use Rattle.printed_tokens.specs.Pieces.{Piece, blank, tok, first_byte}
use Rattle.printed_tokens.specs.Layout.{word, sign, where_set, joined, path_pieces, name_pieces, question_behind, in_parentheses, placed, type_pieces, types_at, arguments_pieces}
use Rattle.printed_signatures.specs.Writable.{EndsName, IsPath, IsName, IsType, AreTypes, several}
use Rattle.printed_signatures.proofs.Appended.{first_append}
use Rattle.printed_signatures.proofs.TextsApart.{integer_is}

abbrev pub Starless : List Piece → Type 0
Starless ps = (b : ℕ) → (first_byte ps b == 42) ≡ false

starless_append : (ps qs : List Piece) → Starless ps → Starless (ps ++ qs)
starless_append ps qs h b = subst (λ c. (c == 42) ≡ false) (sym (first_append ps qs b)) (h (first_byte qs b))

upper_byte : (c : ℕ) → is_ascii_uppercase c ≡ true → (c == 42) ≡ false
upper_byte c e = grind arith

lower_byte : (c : ℕ) → starts_lower c ≡ true → (c == 42) ≡ false
lower_byte c e = grind arith

digit_byte : (c : ℕ) → is_ascii_digit c ≡ true → (c == 42) ≡ false
digit_byte c e = grind arith

starless_upper : (w : List ℕ) → IsUpper w → (ps : List Piece) → Starless (word w ∷ ps)
starless_upper [] h ps b = absurd h
starless_upper (c ∷ w) h ps b = upper_byte c h.0

starless_end : (u : Use) (w : List ℕ) → EndsName u w → Starless (word w ∷ [])
starless_end u w (inl h) b = starless_upper w h.1 [] b
starless_end u [] (inr (inl h)) b = absurd h.1
starless_end u (c ∷ w) (inr (inl h)) b = ap (λ c. c == 42) h.1.0
starless_end u [] (inr (inr h)) b = absurd h.1
starless_end u (c ∷ w) (inr (inr h)) b = lower_byte c h.1.0

starless_path : (u : Use) (ws : List (List ℕ)) → IsPath u ws → Starless (path_pieces ws)
starless_path u [] h b = absurd h
starless_path u (w ∷ []) h b = starless_end u w h b
starless_path u (w ∷ v ∷ ws) h b = starless_upper w h.0 (sign mark.Scope ∷ path_pieces (v ∷ ws)) b

starless_name : (u : Use) (n : TypeName) → IsName u n → Starless (name_pieces n)
starless_name u n h b = rooted n.rooted
  where
    rooted : (r : Bool) → (first_byte (where_set r (sign mark.Scope ∷ []) ++ path_pieces n.path) b == 42) ≡ false
    rooted true = refl
    rooted false = starless_path u n.path h b

starless_number : (w : List ℕ) → IsNumber w → Starless (tok token.Int w ∷ [])
starless_number [] h b = absurd h
starless_number (c ∷ w) h b = digit_byte c h.0

starless_signed : (w : List ℕ) → IsInteger w → Starless (tok token.Int w ∷ [])
starless_signed w (inl h) b = starless_number w h b
starless_signed [] (inr h) b = absurd h
starless_signed (c ∷ w) (inr h) b = ap (λ c. c == 42) h.0

starless_base : (t : BaseTy) → Starless (tok token.Ident (base_text t) ∷ [])
starless_base base.True b = refl
starless_base _ b = refl

in_parentheses_starless : (p : Bool) (ps : List Piece) → Starless ps → Starless (in_parentheses p ps)
in_parentheses_starless true ps h b = refl
in_parentheses_starless false ps h b = h b

mutual
  pub starless : (t : PlainTy) → IsType t → Starless (type_pieces t)
  starless (plain.name n ts) h b = starless_append (name_pieces n) (arguments_pieces ts) (starless_name of_type n h.0) b
  starless (plain.single n) h b = refl
  starless (plain.opt t) h b = starless_append (placed before_question t (type_pieces t)) (question_behind t) (in_parentheses_starless (needs_parentheses before_question t) (type_pieces t) (starless t h)) b
  starless (plain.union ts) h b = starless_members in_union (blank ∷ sign mark.Bar ∷ blank ∷ []) ts h.0 h.1 b
  starless (plain.inter ts) h b = starless_members in_inter (blank ∷ sign mark.Amp ∷ blank ∷ []) ts h.0 h.1 b
  starless (plain.tuple ts) h b = refl
  starless (plain.rec plain.no_keys) h b = refl
  starless (plain.rec (plain.more_keys w needed t ks)) h b = refl
  starless (plain.fun f) h b = refl
  starless (plain.int n) h b = starless_signed (signed_decimal n) (integer_is n h) b
  starless (plain.str w) h b = refl
  starless (plain.sym w) h b = refl
  starless (plain.base t) h b = starless_base t b

  starless_members : (x : Site) (by : List Piece) (ts : PlainTys) → several ts ≡ true → AreTypes ts → Starless (joined by (types_at x ts))
  starless_members x by plain.no_tys e h b = absurd cc
  starless_members x by (plain.more_tys t plain.no_tys) e h b = absurd cc
  starless_members x by (plain.more_tys t (plain.more_tys u ts)) e h b =
      starless_append (placed x t (type_pieces t) ++ by) (joined by (types_at x (plain.more_tys u ts))) (starless_append (placed x t (type_pieces t)) by (in_parentheses_starless (needs_parentheses x t) (type_pieces t) (starless t h.0))) b
