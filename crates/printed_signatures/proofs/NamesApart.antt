-- Printed names are told apart.
use Rattle.std.proofs.Common.{ℕ, ◌≡◌, refl, sym, subst, Bool, true, false, List, [], ◌∷◌, ◌++◌, inl, inr, arith}
use Rattle.std.specs.Prelude.{◌⊎◌, ◌==◌, if◌then◌else◌}
use Rattle.source_text.specs.Characters.{starts_word}
use Rattle.sig_model.specs.declared.ty.TypeName.{TypeName}
use Rattle.rbs_lexer.specs.declared.token.TokenKind.{TokenKind}
use Rattle.rbs_lexer.specs.declared.token.TokenKind.TheVariants as token
use Rattle.rbs_lexer.specs.Names.{IsUpper, IsLower, IsInterfaceName}
use Rattle.rbs_lexer.specs.Kinds.{IsToken}
use Rattle.rbs_lexer.specs.Division.{IsFit}
use Rattle.rbs_terminals.specs.declared.token.Keyword.{Keyword}
use Rattle.rbs_terminals.specs.declared.token.Mark.TheVariants as mark
use Rattle.rbs_terminals.specs.Keywords.{keyword_text}
use Rattle.rbs_types.specs.Grammar.{Use}
use Rattle.printed_tokens.specs.Pieces.{Piece, blank, tok, first_byte, ends, ends_name, Apart}
use Rattle.printed_tokens.specs.Layout.{word_token, word, sign, keyword, where_set, path_pieces, name_pieces}
use Rattle.printed_signatures.specs.Writable.{EndsName, IsPath, IsName}
use Rattle.printed_signatures.proofs.KeywordWords.{keyword_is_lower}
use Rattle.printed_signatures.proofs.WordKinds.{token_of_upper, token_of_interface, token_of_lower}
use Rattle.printed_signatures.proofs.Appended.{apart_append, mark_is}

-- a word and the kind of token that it is
abbrev IsWordToken : List ℕ → TokenKind → Type 0
IsWordToken w k = IsToken k w × IsFit k w × ((b : ℕ) → ends_name b ≡ true → ends k w b ≡ true)

pub upper_apart : (w : List ℕ) → IsUpper w → (ps : List Piece) (b : ℕ) → ends_name (first_byte ps b) ≡ true → Apart ps b → Apart (word w ∷ ps) b
upper_apart w h ps b e i = subst (λ k. Apart (tok k w ∷ ps) b) (sym (token_of_upper w h)) (h, tt, e, i)

pub interface_apart : (w : List ℕ) → IsInterfaceName w → (ps : List Piece) (b : ℕ) → ends_name (first_byte ps b) ≡ true → Apart ps b → Apart (word w ∷ ps) b
interface_apart w h ps b e i = subst (λ k. Apart (tok k w ∷ ps) b) (sym (token_of_interface w h)) (h, tt, e, i)

pub lower_apart : (w : List ℕ) → IsLower w → (ps : List Piece) (b : ℕ) → ends_name (first_byte ps b) ≡ true → Apart ps b → Apart (word w ∷ ps) b
lower_apart w h ps b e i = subst (λ k. Apart (tok k w ∷ ps) b) (sym (token_of_lower w h)) (h, tt, e, i)

pub keyword_apart : (k : Keyword) (ps : List Piece) (b : ℕ) → ends_name (first_byte ps b) ≡ true → Apart ps b → Apart (keyword k ∷ ps) b
keyword_apart k ps b e i = (keyword_is_lower k, tt, e, i)

path_apart : (u : Use) (ws : List (List ℕ)) → IsPath u ws → (b : ℕ) → ends_name b ≡ true → Apart (path_pieces ws) b
path_apart u [] h b e = absurd h
path_apart u (w ∷ []) (inl h) b e = upper_apart w h.1 [] b e tt
path_apart u (w ∷ []) (inr (inl h)) b e = interface_apart w h.1 [] b e tt
path_apart u (w ∷ []) (inr (inr h)) b e = lower_apart w h.1 [] b e tt
path_apart u (w ∷ v ∷ ws) h b e = upper_apart w h.0 (sign mark.Scope ∷ path_pieces (v ∷ ws)) b refl (mark_is mark.Scope, tt, refl, path_apart u (v ∷ ws) h.1 b e)

-- a name, behind which no name character stands
pub name_apart : (u : Use) (n : TypeName) → IsName u n → (b : ℕ) → ends_name b ≡ true → Apart (name_pieces n) b
name_apart u n h b e = rooted n.rooted
  where
    rooted : (r : Bool) → Apart (where_set r (sign mark.Scope ∷ []) ++ path_pieces n.path) b
    rooted true = (mark_is mark.Scope, tt, refl, path_apart u n.path h b e)
    rooted false = path_apart u n.path h b e
