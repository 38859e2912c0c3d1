-- What lists of pieces spell.
use Rattle.std.proofs.Common.{◌≡◌, refl, sym, ◌∙◌, ap, ap₂, ℕ, Bool, true, false, List, [], ◌∷◌, ◌++◌, append_assoc, append-nil, map}
use Rattle.std.specs.Prelude.{codes, if◌then◌else◌}
use Rattle.std.proofs.lemmas.Grind.{flat_map-append}
use Rattle.sig_model.specs.declared.ty.TypeName.{TypeName}
use Rattle.source_text.specs.Characters.{starts_word}
use Rattle.rbs_lexer.specs.declared.token.TokenKind.TheVariants as token
use Rattle.rbs_lexer.specs.Names.{is_ending}
use Rattle.rbs_printer.specs.Texts as text
use Rattle.rbs_printer.specs.Texts.{name_text}
use Rattle.printed_tokens.specs.Pieces.{Piece, tok, piece_text, pieces_text}
use Rattle.printed_tokens.specs.Layout as layout
use Rattle.printed_tokens.specs.Layout.{word, path_pieces, name_pieces, stem, ending, operator_pieces, method_pieces}

-- pieces behind others
pub both : (xs ys : List Piece) {v w : List ℕ} → pieces_text xs ≡ v → pieces_text ys ≡ w → pieces_text (xs ++ ys) ≡ v ++ w
both xs ys e f = flat_map-append piece_text xs ys ∙ ap₂ (λ v w. v ++ w) e f

joined_text : (by : List Piece) (rows : List (List Piece)) → pieces_text (layout.joined by rows) ≡ text.joined (pieces_text by) (map pieces_text rows)
joined_text by [] = refl
joined_text by (ps ∷ []) = refl
joined_text by (ps ∷ qs ∷ rows) = both (ps ++ by) (layout.joined by (qs ∷ rows)) (both ps by refl refl) (joined_text by (qs ∷ rows))

-- lists of pieces that spell these texts, joined
pub joined_is : (by : List Piece) (rows : List (List Piece)) {texts : List (List ℕ)} → map pieces_text rows ≡ texts → pieces_text (layout.joined by rows) ≡ text.joined (pieces_text by) texts
joined_is by rows e = joined_text by rows ∙ ap (text.joined (pieces_text by)) e

pub rows_append : (xs ys : List (List Piece)) {vs ws : List (List ℕ)} → map pieces_text xs ≡ vs → map pieces_text ys ≡ ws → map pieces_text (xs ++ ys) ≡ vs ++ ws
rows_append [] ys {ws = ws} e f = f ∙ ap (λ vs. vs ++ ws) e
rows_append (x ∷ xs) ys {ws = ws} e f = ap (λ ws. pieces_text x ∷ ws) (rows_append xs ys refl f) ∙ ap (λ vs. vs ++ ws) e

pub where_set : (t : Bool) (ps : List Piece) → pieces_text (layout.where_set t ps) ≡ text.where_set t (pieces_text ps)
where_set true ps = refl
where_set false ps = refl

path : (ws : List (List ℕ)) → pieces_text (path_pieces ws) ≡ text.joined (codes "::") ws
path [] = refl
path (w ∷ []) = append-nil w
path (w ∷ v ∷ ws) = ap (λ u. w ++ 58 ∷ 58 ∷ u) (path (v ∷ ws)) ∙ sym (append_assoc w (codes "::") (text.joined (codes "::") (v ∷ ws)))

pub name_is : (n : TypeName) → pieces_text (name_pieces n) ≡ name_text n
name_is n = both (layout.where_set n.rooted _) (path_pieces n.path) (where_set n.rooted _) (path n.path)

-- the name of a method is its stem and its ending
ended : (t : Bool) (b : ℕ) → (if t then [] else b ∷ []) ++ pieces_text (if t then tok token.Mark (b ∷ []) ∷ [] else []) ≡ b ∷ []
ended true b = refl
ended false b = refl

stem_ending : (w : List ℕ) → stem w ++ pieces_text (ending w) ≡ w
stem_ending [] = refl
stem_ending (b ∷ []) = ended (is_ending b) b
stem_ending (b ∷ c ∷ w) = ap (λ v. b ∷ v) (stem_ending (c ∷ w))

operator : (w : List ℕ) → pieces_text (operator_pieces w) ≡ w
operator [] = refl
operator (b ∷ w) = ap (λ v. b ∷ v) (operator w)

either : (t : Bool) (ps qs : List Piece) (w : List ℕ) → pieces_text ps ≡ w → pieces_text qs ≡ w → pieces_text (if t then ps else qs) ≡ w
either true ps qs w e f = e
either false ps qs w e f = f

pub method_is : (w : List ℕ) → pieces_text (method_pieces w) ≡ w
method_is [] = refl
method_is (b ∷ w) = either (starts_word b) (word (stem (b ∷ w)) ∷ ending (b ∷ w)) (operator_pieces (b ∷ w)) (b ∷ w) (stem_ending (b ∷ w)) (operator (b ∷ w))
