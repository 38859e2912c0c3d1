-- Lines, what begins on a new one, and the notes above them.
use Rattle.std.proofs.Common.{ℕ, ◌-◌, ◌≡◌, refl, sym, ◌∙◌, ap, subst, Bool, false, List, [], ◌∷◌, ◌++◌, append_assoc, append-nil, length, take, arith, length-append}
use Rattle.std.specs.Prelude.{codes, slice_range, ◌&&◌}
use Rattle.std.proofs.Math.Seq.{take-append_seam}
use Rattle.sig_model.specs.declared.decl.Notes.{Notes}
use Rattle.rbs_lexer.specs.declared.token.TokenKind.TheVariants as token_kind
use Rattle.rbs_terminals.specs.declared.token.Token.{Token}
use Rattle.rbs_terminals.specs.declared.token.Spot.{Spot}
use Rattle.rbs_terminals.specs.declared.token.Gap.TheVariants as gap
use Rattle.rbs_terminals.specs.declared.token.Mark.TheVariants as mark
use Rattle.rbs_terminals.specs.declared.token.Kind.{Kind}
use Rattle.rbs_terminals.specs.declared.token.Kind.TheVariants as kind
use Rattle.rbs_terminals.specs.Kinds.{kind_at}
use Rattle.rbs_types.specs.Symbols.{on_line, scope_at, is_question}
use Rattle.rbs_declarations.specs.Words.{is_joined, vis_belongs, comments_at}
use Rattle.rbs_declarations.specs.Grammar.{Annotations, no_annotations, annotation, notes_at}
use Rattle.printed_tokens.specs.Pieces.{Piece, blank, tok, Line}
use Rattle.printed_tokens.specs.Layout.{annotated, noted}
use Rattle.printed_tokens.specs.Fits as fits
use Rattle.printed_tokens.specs.Fits.{Fits, FitsLine, FitsLines}
use Rattle.printed_signatures.proofs.Split.{first, onward}
use Rattle.printed_signatures.proofs.Sites.{Quiet}
use Rattle.printed_signatures.proofs.MethodNamesRead.{EndsMethod, apart_ends}

pub lines_split : (ls ms : List Line) (ts rest : List Token) → FitsLines (ls ++ ms) ts rest → (mid : List Token) × FitsLines ls ts mid × FitsLines ms mid rest
lines_split [] ms ts rest f = (ts, refl, f)
lines_split (l ∷ ls) ms ts rest f = let (mid, a, b) = lines_split ls ms f.0 rest f.2 in (mid, (f.0, f.1, a), b)

-- ---- what begins on a new line

-- nothing follows, or what follows begins on a new line and is no question mark
abbrev pub NewLine : List Token → Type 0
NewLine [] = Unit {0}
NewLine (c ∷ ts) = (c.spot.gap ≡ gap.Line) × (is_question c.kind ≡ false)

-- the pieces of a line begin with a token that is no question mark
abbrev pub Begins : List Piece → Type 0
Begins [] = ⊥
Begins (blank ∷ ps) = ⊥
Begins (tok k w ∷ ps) = is_question (kind_at k w) ≡ false

abbrev pub AllBegin : List Line → Type 0
AllBegin [] = Unit {0}
AllBegin (l ∷ ls) = Begins l.pieces × AllBegin ls

pub all_begin_append : (ls ms : List Line) → AllBegin ls → AllBegin ms → AllBegin (ls ++ ms)
all_begin_append [] ms a b = b
all_begin_append (l ∷ ls) ms a b = (a.0, all_begin_append ls ms a.1 b)

line_begins : (ps : List Piece) → Begins ps → (ts rest : List Token) → Fits gap.Line ps ts rest → NewLine ts
line_begins [] b ts rest f = absurd b
line_begins (blank ∷ ps) b ts rest f = absurd b
line_begins (tok k w ∷ ps) b [] rest f = absurd f
line_begins (tok k w ∷ ps) b (c ∷ ts) rest f = (f.1, ap is_question f.0 ∙ b)

pub new_line : (ls : List Line) → AllBegin ls → (ts rest : List Token) → FitsLines ls ts rest → NewLine rest → NewLine ts
new_line [] b ts rest e n = subst NewLine (sym e) n
new_line (l ∷ ls) b ts rest f n = line_begins l.pieces b.0 ts f.0 f.1.0

off_line : (s : Spot) → s.gap ≡ gap.Line → on_line s ≡ false
off_line s e = rw e

not_joined : (s : Spot) → s.gap ≡ gap.Line → is_joined s ≡ false
not_joined s e = rw e

scope_off : (k : Kind) (s : Spot) → s.gap ≡ gap.Line → scope_at k s ≡ false
scope_off (kind.Mark mark.Scope) s e = off_line s e
scope_off _ s e = refl

pub new_line_quiet : (ts : List Token) → NewLine ts → Quiet ts
new_line_quiet [] n = (refl, refl)
new_line_quiet (c ∷ ts) n = (scope_off c.kind c.spot n.0, n.1)

pub new_line_ends : (ts : List Token) → NewLine ts → EndsMethod ts
new_line_ends [] n = (refl, λ o. refl)
new_line_ends (c ∷ ts) n = apart_ends ts c.kind c.spot (not_joined c.spot n.0) (scope_off c.kind c.spot n.0)

neither : (a b : Bool) → a ≡ false → (a && b) ≡ false
neither a b e = rw e

pub new_line_vis : (ts : List Token) → NewLine ts → vis_belongs ts ≡ false
new_line_vis [] n = refl
new_line_vis (c ∷ ts) n = neither (on_line c.spot) _ (off_line c.spot n.0)

-- ---- notes

same_comments : (ts : List Token) → comments_at ts ≡ fits.comments_at ts
same_comments [] = refl
same_comments (c ∷ ts) = refl

note_text : (w : List ℕ) → slice_range (codes "%a{" ++ w ++ codes "}") 3 (length (codes "%a{" ++ w ++ codes "}") - 1) ≡ w
note_text w =
    let size : (length (codes "%a{" ++ w ++ codes "}") - 1) - 3 ≡ length w = omega (arith, length-append w (125 ∷ [])) in
    ap (λ n. take n (w ++ 125 ∷ [])) size ∙ take-append_seam w (125 ∷ [])

annotation_at : (w : List ℕ) → kind_at token_kind.Annotation (codes "%a{" ++ w ++ codes "}") ≡ kind.Annotation w
annotation_at w = ap kind.Annotation (note_text w)

pub annotated_read : (depth : ℕ) (comments : List (List ℕ)) (texts before : List (List ℕ)) (ps : List Piece) (ts rest : List Token) → FitsLines (annotated depth comments texts ps) ts rest
    → (mid : List Token) × Annotations before (before ++ texts) ts mid × Fits gap.Line ps mid rest × (comments_at ts ≡ comments)
annotated_read depth comments [] before ps ts rest f =
    (ts, subst (λ all. Annotations before all ts ts) (sym (append-nil before)) no_annotations, subst (Fits gap.Line ps ts) f.2 f.1.0, same_comments ts ∙ f.1.1)
annotated_read depth comments (w ∷ texts) before ps ts rest f =
    let (s, more, at, j, e) = first gap.Line token_kind.Annotation (codes "%a{" ++ w ++ codes "}") (kind.Annotation w) (annotation_at w) [] ts f.0 f.1.0 in
    let (mid, a, b, c) = annotated_read depth [] texts (before ++ w ∷ []) ps f.0 rest f.2 in
    let all = subst (λ all. Annotations (before ++ w ∷ []) all f.0 mid) (append_assoc before (w ∷ []) texts) a in
    (mid, subst (λ ts. Annotations before (before ++ w ∷ texts) ts mid) (sym (onward at e)) (annotation w s all), b, same_comments ts ∙ f.1.1)

-- the notes above a line are those that stand there
pub noted_read : (depth : ℕ) (n : Notes) (ps : List Piece) (ts rest : List Token) → FitsLines (noted depth n ps) ts rest
    → (mid : List Token) × Annotations [] n.annotations ts mid × Fits gap.Line ps mid rest × (notes_at ts n.annotations ≡ n)
noted_read depth n ps ts rest f =
    let (mid, a, b, c) = annotated_read depth n.comments n.annotations [] ps ts rest f in
    (mid, a, b, ap (λ comments. record { comments = comments; annotations = n.annotations }) c)

pub annotated_begins : (depth : ℕ) (comments texts : List (List ℕ)) (ps : List Piece) → Begins ps → AllBegin (annotated depth comments texts ps)
annotated_begins depth comments [] ps b = (b, tt)
annotated_begins depth comments (w ∷ texts) ps b = (refl, annotated_begins depth [] texts ps b)
