-- Notes that were read.
use Rattle.std.proofs.Common.{ℕ, ◌≡◌, sym, ◌∙◌, ap, subst, List, [], ◌∷◌, ◌++◌}
use Rattle.rbs_terminals.specs.declared.token.Token.{Token}
use Rattle.rbs_terminals.specs.declared.token.Spot.{Spot}
use Rattle.rbs_terminals.specs.declared.token.Kind.{Kind}
use Rattle.rbs_terminals.specs.declared.token.Kind.TheVariants as kind
use Rattle.sig_model.specs.declared.decl.Notes.{Notes}
use Rattle.rbs_types.specs.Symbols.{token}
use Rattle.rbs_declarations.specs.Grammar.{Annotations, no_annotations, annotation, notes_at}
use Rattle.rbs_declarations.specs.Words.{comments_at}
use Rattle.rbs_files.specs.declared.notes.Noted.{Noted}
use Rattle.rbs_files.specs.Onward.{IsNoted, Annotated}

-- an annotation, and what goes on behind it
pub annotated : (before after all : List (List ℕ)) (k : Kind) (w : List ℕ) (c : Token) (ts mid rest : List Token) → k ≡ kind.Annotation w → after ≡ before ++ w ∷ [] → ts ≡ c ∷ mid
    → Annotations after all (c ∷ mid) rest → (s : Spot) → Annotations before all (token k s ∷ ts) rest
annotated before after all k w c ts mid rest is more next d s =
    let behind : Annotations (before ++ w ∷ []) all (c ∷ mid) rest = subst (λ (n : List (List ℕ)). Annotations n all (c ∷ mid) rest) more d in
    let whole : Annotations before all (token (kind.Annotation w) s ∷ c ∷ mid) rest = annotation w s behind in
    rw (is, next) whole

-- all notes, by what stood first
pub all_noted : (m n : Noted) (end : ℕ) (ts mid rest : List Token) (s s' : Spot) → ts ≡ token m.kind s ∷ mid → m.notes ≡ notes_at ts [] → n.notes.comments ≡ m.notes.comments → n.start ≡ s'.start → end ≡ s'.end
    → Annotated m mid s n rest s' → IsNoted n end ts rest
all_noted m n end ts mid rest s s' next notes comments start stop go =
    let texts = n.notes.annotations in
    let none : m.notes.annotations ≡ [] = ap (λ (x : Notes). x.annotations) notes in
    let behind : Annotations m.notes.annotations texts (token m.kind s ∷ mid) (token n.kind s' ∷ rest) = go texts (token n.kind s' ∷ rest) no_annotations in
    let whole : Annotations [] texts (token m.kind s ∷ mid) (token n.kind s' ∷ rest) = subst (λ (x : List (List ℕ)). Annotations x texts (token m.kind s ∷ mid) (token n.kind s' ∷ rest)) none behind in
    let same : n.notes.comments ≡ comments_at ts = comments ∙ ap (λ (x : Notes). x.comments) notes in
    let all : n.notes ≡ notes_at ts texts = ap (λ (x : List (List ℕ)). record { comments = x; annotations = texts }) same in
    (texts, s', subst (λ ts. Annotations [] texts ts (token n.kind s' ∷ rest)) (sym next) whole, all, start, stop)
