-- Files that were read.
use Rattle.std.proofs.Common.{ℕ, ◌≡◌, ◌≤◌, refl, sym, ◌∙◌, ap, subst, Bool, true, false, ◌&&◌, List, [], ◌∷◌, arith}
use Rattle.rbs_terminals.specs.declared.token.Token.{Token}
use Rattle.rbs_terminals.specs.declared.token.Kind.{Kind}
use Rattle.rbs_terminals.specs.declared.token.Kind.TheVariants as kind
use Rattle.sig_model.specs.PlainDecl as decl
use Rattle.sig_model.specs.PlainDecl.{PlainDecl, PlainDecls}
use Rattle.rbs_types.specs.Limits.{IsSmall, is_small}
use Rattle.rbs_types.specs.Answers.{last_end}
use Rattle.viable_prefixes.specs.Runs.{Each}
use Rattle.rbs_phrases.specs.Fronts.{Front, Whole, whole, end_behind, is_small_kind, all_small}
use Rattle.rbs_declarations.specs.Grammar.{and_decl, File, end_of_file, further}
use Rattle.rbs_declarations.specs.Heights.{decls_height}
use Rattle.rbs_declarations.specs.Openness.{file_open}
use Rattle.rbs_declarations.specs.Limits.{IsText}
use Rattle.rbs_declarations.proofs.Heights.{decls_and}
use Rattle.rbs_files.specs.Within.{IsDeclaration}
use Rattle.rbs_files.specs.Onward.{GrowsFile}

-- In the file of this number, which ends at the byte `last`.
module _ (room file last : ℕ) where
  pub file_grows : (before after : PlainDecls) (d : PlainDecl) (ts mid : List Token) → IsDeclaration room file last d ts mid → after ≡ and_decl before d → GrowsFile room file last before after ts mid
  file_grows before after d ts mid h e =
      let (declared, within, high) = h in
      let go : (all : PlainDecls) (w : File file last after all mid) → file_open w ≤ room → (w : File file last before all ts) × (file_open w ≤ room) =
      λ all w low.
      let (behind, low') = subst (λ (ds : PlainDecls). (w : File file last ds all mid) × (file_open w ≤ room)) e (w, low) in
      (further declared behind, omega arith) in
      (go, λ low. subst (λ (ds : PlainDecls). decls_height ds ≤ 200) (sym e) (omega (arith, decls_and before d)))

  pub file_start : (ds : PlainDecls) (ts : List Token) → GrowsFile room file last ds ds ts ts
  file_start ds ts = (λ all d low. (d, low), λ low. low)

  pub file_join : (cs ds es : PlainDecls) (ts mid rest : List Token) → GrowsFile room file last cs ds ts mid → GrowsFile room file last ds es mid rest → GrowsFile room file last cs es ts rest
  file_join cs ds es ts mid rest f g = (λ all d low. let w = g.0 all d low in f.0 all w.0 w.1, λ low. g.1 (f.1 low))

last_is : (n : ℕ) (c : Token) (ts : List Token) → end_behind n (c ∷ ts) ≡ last_end (c ∷ ts)
last_is n c [] = refl
last_is n c (d ∷ ts) = last_is c.spot.end d ts

end_is : (ts : List Token) → end_behind 0 ts ≡ last_end ts
end_is [] = refl
end_is (c ∷ ts) = last_is 0 c ts

small_kind : (k : Kind) → is_small_kind k ≡ true → is_small k
small_kind kind.PastInteger e = absurd (cc)
small_kind _ e = tt

both : (a b : Bool) → (a && b) ≡ true → (a ≡ true) × (b ≡ true)
both true b e = (refl, e)
both false b e = absurd (cc)

each_small : (ts : List Token) → all_small ts ≡ true → Each IsSmall ts
each_small [] e = tt
each_small (c ∷ ts) e =
    let (here, behind) = both (is_small_kind c.kind) (all_small ts) e in
    (small_kind c.kind here, each_small ts behind)

-- a whole file, from the place before its terminals to the one behind them
pub whole_file : (file : ℕ) (none ds es : PlainDecls) (ts : List Token) (f g : Front) → f ≡ record { rest = ts; end = 0; opened = 0 } → whole g ≡ whole f → g.rest ≡ [] → none ≡ decl.no_decls → es ≡ ds
    → GrowsFile 400 file (whole f).last none ds f.rest g.rest → IsText file es ts
whole_file file none ds es ts f g first kept ended new same h =
    let begun : GrowsFile 400 file (end_behind 0 ts) none ds ts g.rest = subst (λ (f : Front). GrowsFile 400 file (whole f).last none ds f.rest g.rest) first h in
    let finished : GrowsFile 400 file (end_behind 0 ts) decl.no_decls ds ts [] = rw (new, ended) at begun in
    let (go, low) = subst (λ (last : ℕ). GrowsFile 400 file last decl.no_decls ds ts []) (end_is ts) finished in
    let (w, within) = go ds end_of_file (omega arith) in
    let small : all_small ts ≡ true = sym (ap (λ (f : Front). all_small f.rest) first) ∙ sym (ap (λ (w : Whole). w.small) kept) ∙ ap all_small ended in
    let text : IsText file ds ts = record { written = w; height = low (omega arith); nested = within; small = each_small ts small } in
    subst (λ (ds : PlainDecls). IsText file ds ts) (sym same) text
