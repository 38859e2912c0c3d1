-- Where a declaration or a part begins, and in headings: steps that pass a token on, as it is not the one that may stand here.
use Rattle.std.proofs.Common.{ℕ, ◌≡◌, refl, sym, subst, List, [], Result}
use Rattle.rbs_terminals.specs.declared.token.Gap.{Gap}
use Rattle.rbs_terminals.specs.declared.token.Spot.{Spot}
use Rattle.rbs_terminals.specs.declared.token.Mark.TheVariants as mark
use Rattle.rbs_terminals.specs.declared.token.Keyword.{Keyword}
use Rattle.rbs_terminals.specs.declared.token.Keyword.TheVariants as keyword
use Rattle.rbs_terminals.specs.declared.token.Kind.{Kind}
use Rattle.rbs_terminals.specs.declared.token.Kind.TheVariants as kind
use Rattle.sig_model.specs.declared.ty.TypeName.{TypeName}
use Rattle.sig_model.specs.declared.decl.Notes.{Notes}
use Rattle.sig_model.specs.PlainTy as plain
use Rattle.sig_model.specs.PlainTy.{PlainTys}
use Rattle.sig_model.specs.PlainMember.{PlainParam}
use Rattle.sig_model.specs.PlainDecl.{PlainDecls}
use Rattle.rbs_types.specs.Plains.{and_ty}
use Rattle.rbs_declarations.specs.declared.refused.Stuck.{Stuck}
use Rattle.rbs_declarations.specs.declared.sites.Site.{Site}
use Rattle.rbs_declarations.specs.declared.state.Begun.{Begun}
use Rattle.rbs_declarations.specs.declared.state.Sort.{Sort}
use Rattle.rbs_declarations.specs.declared.state.Sort.TheVariants as sort
use Rattle.rbs_declarations.specs.declared.state.Frame.{Frame}
use Rattle.rbs_declarations.specs.declared.state.State.{State}
use Rattle.rbs_declarations.specs.Words.{vis_of}
use Rattle.rbs_declarations.specs.Machine.{site_of, opened, vis_begins, member_keyword, keyword_begins, begins, no_notes_at, part_begins, then_part, after_class_params, after_module_params, after_heading, after_name, with_parent, after_parent_name, with_selves, after_self, after_self_name}
use Rattle.rbs_declarations.specs.Does.{Does}
use Rattle.rbs_declarations.specs.Sites.{site_for, spot_at}

module _ (file : ℕ) (ds : PlainDecls) (fs : List Frame) where
  pub member_goes_on : (begun : Begun) (w : Keyword) (s : Spot) (r : Result State Stuck) → (w ≡ keyword.Def → ⊥) → (w ≡ keyword.Alias → ⊥) → (w ≡ keyword.SelfWord → ⊥)
      → Does (vis_begins file begun ds fs w s (vis_of w)) r → Does (member_keyword file begun ds fs w s) r
  member_goes_on begun keyword.Def s r e f g d = absurd (e refl)
  member_goes_on begun keyword.Alias s r e f g d = absurd (f refl)
  member_goes_on begun keyword.SelfWord s r e f g d = absurd (g refl)
  member_goes_on begun w s r e f g d = d

  pub keyword_goes_on : (n : Notes) (k : Kind) (w : Keyword) (x : Site) (b : ℕ) (g : Gap) (start end : ℕ) (cs : List (List ℕ)) (r : Result State Stuck) → k ≡ kind.Keyword w → site_for x ≡ site_of fs
      → Does (keyword_begins file (site_for x) (record { start = start; notes = n }) ds fs w (spot_at b g start end cs)) r → Does (begins file n ds fs k (spot_at b g start end cs)) r
  keyword_goes_on n k w x b g start end cs r q e d =
      subst (λ j. Does (begins file n ds fs j (spot_at b g start end cs)) r) (sym q) (subst (λ y. Does (keyword_begins file y (record { start = start; notes = n }) ds fs w (spot_at b g start end cs)) r) e d)

  pub unnoted_goes_on : (k : Kind) (s : Spot) (annotations : List (List ℕ)) (r : Result State Stuck) → annotations ≡ []
      → ((b : ℕ) (g : Gap) (cs : List (List ℕ)) → Does (begins file (record { comments = s.comments; annotations = annotations }) ds fs k (spot_at b g s.start s.end cs)) r) → Does (begins file (no_notes_at file s) ds fs k s) r
  unnoted_goes_on k s annotations r e d = subst (λ xs. Does (begins file (record { comments = s.comments; annotations = xs }) ds fs k s) r) e (d s.before s.gap s.comments)

  pub part_goes_on : (k : Kind) (s : Spot) (r : Result State Stuck) → (k ≡ kind.Keyword keyword.End → ⊥) → Does (begins file (no_notes_at file s) ds fs k s) r → Does (part_begins file ds fs k s) r
  part_goes_on (kind.Keyword keyword.End) s r e d = absurd (e refl)
  part_goes_on k s r e d = d

  module _ (begun : Begun) (n : TypeName) where
    pub name_goes_on : (x : Sort) (k : Kind) (s : Spot) (r : Result State Stuck) → (k ≡ kind.Mark mark.OpenSquare → ⊥) → Does (after_heading file begun x n [] ds fs k s) r → Does (after_name file begun x n ds fs k s) r
    name_goes_on x (kind.Mark mark.OpenSquare) s r e d = absurd (e refl)
    name_goes_on x k s r e d = d

    module _ (ps : List PlainParam) where
      pub class_goes_on : (k : Kind) (s : Spot) (r : Result State Stuck) → (k ≡ kind.Mark mark.Less → ⊥) → Does (then_part file (opened begun sort.Class n ps ds fs) k s) r → Does (after_class_params file begun n ps ds fs k s) r
      class_goes_on (kind.Mark mark.Less) s r e d = absurd (e refl)
      class_goes_on k s r e d = d

      pub module_goes_on : (k : Kind) (s : Spot) (r : Result State Stuck) → (k ≡ kind.Mark mark.Colon → ⊥) → Does (then_part file (opened begun sort.Module n ps ds fs) k s) r → Does (after_module_params file begun n ps ds fs k s) r
      module_goes_on (kind.Mark mark.Colon) s r e d = absurd (e refl)
      module_goes_on k s r e d = d

      pub parent_goes_on : (m : TypeName) (k : Kind) (s : Spot) (r : Result State Stuck) → (k ≡ kind.Mark mark.OpenSquare → ⊥) → Does (then_part file (with_parent file begun n ps (plain.name m plain.no_tys) ds fs) k s) r
          → Does (after_parent_name file begun n ps m ds fs k s) r
      parent_goes_on m (kind.Mark mark.OpenSquare) s r e d = absurd (e refl)
      parent_goes_on m k s r e d = d

      pub selves_go_on : (us : PlainTys) (k : Kind) (s : Spot) (r : Result State Stuck) → (k ≡ kind.Mark mark.Comma → ⊥) → Does (then_part file (with_selves file begun n ps us ds fs) k s) r → Does (after_self file begun n ps us ds fs k s) r
      selves_go_on us (kind.Mark mark.Comma) s r e d = absurd (e refl)
      selves_go_on us k s r e d = d

      pub self_goes_on : (us : PlainTys) (m : TypeName) (k : Kind) (s : Spot) (r : Result State Stuck) → (k ≡ kind.Mark mark.OpenSquare → ⊥) → Does (after_self file begun n ps (and_ty us (plain.name m plain.no_tys)) ds fs k s) r
          → Does (after_self_name file begun n ps us m ds fs k s) r
      self_goes_on us m (kind.Mark mark.OpenSquare) s r e d = absurd (e refl)
      self_goes_on us m k s r e d = d
