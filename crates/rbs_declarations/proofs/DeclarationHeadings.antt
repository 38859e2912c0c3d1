-- What the reader makes of the heading of a declaration, behind its name.
use Rattle.std.proofs.Common.{ℕ, ◌+◌, ◌≡◌, refl, ◌∙◌, ap, List, [], ◌∷◌, Option, Some, None}
use Rattle.rbs_terminals.specs.declared.token.Token.{Token}
use Rattle.rbs_terminals.specs.declared.token.Spot.{Spot}
use Rattle.rbs_terminals.specs.declared.token.Mark.TheVariants as mark
use Rattle.rbs_terminals.specs.declared.token.Kind.{Kind}
use Rattle.rbs_terminals.specs.declared.token.Kind.TheVariants as kind
use Rattle.sig_model.specs.declared.ty.TypeName.{TypeName}
use Rattle.sig_model.specs.PlainTy as plain
use Rattle.sig_model.specs.PlainTy.{PlainTy, PlainTys}
use Rattle.sig_model.specs.PlainMember.{PlainParam}
use Rattle.sig_model.specs.PlainDecl.{PlainDecls}
use Rattle.rbs_types.specs.Symbols.{sign}
use Rattle.rbs_types.specs.Plains.{and_ty}
use Rattle.rbs_types.specs.Grammar.{Name}
use Rattle.rbs_declarations.specs.declared.state.Begun.{Begun}
use Rattle.rbs_declarations.specs.declared.state.Sort.{Sort}
use Rattle.rbs_declarations.specs.declared.state.Sort.TheVariants as sort
use Rattle.rbs_declarations.specs.declared.state.Heading.TheVariants as heading
use Rattle.rbs_declarations.specs.declared.state.Frame.{Frame}
use Rattle.rbs_declarations.specs.declared.state.Owner.TheVariants as owner
use Rattle.rbs_declarations.specs.declared.state.Purpose.TheVariants as purpose
use Rattle.rbs_declarations.specs.declared.state.Focus.TheVariants as focus
use Rattle.rbs_declarations.specs.Grammar.{Params, no_params, params, Parent, no_parent, parent, SelfTypes, last_self, more_selves, Selves, no_selves, selves}
use Rattle.rbs_declarations.specs.Machine.{at, no_naming, use_of, framed, opened, then_part, after_class_params, after_module_params, after_heading, params_begin, after_name, with_selves, after_self}
use Rattle.rbs_declarations.specs.Needs.{sort_open}
use Rattle.rbs_declarations.specs.Openness.{applied_open, params_open, parent_open, self_types_open, selves_open}
use Rattle.rbs_declarations.proofs.OnTheWay.{at_least, twice, flat, onward, Calm, Rises}
use Rattle.rbs_declarations.proofs.Borders.{stops, Stops, stops_unbracketed, unbracketed, Unbracketed}
use Rattle.rbs_declarations.proofs.Onward.{level, reading, here, goes_on, moved, behind}
use Rattle.rbs_declarations.proofs.Names.{declaration_place, parent_place, parent_takes, self_place, self_takes, behind_name, name_read, applied_read}
use Rattle.rbs_declarations.proofs.TypeParameters.{brackets_read}

-- In the file of this number, whose last token ends at the byte `last`; at the place with these declarations and frames.
module _ (file last : ℕ) (ds : PlainDecls) (fs : List Frame) where
  -- ---- the name

  named_is : (begun : Begun) (x : Sort) (n : TypeName) (ts : List Token) → behind_name file last (declaration_place file last begun x ds fs) n ts ≡ here file last (focus.Named begun x n) ds fs ts
  unfolding reading
  named_is begun x n [] = refl
  named_is begun x n (c ∷ ts) = refl

  pub declared_name_read : {n : TypeName} {ts rest : List Token} (begun : Begun) (x : Sort) → Name (use_of x) n ts rest → Calm (level (sort_open x) fs) (here file last (focus.Name begun x no_naming) ds fs ts) (here file last (focus.Named begun x n) ds fs rest)
  declared_name_read {n = n} {rest = rest} begun x d = name_read file last (declaration_place file last begun x ds fs) d ∙ ap (at_least (level (sort_open x) fs)) (named_is begun x n rest)

  -- ---- type parameters

  unparameterized : (begun : Begun) (x : Sort) (n : TypeName) (k : Kind) (s : Spot) → unbracketed k → after_name file begun x n ds fs k s ≡ after_heading file begun x n [] ds fs k s
  unparameterized begun x n (kind.Mark mark.OpenSquare) s h = absurd h
  unparameterized begun x n _ s h = refl

  unparameterized_read : (begun : Begun) (x : Sort) (n : TypeName) (ts : List Token) → Unbracketed ts
      → here file last (focus.Named begun x n) ds fs ts ≡ here file last (focus.Parameterized (owner.Heading begun x n) []) ds fs ts
  unfolding reading
  unparameterized_read begun x n [] h = refl
  unparameterized_read begun x n (c ∷ ts) h = ap (λ o. goes_on file last o ts) (unparameterized begun x n c.kind c.spot h)

  pub parameters_read : {ps : List PlainParam} {ts mid : List Token} (begun : Begun) (x : Sort) (n : TypeName) → params_begin file begun x n ds fs ≡ at (focus.Param (owner.Heading begun x n) []) ds fs → (p : Params ps ts mid) → Unbracketed mid
      → Rises (level (sort_open x) fs) (params_open p) (here file last (focus.Named begun x n) ds fs ts) (here file last (focus.Parameterized (owner.Heading begun x n) ps) ds fs mid)
  parameters_read {mid = mid} begun x n e no_params h =
      flat (here file last (focus.Parameterized (owner.Heading begun x n) []) ds fs mid) (level (sort_open x) fs) (ap (at_least (level (sort_open x) fs)) (unparameterized_read begun x n mid h))
  parameters_read begun x n e (params s s' d) h = brackets_read file last ds fs (focus.Named begun x n) (owner.Heading begun x n) s e d

  -- ---- the superclass

  orphaned : (begun : Begun) (n : TypeName) (ps : List PlainParam) (k : Kind) (s : Spot) → stops k → after_class_params file begun n ps ds fs k s ≡ then_part file (opened begun sort.Class n ps ds fs) k s
  orphaned begun n ps (kind.Mark mark.Less) s h = absurd h
  orphaned begun n ps _ s h = refl

  orphaned_read : (begun : Begun) (n : TypeName) (ps : List PlainParam) (ts : List Token) → Stops ts
      → here file last (focus.Parameterized (owner.Heading begun sort.Class n) ps) ds fs ts ≡ here file last focus.Parts ds (framed begun (heading.Class n ps None) ∷ fs) ts
  unfolding reading
  orphaned_read begun n ps [] h = refl
  orphaned_read begun n ps (c ∷ ts) h = ap (λ o. goes_on file last o ts) (orphaned begun n ps c.kind c.spot h)

  parented : (begun : Begun) (n : TypeName) (ps : List PlainParam) (t : PlainTy) (ts : List Token)
      → behind file last (purpose.Parent begun n ps) ds fs t ts ≡ here file last focus.Parts ds (framed begun (heading.Class n ps (Some t)) ∷ fs) ts
  unfolding reading
  parented begun n ps t [] = refl
  parented begun n ps t (c ∷ ts) = refl

  pub class_read : {t : Option PlainTy} {ts rest : List Token} (begun : Begun) (n : TypeName) (ps : List PlainParam) → (d : Parent t ts rest) → Stops rest
      → Rises (level 1 fs) (parent_open d) (here file last (focus.Parameterized (owner.Heading begun sort.Class n) ps) ds fs ts) (here file last focus.Parts ds (framed begun (heading.Class n ps t) ∷ fs) rest)
  class_read {rest = rest} begun n ps no_parent h =
      flat (here file last focus.Parts ds (framed begun (heading.Class n ps None) ∷ fs) rest) (level 1 fs) (ap (at_least (level 1 fs)) (orphaned_read begun n ps rest h))
  class_read {rest = rest} begun n ps (parent {t = t} s {ts = ts} d) h =
      moved file last (focus.Parameterized (owner.Heading begun sort.Class n) ps) ds fs (sign mark.Less s) ts (focus.Parent begun n ps no_naming) refl
      ∙ applied_read file last (parent_place file last begun n ps ds fs) (purpose.Parent begun n ps) (parent_takes file last begun n ps ds fs) d (stops_unbracketed rest h)
      ∙ ap (at_least (level 1 fs + applied_open d)) (parented begun n ps t rest)

  -- ---- self types

  selfless : (begun : Begun) (n : TypeName) (ps : List PlainParam) (k : Kind) (s : Spot) → stops k → after_module_params file begun n ps ds fs k s ≡ then_part file (opened begun sort.Module n ps ds fs) k s
  selfless begun n ps (kind.Mark mark.Colon) s h = absurd h
  selfless begun n ps _ s h = refl

  selfless_read : (begun : Begun) (n : TypeName) (ps : List PlainParam) (ts : List Token) → Stops ts
      → here file last (focus.Parameterized (owner.Heading begun sort.Module n) ps) ds fs ts ≡ here file last focus.Parts ds (framed begun (heading.Module n ps plain.no_tys) ∷ fs) ts
  unfolding reading
  selfless_read begun n ps [] h = refl
  selfless_read begun n ps (c ∷ ts) h = ap (λ o. goes_on file last o ts) (selfless begun n ps c.kind c.spot h)

  no_further : (begun : Begun) (n : TypeName) (ps : List PlainParam) (us : PlainTys) (k : Kind) (s : Spot) → stops k → after_self file begun n ps us ds fs k s ≡ then_part file (with_selves file begun n ps us ds fs) k s
  no_further begun n ps us (kind.Mark mark.Comma) s h = absurd h
  no_further begun n ps us _ s h = refl

  last_read : (begun : Begun) (n : TypeName) (ps : List PlainParam) (us : PlainTys) (t : PlainTy) (ts : List Token) → Stops ts
      → behind file last (purpose.SelfType begun n ps us) ds fs t ts ≡ here file last focus.Parts ds (framed begun (heading.Module n ps (and_ty us t)) ∷ fs) ts
  unfolding reading
  last_read begun n ps us t [] h = refl
  last_read begun n ps us t (c ∷ ts) h = ap (λ o. goes_on file last o ts) (no_further begun n ps (and_ty us t) c.kind c.spot h)

  selves_read : {before all : PlainTys} {ts rest : List Token} (begun : Begun) (n : TypeName) (ps : List PlainParam) → (d : SelfTypes before all ts rest) → Stops rest
      → Rises (level 1 fs) (self_types_open d) (here file last (focus.SelfType begun n ps before no_naming) ds fs ts) (here file last focus.Parts ds (framed begun (heading.Module n ps all) ∷ fs) rest)
  selves_read begun n ps (last_self {before = us} {t = t} {rest = rest} d) h =
      applied_read file last (self_place file last begun n ps us ds fs) (purpose.SelfType begun n ps us) (self_takes file last begun n ps us ds fs) d (stops_unbracketed rest h)
      ∙ ap (at_least (level 1 fs + applied_open d)) (last_read begun n ps us t rest h)
  selves_read {rest = rest} begun n ps (more_selves {before = us} {all = all} {t = t} s {mid = mid} d l) h =
      onward (behind file last (purpose.SelfType begun n ps us) ds fs t (sign mark.Comma s ∷ mid)) (here file last focus.Parts ds (framed begun (heading.Module n ps all) ∷ fs) rest)
      (level 1 fs) (applied_open d) (self_types_open l)
      (applied_read file last (self_place file last begun n ps us ds fs) (purpose.SelfType begun n ps us) (self_takes file last begun n ps us ds fs) d tt)
      (twice (level 1 fs) (here file last (focus.SelfType begun n ps (and_ty us t) no_naming) ds fs mid) ∙ selves_read begun n ps l h)

  pub module_read : {us : PlainTys} {ts rest : List Token} (begun : Begun) (n : TypeName) (ps : List PlainParam) → (d : Selves us ts rest) → Stops rest
      → Rises (level 1 fs) (selves_open d) (here file last (focus.Parameterized (owner.Heading begun sort.Module n) ps) ds fs ts) (here file last focus.Parts ds (framed begun (heading.Module n ps us) ∷ fs) rest)
  module_read {rest = rest} begun n ps no_selves h =
      flat (here file last focus.Parts ds (framed begun (heading.Module n ps plain.no_tys) ∷ fs) rest) (level 1 fs) (ap (at_least (level 1 fs)) (selfless_read begun n ps rest h))
  module_read begun n ps (selves s {ts = ts} l) h =
      moved file last (focus.Parameterized (owner.Heading begun sort.Module n) ps) ds fs (sign mark.Colon s) ts (focus.SelfType begun n ps plain.no_tys no_naming) refl ∙ selves_read begun n ps l h

  pub interface_read : (begun : Begun) (n : TypeName) (ps : List PlainParam) (ts : List Token)
      → here file last (focus.Parameterized (owner.Heading begun sort.Interface n) ps) ds fs ts ≡ here file last focus.Parts ds (framed begun (heading.Interface n ps) ∷ fs) ts
  unfolding reading
  interface_read begun n ps [] = refl
  interface_read begun n ps (c ∷ ts) = refl
