-- What the reader makes of type parameters, of a declaration or of an overload.
use Rattle.std.proofs.Common.{ℕ, max, ◌+◌, ◌≡◌, refl, ◌∙◌, ap, Bool, true, false, if◌then◌else◌, List, [], ◌∷◌, ◌++◌, Option, Some, None, arith}
use Rattle.rbs_terminals.specs.declared.token.Token.{Token}
use Rattle.rbs_terminals.specs.declared.token.Spot.{Spot}
use Rattle.rbs_terminals.specs.declared.token.Mark.TheVariants as mark
use Rattle.rbs_terminals.specs.declared.token.Keyword.{Keyword}
use Rattle.rbs_terminals.specs.declared.token.Keyword.TheVariants as keyword
use Rattle.rbs_terminals.specs.declared.token.Kind.{Kind}
use Rattle.rbs_terminals.specs.declared.token.Kind.TheVariants as kind
use Rattle.sig_model.specs.declared.decl.Variance.{Variance}
use Rattle.sig_model.specs.declared.decl.Variance.TheVariants as variance
use Rattle.sig_model.specs.PlainTy as plain
use Rattle.sig_model.specs.PlainTy.{PlainTy}
use Rattle.sig_model.specs.PlainMember.{PlainParam}
use Rattle.sig_model.specs.PlainDecl.{PlainDecls}
use Rattle.rbs_types.specs.Symbols.{token, sign, word}
use Rattle.rbs_declarations.specs.declared.state.Frame.{Frame}
use Rattle.rbs_declarations.specs.declared.state.Owner.{Owner}
use Rattle.rbs_declarations.specs.declared.state.Param as the_param
use Rattle.rbs_declarations.specs.declared.state.Purpose.TheVariants as purpose
use Rattle.rbs_declarations.specs.declared.state.Focus.{Focus}
use Rattle.rbs_declarations.specs.declared.state.Focus.TheVariants as focus
use Rattle.rbs_declarations.specs.Words.{variance_of}
use Rattle.rbs_declarations.specs.Grammar.{Unchecked, checked, unchecked, Varied, fixed, varied, Bound, unbound, bound, bound_single, is_new_param, Param, param, ParamList, last_param, more_params}
use Rattle.rbs_declarations.specs.Machine as machine
use Rattle.rbs_declarations.specs.Machine.{at, step, no_naming, and_param, param_named, param_begins, after_param, after_param_name}
use Rattle.rbs_declarations.specs.Needs.{owner_open}
use Rattle.rbs_declarations.specs.Openness.{applied_open, bound_open, param_open, param_list_open}
use Rattle.rbs_declarations.proofs.OnTheWay.{at_least, over, flat, onward, Calm, Rises}
use Rattle.rbs_declarations.proofs.Borders.{unbracketed, Unbracketed}
use Rattle.rbs_declarations.proofs.Onward.{level, reading, here, goes_on, took, moved, behind}
use Rattle.rbs_declarations.proofs.Names.{bound_place, bound_class_place, bound_takes, name_read, applied_read}

-- a comma, or the bracket that closes type parameters
abbrev pub ends_param : Kind → Type 0
ends_param (kind.Mark mark.Comma) = Unit {0}
ends_param (kind.Mark mark.CloseSquare) = Unit {0}
ends_param _ = ⊥

abbrev pub EndsParam : List Token → Type 0
EndsParam [] = ⊥
EndsParam (c ∷ ts) = ends_param c.kind

-- In the file of this number, whose last token ends at the byte `last`; at the place with these declarations and frames.
module _ (file last : ℕ) (ds : PlainDecls) (fs : List Frame) where
  -- what is open among the parameters
  abbrev pub among : Owner → ℕ
  among o = level (owner_open o + 1) fs

  -- ---- before the name

  abbrev named_as : List ℕ → Bool → Variance → the_param.Param
  named_as w u v = record { name = w; unchecked = u; variance = v }

  new_name : (o : Owner) (done : List PlainParam) (u : Bool) (v : Variance) (w : List ℕ) → is_new_param w done ≡ true
      → param_named file o done u v ds fs (kind.Upper w) ≡ at (focus.ParamName o done (named_as w u v)) ds fs
  new_name o done u v w h = ap (λ b. if b then at (focus.ParamName o done (named_as w u v)) ds fs else None) h

  first_varied : (o : Owner) (done : List PlainParam) (k : Keyword) (v : Variance) → variance_of k ≡ Some v → param_begins file o done ds fs (kind.Keyword k) ≡ at (focus.Varied o done false v) ds fs
  first_varied o done keyword.Unchecked v e = absurd (cc)
  first_varied o done k v e = ap (machine.varied file o done false ds fs (kind.Keyword k)) e

  varied_read : {v : Variance} {w : List ℕ} {s : Spot} {ts rest : List Token} (o : Owner) (done : List PlainParam) → Varied v ts (token (kind.Upper w) s ∷ rest) → is_new_param w done ≡ true
      → Calm (among o) (here file last (focus.Unchecked o done) ds fs ts) (here file last (focus.ParamName o done (named_as w true v)) ds fs rest)
  varied_read {w = w} {s = s} {rest = rest} o done fixed h =
      moved file last (focus.Unchecked o done) ds fs (token (kind.Upper w) s) rest (focus.ParamName o done (named_as w true variance.Fixed)) (new_name o done true variance.Fixed w h)
  varied_read {w = w} {s = s'} {rest = rest} o done (varied k v s e) h =
      moved file last (focus.Unchecked o done) ds fs (word k s) (token (kind.Upper w) s' ∷ rest) (focus.Varied o done true v) (ap (machine.varied file o done true ds fs (kind.Keyword k)) e)
      ∙ moved file last (focus.Varied o done true v) ds fs (token (kind.Upper w) s') rest (focus.ParamName o done (named_as w true v)) (new_name o done true v w h)

  -- up to the name
  unchecked_read : {u : Bool} {v : Variance} {w : List ℕ} {s : Spot} {ts mid rest : List Token} (o : Owner) (done : List PlainParam) → Unchecked u ts mid → Varied v mid (token (kind.Upper w) s ∷ rest) → is_new_param w done ≡ true
      → Calm (among o) (here file last (focus.Param o done) ds fs ts) (here file last (focus.ParamName o done (named_as w u v)) ds fs rest)
  unchecked_read {w = w} {s = s} {rest = rest} o done checked fixed h =
      moved file last (focus.Param o done) ds fs (token (kind.Upper w) s) rest (focus.ParamName o done (named_as w false variance.Fixed)) (new_name o done false variance.Fixed w h)
  unchecked_read {w = w} {s = s'} {rest = rest} o done checked (varied k v s e) h =
      moved file last (focus.Param o done) ds fs (word k s) (token (kind.Upper w) s' ∷ rest) (focus.Varied o done false v) (first_varied o done k v e)
      ∙ moved file last (focus.Varied o done false v) ds fs (token (kind.Upper w) s') rest (focus.ParamName o done (named_as w false v)) (new_name o done false v w h)
  unchecked_read {mid = mid} o done (unchecked s) d h = moved file last (focus.Param o done) ds fs (word keyword.Unchecked s) mid (focus.Unchecked o done) refl ∙ varied_read o done d h

  -- ---- the bound

  param_unbracketed : (k : Kind) → ends_param k → unbracketed k
  param_unbracketed (kind.Mark mark.OpenSquare) h = h
  param_unbracketed _ h = tt

  params_unbracketed : (ts : List Token) → EndsParam ts → Unbracketed ts
  params_unbracketed [] h = absurd h
  params_unbracketed (c ∷ ts) h = param_unbracketed c.kind h

  unbound_ends : (o : Owner) (done : List PlainParam) (p : the_param.Param) (k : Kind) → ends_param k → after_param_name file o done p ds fs k ≡ after_param file o (and_param done p None) ds fs k
  unbound_ends o done p (kind.Mark mark.Less) h = absurd h
  unbound_ends o done p _ h = refl

  unbound_read : (o : Owner) (done : List PlainParam) (p : the_param.Param) (rest : List Token) → EndsParam rest
      → here file last (focus.ParamName o done p) ds fs rest ≡ here file last (focus.Bounded o (and_param done p None)) ds fs rest
  unfolding reading
  unbound_read o done p [] h = absurd h
  unbound_read o done p (c ∷ rest) h = ap (λ x. goes_on file last x rest) (unbound_ends o done p c.kind h)

  bounded_read : (o : Owner) (done : List PlainParam) (p : the_param.Param) (t : PlainTy) (rest : List Token)
      → behind file last (purpose.Bound o done p) ds fs t rest ≡ here file last (focus.Bounded o (and_param done p (Some t))) ds fs rest
  unfolding reading
  bounded_read o done p t [] = refl
  bounded_read o done p t (c ∷ rest) = refl

  bound_read : {b : Option PlainTy} {ts rest : List Token} (o : Owner) (done : List PlainParam) (p : the_param.Param) → (d : Bound b ts rest) → EndsParam rest
      → Rises (among o) (bound_open d) (here file last (focus.ParamName o done p) ds fs ts) (here file last (focus.Bounded o (and_param done p b)) ds fs rest)
  bound_read {rest = rest} o done p unbound h =
      flat (here file last (focus.Bounded o (and_param done p None)) ds fs rest) (among o) (ap (at_least (among o)) (unbound_read o done p rest h))
  bound_read {rest = rest} o done p (bound {t = t} s {ts = ts} d) h =
      moved file last (focus.ParamName o done p) ds fs (sign mark.Less s) ts (focus.Bound o done p no_naming) refl
      ∙ applied_read file last (bound_place file last o done p ds fs) (purpose.Bound o done p) (bound_takes file last o done p ds fs) d (params_unbracketed rest h)
      ∙ ap (at_least (among o + applied_open d)) (bounded_read o done p t rest)
  bound_read {rest = rest} o done p (bound_single {n = n} s s' s'' s''' {ts = ts} d) h =
      let inside : ℕ = level (owner_open o + 2) fs in
      let opens : max (among o) inside ≡ inside = omega arith in
      let closes : max inside (among o) ≡ among o + 1 = omega arith in
      moved file last (focus.ParamName o done p) ds fs (sign mark.Less s) (word keyword.Singleton s' ∷ sign mark.Open s'' ∷ ts) (focus.Bound o done p no_naming) refl
      ∙ moved file last (focus.Bound o done p no_naming) ds fs (word keyword.Singleton s') (sign mark.Open s'' ∷ ts) (focus.BoundSingleton o done p) refl
      ∙ ap (at_least (among o)) (took file last (focus.BoundSingleton o done p) ds fs (sign mark.Open s'') ts (at (focus.BoundClass o done p no_naming) ds fs) refl)
      ∙ over (among o) inside inside (here file last (focus.BoundClass o done p no_naming) ds fs ts) opens
      ∙ name_read file last (bound_class_place file last o done p ds fs) d
      ∙ over inside (among o) (among o + 1) (here file last (focus.Bounded o (and_param done p (Some (plain.single n)))) ds fs rest) closes

  -- ---- parameters

  param_read : {p : PlainParam} {ts rest : List Token} (o : Owner) (done : List PlainParam) → (d : Param p ts rest) → is_new_param p.name done ≡ true → EndsParam rest
      → Rises (among o) (param_open d) (here file last (focus.Param o done) ds fs ts) (here file last (focus.Bounded o (done ++ p ∷ [])) ds fs rest)
  param_read o done (param {u = u} {v = v} w s d e b) h f = unchecked_read o done d e h ∙ bound_read o done (named_as w u v) b f

  -- up to the bracket that closes them
  params_read : {all : List PlainParam} {s : Spot} {ts rest : List Token} (o : Owner) (done : List PlainParam) → (d : ParamList done all ts (sign mark.CloseSquare s ∷ rest))
      → Rises (among o) (param_list_open d) (here file last (focus.Param o done) ds fs ts) (here file last (focus.Parameterized o all) ds fs rest)
  params_read {s = s} {rest = rest} o done (last_param {p = p} n d) =
      let all : List PlainParam = done ++ p ∷ [] in
      let before : ℕ = among o + param_open d in
      let lower : max before (level (owner_open o) fs) ≡ before = omega arith in
      param_read o done d n tt
      ∙ ap (at_least before) (took file last (focus.Bounded o all) ds fs (sign mark.CloseSquare s) rest (at (focus.Parameterized o all) ds fs) refl)
      ∙ over before (level (owner_open o) fs) before (here file last (focus.Parameterized o all) ds fs rest) lower
  params_read {rest = rest} o done (more_params {all = whole} {p = p} s {mid = mid} n d l) =
      let all : List PlainParam = done ++ p ∷ [] in
      onward (here file last (focus.Bounded o all) ds fs (sign mark.Comma s ∷ mid)) (here file last (focus.Parameterized o whole) ds fs rest) (among o) (param_open d) (param_list_open l)
      (param_read o done d n tt)
      (moved file last (focus.Bounded o all) ds fs (sign mark.Comma s) mid (focus.Param o all) refl ∙ params_read o all l)

  -- with the brackets, where they may stand
  pub brackets_read : {all : List PlainParam} {s' : Spot} {ts rest : List Token} (f : Focus) (o : Owner) (s : Spot) → step file f ds fs (kind.Mark mark.OpenSquare) s ≡ at (focus.Param o []) ds fs → (d : ParamList [] all ts (sign mark.CloseSquare s' ∷ rest))
      → Rises (level (owner_open o) fs) (1 + param_list_open d) (here file last f ds fs (sign mark.OpenSquare s ∷ ts)) (here file last (focus.Parameterized o all) ds fs rest)
  brackets_read {all = all} {ts = ts} {rest = rest} f o s e d =
      let before : ℕ = level (owner_open o) fs in
      let most : max before (among o + param_list_open d) ≡ before + (1 + param_list_open d) = omega arith in
      ap (at_least before) (took file last f ds fs (sign mark.OpenSquare s) ts (at (focus.Param o []) ds fs) e ∙ params_read o [] d)
      ∙ over before (among o + param_list_open d) (before + (1 + param_list_open d)) (here file last (focus.Parameterized o all) ds fs rest) most
