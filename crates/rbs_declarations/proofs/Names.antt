-- What the reader makes of a name of a type, with arguments or without, at each place where one may stand.
use Rattle.std.proofs.Common.{ℕ, max, ◌+◌, ◌≡◌, refl, ◌∙◌, ap, sym, subst, Bool, true, false, List, [], ◌∷◌, length, Option, None, arith}
use Rattle.rbs_terminals.specs.declared.token.Token.{Token}
use Rattle.rbs_terminals.specs.declared.token.Spot.{Spot}
use Rattle.rbs_terminals.specs.declared.token.Mark.TheVariants as mark
use Rattle.rbs_terminals.specs.declared.token.Kind.{Kind}
use Rattle.rbs_terminals.specs.declared.token.Kind.TheVariants as kind
use Rattle.sig_model.specs.declared.ty.TypeName.{TypeName}
use Rattle.sig_model.specs.declared.decl.MixKind.{MixKind}
use Rattle.sig_model.specs.PlainTy as plain
use Rattle.sig_model.specs.PlainTy.{PlainTy, PlainTys}
use Rattle.sig_model.specs.PlainMember.{PlainParam}
use Rattle.sig_model.specs.PlainDecl.{PlainDecls}
use Rattle.rbs_types.specs.Symbols.{token, sign, scope_at, scope_follows}
use Rattle.rbs_types.specs.Parts.{grown, no_name, root}
use Rattle.rbs_types.specs.Grammar.{Use, of_class, of_class_or_interface, ends_capital, ends_interface, ends_small, Words, capital, interface, small, outer, Name, relative, rooted, arguments_of}
use Rattle.rbs_types.specs.Machine.{start_arguments}
use Rattle.rbs_declarations.specs.declared.state.Begun.{Begun}
use Rattle.rbs_declarations.specs.declared.state.Step.TheVariants as step_at
use Rattle.rbs_declarations.specs.declared.state.Naming.{Naming}
use Rattle.rbs_declarations.specs.declared.state.Sort.{Sort}
use Rattle.rbs_declarations.specs.declared.state.Sort.TheVariants as sort
use Rattle.rbs_declarations.specs.declared.state.Frame.{Frame}
use Rattle.rbs_declarations.specs.declared.state.Owner.{Owner}
use Rattle.rbs_declarations.specs.declared.state.Param.{Param}
use Rattle.rbs_declarations.specs.declared.state.Purpose.{Purpose}
use Rattle.rbs_declarations.specs.declared.state.Purpose.TheVariants as purpose
use Rattle.rbs_declarations.specs.declared.state.Focus.{Focus}
use Rattle.rbs_declarations.specs.declared.state.Focus.TheVariants as focus
use Rattle.rbs_declarations.specs.declared.state.State.{State}
use Rattle.rbs_declarations.specs.Grammar.{Applied, unapplied, applied}
use Rattle.rbs_declarations.specs.Machine.{state_of, at, Progress, further, whole, before, naming_of, no_naming, whole_if, before_if, word_on, first_on, upper_on, use_of, site_of, mixin_use, name_goes, parent_goes, self_goes, bound_goes, bound_first, bound_class_goes, mixin_goes, after_whole, settled_type, step, whole_file, settled}
use Rattle.rbs_declarations.proofs.Borders.{unbracketed, Unbracketed}
use Rattle.rbs_declarations.specs.Needs.{sort_open, owner_open, purpose_open, opened}
use Rattle.rbs_declarations.specs.Openness.{types_open, applied_open}
use Rattle.rbs_declarations.proofs.OnTheWay.{Read, ended, at_least, over, flat, Calm, Rises}
use Rattle.rbs_declarations.proofs.Onward.{level, inside_open, reading, here, goes_on, feed, took, moved, behind, typed_read}

-- a keyword is no part of a name
abbrev pub no_keyword : Kind → Type 0
no_keyword (kind.Keyword k) = ⊥
no_keyword _ = Unit {0}

pub never : {P : Type 0} → false ≡ true → P
never e = absurd (cc)

-- a name may end with a word that no `::` can follow
abbrev pub ends_whole : Use → Bool
ends_whole of_class = false
ends_whole _ = true

interface_ends_whole : (u : Use) → ends_interface u ≡ true → ends_whole u ≡ true
interface_ends_whole of_class e = e
interface_ends_whole _ e = refl

small_ends_whole : (u : Use) → ends_small u ≡ true → ends_whole u ≡ true
small_ends_whole of_class e = e
small_ends_whole _ e = refl

-- In the file of this number, whose last token ends at the byte `last`.
module _ (file last : ℕ) where
  -- A place where a name may stand that may name as `u` says: where the reader stands inside the name and behind one that no token goes on with, and what a token does there.
  pub record Place (u : Use) (ds : PlainDecls) (fs : List Frame) : Type 0 where
    pub inside : Naming → Focus
    pub named : TypeName → Focus
    pub goes : Progress → Kind → Spot → Option State
    -- how many are open in and behind the name
    pub many : ℕ
    pub inside_many : (n : Naming) → opened (state_of (inside n) ds fs) ≡ many
    pub named_many : ends_whole u ≡ true → (n : TypeName) → opened (state_of (named n) ds fs) ≡ many
    pub inside_ends : (n : Naming) → settled file (inside n) last ds fs ≡ None
    pub named_ends : ends_whole u ≡ true → (n : TypeName) → settled file (named n) last ds fs ≡ None
    pub first : (k : Kind) (s : Spot) → no_keyword k → step file (inside no_naming) ds fs k s ≡ goes (first_on u no_name k) k s
    pub behind_scope : (n : TypeName) (k : Kind) (s : Spot) → step file (inside (naming_of n step_at.Scope)) ds fs k s ≡ goes (word_on u n k) k s
    pub behind_upper : (n : TypeName) (k : Kind) (s : Spot) → step file (inside (naming_of n step_at.Upper)) ds fs k s ≡ goes (upper_on u n (scope_at k s)) k s
    pub behind_named : ends_whole u ≡ true → (n : TypeName) (k : Kind) (s : Spot) → step file (named n) ds fs k s ≡ goes (before n) k s
    pub going_on : (n : Naming) (k : Kind) (s : Spot) → goes (further n) k s ≡ at (inside n) ds fs
    pub whole_named : ends_whole u ≡ true → (n : TypeName) (k : Kind) (s : Spot) → goes (whole n) k s ≡ at (named n) ds fs

  module _ {u : Use} {ds : PlainDecls} {fs : List Frame} (p : Place u ds fs) where
    -- behind a name
    abbrev pub behind_name : TypeName → List Token → Read
    behind_name n ts = feed file last (p.goes (before n)) ts

    named_read : ends_whole u ≡ true → (n : TypeName) (ts : List Token) → here file last (p.named n) ds fs ts ≡ behind_name n ts
    unfolding reading
    named_read e n [] = ap (λ o. ended (whole_file file o)) (p.named_ends e n)
    named_read e n (c ∷ ts) = took file last (p.named n) ds fs c ts (p.goes (before n) c.kind c.spot) (p.behind_named e n c.kind c.spot)

    -- a capital word ends a name that no `::` on its line goes on with
    upper_read : (n : TypeName) (ts : List Token) → ends_capital u ≡ true → scope_follows ts ≡ false → here file last (p.inside (naming_of n step_at.Upper)) ds fs ts ≡ behind_name n ts
    unfolding reading
    upper_read n [] e h = ap (λ o. ended (whole_file file o)) (p.inside_ends (naming_of n step_at.Upper))
    upper_read n (c ∷ ts) e h =
        took file last (p.inside (naming_of n step_at.Upper)) ds fs c ts (p.goes (before n) c.kind c.spot)
        (p.behind_upper n c.kind c.spot ∙ ap (λ b. p.goes (upper_on u n b) c.kind c.spot) h ∙ ap (λ b. p.goes (before_if b n) c.kind c.spot) e)

    -- a token that leads on inside of the name, or ends it
    inside_moved : (f : Focus) (c : Token) (ts : List Token) (n : Naming) → step file f ds fs c.kind c.spot ≡ at (p.inside n) ds fs → Calm p.many (here file last f ds fs (c ∷ ts)) (here file last (p.inside n) ds fs ts)
    inside_moved f c ts n e = subst (λ k. Calm k (here file last f ds fs (c ∷ ts)) (here file last (p.inside n) ds fs ts)) (p.inside_many n) (moved file last f ds fs c ts (p.inside n) e)

    named_moved : ends_whole u ≡ true → (f : Focus) (c : Token) (ts : List Token) (n : TypeName) → step file f ds fs c.kind c.spot ≡ at (p.named n) ds fs → Calm p.many (here file last f ds fs (c ∷ ts)) (behind_name n ts)
    named_moved h f c ts n e =
        subst (λ k. Calm k (here file last f ds fs (c ∷ ts)) (here file last (p.named n) ds fs ts)) (p.named_many h n) (moved file last f ds fs c ts (p.named n) e) ∙ ap (at_least p.many) (named_read h n ts)

    scope_read : {m : TypeName} {ts rest : List Token} (n : TypeName) → Words u n m ts rest → Calm p.many (here file last (p.inside (naming_of n step_at.Scope)) ds fs ts) (behind_name m rest)
    scope_read n (capital w s {rest = rest} e f) =
        inside_moved (p.inside (naming_of n step_at.Scope)) (token (kind.Upper w) s) rest (naming_of (grown n w) step_at.Upper) (p.behind_scope n (kind.Upper w) s ∙ p.going_on (naming_of (grown n w) step_at.Upper) (kind.Upper w) s)
        ∙ ap (at_least p.many) (upper_read (grown n w) rest e f)
    scope_read n (interface w s {rest = rest} e) =
        named_moved (interface_ends_whole u e) (p.inside (naming_of n step_at.Scope)) (token (kind.Interface w) s) rest (grown n w)
        (p.behind_scope n (kind.Interface w) s ∙ ap (λ b. p.goes (whole_if b (grown n w)) (kind.Interface w) s) e ∙ p.whole_named (interface_ends_whole u e) (grown n w) (kind.Interface w) s)
    scope_read n (small w s {rest = rest} e) =
        named_moved (small_ends_whole u e) (p.inside (naming_of n step_at.Scope)) (token (kind.Lower w) s) rest (grown n w)
        (p.behind_scope n (kind.Lower w) s ∙ ap (λ b. p.goes (whole_if b (grown n w)) (kind.Lower w) s) e ∙ p.whole_named (small_ends_whole u e) (grown n w) (kind.Lower w) s)
    scope_read n (outer w s s' {ts = ts} e d) =
        inside_moved (p.inside (naming_of n step_at.Scope)) (token (kind.Upper w) s) (sign mark.Scope s' ∷ ts) (naming_of (grown n w) step_at.Upper)
        (p.behind_scope n (kind.Upper w) s ∙ p.going_on (naming_of (grown n w) step_at.Upper) (kind.Upper w) s)
        ∙ inside_moved (p.inside (naming_of (grown n w) step_at.Upper)) (sign mark.Scope s') ts (naming_of (grown n w) step_at.Scope)
        (p.behind_upper (grown n w) (kind.Mark mark.Scope) s' ∙ ap (λ b. p.goes (upper_on u (grown n w) b) (kind.Mark mark.Scope) s') e ∙ p.going_on (naming_of (grown n w) step_at.Scope) (kind.Mark mark.Scope) s')
        ∙ scope_read (grown n w) d

    -- a name begins at once as behind a `::` that nothing stands before
    words_begun : {m : TypeName} {ts rest : List Token} → Words u no_name m ts rest → here file last (p.inside no_naming) ds fs ts ≡ here file last (p.inside (naming_of no_name step_at.Scope)) ds fs ts
    unfolding reading
    words_begun (capital w s {rest = rest} e f) = ap (λ o. goes_on file last o rest) (p.first (kind.Upper w) s tt ∙ sym (p.behind_scope no_name (kind.Upper w) s))
    words_begun (interface w s {rest = rest} e) = ap (λ o. goes_on file last o rest) (p.first (kind.Interface w) s tt ∙ sym (p.behind_scope no_name (kind.Interface w) s))
    words_begun (small w s {rest = rest} e) = ap (λ o. goes_on file last o rest) (p.first (kind.Lower w) s tt ∙ sym (p.behind_scope no_name (kind.Lower w) s))
    words_begun (outer w s s' {ts = ts} e d) = ap (λ o. goes_on file last o (sign mark.Scope s' ∷ ts)) (p.first (kind.Upper w) s tt ∙ sym (p.behind_scope no_name (kind.Upper w) s))

    pub name_read : {n : TypeName} {ts rest : List Token} → Name u n ts rest → Calm p.many (here file last (p.inside no_naming) ds fs ts) (behind_name n rest)
    name_read (relative d) = ap (at_least p.many) (words_begun d) ∙ scope_read no_name d
    name_read (rooted s {ts = ts} d) =
        inside_moved (p.inside no_naming) (sign mark.Scope s) ts (naming_of root step_at.Scope) (p.first (kind.Mark mark.Scope) s tt ∙ p.going_on (naming_of root step_at.Scope) (kind.Mark mark.Scope) s)
        ∙ scope_read root d

    -- ---- with arguments

    -- a name at this place may have arguments, and is a type for this purpose
    pub record Takes (x : Purpose) : Type 0 where
      pub bracket : (n : TypeName) (s : Spot) → p.goes (before n) (kind.Mark mark.OpenSquare) s ≡ at (focus.Typed x (start_arguments n)) ds fs
      pub bare : (n : TypeName) (k : Kind) (s : Spot) → unbracketed k → p.goes (before n) k s ≡ after_whole file x (plain.name n plain.no_tys) ds fs k s
      pub ends : (t : PlainTy) → whole_file file (settled_type file x t last ds fs) ≡ None
      pub deep : length fs + purpose_open x ≡ p.many

    bare_read : (x : Purpose) → Takes x → (n : TypeName) (rest : List Token) → Unbracketed rest → behind_name n rest ≡ behind file last x ds fs (plain.name n plain.no_tys) rest
    bare_read x a n [] h = ap ended (sym (a.ends (plain.name n plain.no_tys)))
    bare_read x a n (c ∷ rest) h = ap (λ o. goes_on file last o rest) (a.bare n c.kind c.spot h)

    pub applied_read : {t : PlainTy} {ts rest : List Token} (x : Purpose) → Takes x → (d : Applied u t ts rest) → Unbracketed rest
        → Rises p.many (applied_open d) (here file last (p.inside no_naming) ds fs ts) (behind file last x ds fs t rest)
    applied_read x a (unapplied {n = n} {rest = rest} d) h =
        flat (behind file last x ds fs (plain.name n plain.no_tys) rest) p.many (name_read d ∙ ap (at_least p.many) (bare_read x a n rest h))
    applied_read x a (applied {n = n} {us = us} s s' {mid = mid} {rest = rest} d l) h =
        let after : max p.many (inside_open x fs (types_open 1 mid rest)) ≡ p.many + types_open 1 mid rest = omega (arith, a.deep) in
        name_read d
        ∙ ap (λ o. at_least p.many (goes_on file last o mid)) (a.bracket n s)
        ∙ ap (at_least p.many) (typed_read file last x ds fs (arguments_of n) (plain.name n us) mid rest (us, s', refl, l) tt)
        ∙ over p.many (inside_open x fs (types_open 1 mid rest)) (p.many + types_open 1 mid rest) (behind file last x ds fs (plain.name n us) rest) after

  -- ---- the places

  abbrev pub declaration_place : (begun : Begun) (x : Sort) (ds : PlainDecls) (fs : List Frame) → Place (use_of x) ds fs
  declaration_place begun x ds fs = record {
    inside = λ m. focus.Name begun x m;
    named = λ m. focus.Named begun x m;
    goes = λ o k s. name_goes file begun x o ds fs k s;
    many = level (sort_open x) fs;
    inside_many = λ m. refl;
    named_many = λ e m. refl;
    inside_ends = λ m. refl;
    named_ends = λ e m. refl;
    first = λ k s h. refl;
    behind_scope = λ m k s. refl;
    behind_upper = λ m k s. refl;
    behind_named = λ e m k s. refl;
    going_on = λ m k s. refl;
    whole_named = λ e m k s. refl;
  }

  abbrev pub parent_place : (begun : Begun) (n : TypeName) (ps : List PlainParam) (ds : PlainDecls) (fs : List Frame) → Place of_class ds fs
  parent_place begun n ps ds fs = record {
    inside = λ m. focus.Parent begun n ps m;
    named = λ m. focus.Named begun sort.Class m;
    goes = λ o k s. parent_goes file begun n ps o ds fs k s;
    many = level 1 fs;
    inside_many = λ m. refl;
    named_many = λ e m. refl;
    inside_ends = λ m. refl;
    named_ends = λ e m. never e;
    first = λ k s h. refl;
    behind_scope = λ m k s. refl;
    behind_upper = λ m k s. refl;
    behind_named = λ e m k s. never e;
    going_on = λ m k s. refl;
    whole_named = λ e m k s. never e;
  }

  abbrev pub self_place : (begun : Begun) (n : TypeName) (ps : List PlainParam) (us : PlainTys) (ds : PlainDecls) (fs : List Frame) → Place of_class_or_interface ds fs
  self_place begun n ps us ds fs = record {
    inside = λ m. focus.SelfType begun n ps us m;
    named = λ m. focus.SelfNamed begun n ps us m;
    goes = λ o k s. self_goes file begun n ps us o ds fs k s;
    many = level 1 fs;
    inside_many = λ m. refl;
    named_many = λ e m. refl;
    inside_ends = λ m. refl;
    named_ends = λ e m. refl;
    first = λ k s h. refl;
    behind_scope = λ m k s. refl;
    behind_upper = λ m k s. refl;
    behind_named = λ e m k s. refl;
    going_on = λ m k s. refl;
    whole_named = λ e m k s. refl;
  }

  -- among the parts of a declaration that mixes in so
  abbrev pub mixin_place : (begun : Begun) (x : MixKind) (ds : PlainDecls) (fs : List Frame) (u : Use) → mixin_use (site_of fs) ≡ u → Place u ds fs
  mixin_place begun x ds fs u e = record {
    inside = λ m. focus.Mixin begun x m;
    named = λ m. focus.MixinNamed begun x m;
    goes = λ o k s. mixin_goes file begun x o ds fs k s;
    many = level 0 fs;
    inside_many = λ m. refl;
    named_many = λ e m. refl;
    inside_ends = λ m. refl;
    named_ends = λ e m. refl;
    first = λ k s h. ap (λ u. mixin_goes file begun x (first_on u no_name k) ds fs k s) e;
    behind_scope = λ m k s. ap (λ u. mixin_goes file begun x (word_on u m k) ds fs k s) e;
    behind_upper = λ m k s. ap (λ u. mixin_goes file begun x (upper_on u m (scope_at k s)) ds fs k s) e;
    behind_named = λ e m k s. refl;
    going_on = λ m k s. refl;
    whole_named = λ e m k s. refl;
  }

  -- a bound may be `singleton` too
  pub bound_begins : (o : Owner) (done : List PlainParam) (p : Param) (ds : PlainDecls) (fs : List Frame) (k : Kind) → no_keyword k
      → bound_first file o done p no_name ds fs k ≡ bound_goes file o done p (first_on of_class_or_interface no_name k) ds fs k
  bound_begins o done p ds fs (kind.Keyword k) h = absurd h
  bound_begins o done p ds fs _ h = refl

  abbrev pub bound_place : (o : Owner) (done : List PlainParam) (p : Param) (ds : PlainDecls) (fs : List Frame) → Place of_class_or_interface ds fs
  bound_place o done p ds fs = record {
    inside = λ m. focus.Bound o done p m;
    named = λ m. focus.BoundNamed o done p m;
    goes = λ x k s. bound_goes file o done p x ds fs k;
    many = level (owner_open o + 1) fs;
    inside_many = λ m. refl;
    named_many = λ e m. refl;
    inside_ends = λ m. refl;
    named_ends = λ e m. refl;
    first = λ k s h. bound_begins o done p ds fs k h;
    behind_scope = λ m k s. refl;
    behind_upper = λ m k s. refl;
    behind_named = λ e m k s. refl;
    going_on = λ m k s. refl;
    whole_named = λ e m k s. refl;
  }

  abbrev pub bound_class_place : (o : Owner) (done : List PlainParam) (p : Param) (ds : PlainDecls) (fs : List Frame) → Place of_class ds fs
  bound_class_place o done p ds fs = record {
    inside = λ m. focus.BoundClass o done p m;
    named = λ m. focus.BoundNamed o done p m;
    goes = λ x k s. bound_class_goes file o done p x ds fs k;
    many = level (owner_open o + 2) fs;
    inside_many = λ m. refl;
    named_many = λ e m. never e;
    inside_ends = λ m. refl;
    named_ends = λ e m. never e;
    first = λ k s h. refl;
    behind_scope = λ m k s. refl;
    behind_upper = λ m k s. refl;
    behind_named = λ e m k s. never e;
    going_on = λ m k s. refl;
    whole_named = λ e m k s. never e;
  }

  -- ---- the places where a name may have arguments

  parent_bare : (begun : Begun) (n : TypeName) (ps : List PlainParam) (ds : PlainDecls) (fs : List Frame) (m : TypeName) (k : Kind) (s : Spot) → unbracketed k → parent_goes file begun n ps (before m) ds fs k s ≡ after_whole file (purpose.Parent begun n ps) (plain.name m plain.no_tys) ds fs k s
  parent_bare begun n ps ds fs m (kind.Mark mark.OpenSquare) s h = absurd h
  parent_bare begun n ps ds fs m _ s h = refl

  pub parent_takes : (begun : Begun) (n : TypeName) (ps : List PlainParam) (ds : PlainDecls) (fs : List Frame) → Takes (parent_place begun n ps ds fs) (purpose.Parent begun n ps)
  parent_takes begun n ps ds fs = record {
    bracket = λ m s. refl;
    bare = λ m k s h. parent_bare begun n ps ds fs m k s h;
    ends = λ t. refl;
    deep = refl;
  }

  self_bare : (begun : Begun) (n : TypeName) (ps : List PlainParam) (us : PlainTys) (ds : PlainDecls) (fs : List Frame) (m : TypeName) (k : Kind) (s : Spot) → unbracketed k → self_goes file begun n ps us (before m) ds fs k s ≡ after_whole file (purpose.SelfType begun n ps us) (plain.name m plain.no_tys) ds fs k s
  self_bare begun n ps us ds fs m (kind.Mark mark.OpenSquare) s h = absurd h
  self_bare begun n ps us ds fs m _ s h = refl

  pub self_takes : (begun : Begun) (n : TypeName) (ps : List PlainParam) (us : PlainTys) (ds : PlainDecls) (fs : List Frame) → Takes (self_place begun n ps us ds fs) (purpose.SelfType begun n ps us)
  self_takes begun n ps us ds fs = record {
    bracket = λ m s. refl;
    bare = λ m k s h. self_bare begun n ps us ds fs m k s h;
    ends = λ t. refl;
    deep = refl;
  }

  mixin_bare : (begun : Begun) (x : MixKind) (ds : PlainDecls) (f : Frame) (fs : List Frame) (m : TypeName) (k : Kind) (s : Spot) → unbracketed k → mixin_goes file begun x (before m) ds (f ∷ fs) k s ≡ after_whole file (purpose.Mixin begun x) (plain.name m plain.no_tys) ds (f ∷ fs) k s
  mixin_bare begun x ds f fs m (kind.Mark mark.OpenSquare) s h = absurd h
  mixin_bare begun x ds f fs m _ s h = refl

  pub mixin_takes : (begun : Begun) (x : MixKind) (ds : PlainDecls) (f : Frame) (fs : List Frame) (u : Use) (e : mixin_use (site_of (f ∷ fs)) ≡ u) → Takes (mixin_place begun x ds (f ∷ fs) u e) (purpose.Mixin begun x)
  mixin_takes begun x ds f fs u e = record {
    bracket = λ m s. refl;
    bare = λ m k s h. mixin_bare begun x ds f fs m k s h;
    ends = λ t. refl;
    deep = omega arith;
  }

  bound_bare : (o : Owner) (done : List PlainParam) (p : Param) (ds : PlainDecls) (fs : List Frame) (m : TypeName) (k : Kind) (s : Spot) → unbracketed k → bound_goes file o done p (before m) ds fs k ≡ after_whole file (purpose.Bound o done p) (plain.name m plain.no_tys) ds fs k s
  bound_bare o done p ds fs m (kind.Mark mark.OpenSquare) s h = absurd h
  bound_bare o done p ds fs m _ s h = refl

  pub bound_takes : (o : Owner) (done : List PlainParam) (p : Param) (ds : PlainDecls) (fs : List Frame) → Takes (bound_place o done p ds fs) (purpose.Bound o done p)
  bound_takes o done p ds fs = record {
    bracket = λ m s. refl;
    bare = λ m k s h. bound_bare o done p ds fs m k s h;
    ends = λ t. refl;
    deep = omega arith;
  }
