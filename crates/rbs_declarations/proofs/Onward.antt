-- What the reader makes of the text from a place on; and of a type there, and what stands behind it. How many are open on the way is told as well.
use Rattle.std.proofs.Common.{ℕ, max, ◌+◌, ◌-◌, ◌≡◌, refl, ◌∙◌, ap, Bool, List, [], ◌∷◌, length, take, Option, Some, None, arith}
use Rattle.rbs_terminals.specs.declared.token.Token.{Token}
use Rattle.rbs_terminals.specs.declared.token.Spot.{Spot}
use Rattle.rbs_terminals.specs.declared.token.Kind.{Kind}
use Rattle.sig_model.specs.declared.ty.TypeName.{TypeName}
use Rattle.sig_model.specs.declared.decl.Vis.{Vis}
use Rattle.sig_model.specs.declared.decl.AttrKind.{AttrKind}
use Rattle.sig_model.specs.PlainTy.{PlainTy}
use Rattle.sig_model.specs.PlainMember.{PlainParam, PlainMember, attr, ivar}
use Rattle.sig_model.specs.PlainDecl as decl
use Rattle.sig_model.specs.PlainDecl.{PlainDecl, PlainBody, PlainDecls}
use Rattle.rbs_types.specs.declared.state.State.{State as TypeState}
use Rattle.rbs_types.specs.Grammar.{type, Spells, Phrase, a_type, Spelled}
use Rattle.rbs_types.specs.Machine as types
use Rattle.rbs_types.specs.Machine.{start, start_of}
use Rattle.rbs_types.specs.Needs.{depth}
use Rattle.rbs_types.proofs.Through.{taken, through}
use Rattle.rbs_types.proofs.Complete.{FollowsPhrase, phrase_read}
use Rattle.rbs_declarations.specs.declared.state.Begun.{Begun}
use Rattle.rbs_declarations.specs.declared.state.Frame.{Frame}
use Rattle.rbs_declarations.specs.declared.state.Purpose.{Purpose}
use Rattle.rbs_declarations.specs.declared.state.Purpose.TheVariants as purpose
use Rattle.rbs_declarations.specs.declared.state.Focus.{Focus}
use Rattle.rbs_declarations.specs.declared.state.Focus.TheVariants as focus
use Rattle.rbs_declarations.specs.declared.state.State.{State}
use Rattle.rbs_declarations.specs.Words.{end_at}
use Rattle.rbs_declarations.specs.Machine.{state_of, at, with_decl, place_from, declared, membered, part_begins, settled_type, after_whole, typed_on, step, next, after_final, type_ended, whole_file, final}
use Rattle.rbs_declarations.specs.Needs.{purpose_open, opened}
use Rattle.rbs_declarations.specs.Openness.{most_open, types_open}
use Rattle.rbs_declarations.proofs.Borders.{Stops, type_followed}
use Rattle.rbs_declarations.proofs.OnTheWay.{Read, ended, at_least, counted, over, twice, Calm, Rises}
use Rattle.rbs_declarations.proofs.Spans.{Stop, stop_at, stop, most_behind, most_until, most_until_is}

-- what is open at a place behind a heading, where the focus opens so many
abbrev pub level : ℕ → List Frame → ℕ
level k fs = length fs + (k + 0)

-- at a place of a type where so many are open in the type
abbrev pub inside_open : Purpose → List Frame → ℕ → ℕ
inside_open p fs n = length fs + (purpose_open p + n)

-- In the file of this number, whose last token ends at the byte `last`.
module _ (file last : ℕ) where
  -- from where a token led
  abbrev pub led_on : Option State → (State → Read) → Read
  led_on None f = ended None
  led_on (Some m) f = at_least (opened m) (f m)

  -- what is read from a state on
  unfoldable pub reading : State → List Token → Read
  reading m [] = ended (final file last m)
  reading m (c ∷ ts) = led_on (next file m c) (λ e. reading e ts)

  abbrev pub here : Focus → PlainDecls → List Frame → List Token → Read
  here f ds fs ts = reading (state_of f ds fs) ts

  abbrev pub goes_on : Option State → List Token → Read
  goes_on o ts = led_on o (λ m. reading m ts)

  -- what it does with the text where it is given what its next token does, and nothing is whole if the text ends here
  abbrev pub feed : (Kind → Spot → Option State) → List Token → Read
  feed f [] = ended None
  feed f (c ∷ ts) = goes_on (f c.kind c.spot) ts

  -- a token that the place takes
  pub took : (f : Focus) (ds : PlainDecls) (fs : List Frame) (c : Token) (ts : List Token) (o : Option State) → step file f ds fs c.kind c.spot ≡ o → here f ds fs (c ∷ ts) ≡ goes_on o ts
  unfolding reading
  took f ds fs c ts o h = ap (λ o. goes_on o ts) h

  -- and that leads to a place where no more are open
  pub moved : (f : Focus) (ds : PlainDecls) (fs : List Frame) (c : Token) (ts : List Token) (g : Focus) → step file f ds fs c.kind c.spot ≡ at g ds fs
      → Calm (opened (state_of g ds fs)) (here f ds fs (c ∷ ts)) (here g ds fs ts)
  moved f ds fs c ts g h = ap (at_least (opened (state_of g ds fs))) (took f ds fs c ts (at g ds fs) h) ∙ twice (opened (state_of g ds fs)) (here g ds fs ts)

  -- ---- behind what is whole

  abbrev pub declared_on : Begun → ℕ → PlainBody → PlainDecls → List Frame → List Token → Read
  declared_on begun e b ds fs ts = reading (declared file begun e b ds fs) ts

  abbrev pub membered_on : Begun → ℕ → PlainMember → PlainDecls → List Frame → List Token → Read
  membered_on begun e m ds fs ts = reading (membered file begun e m ds fs) ts

  -- behind a declaration
  declared_before : (ds : PlainDecls) (fs : List Frame) (d : PlainDecl) (c : Token) (ts : List Token)
      → goes_on (part_begins file (with_decl ds fs d).decls (with_decl ds fs d).frames c.kind c.spot) ts ≡ reading (with_decl ds fs d) (c ∷ ts)
  unfolding reading
  declared_before ds [] d c ts = refl
  declared_before ds (f ∷ fs) d c ts = refl

  declared_last : (ds : PlainDecls) (fs : List Frame) (d : PlainDecl) → ended (whole_file file (Some (with_decl ds fs d))) ≡ reading (with_decl ds fs d) []
  unfolding reading
  declared_last ds [] d = refl
  declared_last ds (f ∷ fs) d = refl

  -- ---- types

  -- behind a type that is whole
  abbrev pub behind : Purpose → PlainDecls → List Frame → PlainTy → List Token → Read
  behind p ds fs t [] = ended (whole_file file (settled_type file p t last ds fs))
  behind p ds fs t (c ∷ ts) = goes_on (after_whole file p t ds fs c.kind c.spot) ts

  -- where the type is whole, if it is
  abbrev behind_stop : Purpose → PlainDecls → List Frame → Option Stop → Read
  behind_stop p ds fs (Some x) = behind p ds fs x.0 x.1
  behind_stop p ds fs None = ended None

  typed_ended : (p : Purpose) (ds : PlainDecls) (fs : List Frame) (o : Option PlainTy) → ended (whole_file file (type_ended file p o last ds fs)) ≡ behind_stop p ds fs (stop_at o [])
  typed_ended p ds fs (Some t) = refl
  typed_ended p ds fs None = refl

  typed_refused : (p : Purpose) (ds : PlainDecls) (fs : List Frame) (o : Option PlainTy) (c : Token) (ts : List Token) → goes_on (after_final file p o ds fs c.kind c.spot) ts ≡ behind_stop p ds fs (stop_at o (c ∷ ts))
  typed_refused p ds fs (Some t) c ts = refl
  typed_refused p ds fs None c ts = refl

  typed_taken : (p : Purpose) (ds : PlainDecls) (fs : List Frame) (i : TypeState) (o : Option TypeState) (c : Token) (ts : List Token)
      → ((m : TypeState) → at_least (inside_open p fs (depth m).sure) (here (focus.Typed p m) ds fs ts) ≡ at_least (inside_open p fs (most_until m ts)) (behind_stop p ds fs (stop m ts)))
      → at_least (inside_open p fs (depth i).sure) (goes_on (typed_on file p i o ds fs c.kind c.spot) ts)
      ≡ at_least (inside_open p fs (most_behind (depth i).sure o (λ m. most_until m ts))) (behind_stop p ds fs (taken o (λ m. stop m ts) (stop_at (types.final i) (c ∷ ts))))
  typed_taken p ds fs i (Some m) c ts h =
      let e : max (inside_open p fs (depth i).sure) (inside_open p fs (most_until m ts)) ≡ inside_open p fs (max (depth i).sure (most_until m ts)) = omega arith in
      ap (at_least (inside_open p fs (depth i).sure)) (h m) ∙ over (inside_open p fs (depth i).sure) (inside_open p fs (most_until m ts)) (inside_open p fs (max (depth i).sure (most_until m ts))) (behind_stop p ds fs (stop m ts)) e
  typed_taken p ds fs i None c ts h = ap (at_least (inside_open p fs (depth i).sure)) (typed_refused p ds fs (types.final i) c ts)

  typed_stops : (p : Purpose) (ds : PlainDecls) (fs : List Frame) (i : TypeState) (ts : List Token)
      → at_least (inside_open p fs (depth i).sure) (here (focus.Typed p i) ds fs ts) ≡ at_least (inside_open p fs (most_until i ts)) (behind_stop p ds fs (stop i ts))
  unfolding reading stop through most_until
  typed_stops p ds fs i [] = ap (at_least (inside_open p fs (depth i).sure)) (typed_ended p ds fs (types.final i))
  typed_stops p ds fs i (c ∷ ts) = typed_taken p ds fs i (types.next i c) c ts (λ m. typed_stops p ds fs m ts)

  -- the reader takes the phrase and hands on what stands behind it
  pub typed_read : (p : Purpose) (ds : PlainDecls) (fs : List Frame) (x : Phrase) (t : PlainTy) (ts rest : List Token) → Spelled x t ts rest → FollowsPhrase x rest
      → at_least (inside_open p fs (depth (start_of x)).sure) (here (focus.Typed p (start_of x)) ds fs ts)
      ≡ at_least (inside_open p fs (most_open (depth (start_of x)) (take (length ts - length rest) ts))) (behind p ds fs t rest)
  unfolding stop
  typed_read p ds fs x t ts rest d f =
      let stops : stop (start_of x) ts ≡ Some (t, rest) = phrase_read (λ t rest. Some (t, rest)) None x t ts rest d f in
      typed_stops p ds fs (start_of x) ts
      ∙ ap (λ o. at_least (inside_open p fs (most_until (start_of x) ts)) (behind_stop p ds fs o)) stops
      ∙ counted (behind p ds fs t rest) (ap (inside_open p fs) (most_until_is (start_of x) ts (t, rest) stops))

  -- and a type that begins at the place
  pub type_read : (p : Purpose) (ds : PlainDecls) (fs : List Frame) {t : PlainTy} {ts rest : List Token} → purpose_open p ≡ 0 → Spells type t ts rest → FollowsPhrase a_type rest
      → Rises (level 0 fs) (types_open 0 ts rest) (here (focus.Typed p start) ds fs ts) (behind p ds fs t rest)
  type_read p ds fs {t = t} {ts = ts} {rest = rest} e d f =
      let before : level 0 fs ≡ inside_open p fs 0 = omega arith in
      let after : inside_open p fs (types_open 0 ts rest) ≡ level 0 fs + types_open 0 ts rest = omega arith in
      counted (here (focus.Typed p start) ds fs ts) before ∙ typed_read p ds fs a_type t ts rest d f ∙ counted (behind p ds fs t rest) after

  -- ---- declarations that end with a type

  pub alias_read : {t : PlainTy} {ts rest : List Token} (begun : Begun) (n : TypeName) (ps : List PlainParam) (ds : PlainDecls) (fs : List Frame) → Spells type t ts rest → Stops rest
      → Rises (level 0 fs) (types_open 0 ts rest) (here (focus.Typed (purpose.Alias begun n ps) start) ds fs ts) (declared_on begun (end_at last rest) (decl.alias n ps t) ds fs rest)
  alias_read {t = t} {ts = ts} {rest = []} begun n ps ds fs d h =
      type_read (purpose.Alias begun n ps) ds fs refl d tt ∙ ap (at_least (level 0 fs + types_open 0 ts [])) (declared_last ds fs (decl.decl (place_from file begun last) begun.notes (decl.alias n ps t)))
  alias_read {t = t} {ts = ts} {rest = c ∷ rest} begun n ps ds fs d h =
      type_read (purpose.Alias begun n ps) ds fs refl d (type_followed (c ∷ rest) h)
      ∙ ap (at_least (level 0 fs + types_open 0 ts (c ∷ rest))) (declared_before ds fs (decl.decl (place_from file begun c.spot.before) begun.notes (decl.alias n ps t)) c rest)

  pub constant_read : {t : PlainTy} {ts rest : List Token} (begun : Begun) (n : TypeName) (ds : PlainDecls) (fs : List Frame) → Spells type t ts rest → Stops rest
      → Rises (level 0 fs) (types_open 0 ts rest) (here (focus.Typed (purpose.Constant begun n) start) ds fs ts) (declared_on begun (end_at last rest) (decl.const n t) ds fs rest)
  constant_read {t = t} {ts = ts} {rest = []} begun n ds fs d h =
      type_read (purpose.Constant begun n) ds fs refl d tt ∙ ap (at_least (level 0 fs + types_open 0 ts [])) (declared_last ds fs (decl.decl (place_from file begun last) begun.notes (decl.const n t)))
  constant_read {t = t} {ts = ts} {rest = c ∷ rest} begun n ds fs d h =
      type_read (purpose.Constant begun n) ds fs refl d (type_followed (c ∷ rest) h)
      ∙ ap (at_least (level 0 fs + types_open 0 ts (c ∷ rest))) (declared_before ds fs (decl.decl (place_from file begun c.spot.before) begun.notes (decl.const n t)) c rest)

  -- ---- members that end with a type, in the innermost declaration

  pub attribute_read : {t : PlainTy} {ts rest : List Token} (begun : Begun) (v : Option Vis) (a : AttrKind) (w : List ℕ) (ds : PlainDecls) (f : Frame) (fs : List Frame) → Spells type t ts rest → Stops rest
      → Rises (level 0 (f ∷ fs)) (types_open 0 ts rest) (here (focus.Typed (purpose.Attribute begun v a w) start) ds (f ∷ fs) ts) (membered_on begun (end_at last rest) (attr v a w t) ds (f ∷ fs) rest)
  unfolding reading
  attribute_read {t = t} {ts = ts} {rest = []} begun v a w ds f fs d h = type_read (purpose.Attribute begun v a w) ds (f ∷ fs) refl d tt
  attribute_read {t = t} {ts = ts} {rest = c ∷ rest} begun v a w ds f fs d h = type_read (purpose.Attribute begun v a w) ds (f ∷ fs) refl d (type_followed (c ∷ rest) h)

  pub variable_read : {t : PlainTy} {ts rest : List Token} (begun : Begun) (single : Bool) (w : List ℕ) (ds : PlainDecls) (f : Frame) (fs : List Frame) → Spells type t ts rest → Stops rest
      → Rises (level 0 (f ∷ fs)) (types_open 0 ts rest) (here (focus.Typed (purpose.Variable begun single w) start) ds (f ∷ fs) ts) (membered_on begun (end_at last rest) (ivar single w t) ds (f ∷ fs) rest)
  unfolding reading
  variable_read {t = t} {ts = ts} {rest = []} begun single w ds f fs d h = type_read (purpose.Variable begun single w) ds (f ∷ fs) refl d tt
  variable_read {t = t} {ts = ts} {rest = c ∷ rest} begun single w ds f fs d h = type_read (purpose.Variable begun single w) ds (f ∷ fs) refl d (type_followed (c ∷ rest) h)
