-- Each state can be finished, at the height that it needs, by tokens that open nothing but what is forced.
use Rattle.std.proofs.Common.{ℕ, ◌≤◌, ◌≡◌, refl, ◌∙◌, ap, Bool, true, false, if◌then◌else◌, List, [], ◌∷◌, Some, None, arith}
use Rattle.rbs_terminals.specs.declared.token.Token.{Token}
use Rattle.rbs_terminals.specs.declared.token.Mark.TheVariants as mark
use Rattle.rbs_terminals.specs.declared.token.Keyword.TheVariants as keyword
use Rattle.rbs_terminals.specs.declared.token.Kind.TheVariants as kind
use Rattle.sig_model.specs.declared.ty.TypeName.{TypeName}
use Rattle.sig_model.specs.declared.ty.BaseTy.TheVariants as base
use Rattle.sig_model.specs.PlainTy as plain
use Rattle.sig_model.specs.PlainTy.{PlainTy, PlainKeys}
use Rattle.sig_model.specs.Height.{height}
use Rattle.rbs_types.specs.declared.state.Parameters.{Parameters}
use Rattle.rbs_types.specs.declared.state.Listed.{Listed}
use Rattle.rbs_types.specs.declared.state.Head.{Head}
use Rattle.rbs_types.specs.declared.state.Level.{Level}
use Rattle.rbs_types.specs.declared.state.Owner.{Owner}
use Rattle.rbs_types.specs.declared.state.Slot.TheVariants as slot
use Rattle.rbs_types.specs.declared.state.Frame.{Frame}
use Rattle.rbs_types.specs.declared.state.Frame.TheVariants as frame
use Rattle.rbs_types.specs.declared.state.Opening.{Opening}
use Rattle.rbs_types.specs.declared.state.Opening.TheVariants as opening
use Rattle.rbs_types.specs.declared.state.Focus.{Focus}
use Rattle.rbs_types.specs.declared.state.Focus.TheVariants as focus
use Rattle.rbs_types.specs.declared.state.State.{State}
use Rattle.rbs_types.specs.Symbols.{token, sign, word}
use Rattle.rbs_types.specs.Parts.{grown, no_name, closed, nothing_listed, takes_optional}
use Rattle.rbs_types.specs.Machine.{at, ground, result_level, headed, word_begins, next, final}
use Rattle.rbs_types.specs.Depth.{surely, OpenAtMost}
use Rattle.rbs_types.specs.Needs.{owned, up, need, depth, reach}
use Rattle.viable_prefixes.specs.Runs.{reads, Each}
use Rattle.rbs_types.specs.Limits.{IsSmall}
use Rattle.rbs_types.proofs.Fresh.{fresh, fresh_is_new}
use Rattle.rbs_types.proofs.Finishes.{Finishes, first}
use Rattle.rbs_types.proofs.Closing.{here, placed, whole_of, whole_among, behind_bare, behind_upper, behind_optional, by_nil, by_arrow, by_result, closing, simples_end}

-- `A`
capital : Token
capital = token (kind.Upper (65 ∷ [])) here

-- `a`
small : Token
small = token (kind.Lower (97 ∷ [])) here

finish_type : (level : Level) (frames : List Frame) → Finishes (placed (focus.Type level) frames)
finish_type level frames = by_nil level frames (simples_end frames (plain.base base.Nil) level)

finish_bare : (n : TypeName) (level : Level) (frames : List Frame) → Finishes (placed (focus.Bare n level) frames)
finish_bare n level frames = closing frames (focus.Bare n level) (whole_of level (plain.name n plain.no_tys)) (behind_bare n level frames)

finish_upper : (n : TypeName) (level : Level) (frames : List Frame) → Finishes (placed (focus.Upper n level) frames)
finish_upper n level frames = closing frames (focus.Upper n level) (whole_of level (plain.name n plain.no_tys)) (behind_upper n level frames)

finish_scope : (n : TypeName) (level : Level) (frames : List Frame) → Finishes (placed (focus.Scope n level) frames)
unfolding small
finish_scope n level frames = first {m = placed (focus.Bare (grown n (97 ∷ [])) level) frames} small (record { goes = refl; tall = refl; deep = refl; far = omega arith; small = tt }) (finish_bare _ level frames)

-- ---- `singleton`

finish_singleton_upper : (n : TypeName) (level : Level) (frames : List Frame) → Finishes (placed (focus.SingletonUpper n level) frames)
finish_singleton_upper n level frames =
    first (sign mark.Close here) (record { goes = refl; tall = refl; deep = ap surely (omega arith); far = omega arith; small = tt }) (simples_end frames (plain.single n) level)

finish_singleton_scope : (n : TypeName) (level : Level) (frames : List Frame) → Finishes (placed (focus.SingletonScope n level) frames)
unfolding capital
finish_singleton_scope n level frames = first capital (record { goes = refl; tall = refl; deep = refl; far = omega arith; small = tt }) (finish_singleton_upper (grown n (65 ∷ [])) level frames)

finish_singleton_open : (level : Level) (frames : List Frame) → Finishes (placed (focus.SingletonOpen level) frames)
unfolding capital
finish_singleton_open level frames =
    first capital (record { goes = refl; tall = refl; deep = ap surely (omega arith); far = omega arith; small = tt }) (finish_singleton_upper (grown no_name (65 ∷ [])) level frames)

finish_singleton : (level : Level) (frames : List Frame) → Finishes (placed (focus.Singleton level) frames)
finish_singleton level frames = first (sign mark.Open here) (record { goes = refl; tall = refl; deep = refl; far = omega arith; small = tt }) (finish_singleton_open level frames)

-- ---- brackets that were just opened

finish_paren : (level : Level) (frames : List Frame) → Finishes (placed (focus.Paren level) frames)
finish_paren level frames =
    first (word keyword.Nil here) (record { goes = refl; tall = refl; deep = ap surely (omega arith); far = omega arith; small = tt }) (simples_end (frame.Paren level ∷ frames) (plain.base base.Nil) ground)

finish_tuple : (level : Level) (frames : List Frame) → Finishes (placed (focus.Tuple level) frames)
finish_tuple level frames =
    first (sign mark.CloseSquare here) (record { goes = refl; tall = refl; deep = ap surely (omega arith); far = omega arith; small = tt }) (simples_end frames (plain.tuple plain.no_tys) level)

finish_record : (level : Level) (frames : List Frame) → Finishes (placed (focus.Record level) frames)
finish_record level frames =
    first (sign mark.CloseBrace here) (record { goes = refl; tall = refl; deep = ap surely (omega arith); far = omega arith; small = tt }) (simples_end frames (plain.rec plain.no_keys) level)

-- ---- keys

finish_key_name : (done : PlainKeys) (key : List ℕ) (needed : Bool) (level : Level) (frames : List Frame) → Finishes (placed (focus.KeyName done key needed level) frames)
finish_key_name done key needed level frames =
    first (sign mark.Colon here) (record { goes = refl; tall = refl; deep = ap surely (omega arith); far = omega arith; small = tt }) (finish_type ground (frame.Record done key needed level ∷ frames))

-- a name that is no key's
unused : PlainKeys → Token
unused ks = token (kind.Lower (fresh ks)) here

finish_key : (done : PlainKeys) (level : Level) (frames : List Frame) → Finishes (placed (focus.Key done level) frames)
unfolding unused
finish_key done level frames =
    first (unused done) (record { goes = ap (λ b. if b then at (focus.KeyName done (fresh done) true level) frames else None) (fresh_is_new done); tall = refl; deep = refl; far = omega arith; small = tt })
    (finish_key_name done (fresh done) true level frames)

finish_key_question : (done : PlainKeys) (level : Level) (frames : List Frame) → Finishes (placed (focus.KeyQuestion done level) frames)
unfolding unused
finish_key_question done level frames =
    first (unused done) (record { goes = ap (λ b. if b then at (focus.KeyName done (fresh done) false level) frames else None) (fresh_is_new done); tall = refl; deep = refl; far = omega arith; small = tt })
    (finish_key_name done (fresh done) false level frames)

-- ---- parameters

finish_listed : (l : Listed) (o : Owner) (frames : List Frame) → Finishes (placed (focus.Listed l o) frames)
finish_listed l o frames = by_result l o frames (simples_end frames)

finish_parameters : (o : Owner) (frames : List Frame) → Finishes (placed (focus.Parameters o) frames)
finish_parameters o frames = first (sign mark.Close here) (record { goes = refl; tall = refl; deep = refl; far = omega arith; small = tt }) (finish_listed nothing_listed o frames)

finish_parameter : (before : Parameters) (o : Owner) (frames : List Frame) → Finishes (placed (focus.Parameter before o) frames)
finish_parameter before o frames =
    first (sign mark.DoubleStar here) (record { goes = refl; tall = refl; deep = ap surely (omega arith); far = omega arith; small = tt }) (finish_type ground (frame.Parameter before slot.KeyRest o ∷ frames))

finish_parameter_key : (before : Parameters) (needed : Bool) (key : List ℕ) (o : Owner) (frames : List Frame) → Finishes (placed (focus.ParameterKey before needed key o) frames)
finish_parameter_key before needed key o frames =
    first (sign mark.Colon here) (record { goes = refl; tall = refl; deep = ap surely (omega arith); far = omega arith; small = tt }) (finish_type ground (frame.Parameter before (slot.Key key needed) o ∷ frames))

finish_parameter_word : (before : Parameters) (needed : Bool) (w : List ℕ) (begun : Opening) (o : Owner) (frames : List Frame) → Finishes (placed (focus.ParameterWord before needed w begun o) frames)
finish_parameter_word before needed w begun o frames =
    first (sign mark.Colon here) (record { goes = refl; tall = refl; deep = ap surely (omega arith); far = omega arith; small = tt }) (finish_type ground (frame.Parameter before (slot.Key w needed) o ∷ frames))

-- the new name of a keyword, which may begin a type too where an optional parameter may stand
finish_parameter_question : (before : Parameters) (o : Owner) (frames : List Frame) → Finishes (placed (focus.ParameterQuestion before o) frames)
unfolding unused
finish_parameter_question before o frames = by_takes (takes_optional before) refl
  where
    by_takes : (b : Bool) → takes_optional before ≡ b → Finishes (placed (focus.ParameterQuestion before o) frames)
    by_takes true e =
        first (unused before.keys) (record { goes = ap (λ b. word_begins before false b (fresh before.keys) (Some opening.Alias) o frames) e; tall = refl; deep = refl; far = omega arith; small = tt })
        (finish_parameter_word before false (fresh before.keys) opening.Alias o frames)
    by_takes false e =
        first (unused before.keys)
        (record {
          goes = ap (λ b. word_begins before false b (fresh before.keys) (Some opening.Alias) o frames) e ∙ ap (λ b. if b then at (focus.ParameterKey before false (fresh before.keys) o) frames else None) (fresh_is_new before.keys);
          tall = refl;
          deep = refl;
          far = omega arith;
          small = tt;
        })
        (finish_parameter_key before false (fresh before.keys) o frames)

finish_parameter_named : (p : Parameters) (o : Owner) (frames : List Frame) → Finishes (placed (focus.ParameterNamed p o) frames)
finish_parameter_named p o frames =
    first (sign mark.Close here) (record { goes = refl; tall = ap (λ n. up frames (owned o n)) (omega arith); deep = ap surely (omega arith); far = omega arith; small = tt }) (finish_listed (closed p) o frames)

finish_key_rest_named : (l : Listed) (o : Owner) (frames : List Frame) → Finishes (placed (focus.KeyRestNamed l o) frames)
finish_key_rest_named l o frames =
    first (sign mark.Close here) (record { goes = refl; tall = refl; deep = ap surely (omega arith); far = omega arith; small = tt }) (finish_listed l o frames)

-- ---- functions

finish_headed : (h : Head) (level : Level) (frames : List Frame) → Finishes (placed (focus.Headed h level) frames)
finish_headed h level frames = by_arrow h level frames (simples_end frames (plain.base base.Nil) (headed h level))

finish_function : (level : Level) (frames : List Frame) → Finishes (placed (focus.Function level) frames)
finish_function level frames =
    first (sign mark.Arrow here) (record { goes = refl; tall = refl; deep = refl; far = omega arith; small = tt }) (finish_type (headed (record { listed = nothing_listed; block = plain.no_block }) level) frames)

finish_block : (needed : Bool) (outer : Listed) (level : Level) (frames : List Frame) → Finishes (placed (focus.Block needed outer level) frames)
finish_block needed outer level frames =
    first (sign mark.Arrow here) (record { goes = refl; tall = refl; deep = ap surely (omega arith); far = omega arith; small = tt }) (finish_type result_level (frame.Block needed nothing_listed outer level ∷ frames))

finish_block_question : (outer : Listed) (level : Level) (frames : List Frame) → Finishes (placed (focus.BlockQuestion outer level) frames)
finish_block_question outer level frames =
    first (sign mark.OpenBrace here) (record { goes = refl; tall = refl; deep = ap surely (omega arith); far = omega arith; small = tt }) (finish_block false outer level frames)

-- ---- all

finish_at : (f : Focus) (frames : List Frame) → Finishes (placed f frames)
finish_at (focus.Type level) frames = finish_type level frames
finish_at (focus.Scope n level) frames = finish_scope n level frames
finish_at (focus.Upper n level) frames = finish_upper n level frames
finish_at (focus.Bare n level) frames = finish_bare n level frames
finish_at (focus.Singleton level) frames = finish_singleton level frames
finish_at (focus.SingletonOpen level) frames = finish_singleton_open level frames
finish_at (focus.SingletonScope n level) frames = finish_singleton_scope n level frames
finish_at (focus.SingletonUpper n level) frames = finish_singleton_upper n level frames
finish_at (focus.Paren level) frames = finish_paren level frames
finish_at (focus.Tuple level) frames = finish_tuple level frames
finish_at (focus.Record level) frames = finish_record level frames
finish_at (focus.Key done level) frames = finish_key done level frames
finish_at (focus.KeyQuestion done level) frames = finish_key_question done level frames
finish_at (focus.KeyName done key needed level) frames = finish_key_name done key needed level frames
finish_at (focus.Simple t level) frames = simples_end frames t level
finish_at (focus.Optional t ms) frames = closing frames (focus.Optional t ms) (whole_among ms t) (behind_optional t ms frames)
finish_at (focus.Function level) frames = finish_function level frames
finish_at (focus.Parameters o) frames = finish_parameters o frames
finish_at (focus.Parameter before o) frames = finish_parameter before o frames
finish_at (focus.ParameterQuestion before o) frames = finish_parameter_question before o frames
finish_at (focus.ParameterWord before needed w begun o) frames = finish_parameter_word before needed w begun o frames
finish_at (focus.ParameterKey before needed w o) frames = finish_parameter_key before needed w o frames
finish_at (focus.ParameterNamed p o) frames = finish_parameter_named p o frames
finish_at (focus.KeyRestNamed l o) frames = finish_key_rest_named l o frames
finish_at (focus.Listed l o) frames = finish_listed l o frames
finish_at (focus.BlockQuestion outer level) frames = finish_block_question outer level frames
finish_at (focus.Block needed outer level) frames = finish_block needed outer level frames
finish_at (focus.Headed h level) frames = finish_headed h level frames

-- inside a longer text, and alone
pub finish : (s : State) → Finishes s
finish s = finish_at s.focus s.frames

-- as a whole text
pub finish_reads : (s : State)
    → (w : List Token) × (t : PlainTy) × (reads next final s w ≡ Some t) × (height t ≡ need s) × ((limit : ℕ) → reach s ≤ limit → OpenAtMost limit (depth s) w) × Each IsSmall w
finish_reads s = let e = finish s in (e.w, e.t, e.alone, e.tall, e.within, e.small)
