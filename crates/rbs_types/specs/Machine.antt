-- A reader of types that takes one token at a time, without limits.
use Rattle.std.specs.Prelude.{ℕ, Bool, true, false, pos, if◌then◌else◌, List, [], ◌∷◌, Option, Some, None}
use Rattle.rbs_terminals.specs.declared.token.Token.{Token}
use Rattle.rbs_terminals.specs.declared.token.Spot.{Spot}
use Rattle.rbs_terminals.specs.declared.token.Mark.{Mark}
use Rattle.rbs_terminals.specs.declared.token.Mark.TheVariants as mark
use Rattle.rbs_terminals.specs.declared.token.Keyword.{Keyword}
use Rattle.rbs_terminals.specs.declared.token.Keyword.TheVariants as keyword
use Rattle.rbs_terminals.specs.declared.token.Kind.{Kind}
use Rattle.rbs_terminals.specs.declared.token.Kind.TheVariants as kind
use Rattle.rbs_terminals.specs.Keywords.{base_of}
use Rattle.rbs_terminals.specs.Kinds.{lower_of}
use Rattle.sig_model.specs.declared.ty.BaseTy.{BaseTy}
use Rattle.sig_model.specs.declared.ty.TypeName.{TypeName}
use Rattle.sig_model.specs.PlainTy as plain
use Rattle.sig_model.specs.PlainTy.{PlainTy, PlainTys, PlainKeys}
use Rattle.rbs_types.specs.declared.state.Members.{Members}
use Rattle.rbs_types.specs.declared.state.Members.TheVariants as members
use Rattle.rbs_types.specs.declared.state.Parameters.{Parameters}
use Rattle.rbs_types.specs.declared.state.Listed.{Listed}
use Rattle.rbs_types.specs.declared.state.Head.{Head}
use Rattle.rbs_types.specs.declared.state.Level.{Level}
use Rattle.rbs_types.specs.declared.state.Owner.{Owner}
use Rattle.rbs_types.specs.declared.state.Owner.TheVariants as owner
use Rattle.rbs_types.specs.declared.state.Slot.{Slot}
use Rattle.rbs_types.specs.declared.state.Slot.TheVariants as slot
use Rattle.rbs_types.specs.declared.state.Frame.{Frame}
use Rattle.rbs_types.specs.declared.state.Frame.TheVariants as frame
use Rattle.rbs_types.specs.declared.state.Opening.{Opening}
use Rattle.rbs_types.specs.declared.state.Opening.TheVariants as opening
use Rattle.rbs_types.specs.declared.state.Focus.{Focus}
use Rattle.rbs_types.specs.declared.state.Focus.TheVariants as focus
use Rattle.rbs_types.specs.declared.state.State.{State}
use Rattle.rbs_types.specs.Symbols.{scope_at}
use Rattle.rbs_types.specs.Grammar.{Phrase, a_type, a_function, arguments_of}
use Rattle.rbs_types.specs.Plains.{and_ty, and_key, is_new}
use Rattle.rbs_types.specs.Parts.{grown, no_name, root, no_parameters, closed, nothing_listed, takes_positional, takes_optional, added, all_of, function_of, ended}

abbrev pub at : Focus → List Frame → Option State
at f frames = Some (record { frames = frames; focus = f })

abbrev pub level_of : Members → Level
level_of m = record { members = m; heads = [] }

abbrev pub ground : Level
ground = level_of (members.Operands plain.no_tys plain.no_tys)

abbrev pub result_level : Level
result_level = level_of members.Result

abbrev pub closed_level : Level
closed_level = level_of members.Closed

-- where a type begins
abbrev pub start : State
start = record { frames = []; focus = focus.Type ground }

-- where the parameters, the block and the result of a method begin
abbrev pub start_function : State
start_function = record { frames = []; focus = focus.Function closed_level }

-- behind the bracket of this name's arguments
abbrev pub start_arguments : TypeName → State
start_arguments n = record { frames = frame.Arguments n plain.no_tys closed_level ∷ []; focus = focus.Type ground }

abbrev pub start_of : Phrase → State
start_of a_type = start
start_of a_function = start_function
start_of (arguments_of n) = start_arguments n

-- ---- where a type must begin

abbrev pub wants_mark : Level → List Frame → Mark → Option State
wants_mark level frames mark.Open = at (focus.Paren level) frames
wants_mark level frames mark.OpenSquare = at (focus.Tuple level) frames
wants_mark level frames mark.OpenBrace = at (focus.Record level) frames
wants_mark level frames mark.Caret = at (focus.Function level) frames
wants_mark level frames mark.Scope = at (focus.Scope root level) frames
wants_mark level frames _ = None

abbrev pub wants_singleton : Level → List Frame → Keyword → Option State
wants_singleton level frames keyword.Singleton = at (focus.Singleton level) frames
wants_singleton level frames _ = None

abbrev pub wants_keyword : Level → List Frame → Keyword → Option BaseTy → Option State
wants_keyword level frames k (Some b) = at (focus.Simple (plain.base b) level) frames
wants_keyword level frames k None = wants_singleton level frames k

abbrev pub wants : Level → List Frame → Kind → Option State
wants level frames (kind.Mark m) = wants_mark level frames m
wants level frames (kind.Keyword k) = wants_keyword level frames k (base_of k)
wants level frames (kind.Lower w) = at (focus.Bare (grown no_name w) level) frames
wants level frames (kind.Interface w) = at (focus.Bare (grown no_name w) level) frames
wants level frames (kind.Upper w) = at (focus.Upper (grown no_name w) level) frames
wants level frames (kind.Integer n) = at (focus.Simple (plain.int n) level) frames
wants level frames kind.PastInteger = at (focus.Simple (plain.int (pos 0)) level) frames
wants level frames (kind.Text w) = at (focus.Simple (plain.str w) level) frames
wants level frames (kind.Symbol w) = at (focus.Simple (plain.sym w) level) frames
wants level frames _ = None

-- ---- keys of a record

abbrev pub key_named : PlainKeys → Bool → Level → List Frame → Option (List ℕ) → Option State
key_named done needed level frames None = None
key_named done needed level frames (Some w) = if is_new w done then at (focus.KeyName done w needed level) frames else None

abbrev pub key_begins : PlainKeys → Level → List Frame → Kind → Option State
key_begins done level frames (kind.Mark mark.Question) = at (focus.KeyQuestion done level) frames
key_begins done level frames k = key_named done true level frames (lower_of k)

abbrev pub after_key_name : PlainKeys → List ℕ → Bool → Level → List Frame → Kind → Option State
after_key_name done key needed level frames (kind.Mark mark.Colon) = at (focus.Type ground) (frame.Record done key needed level ∷ frames)
after_key_name done key needed level frames _ = None

abbrev pub after_record : Level → List Frame → Kind → Option State
after_record level frames (kind.Mark mark.CloseBrace) = at (focus.Simple (plain.rec plain.no_keys) level) frames
after_record level frames k = key_begins plain.no_keys level frames k

-- ---- parameters

abbrev pub slot_of : Bool → Slot
slot_of true = slot.Positional
slot_of false = slot.Optional

abbrev pub opening_of_keyword : Keyword → Option BaseTy → Option Opening
opening_of_keyword k (Some b) = Some (opening.Base b)
opening_of_keyword keyword.Singleton None = Some opening.Singleton
opening_of_keyword _ None = None

-- the type that a word begins
abbrev pub opening_of : Kind → Option Opening
opening_of (kind.Lower w) = Some opening.Alias
opening_of (kind.Keyword k) = opening_of_keyword k (base_of k)
opening_of _ = None

abbrev pub keyword_begins : Parameters → Bool → List ℕ → Owner → List Frame → Option State
keyword_begins before needed w owner frames = if is_new w before.keys then at (focus.ParameterKey before needed w owner) frames else None

-- a word where a positional parameter may begin too, if `takes`
abbrev pub word_begins : Parameters → Bool → (takes : Bool) → List ℕ → Option Opening → Owner → List Frame → Option State
word_begins before needed true w (Some o) owner frames = at (focus.ParameterWord before needed w o owner) frames
word_begins before needed true w None owner frames = keyword_begins before needed w owner frames
word_begins before needed false w o owner frames = keyword_begins before needed w owner frames

abbrev pub argument_begins : Parameters → Bool → (takes : Bool) → Option (List ℕ) → Owner → List Frame → Kind → Option State
argument_begins before needed takes (Some w) owner frames k = word_begins before needed takes w (opening_of k) owner frames
argument_begins before needed true None owner frames k = wants ground (frame.Parameter before (slot_of needed) owner ∷ frames) k
argument_begins before needed false None owner frames k = None

abbrev pub after_parameter_question : Parameters → Owner → List Frame → Kind → Option State
after_parameter_question before owner frames k = argument_begins before false (takes_optional before) (lower_of k) owner frames k

abbrev pub parameter_begins : Parameters → Owner → List Frame → Kind → Option State
parameter_begins before owner frames (kind.Mark mark.Question) = at (focus.ParameterQuestion before owner) frames
parameter_begins before owner frames (kind.Mark mark.Star) = if takes_optional before then at (focus.Type ground) (frame.Parameter before slot.Rest owner ∷ frames) else None
parameter_begins before owner frames (kind.Mark mark.DoubleStar) = at (focus.Type ground) (frame.Parameter before slot.KeyRest owner ∷ frames)
parameter_begins before owner frames k = argument_begins before true (takes_positional before) (lower_of k) owner frames k

abbrev pub after_parameters : Owner → List Frame → Kind → Option State
after_parameters owner frames (kind.Mark mark.Close) = at (focus.Listed nothing_listed owner) frames
after_parameters owner frames k = parameter_begins no_parameters owner frames k

abbrev pub after_parameter_key : Parameters → Bool → List ℕ → Owner → List Frame → Kind → Option State
after_parameter_key before needed w owner frames (kind.Mark mark.Colon) = at (focus.Type ground) (frame.Parameter before (slot.Key w needed) owner ∷ frames)
after_parameter_key before needed w owner frames _ = None

abbrev pub after_parameter_named : Parameters → Owner → List Frame → Kind → Option State
after_parameter_named p owner frames (kind.Mark mark.Comma) = at (focus.Parameter p owner) frames
after_parameter_named p owner frames (kind.Mark mark.Close) = at (focus.Listed (closed p) owner) frames
after_parameter_named p owner frames _ = None

abbrev pub after_key_rest_named : Listed → Owner → List Frame → Kind → Option State
after_key_rest_named l owner frames (kind.Mark mark.Close) = at (focus.Listed l owner) frames
after_key_rest_named l owner frames _ = None

-- the name behind the type of a parameter
abbrev pub parameter_named : PlainTy → Parameters → Slot → Owner → List Frame → Option (List ℕ) → Option State
parameter_named t before x owner frames None = None
parameter_named t before slot.KeyRest owner frames (Some w) = at (focus.KeyRestNamed (all_of before slot.KeyRest t (Some w)) owner) frames
parameter_named t before (slot.Key k needed) owner frames (Some w) = None
parameter_named t before x owner frames (Some w) = at (focus.ParameterNamed (added before x t (Some w)) owner) frames

-- a comma behind a parameter; the rest of the keywords is the last one
abbrev pub comma_after : PlainTy → Parameters → Slot → Owner → List Frame → Option State
comma_after t before slot.KeyRest owner frames = None
comma_after t before x owner frames = at (focus.Parameter (added before x t None) owner) frames

abbrev pub in_parameter : PlainTy → Parameters → Slot → Owner → List Frame → Kind → Option State
in_parameter t before x owner frames (kind.Mark mark.Comma) = comma_after t before x owner frames
in_parameter t before x owner frames (kind.Mark mark.Close) = at (focus.Listed (all_of before x t None) owner) frames
in_parameter t before x owner frames k = parameter_named t before x owner frames (lower_of k)

-- ---- functions

-- the result of the function with this head must come
abbrev pub headed : Head → Level → Level
headed h level = record { members = level.members; heads = h ∷ level.heads }

abbrev pub after_headed : Head → Level → List Frame → Kind → Option State
after_headed h level frames (kind.Mark mark.Arrow) = at (focus.Type (headed h level)) frames
after_headed h level frames _ = None

-- behind the parameters of a function
abbrev pub after_outer : Listed → Level → List Frame → Kind → Option State
after_outer l level frames (kind.Mark mark.Question) = at (focus.BlockQuestion l level) frames
after_outer l level frames (kind.Mark mark.OpenBrace) = at (focus.Block true l level) frames
after_outer l level frames k = after_headed (record { listed = l; block = plain.no_block }) level frames k

-- behind the parameters of a block
abbrev pub after_inner : Bool → Listed → Listed → Level → List Frame → Kind → Option State
after_inner needed inner outer level frames (kind.Mark mark.Arrow) = at (focus.Type result_level) (frame.Block needed inner outer level ∷ frames)
after_inner needed inner outer level frames _ = None

abbrev pub after_listed : Listed → Owner → List Frame → Kind → Option State
after_listed l (owner.Function level) frames k = after_outer l level frames k
after_listed l (owner.Block needed outer level) frames k = after_inner needed l outer level frames k

abbrev pub after_function : Level → List Frame → Kind → Option State
after_function level frames (kind.Mark mark.Open) = at (focus.Parameters (owner.Function level)) frames
after_function level frames k = after_outer nothing_listed level frames k

abbrev pub after_block_question : Listed → Level → List Frame → Kind → Option State
after_block_question outer level frames (kind.Mark mark.OpenBrace) = at (focus.Block false outer level) frames
after_block_question outer level frames _ = None

abbrev pub after_block : Bool → Listed → Level → List Frame → Kind → Option State
after_block needed outer level frames (kind.Mark mark.Open) = at (focus.Parameters (owner.Block needed outer level)) frames
after_block needed outer level frames k = after_inner needed nothing_listed outer level frames k

-- ---- behind a type

abbrev pub in_arguments : PlainTy → TypeName → PlainTys → Level → List Frame → Kind → Option State
in_arguments t n done outer frames (kind.Mark mark.Comma) = at (focus.Type ground) (frame.Arguments n (and_ty done t) outer ∷ frames)
in_arguments t n done outer frames (kind.Mark mark.CloseSquare) = at (focus.Simple (plain.name n (and_ty done t)) outer) frames
in_arguments t n done outer frames _ = None

abbrev pub in_tuple : PlainTy → PlainTys → Level → List Frame → Kind → Option State
in_tuple t done outer frames (kind.Mark mark.Comma) = at (focus.Type ground) (frame.Tuple (and_ty done t) outer ∷ frames)
in_tuple t done outer frames (kind.Mark mark.CloseSquare) = at (focus.Simple (plain.tuple (and_ty done t)) outer) frames
in_tuple t done outer frames _ = None

abbrev pub in_record : PlainTy → PlainKeys → List ℕ → Bool → Level → List Frame → Kind → Option State
in_record t done key needed outer frames (kind.Mark mark.Comma) = at (focus.Key (and_key done key needed t) outer) frames
in_record t done key needed outer frames (kind.Mark mark.CloseBrace) = at (focus.Simple (plain.rec (and_key done key needed t)) outer) frames
in_record t done key needed outer frames _ = None

abbrev pub in_paren : PlainTy → Level → List Frame → Kind → Option State
in_paren t outer frames (kind.Mark mark.Close) = at (focus.Simple t outer) frames
in_paren t outer frames _ = None

abbrev pub in_block : PlainTy → Bool → Listed → Listed → Level → List Frame → Kind → Option State
in_block t needed inner outer level frames (kind.Mark mark.CloseBrace) =
    at (focus.Headed (record { listed = outer; block = plain.block needed (function_of inner plain.no_block t) }) level) frames
in_block t needed inner outer level frames _ = None

abbrev pub in_bracket : PlainTy → Frame → List Frame → Kind → Option State
in_bracket t (frame.Paren outer) frames k = in_paren t outer frames k
in_bracket t (frame.Arguments n done outer) frames k = in_arguments t n done outer frames k
in_bracket t (frame.Tuple done outer) frames k = in_tuple t done outer frames k
in_bracket t (frame.Record done key needed outer) frames k = in_record t done key needed outer frames k
in_bracket t (frame.Parameter before x owner) frames k = in_parameter t before x owner frames k
in_bracket t (frame.Block needed inner outer level) frames k = in_block t needed inner outer level frames k

-- behind all that the bracket may hold as one type
abbrev pub after_type : PlainTy → List Frame → Kind → Option State
after_type t [] k = None
after_type t (f ∷ frames) k = in_bracket t f frames k

-- the members before, and one more: alone it stands for itself
abbrev pub joined : (PlainTys → PlainTy) → PlainTys → PlainTy → PlainTy
joined make plain.no_tys t = t
joined make us t = make (and_ty us t)

abbrev pub after_inter : PlainTy → PlainTys → List Frame → Kind → Option State
after_inter t us frames (kind.Mark mark.Bar) = at (focus.Type (level_of (members.Operands (and_ty us t) plain.no_tys))) frames
after_inter t us frames k = after_type (joined plain.union us t) frames k

abbrev pub after_operand : PlainTy → PlainTys → PlainTys → List Frame → Kind → Option State
after_operand t us is frames (kind.Mark mark.Amp) = at (focus.Type (level_of (members.Operands us (and_ty is t)))) frames
after_operand t us is frames k = after_inter (joined plain.inter is t) us frames k

abbrev pub after_opt : PlainTy → Members → List Frame → Kind → Option State
after_opt t (members.Operands us is) frames k = after_operand t us is frames k
after_opt t members.Result frames k = after_type t frames k
after_opt t members.Closed frames k = after_type t frames k

-- the functions whose results end with this type, from the innermost on
abbrev pub all_ended : List Head → PlainTy → PlainTy
all_ended [] t = t
all_ended (h ∷ hs) t = all_ended hs (ended h t)

-- a question mark behind a type that has none
abbrev pub asked : PlainTy → Members → List Frame → Option State
asked t members.Closed frames = after_type t frames (kind.Mark mark.Question)
asked t ms frames = at (focus.Optional (plain.opt t) ms) frames

abbrev pub question : PlainTy → Members → List Head → List Frame → Option State
question t ms [] frames = asked t ms frames
question t ms (h ∷ hs) frames = at (focus.Simple (ended h (plain.opt t)) (record { members = ms; heads = hs })) frames

abbrev pub after_simple : PlainTy → Level → List Frame → Kind → Option State
after_simple t level frames (kind.Mark mark.Question) = question t level.members level.heads frames
after_simple t level frames k = after_opt (all_ended level.heads t) level.members frames k

-- ---- names

abbrev pub after_bare : TypeName → Level → List Frame → Kind → Option State
after_bare n level frames (kind.Mark mark.OpenSquare) = at (focus.Type ground) (frame.Arguments n plain.no_tys level ∷ frames)
after_bare n level frames k = after_simple (plain.name n plain.no_tys) level frames k

abbrev pub after_upper : TypeName → Level → List Frame → Kind → Spot → Option State
after_upper n level frames k s = if scope_at k s then at (focus.Scope n level) frames else after_bare n level frames k

abbrev pub after_scope : TypeName → Level → List Frame → Kind → Option State
after_scope n level frames (kind.Upper w) = at (focus.Upper (grown n w) level) frames
after_scope n level frames (kind.Interface w) = at (focus.Bare (grown n w) level) frames
after_scope n level frames (kind.Lower w) = at (focus.Bare (grown n w) level) frames
after_scope n level frames _ = None

abbrev pub after_singleton : Level → List Frame → Kind → Option State
after_singleton level frames (kind.Mark mark.Open) = at (focus.SingletonOpen level) frames
after_singleton level frames _ = None

abbrev pub after_singleton_scope : TypeName → Level → List Frame → Kind → Option State
after_singleton_scope n level frames (kind.Upper w) = at (focus.SingletonUpper (grown n w) level) frames
after_singleton_scope n level frames _ = None

abbrev pub after_singleton_open : Level → List Frame → Kind → Option State
after_singleton_open level frames (kind.Mark mark.Scope) = at (focus.SingletonScope root level) frames
after_singleton_open level frames k = after_singleton_scope no_name level frames k

abbrev pub single_closed : TypeName → Level → List Frame → Kind → Option State
single_closed n level frames (kind.Mark mark.Close) = at (focus.Simple (plain.single n) level) frames
single_closed n level frames _ = None

abbrev pub after_singleton_upper : TypeName → Level → List Frame → Kind → Spot → Option State
after_singleton_upper n level frames k s = if scope_at k s then at (focus.SingletonScope n level) frames else single_closed n level frames k

-- ---- behind what may be a keyword's name

abbrev pub after_opening : Opening → List ℕ → List Frame → Kind → Option State
after_opening opening.Alias w frames k = after_bare (grown no_name w) ground frames k
after_opening (opening.Base b) w frames k = after_simple (plain.base b) ground frames k
after_opening opening.Singleton w frames k = after_singleton ground frames k

abbrev pub after_parameter_word : Parameters → Bool → List ℕ → Opening → Owner → List Frame → Kind → Option State
after_parameter_word before needed w o owner frames (kind.Mark mark.Colon) = at (focus.Type ground) (frame.Parameter before (slot.Key w needed) owner ∷ frames)
after_parameter_word before needed w o owner frames k = after_opening o w (frame.Parameter before (slot_of needed) owner ∷ frames) k

-- ---- brackets that may close at once

abbrev pub after_tuple : Level → List Frame → Kind → Option State
after_tuple level frames (kind.Mark mark.CloseSquare) = at (focus.Simple (plain.tuple plain.no_tys) level) frames
after_tuple level frames k = wants ground (frame.Tuple plain.no_tys level ∷ frames) k

abbrev pub after_paren : Level → List Frame → Kind → Option State
after_paren level frames k = wants ground (frame.Paren level ∷ frames) k

-- ---- all

abbrev pub step : Focus → List Frame → Kind → Spot → Option State
step (focus.Type level) frames k s = wants level frames k
step (focus.Scope n level) frames k s = after_scope n level frames k
step (focus.Upper n level) frames k s = after_upper n level frames k s
step (focus.Bare n level) frames k s = after_bare n level frames k
step (focus.Singleton level) frames k s = after_singleton level frames k
step (focus.SingletonOpen level) frames k s = after_singleton_open level frames k
step (focus.SingletonScope n level) frames k s = after_singleton_scope n level frames k
step (focus.SingletonUpper n level) frames k s = after_singleton_upper n level frames k s
step (focus.Paren level) frames k s = after_paren level frames k
step (focus.Tuple level) frames k s = after_tuple level frames k
step (focus.Record level) frames k s = after_record level frames k
step (focus.Key done level) frames k s = key_begins done level frames k
step (focus.KeyQuestion done level) frames k s = key_named done false level frames (lower_of k)
step (focus.KeyName done key needed level) frames k s = after_key_name done key needed level frames k
step (focus.Simple t level) frames k s = after_simple t level frames k
step (focus.Optional t ms) frames k s = after_opt t ms frames k
step (focus.Function level) frames k s = after_function level frames k
step (focus.Parameters owner) frames k s = after_parameters owner frames k
step (focus.Parameter before owner) frames k s = parameter_begins before owner frames k
step (focus.ParameterQuestion before owner) frames k s = after_parameter_question before owner frames k
step (focus.ParameterWord before needed w o owner) frames k s = after_parameter_word before needed w o owner frames k
step (focus.ParameterKey before needed w owner) frames k s = after_parameter_key before needed w owner frames k
step (focus.ParameterNamed p owner) frames k s = after_parameter_named p owner frames k
step (focus.KeyRestNamed l owner) frames k s = after_key_rest_named l owner frames k
step (focus.Listed l owner) frames k s = after_listed l owner frames k
step (focus.BlockQuestion outer level) frames k s = after_block_question outer level frames k
step (focus.Block needed outer level) frames k s = after_block needed outer level frames k
step (focus.Headed h level) frames k s = after_headed h level frames k

-- what a token does, where there are no limits
abbrev pub next : State → Token → Option State
next s c = step s.focus s.frames c.kind c.spot

-- the phrase that is whole if the text ends here
abbrev pub end_type : PlainTy → List Frame → Option PlainTy
end_type t [] = Some t
end_type t (f ∷ frames) = None

abbrev pub end_opt : PlainTy → Members → List Frame → Option PlainTy
end_opt t (members.Operands us is) frames = end_type (joined plain.union us (joined plain.inter is t)) frames
end_opt t members.Result frames = end_type t frames
end_opt t members.Closed frames = end_type t frames

abbrev pub end_simple : PlainTy → Level → List Frame → Option PlainTy
end_simple t level frames = end_opt (all_ended level.heads t) level.members frames

abbrev pub ends : Focus → List Frame → Option PlainTy
ends (focus.Upper n level) frames = end_simple (plain.name n plain.no_tys) level frames
ends (focus.Bare n level) frames = end_simple (plain.name n plain.no_tys) level frames
ends (focus.Simple t level) frames = end_simple t level frames
ends (focus.Optional t ms) frames = end_opt t ms frames
ends _ frames = None

abbrev pub final : State → Option PlainTy
final s = ends s.focus s.frames
