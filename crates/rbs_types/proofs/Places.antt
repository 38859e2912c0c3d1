-- What is known at each place of a text: which phrases from there on make what was begun before it.
use Rattle.std.specs.Prelude.{ℕ, ◌≡◌, Bool, true, false, List, [], ◌∷◌, Option, Some, None}
use Rattle.rbs_terminals.specs.declared.token.Token.{Token}
use Rattle.rbs_terminals.specs.declared.token.Spot.{Spot}
use Rattle.rbs_terminals.specs.declared.token.Mark.TheVariants as mark
use Rattle.rbs_terminals.specs.declared.token.Keyword.TheVariants as keyword
use Rattle.rbs_terminals.specs.declared.token.Kind.{Kind}
use Rattle.rbs_terminals.specs.Kinds.{lower_of}
use Rattle.sig_model.specs.declared.ty.TypeName.{TypeName}
use Rattle.sig_model.specs.PlainTy as plain
use Rattle.sig_model.specs.PlainTy.{PlainTy, PlainTys, PlainKeys, PlainFun, PlainBlock}
use Rattle.rbs_types.specs.declared.state.Members.{Members}
use Rattle.rbs_types.specs.declared.state.Members.TheVariants as members
use Rattle.rbs_types.specs.declared.state.Parameters as the_parameters
use Rattle.rbs_types.specs.declared.state.Listed as the_listed
use Rattle.rbs_types.specs.declared.state.Head.{Head}
use Rattle.rbs_types.specs.declared.state.Level.{Level}
use Rattle.rbs_types.specs.declared.state.Owner.{Owner}
use Rattle.rbs_types.specs.declared.state.Owner.TheVariants as owner
use Rattle.rbs_types.specs.declared.state.Slot.{Slot}
use Rattle.rbs_types.specs.declared.state.Slot.TheVariants as slot
use Rattle.rbs_types.specs.declared.state.Frame.{Frame}
use Rattle.rbs_types.specs.declared.state.Frame.TheVariants as frame
use Rattle.rbs_types.specs.declared.state.Opening.{Opening}
use Rattle.rbs_types.specs.declared.state.Opening.TheVariants as opening
use Rattle.rbs_types.specs.declared.state.Focus.{Focus}
use Rattle.rbs_types.specs.declared.state.Focus.TheVariants as focus
use Rattle.rbs_types.specs.declared.state.State.{State}
use Rattle.rbs_types.specs.Symbols.{token, sign, word, on_line, scope_follows}
use Rattle.rbs_types.specs.Plains.{and_key, is_new}
use Rattle.rbs_types.specs.Parts.{grown, no_name, takes_positional, takes_optional, and_keyword, added, function_of, ended}
use Rattle.rbs_types.specs.Machine.{next}
use Rattle.rbs_types.specs.Grammar.{Use, of_type, of_class, Words, Name, Spells, type, inter, opt, simple, result, Lists, Key, Keys, Function, Listed, Blocked, Braced, Parameters, Parameter, Argument}

-- what may be wanted inside the innermost open bracket, or of the text as a whole
pub data Want : Type 0 where
  -- that a type that begins here is what stands inside
  to_type : List Token → Want
  -- that a result that begins here is
  to_result : List Token → Want
  -- that the phrase ends with this type, where these tokens are left
  to_end : PlainTy → List Token → Want

-- ---- a place for a type

-- an `inter` may begin at `l`, behind these members of a union
abbrev pub UnionAt : (Want → Type 0) → PlainTys → List Token → Type 0
UnionAt U plain.no_tys l = U (to_type l)
UnionAt U us l = (k : List Token) × U (to_type k) × ((all : PlainTys) (rest : List Token) → Lists inter mark.Bar us all l rest → Spells type (plain.union all) k rest)

-- an `opt` may begin at `m`, behind these members of an intersection
abbrev pub InterAt : (Want → Type 0) → PlainTys → PlainTys → List Token → Type 0
InterAt U us plain.no_tys m = UnionAt U us m
InterAt U us is m = (l : List Token) × UnionAt U us l × ((all : PlainTys) (rest : List Token) → Lists opt mark.Amp is all m rest → Spells inter (plain.inter all) l rest)

abbrev pub MembersAt : (Want → Type 0) → Members → List Token → Type 0
MembersAt U (members.Operands us is) m = InterAt U us is m
MembersAt U members.Result m = U (to_result m)
MembersAt U members.Closed m = (t : PlainTy) (rest : List Token) → Spells simple t m rest → U (to_end t rest)

-- the tokens are left behind the type `t`, which a question mark may follow, and which is no function's result
abbrev pub LoneAt : (Want → Type 0) → Members → PlainTy → List Token → Type 0
LoneAt U (members.Operands us is) t ts = (m : List Token) × InterAt U us is m × Spells simple t m ts
LoneAt U members.Result t ts = (m : List Token) × U (to_result m) × Spells simple t m ts
LoneAt U members.Closed t ts = U (to_end t ts)

-- the same where it ends the innermost of these functions
abbrev pub SimpleAt : (Want → Type 0) → Members → List Head → PlainTy → List Token → Type 0
SimpleAt U ms [] t ts = LoneAt U ms t ts
SimpleAt U ms (h ∷ hs) t ts = (m : List Token) × ((u : PlainTy) (rest : List Token) → Spells result u m rest → SimpleAt U ms hs (ended h u) rest) × Spells simple t m ts

-- the tokens are left behind a type that no question mark may follow
abbrev pub OptAt : (Want → Type 0) → Members → PlainTy → List Token → Type 0
OptAt U (members.Operands us is) t ts = (m : List Token) × InterAt U us is m × Spells opt t m ts
OptAt U members.Result t ts = (m : List Token) × U (to_result m) × Spells result t m ts
OptAt U members.Closed t ts = U (to_end t ts)

-- a type may begin here, as the result of these functions
abbrev pub PlaceAt : (Want → Type 0) → Members → List Head → List Token → Type 0
PlaceAt U ms [] m = MembersAt U ms m
PlaceAt U ms (h ∷ hs) m = (u : PlainTy) (rest : List Token) → Spells result u m rest → SimpleAt U ms hs (ended h u) rest

abbrev pub TypeAt : (Want → Type 0) → Level → List Token → Type 0
TypeAt U level m = PlaceAt U level.members level.heads m

abbrev pub BehindAt : (Want → Type 0) → Level → PlainTy → List Token → Type 0
BehindAt U level t ts = SimpleAt U level.members level.heads t ts

-- ---- functions

abbrev pub FunctionAt : (Want → Type 0) → Level → List Token → Type 0
FunctionAt U level m = (f : PlainFun) (rest : List Token) → Function f m rest → BehindAt U level (plain.fun f) rest

-- the arrow of the function with this head must come
abbrev pub HeadedAt : (Want → Type 0) → Head → Level → List Token → Type 0
HeadedAt U h level ts = (m : List Token) × (n : List Token) × FunctionAt U level m × Listed h.listed m n × Blocked h.block n ts

-- behind the brace that opens a block of a function with these parameters
abbrev pub BlockAt : (Want → Type 0) → Bool → the_listed.Listed → Level → List Token → Type 0
BlockAt U needed outer level m = (f : PlainFun) (rest : List Token) → Braced f m rest → HeadedAt U (record { listed = outer; block = plain.block needed f }) level rest

-- parameters in parentheses may begin here
abbrev pub OwnerAt : (Want → Type 0) → Owner → List Token → Type 0
OwnerAt U (owner.Function level) m = FunctionAt U level m
OwnerAt U (owner.Block needed outer level) m = BlockAt U needed outer level m

-- behind the parenthesis that closes them, or where they might have stood
abbrev pub ListedAt : (Want → Type 0) → the_listed.Listed → Owner → List Token → Type 0
ListedAt U l x ts = (m : List Token) × OwnerAt U x m × Listed l m ts

-- the rest of the parameters may begin here
abbrev pub ParametersAt : (Want → Type 0) → the_parameters.Parameters → Owner → List Token → Type 0
ParametersAt U before x m = (l : the_listed.Listed) (s : Spot) (rest : List Token) → Parameters before l m (sign mark.Close s ∷ rest) → ListedAt U l x rest

-- a parameter that begins at `m` has its type at `k`
abbrev pub SlotAt : the_parameters.Parameters → Slot → List Token → List Token → Type 0
SlotAt before slot.KeyRest m k = (t : PlainTy) (n : Option (List ℕ)) (rest : List Token) → Argument t n k rest → Parameters before (record { parameters = before; key_rest = plain.rest t n }) m rest
SlotAt before (slot.Key w needed) m k = (t : PlainTy) (rest : List Token) → Spells type t k rest → Parameter before (and_keyword before w needed t) m rest
SlotAt before x m k = (t : PlainTy) (n : Option (List ℕ)) (rest : List Token) → Argument t n k rest → Parameter before (added before x t n) m rest

-- ---- brackets

-- the rest of the keys of a record may begin here
abbrev pub KeysAt : (Want → Type 0) → PlainKeys → Level → List Token → Type 0
KeysAt U done level m = (ks : PlainKeys) (s : Spot) (rest : List Token) → Keys done ks m (sign mark.CloseBrace s ∷ rest) → BehindAt U level (plain.rec ks) rest

-- What the open brackets make of what stands inside; `End` is what is said of the whole. A block holds a result, and each other bracket a type.
abbrev pub FramesAt : (PlainTy → List Token → Type 0) → List Frame → Want → Type 0
FramesAt End [] (to_type k) = (t : PlainTy) (rest : List Token) → Spells type t k rest → End t rest
FramesAt End [] (to_end t ts) = End t ts
FramesAt End (frame.Paren outer ∷ frames) (to_type k) = (t : PlainTy) (s : Spot) (rest : List Token) → Spells type t k (sign mark.Close s ∷ rest) → BehindAt (FramesAt End frames) outer t rest
FramesAt End (frame.Arguments n done outer ∷ frames) (to_type k) =
    (us : PlainTys) (s : Spot) (rest : List Token) → Lists type mark.Comma done us k (sign mark.CloseSquare s ∷ rest) → BehindAt (FramesAt End frames) outer (plain.name n us) rest
FramesAt End (frame.Tuple done outer ∷ frames) (to_type k) =
    (us : PlainTys) (s : Spot) (rest : List Token) → Lists type mark.Comma done us k (sign mark.CloseSquare s ∷ rest) → BehindAt (FramesAt End frames) outer (plain.tuple us) rest
FramesAt End (frame.Record done key needed outer ∷ frames) (to_type k) =
    (m : List Token) × KeysAt (FramesAt End frames) done outer m × ((t : PlainTy) (rest : List Token) → Spells type t k rest → Key done (and_key done key needed t) m rest)
FramesAt End (frame.Parameter before x of ∷ frames) (to_type k) = (m : List Token) × ParametersAt (FramesAt End frames) before of m × SlotAt before x m k
FramesAt End (frame.Block needed inner outer level ∷ frames) (to_result k) =
    (t : PlainTy) (s : Spot) (rest : List Token) → Spells result t k (sign mark.CloseBrace s ∷ rest)
    → HeadedAt (FramesAt End frames) (record { listed = outer; block = plain.block needed (function_of inner plain.no_block t) }) level rest
FramesAt End _ _ = ⊥

-- ---- names

-- a name that begins at `m` goes on at `ts` with a word behind `n`
abbrev pub ScopeAt : Use → TypeName → List Token → List Token → Type 0
ScopeAt u n m ts = (v : TypeName) (rest : List Token) → Words u n v ts rest → Name u v m rest

-- the name `n` begins at `m` and is whole at `ts`, unless a `::` goes on with it
abbrev pub UpperAt : Use → TypeName → List Token → List Token → Type 0
UpperAt u n m ts = (scope_follows ts ≡ false → Name u n m ts) × ((s : Spot) (rest : List Token) → ts ≡ sign mark.Scope s ∷ rest → on_line s ≡ true → ScopeAt u n m rest)

-- ---- words

-- the question mark of what is optional
abbrev pub marked : Bool → Spot → List Token → List Token
marked true s ts = ts
marked false s ts = sign mark.Question s ∷ ts

abbrev pub takes : Bool → the_parameters.Parameters → Bool
takes true p = takes_positional p
takes false p = takes_optional p

-- the type that the word `w` begins
abbrev pub OpeningAt : Opening → List ℕ → List Token → List Token → Type 0
OpeningAt opening.Alias w m ts = Name of_type (grown no_name w) m ts
OpeningAt (opening.Base b) w m ts = Spells simple (plain.base b) m ts
OpeningAt opening.Singleton w m ts = (s : Spot) × (m ≡ word keyword.Singleton s ∷ ts)

-- ---- all

abbrev pub FocusAt : (Want → Type 0) → Focus → List Token → Type 0
FocusAt U (focus.Type level) ts = TypeAt U level ts
FocusAt U (focus.Scope n level) ts = (m : List Token) × TypeAt U level m × ScopeAt of_type n m ts
FocusAt U (focus.Upper n level) ts = (m : List Token) × TypeAt U level m × UpperAt of_type n m ts
FocusAt U (focus.Bare n level) ts = (m : List Token) × TypeAt U level m × Name of_type n m ts
FocusAt U (focus.Singleton level) ts = (s : Spot) × TypeAt U level (word keyword.Singleton s ∷ ts)
FocusAt U (focus.SingletonOpen level) ts = (s : Spot) × (s' : Spot) × TypeAt U level (word keyword.Singleton s ∷ sign mark.Open s' ∷ ts)
FocusAt U (focus.SingletonScope n level) ts = (s : Spot) × (s' : Spot) × (m : List Token) × TypeAt U level (word keyword.Singleton s ∷ sign mark.Open s' ∷ m) × ScopeAt of_class n m ts
FocusAt U (focus.SingletonUpper n level) ts = (s : Spot) × (s' : Spot) × (m : List Token) × TypeAt U level (word keyword.Singleton s ∷ sign mark.Open s' ∷ m) × UpperAt of_class n m ts
FocusAt U (focus.Paren level) ts = (s : Spot) × TypeAt U level (sign mark.Open s ∷ ts)
FocusAt U (focus.Tuple level) ts = (s : Spot) × TypeAt U level (sign mark.OpenSquare s ∷ ts)
FocusAt U (focus.Record level) ts = (s : Spot) × TypeAt U level (sign mark.OpenBrace s ∷ ts)
FocusAt U (focus.Key done level) ts = KeysAt U done level ts
FocusAt U (focus.KeyQuestion done level) ts = (s : Spot) × KeysAt U done level (sign mark.Question s ∷ ts)
FocusAt U (focus.KeyName done key needed level) ts = (k : Kind) × (s : Spot) × (s' : Spot) × (lower_of k ≡ Some key) × (is_new key done ≡ true) × KeysAt U done level (marked needed s' (token k s ∷ ts))
FocusAt U (focus.Simple t level) ts = BehindAt U level t ts
FocusAt U (focus.Optional t ms) ts = OptAt U ms t ts
FocusAt U (focus.Function level) ts = FunctionAt U level ts
FocusAt U (focus.Parameters x) ts = (s : Spot) × OwnerAt U x (sign mark.Open s ∷ ts)
FocusAt U (focus.Parameter before x) ts = ParametersAt U before x ts
FocusAt U (focus.ParameterQuestion before x) ts = (s : Spot) × ParametersAt U before x (sign mark.Question s ∷ ts)
FocusAt U (focus.ParameterWord before needed w o x) ts = (k : Kind) × (s : Spot) × (s' : Spot) × (lower_of k ≡ Some w) × (takes needed before ≡ true)
    × ParametersAt U before x (marked needed s' (token k s ∷ ts)) × OpeningAt o w (token k s ∷ ts) ts
FocusAt U (focus.ParameterKey before needed w x) ts = (k : Kind) × (s : Spot) × (s' : Spot) × (lower_of k ≡ Some w) × (is_new w before.keys ≡ true)
    × ParametersAt U before x (marked needed s' (token k s ∷ ts))
FocusAt U (focus.ParameterNamed p x) ts = (before : the_parameters.Parameters) × (m : List Token) × ParametersAt U before x m × Parameter before p m ts
FocusAt U (focus.KeyRestNamed l x) ts = (before : the_parameters.Parameters) × (m : List Token) × ParametersAt U before x m × Parameters before l m ts
FocusAt U (focus.Listed l x) ts = ListedAt U l x ts
FocusAt U (focus.BlockQuestion outer level) ts = (s : Spot) × ListedAt U outer (owner.Function level) (sign mark.Question s ∷ ts)
FocusAt U (focus.Block needed outer level) ts = BlockAt U needed outer level ts
FocusAt U (focus.Headed h level) ts = HeadedAt U h level ts

-- the state is right where `ts` is left
abbrev pub StateAt : (PlainTy → List Token → Type 0) → State → List Token → Type 0
StateAt End s ts = FocusAt (FramesAt End s.frames) s.focus ts

abbrev pub StepAt : (PlainTy → List Token → Type 0) → Option State → List Token → Type 0
StepAt End None ts = Unit {0}
StepAt End (Some s) ts = StateAt End s ts

-- a phrase that is whole where `ts` is left
abbrev pub EndAt : (PlainTy → List Token → Type 0) → Option PlainTy → List Token → Type 0
EndAt End None ts = Unit {0}
EndAt End (Some t) ts = End t ts

-- the state takes no token of these
abbrev pub Refuses : State → List Token → Type 0
Refuses s [] = Unit {0}
Refuses s (c ∷ ts) = next s c ≡ None
