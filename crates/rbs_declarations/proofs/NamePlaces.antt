-- What a token of a name does: the name goes on, or is whole, where the phrase of the grammar is.
use Rattle.std.specs.Prelude.{ℕ, ◌≡◌, refl, Bool, true, false, List, [], ◌∷◌, ◌++◌, Some, None}
use Rattle.std.proofs.Common.{sym, subst}
use Rattle.rbs_terminals.specs.declared.token.Token.{Token}
use Rattle.rbs_terminals.specs.declared.token.Spot.{Spot}
use Rattle.rbs_terminals.specs.declared.token.Gap.{Gap}
use Rattle.rbs_terminals.specs.declared.token.Gap.TheVariants as gap
use Rattle.rbs_terminals.specs.declared.token.Mark.{Mark}
use Rattle.rbs_terminals.specs.declared.token.Mark.TheVariants as mark
use Rattle.rbs_terminals.specs.declared.token.Kind.{Kind}
use Rattle.rbs_terminals.specs.declared.token.Kind.TheVariants as kind
use Rattle.sig_model.specs.declared.ty.TypeName.{TypeName}
use Rattle.sig_model.specs.PlainTy as plain
use Rattle.sig_model.specs.PlainTy.{PlainTy}
use Rattle.rbs_types.specs.Symbols.{token, sign, on_line}
use Rattle.rbs_types.specs.Parts.{grown, no_name}
use Rattle.rbs_types.specs.Grammar.{Use, ends_capital, ends_interface, ends_small, Words, capital, interface, small, outer, Name, relative, rooted, arguments_of, Spelled}
use Rattle.rbs_declarations.specs.declared.operators.Operator.{Operator}
use Rattle.rbs_declarations.specs.declared.operators.Operator.TheVariants as operator
use Rattle.rbs_declarations.specs.declared.state.Step.{Step}
use Rattle.rbs_declarations.specs.declared.state.Step.TheVariants as step_at
use Rattle.rbs_declarations.specs.Operators.{operator_text, is_operator}
use Rattle.rbs_declarations.specs.Words.{method_word, is_joined, extended_at, extension}
use Rattle.rbs_declarations.specs.Grammar.{no_more, one_more, MethodName, marked_word, an_operator, Applied, unapplied, applied}
use Rattle.rbs_declarations.specs.Machine.{whole_if, before_if, word_on, first_on, upper_on, named_on, ending_if, ending_at, operator_at}
use Rattle.rbs_declarations.proofs.Places.{InNameAt, NamingAt, ProgressAt, AppliedAt, WholeNameAt, OperatorAt}

-- ---- names of types

-- what ends a name must fit its use
whole_at : (u : Use) (N : TypeName → List Token → Type 0) (b : Bool) (n : TypeName) (k : Kind) (s : Spot) (ts : List Token) → (b ≡ true → N n ts) → ProgressAt u N (whole_if b n) k s ts
whole_at u N true n k s ts h = h refl
whole_at u N false n k s ts h = tt

before_at : (u : Use) (N : TypeName → List Token → Type 0) (b : Bool) (n : TypeName) (k : Kind) (s : Spot) (ts : List Token) → (b ≡ true → N n (token k s ∷ ts)) → ProgressAt u N (before_if b n) k s ts
before_at u N true n k s ts h = h refl
before_at u N false n k s ts h = tt

-- where a word must come
pub word_at : (u : Use) (N : TypeName → List Token → Type 0) (n : TypeName) (k : Kind) (s : Spot) (ts : List Token)
    → ((v : TypeName) (rest : List Token) → Words u n v (token k s ∷ ts) rest → N v rest) → ProgressAt u N (word_on u n k) k s ts
word_at u N n (kind.Upper w) s ts h = (
  λ e c. h (grown n w) ts (capital w s c e),
  λ s' rest e line v end d. h v end (subst (λ x. Words u n v (token (kind.Upper w) s ∷ x) end) (sym e) (outer w s s' line d)),
)
word_at u N n (kind.Interface w) s ts h = whole_at u N (ends_interface u) (grown n w) (kind.Interface w) s ts (λ c. h (grown n w) ts (interface w s c))
word_at u N n (kind.Lower w) s ts h = whole_at u N (ends_small u) (grown n w) (kind.Lower w) s ts (λ c. h (grown n w) ts (small w s c))
word_at u N n _ s ts h = tt

-- where the first token must come
first_at : (u : Use) (N : TypeName → List Token → Type 0) (k : Kind) (s : Spot) (ts : List Token)
    → ((v : TypeName) (rest : List Token) → Name u v (token k s ∷ ts) rest → N v rest) → ProgressAt u N (first_on u no_name k) k s ts
first_at u N (kind.Mark mark.Scope) s ts h = λ v rest d. h v rest (rooted s d)
first_at u N k s ts h = word_at u N no_name k s ts (λ v rest d. h v rest (relative d))

pub name_first : (u : Use) (N : TypeName → List Token → Type 0) (n : TypeName) (k : Kind) (s : Spot) (ts : List Token) → n ≡ no_name
    → ((v : TypeName) (rest : List Token) → Name u v (token k s ∷ ts) rest → N v rest) → ProgressAt u N (first_on u n k) k s ts
name_first u N n k s ts e h = subst (λ v. ProgressAt u N (first_on u v k) k s ts) (sym e) (first_at u N k s ts h)

scope_at_upper : (u : Use) (N : TypeName → List Token → Type 0) (n : TypeName) (s : Spot) (ts : List Token) (b : Bool) → on_line s ≡ b → NamingAt u N n step_at.Upper (sign mark.Scope s ∷ ts)
    → ProgressAt u N (upper_on u n b) (kind.Mark mark.Scope) s ts
scope_at_upper u N n s ts true e h = λ v rest d. h.1 s ts refl e v rest d
scope_at_upper u N n s ts false e h = before_at u N (ends_capital u) n (kind.Mark mark.Scope) s ts (λ c. h.0 e c)

upper_at : (u : Use) (N : TypeName → List Token → Type 0) (n : TypeName) (k : Kind) (s : Spot) (ts : List Token) → NamingAt u N n step_at.Upper (token k s ∷ ts) → ProgressAt u N (named_on u n step_at.Upper k s) k s ts
upper_at u N n (kind.Mark mark.Scope) s ts h = scope_at_upper u N n s ts (on_line s) refl h
upper_at u N n k s ts h = before_at u N (ends_capital u) n k s ts (λ c. h.0 refl c)

pub naming_at : (u : Use) (N : TypeName → List Token → Type 0) (n : TypeName) (x : Step) (k : Kind) (s : Spot) (ts : List Token) → NamingAt u N n x (token k s ∷ ts) → ProgressAt u N (named_on u n x k s) k s ts
naming_at u N n step_at.Start k s ts h = name_first u N n k s ts h.0 h.1
naming_at u N n step_at.Scope k s ts h = word_at u N n k s ts h
naming_at u N n step_at.Upper k s ts h = upper_at u N n k s ts h

-- it goes on
pub in_name : (u : Use) (N : TypeName → List Token → Type 0) (n : TypeName) (x : Step) (ts : List Token) → InNameAt u N n x ts → NamingAt u N n x ts
in_name u N n step_at.Start ts h = absurd h
in_name u N n step_at.Scope ts h = h
in_name u N n step_at.Upper ts h = h

-- a name that may have arguments begins
pub name_begins : (u : Use) (Q : PlainTy → List Token → Type 0) (m : List Token) → AppliedAt u Q m → NamingAt u (WholeNameAt u Q) no_name step_at.Start m
name_begins u Q m h = (refl, λ v rest d. (m, h, d))

-- it has no arguments
pub bare_name : (u : Use) (Q : PlainTy → List Token → Type 0) (n : TypeName) (ts : List Token) → WholeNameAt u Q n ts → Q (plain.name n plain.no_tys) ts
bare_name u Q n ts h = h.1 (plain.name n plain.no_tys) ts (unapplied h.2)

-- its arguments
pub name_applied : (u : Use) (Q : PlainTy → List Token → Type 0) (n : TypeName) (s : Spot) (ts : List Token) → WholeNameAt u Q n (sign mark.OpenSquare s ∷ ts) → (t : PlainTy) (rest : List Token)
    → Spelled (arguments_of n) t ts rest → Q t rest
name_applied u Q n s ts h t rest d = h.1 t rest (subst (λ x. Applied u x h.0 rest) (sym d.2) (applied s d.1 h.2 d.3))

-- ---- names of methods

-- the token is an ending of the word directly before it
pub ended_word : (file : ℕ) (k : Kind) (x e : List ℕ) (s : Spot) (k' : Kind) (s' : Spot) (ts : List Token) → method_word k ≡ Some x → ending_at file k' s' ≡ Some e → MethodName (x ++ e) (token k s ∷ token k' s' ∷ ts) ts
ended_word file k x e s (kind.Mark m) s' ts w h = joined_mark (is_joined s') refl h
  where
    joined_mark : (b : Bool) → is_joined s' ≡ b → ending_if file b m ≡ Some e → MethodName (x ++ e) (token k s ∷ sign m s' ∷ ts) ts
    joined_mark true j h = marked_word k x e m s s' w h j
    joined_mark false j h = absurd (cc)
ended_word file k x e s _ s' ts w h = absurd (cc)

-- an operator begins
pub operator_begins_at : (file : ℕ) (o : Operator) (k : Kind) (s : Spot) (ts : List Token) → operator_at file k ≡ Some o → OperatorAt o (token k s ∷ ts) ts
operator_begins_at file o (kind.Mark m) s ts e = λ o' rest d. an_operator m s e d
operator_begins_at file o _ s ts e = absurd (cc)

-- it goes on with a mark
pub operator_goes_on : (o o' : Operator) (m : List Token) (k : Kind) (s : Spot) (ts : List Token) → extended_at o k s ≡ Some o' → OperatorAt o m (token k s ∷ ts) → OperatorAt o' m ts
operator_goes_on o o' m (kind.Mark x) s ts e h = λ o'' rest d. h o'' rest (one_more x s e d)
operator_goes_on o o' m _ s ts e h = absurd (cc)

-- it is whole
pub operator_ends : (o : Operator) (m ts : List Token) → is_operator o ≡ true → extension o ts ≡ None → OperatorAt o m ts → MethodName (operator_text o) m ts
operator_ends o m ts e e' h = h o ts (no_more e e')

-- nothing goes on with `==`
equal_ends : (m : Mark) (s : Spot) (g : Gap) → extended_at operator.Equal (kind.Mark m) (record { before = s.before; gap = g; start = s.start; end = s.end; comments = s.comments }) ≡ None
equal_ends m s gap.Joined = refl
equal_ends m s gap.Blank = refl
equal_ends m s gap.Line = refl

equal_ends_at : (k : Kind) (s : Spot) → extended_at operator.Equal k s ≡ None
equal_ends_at (kind.Mark m) s = equal_ends m s s.gap
equal_ends_at _ s = refl

no_longer_equal : (rest : List Token) → extension operator.Equal rest ≡ None
no_longer_equal [] = refl
no_longer_equal (c ∷ ts) = equal_ends_at c.kind c.spot

-- two `=` side by side are `==`
equals_joined : (s : Spot) (g : Gap) → is_joined (record { before = s.before; gap = g; start = s.start; end = s.end; comments = s.comments }) ≡ true
    → extended_at operator.Assign (kind.Mark mark.Equals) (record { before = s.before; gap = g; start = s.start; end = s.end; comments = s.comments }) ≡ Some operator.Equal
equals_joined s gap.Joined e = refl
equals_joined s gap.Blank e = absurd (cc)
equals_joined s gap.Line e = absurd (cc)

pub double_equals_at : (s s' : Spot) (rest : List Token) → is_joined s' ≡ true → MethodName (operator_text operator.Equal) (sign mark.Equals s ∷ sign mark.Equals s' ∷ rest) rest
double_equals_at s s' rest e = an_operator mark.Equals s refl (one_more mark.Equals s' (equals_joined s' s'.gap e) (no_more refl (no_longer_equal rest)))
