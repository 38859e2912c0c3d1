-- What may stand behind a phrase inside a longer text, and what the reader does there: behind a phrase that no token of its own follows, what it does behind the next wider one.
use Rattle.std.proofs.Common.{ℕ, ◌≡◌, refl, ap, false, List, [], ◌∷◌, Some, None}
use Rattle.rbs_terminals.specs.declared.token.Token.{Token}
use Rattle.rbs_terminals.specs.declared.token.Mark.{Mark}
use Rattle.rbs_terminals.specs.declared.token.Mark.TheVariants as mark
use Rattle.rbs_terminals.specs.declared.token.Kind.{Kind}
use Rattle.rbs_terminals.specs.declared.token.Kind.TheVariants as kind
use Rattle.rbs_terminals.specs.Kinds.{lower_of}
use Rattle.sig_model.specs.declared.ty.TypeName.{TypeName}
use Rattle.sig_model.specs.PlainTy as plain
use Rattle.sig_model.specs.PlainTy.{PlainTy, PlainTys, PlainKeys}
use Rattle.rbs_types.specs.declared.state.Parameters.{Parameters}
use Rattle.rbs_types.specs.declared.state.Head.{Head}
use Rattle.rbs_types.specs.declared.state.Level.{Level}
use Rattle.rbs_types.specs.declared.state.Owner.{Owner}
use Rattle.rbs_types.specs.declared.state.Slot.{Slot}
use Rattle.rbs_types.specs.declared.state.Slot.TheVariants as slot
use Rattle.rbs_types.specs.declared.state.Frame.{Frame}
use Rattle.rbs_types.specs.declared.state.Focus.TheVariants as focus
use Rattle.rbs_types.specs.Symbols.{is_question}
use Rattle.rbs_types.specs.Parts.{added, ended}
use Rattle.rbs_types.specs.Grammar.{Sort, type, inter, opt, simple}
use Rattle.rbs_types.specs.Machine.{at, headed, joined, all_ended, after_type, after_inter, after_operand, after_opt, after_simple, after_bare, in_parameter, parameter_named, after_parameter_named}

abbrev pub follows_mark : Sort → Mark → Type 0
follows_mark x mark.OpenSquare = ⊥
follows_mark type mark.Bar = ⊥
follows_mark type mark.Amp = ⊥
follows_mark type mark.Question = ⊥
follows_mark inter mark.Amp = ⊥
follows_mark inter mark.Question = ⊥
follows_mark opt mark.Question = ⊥
follows_mark _ _ = Unit {0}

abbrev pub follows_kind : Sort → Kind → Type 0
follows_kind x (kind.Mark m) = follows_mark x m
follows_kind x _ = Unit {0}

-- no token follows that would go on with the phrase
abbrev pub Follows : Sort → List Token → Type 0
Follows x [] = Unit {0}
Follows x (c ∷ ts) = follows_kind x c.kind

-- what may follow a phrase of a sort may follow one of the next narrower sort

inter_may : (k : Kind) → follows_kind type k → follows_kind inter k
inter_may (kind.Mark mark.OpenSquare) h = h
inter_may (kind.Mark mark.Amp) h = h
inter_may (kind.Mark mark.Question) h = h
inter_may _ h = tt

opt_may : (k : Kind) → follows_kind inter k → follows_kind opt k
opt_may (kind.Mark mark.OpenSquare) h = h
opt_may (kind.Mark mark.Question) h = h
opt_may _ h = tt

simple_may : (k : Kind) → follows_kind opt k → follows_kind simple k
simple_may (kind.Mark mark.OpenSquare) h = h
simple_may _ h = tt

pub follows_inter : (ts : List Token) → Follows type ts → Follows inter ts
follows_inter [] h = tt
follows_inter (c ∷ ts) h = inter_may c.kind h

pub follows_opt : (ts : List Token) → Follows inter ts → Follows opt ts
follows_opt [] h = tt
follows_opt (c ∷ ts) h = opt_may c.kind h

pub follows_simple : (ts : List Token) → Follows opt ts → Follows simple ts
follows_simple [] h = tt
follows_simple (c ∷ ts) h = simple_may c.kind h

-- the name of a parameter may follow its type
pub word_follows : (k : Kind) (w : List ℕ) → lower_of k ≡ Some w → follows_kind type k
word_follows (kind.Mark m) w h = absurd (cc)
word_follows _ w h = tt

-- a comma or a closing parenthesis
abbrev pub ends_parameter : Kind → Type 0
ends_parameter (kind.Mark mark.Comma) = Unit {0}
ends_parameter (kind.Mark mark.Close) = Unit {0}
ends_parameter _ = ⊥

abbrev pub EndsParameter : List Token → Type 0
EndsParameter [] = ⊥
EndsParameter (c ∷ ts) = ends_parameter c.kind

ends_type : (k : Kind) → ends_parameter k → follows_kind type k
ends_type (kind.Mark mark.Comma) h = tt
ends_type (kind.Mark mark.Close) h = tt
ends_type _ h = absurd h

pub parameter_follows : (ts : List Token) → EndsParameter ts → Follows type ts
parameter_follows [] h = absurd h
parameter_follows (c ∷ ts) h = ends_type c.kind h

-- ---- what a token does behind a phrase that it doesn't go on with

pub inter_whole : (t : PlainTy) (us : PlainTys) (frames : List Frame) (k : Kind) → follows_kind type k → after_inter t us frames k ≡ after_type (joined plain.union us t) frames k
inter_whole t us frames (kind.Mark mark.Bar) h = absurd h
inter_whole t us frames _ h = refl

pub opt_whole : (t : PlainTy) (us is : PlainTys) (frames : List Frame) (k : Kind) → follows_kind inter k → after_operand t us is frames k ≡ after_inter (joined plain.inter is t) us frames k
opt_whole t us is frames (kind.Mark mark.Amp) h = absurd h
opt_whole t us is frames _ h = refl

pub simple_whole : (t : PlainTy) (level : Level) (frames : List Frame) (k : Kind) → follows_kind opt k → after_simple t level frames k ≡ after_opt (all_ended level.heads t) level.members frames k
simple_whole t level frames (kind.Mark mark.Question) h = absurd h
simple_whole t level frames _ h = refl

pub name_whole : (n : TypeName) (level : Level) (frames : List Frame) (k : Kind) → follows_kind simple k → after_bare n level frames k ≡ after_simple (plain.name n plain.no_tys) level frames k
name_whole n level frames (kind.Mark mark.OpenSquare) h = absurd h
name_whole n level frames _ h = refl

-- the result of a function ends the function where no question mark follows
pub result_whole : (t : PlainTy) (h : Head) (level : Level) (frames : List Frame) (k : Kind) → is_question k ≡ false → after_simple t (headed h level) frames k ≡ after_simple (ended h t) level frames k
result_whole t h level frames (kind.Mark mark.Question) q = absurd (cc)
result_whole t h level frames _ q = refl

-- ---- behind the type of a parameter

-- the rest of the keywords is the last parameter
abbrev pub is_followed : Slot → Type 0
is_followed slot.KeyRest = ⊥
is_followed _ = Unit {0}

-- a parameter that may have a name, and may be followed
abbrev pub is_positional : Slot → Type 0
is_positional slot.KeyRest = ⊥
is_positional (slot.Key w needed) = ⊥
is_positional _ = Unit {0}

pub positional_followed : (x : Slot) → is_positional x → is_followed x
positional_followed slot.KeyRest h = h
positional_followed _ h = tt

pub unnamed_whole : (t : PlainTy) (p : Parameters) (x : Slot) (owner : Owner) (frames : List Frame) (k : Kind) → is_followed x → ends_parameter k
    → in_parameter t p x owner frames k ≡ after_parameter_named (added p x t None) owner frames k
unnamed_whole t p slot.KeyRest owner frames k x e = absurd x
unnamed_whole t p _ owner frames (kind.Mark mark.Comma) x e = refl
unnamed_whole t p _ owner frames (kind.Mark mark.Close) x e = refl
unnamed_whole t p _ owner frames _ x e = absurd e

pub in_named : (t : PlainTy) (p : Parameters) (x : Slot) (owner : Owner) (frames : List Frame) (k : Kind) (w : List ℕ) → lower_of k ≡ Some w
    → in_parameter t p x owner frames k ≡ parameter_named t p x owner frames (Some w)
in_named t p x owner frames (kind.Mark m) w h = absurd (cc)
in_named t p x owner frames _ w h = ap (parameter_named t p x owner frames) h

pub named_whole : (t : PlainTy) (p : Parameters) (x : Slot) (owner : Owner) (frames : List Frame) (w : List ℕ) → is_positional x
    → parameter_named t p x owner frames (Some w) ≡ at (focus.ParameterNamed (added p x t (Some w)) owner) frames
named_whole t p slot.KeyRest owner frames w x = absurd x
named_whole t p (slot.Key key needed) owner frames w x = absurd x
named_whole t p _ owner frames w x = refl
