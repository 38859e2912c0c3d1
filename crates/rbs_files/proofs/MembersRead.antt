-- Members that were read.
use Rattle.std.proofs.Common.{ℕ, ◌≡◌, sym, ◌∙◌, ap, subst, Bool, true, false, List, ◌∷◌, Option, None, Some, arith}
use Rattle.rbs_terminals.specs.declared.token.Token.{Token}
use Rattle.rbs_terminals.specs.declared.token.Spot.{Spot}
use Rattle.rbs_terminals.specs.declared.token.Mark.TheVariants as mark
use Rattle.rbs_terminals.specs.declared.token.Keyword.{Keyword}
use Rattle.rbs_terminals.specs.declared.token.Keyword.TheVariants as keyword
use Rattle.rbs_terminals.specs.declared.token.Kind.{Kind}
use Rattle.rbs_terminals.specs.declared.token.Kind.TheVariants as kind
use Rattle.rbs_terminals.specs.Kinds.{lower_of}
use Rattle.sig_model.specs.declared.decl.Vis.{Vis}
use Rattle.sig_model.specs.declared.decl.AttrKind.{AttrKind}
use Rattle.sig_model.specs.declared.decl.MixKind.{MixKind}
use Rattle.sig_model.specs.declared.decl.MixKind.TheVariants as mixin
use Rattle.sig_model.specs.PlainTy.{PlainTy}
use Rattle.sig_model.specs.PlainMember.{PlainMethod, PlainMember, method, attr, mixin as mixed, alias as renamed, ivar, section}
use Rattle.rbs_types.specs.Symbols.{token, sign, word}
use Rattle.rbs_types.specs.Grammar.{of_class, of_interface}
use Rattle.rbs_phrases.specs.Fronts.{Front, Whole, whole, Marked}
use Rattle.rbs_declarations.specs.Words.{vis_of, attribute_of, mixin_of, vis_belongs, end_at}
use Rattle.rbs_declarations.specs.Grammar.{Single, of_itself, MethodName, Visible, said, method_of, a_method, attribute, a_mixin, an_alias, variable, a_section, interface_method, interface_mixin}
use Rattle.rbs_files.specs.Within.{IsType, IsApplied, IsOverloads, IsMethod, IsMember, IsInterfaceMember}

-- ---- methods and attributes

pub method_read : {room : ℕ} {v : Option Vis} {single : Bool} {n : List ℕ} {ms : List PlainMethod} {ts mid mid' mid'' rest : List Token} (m : PlainMember) → m ≡ method v single n ms
    → Single single ts mid → MethodName n mid mid' → Marked mark.Colon mid' mid'' → IsOverloads room ms mid'' rest → (s : Spot) (last : ℕ) → IsMethod room last v m (end_at last rest) (word keyword.Def s ∷ ts) rest
method_read {room = room} {v = v} {n = n} {ts = ts} {mid = mid} {rest = rest} m e own name colon os s last =
    subst (λ m. IsMethod room last v m (end_at last rest) (word keyword.Def s ∷ ts) rest) (sym e) (method_of s colon.0 own (subst (λ ts. MethodName n mid ts) colon.1 name) os.0, os.1, os.2)

pub interface_method_read : {room : ℕ} {n : List ℕ} {ms : List PlainMethod} {ts mid mid' rest : List Token} (m : PlainMember) → m ≡ method None false n ms
    → MethodName n ts mid → Marked mark.Colon mid mid' → IsOverloads room ms mid' rest → (s : Spot) (last : ℕ) → IsInterfaceMember room last m (end_at last rest) (word keyword.Def s ∷ ts) rest
interface_method_read {room = room} {n = n} {ts = ts} {rest = rest} m e name colon os s last =
    subst (λ m. IsInterfaceMember room last m (end_at last rest) (word keyword.Def s ∷ ts) rest) (sym e) (interface_method s colon.0 (subst (λ mid. MethodName n ts mid) colon.1 name) os.0, os.1, os.2)

pub attribute_read : {room : ℕ} {v : Option Vis} {a : AttrKind} {t : PlainTy} {mid mid' mid'' rest : List Token} (m : PlainMember) (w : List ℕ) → m ≡ attr v a w t
    → (k' : Kind) (s' : Spot) → mid ≡ token k' s' ∷ mid' → lower_of k' ≡ Some w → Marked mark.Colon mid' mid'' → IsType room t mid'' rest
    → (k : Keyword) → attribute_of k ≡ Some a → (s : Spot) (ts : List Token) (last : ℕ) → Visible v ts (word k s ∷ mid) → IsMember room last m (end_at last rest) ts rest
attribute_read {room = room} {v = v} {rest = rest} m w e k' s' next is colon t k begins s ts last seen =
    let front = subst (λ mid. Visible v ts (word k s ∷ mid)) (next ∙ ap (λ mid. token k' s' ∷ mid) colon.1) seen in
    subst (λ m. IsMember room last m (end_at last rest) ts rest) (sym e) (attribute k _ k' w s s' colon.0 front begins is t.0, t.1, t.2)

-- a method is a member
pub seen_method : {room last : ℕ} {v : Option Vis} {m : PlainMember} {e : ℕ} {mid rest : List Token} (k : Keyword) → k ≡ keyword.Def → (s : Spot) (ts : List Token) → Visible v ts (word k s ∷ mid)
    → IsMethod room last v m e (word keyword.Def s ∷ mid) rest → IsMember room last m e ts rest
seen_method {v = v} {mid = mid} k is s ts seen h = (a_method (subst (λ k. Visible v ts (word k s ∷ mid)) is seen) h.0, h.1, h.2)

-- ---- other members

pub mixin_read : {room : ℕ} {a : MixKind} {t : PlainTy} {ts rest : List Token} (m : PlainMember) → m ≡ mixed a t → IsApplied room of_class t ts rest
    → (k : Keyword) → mixin_of k ≡ Some a → (s : Spot) (last : ℕ) → IsMember room last m (end_at last rest) (word k s ∷ ts) rest
mixin_read {room = room} {a = a} {ts = ts} {rest = rest} m e t k is s last =
    subst (λ m. IsMember room last m (end_at last rest) (word k s ∷ ts) rest) (sym e) (a_mixin k a s is t.0, t.1, t.2)

pub interface_mixin_read : {room : ℕ} {t : PlainTy} {ts rest : List Token} (m : PlainMember) → m ≡ mixed mixin.Include t → IsApplied room of_interface t ts rest
    → (k : Keyword) → k ≡ keyword.Include → (s : Spot) (last : ℕ) → IsInterfaceMember room last m (end_at last rest) (word k s ∷ ts) rest
interface_mixin_read {room = room} {ts = ts} {rest = rest} m e t k is s last =
    let read = subst (λ m. IsInterfaceMember room last m (end_at last rest) (word keyword.Include s ∷ ts) rest) (sym e) (interface_mixin s t.0, t.1, t.2) in
    subst (λ k. IsInterfaceMember room last m (end_at last rest) (word k s ∷ ts) rest) (sym is) read

pub alias_read : {new old : List ℕ} {ts mid rest : List Token} (m : PlainMember) → m ≡ renamed new old → MethodName new ts mid → MethodName old mid rest
    → (room : ℕ) (s : Spot) (last : ℕ) → IsMember room last m (end_at last rest) (word keyword.Alias s ∷ ts) rest
alias_read {ts = ts} {rest = rest} m e new old room s last =
    subst (λ m. IsMember room last m (end_at last rest) (word keyword.Alias s ∷ ts) rest) (sym e) (an_alias s new old, omega arith, omega arith)

pub variable_read : {room : ℕ} {single : Bool} {t : PlainTy} {mid mid' rest : List Token} (m : PlainMember) (w : List ℕ) → m ≡ ivar single w t → Marked mark.Colon mid mid' → IsType room t mid' rest
    → (s : Spot) (ts : List Token) (last : ℕ) → Single single ts (token (kind.Variable w) s ∷ mid) → IsMember room last m (end_at last rest) ts rest
variable_read {room = room} {single = single} {rest = rest} m w e colon t s ts last own =
    let front = subst (λ mid. Single single ts (token (kind.Variable w) s ∷ mid)) colon.1 own in
    subst (λ m. IsMember room last m (end_at last rest) ts rest) (sym e) (variable w s colon.0 front t.0, t.1, t.2)

-- the name of a variable behind `self` and a dot
pub own_variable : {ts mid mid' : List Token} (w : List ℕ) → Marked mark.Dot ts mid → (k : Kind) (s' : Spot) → mid ≡ token k s' ∷ mid' → k ≡ kind.Variable w
    → (s : Spot) → Single true (word keyword.SelfWord s ∷ ts) (token (kind.Variable w) s' ∷ mid')
own_variable {ts = ts} {mid' = mid'} w dot k s' next is s =
    let same = dot.1 ∙ ap (λ mid. sign mark.Dot dot.0 ∷ mid) (next ∙ ap (λ k. token k s' ∷ mid') is) in
    subst (λ ts. Single true (word keyword.SelfWord s ∷ ts) (token (kind.Variable w) s' ∷ mid')) (sym same) (of_itself s dot.0)

-- a visibility that begins a section
pub section_read : {last : ℕ} {v : Vis} {rest : List Token} (m : PlainMember) → m ≡ section v → (room : ℕ) (k : Keyword) → vis_of k ≡ Some v → vis_belongs rest ≡ false
    → (s : Spot) (e : ℕ) → e ≡ s.end → IsMember room last m e (word k s ∷ rest) rest
section_read {last = last} {v = v} {rest = rest} m is room k begins alone s e ends =
    let read = subst (λ m. IsMember room last m s.end (word k s ∷ rest) rest) (sym is) (a_section k v s begins alone, omega arith, omega arith) in
    subst (λ e. IsMember room last m e (word k s ∷ rest) rest) (sym ends) read

-- a visibility on the line of the keyword behind it
pub said_before : {v : Vis} {ts mid : List Token} (k : Keyword) → vis_of k ≡ Some v → vis_belongs ts ≡ true → (s : Spot) (k' : Kind) (s' : Spot) → ts ≡ token k' s' ∷ mid → (k'' : Keyword) → k' ≡ kind.Keyword k''
    → Visible (Some v) (word k s ∷ ts) (word k'' s' ∷ mid)
said_before {v = v} {ts = ts} {mid = mid} k begins belongs s k' s' next k'' is =
    subst (λ mid. Visible (Some v) (word k s ∷ ts) mid) (next ∙ ap (λ k. token k s' ∷ mid) is) (said k v s begins belongs)

-- ---- where a member ends that was read up to the second place

pub member_ended : {room : ℕ} {m : PlainMember} {ts : List Token} (f g : Front) (e : ℕ) → e ≡ end_at (whole g).last g.rest → whole g ≡ whole f
    → ((last : ℕ) → IsMember room last m (end_at last g.rest) ts g.rest) → IsMember room (whole f).last m e ts g.rest
member_ended {room = room} {m = m} {ts = ts} f g e ends same h =
    subst (λ e. IsMember room (whole f).last m e ts g.rest) (sym (ends ∙ ap (λ (w : Whole). end_at w.last g.rest) same)) (h (whole f).last)

pub interface_member_ended : {room : ℕ} {m : PlainMember} {ts : List Token} (f g : Front) (e : ℕ) → e ≡ end_at (whole g).last g.rest → whole g ≡ whole f
    → ((last : ℕ) → IsInterfaceMember room last m (end_at last g.rest) ts g.rest) → IsInterfaceMember room (whole f).last m e ts g.rest
interface_member_ended {room = room} {m = m} {ts = ts} f g e ends same h =
    subst (λ e. IsInterfaceMember room (whole f).last m e ts g.rest) (sym (ends ∙ ap (λ (w : Whole). end_at w.last g.rest) same)) (h (whole f).last)
