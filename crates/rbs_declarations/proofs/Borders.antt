-- What a declaration or a member begins with, and what may stand behind one.
use Rattle.std.proofs.Common.{ℕ, ◌≡◌, Bool, List, [], ◌∷◌, Option, Some}
use Rattle.rbs_terminals.specs.declared.token.Token.{Token}
use Rattle.rbs_terminals.specs.declared.token.Spot.{Spot}
use Rattle.rbs_terminals.specs.declared.token.Mark.{Mark}
use Rattle.rbs_terminals.specs.declared.token.Mark.TheVariants as mark
use Rattle.rbs_terminals.specs.declared.token.Keyword.{Keyword}
use Rattle.rbs_terminals.specs.declared.token.Keyword.TheVariants as keyword
use Rattle.rbs_terminals.specs.declared.token.Kind.{Kind}
use Rattle.rbs_terminals.specs.declared.token.Kind.TheVariants as kind
use Rattle.sig_model.specs.declared.ty.TypeName.{TypeName}
use Rattle.sig_model.specs.declared.decl.Vis.{Vis}
use Rattle.sig_model.specs.declared.decl.AttrKind.{AttrKind}
use Rattle.sig_model.specs.declared.decl.MixKind.{MixKind}
use Rattle.sig_model.specs.PlainTy.{PlainTy, PlainTys, PlainFun, PlainBlock}
use Rattle.sig_model.specs.PlainMember.{PlainMember}
use Rattle.sig_model.specs.PlainDecl.{PlainDecl, PlainBody, PlainParts, PlainDecls}
use Rattle.rbs_types.specs.declared.state.Listed as the_listed
use Rattle.rbs_types.specs.Symbols.{sign}
use Rattle.rbs_types.specs.Grammar.{of_class, capital, interface, small, outer, Name, relative, rooted, type, simple, Function, function, Listed, unlisted, empty, listed, Blocked, no_block, needed_block, optional_block}
use Rattle.rbs_types.proofs.Followers.{follows_kind, Follows}
use Rattle.rbs_declarations.specs.Words.{vis_of, attribute_of, mixin_of}
use Rattle.rbs_declarations.specs.Grammar.{Visible, unsaid, said, Single, of_instances, of_itself, Method, method_of, Member, a_method, attribute, a_mixin, an_alias, variable, a_section, InterfaceMember, interface_method, interface_mixin, Annotations, no_annotations, annotation, Parent, no_parent, parent, Selves, no_selves, selves, Declaration, declaration, Body, a_class, a_module, an_interface, a_type, a_constant, Parts, no_part, inner_part, member_part, InterfaceParts, no_interface_part, interface_part, File, end_of_file, further}

abbrev pub starts_mark : Mark → Type 0
starts_mark mark.Scope = Unit {0}
starts_mark _ = ⊥

abbrev pub starts_keyword : Keyword → Type 0
starts_keyword keyword.End = ⊥
starts_keyword _ = Unit {0}

-- a declaration or a member begins so, with its annotations or without
abbrev pub starts : Kind → Type 0
starts (kind.Mark m) = starts_mark m
starts (kind.Keyword k) = starts_keyword k
starts (kind.Upper w) = Unit {0}
starts (kind.Variable w) = Unit {0}
starts (kind.Annotation w) = Unit {0}
starts _ = ⊥

abbrev pub Starts : List Token → Type 0
Starts [] = ⊥
Starts (c ∷ ts) = starts c.kind

-- it may stand behind a declaration or a member, and behind a heading
abbrev pub stops : Kind → Type 0
stops (kind.Mark m) = starts_mark m
stops (kind.Keyword k) = Unit {0}
stops (kind.Upper w) = Unit {0}
stops (kind.Variable w) = Unit {0}
stops (kind.Annotation w) = Unit {0}
stops _ = ⊥

abbrev pub Stops : List Token → Type 0
Stops [] = Unit {0}
Stops (c ∷ ts) = stops c.kind

start_stops : (k : Kind) → starts k → stops k
start_stops (kind.Keyword k) h = tt
start_stops (kind.Mark m) h = h
start_stops (kind.Upper w) h = tt
start_stops (kind.Variable w) h = tt
start_stops (kind.Annotation w) h = tt
start_stops _ h = absurd h

pub starts_stop : (ts : List Token) → Starts ts → Stops ts
starts_stop [] h = absurd h
starts_stop (c ∷ ts) h = start_stops c.kind h

-- ---- what the grammar puts there

pub class_name_starts : {n : TypeName} {ts rest : List Token} → Name of_class n ts rest → Starts ts
class_name_starts (relative (capital w s e f)) = tt
class_name_starts (relative (interface w s e)) = absurd (cc)
class_name_starts (relative (small w s e)) = absurd (cc)
class_name_starts (relative (outer w s s' e d)) = tt
class_name_starts (rooted s d) = tt

vis_starts : (k : Keyword) (v : Vis) → vis_of k ≡ Some v → starts_keyword k
vis_starts keyword.End v e = absurd (cc)
vis_starts _ v e = tt

attribute_starts : (k : Keyword) (a : AttrKind) → attribute_of k ≡ Some a → starts_keyword k
attribute_starts keyword.End a e = absurd (cc)
attribute_starts _ a e = tt

mixin_starts : (k : Keyword) (m : MixKind) → mixin_of k ≡ Some m → starts_keyword k
mixin_starts keyword.End m e = absurd (cc)
mixin_starts _ m e = tt

visible_starts : {v : Option Vis} {ts rest : List Token} → Visible v ts rest → Starts rest → Starts ts
visible_starts unsaid h = h
visible_starts (said k v s e b) h = vis_starts k v e

single_starts : {single : Bool} {ts rest : List Token} → Single single ts rest → Starts rest → Starts ts
single_starts of_instances h = h
single_starts (of_itself s s') h = tt

method_starts : {last : ℕ} {v : Option Vis} {m : PlainMember} {e : ℕ} {ts rest : List Token} → Method last v m e ts rest → Starts ts
method_starts (method_of s s' d n o) = tt

pub member_starts : {last : ℕ} {m : PlainMember} {e : ℕ} {ts rest : List Token} → Member last m e ts rest → Starts ts
member_starts (a_method v d) = visible_starts v (method_starts d)
member_starts (attribute k a k' w s s' s'' v e f d) = visible_starts v (attribute_starts k a e)
member_starts (a_mixin k m s e d) = mixin_starts k m e
member_starts (an_alias s d e) = tt
member_starts (variable w s s' d t) = single_starts d tt
member_starts (a_section k v s e b) = vis_starts k v e

pub interface_member_starts : {last : ℕ} {m : PlainMember} {e : ℕ} {ts rest : List Token} → InterfaceMember last m e ts rest → Starts ts
interface_member_starts (interface_method s s' d o) = tt
interface_member_starts (interface_mixin s d) = tt

pub annotations_start : {before texts : List (List ℕ)} {ts rest : List Token} → Annotations before texts ts rest → Starts rest → Starts ts
annotations_start no_annotations h = h
annotations_start (annotation w s d) h = tt

pub body_starts : {file last : ℕ} {b : PlainBody} {e : ℕ} {ts rest : List Token} → Body file last b e ts rest → Starts ts
body_starts (a_class s s' n ps p d) = tt
body_starts (a_module s s' n ps us d) = tt
body_starts (an_interface s s' n ps d) = tt
body_starts (a_type s s' n ps d) = tt
body_starts (a_constant s n d) = class_name_starts n

pub declaration_starts : {file last : ℕ} {d : PlainDecl} {ts rest : List Token} → Declaration file last d ts rest → Starts ts
declaration_starts (declaration a b) = annotations_start a (body_starts b)

pub parts_stop : {file last : ℕ} {before all : PlainParts} {ts rest : List Token} → Parts file last before all ts rest → Stops rest → Stops ts
parts_stop no_part h = h
parts_stop (inner_part {ts = ts} d ds) h = starts_stop ts (declaration_starts d)
parts_stop (member_part {ts = ts} a m ds) h = starts_stop ts (annotations_start a (member_starts m))

pub interface_parts_stop : {file last : ℕ} {before all : PlainParts} {ts rest : List Token} → InterfaceParts file last before all ts rest → Stops rest → Stops ts
interface_parts_stop no_interface_part h = h
interface_parts_stop (interface_part {ts = ts} a m ds) h = starts_stop ts (annotations_start a (interface_member_starts m))

pub file_stops : {file last : ℕ} {before all : PlainDecls} {ts : List Token} → File file last before all ts → Stops ts
file_stops end_of_file = tt
file_stops (further {ts = ts} d ds) = starts_stop ts (declaration_starts d)

-- ---- what doesn't stand there

type_may : (k : Kind) → stops k → follows_kind type k
type_may (kind.Mark mark.Scope) h = tt
type_may (kind.Mark _) h = absurd h
type_may _ h = tt

-- no token behind a part goes on with a type
pub type_followed : (ts : List Token) → Stops ts → Follows type ts
type_followed [] h = tt
type_followed (c ∷ ts) h = type_may c.kind h

function_may : (k : Kind) → stops k → follows_kind simple k
function_may (kind.Mark mark.Scope) h = tt
function_may (kind.Mark _) h = absurd h
function_may _ h = tt

pub function_followed : (ts : List Token) → Stops ts → Follows simple ts
function_followed [] h = tt
function_followed (c ∷ ts) h = function_may c.kind h

-- no bracket that would open arguments or type parameters
abbrev pub unbracketed : Kind → Type 0
unbracketed (kind.Mark mark.OpenSquare) = ⊥
unbracketed _ = Unit {0}

abbrev pub Unbracketed : List Token → Type 0
Unbracketed [] = Unit {0}
Unbracketed (c ∷ ts) = unbracketed c.kind

stop_unbracketed : (k : Kind) → stops k → unbracketed k
stop_unbracketed (kind.Mark mark.OpenSquare) h = h
stop_unbracketed _ h = tt

pub stops_unbracketed : (ts : List Token) → Stops ts → Unbracketed ts
stops_unbracketed [] h = tt
stops_unbracketed (c ∷ ts) h = stop_unbracketed c.kind h

pub parent_unbracketed : {t : Option PlainTy} {ts rest : List Token} → Parent t ts rest → Stops rest → Unbracketed ts
parent_unbracketed {rest = rest} no_parent h = stops_unbracketed rest h
parent_unbracketed (parent s d) h = tt

pub selves_unbracketed : {us : PlainTys} {ts rest : List Token} → Selves us ts rest → Stops rest → Unbracketed ts
selves_unbracketed {rest = rest} no_selves h = stops_unbracketed rest h
selves_unbracketed (selves s d) h = tt

blocked_unbracketed : {b : PlainBlock} {s : Spot} {ts rest : List Token} → Blocked b ts (sign mark.Arrow s ∷ rest) → Unbracketed ts
blocked_unbracketed no_block = tt
blocked_unbracketed (needed_block s d) = tt
blocked_unbracketed (optional_block s s' d) = tt

listed_unbracketed : {l : the_listed.Listed} {ts rest : List Token} → Listed l ts rest → Unbracketed rest → Unbracketed ts
listed_unbracketed unlisted h = h
listed_unbracketed (empty s s') h = tt
listed_unbracketed (listed s s' d) h = tt

pub function_unbracketed : {f : PlainFun} {ts rest : List Token} → Function f ts rest → Unbracketed ts
function_unbracketed (function s l b r) = listed_unbracketed l (blocked_unbracketed b)
