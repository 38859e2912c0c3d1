-- What stands directly behind the terminal before it.
use Rattle.std.specs.Prelude.{Bool, true, false, List, [], ◌∷◌, Option, Some, None}
use Rattle.rbs_terminals.specs.declared.token.Token.{Token}
use Rattle.rbs_terminals.specs.declared.token.Spot.{Spot}
use Rattle.rbs_terminals.specs.declared.token.Mark.{Mark}
use Rattle.rbs_terminals.specs.declared.token.Mark.TheVariants as mark
use Rattle.rbs_terminals.specs.declared.token.Kind.{Kind}
use Rattle.rbs_terminals.specs.declared.token.Kind.TheVariants as kind
use Rattle.rbs_declarations.specs.declared.operators.Operator.{Operator}
use Rattle.rbs_declarations.specs.Operators.{begun_by}
use Rattle.rbs_declarations.specs.Words.{is_joined}

abbrev pub mark_if : Bool → Mark → Option Mark
mark_if true m = Some m
mark_if false m = None

-- the mark that a terminal is, where it stands directly behind the one before it
abbrev pub mark_at : Kind → Spot → Option Mark
mark_at (kind.Mark m) s = mark_if (is_joined s) m
mark_at _ s = None

-- the next terminal stands directly behind the one before it
abbrev pub joined_next : List Token → Bool
joined_next [] = false
joined_next (c ∷ ts) = is_joined c.spot

-- the mark that comes next, directly behind the terminal before it
abbrev pub joined_mark : List Token → Option Mark
joined_mark [] = None
joined_mark (c ∷ ts) = mark_at c.kind c.spot

abbrev pub is_equals : Option Mark → Bool
is_equals (Some mark.Equals) = true
is_equals _ = false

-- an `=` comes next, directly behind the terminal before it
abbrev pub equals_follows : List Token → Bool
equals_follows ts = is_equals (joined_mark ts)

-- the operator that a terminal begins
abbrev pub operator_at : Kind → Option Operator
operator_at (kind.Mark m) = begun_by m
operator_at _ = None
