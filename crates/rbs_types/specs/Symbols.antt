-- The terminals of the grammar, and what is asked of one.
use Rattle.std.specs.Prelude.{Bool, true, false, List, [], ◌∷◌}
use Rattle.rbs_terminals.specs.declared.token.Token.{Token}
use Rattle.rbs_terminals.specs.declared.token.Spot.{Spot}
use Rattle.rbs_terminals.specs.declared.token.Gap.{Gap}
use Rattle.rbs_terminals.specs.declared.token.Gap.TheVariants as gap
use Rattle.rbs_terminals.specs.declared.token.Mark.{Mark}
use Rattle.rbs_terminals.specs.declared.token.Mark.TheVariants as mark
use Rattle.rbs_terminals.specs.declared.token.Keyword.{Keyword}
use Rattle.rbs_terminals.specs.declared.token.Kind.{Kind}
use Rattle.rbs_terminals.specs.declared.token.Kind.TheVariants as kind

abbrev pub token : Kind → Spot → Token
token k s = record { kind = k; spot = s }

abbrev pub sign : Mark → Spot → Token
sign m s = record { kind = kind.Mark m; spot = s }

abbrev pub word : Keyword → Spot → Token
word k s = record { kind = kind.Keyword k; spot = s }

-- the token stands on the line of the one before it
abbrev pub on_line : Spot → Bool
on_line s = in_line s.gap
  where
    in_line : Gap → Bool
    in_line gap.Line = false
    in_line _ = true

abbrev pub scope_at : Kind → Spot → Bool
scope_at (kind.Mark mark.Scope) s = on_line s
scope_at _ s = false

-- a `::` follows on the line: it would go on with a name
abbrev pub scope_follows : List Token → Bool
scope_follows [] = false
scope_follows (c ∷ ts) = scope_at c.kind c.spot

abbrev pub is_question : Kind → Bool
is_question (kind.Mark mark.Question) = true
is_question _ = false

abbrev pub question_follows : List Token → Bool
question_follows [] = false
question_follows (c ∷ ts) = is_question c.kind
