-- No list of statements goes on with an `end`.
use Rattle.std.proofs.Common.{ℕ, List, [], ◌∷◌, ◌++◌, Option, Some, None}
use Rattle.ruby_tokens.specs.declared.token.Token.{Token}
use Rattle.ruby_tokens.specs.declared.token.Kind.TheVariants as kind
use Rattle.ruby_reader.specs.declared.tree.Expression.{Expression}
use Rattle.ruby_reader.specs.declared.tree.Statement.{Statement}
use Rattle.ruby_reader.specs.declared.progress.Turn.{Turn}
use Rattle.ruby_reader.specs.declared.progress.Turn.TheVariants as turn
use Rattle.ruby_reader.specs.declared.frames.Target.{Target}
use Rattle.ruby_reader.specs.declared.frames.Target.TheVariants.{Value, Class}
use Rattle.ruby_reader.specs.declared.frames.Frame.{Frame}
use Rattle.ruby_reader.specs.declared.expression.Way.{Way}
use Rattle.ruby_reader.specs.declared.expression.Way.TheVariants as way
use Rattle.ruby_reader.specs.declared.expression.ExpressionPlace.{ExpressionPlace}
use Rattle.ruby_reader.specs.declared.expression.ExpressionPlace.TheVariants as at
use Rattle.ruby_reader.specs.declared.expression.ExpressionReader.{ExpressionReader}
use Rattle.ruby_reader.specs.declared.expression.Outcome.{Outcome}
use Rattle.ruby_reader.specs.declared.expression.Outcome.TheVariants.{Reading, Ended}
use Rattle.ruby_reader.specs.declared.list.ListPlace.{ListPlace}
use Rattle.ruby_reader.specs.declared.list.ListPlace.TheVariants as place
use Rattle.ruby_reader.specs.PlainTree.{PlainStatement}
use Rattle.ruby_reader.specs.Grammar.{tok, Ending}
use Rattle.ruby_reader.specs.ExpressionMachine.{made, behind, behind_made, step, expression_next}
use Rattle.ruby_reader.specs.ListMachine as list
use Rattle.ruby_reader.proofs.Lists.{ListGoes}
use Rattle.ruby_reader.proofs.Statements.{with_statement_in}

-- the reader of an expression wants no more
abbrev IsOver : Option Outcome → Type 0
IsOver None = Unit {0}
IsOver (Some (Reading r)) = ⊥
IsOver (Some (Ended x t)) = Unit {0}

behind_over : (fs : List Frame) (t : Target) (v : Way) → IsOver (behind fs t v kind.End)
behind_over fs (Class c) v = tt
behind_over [] (Value x) way.Here = tt
behind_over [] (Value x) way.Line = tt
behind_over [] (Value x) way.Noted = tt
behind_over (f ∷ fs) (Value x) v = tt

made_over : (fs : List Frame) (o : Option Expression) → IsOver (behind_made fs o kind.End)
made_over fs None = tt
made_over fs (Some x) = behind_over fs (Value x) way.Here

place_over : (fs : List Frame) (p : ExpressionPlace) (s e : ℕ) → IsOver (step fs p kind.End s e)
place_over fs at.Before s e = tt
place_over fs (at.Opened c) s e = tt
place_over fs (at.Behind t v) s e = behind_over fs t v
place_over fs (at.Dot t) s e = tt
place_over fs (at.Called c) s e = made_over fs (made c [])

between_stops : (ending : Ending) (ss : List Statement) (t : Turn) (qs : List PlainStatement) (ts rest : List Token) → ListGoes ending (list.between_statements ss t kind.End) qs ts rest → ⊥
between_stops ending ss turn.Free qs ts rest g = g
between_stops ending ss turn.Taken qs ts rest g = g

outcome_stops : (ending : Ending) (ss : List Statement) (goal : Option (List ℕ)) (o : Option Outcome) (qs : List PlainStatement) (ts rest : List Token) → IsOver o → ListGoes ending (list.with_outcome ss goal kind.End o) qs ts rest → ⊥
outcome_stops ending ss goal None qs ts rest over g = absurd g
outcome_stops ending ss goal (Some (Reading r)) qs ts rest over g = absurd over
outcome_stops ending ss goal (Some (Ended x t)) qs ts rest over g =
    with_statement_in (λ zs. ListGoes ending (list.behind_low zs t kind.End) qs ts rest) ss goal x ⊥ (λ g. g) (λ low g. between_stops ending (ss ++ list.statement_of goal x ∷ []) t qs ts rest g) g

expression_stops : (ending : Ending) (ss : List Statement) (goal : Option (List ℕ)) (r : ExpressionReader) (s e : ℕ) (qs : List PlainStatement) (ts rest : List Token)
    → ListGoes ending (list.with_outcome ss goal kind.End (expression_next r (tok kind.End s e))) qs ts rest → ⊥
expression_stops ending ss goal r s e qs ts rest g = outcome_stops ending ss goal (expression_next r (tok kind.End s e)) qs ts rest (place_over r.frames r.place s e) g

pub end_stops : (ending : Ending) (ss : List Statement) (p : ListPlace) (s e : ℕ) (qs : List PlainStatement) (ts rest : List Token) → ListGoes ending (list.step ss p (tok kind.End s e)) qs ts rest → ⊥
end_stops ending ss (place.Between t) s e qs ts rest g = between_stops ending ss t qs ts rest g
end_stops ending ss (place.Named n) s e qs ts rest g = expression_stops ending ss None (list.local n) s e qs ts rest g
end_stops ending ss (place.Reading goal r) s e qs ts rest g = expression_stops ending ss goal r s e qs ts rest g
