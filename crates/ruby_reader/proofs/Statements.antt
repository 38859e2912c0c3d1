-- What stands behind a statement: the rest of its list.
use Rattle.std.specs.Prelude.{if◌then◌else◌}
use Rattle.std.proofs.Common.{arith, ◌≡◌, ℕ, ◌≤◌, Bool, true, false, refl, sym, ◌∙◌, ap, List, [], ◌∷◌, ◌++◌, Option, Some, None}
use Rattle.std.proofs.lemmas.Bool.{le-leb, leb-true}
use Rattle.ruby_tokens.specs.declared.token.Token.{Token}
use Rattle.ruby_tokens.specs.declared.token.Kind.{Kind}
use Rattle.ruby_tokens.specs.declared.token.Kind.TheVariants as kind
use Rattle.ruby_reader.specs.declared.tree.Expression.{Expression}
use Rattle.ruby_reader.specs.declared.tree.Statement.{Statement}
use Rattle.ruby_reader.specs.declared.progress.Turn.{Turn}
use Rattle.ruby_reader.specs.declared.progress.Turn.TheVariants as turn
use Rattle.ruby_reader.specs.declared.frames.Target.{Target}
use Rattle.ruby_reader.specs.PlainTree as plain
use Rattle.ruby_reader.specs.PlainTree.{PlainExpression, PlainStatement}
use Rattle.ruby_reader.specs.PlainLaws.{plain_expression, plain_statement, plain_statements}
use Rattle.ruby_reader.specs.Heights.{height, statement_height, limit, AreLow}
use Rattle.ruby_reader.specs.Grammar.{tok, free, taken, IsBreak, break_newline, literal_int, literal_str, literal_sym, literal_nil, expression_calls, operand_literal, operand_local, operand_new, States, state_expression, state_assignment, Ending, Ends, Lists, list_ends, list_break, list_more}
use Rattle.ruby_reader.specs.Grammar as grammar
use Rattle.ruby_reader.specs.ExpressionMachine.{operand_of}
use Rattle.ruby_reader.specs.ListMachine.{statement_of, is_low, with_low, with_statement}
use Rattle.ruby_reader.proofs.Steps.{turn_of}
use Rattle.ruby_reader.proofs.OpenCalls.{Surrounds}

-- the statement that an expression makes
abbrev pub plain_of : Option (List ℕ) → PlainExpression → PlainStatement
plain_of None x = plain.expression x
plain_of (Some n) x = plain.assignment n x

pub plain_of_is : (goal : Option (List ℕ)) (x : Expression) → plain_statement (statement_of goal x) ≡ plain_of goal (plain_expression x)
plain_of_is None x = refl
plain_of_is (Some n) x = refl

-- a statement begins with an operand
state_first : {q : PlainStatement} {k : Kind} {s e : ℕ} {ts mid : List Token} → States q (tok k s e ∷ ts) mid → (t : Target) × (operand_of k ≡ Some t)
state_first (state_expression (expression_calls (operand_literal literal_int) c)) = (_, refl)
state_first (state_expression (expression_calls (operand_literal literal_str) c)) = (_, refl)
state_first (state_expression (expression_calls (operand_literal literal_sym) c)) = (_, refl)
state_first (state_expression (expression_calls (operand_literal literal_nil) c)) = (_, refl)
state_first (state_expression (expression_calls operand_local c)) = (_, refl)
state_first (state_expression (expression_calls (operand_new d a) c)) = (_, refl)
state_first (state_assignment sk ex) = (_, refl)

pub no_state : (k : Kind) {q : PlainStatement} {s e : ℕ} {ts mid : List Token} → operand_of k ≡ None → States q (tok k s e ∷ ts) mid → ⊥
no_state k is st = let f = state_first st in let h = sym is ∙ f.1 in absurd (cc)

lists_line : {ending : Ending} {t : grammar.Turn} {more : List PlainStatement} {s e : ℕ} {ts rest : List Token} → Lists ending t more (tok kind.Newline s e ∷ ts) rest → Lists ending free more ts rest
lists_line (list_ends en) = elim en [ ]
lists_line (list_break b l) = l
lists_line (list_more st l) = absurd (no_state kind.Newline refl st)

no_dot_list : {ending : Ending} {t : grammar.Turn} {more : List PlainStatement} {s e : ℕ} {ts rest : List Token} → Lists ending t more (tok kind.Dot s e ∷ ts) rest → ⊥
no_dot_list (list_ends en) = elim en [ ]
no_dot_list (list_break b l) = elim b [ ]
no_dot_list (list_more st l) = no_state kind.Dot refl st

no_leading_list : {ending : Ending} {t : grammar.Turn} {more : List PlainStatement} {s e : ℕ} {ts rest : List Token} → Lists ending t more (tok kind.LeadingDot s e ∷ ts) rest → ⊥
no_leading_list (list_ends en) = elim en [ ]
no_leading_list (list_break b l) = elim b [ ]
no_leading_list (list_more st l) = no_state kind.LeadingDot refl st

no_note_list : {ending : Ending} {t : grammar.Turn} {more : List PlainStatement} {s e : ℕ} {ts rest : List Token} → Lists ending t more (tok kind.TypeNote s e ∷ ts) rest → ⊥
no_note_list (list_ends en) = elim en [ ]
no_note_list (list_break b l) = elim b [ ]
no_note_list (list_more st l) = no_state kind.TypeNote refl st

no_open_list : {ending : Ending} {t : grammar.Turn} {more : List PlainStatement} {s e : ℕ} {ts rest : List Token} → Lists ending t more (tok kind.Open s e ∷ ts) rest → ⊥
no_open_list (list_ends en) = elim en [ ]
no_open_list (list_break b l) = elim b [ ]
no_open_list (list_more st l) = no_state kind.Open refl st

pub no_equals_list : {ending : Ending} {t : grammar.Turn} {more : List PlainStatement} {s e : ℕ} {ts rest : List Token} → Lists ending t more (tok kind.Equals s e ∷ ts) rest → ⊥
no_equals_list (list_ends en) = elim en [ ]
no_equals_list (list_break b l) = elim b [ ]
no_equals_list (list_more st l) = no_state kind.Equals refl st

module _ (ending : Ending) (ss : List Statement) (qs : List PlainStatement) (rest : List Token) (goal : Option (List ℕ)) where
  -- what stands behind the expression of a statement in the list `qs`, behind the statements `ss`
  abbrev pub After : Turn → PlainExpression → List Token → Type 0
  After t x ts = (more : List PlainStatement) × (qs ≡ plain_statements ss ++ plain_of goal x ∷ more) × (statement_height (plain_of goal x) ≤ limit) × AreLow more × Lists ending (turn_of t) more ts rest

low_expression : (goal : Option (List ℕ)) (x : PlainExpression) → statement_height (plain_of goal x) ≤ limit → height x ≤ limit
low_expression None x low = low
low_expression (Some n) x low = omega arith

newline_list : {ending : Ending} (t : Turn) {more : List PlainStatement} {s e : ℕ} {ts rest : List Token} → Lists ending free more ts rest → Lists ending (turn_of t) more (tok kind.Newline s e ∷ ts) rest
newline_list turn.Free l = list_break break_newline l
newline_list turn.Taken l = list_break break_newline l

pub after_surrounds : (ending : Ending) (ss : List Statement) (qs : List PlainStatement) (rest : List Token) (goal : Option (List ℕ)) → Surrounds (After ending ss qs rest goal)
after_surrounds ending ss qs rest goal = record {
  low = λ t x ts g. low_expression goal x g.2;
  to_line = λ t x s e ts g. (g.0, g.1, g.2, g.3, lists_line g.4);
  from_line = λ t x s e ts g. (g.0, g.1, g.2, g.3, newline_list t g.4);
  no_dot = λ t x s e ts g. no_dot_list g.4;
  no_leading_dot = λ t x s e ts g. no_leading_list g.4;
  no_note = λ t x s e ts g. no_note_list g.4;
  no_open = λ t x s e ts g. no_open_list g.4;
}

statement_low : (goal : Option (List ℕ)) (x : Expression) → statement_height (plain_of goal (plain_expression x)) ≤ limit → is_low (statement_of goal x) ≡ true
statement_low None x low = le-leb (statement_height (plain_statement (statement_of None x))) limit low
statement_low (Some n) x low = le-leb (statement_height (plain_statement (statement_of (Some n) x))) limit low

low_statement_height : (goal : Option (List ℕ)) (x : Expression) → is_low (statement_of goal x) ≡ true → statement_height (plain_of goal (plain_expression x)) ≤ limit
low_statement_height None x is = leb-true (statement_height (plain_statement (statement_of None x))) limit is
low_statement_height (Some n) x is = leb-true (statement_height (plain_statement (statement_of (Some n) x))) limit is

-- a low statement is added
pub with_low_statement : (ss : List Statement) (goal : Option (List ℕ)) (x : Expression) → statement_height (plain_of goal (plain_expression x)) ≤ limit → with_statement ss goal x ≡ Some (ss ++ statement_of goal x ∷ [])
with_low_statement ss goal x low = ap (λ b. with_low ss (if b then Some (statement_of goal x) else None)) (statement_low goal x low)

-- a statement that is added is low
pub with_statement_in : (F : Option (List Statement) → Type 0) (ss : List Statement) (goal : Option (List ℕ)) (x : Expression) (C : Type 0) → (F None → C)
    → (statement_height (plain_of goal (plain_expression x)) ≤ limit → F (Some (ss ++ statement_of goal x ∷ [])) → C) → F (with_statement ss goal x) → C
with_statement_in F ss goal x C none some g = by_low (is_low (statement_of goal x)) refl g
  where
    by_low : (b : Bool) → is_low (statement_of goal x) ≡ b → F (with_low ss (if b then Some (statement_of goal x) else None)) → C
    by_low true is g = some (low_statement_height goal x is) g
    by_low false is g = none g
