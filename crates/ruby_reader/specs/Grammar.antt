-- The grammar of Ruby text, over tokens.
--
--     file      = { class } { statement }
--     class     = "class" Upper { def } "end"
--     def       = "def" name ["(" [name { "," name }] ")"] { statement } "end"
--     statement  = name "=" expression | expression
--     expression = operand { "." called [arguments] }
--     operand    = literal | name | Upper "." "new" [arguments]
--     arguments  = "(" [expression { "," expression }] ")"
--
-- A newline or a `;` ends a class, a method, a statement, the head of a class, and the head of a method without parentheses.
-- It may be missing before the `end` that closes the list and at the end of the text. Further ones may stand where one may, and where a list begins.
-- Newlines, and lines that hold a comment, may stand behind `(`, `,`, `=` and `.`, and before `)`. A `.` may begin the next line, where each line between holds a comment. The `(` of arguments stands directly behind the name.
use Rattle.std.specs.Prelude.{ℕ, List, [], ◌∷◌}
use Rattle.ruby_tokens.specs.declared.token.Token.{Token}
use Rattle.ruby_tokens.specs.declared.token.Kind.{Kind}
use Rattle.ruby_tokens.specs.declared.token.Kind.TheVariants as kind
use Rattle.ruby_tokens.specs.Tokens.{IsDivided}
use Rattle.ruby_reader.specs.declared.tree.Literal.{Literal}
use Rattle.ruby_reader.specs.declared.tree.Literal.TheVariants as literal
use Rattle.ruby_reader.specs.PlainTree as plain
use Rattle.ruby_reader.specs.PlainTree.{PlainExpression, PlainExpressions, no_expressions, more_expressions, PlainStatement, PlainDefinition, PlainOpening, PlainProgram}
use Rattle.ruby_reader.specs.Called.{IsCalled, new_word}
use Rattle.ruby_reader.specs.Heights.{IsLow}
use Rattle.ruby_reader.specs.Open.{KeepsOpen}
use Rattle.ruby_reader.specs.Scopes.{HasScopes}

abbrev pub tok : Kind → ℕ → ℕ → Token
tok k start end = record { kind = k; start = start; end = end }

-- whether an item of a list may begin here, or only behind a newline or a `;`
pub data Turn : Type 0 where
  free : Turn
  taken : Turn

-- ends an item
pub data IsBreak : Kind → Type 0 where
  break_newline : IsBreak kind.Newline
  break_semicolon : IsBreak kind.Semicolon

-- stands for nothing where a newline is skipped: a newline, or a comment that elsewhere would give a local its type
pub data IsSkipped : Kind → Type 0 where
  skipped_newline : IsSkipped kind.Newline
  skipped_note : IsSkipped kind.TypeNote

-- a token is a literal
pub data IsLiteral : Literal → Kind → Type 0 where
  literal_int : {z : _} → IsLiteral (literal.Int z) (kind.Integer z)
  literal_str : {w : List ℕ} → IsLiteral (literal.Str w) (kind.Text w)
  literal_sym : {w : List ℕ} → IsLiteral (literal.Sym w) (kind.Symbol w)
  literal_nil : IsLiteral literal.Nil kind.Nil

-- `Skips ts rest`: newlines, and lines that hold a comment.
pub data Skips : List Token → List Token → Type 0 where
  skips_none : {rest : List Token} → Skips rest rest
  skips_more : {k : Kind} {s e : ℕ} {ts rest : List Token} → IsSkipped k → Skips ts rest → Skips (tok k s e ∷ ts) rest

-- `Dots ts rest`: a dot on its line, or at the beginning of a line that goes on with the one before.
pub data Dots : List Token → List Token → Type 0 where
  dot_here : {s e : ℕ} {ts rest : List Token} → Skips ts rest → Dots (tok kind.Dot s e ∷ ts) rest
  dot_leads : {s e : ℕ} {ts mid rest : List Token} → Skips ts (tok kind.LeadingDot s e ∷ mid) → Skips mid rest → Dots ts rest

-- `Closes ts rest`: what may stand before a parenthesis that closes, and that parenthesis.
pub data Closes : List Token → List Token → Type 0 where
  close_skip : {k : Kind} {s e : ℕ} {ts rest : List Token} → IsSkipped k → Closes ts rest → Closes (tok k s e ∷ ts) rest
  close_here : {s e : ℕ} {rest : List Token} → Closes (tok kind.Close s e ∷ rest) rest

mutual
  -- `Expressions x ts rest`: an expression.
  pub data Expressions : PlainExpression → List Token → List Token → Type 0 where
    expression_calls : {x y : PlainExpression} {ts mid rest : List Token} → Operands x ts mid → Calls x y mid rest → Expressions y ts rest

  -- `Operands x ts rest`: an expression in front of its first call.
  pub data Operands : PlainExpression → List Token → List Token → Type 0 where
    operand_literal : {l : Literal} {k : Kind} {s e : ℕ} {rest : List Token} → IsLiteral l k → Operands (plain.literal l) (tok k s e ∷ rest) rest
    operand_local : {n : List ℕ} {s e : ℕ} {rest : List Token} → Operands (plain.local n) (tok (kind.Name n) s e ∷ rest) rest
    operand_new : {c : List ℕ} {xs : PlainExpressions} {s1 e1 s2 e2 : ℕ} {ts mid rest : List Token} → Dots ts (tok (kind.Name new_word) s2 e2 ∷ mid) → Arguments e2 xs mid rest
        → Operands (plain.new c s2 e2 xs) (tok (kind.Upper c) s1 e1 ∷ ts) rest

  -- `Calls x y ts rest`: calls, the first of them on `x`, that make `y`.
  pub data Calls : PlainExpression → PlainExpression → List Token → List Token → Type 0 where
    calls_none : {x : PlainExpression} {rest : List Token} → Calls x x rest rest
    calls_more : {n : List ℕ} {x y : PlainExpression} {xs : PlainExpressions} {s e : ℕ} {ts mid on rest : List Token} → IsCalled n → Dots ts (tok (kind.Name n) s e ∷ mid) → Arguments e xs mid on
        → Calls (plain.call x n s e xs) y on rest → Calls x y ts rest

  -- `Arguments at xs ts rest`: the arguments behind a name that ends in front of the byte `at`: none, or those in parentheses directly behind it.
  pub data Arguments : ℕ → PlainExpressions → List Token → List Token → Type 0 where
    arguments_none : {at : ℕ} {rest : List Token} → Arguments at no_expressions rest rest
    arguments_empty : {at e : ℕ} {ts rest : List Token} → Closes ts rest → Arguments at no_expressions (tok kind.Open at e ∷ ts) rest
    arguments_some : {at e : ℕ} {xs : PlainExpressions} {ts rest : List Token} → ArgumentList xs ts rest → Arguments at xs (tok kind.Open at e ∷ ts) rest

  -- `ArgumentList xs ts rest`: one argument or more, and the parenthesis that closes them.
  pub data ArgumentList : PlainExpressions → List Token → List Token → Type 0 where
    argument_last : {x : PlainExpression} {ts mid on rest : List Token} → Skips ts mid → Expressions x mid on → Closes on rest → ArgumentList (more_expressions x no_expressions) ts rest
    argument_more : {x : PlainExpression} {xs : PlainExpressions} {s e : ℕ} {ts mid on rest : List Token} → Skips ts mid → Expressions x mid (tok kind.Comma s e ∷ on) → ArgumentList xs on rest
        → ArgumentList (more_expressions x xs) ts rest

-- `States s ts rest`: a statement.
pub data States : PlainStatement → List Token → List Token → Type 0 where
  state_expression : {x : PlainExpression} {ts rest : List Token} → Expressions x ts rest → States (plain.expression x) ts rest
  state_assignment : {n : List ℕ} {x : PlainExpression} {s1 e1 s2 e2 : ℕ} {ts mid rest : List Token} → Skips ts mid → Expressions x mid rest
      → States (plain.assignment n x) (tok (kind.Name n) s1 e1 ∷ tok kind.Equals s2 e2 ∷ ts) rest

-- how a list of statements ends: a body with its `end`, the main part with its text
pub data Ending : Type 0 where
  body : Ending
  main : Ending

-- `Ends ending ts rest`: the list ends in front of `ts`, and what stands behind it is `rest`.
pub data Ends : Ending → List Token → List Token → Type 0 where
  ends_body : {s e : ℕ} {rest : List Token} → Ends body (tok kind.End s e ∷ rest) rest
  ends_main : Ends main [] []

-- `Lists ending turn ss ts rest`: the statements of a list, and its end.
pub data Lists (ending : Ending) : Turn → List PlainStatement → List Token → List Token → Type 0 where
  list_ends : {turn : Turn} {ts rest : List Token} → Ends ending ts rest → Lists ending turn [] ts rest
  list_break : {turn : Turn} {ss : List PlainStatement} {k : Kind} {s e : ℕ} {ts rest : List Token} → IsBreak k → Lists ending free ss ts rest → Lists ending turn ss (tok k s e ∷ ts) rest
  list_more : {s : PlainStatement} {ss : List PlainStatement} {ts mid rest : List Token} → States s ts mid → Lists ending taken ss mid rest → Lists ending free (s ∷ ss) ts rest

-- `Parameters ps ts rest`: one parameter or more, and the parenthesis that closes them.
pub data Parameters : List (List ℕ) → List Token → List Token → Type 0 where
  parameter_skip : {ps : List (List ℕ)} {k : Kind} {s e : ℕ} {ts rest : List Token} → IsSkipped k → Parameters ps ts rest → Parameters ps (tok k s e ∷ ts) rest
  parameter_last : {n : List ℕ} {s e : ℕ} {ts rest : List Token} → Closes ts rest → Parameters (n ∷ []) (tok (kind.Name n) s e ∷ ts) rest
  parameter_more : {n : List ℕ} {ps : List (List ℕ)} {s1 e1 s2 e2 : ℕ} {ts rest : List Token} → Parameters ps ts rest
      → Parameters (n ∷ ps) (tok (kind.Name n) s1 e1 ∷ tok kind.Comma s2 e2 ∷ ts) rest

-- `Parens ps ts rest`: the parameters behind a parenthesis that opens them, if there are any, and the one that closes them.
pub data Parens : List (List ℕ) → List Token → List Token → Type 0 where
  parens_none : {ts rest : List Token} → Closes ts rest → Parens [] ts rest
  parens_some : {ps : List (List ℕ)} {ts rest : List Token} → Parameters ps ts rest → Parens ps ts rest

-- `Defines d ts rest`: a method, from its `def` to its `end`.
pub data Defines : PlainDefinition → List Token → List Token → Type 0 where
  define_bare : {ss : List PlainStatement} {m : List ℕ} {s1 e1 s2 e2 : ℕ} {ts rest : List Token} → Lists body taken ss ts rest
      → Defines (record { name = m; start = s1; parameters = []; body = ss }) (tok kind.Def s1 e1 ∷ tok (kind.Name m) s2 e2 ∷ ts) rest
  define_parens : {ps : List (List ℕ)} {ss : List PlainStatement} {m : List ℕ} {s1 e1 s2 e2 s3 e3 : ℕ} {ts mid rest : List Token} → Parens ps ts mid → Lists body free ss mid rest
      → Defines (record { name = m; start = s1; parameters = ps; body = ss }) (tok kind.Def s1 e1 ∷ tok (kind.Name m) s2 e2 ∷ tok kind.Open s3 e3 ∷ ts) rest

-- `Methods turn ds ts rest`: the methods of a class, and the `end` behind them. A comment that would give a local its type stands in no list of statements here, and means nothing.
pub data Methods : Turn → List PlainDefinition → List Token → List Token → Type 0 where
  methods_end : {turn : Turn} {s e : ℕ} {rest : List Token} → Methods turn [] (tok kind.End s e ∷ rest) rest
  methods_break : {turn : Turn} {ds : List PlainDefinition} {k : Kind} {s e : ℕ} {ts rest : List Token} → IsBreak k → Methods free ds ts rest → Methods turn ds (tok k s e ∷ ts) rest
  methods_note : {turn : Turn} {ds : List PlainDefinition} {s e : ℕ} {ts rest : List Token} → Methods turn ds ts rest → Methods turn ds (tok kind.TypeNote s e ∷ ts) rest
  methods_more : {d : PlainDefinition} {ds : List PlainDefinition} {ts mid rest : List Token} → Defines d ts mid → Methods taken ds mid rest → Methods free (d ∷ ds) ts rest

-- `Opens o ts rest`: a class, from its `class` to its `end`.
pub data Opens : PlainOpening → List Token → List Token → Type 0 where
  opens : {n : List ℕ} {ds : List PlainDefinition} {s1 e1 s2 e2 : ℕ} {ts rest : List Token} → Methods taken ds ts rest
      → Opens (record { name = n; start = s1; definitions = ds }) (tok kind.Class s1 e1 ∷ tok (kind.Upper n) s2 e2 ∷ ts) rest

-- `Files turn os ss ts`: the classes of a text, and the statements behind them.
pub data Files : Turn → List PlainOpening → List PlainStatement → List Token → Type 0 where
  files_main : {turn : Turn} {ss : List PlainStatement} {ts : List Token} → Lists main turn ss ts [] → Files turn [] ss ts
  files_break : {turn : Turn} {os : List PlainOpening} {ss : List PlainStatement} {k : Kind} {s e : ℕ} {ts : List Token} → IsBreak k → Files free os ss ts → Files turn os ss (tok k s e ∷ ts)
  files_more : {o : PlainOpening} {os : List PlainOpening} {ss : List PlainStatement} {ts mid : List Token} → Opens o ts mid → Files taken os ss mid → Files free (o ∷ os) ss ts

-- the tokens are the text of a program
abbrev pub IsWritten : PlainProgram → List Token → Type 0
IsWritten p ts = Files free p.openings p.statements ts

-- the bytes are the text of a program that keeps the limits, and whose locals and classes are in scope
pub record IsRuby (p : PlainProgram) (bytes : List ℕ) : Type 0 where
  pub tokens : List Token
  pub divided : IsDivided tokens bytes
  pub keeps : KeepsOpen tokens
  pub written : IsWritten p tokens
  pub low : IsLow p
  pub scoped : HasScopes p
