-- A reader of a method, which takes one token at a time.
use Rattle.std.specs.Prelude.{ℕ, List, [], Option, Some, None}
use Rattle.ruby_tokens.specs.declared.token.Token.{Token}
use Rattle.ruby_tokens.specs.declared.token.Kind.{Kind}
use Rattle.ruby_tokens.specs.declared.token.Kind.TheVariants as kind
use Rattle.ruby_reader.specs.declared.tree.Statement.{Statement}
use Rattle.ruby_reader.specs.declared.tree.Definition.{Definition}
use Rattle.ruby_reader.specs.declared.progress.Turn.TheVariants as turn
use Rattle.ruby_reader.specs.declared.progress.Progress.{Progress}
use Rattle.ruby_reader.specs.declared.progress.Progress.TheVariants.{Reading, Read}
use Rattle.ruby_reader.specs.declared.list.ListReader.{ListReader}
use Rattle.ruby_reader.specs.declared.parameters.ParametersReader.{ParametersReader}
use Rattle.ruby_reader.specs.declared.method.Head.{Head}
use Rattle.ruby_reader.specs.declared.method.MethodReader.{MethodReader}
use Rattle.ruby_reader.specs.declared.method.MethodReader.TheVariants as method
use Rattle.ruby_reader.specs.ListMachine as list
use Rattle.ruby_reader.specs.ParametersMachine as parameters

-- behind the `def`
abbrev pub after_def : ℕ → Kind → Option (Progress MethodReader Definition)
after_def start (kind.Name m) = Some (Reading (method.Named (record { name = m; start = start })))
after_def start _ = None

abbrev pub defined : Head → List (List ℕ) → List Statement → Definition
defined h ps ss = record { name = h.name; start = h.start; parameters = ps; body = ss }

-- a method by what a token made of its parameters
abbrev pub with_parameters : Head → Option (Progress ParametersReader (List (List ℕ))) → Option (Progress MethodReader Definition)
with_parameters h None = None
with_parameters h (Some (Reading r)) = Some (Reading (method.Parameters h r))
with_parameters h (Some (Read ps)) = Some (Reading (method.Body h ps (list.start turn.Free)))

abbrev pub in_parameters : Head → ParametersReader → Token → Option (Progress MethodReader Definition)
in_parameters h r token = with_parameters h (parameters.parameters_next r token)

-- a method by what a token made of its body
abbrev pub with_body : Head → List (List ℕ) → Option ListReader → Option (Progress MethodReader Definition)
with_body h ps None = None
with_body h ps (Some r) = Some (Reading (method.Body h ps r))

-- a method whose body ends, by the statements of it
abbrev pub with_statements : Head → List (List ℕ) → Option (List Statement) → Option (Progress MethodReader Definition)
with_statements h ps None = None
with_statements h ps (Some ss) = Some (Read (defined h ps ss))

abbrev pub end_body : Head → List (List ℕ) → ListReader → Option (Progress MethodReader Definition)
end_body h ps r = with_statements h ps (list.list_final r)

abbrev pub end_or_body : Kind → Option (Progress MethodReader Definition) → Option (Progress MethodReader Definition) → Option (Progress MethodReader Definition)
end_or_body kind.End ended o = ended
end_or_body _ ended o = o

abbrev pub in_body : Head → List (List ℕ) → ListReader → Token → Option (Progress MethodReader Definition)
in_body h ps r token = end_or_body token.kind (end_body h ps r) (with_body h ps (list.list_next r token))

abbrev pub open_or_body : Head → Kind → Option (Progress MethodReader Definition) → Option (Progress MethodReader Definition)
open_or_body h kind.Open o = Some (Reading (method.Parameters h parameters.start))
open_or_body h _ o = o

-- behind the name
abbrev pub after_name : Head → Token → Option (Progress MethodReader Definition)
after_name h token = open_or_body h token.kind (in_body h [] (list.start turn.Taken) token)

-- what a token makes of a method
abbrev pub method_next : MethodReader → Token → Option (Progress MethodReader Definition)
method_next (method.Def start) token = after_def start token.kind
method_next (method.Named h) token = after_name h token
method_next (method.Parameters h r) token = in_parameters h r token
method_next (method.Body h ps r) token = in_body h ps r token
