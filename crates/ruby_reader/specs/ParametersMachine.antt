-- A reader of a method's parameters, which takes one token at a time.
use Rattle.std.specs.Prelude.{ℕ, List, [], ◌∷◌, ◌++◌, Option, Some, None}
use Rattle.ruby_tokens.specs.declared.token.Token.{Token}
use Rattle.ruby_tokens.specs.declared.token.Kind.{Kind}
use Rattle.ruby_tokens.specs.declared.token.Kind.TheVariants as kind
use Rattle.ruby_reader.specs.declared.progress.Progress.{Progress}
use Rattle.ruby_reader.specs.declared.progress.Progress.TheVariants.{Reading, Read}
use Rattle.ruby_reader.specs.declared.parameters.ParameterPlace.{ParameterPlace}
use Rattle.ruby_reader.specs.declared.parameters.ParameterPlace.TheVariants as place
use Rattle.ruby_reader.specs.declared.parameters.ParametersReader.{ParametersReader}

abbrev pub at : List (List ℕ) → ParameterPlace → ParametersReader
at ps p = record { names = ps; place = p }

abbrev pub start : ParametersReader
start = at [] place.Opened

-- in front of a parameter, at a place where newlines are skipped
abbrev pub before_parameter : List (List ℕ) → ParameterPlace → Kind → Option (Progress ParametersReader (List (List ℕ)))
before_parameter ps p (kind.Name n) = Some (Reading (at (ps ++ n ∷ []) place.Named))
before_parameter ps p kind.Newline = Some (Reading (at ps p))
before_parameter ps p kind.TypeNote = Some (Reading (at ps p))
before_parameter ps p _ = None

-- behind the parenthesis that opens the parameters
abbrev pub after_open : List (List ℕ) → Kind → Option (Progress ParametersReader (List (List ℕ)))
after_open ps kind.Close = Some (Read ps)
after_open ps k = before_parameter ps place.Opened k

-- in front of the parenthesis that closes the parameters
abbrev pub before_close : List (List ℕ) → Kind → Option (Progress ParametersReader (List (List ℕ)))
before_close ps kind.Close = Some (Read ps)
before_close ps kind.Newline = Some (Reading (at ps place.Closing))
before_close ps kind.TypeNote = Some (Reading (at ps place.Closing))
before_close ps _ = None

-- directly behind a parameter
abbrev pub after_parameter : List (List ℕ) → Kind → Option (Progress ParametersReader (List (List ℕ)))
after_parameter ps kind.Comma = Some (Reading (at ps place.Comma))
after_parameter ps k = before_close ps k

abbrev pub step : List (List ℕ) → ParameterPlace → Kind → Option (Progress ParametersReader (List (List ℕ)))
step ps place.Opened k = after_open ps k
step ps place.Named k = after_parameter ps k
step ps place.Closing k = before_close ps k
step ps place.Comma k = before_parameter ps place.Comma k

-- what a token makes of parameters
abbrev pub parameters_next : ParametersReader → Token → Option (Progress ParametersReader (List (List ℕ)))
parameters_next r token = step r.names r.place token.kind
