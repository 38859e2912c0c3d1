-- What stands in a list of types, in the code and in the grammar, and the types of one terminal.
use Rattle.std.specs.Prelude.{Option, Some, None}
use Rattle.rbs_terminals.specs.declared.token.Kind.{Kind}
use Rattle.rbs_terminals.specs.declared.token.Kind.TheVariants as kind
use Rattle.sig_model.specs.PlainTy as plain
use Rattle.sig_model.specs.PlainTy.{PlainTy, PlainRest}
use Rattle.rbs_types.specs.declared.state.Parameters.{Parameters}
use Rattle.rbs_types.specs.declared.state.Listed.{Listed}
use Rattle.rbs_types.specs.Grammar.{Sort, type, inter, opt}
use Rattle.rbs_phrases.specs.declared.types.Item.{Item}
use Rattle.rbs_phrases.specs.declared.types.Item.TheVariants as item

abbrev pub sort_of : Item → Sort
sort_of item.Type = type
sort_of item.Inter = inter
sort_of item.Opt = opt

-- the type that the terminal is by itself, words aside
abbrev pub literal_of : Kind → Option PlainTy
literal_of (kind.Integer n) = Some (plain.int n)
literal_of (kind.Text w) = Some (plain.str w)
literal_of (kind.Symbol w) = Some (plain.sym w)
literal_of _ = None

-- all parameters, from those without the rest of the keywords and that
abbrev pub listed : Parameters → PlainRest → Listed
listed p r = record { parameters = p; key_rest = r }
