-- What the short forms of types and overloads stand for, by which the code writes the core signature.
use Rattle.std.specs.Prelude.{true, List, Option, None, Some}
use Rattle.sig_model.specs.PlainTy as plain
use Rattle.sig_model.specs.PlainTy.{PlainTy, PlainArgs, PlainBlock, no_args, no_block}
use Rattle.sig_model.specs.PlainMember.{PlainParam, PlainMethod}
use Rattle.core_texts.specs.declared.types.CoreTy.{CoreTy}
use Rattle.core_texts.specs.declared.types.CoreTy.TheVariants as type
use Rattle.core_texts.specs.declared.overloads.Takes.{Takes}
use Rattle.core_texts.specs.declared.overloads.Takes.TheVariants as takes
use Rattle.core_texts.specs.declared.overloads.Given.{Given}
use Rattle.core_texts.specs.declared.overloads.Overload.{Overload}
use Rattle.sig_model.specs.Built.{unnamed}
use Rattle.core_texts.specs.Types.{one, two, called, optional, array_of, pair_of, void, top, bool, nil, self_type, a, e, k, u, v, integer, string, symbol, boolish, printable}
use Rattle.core_texts.specs.Shapes.{function_of}

abbrev pub written : CoreTy → PlainTy
written type.Boolish = boolish
written type.Integer = integer
written type.Module = called "Module"
written type.String = string
written type.Symbol = symbol
written type.A = a
written type.E = e
written type.K = k
written type.U = u
written type.V = v
written type.Bool = bool
written type.Nil = nil
written type.SelfTy = self_type
written type.Top = top
written type.Void = void
written type.OptionalE = optional e
written type.OptionalV = optional v
written type.OptionalTops = optional (array_of top)
written type.ArrayOfE = array_of e
written type.ArrayOfK = array_of k
written type.ArrayOfU = array_of u
written type.ArrayOfV = array_of v
written type.ArrayOfPairs = array_of (pair_of k v)
written type.Pair = pair_of k v
written type.Printable = printable

abbrev pub required_of : Takes → PlainArgs
required_of takes.Nothing = no_args
required_of (takes.One t) = unnamed (one (written t))
required_of (takes.Two t u) = unnamed (two (written t) (written u))
required_of (takes.Optional t) = no_args

abbrev pub optional_of : Takes → PlainArgs
optional_of takes.Nothing = no_args
optional_of (takes.One t) = no_args
optional_of (takes.Two t u) = no_args
optional_of (takes.Optional t) = unnamed (one (written t))

abbrev pub block_of : Option Given → PlainBlock
block_of None = no_block
block_of (Some b) = plain.block true (function_of (required_of b.takes) (optional_of b.takes) no_block (written b.gives))

abbrev pub method_of : List PlainParam → Overload → PlainMethod
method_of params o = record { params = params; fun = function_of (required_of o.takes) (optional_of o.takes) (block_of o.block) (written o.gives) }
