-- What a name may name and how a list is written, in the code and in the grammar, and the last word of a name.
use Rattle.std.specs.Prelude.{◌≡◌, Bool, true, false}
use Rattle.rbs_terminals.specs.declared.token.Kind.{Kind}
use Rattle.rbs_terminals.specs.declared.token.Kind.TheVariants as kind
use Rattle.sig_model.specs.declared.ty.TypeName.{TypeName}
use Rattle.rbs_types.specs.Parts.{grown}
use Rattle.rbs_types.specs.Grammar as grammar
use Rattle.rbs_types.specs.Grammar.{ends_capital, ends_interface, ends_small}
use Rattle.rbs_phrases.specs.declared.type_names.Use.{Use}
use Rattle.rbs_phrases.specs.declared.type_names.Use.TheVariants as usage

abbrev pub use_of : Use → grammar.Use
use_of usage.Type = grammar.of_type
use_of usage.Class = grammar.of_class
use_of usage.Interface = grammar.of_interface
use_of usage.Alias = grammar.of_alias
use_of usage.ClassOrInterface = grammar.of_class_or_interface

abbrev pub is_upper : Kind → Bool
is_upper (kind.Upper w) = true
is_upper _ = false

-- with this terminal as its last word the name is `m`
abbrev pub Ends : grammar.Use → TypeName → Kind → TypeName → Type 0
Ends u n (kind.Upper w) m = (ends_capital u ≡ true) × (m ≡ grown n w)
Ends u n (kind.Interface w) m = (ends_interface u ≡ true) × (m ≡ grown n w)
Ends u n (kind.Lower w) m = (ends_small u ≡ true) × (m ≡ grown n w)
Ends u n _ m = ⊥
