-- What a step of the code does, against the machine.
use Rattle.std.specs.Prelude.{◌≡◌, Option, Some, None, Result, Ok, Err}
use Rattle.rbs_terminals.specs.declared.token.Kind.{Kind}
use Rattle.rbs_types.specs.Grammar.{Use, of_class, of_interface, of_alias, of_class_or_interface}
use Rattle.rbs_declarations.specs.declared.refused.Stuck.{Stuck}
use Rattle.rbs_declarations.specs.declared.refused.Stuck.TheVariants as stuck
use Rattle.rbs_declarations.specs.declared.state.State.{State}
use Rattle.rbs_declarations.specs.declared.type_names.NameUse.{NameUse}
use Rattle.rbs_declarations.specs.declared.type_names.NameUse.TheVariants as name_use
use Rattle.rbs_declarations.specs.declared.type_names.Progress as code
use Rattle.rbs_declarations.specs.declared.type_names.Progress.TheVariants as progress
use Rattle.rbs_declarations.specs.Machine as machine

-- the state that the machine comes to, or `Syntax` where it comes to none; there may be no memory for it
abbrev pub Does : Option State → Result State Stuck → Type 0
Does o (Ok s) = o ≡ Some s
Does o (Err stuck.Syntax) = o ≡ None
Does o (Err stuck.NoMemory) = Unit {0}

abbrev pub use_for : NameUse → Use
use_for name_use.Class = of_class
use_for name_use.Interface = of_interface
use_for name_use.Alias = of_alias
use_for name_use.ClassOrInterface = of_class_or_interface

-- a token of this kind makes this progress in a name; it is given back where the name was whole before it
abbrev pub Goes : machine.Progress → Kind → code.Progress → Type 0
Goes p k (progress.Further n) = p ≡ machine.further n
Goes p k (progress.Whole n) = p ≡ machine.whole n
Goes p k (progress.Before n k') = (p ≡ machine.before n) × (k' ≡ k)
Goes p k progress.Stuck = p ≡ machine.stuck
