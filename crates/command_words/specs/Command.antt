-- The command that `clap` parses, and what its grammar takes beyond ours.
use Rattle.std.specs.Prelude.{ℕ, Bool, ◌&&◌, ◌||◌, not, true, false, List, [], ◌∷◌, Some, codes}
use Rattle.names.specs.Places.{same_name}
use Rattle.clap.specs.Words.{App, Rule, new_app, new_rule, with_rule}
use Rattle.clap.specs.declared.builder.action.ArgAction.TheVariants.{Append}

-- one positional argument, whose uses each add a value
abbrev pub file_rule : Rule
file_rule = record (new_rule (codes "file")) { required = true; action = Some Append }

-- no program's name before the words, and no flag for help
abbrev pub bare_app : App
bare_app = record {
  top = record (new_app (codes "files")).top { no_binary_name = true; disable_help_flag = true };
  subs = [];
}

abbrev pub files_app : App
files_app = with_rule bare_app file_rule

-- a word `-` stands before the first word `--`
abbrev pub has_lone_hyphen : List (List ℕ) → Bool
has_lone_hyphen [] = false
has_lone_hyphen (word ∷ rest) =
    not (same_name word (codes "--")) && (same_name word (codes "-") || has_lone_hyphen rest)
