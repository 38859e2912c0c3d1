-- The words of Ruby text.
use Rattle.std.specs.Prelude.{ℕ, if◌then◌else◌, List, [], ◌∷◌, codes}
use Rattle.names.specs.Places.{same_name, is_among}
use Rattle.profile_words.specs.Words.{begins_upper, is_interface_name}
use Rattle.ruby_tokens.specs.declared.token.Kind.{Kind}
use Rattle.ruby_tokens.specs.declared.token.Kind.TheVariants as kind

-- the words that are no name, beside the four that begin a construct
abbrev pub keywords : List (List ℕ)
keywords = codes "module" ∷ codes "alias" ∷ codes "if" ∷ codes "unless" ∷ codes "elsif" ∷ codes "else" ∷ codes "then" ∷ codes "while" ∷ codes "do"
    ∷ codes "return" ∷ codes "break" ∷ codes "next" ∷ codes "yield" ∷ codes "super" ∷ codes "self" ∷ codes "true" ∷ codes "false" ∷ codes "private"
    ∷ codes "public" ∷ codes "include" ∷ codes "extend" ∷ codes "prepend" ∷ codes "attr_reader" ∷ codes "attr_writer" ∷ codes "attr_accessor"
    ∷ codes "case" ∷ codes "for" ∷ codes "until" ∷ codes "begin" ∷ codes "rescue" ∷ codes "ensure" ∷ codes "retry" ∷ codes "redo" ∷ codes "undef"
    ∷ codes "and" ∷ codes "or" ∷ codes "not" ∷ codes "BEGIN" ∷ codes "END" ∷ codes "__FILE__" ∷ codes "__LINE__" ∷ codes "__method__" ∷ codes "__END__" ∷ []

-- what a word is, by its letters: the name of an interface is no name here
abbrev pub word_kind : List ℕ → Kind
word_kind w =
    if same_name w (codes "class") then kind.Class
    else if same_name w (codes "def") then kind.Def
    else if same_name w (codes "end") then kind.End
    else if same_name w (codes "nil") then kind.Nil
    else if is_among w keywords then kind.Other
    else if is_interface_name w then kind.Other
    else if begins_upper w then kind.Upper w
    else kind.Name w
