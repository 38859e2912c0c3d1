-- Where parentheses stand in the profile.
use Rattle.std.specs.Prelude.{◌≡◌, ℕ, Bool, true, false, not, ◌&&◌, if◌then◌else◌, List, [], ◌∷◌}
use Rattle.rbs_lexer.specs.declared.token.SigToken.{SigToken}
use Rattle.rbs_lexer.specs.Division.{whole, Divides}
use Rattle.rbs_terminals.specs.declared.token.Token.{Token}
use Rattle.rbs_terminals.specs.declared.token.Mark.TheVariants as mark
use Rattle.rbs_terminals.specs.declared.token.Kind.{Kind}
use Rattle.rbs_terminals.specs.declared.token.Kind.TheVariants as kind
use Rattle.rbs_terminals.specs.Terminals.{terminals}

abbrev pub is_open : Kind → Bool
is_open (kind.Mark mark.Open) = true
is_open _ = false

abbrev pub is_colon : Kind → Bool
is_colon (kind.Mark mark.Colon) = true
is_colon _ = false

-- An opening parenthesis stands directly behind each colon, and nowhere else; `behind` says that a colon stands before these tokens.
abbrev pub opens_behind_colons : (behind : Bool) → List Token → Bool
opens_behind_colons behind [] = not behind
opens_behind_colons behind (c ∷ ts) = (if behind then is_open c.kind else not (is_open c.kind)) && opens_behind_colons (is_colon c.kind) ts

-- So it is in the text of this file. A method's parameters always stand in parentheses, and a type never does.
abbrev pub IsParenthesized : ℕ → List ℕ → Type 0
IsParenthesized file bytes = (ts : List SigToken) × Divides file 0 ts whole bytes × (opens_behind_colons false (terminals bytes ts) ≡ true)
