-- Where a place between tokens stands in its line, and whether its line goes on with an earlier one.
use Rattle.std.specs.Prelude.{Bool, true, false, not, ◌&&◌, if◌then◌else◌}
use Rattle.ruby_tokens.specs.declared.before.Before.{Before}
use Rattle.ruby_tokens.specs.declared.token.Kind.{Kind}
use Rattle.ruby_tokens.specs.declared.token.Kind.TheVariants as kind

-- before the first character: no token stands before it
abbrev pub at_start : Before
at_start = record { blank = true; joined = false }

-- behind a token: it stands on the same line
abbrev pub in_line : Before
in_line = record { blank = false; joined = true }

-- behind a comment: as the comment stands, and something stands before on the line
abbrev pub behind_comment : Bool → Before
behind_comment joined = record { blank = false; joined = joined }

-- behind a newline: the line that it ends joins those around it unless nothing but blanks stands there
abbrev pub next_line : Before → Before
next_line b = record { blank = true; joined = b.joined && not b.blank }

-- a dot that begins a line which is joined to the token before it goes on with that token's statement
abbrev pub dot_kind : Before → Kind
dot_kind b = if b.blank && b.joined then kind.LeadingDot else kind.Dot
