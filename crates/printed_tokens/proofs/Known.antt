-- Each terminal of lines whose pieces are told apart is of a token.
use Rattle.std.proofs.Common.{ℕ, List}
use Rattle.std.specs.List.{AllByRecursion}
use Rattle.rbs_lexer.specs.Division.{whole}
use Rattle.rbs_terminals.specs.declared.token.Token.{Token}
use Rattle.rbs_terminals.specs.Kinds.{IsOfToken}
use Rattle.rbs_terminals.specs.Terminals.{at_start, terminals}
use Rattle.rbs_terminals.proofs.Stands.{all_stand, all_known}
use Rattle.printed_tokens.specs.Pieces.{Line, lines_text, lines_tokens, AreApart}
use Rattle.printed_tokens.proofs.Divided.{divided}

pub known : (file : ℕ) (ls : List Line) → AreApart ls → AllByRecursion (λ (t : Token). IsOfToken t.kind) (terminals (lines_text ls) (lines_tokens file 0 ls))
known file ls a = all_known (lines_text ls) 0 at_start (lines_tokens file 0 ls) (all_stand file (lines_text ls) (lines_tokens file 0 ls) whole (divided file ls a))
