use Rattle.std.proofs.Common.{sym}
use Rattle.rbs_parser.proofs.Last.{last_ends}
use Rattle.rbs_parser.proofs.stops.end_of_last.Goals as goal

pub returns-in-Some : goal.returns-in-Some
returns-in-Some c = last_ends c.args.tokens.now c.in-Some.token.now (sym c.in-Some.ensures.value)
