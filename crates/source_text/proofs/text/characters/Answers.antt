use Rattle.std.proofs.Common.{rules}
use Rattle.std.proofs.lemmas.Str.{chars_from_encodes}
use Rattle.source_text.proofs.text.characters.Goals as goal

pub returns : goal.returns
returns c = (c.in-Ok.ensures.cases.1, search (rules, chars_from_encodes))
