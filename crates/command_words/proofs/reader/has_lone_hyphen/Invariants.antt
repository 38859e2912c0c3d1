use Rattle.std.proofs.Common.{◌≡◌, drop}
use Rattle.command_words.specs.Command.{has_lone_hyphen}
use Rattle.command_words.proofs.reader.has_lone_hyphen.Given as goal

abbrev pub invariant-loop-word : goal.invariant-loop-word
invariant-loop-word l = has_lone_hyphen (drop l.word-index l.words) ≡ has_lone_hyphen l.words
