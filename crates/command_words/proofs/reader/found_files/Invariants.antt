use Rattle.std.proofs.Common.{◌≡◌, map, take}
use Rattle.command_words.proofs.reader.found_files.Given as goal

abbrev pub invariant-loop-text : goal.invariant-loop-text
invariant-loop-text l = l.files ≡ map (λ t. t.now) (take l.text-index l.texts)
