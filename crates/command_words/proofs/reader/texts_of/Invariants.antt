use Rattle.std.proofs.Common.{◌≡◌, map, take}
use Rattle.std.specs.List.{AllByRecursion}
use Rattle.std.specs.Str.{IsUtf8}
use Rattle.command_words.proofs.reader.texts_of.Given as goal

abbrev pub invariant-loop-word : goal.invariant-loop-word
invariant-loop-word l = record {
  texts : map (λ t. t.now) l.texts.items ≡ take l.word-index l.words;
  utf8 : AllByRecursion IsUtf8 (take l.word-index l.words);
}
