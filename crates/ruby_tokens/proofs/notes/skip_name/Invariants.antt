use Rattle.std.proofs.Common.{◌≡◌, drop}
use Rattle.source_text.specs.Characters.{is_name_character}
use Rattle.ruby_tokens.specs.Notes.{skip}
use Rattle.ruby_tokens.proofs.notes.skip_name.Given as goal

abbrev pub invariant-loop-place : goal.invariant-loop-place
invariant-loop-place l = skip is_name_character (drop l.place l.text) ≡ skip is_name_character l.text
