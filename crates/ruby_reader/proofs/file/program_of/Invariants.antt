use Rattle.std.proofs.Common.{◌≡◌, drop}
use Rattle.ruby_reader.specs.FileMachine.{start}
use Rattle.ruby_reader.proofs.Files.{reads}
use Rattle.ruby_reader.proofs.file.program_of.Given as goal

abbrev pub invariant-loop-token : goal.invariant-loop-token
invariant-loop-token l = reads start l.tokens ≡ reads l.reader (drop l.token-index l.tokens)
