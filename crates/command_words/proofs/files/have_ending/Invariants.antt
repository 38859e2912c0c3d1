use Rattle.std.proofs.Common.{◌≡◌, drop, nat_eq}
use Rattle.std.specs.List.{ends_with, list_all}
use Rattle.command_words.proofs.files.have_ending.Given as goal

abbrev pub invariant-loop-file : goal.invariant-loop-file
invariant-loop-file l =
    let all = list_all (λ file. ends_with nat_eq file l.ending) in
    all (drop l.file-index l.files) ≡ all l.files
