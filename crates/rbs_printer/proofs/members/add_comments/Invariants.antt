use Rattle.std.proofs.Common.{◌≡◌, ◌++◌, drop}
use Rattle.std.specs.List.{flat_map}
use Rattle.rbs_printer.specs.Declarations.{comment_line}
use Rattle.rbs_printer.proofs.members.add_comments.Given as goal

abbrev pub invariant-loop-comment : goal.invariant-loop-comment
invariant-loop-comment l = l.out ++ flat_map (comment_line l.depth) (drop l.comment-index l.comments) ≡ l.initial.out ++ flat_map (comment_line l.depth) l.comments
