use Rattle.std.proofs.Common.{subst, arith}
use Rattle.rbs_lexer.specs.Pieces.{repeated_none}
use Rattle.rbs_lexer.specs.Scanned.{IsPiece, IsFirst}
use Rattle.rbs_lexer.proofs.Bytes.{rest_is}
use Rattle.rbs_lexer.proofs.Runs.{run_more}
use Rattle.rbs_lexer.proofs.pieces.run_length.Goals as goal

pub loop-length-init : goal.loop-length-init
loop-length-init c = record { within = omega arith; pieces = repeated_none }

pub loop-length-preserved : goal.loop-length-preserved
loop-length-preserved c =
    let first = subst (λ bytes. IsFirst (IsPiece c.args.run) bytes c.in-Some.length) (rest_is c.args.text.now c.loop-length.at) c.in-Some.ensures in
    let done = run_more c.args.run c.args.text.now c.loop-length.at c.in-Some.length c.loop-length.invariant.within c.loop-length.invariant.pieces first in
    record { within = done.0; pieces = done.1 }
