use Rattle.std.proofs.Common.{◌∙◌}
use Rattle.sig_model.specs.PlainDecl.{plain_decls}
use Rattle.steep_cli.proofs.OnlyLists.{no_program_unread, answers_checked}
use Rattle.steep_cli.proofs.lists.program_faults.Goals as goal

pub returns-in_default : goal.returns-in_default
returns-in_default c = no_program_unread (plain_decls c.args.decls.now) c.args.bytes.now (rw c.in_default.is at c.in_ok-program.ensures.answer)

pub returns : goal.returns
returns c =
    answers_checked (plain_decls c.args.decls.now) c.args.bytes.now c.in-Some.program c.check.result c.as_slice.result.now (rw c.in-Some.is at c.in_ok-program.ensures.answer)
    (c.as_slice.ensures ∙ c.in_ok-classes.ensures) c.check.ensures.answer
