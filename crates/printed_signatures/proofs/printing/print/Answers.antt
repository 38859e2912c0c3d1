use Rattle.sig_model.specs.PlainDecl.{plain_decls}
use Rattle.printed_signatures.proofs.PrintedRead.{reads_back}
use Rattle.printed_signatures.proofs.printing.print.Goals as goal

pub returns-in_err-print-clause-read_back : goal.returns-in_err-print-clause-read_back
returns-in_err-print-clause-read_back c = reads_back (plain_decls c.args.decls.now)

pub returns-clause-read_back : goal.returns-clause-read_back
returns-clause-read_back c = reads_back (plain_decls c.args.decls.now)
