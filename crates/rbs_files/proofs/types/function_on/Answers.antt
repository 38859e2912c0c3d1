use Rattle.rbs_types.specs.Parts.{function_with}
use Rattle.sig_model.specs.Height.{fun_height}
use Rattle.rbs_files.proofs.TypesRead.{function_within, low_enough}
use Rattle.rbs_files.proofs.types.function_on.Goals as goal

pub returns-then-fits-clause-phrase : goal.returns-then-fits-clause-phrase
returns-then-fits-clause-phrase c =
    let read = c.in_ok-outcome.ensures in
    let fits = c.fits.ensures c.if-fits.true in
    function_within c.opened-before.result c.args.room c.args.cursor.now c.function_on.new.cursor read.kept c.opened-before.ensures fits.0 read.phrase
    (low_enough c.levels.result (fun_height (function_with c.function_on.new.head c.in_ok-outcome.outcome)) c.levels.ensures fits.1)
