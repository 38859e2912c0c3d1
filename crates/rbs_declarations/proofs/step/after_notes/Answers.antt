use Rattle.rbs_declarations.proofs.step.after_notes.Goals as goal

pub returns : goal.returns
returns c = c.begins.ensures c.args.token.spot.before c.args.token.spot.gap c.args.token.spot.comments
