use Rattle.std.proofs.Common.{◌∙◌, sym, ap}
use Rattle.rbs_declarations.specs.declared.state.Focus.{Focus}
use Rattle.rbs_declarations.specs.Machine.{settled, whole_file}
use Rattle.rbs_declarations.proofs.Unsettled.{unsettled}
use Rattle.rbs_declarations.proofs.step.finish.Goals as goal

pub returns-in-Parts : goal.returns-in-Parts
returns-in-Parts c =
    c.only_decls.ensures c.args.file ∙ sym (ap (λ (f : Focus). whole_file c.args.file (settled c.args.file f c.args.end c.args.state.decls c.args.state.frames)) c.in-Parts.is)

pub returns-in_default : goal.returns-in_default
returns-in_default c = rw c.unfinished.ensures (unsettled c.args.file c.args.state.focus c.args.end c.args.state.decls c.args.state.frames c.in_default.not-Parts c.in_default.not-Typed)
