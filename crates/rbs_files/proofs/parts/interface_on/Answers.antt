use Rattle.std.proofs.Common.{◌-◌, subst, arith}
use Rattle.sig_model.specs.PlainDecl.{plain_body}
use Rattle.rbs_phrases.specs.Fronts.{Whole, whole}
use Rattle.rbs_files.specs.Within.{AreInterfaceParts}
use Rattle.rbs_files.proofs.BodiesRead.{interface_read}
use Rattle.rbs_files.proofs.parts.interface_on.Goals as goal

pub returns-clause-phrase : goal.returns-clause-phrase
returns-clause-phrase c s =
    let within = c.args.room - 1 in
    let (mid, named, params) = c.in_ok-name.ensures.phrase in
    let behind = c.interface_heading_on.new.cursor.rest in
    let inside = subst (λ (w : Whole). AreInterfaceParts within c.args.file w.last c.in_ok-parts.parts behind c.interface_parts_on.new.cursor.rest) c.in_ok-name.ensures.kept c.in_ok-parts.ensures.phrase in
    interface_read c.args.room c.args.file (whole c.args.cursor.now).last within (omega arith) c.in_ok-name.name c.in_ok-name.params c.in_ok-parts.parts (plain_body c.interface.result) c.in_ok-end.end
    c.args.cursor.now.rest mid behind c.interface_parts_on.new.cursor.rest c.end_on.new.cursor.rest named params inside c.in_ok-end.ensures.phrase c.interface.ensures s
