use Rattle.std.proofs.Common.{◌≡◌, ◌∙◌, ap, ◌∷◌}
use Rattle.sig_model.specs.PlainDecl.{plain_body}
use Rattle.rbs_types.specs.Symbols.{token}
use Rattle.rbs_phrases.specs.Fronts.{Whole, whole}
use Rattle.rbs_declarations.specs.Words.{end_at}
use Rattle.rbs_files.proofs.BodiesRead.{constant_read}
use Rattle.rbs_files.proofs.parts.constant_from.Goals as goal

pub returns-clause-phrase : goal.returns-clause-phrase
returns-clause-phrase c file s =
    let kept = c.in_ok-ty.ensures.kept ∙ c.in_ok-expect.ensures.kept ∙ c.in_ok-name.ensures.kept in
    let rest = c.type_on.new.cursor.rest in
    let stop : c.end_here.result ≡ end_at (whole c.args.cursor.now).last rest = c.end_here.ensures ∙ ap (λ (w : Whole). end_at w.last rest) kept in
    constant_read c.args.room file (whole c.args.cursor.now).last c.in_ok-name.name c.in_ok-ty.ty (plain_body c.constant.result) c.end_here.result (token c.args.kind s ∷ c.args.cursor.now.rest) c.name_from.new.cursor.rest c.expect.new.self.rest rest
    (c.in_ok-name.ensures.phrase s) c.in_ok-expect.ensures.marked c.in_ok-ty.ensures.phrase stop c.constant.ensures
