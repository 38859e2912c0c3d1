use Rattle.std.proofs.Common.{◌∙◌, ap, map, ◌↔◌, IsTrue}
use Rattle.names.specs.Places.{is_among}
use Rattle.std.proofs.lemmas.Result.{IfOk-weaker}
use Rattle.ruby_reader.specs.PlainLaws.{plain_program}
use Rattle.ruby_reader.specs.Scopes.{HasScopes}
use Rattle.ruby_reader.proofs.ClassNames.{KeepScopes, SameNames, class_name, scopes_of, of_scopes}
use Rattle.ruby_reader.proofs.scopes.has_scopes.Goals as goal

pub returns : goal.returns
returns c =
    let p = c.args.program.now in
    let classes = c.in_ok-classes.classes in
    let same : SameNames classes (map class_name p.openings) = λ n. c.in_ok-classes.ensures n ∙ ap (λ os. is_among n (map class_name os)) c.as_slice.ensures in
    IfOk-weaker c.keep_scopes.result (λ kept. IsTrue kept ↔ KeepScopes classes p) (λ kept. IsTrue kept ↔ HasScopes (plain_program p))
    (λ kept h. (λ t. scopes_of p classes same (h.0 t), λ s. h.1 (of_scopes p classes same s))) c.keep_scopes.ensures
