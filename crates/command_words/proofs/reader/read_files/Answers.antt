use Rattle.std.proofs.Common.{◌≡◌, ◌∙◌, ap, map, rules}
use Rattle.std.proofs.lemmas.Result.{IfOk-weaker}
use Rattle.clap.specs.Words.{is_simple_and_free}
use Rattle.command_words.proofs.Lone.{lone_refused}
use Rattle.command_words.proofs.Walked.{found_is, is_free, refused_is}
use Rattle.command_words.proofs.reader.read_files.Goals as goal

pub returns-then-has_lone_hyphen : goal.returns-then-has_lone_hyphen
returns-then-has_lone_hyphen c = lone_refused c.args.words.now (search rules)

pub returns-in-Ok : goal.returns-in-Ok
returns-in-Ok c =
    let command = c.in_ok-files_command.ensures in
    let texts : map (λ t. t.now) c.as_slice.result.now ≡ c.args.words.now = ap (map (λ t. t.now)) c.as_slice.ensures.value ∙ c.in_ok-texts.ensures.texts in
    let is = found_is c.in-Ok.matches _ _ c.args.words.now command texts (search rules) c.in_ok-texts.ensures.utf8
    (c.in-Ok.ensures.kinds (ap is_simple_and_free command ∙ is_free)) c.in-Ok.ensures.matches in
    IfOk-weaker c.found_files.result _ _ (λ files h. h ∙ is) c.found_files.ensures

pub returns : goal.returns
returns c =
    let command = c.in_ok-files_command.ensures in
    let texts : map (λ t. t.now) c.as_slice.result.now ≡ c.args.words.now = ap (map (λ t. t.now)) c.as_slice.ensures.value ∙ c.in_ok-texts.ensures.texts in
    refused_is c.in-Err.error _ _ c.args.words.now command texts (search rules) c.in_ok-texts.ensures.utf8
    (c.in-Err.ensures.kinds (ap is_simple_and_free command ∙ is_free)) (search rules)
