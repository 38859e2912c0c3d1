use Rattle.std.proofs.Common.{List, Ok, Err, refl, subst, sym}
use Rattle.std.specs.Option.{option_to_list}
use Rattle.rbs_lexer.specs.declared.token.SigToken.{SigToken}
use Rattle.rbs_lexer.specs.Division.{end_of}
use Rattle.rbs_terminals.specs.declared.token.Token.{Token}
use Rattle.rbs_terminals.specs.Terminals.{AllStand, terminals}
use Rattle.rbs_terminals.proofs.Stands.{all_stand}
use Rattle.rbs_declarations.specs.Answers.{Answers as AnswersFileOf}
use Rattle.rbs_parser.specs.declared.refused.ParseRefused.{ParseRefused}
use Rattle.rbs_parser.specs.Texts.{AnswersFile}
use Rattle.rbs_parser.proofs.Main.{terminals_are, files_once, file_read, file_refused}
use Rattle.rbs_parser.proofs.text.parse.Goals as goal

pub read-requires : goal.read-requires
read-requires c =
    let divided = c.args.divided.now in
    subst (λ (ts : List SigToken). AllStand c.args.bytes.now 0 ts) (sym c.as_slice-tokens.ensures)
    (all_stand c.args.file c.args.bytes.now divided.tokens (end_of divided.ending) c.requires.divided)

pub returns-in-Ok-clause-answer : goal.returns-in-Ok-clause-answer
returns-in-Ok-clause-answer c =
    let divided = c.args.divided.now in
    let end = end_of divided.ending in
    let all = terminals_are c.args.bytes.now c.as_slice-tokens.result.now divided.tokens end (terminals c.args.bytes.now c.as_slice-tokens.result.now) (option_to_list c.stop_behind-stop.result) c.as_slice-tokens.ensures refl c.stop_behind-stop.ensures in
    file_read c.args.file divided.tokens end c.args.bytes.now c.requires c.if-bytes-gt-LIMIT.false c.in-Ok.decls
    (subst (λ (ts : List Token). AnswersFileOf c.args.file ts (Ok c.in-Ok.decls)) all c.in-Ok.ensures)

pub returns-in-Ok-clause-once : goal.returns-in-Ok-clause-once
returns-in-Ok-clause-once c = files_once c.args.file c.args.divided.now.tokens (end_of c.args.divided.now.ending) c.args.bytes.now c.requires

pub returns-in-Err-clause-answer : goal.returns-in-Err-clause-answer
returns-in-Err-clause-answer c =
    let divided = c.args.divided.now in
    let end = end_of divided.ending in
    let all = terminals_are c.args.bytes.now c.as_slice-tokens.result.now divided.tokens end (terminals c.args.bytes.now c.as_slice-tokens.result.now) (option_to_list c.stop_behind-stop.result) c.as_slice-tokens.ensures refl c.stop_behind-stop.ensures in
    subst (λ (r : ParseRefused). AnswersFile c.args.file c.args.bytes.now (Err r)) (sym c.refusal.ensures)
    (file_refused c.args.file divided.tokens end c.args.bytes.now c.requires c.if-bytes-gt-LIMIT.false c.in-Err.refused
    (subst (λ (ts : List Token). AnswersFileOf c.args.file ts (Err c.in-Err.refused)) all c.in-Err.ensures))

pub returns-in-Err-clause-once : goal.returns-in-Err-clause-once
returns-in-Err-clause-once c = files_once c.args.file c.args.divided.now.tokens (end_of c.args.divided.now.ending) c.args.bytes.now c.requires
