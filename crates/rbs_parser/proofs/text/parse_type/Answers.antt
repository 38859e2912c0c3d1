use Rattle.std.proofs.Common.{List, Ok, Err, subst, sym}
use Rattle.std.specs.Option.{option_to_list}
use Rattle.rbs_lexer.specs.declared.token.SigToken.{SigToken}
use Rattle.rbs_lexer.specs.Division.{end_of}
use Rattle.rbs_terminals.specs.declared.token.Token.{Token}
use Rattle.rbs_terminals.specs.Terminals.{AllStand}
use Rattle.rbs_terminals.proofs.Stands.{all_stand}
use Rattle.rbs_types.specs.Answers.{Answers as AnswersTypeOf}
use Rattle.rbs_parser.specs.declared.refused.ParseRefused.{ParseRefused}
use Rattle.rbs_parser.specs.Texts.{AnswersType}
use Rattle.rbs_parser.proofs.Main.{terminals_are, types_once, type_read, type_refused}
use Rattle.rbs_parser.proofs.text.parse_type.Goals as goal

pub new-terminals-requires : goal.new-terminals-requires
new-terminals-requires c =
    let divided = c.args.divided.now in
    subst (λ (ts : List SigToken). AllStand c.args.bytes.now 0 ts) (sym c.as_slice-tokens.ensures)
    (all_stand c.args.file c.args.bytes.now divided.tokens (end_of divided.ending) c.requires.divided)

pub returns-in-Ok-clause-answer : goal.returns-in-Ok-clause-answer
returns-in-Ok-clause-answer c =
    let divided = c.args.divided.now in
    let end = end_of divided.ending in
    let all = terminals_are c.args.bytes.now c.as_slice-tokens.result.now divided.tokens end c.new-terminals.result (option_to_list c.stop_behind-stop.result) c.as_slice-tokens.ensures c.new-terminals.ensures c.stop_behind-stop.ensures in
    type_read c.args.file divided.tokens end c.args.bytes.now c.requires c.if-bytes-gt-LIMIT.false c.in-Ok.ty
    (subst (λ (ts : List Token). AnswersTypeOf ts (Ok c.in-Ok.ty)) all c.in-Ok.ensures.answer)

pub returns-in-Ok-clause-once : goal.returns-in-Ok-clause-once
returns-in-Ok-clause-once c = types_once c.args.file c.args.divided.now.tokens (end_of c.args.divided.now.ending) c.args.bytes.now c.requires

pub returns-in-Err-clause-answer : goal.returns-in-Err-clause-answer
returns-in-Err-clause-answer c =
    let divided = c.args.divided.now in
    let end = end_of divided.ending in
    let all = terminals_are c.args.bytes.now c.as_slice-tokens.result.now divided.tokens end c.new-terminals.result (option_to_list c.stop_behind-stop.result) c.as_slice-tokens.ensures c.new-terminals.ensures c.stop_behind-stop.ensures in
    subst (λ (r : ParseRefused). AnswersType c.args.file c.args.bytes.now (Err r)) (sym c.refusal.ensures)
    (type_refused c.args.file divided.tokens end c.args.bytes.now c.requires c.if-bytes-gt-LIMIT.false c.in-Err.refused
    (subst (λ (ts : List Token). AnswersTypeOf ts (Err c.in-Err.refused)) all c.in-Err.ensures.answer))

pub returns-in-Err-clause-once : goal.returns-in-Err-clause-once
returns-in-Err-clause-once c = types_once c.args.file c.args.divided.now.tokens (end_of c.args.divided.now.ending) c.args.bytes.now c.requires
