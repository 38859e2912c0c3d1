use Rattle.std.proofs.Common.{◌∙◌, arith}
use Rattle.ruby_tokens.proofs.Exact.{width_is, found, not_found}
use Rattle.ruby_tokens.proofs.text.tokens.Goals as goal

pub tokens_of-requires : goal.tokens_of-requires
tokens_of-requires c =
    let text = rw c.in-Some.is at c.in_ok-characters.ensures in
    omega (arith, width_is c.args.bytes.now c.as_slice.result.now text.0 (c.as_slice.ensures ∙ text.1))

pub returns-in-Ok-clause-answer : goal.returns-in-Ok-clause-answer
returns-in-Ok-clause-answer c =
    let text = rw c.in-Some.is at c.in_ok-characters.ensures in
    found c.args.bytes.now c.as_slice.result.now text.0 (c.as_slice.ensures ∙ text.1) c.in-Ok.tokens c.in-Ok.ensures

pub returns-in-Err-NoToken-clause-answer : goal.returns-in-Err-NoToken-clause-answer
returns-in-Err-NoToken-clause-answer c =
    let text = rw c.in-Some.is at c.in_ok-characters.ensures in
    let none = rw c.in-Err-NoToken.field-0-is at c.in-Err-NoToken.ensures in
    not_found c.args.bytes.now c.as_slice.result.now text.0 (c.as_slice.ensures ∙ text.1) none
