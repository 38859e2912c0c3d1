use Rattle.ruby_reader.proofs.Once.{ruby_once}
use Rattle.ruby_reader.proofs.text.read.Goals as goal

pub returns-in_err-tokens-clause-once : goal.returns-in_err-tokens-clause-once
returns-in_err-tokens-clause-once c = ruby_once c.args.bytes.now c.tokens.ensures.once

pub returns-in_err-program-clause-once : goal.returns-in_err-program-clause-once
returns-in_err-program-clause-once c = ruby_once c.args.bytes.now c.tokens.ensures.once
