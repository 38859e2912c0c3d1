use Rattle.std.proofs.Common.{◌≡◌, sym, ◌∙◌, Some, None}
use Rattle.ruby_reader.specs.FileMachine.{next, final}
use Rattle.ruby_reader.specs.Written.{Written}
use Rattle.std.proofs.lemmas.Result.{IfOk-weaker}
use Rattle.ruby_reader.proofs.Files.{reads_more, reads_stop, reads_end, read_written}
use Rattle.ruby_reader.proofs.file.program_of.Goals as goal

pub returns-in-None : goal.returns-in-None
returns-in-None c =
    let stops : next c.loop-token.reader c.token-item.result ≡ None = sym c.in_ok-next.ensures ∙ c.in-None.is in
    read_written c.args.tokens.now None (c.loop-token.invariant ∙ reads_stop c.args.tokens.now c.loop-token.token-index c.loop-token.reader c.token-item.result c.loop-token-test.true c.token-item.is stops)

pub loop-token-preserved : goal.loop-token-preserved
loop-token-preserved c =
    let goes : next c.loop-token.reader c.token-item.result ≡ Some c.in-Some.next = sym c.in_ok-next.ensures ∙ c.in-Some.is in
    c.loop-token.invariant ∙ reads_more c.args.tokens.now c.loop-token.token-index c.loop-token.reader c.token-item.result c.in-Some.next c.loop-token-test.true c.token-item.is goes

pub returns : goal.returns
returns c =
    IfOk-weaker c.finish.result (λ o. o ≡ final c.loop-token.reader) (Written c.args.tokens.now)
    (λ o is. read_written c.args.tokens.now o (c.loop-token.invariant ∙ reads_end c.args.tokens.now c.loop-token.token-index c.loop-token.reader c.loop-token-test.false ∙ sym is)) c.finish.ensures
