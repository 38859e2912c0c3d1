use Rattle.std.proofs.Common.{◌≡◌, ◌+◌, sym, subst, drop, rules, arith}
use Rattle.std.proofs.lemmas.List.{drop_all}
use Rattle.source_text.specs.Characters.{width}
use Rattle.ruby_tokens.specs.Machine.{step}
use Rattle.ruby_tokens.specs.Reads.{reads, first}
use Rattle.ruby_tokens.proofs.Loop.{place_more, room, run_more, run_none, run_end, refuse}
use Rattle.ruby_tokens.proofs.text.tokens_of.Goals as goal

pub step-requires-clause-fits : goal.step-requires-clause-fits
step-requires-clause-fits c = omega (arith, room c.args.characters.now c.loop-c.c-index c.c-item.result c.loop-c.at _ c.loop-c-test.true c.c-item.is c.loop-c.invariant.place)

pub returns-in_err-lexer : goal.returns-in_err-lexer
returns-in_err-lexer c =
    let none : step c.loop-c.lexer.tokens c.loop-c.lexer.mode c.loop-c.at c.c-item.result ≡ _ → reads first 0 c.args.characters.now ≡ _ =
    run_none c.args.characters.now c.loop-c.c-index c.c-item.result c.loop-c.at c.loop-c.lexer (reads first 0 c.args.characters.now) c.loop-c-test.true c.c-item.is c.loop-c.invariant.run in
    let h = refuse (step c.loop-c.lexer.tokens c.loop-c.lexer.mode c.loop-c.at c.c-item.result) (reads first 0 c.args.characters.now) c.in_err-lexer.field-0.0 none c.in_err-lexer.ensures in
    search (rules, h)

pub loop-c-preserved : goal.loop-c-preserved
loop-c-preserved c =
    let long : c.len_utf8.result ≡ _ = c.len_utf8.ensures.len in
    let done = c.in_ok-lexer.ensures in
    record {
      run = subst (λ n. reads c.in_ok-lexer.lexer (c.loop-c.at + n) (drop (c.loop-c.c-index + 1) c.args.characters.now) ≡ reads first 0 c.args.characters.now) (sym long)
          (run_more c.args.characters.now c.loop-c.c-index c.c-item.result c.loop-c.at c.loop-c.lexer c.in_ok-lexer.lexer (reads first 0 c.args.characters.now) c.loop-c-test.true c.c-item.is c.loop-c.invariant.run done.0);
      fit = done.1;
      place = subst (λ n. (c.loop-c.at + n) + width (drop (c.loop-c.c-index + 1) c.args.characters.now) ≡ width c.args.characters.now) (sym long)
          (place_more c.args.characters.now c.loop-c.c-index c.c-item.result c.loop-c.at (width c.args.characters.now) c.loop-c-test.true c.c-item.is c.loop-c.invariant.place);
    }

pub returns : goal.returns
returns c = run_end _ c.loop-c.at c.loop-c.lexer _ c.ends.result (drop_all c.loop-c.c-index c.args.characters.now c.loop-c-test.false) c.loop-c.invariant.run c.ends.ensures
