use Rattle.std.proofs.Common.{[], ◌++◌, Option, subst, sym, ◌∙◌}
use Rattle.std.proofs.lemmas.Result.{err_from_is_err_and}
use Rattle.std.specs.Option.{option_to_list}
use Rattle.rbs_terminals.specs.declared.token.Token.{Token}
use Rattle.rbs_declarations.specs.declared.reading.Reading.{Reading}
use Rattle.rbs_declarations.proofs.Fronts.{Stands, stands_next, stands_some, stands_none, stands_refused, stands_last}
use Rattle.rbs_declarations.proofs.text.read_from.Goals.{in-Some-stop+in_ok-reading-2, in_default-stop}
use Rattle.rbs_declarations.proofs.text.read_from.Goals as goal

pub returns-in_err-reading : goal.returns-in_err-reading
returns-in_err-reading c =
    let file = c.args.file in
    let whole = c.args.terminals ++ option_to_list c.args.stop in
    let stop = option_to_list c.args.stop in
    let token = c.in-Some.token in
    let reading = c.loop-reading.reading in
    let stands = stands_some file whole c.loop-reading.terminals c.next.new.self stop c.in_ok-token.field-0 token reading.state reading.end c.loop-reading.invariant.stands c.in_ok-token.ensures.ok c.in-Some.is in
    let is = err_from_is_err_and c.from_residual-in_err-reading.result c.from_residual-in_err-reading.ensures.1 in
    rw (is.1, is.2) (stands_refused file whole (c.next.new.self ++ stop) token reading.state reading.end stands c.in_err-reading.field-0.0 c.in_err-reading.ensures)

pub loop-reading-preserved : goal.loop-reading-preserved
loop-reading-preserved c =
    let file = c.args.file in
    let whole = c.args.terminals ++ option_to_list c.args.stop in
    let stop = option_to_list c.args.stop in
    let token = c.in-Some.token in
    let reading = c.loop-reading.reading in
    let more = c.in_ok-reading.reading in
    let took = c.in_ok-reading.ensures in
    let stands = stands_some file whole c.loop-reading.terminals c.next.new.self stop c.in_ok-token.field-0 token reading.state reading.end c.loop-reading.invariant.stands c.in_ok-token.ensures.ok c.in-Some.is in
    record {
      stands = stands_next file whole (c.next.new.self ++ stop) token reading.state more.state reading.end more.end stands took.0 took.1 took.2;
      same = c.loop-reading.invariant.same;
      low = took.1.0;
    }

pub returns-in_err-reading-2 : goal.returns-in_err-reading-2
returns-in_err-reading-2 c =
    let file = c.args.file in
    let whole = c.args.terminals ++ option_to_list c.args.stop in
    let reading = c.loop-reading.reading in
    let behind = stands_none file whole c.loop-reading.terminals c.next.new.self (option_to_list c.args.stop) c.in_ok-token.field-0 reading.state reading.end c.loop-reading.invariant.stands c.in_ok-token.ensures.ok c.in_default.is in
    let stands = subst (λ (o : Option Token). Stands file whole (option_to_list o) reading.state reading.end) (sym c.loop-reading.invariant.same ∙ c.in-Some-stop.is) behind in
    let is = err_from_is_err_and c.from_residual-in_err-reading-2.result c.from_residual-in_err-reading-2.ensures.1 in
    rw (is.1, is.2) (stands_refused file whole [] c.in-Some-stop.token reading.state reading.end stands c.in_err-reading-2.field-0.0 c.in_err-reading-2.ensures)

pub returns : goal.returns
returns c =
    let file = c.args.file in
    let whole = c.args.terminals ++ option_to_list c.args.stop in
    let reading = c.loop-reading.reading in
    let last = c.match-stop-5.reading in
    let behind = stands_none file whole c.loop-reading.terminals c.next.new.self (option_to_list c.args.stop) c.in_ok-token.field-0 reading.state reading.end c.loop-reading.invariant.stands c.in_ok-token.ensures.ok c.in_default.is in
    let stands : Stands file whole [] last.state last.end = elim c.match-stop-5.branch [
      | in-Some-stop+in_ok-reading-2 w ↦ (
          let token = w.in-Some-stop.token in
          let more = w.in_ok-reading-2.reading in
          let took = w.in_ok-reading-2.ensures in
          let before = subst (λ (o : Option Token). Stands file whole (option_to_list o) reading.state reading.end) (sym c.loop-reading.invariant.same ∙ w.in-Some-stop.is) behind in
          subst (λ (r : Reading). Stands file whole [] r.state r.end) (sym w.reading-is) (stands_next file whole [] token reading.state more.state reading.end more.end before took.0 took.1 took.2))
      | in_default-stop w ↦ (
          let all = subst (λ (o : Option Token). Stands file whole (option_to_list o) reading.state reading.end) (sym c.loop-reading.invariant.same ∙ w.in_default-stop.is) behind in
          subst (λ (r : Reading). Stands file whole [] r.state r.end) (sym w.reading-is) all)
    ] in
    stands_last file whole last.state last.end stands c.finish.result c.finish.ensures
