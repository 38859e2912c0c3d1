use Rattle.rbs_terminals.proofs.Words.{known, found_text}
use Rattle.rbs_terminals.proofs.keywords.keyword_of.Goals as goal

pub returns-in-2 : goal.returns-in-2
returns-in-2 c =
    let e = known c.args.word.now 2 c.keyword_among.result c.keyword_among.ensures c.in-2.is in record { value = e; text = found_text c.args.word.now c.keyword_among.result e }

pub returns-in-3 : goal.returns-in-3
returns-in-3 c =
    let e = known c.args.word.now 3 c.keyword_among-in-3.result c.keyword_among-in-3.ensures c.in-3.is in record { value = e; text = found_text c.args.word.now c.keyword_among-in-3.result e }

pub returns-in-4 : goal.returns-in-4
returns-in-4 c =
    let e = known c.args.word.now 4 c.keyword_among-in-4.result c.keyword_among-in-4.ensures c.in-4.is in record { value = e; text = found_text c.args.word.now c.keyword_among-in-4.result e }

pub returns-in-5 : goal.returns-in-5
returns-in-5 c =
    let e = known c.args.word.now 5 c.keyword_among-in-5.result c.keyword_among-in-5.ensures c.in-5.is in record { value = e; text = found_text c.args.word.now c.keyword_among-in-5.result e }

pub returns-in-6 : goal.returns-in-6
returns-in-6 c =
    let e = known c.args.word.now 6 c.keyword_among-in-6.result c.keyword_among-in-6.ensures c.in-6.is in record { value = e; text = found_text c.args.word.now c.keyword_among-in-6.result e }

pub returns-in-7 : goal.returns-in-7
returns-in-7 c =
    let e = known c.args.word.now 7 c.keyword_among-in-7.result c.keyword_among-in-7.ensures c.in-7.is in record { value = e; text = found_text c.args.word.now c.keyword_among-in-7.result e }

pub returns-in-8 : goal.returns-in-8
returns-in-8 c =
    let e = known c.args.word.now 8 c.keyword_among-in-8.result c.keyword_among-in-8.ensures c.in-8.is in record { value = e; text = found_text c.args.word.now c.keyword_among-in-8.result e }

pub returns-in-9 : goal.returns-in-9
returns-in-9 c =
    let e = known c.args.word.now 9 c.keyword_among-in-9.result c.keyword_among-in-9.ensures c.in-9.is in record { value = e; text = found_text c.args.word.now c.keyword_among-in-9.result e }

pub returns-in-11 : goal.returns-in-11
returns-in-11 c =
    let e = known c.args.word.now 11 c.keyword_among-in-11.result c.keyword_among-in-11.ensures c.in-11.is in record { value = e; text = found_text c.args.word.now c.keyword_among-in-11.result e }

pub returns-in-13 : goal.returns-in-13
returns-in-13 c =
    let e = known c.args.word.now 13 c.keyword_among-in-13.result c.keyword_among-in-13.ensures c.in-13.is in record { value = e; text = found_text c.args.word.now c.keyword_among-in-13.result e }
