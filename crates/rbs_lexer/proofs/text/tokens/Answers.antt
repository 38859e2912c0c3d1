use Rattle.std.proofs.Common.{ℕ, ◌≡◌, List, subst, rules}
use Rattle.rbs_lexer.specs.declared.division.Ending.{Ending}
use Rattle.rbs_lexer.specs.declared.division.Ending.TheVariants as ending
use Rattle.rbs_lexer.specs.declared.division.Divided.{Divided}
use Rattle.rbs_lexer.specs.Division.{end_of, Divides, IsDivided}
use Rattle.rbs_lexer.proofs.Stands.{stand}
use Rattle.rbs_lexer.proofs.Encoded.{broken_ok, broken_stray, broken_past, broken_none}
use Rattle.rbs_lexer.proofs.text.tokens.Goals as goal

-- the division up to the ending that was found
divided_to : (file : ℕ) (bytes : List ℕ) (d : Divided) (e : Ending) → d.ending ≡ e → IsDivided file d.tokens (end_of d.ending) bytes → Divides file 0 d.tokens (end_of e) bytes
divided_to file bytes d e is h = subst (λ (e : Ending). Divides file 0 d.tokens (end_of e) bytes) is h.divided

pub returns-in_err-tokens-clause-broken : goal.returns-in_err-tokens-clause-broken
returns-in_err-tokens-clause-broken c = λ n v. (broken_none c.args.bytes.now n v, search rules)

pub returns-in-Whole-clause-stand : goal.returns-in-Whole-clause-stand
returns-in-Whole-clause-stand c =
    let found = c.in_ok-tokens.field-0 in
    let d = divided_to c.args.file c.args.bytes.now found ending.Whole c.in-Whole.is c.in_ok-tokens.ensures.answer in
    stand c.args.file c.args.bytes.now found.tokens d

pub returns-in-Whole-clause-broken : goal.returns-in-Whole-clause-broken
returns-in-Whole-clause-broken c =
    let found = c.in_ok-tokens.field-0 in
    let d = divided_to c.args.file c.args.bytes.now found ending.Whole c.in-Whole.is c.in_ok-tokens.ensures.answer in
    broken_ok c.args.file c.args.bytes.now found.tokens d

pub returns-in-Stray-clause-broken : goal.returns-in-Stray-clause-broken
returns-in-Stray-clause-broken c =
    let found = c.in_ok-tokens.field-0 in
    let at = c.in-Stray.at in
    let d = divided_to c.args.file c.args.bytes.now found (ending.Stray at) c.in-Stray.is c.in_ok-tokens.ensures.answer in
    broken_stray c.args.file c.args.bytes.now c.byte_place.result found.tokens at c.byte_place.ensures d

pub returns-in-PastInteger-clause-broken : goal.returns-in-PastInteger-clause-broken
returns-in-PastInteger-clause-broken c =
    let found = c.in_ok-tokens.field-0 in
    let at = c.in-PastInteger.at in
    let d = divided_to c.args.file c.args.bytes.now found (ending.PastInteger at) c.in-PastInteger.is c.in_ok-tokens.ensures.answer in
    broken_past c.args.file c.args.bytes.now c.byte_place-in-PastInteger.result found.tokens at c.byte_place-in-PastInteger.ensures d
