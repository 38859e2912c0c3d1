use Rattle.std.proofs.Common.{ℕ, ◌≡◌, ◌+◌, ◌-◌, true, false, Bool, sym, ◌∙◌, ap, subst, ◌∷◌, [], ◌++◌, take, drop, arith, refl}
use Rattle.std.specs.Prelude.{IsTrue}
use Rattle.rbs_lexer.specs.Division.{IsFit, token_of, whole, stray, past}
use Rattle.rbs_lexer.specs.Longest.{BeginsNone, BeginsWith}
use Rattle.rbs_lexer.proofs.Bytes.{rest_is}
use Rattle.rbs_lexer.proofs.FirstBytes.{clash}
use Rattle.rbs_lexer.proofs.Loop.{Extends, gap_more, token_more, ended, strayed, passed}
use Rattle.rbs_lexer.proofs.Stands.{stand_up_to, stops}
use Rattle.rbs_lexer.proofs.Encoded.{utf8_up_to}
use Rattle.rbs_lexer.proofs.division.divide.Goals as goal

size_is : (at n : ℕ) → (at + n) - at ≡ n
size_is at n = omega arith

is_true : (b : Bool) → b ≡ true → IsTrue b
is_true true e = refl
is_true false e = absurd (clash e)

is_not : (b : Bool) → b ≡ false → IsTrue b → ⊥
is_not b e h = cc

pub loop-at-preserved-then-is_gap : goal.loop-at-preserved-then-is_gap
loop-at-preserved-then-is_gap c = record {
  within = omega (arith, c.loop-at-test.true);
  extends = gap_more c.args.file c.args.bytes.now c.loop-at.tokens c.loop-at.at c.loop-at.invariant.extends (omega (arith, c.loop-at-test.true)) (sym c.is_gap.ensures ∙ c.if-is_gap.true);
}

pub returns-in_default : goal.returns-in_default
returns-in_default c =
    let file = c.args.file in
    let bytes = c.args.bytes.now in
    let tokens = c.loop-at.tokens in
    let at = c.loop-at.at in
    let none = subst BeginsNone (rest_is bytes at) c.in_default.ensures in
    let d = strayed file bytes tokens at c.loop-at.invariant.extends (omega (arith, c.loop-at-test.true)) (sym c.is_gap.ensures ∙ c.if-is_gap.false) none in
    record {
      answer = d;
      stand = stand_up_to file bytes tokens (stray at) d.divided;
      stops = stops file bytes tokens (stray at) d.divided;
      utf8 = utf8_up_to file bytes tokens (stray at) d.divided;
    }

pub returns-then-not-is_fit : goal.returns-then-not-is_fit
returns-then-not-is_fit c =
    let file = c.args.file in
    let bytes = c.args.bytes.now in
    let tokens = c.loop-at.tokens in
    let at = c.loop-at.at in
    let found = c.in-Some.found in
    let begins = subst (BeginsWith found.kind found.size) (rest_is bytes at) c.in-Some.ensures in
    let past_integer = λ (h : IsFit found.kind (take found.size (drop at bytes))).
    is_not c.is_fit.result c.if-not-is_fit.true (c.is_fit.ensures.1 (subst (λ n. IsFit found.kind (take n (drop at bytes))) (sym (size_is at found.size)) h)) in
    let d = passed file bytes tokens at c.loop-at.invariant.extends found.kind found.size begins past_integer in
    record {
      answer = d;
      stand = stand_up_to file bytes tokens (past at) d.divided;
      stops = stops file bytes tokens (past at) d.divided;
      utf8 = utf8_up_to file bytes tokens (past at) d.divided;
    }

pub loop-at-preserved : goal.loop-at-preserved
loop-at-preserved c =
    let file = c.args.file in
    let bytes = c.args.bytes.now in
    let at = c.loop-at.at in
    let found = c.in-Some.found in
    let begins = subst (BeginsWith found.kind found.size) (rest_is bytes at) c.in-Some.ensures in
    let fit = subst (λ n. IsFit found.kind (take n (drop at bytes))) (size_is at found.size) (c.is_fit.ensures.0 (is_true c.is_fit.result c.if-not-is_fit.false)) in
    let more = c.in_ok-push.ensures.ok ∙ ap (λ place. c.loop-at.tokens ++ token_of found.kind place ∷ []) c.span.ensures in
    record {
      within = omega (arith, c.in-Some.ensures.within);
      extends = subst (λ ts. Extends file bytes ts (at + found.size)) (sym more) (token_more file bytes c.loop-at.tokens at c.loop-at.invariant.extends found.kind found.size begins fit);
    }

pub returns : goal.returns
returns c =
    let file = c.args.file in
    let bytes = c.args.bytes.now in
    let tokens = c.loop-at.tokens in
    let d = ended file bytes tokens c.loop-at.at c.loop-at.invariant.extends c.loop-at-test.false in
    record {
      answer = d;
      stand = stand_up_to file bytes tokens whole d.divided;
      stops = stops file bytes tokens whole d.divided;
      utf8 = utf8_up_to file bytes tokens whole d.divided;
    }
