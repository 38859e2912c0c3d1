use Rattle.std.proofs.Common.{sym, ◌∙◌, ap, subst, ◌∷◌, arith}
use Rattle.rbs_terminals.specs.declared.token.Mark.TheVariants as mark
use Rattle.rbs_types.specs.Symbols.{token}
use Rattle.rbs_types.specs.Plains.{and_ty}
use Rattle.rbs_types.specs.Grammar.{Spells, Lists, type, inter, opt, result, lone_inter, lone_opt, proc}
use Rattle.rbs_phrases.specs.Items.{sort_of}
use Rattle.rbs_phrases.proofs.Read.{if_ok, taken, left}
use Rattle.rbs_phrases.proofs.TypesRead as read
use Rattle.rbs_phrases.proofs.types.+types.Goals as goal

-- ---- unions, intersections and question marks

pub inter_behind-returns-then-not-branch-clause-phrase : goal.inter_behind-returns-then-not-branch-clause-phrase
inter_behind-returns-then-not-branch-clause-phrase t c ts d =
    let same = left mark.Amp _ _ c.in_ok-skip.field-0 c.if-not-branch.true c.in_ok-skip.ensures.skipped in
    subst (λ m. Spells inter c.args.first ts m) same.0 (lone_opt d)

pub inter_behind-returns-clause-phrase : goal.inter_behind-returns-clause-phrase
inter_behind-returns-clause-phrase t c ts d =
    let amp = taken mark.Amp _ _ c.in_ok-skip.field-0 c.if-not-branch.false c.in_ok-skip.ensures.skipped in
    rw c.inter.ensures (read.inter_read d amp (subst (λ us. Lists opt mark.Amp us c.in_ok-members.members c.skip.new.self.rest c.list_on.new.cursor.rest) (c.in_ok-first.ensures ∙ ap (λ us. and_ty us c.args.first) c.new.ensures) c.in_ok-members.ensures.phrase))

pub union_behind-returns-then-not-branch-clause-phrase : goal.union_behind-returns-then-not-branch-clause-phrase
union_behind-returns-then-not-branch-clause-phrase t c ts d =
    let same = left mark.Bar _ _ c.in_ok-skip.field-0 c.if-not-branch.true c.in_ok-skip.ensures.skipped in
    subst (λ m. Spells type c.args.first ts m) same.0 (lone_inter d)

pub union_behind-returns-clause-phrase : goal.union_behind-returns-clause-phrase
union_behind-returns-clause-phrase t c ts d =
    let bar = taken mark.Bar _ _ c.in_ok-skip.field-0 c.if-not-branch.false c.in_ok-skip.ensures.skipped in
    rw c.union.ensures (read.union_read d bar (subst (λ us. Lists inter mark.Bar us c.in_ok-members.members c.skip.new.self.rest c.list_on.new.cursor.rest) (c.in_ok-first.ensures ∙ ap (λ us. and_ty us c.args.first) c.new.ensures) c.in_ok-members.ensures.phrase))

pub operators_behind-returns-in-Opt-clause-phrase : goal.operators_behind-returns-in-Opt-clause-phrase
operators_behind-returns-in-Opt-clause-phrase t c ts d = rw c.in-Opt.is (c.in_ok-ty.ensures.opt ts d)

pub operators_behind-returns-in-Inter-clause-phrase : goal.operators_behind-returns-in-Inter-clause-phrase
operators_behind-returns-in-Inter-clause-phrase t c ts d = rw c.in-Inter.is (c.inter_behind.ensures.phrase ts (c.in_ok-ty.ensures.opt ts d))

pub operators_behind-returns-in_ok-inter-in-Type-clause-phrase : goal.operators_behind-returns-in_ok-inter-in-Type-clause-phrase
operators_behind-returns-in_ok-inter-in-Type-clause-phrase t c ts d = rw c.in-Type.is (c.union_behind.ensures.phrase ts (c.in_ok-inter-in-Type.ensures.phrase ts (c.in_ok-ty.ensures.opt ts d)))

pub item_from-returns-then-operator_next-clause-phrase : goal.item_from-returns-then-operator_next-clause-phrase
item_from-returns-then-operator_next-clause-phrase t c s =
    c.operators_behind.ensures.phrase (token c.args.kind s ∷ c.args.cursor.now.rest) (c.in_ok-ty.ensures.phrase s)

pub item_from-returns-else-operator_next-clause-phrase : goal.item_from-returns-else-operator_next-clause-phrase
item_from-returns-else-operator_next-clause-phrase t c s = read.alone c.args.item (c.in_ok-ty.ensures.phrase s)

pub outcome_from-returns-clause-phrase : goal.outcome_from-returns-clause-phrase
outcome_from-returns-clause-phrase t c s =
    c.opt_behind.ensures.outcome (token c.args.kind s ∷ c.args.cursor.now.rest) (c.in_ok-ty.ensures.phrase s)

-- ---- types in brackets, and those of one terminal

pub paren_on-returns-clause-phrase : goal.paren_on-returns-clause-phrase
paren_on-returns-clause-phrase t c s =
    let first = c.in_ok-kind.ensures.next in
    let ty = subst (λ m. Spells type c.in_ok-ty.ty m c.type_from.new.cursor.rest) (sym first.1) (c.in_ok-ty.ensures.phrase first.0) in
    read.paren_read s ty c.in_ok-expect.ensures.marked

pub proc_on-returns-clause-phrase : goal.proc_on-returns-clause-phrase
proc_on-returns-clause-phrase t c s = rw (c.in_ok-of_fun.ensures, c.with_result.ensures) (proc s c.in_ok-outcome.ensures.phrase)

pub simple_from-returns-then-is_literal-clause-phrase : goal.simple_from-returns-then-is_literal-clause-phrase
simple_from-returns-then-is_literal-clause-phrase t c s =
    if_ok c.literal_of.result (λ u h. read.literal_read c.args.kind s h) c.literal_of.ensures

pub tuple_on-returns-then-branch-clause-phrase : goal.tuple_on-returns-then-branch-clause-phrase
tuple_on-returns-then-branch-clause-phrase t c s =
    rw (c.tuple.ensures, c.new.ensures) (read.unit_read s (taken mark.CloseSquare _ _ c.in_ok-skip.field-0 c.if-branch.true c.in_ok-skip.ensures.skipped))

pub tuple_on-returns-clause-phrase : goal.tuple_on-returns-clause-phrase
tuple_on-returns-clause-phrase t c s =
    let same = left mark.CloseSquare _ _ c.in_ok-skip.field-0 c.if-branch.false c.in_ok-skip.ensures.skipped in
    rw (c.tuple-2.ensures, same.0) (read.tuple_read s (rw (sym c.new-2.ensures) c.in_ok-members.ensures.phrase) c.in_ok-expect.ensures.marked)

pub record_on-returns-then-branch-clause-phrase : goal.record_on-returns-then-branch-clause-phrase
record_on-returns-then-branch-clause-phrase t c s =
    rw (c.record.ensures, c.new.ensures) (read.no_record_read s (taken mark.CloseBrace _ _ c.in_ok-skip.field-0 c.if-branch.true c.in_ok-skip.ensures.skipped))

pub record_on-returns-clause-phrase : goal.record_on-returns-clause-phrase
record_on-returns-clause-phrase t c s =
    let same = left mark.CloseBrace _ _ c.in_ok-skip.field-0 c.if-branch.false c.in_ok-skip.ensures.skipped in
    rw (c.record-2.ensures, same.0) (read.record_read s c.in_ok-keys.ensures.phrase c.in_ok-expect.ensures.marked)

pub named_from-returns-then-not-branch-clause-phrase : goal.named_from-returns-then-not-branch-clause-phrase
named_from-returns-then-not-branch-clause-phrase t c s =
    let same = left mark.OpenSquare _ _ c.in_ok-skip.field-0 c.if-not-branch.true c.in_ok-skip.ensures.skipped in
    rw (c.name.ensures, c.new.ensures) (read.name_read (c.in_ok-name.ensures.phrase s) same.0)

pub named_from-returns-clause-phrase : goal.named_from-returns-clause-phrase
named_from-returns-clause-phrase t c s =
    let bracket = taken mark.OpenSquare _ _ c.in_ok-skip.field-0 c.if-not-branch.false c.in_ok-skip.ensures.skipped in
    rw c.name-2.ensures (read.applied_read (c.in_ok-name.ensures.phrase s) bracket (rw (sym c.new-2.ensures) c.in_ok-args.ensures.phrase) c.in_ok-expect.ensures.marked)

-- ---- lists

pub list_on-loop-more-preserved : goal.list_on-loop-more-preserved
list_on-loop-more-preserved t c =
    let next = c.in_ok-kind.ensures.next in
    let x = sort_of c.args.item in
    let spelled = subst (λ m. Spells x c.in_ok-ty.ty m c.item_from.new.cursor.rest) (sym next.1) (c.in_ok-ty.ensures.phrase next.0) in
    let go_on = c.loop-more.invariant.further c.loop-more-test.true in
    record {
      further = λ e. read.list_further x c.args.by c.args.before c.loop-more.done c.add.new.self c.in_ok-ty.ty c.args.cursor.now.rest c.loop-more.cursor.rest c.item_from.new.cursor.rest c.skip.new.self.rest go_on spelled c.in_ok-add.ensures (taken c.args.by _ _ c.in_ok-more.more e c.in_ok-more.ensures.skipped);
      all = λ e. read.list_whole x c.args.by c.args.before c.loop-more.done c.add.new.self c.in_ok-ty.ty c.args.cursor.now.rest c.loop-more.cursor.rest c.item_from.new.cursor.rest c.skip.new.self.rest go_on spelled c.in_ok-add.ensures (left c.args.by _ _ c.in_ok-more.more e c.in_ok-more.ensures.skipped).0;
      kept = c.in_ok-more.ensures.kept ∙ c.in_ok-ty.ensures.kept ∙ c.in_ok-kind.ensures.kept ∙ c.loop-more.invariant.kept;
      nearer = omega (arith, c.in_ok-more.ensures.shorter, c.in_ok-ty.ensures.shorter, c.in_ok-kind.ensures.shorter, c.loop-more.invariant.nearer);
      shorter = λ e. omega (arith, c.in_ok-more.ensures.shorter, c.in_ok-ty.ensures.shorter, c.in_ok-kind.ensures.shorter, c.loop-more.invariant.nearer);
    }

pub keys_on-loop-more-preserved : goal.keys_on-loop-more-preserved
keys_on-loop-more-preserved t c =
    let next = c.in_ok-kind.ensures.next in
    let spelled = subst (λ m. Spells type c.in_ok-ty.ty m c.type_from.new.cursor.rest) (sym next.1) (c.in_ok-ty.ensures.phrase next.0) in
    let go_on = c.loop-more.invariant.further c.loop-more-test.true in
    record {
      further = λ e. read.keys_further c.loop-more.done c.add.new.self c.in_ok-key.key c.in_ok-key.needed c.in_ok-ty.ty c.args.cursor.now.rest c.loop-more.cursor.rest c.key_on.new.cursor.rest c.type_from.new.cursor.rest c.skip.new.self.rest go_on c.in_ok-key.ensures.phrase spelled c.in_ok-add.ensures (taken mark.Comma _ _ c.in_ok-more.more e c.in_ok-more.ensures.skipped);
      all = λ e. read.keys_whole c.loop-more.done c.add.new.self c.in_ok-key.key c.in_ok-key.needed c.in_ok-ty.ty c.args.cursor.now.rest c.loop-more.cursor.rest c.key_on.new.cursor.rest c.type_from.new.cursor.rest c.skip.new.self.rest go_on c.in_ok-key.ensures.phrase spelled c.in_ok-add.ensures (left mark.Comma _ _ c.in_ok-more.more e c.in_ok-more.ensures.skipped).0;
      kept = c.in_ok-more.ensures.kept ∙ c.in_ok-ty.ensures.kept ∙ c.in_ok-kind.ensures.kept ∙ c.in_ok-key.ensures.kept ∙ c.loop-more.invariant.kept;
      nearer = omega (arith, c.in_ok-more.ensures.shorter, c.in_ok-ty.ensures.shorter, c.in_ok-kind.ensures.shorter, c.in_ok-key.ensures.shorter, c.loop-more.invariant.nearer);
      shorter = λ e. omega (arith, c.in_ok-more.ensures.shorter, c.in_ok-ty.ensures.shorter, c.in_ok-kind.ensures.shorter, c.in_ok-key.ensures.shorter, c.loop-more.invariant.nearer);
    }

pub parameters_on-loop-more-preserved : goal.parameters_on-loop-more-preserved
parameters_on-loop-more-preserved t c =
    let slotted = c.in_ok-slot.ensures.phrase in
    let filled = c.in_ok-name.ensures.phrase c.in_ok-ty.ty (token c.in_ok-slot.kind slotted.0 ∷ c.slot_on.new.cursor.rest) (c.in_ok-ty.ensures.phrase slotted.0) in
    let go_on = c.loop-more.invariant.further c.loop-more-test.true in
    record {
      further = λ e. read.parameters_further c.loop-more.done c.add.new.parameters c.in_ok-slot.slot c.in_ok-ty.ty c.in_ok-name.name c.args.cursor.now.rest c.loop-more.cursor.rest (token c.in_ok-slot.kind slotted.0 ∷ c.slot_on.new.cursor.rest) c.name_behind.new.cursor.rest c.skip.new.self.rest go_on slotted.1 filled c.in_ok-add.ensures (taken mark.Comma _ _ c.in_ok-more.more e c.in_ok-more.ensures.skipped);
      all = λ e. read.parameters_whole c.loop-more.done c.add.new.parameters c.in_ok-slot.slot c.in_ok-ty.ty c.in_ok-name.name c.args.cursor.now.rest c.loop-more.cursor.rest (token c.in_ok-slot.kind slotted.0 ∷ c.slot_on.new.cursor.rest) c.name_behind.new.cursor.rest c.skip.new.self.rest go_on slotted.1 filled c.in_ok-add.ensures (left mark.Comma _ _ c.in_ok-more.more e c.in_ok-more.ensures.skipped).0;
      kept = c.in_ok-more.ensures.kept ∙ c.in_ok-name.ensures.kept ∙ c.in_ok-ty.ensures.kept ∙ c.in_ok-slot.ensures.kept ∙ c.loop-more.invariant.kept;
      nearer = omega (arith, c.in_ok-more.ensures.shorter, c.in_ok-name.ensures.shorter, c.in_ok-ty.ensures.shorter, c.in_ok-slot.ensures.shorter, c.loop-more.invariant.nearer);
      shorter = λ e. omega (arith, c.in_ok-more.ensures.shorter, c.in_ok-name.ensures.shorter, c.in_ok-ty.ensures.shorter, c.in_ok-slot.ensures.shorter, c.loop-more.invariant.nearer);
    }

pub parameters_on-returns-clause-phrase : goal.parameters_on-returns-clause-phrase
parameters_on-returns-clause-phrase t c =
    let next = c.in_ok-kind.ensures.next in
    let more = c.loop-more.invariant.further c.if-not-more.false in
    let ty = subst (λ m. Spells type c.in_ok-ty-2.ty m c.type_from-2.new.cursor.rest) (sym next.1) (c.in_ok-ty-2.ensures.phrase next.0) in
    rw c.in_ok-of.ensures (more _ c.name_behind-2.new.cursor.rest (read.key_rest_read c.in_ok-expect.ensures.marked (c.in_ok-name-2.ensures.phrase c.in_ok-ty-2.ty c.expect.new.self.rest ty)))

-- ---- functions

pub listed_on-returns-then-not-branch-clause-phrase : goal.listed_on-returns-then-not-branch-clause-phrase
listed_on-returns-then-not-branch-clause-phrase t c =
    let same = left mark.Open _ _ c.in_ok-skip.field-0 c.if-not-branch.true c.in_ok-skip.ensures.skipped in
    rw (c.requires, c.none.ensures) (read.unlisted_read same.0)

pub listed_on-returns-then-branch-clause-phrase : goal.listed_on-returns-then-branch-clause-phrase
listed_on-returns-then-branch-clause-phrase t c =
    let opened = taken mark.Open _ _ c.in_ok-skip.field-0 c.if-not-branch.false c.in_ok-skip.ensures.skipped in
    let closed = taken mark.Close _ _ c.in_ok-skip-2.field-0 c.if-branch.true c.in_ok-skip-2.ensures.skipped in
    rw (c.requires, c.none-then-branch.ensures) (read.empty_read opened closed)

pub listed_on-returns-clause-phrase : goal.listed_on-returns-clause-phrase
listed_on-returns-clause-phrase t c =
    let opened = taken mark.Open _ _ c.in_ok-skip.field-0 c.if-not-branch.false c.in_ok-skip.ensures.skipped in
    let same = left mark.Close _ _ c.in_ok-skip-2.field-0 c.if-branch.false c.in_ok-skip-2.ensures.skipped in
    read.listed_read opened (rw same.0 c.in_ok-key_rest.ensures.phrase) c.in_ok-expect.ensures.marked

pub braced_on-returns-clause-phrase : goal.braced_on-returns-clause-phrase
braced_on-returns-clause-phrase t c =
    let next = c.in_ok-kind.ensures.next in
    let outcome = subst (λ m. Spells result c.in_ok-outcome.outcome m c.outcome_from.new.cursor.rest) (sym next.1) (c.in_ok-outcome.ensures.phrase next.0) in
    let braced = read.braced_read c.in_ok-key_rest.ensures.phrase c.in_ok-expect.ensures.marked outcome c.in_ok-expect-2.ensures.marked in
    (_, c.in_ok-of_fun.ensures, rw (c.with_result.ensures, c.none.ensures) braced)

pub block_on-returns-then-branch-clause-phrase : goal.block_on-returns-then-branch-clause-phrase
block_on-returns-then-branch-clause-phrase t c =
    if_ok c.braced_on.result (λ b h. read.needed_block_read (taken mark.OpenBrace _ _ c.in_ok-skip.field-0 c.if-branch.true c.in_ok-skip.ensures.skipped) h) c.braced_on.ensures.phrase

pub block_on-returns-in_ok-expect-clause-phrase : goal.block_on-returns-in_ok-expect-clause-phrase
block_on-returns-in_ok-expect-clause-phrase t c =
    let same = left mark.OpenBrace _ _ c.in_ok-skip.field-0 c.if-branch.false c.in_ok-skip.ensures.skipped in
    let question = taken mark.Question _ _ c.in_ok-skip-2.field-0 c.if-branch-2.true c.in_ok-skip-2.ensures.skipped in
    if_ok c.braced_on-then-branch-2.result (λ b h. read.optional_block_read same.0 question c.in_ok-expect.ensures.marked h) c.braced_on-then-branch-2.ensures.phrase

pub block_on-returns-else-branch-2-clause-phrase : goal.block_on-returns-else-branch-2-clause-phrase
block_on-returns-else-branch-2-clause-phrase t c =
    let same = left mark.OpenBrace _ _ c.in_ok-skip.field-0 c.if-branch.false c.in_ok-skip.ensures.skipped in
    let still = left mark.Question _ _ c.in_ok-skip-2.field-0 c.if-branch-2.false c.in_ok-skip-2.ensures.skipped in
    rw c.none.ensures (read.no_block_read same.0 still.0)

pub function_from-returns-clause-phrase : goal.function_from-returns-clause-phrase
function_from-returns-clause-phrase t c =
    let next = c.in_ok-kind.ensures.next in
    if_ok c.outcome_from.result
    (λ outcome h. read.function_read c.in_ok-head.ensures.phrase c.in_ok-head-2.ensures.phrase c.in_ok-expect.ensures.marked (subst (λ m. Spells result outcome m c.outcome_from.new.cursor.rest) (sym next.1) h))
    (c.outcome_from.ensures.phrase next.0)
