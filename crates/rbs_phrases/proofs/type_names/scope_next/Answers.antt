use Rattle.std.proofs.Common.{◌≡◌, sym, ◌∙◌, true, false}
use Rattle.rbs_terminals.specs.declared.token.Mark.TheVariants as mark
use Rattle.rbs_phrases.proofs.AheadRead.{next_of, scope_is_next, no_scope_next}
use Rattle.rbs_phrases.proofs.type_names.scope_next.Goals as goal

pub returns-then-is_next : goal.returns-then-is_next
returns-then-is_next c =
    let rest = c.args.cursor.now.rest in
    c.on_line_next.ensures ∙ sym (scope_is_next rest (next_of mark.Scope rest (c.is_next.ensures.0 c.if-is_next.true)))

clash : false ≡ true → ⊥
clash e = cc

pub returns-else-is_next : goal.returns-else-is_next
returns-else-is_next c = c.if-is_next.false ∙ sym (no_scope_next c.args.cursor.now.rest (λ h. clash (c.if-is_next.ensures.1 h)))
