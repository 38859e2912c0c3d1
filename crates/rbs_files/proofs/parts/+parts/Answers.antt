use Rattle.std.proofs.Common.{◌≡◌, ◌-◌, refl, sym, ◌∙◌, ap, subst, ◌∷◌, IfOk, OnOk, arith}
use Rattle.sig_model.specs.PlainDecl.{PlainParts, plain_body, plain_decl}
use Rattle.rbs_terminals.specs.declared.token.Keyword.TheVariants as keyword
use Rattle.rbs_terminals.specs.declared.token.Kind.{Kind}
use Rattle.rbs_terminals.specs.declared.token.Kind.TheVariants as kind
use Rattle.rbs_types.specs.Symbols.{token}
use Rattle.rbs_phrases.specs.Fronts.{Whole, whole}
use Rattle.rbs_files.specs.Within.{IsBody, IsDeclaration, AreParts}
use Rattle.rbs_files.specs.Onward.{GrowsParts}
use Rattle.rbs_files.proofs.PartsRead.{declared, inner_grows, parts_start, parts_join, parts_end}
use Rattle.rbs_files.proofs.BodiesRead.{class_read, module_read}
use Rattle.rbs_files.proofs.parts.+parts.Goals as goal

pub body_from-returns-in-Keyword-Class-clause-phrase : goal.body_from-returns-in-Keyword-Class-clause-phrase
body_from-returns-in-Keyword-Class-clause-phrase t c s =
    let word : c.in-Keyword-Class.field-0 ≡ keyword.Class = rw c.in-Keyword-Class.is at c.in-Keyword-Class.field-0-is in
    let same : c.args.kind ≡ kind.Keyword keyword.Class = c.in-Keyword-Class.is ∙ ap kind.Keyword word in
    subst (λ (k : Kind). IfOk c.class_on.result (λ found. IsBody c.args.room c.args.file (whole c.args.cursor.now).last (plain_body found.0) found.1 (token k s ∷ c.args.cursor.now.rest) c.class_on.new.cursor.rest)) (sym same) (c.class_on.ensures.phrase s)

pub body_from-returns-in-Keyword-Module-clause-phrase : goal.body_from-returns-in-Keyword-Module-clause-phrase
body_from-returns-in-Keyword-Module-clause-phrase t c s =
    let word : c.in-Keyword-Module.field-0 ≡ keyword.Module = rw c.in-Keyword-Module.is at c.in-Keyword-Module.field-0-is in
    let same : c.args.kind ≡ kind.Keyword keyword.Module = c.in-Keyword-Module.is ∙ ap kind.Keyword word in
    subst (λ (k : Kind). IfOk c.module_on.result (λ found. IsBody c.args.room c.args.file (whole c.args.cursor.now).last (plain_body found.0) found.1 (token k s ∷ c.args.cursor.now.rest) c.module_on.new.cursor.rest)) (sym same) (c.module_on.ensures.phrase s)

pub body_from-returns-in-Keyword-Interface-clause-phrase : goal.body_from-returns-in-Keyword-Interface-clause-phrase
body_from-returns-in-Keyword-Interface-clause-phrase t c s =
    let word : c.in-Keyword-Interface.field-0 ≡ keyword.Interface = rw c.in-Keyword-Interface.is at c.in-Keyword-Interface.field-0-is in
    let same : c.args.kind ≡ kind.Keyword keyword.Interface = c.in-Keyword-Interface.is ∙ ap kind.Keyword word in
    subst (λ (k : Kind). IfOk c.interface_on.result (λ found. IsBody c.args.room c.args.file (whole c.args.cursor.now).last (plain_body found.0) found.1 (token k s ∷ c.args.cursor.now.rest) c.interface_on.new.cursor.rest)) (sym same) (c.interface_on.ensures.phrase s)

pub body_from-returns-in-Keyword-Type-clause-phrase : goal.body_from-returns-in-Keyword-Type-clause-phrase
body_from-returns-in-Keyword-Type-clause-phrase t c s =
    let word : c.in-Keyword-Type.field-0 ≡ keyword.Type = rw c.in-Keyword-Type.is at c.in-Keyword-Type.field-0-is in
    let same : c.args.kind ≡ kind.Keyword keyword.Type = c.in-Keyword-Type.is ∙ ap kind.Keyword word in
    subst (λ (k : Kind). IfOk c.alias_on.result (λ found. IsBody c.args.room c.args.file (whole c.args.cursor.now).last (plain_body found.0) found.1 (token k s ∷ c.args.cursor.now.rest) c.alias_on.new.cursor.rest)) (sym same) (c.alias_on.ensures.phrase c.args.file s)

pub body_from-returns-in_default-clause-phrase : goal.body_from-returns-in_default-clause-phrase
body_from-returns-in_default-clause-phrase t c s = c.constant_from.ensures.phrase c.args.file s

pub class_on-returns-clause-phrase : goal.class_on-returns-clause-phrase
class_on-returns-clause-phrase t c s =
    let within = c.args.room - 1 in
    let behind = c.class_heading_on.new.cursor.rest in
    let inside = subst (λ (w : Whole). AreParts within c.args.file w.last c.in_ok-parts.parts behind c.parts_on.new.cursor.rest) c.in_ok-name.ensures.kept c.in_ok-parts.ensures.phrase in
    class_read c.args.room c.args.file (whole c.args.cursor.now).last within (omega arith) c.in_ok-name.name c.in_ok-name.params c.in_ok-name.parent c.in_ok-parts.parts (plain_body c.class.result) c.in_ok-end.end
    c.args.cursor.now.rest behind c.parts_on.new.cursor.rest c.end_on.new.cursor.rest c.in_ok-name.ensures.phrase inside c.in_ok-end.ensures.phrase c.class.ensures s

pub module_on-returns-clause-phrase : goal.module_on-returns-clause-phrase
module_on-returns-clause-phrase t c s =
    let within = c.args.room - 1 in
    let behind = c.module_heading_on.new.cursor.rest in
    let inside = subst (λ (w : Whole). AreParts within c.args.file w.last c.in_ok-parts.parts behind c.parts_on.new.cursor.rest) c.in_ok-name.ensures.kept c.in_ok-parts.ensures.phrase in
    module_read c.args.room c.args.file (whole c.args.cursor.now).last within (omega arith) c.in_ok-name.name c.in_ok-name.params c.in_ok-name.selves c.in_ok-parts.parts (plain_body c.module.result) c.in_ok-end.end
    c.args.cursor.now.rest behind c.parts_on.new.cursor.rest c.end_on.new.cursor.rest c.in_ok-name.ensures.phrase inside c.in_ok-end.ensures.phrase c.module.ensures s

pub declaration_from-returns-clause-phrase : goal.declaration_from-returns-clause-phrase
declaration_from-returns-clause-phrase t c ts noted =
    declared c.args.room c.args.file (whole c.args.cursor.now).last c.args.noted c.args.cursor.now.end c.in_ok-body.end (plain_body c.in_ok-body.body) ts c.args.cursor.now.rest c.body_from.new.cursor.rest noted c.in_ok-body.ensures.phrase

pub part_on-returns-in_ok-add_inner-clause-phrase : goal.part_on-returns-in_ok-add_inner-clause-phrase
part_on-returns-in_ok-add_inner-clause-phrase t c =
    let start = c.args.cursor.now.rest in
    let rest = c.declaration_from.new.cursor.rest in
    let inner = plain_decl c.in_ok-inner.inner in
    let read = c.in_ok-inner.ensures.phrase start c.in_ok-noted.ensures.phrase in
    let read' = subst (λ (w : Whole). IsDeclaration c.args.room c.args.file w.last inner start rest) c.in_ok-noted.ensures.kept read in
    inner_grows c.args.room c.args.file (whole c.args.cursor.now).last c.args.parts.now c.add_inner.new.self inner start rest read' c.in_ok-add_inner.ensures

pub part_on-returns-else-begins_body-clause-phrase : goal.part_on-returns-else-begins_body-clause-phrase
part_on-returns-else-begins_body-clause-phrase t c =
    let start = c.args.cursor.now.rest in
    let rest = c.member_part_from.new.cursor.rest in
    subst (λ (w : Whole). OnOk c.member_part_from.result (GrowsParts c.args.room c.args.file w.last c.args.parts.now c.member_part_from.new.parts start rest)) c.in_ok-noted.ensures.kept (c.member_part_from.ensures.phrase start c.in_ok-noted.ensures.phrase)

pub parts_on-loop-alloc-init : goal.parts_on-loop-alloc-init
parts_on-loop-alloc-init t c = record {
  read = parts_start c.args.room c.args.file (whole c.args.cursor.now).last c.new-parts.result c.args.cursor.now.rest;
  kept = refl;
  nearer = omega arith;
}

pub parts_on-loop-alloc-preserved : goal.parts_on-loop-alloc-preserved
parts_on-loop-alloc-preserved t c =
    let before = c.loop-alloc in
    let rest = c.part_on.new.cursor.rest in
    let more = subst (λ (w : Whole). GrowsParts c.args.room c.args.file w.last before.parts c.part_on.new.parts before.cursor.rest rest) before.invariant.kept c.in_ok-part_on.ensures.phrase in
    record {
      read = parts_join c.args.room c.args.file (whole c.args.cursor.now).last c.new-parts.result before.parts c.part_on.new.parts c.args.cursor.now.rest before.cursor.rest rest before.invariant.read more;
      kept = c.in_ok-part_on.ensures.kept ∙ before.invariant.kept;
      nearer = omega (arith, c.in_ok-part_on.ensures.shorter, before.invariant.nearer);
    }

pub parts_on-returns-clause-phrase : goal.parts_on-returns-clause-phrase
parts_on-returns-clause-phrase t c =
    let read = c.loop-alloc.invariant.read in
    let last = (whole c.args.cursor.now).last in
    parts_end c.args.room c.args.file last c.loop-alloc.parts c.args.cursor.now.rest c.loop-alloc.cursor.rest
    (subst (λ (ps : PlainParts). GrowsParts c.args.room c.args.file last ps c.loop-alloc.parts c.args.cursor.now.rest c.loop-alloc.cursor.rest) c.new-parts.ensures read)
