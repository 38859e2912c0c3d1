use Rattle.std.proofs.Common.{◌∙◌, ap, sym, Some}
use Rattle.std.specs.Option.{option_copied}
use Rattle.body_check.specs.declared.table.MethodEntry.{MethodEntry}
use Rattle.body_check.proofs.Found.{found_at, not_found}
use Rattle.body_check.proofs.index.method_in.Goals as goal

pub returns-in_err-place : goal.returns-in_err-place
returns-in_err-place c =
    ap option_copied c.from_residual.ensures ∙ sym (not_found (λ (m : MethodEntry). m.name) c.args.name.now c.args.methods.now c.args.index.now c.requires c.in_err-place.ensures)

pub returns : goal.returns
returns c =
    ap Some c.index-methods-place.is ∙ sym (found_at (λ (m : MethodEntry). m.name) c.args.name.now c.args.methods.now c.args.index.now c.in_ok-place.place c.index-methods-place.result c.requires c.in_ok-place.ensures)
