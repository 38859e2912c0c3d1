use Rattle.std.proofs.Common.{◌∙◌, ap, sym}
use Rattle.std.specs.Option.{option_copied}
use Rattle.body_check.specs.Calls.{method_in}
use Rattle.body_check.proofs.Indexed.{methods_found, no_methods_found}
use Rattle.body_check.proofs.index.method_of_class.Goals as goal

pub returns-in_err-place : goal.returns-in_err-place
returns-in_err-place c =
    ap option_copied c.from_residual.ensures ∙ sym (ap (method_in c.args.name.now) (no_methods_found c.args.classes.now c.args.index.now c.requires c.args.class.now c.in_err-place.ensures))

pub returns : goal.returns
returns c =
    c.method_in.ensures
    ∙ ap (method_in c.args.name.now) (c.as_slice.ensures ∙ sym (methods_found c.args.classes.now c.args.index.now c.requires c.args.class.now c.in_ok-place.place c.index-classes-place.result c.in_ok-place.ensures))
