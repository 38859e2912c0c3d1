use Rattle.std.proofs.Common.{sym, subst, Option}
use Rattle.sig_model.specs.PlainTy.{PlainTy}
use Rattle.sig_model.specs.PlainMember.{plain_option}
use Rattle.rbs_files.specs.Parameters.{IsBound}
use Rattle.rbs_files.proofs.ParamsRead.{one_param}
use Rattle.rbs_files.proofs.params.param_on.Goals as goal

pub returns-clause-phrase : goal.returns-clause-phrase
returns-clause-phrase c =
    let name = c.in_ok-name.ensures.name in
    let bound = subst (λ (b : Option PlainTy). IsBound c.args.room b c.param_name_on.new.cursor.rest c.bound_on.new.cursor.rest) (sym c.option_of.ensures) c.in_ok-bound.ensures.phrase in
    one_param c.args.room c.args.before.now c.in_ok-name.name c.in_ok-unchecked.unchecked c.in_ok-variance.variance (plain_option c.option_of.result)
    c.args.cursor.now.rest c.skip_keyword.new.cursor.rest c.variance_on.new.cursor.rest c.param_name_on.new.cursor.rest c.bound_on.new.cursor.rest
    c.in_ok-name.ensures.new c.in_ok-unchecked.ensures.skipped c.in_ok-variance.ensures.phrase name.0 name.1 bound
