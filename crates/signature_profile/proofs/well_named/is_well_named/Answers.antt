use Rattle.sig_model.specs.PlainDecl.{plain_decls}
use Rattle.signature_profile.proofs.Lists.{if_ok}
use Rattle.signature_profile.proofs.Members.{well_named_is, classes_refused}
use Rattle.signature_profile.proofs.well_named.is_well_named.Goals as goal

pub returns-in-Some : goal.returns-in-Some
returns-in-Some c =
    let known = rw c.in-Some.is at c.in_ok-classes.ensures in
    let named = well_named_is c.in-Some.classes (plain_decls c.args.decls.now) known.0 known.1 in
    if_ok c.all_well_named.result c.all_well_named.ensures (λ good e. (λ h. named.0 (e.0 h), λ h. e.1 (named.1 h)))

pub returns-in-None : goal.returns-in-None
returns-in-None c = (λ h. absurd (cc), λ w. absurd (classes_refused (plain_decls c.args.decls.now) (rw c.in-None.is at c.in_ok-classes.ensures) w))
