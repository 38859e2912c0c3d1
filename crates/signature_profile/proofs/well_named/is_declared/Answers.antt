use Rattle.sig_model.specs.PlainTyLaws.{plain_ty-Name}
use Rattle.signature_profile.proofs.Members.{bare_declared}
use Rattle.signature_profile.proofs.well_named.is_declared.Goals as goal

pub returns-else-is_empty : goal.returns-else-is_empty
returns-else-is_empty c =
    rw (c.in-Name.is, plain_ty-Name) (λ h. absurd (cc), λ h. c.is_empty.ensures.1 (bare_declared c.args.classes.now c.in-Name.name c.in-Name.args h))
