use Rattle.std.proofs.Common.{◌∙◌, sym, ap}
use Rattle.std.specs.Option.{option_copied}
use Rattle.signature_profile.proofs.Members.{some_method, none_method}
use Rattle.signature_profile.proofs.well_named.member_method.Goals as goal

pub returns-in-Some : goal.returns-in-Some
returns-in-Some c = λ behind.
    rw c.in-Method.is (some_method c.in-Method.vis c.in-Method.single c.in-Method.name c.in-Method.overloads c.in-Some.overload.now behind (sym c.get.ensures.value ∙ ap option_copied c.in-Some.is))

pub returns-in-None : goal.returns-in-None
returns-in-None c = λ behind.
    rw c.in-Method.is (none_method c.in-Method.vis c.in-Method.single c.in-Method.name c.in-Method.overloads behind (sym c.get.ensures.value ∙ ap option_copied c.in-None.is))
