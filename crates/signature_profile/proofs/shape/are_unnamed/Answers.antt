use Rattle.std.proofs.Common.{rules, ◌∙◌, is_none}
use Rattle.std.proofs.lemmas.Iterator.{YieldsList-from_slice}
use Rattle.std.proofs.lemmas.Iterator.Search.{all_from_yields_List}
use Rattle.signature_profile.proofs.Shapes.{all_unnamed}
use Rattle.signature_profile.proofs.shape.are_unnamed.Goals as goal

pub returns : goal.returns
returns c = all_from_yields_List (λ a. is_none a.name) _ _ _ c.all.ensures.ran (YieldsList-from_slice c.args.args.now cc) (λ x b q k. search rules) ∙ all_unnamed c.args.args.now
