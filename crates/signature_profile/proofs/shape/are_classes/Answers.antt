use Rattle.std.proofs.Common.{rules, ◌∙◌}
use Rattle.std.proofs.lemmas.Iterator.{YieldsList-from_slice}
use Rattle.std.proofs.lemmas.Iterator.Search.{all_from_yields_List}
use Rattle.sig_model.specs.PlainDecl.{plain_decl}
use Rattle.signature_profile.specs.Shape.{is_class}
use Rattle.signature_profile.proofs.Shapes.{all_classes}
use Rattle.signature_profile.proofs.shape.are_classes.Goals as goal

pub returns : goal.returns
returns c = all_from_yields_List (λ d. is_class (plain_decl d)) _ _ _ c.all.ensures.ran (YieldsList-from_slice c.args.decls.now cc) (λ x b q k. search rules) ∙ all_classes c.args.decls.now
