use Rattle.std.proofs.Common.{◌∙◌, sym, ap}
use Rattle.std.specs.Option.{is_some}
use Rattle.names.specs.Places.{is_among}
use Rattle.profile_words.specs.Words.{value_classes}
use Rattle.signature_profile.proofs.Named.{place_found}
use Rattle.signature_profile.proofs.Members.{one_word, known_word}
use Rattle.signature_profile.proofs.well_named.is_known.Goals as goal

pub returns-else-is_value_class : goal.returns-else-is_value_class
returns-else-is_value_class c =
    known_word c.args.classes.now c.args.name.now.rooted c.args.name.now.path c.word-item.result c.is_some.result c.if-not-name.true
    (sym c.as_slice.ensures ∙ one_word c.as_slice.result.now c.word-item.result c.in-len1.len_at_least c.in-len1.len_below c.word-item.is)
    (ap (λ w. is_among w value_classes) (sym c.as_str.ensures) ∙ sym c.is_value_class.ensures ∙ c.if-is_value_class.false)
    (c.is_some.ensures ∙ ap is_some c.place_of.ensures ∙ place_found c.word-item.result c.args.classes.now)
