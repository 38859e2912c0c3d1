use Rattle.std.proofs.Common.{sym, ◌∙◌, ap}
use Rattle.rbs_terminals.specs.declared.token.Kind.TheVariants as kind
use Rattle.rbs_terminals.proofs.Next.{lower_is}
use Rattle.rbs_terminals.proofs.Texts.{utf8_text}
use Rattle.rbs_terminals.proofs.sorts.kind_by.Goals as goal

pub word_of-requires : goal.word_of-requires
word_of-requires c = utf8_text c.args.kind c.args.text.now c.requires.token c.requires.fit

pub returns-in_ok-word_of-in-Lower : goal.returns-in_ok-word_of-in-Lower
returns-in_ok-word_of-in-Lower c = ap (λ w. kind.Lower w) c.in_ok-word_of-in-Lower.ensures ∙ sym (lower_is c.args.kind c.args.text.now (sym c.in-Lower.is ∙ c.requires.sort))
