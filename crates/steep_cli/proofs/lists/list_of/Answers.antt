use Rattle.std.proofs.Common.{List, ℕ, subst, sym, ◌∙◌}
use Rattle.call_outcomes.specs.Only.{IsOnly}
use Rattle.steep_cli.specs.Lists.{Lists}
use Rattle.call_outcomes.specs.Loads.{IsLoaded}
use Rattle.steep_cli.proofs.OnlyLists.{only_large_signature, ok_is, ok_on}
use Rattle.steep_cli.proofs.lists.list_of.Goals as goal

pub returns-in-Text : goal.returns-in-Text
returns-in-Text c =
    ok_on c.signature_list.result
    (λ list. (text : List ℕ) → IsLoaded text c.args.ruby.now → IsOnly (Lists c.as_slice.result.now text) list)
    (λ list. (a b : List ℕ) → IsLoaded a c.args.signature.now → IsLoaded b c.args.ruby.now → IsOnly (Lists a b) list)
    c.signature_list.ensures
    (λ list listed a b loaded_a loaded_b. subst (λ text. IsOnly (Lists text b) list) (c.as_slice.ensures ∙ sym (rw c.in-Text.is at loaded_a)) (listed b loaded_b))

pub returns-in-TooLarge : goal.returns-in-TooLarge
returns-in-TooLarge c =
    ok_is c.at_first.result _ (λ list. (a b : List ℕ) → IsLoaded a c.args.signature.now → IsLoaded b c.args.ruby.now → IsOnly (Lists a b) list) c.at_first.ensures
    (λ a b loaded_a loaded_b. only_large_signature a b (rw c.in-TooLarge.is at loaded_a))
