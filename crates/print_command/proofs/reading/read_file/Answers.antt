use Rattle.std.proofs.Common.{◌∙◌, sym, subst, ℕ, List}
use Rattle.std.proofs.lemmas.Result.{IfOk-weaker}
use Rattle.call_outcomes.specs.Loads.{IsLoaded}
use Rattle.print_command.specs.declared.reading.Reading.{Reading}
use Rattle.print_command.specs.Faults.{too_large}
use Rattle.print_command.specs.Reads.{IsRead}
use Rattle.print_command.proofs.reading.read_file.Goals as goal

pub returns-in-Text : goal.returns-in-Text
returns-in-Text c =
    IfOk-weaker c.read_text.result (IsRead c.args.file c.as_slice.result.now) (λ (r : Reading). (bytes : List ℕ) → IsLoaded bytes c.args.loaded.now → IsRead c.args.file bytes r)
    (λ r read bytes loaded. subst (λ (text : List ℕ). IsRead c.args.file text r) (c.as_slice.ensures ∙ sym (rw c.in-Text.is at loaded)) read) c.read_text.ensures

pub returns-in-TooLarge : goal.returns-in-TooLarge
returns-in-TooLarge c = λ bytes loaded. subst (IsRead c.args.file bytes) (sym c.refused.ensures) (too_large (rw c.in-TooLarge.is at loaded))
