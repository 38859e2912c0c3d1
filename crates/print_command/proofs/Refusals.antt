-- How a file is read, from what its text answers.
use Rattle.std.proofs.Common.{◌≡◌, refl, sym, ◌∙◌, ap, subst, ℕ, ◌⊎◌, inl, inr, List, Err}
use Rattle.sig_model.specs.declared.place.Place.{Place}
use Rattle.sig_model.specs.declared.diag.DiagId.TheVariants as id
use Rattle.rbs_lexer.specs.Division.{span}
use Rattle.rbs_parser.specs.declared.refused.ParseRefused.TheVariants as parsed
use Rattle.rbs_parser.specs.Texts.{AnswersFile}
use Rattle.print_command.specs.declared.reading.Reading.{Reading}
use Rattle.print_command.specs.declared.reading.Reading.TheVariants as reading
use Rattle.print_command.specs.Faults.{fault_at, Refuses, too_large, past_limit, no_signature}
use Rattle.print_command.specs.Reads.{fault_in, IsRead}

module _ (file : ℕ) (bytes : List ℕ) (place : Place) (r : Reading) where
  pub syntax_read : AnswersFile file bytes (Err (parsed.Syntax place)) → r ≡ reading.Refused (fault_in place id.SignatureSyntaxError) → IsRead file bytes r
  syntax_read (at, place_is, short, wrong, none) is =
      subst (IsRead file bytes) (sym is) (subst (λ (p : Place). Refuses file bytes (fault_in p id.SignatureSyntaxError)) (sym place_is) (no_signature short wrong))

  pub limit_read : AnswersFile file bytes (Err (parsed.Limit place)) → r ≡ reading.Refused (fault_in place id.StrictLimit) → IsRead file bytes r
  limit_read (at, place_is, inl large, none) is =
      subst (IsRead file bytes) (sym is)
      (subst (λ (p : Place). Refuses file bytes (fault_in p id.StrictLimit)) (sym place_is) (subst (λ (at : ℕ). Refuses file bytes (fault_at file at id.StrictLimit)) (sym large.1) (too_large large.0)))
  limit_read (at, place_is, inr wrong, none) is =
      subst (IsRead file bytes) (sym is) (subst (λ (p : Place). Refuses file bytes (fault_in p id.StrictLimit)) (sym place_is) (past_limit wrong.0 wrong.1))
