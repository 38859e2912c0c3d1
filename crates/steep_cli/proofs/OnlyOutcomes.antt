-- Of two files one outcome alone is right, whatever was kept of the ones that are too large.
use Rattle.std.proofs.Common.{◌≡◌, ℕ, List, [], ◌∷◌, ◌++◌, length, refl, sym, ◌∙◌, ap, subst, arith}
use Rattle.std.specs.Prelude.{Option, None, Some, IfSome, Ok}
use Rattle.run_base.specs.Files.{Shelf}
use Rattle.sig_model.specs.declared.diag.Diag.{Diag}
use Rattle.diagnostics.specs.declared.lines.Source.{Source}
use Rattle.diagnostics.specs.Lines.{lines_of, summary}
use Rattle.call_outcomes.specs.declared.outcome.Outcome.{Outcome}
use Rattle.call_outcomes.specs.declared.loading.Loaded.{Loaded}
use Rattle.call_outcomes.specs.declared.loading.Loaded.TheVariants as loaded
use Rattle.call_outcomes.specs.Only.{IsOnly}
use Rattle.steep_cli.specs.Lists.{ruby_too_large, no_program, bodies, Lists, signature_too_large, no_signature, good_signature}
use Rattle.call_outcomes.specs.Loads.{IsLoaded, Loads, text_of}
use Rattle.call_outcomes.specs.Outcomes.{listed, source, list_status}
use Rattle.steep_cli.specs.Answer.{IsList, IsSecond}

abbrev pair : List ℕ → List ℕ → List ℕ → List ℕ → List Source
pair a x b y = source a x ∷ source b y ∷ []

module _ (a b x y : List ℕ) where
  -- the lines of a list don't show the text of a file that is too large
  lines_kept : (signature ruby : Loaded) (list : List Diag) → IsLoaded x signature → IsLoaded y ruby → Lists x y list
      → lines_of (pair a (text_of signature) b (text_of ruby)) list ≡ lines_of (pair a x b y) list
  lines_kept (loaded.Text s) (loaded.Text r) list is_x is_y l = ap (λ t. lines_of (pair a t b r) list) (sym is_x) ∙ ap (λ t. lines_of (pair a x b t) list) (sym is_y)
  lines_kept loaded.TooLarge ruby list large_x is_y (signature_too_large more) = refl
  lines_kept loaded.TooLarge ruby list large_x is_y (no_signature within none) = absurd (omega arith)
  lines_kept loaded.TooLarge ruby list large_x is_y (good_signature within read inner) = absurd (omega arith)
  lines_kept (loaded.Text s) loaded.TooLarge list is_x large_y (signature_too_large more) = ap (λ t. lines_of (pair a t b []) list) (sym is_x)
  lines_kept (loaded.Text s) loaded.TooLarge list is_x large_y (no_signature within none) = ap (λ t. lines_of (pair a t b []) list) (sym is_x)
  lines_kept (loaded.Text s) loaded.TooLarge list is_x large_y (good_signature within read (ruby_too_large more)) = ap (λ t. lines_of (pair a t b []) list) (sym is_x)
  lines_kept (loaded.Text s) loaded.TooLarge list is_x large_y (good_signature within read (no_program also none)) = absurd (omega arith)
  lines_kept (loaded.Text s) loaded.TooLarge list is_x large_y (good_signature within read (bodies also program found order)) = absurd (omega arith)

  pub only_listed : (signature ruby : Loaded) (list : List Diag) → IsLoaded x signature → IsLoaded y ruby → IsOnly (Lists x y) list
      → IsOnly (IsList a x b y) (listed (pair a (text_of signature) b (text_of ruby)) list)
  only_listed signature ruby list is_x is_y one =
      let lines = lines_kept signature ruby list is_x is_y one.holds in
      let same : listed (pair a (text_of signature) b (text_of ruby)) list ≡ listed (pair a x b y) list
      = ap (λ (text : List ℕ). let o : Outcome = record { out = text ++ summary 2 (length list); err = []; status = list_status list } in o) lines in
      record {
        holds = (list, one.holds, same);
        only = λ outcome other. other.2 ∙ ap (listed (pair a x b y)) (one.only other.0 other.1) ∙ sym same;
      }

  pub only_listed_of : (signature ruby : Loaded) (sources : List Source) (list : List Diag) (outcome : Outcome) → sources ≡ pair a (text_of signature) b (text_of ruby) → outcome ≡ listed sources list
      → IsLoaded x signature → IsLoaded y ruby → IsOnly (Lists x y) list → IsOnly (IsList a x b y) outcome
  only_listed_of signature ruby sources list outcome are is is_x is_y one =
      subst (IsOnly (IsList a x b y)) (sym (is ∙ ap (λ ss. listed ss list) are)) (only_listed signature ruby list is_x is_y one)

-- the second file was read, where the files tell
pub second_read : (told : Option Shelf) (a b : List ℕ) (signature ruby : Loaded) (outcome : Outcome) → IfSome told (λ shelf. Loads (shelf b) (Ok ruby))
    → ((x y : List ℕ) → IsLoaded x signature → IsLoaded y ruby → IsOnly (IsList a x b y) outcome)
    → IfSome told (λ shelf. (x : List ℕ) → IsLoaded x signature → IsOnly (IsSecond a x b (shelf b)) outcome)
second_read None a b signature ruby outcome loads one = tt
second_read (Some shelf) a b signature ruby outcome loads one = λ x is_x. go (shelf b) loads x is_x
  where
    go : (file : Option (List ℕ)) → Loads file (Ok ruby) → (x : List ℕ) → IsLoaded x signature → IsOnly (IsSecond a x b file) outcome
    go None loads x is_x = absurd loads
    go (Some y) is_y x is_x = one x y is_x is_y
