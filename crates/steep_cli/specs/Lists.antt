-- What a check of a signature file and a Ruby file lists.
use Rattle.std.specs.Prelude.{◌≡◌, ℕ, ◌<◌, ◌≤◌, List, [], ◌∷◌, length, Option, None, Some}
use Rattle.sig_model.specs.PlainDecl.{PlainDecls}
use Rattle.sig_model.specs.declared.diag.Diag.{Diag}
use Rattle.sig_model.specs.declared.diag.DiagId.{DiagId}
use Rattle.sig_model.specs.declared.diag.DiagId.TheVariants as id
use Rattle.diagnostics.specs.Order.{IsOrderOf}
use Rattle.signature_profile.specs.Profile.{IsSignature}
use Rattle.ruby_reader.specs.PlainTree.{PlainProgram}
use Rattle.ruby_reader.specs.Grammar.{IsRuby}
use Rattle.body_check.specs.Table.{classes_of}
use Rattle.body_check.specs.Matching.{Matches}
use Rattle.body_check.specs.Faults.{OfProgram}
use Rattle.call_outcomes.specs.Only.{IsOnly}
use Rattle.call_outcomes.specs.Loads.{limit}

-- a fault of a whole file, at its first byte
abbrev pub at_first : ℕ → DiagId → List Diag
at_first file fault = record { place = record { file = file; start = 0; end = 0 }; id = fault; args = [] } ∷ []

-- the bytes are a program for these declarations: they open these classes, and define just what is declared
pub record IsProgram (ds : PlainDecls) (p : PlainProgram) (bytes : List ℕ) : Type 0 where
  pub written : IsRuby p bytes
  pub matches : Matches (classes_of ds) p

-- what is listed of a Ruby file, where the signature file is good
pub data RubyLists (ds : PlainDecls) (bytes : List ℕ) : List Diag → Type 0 where
  ruby_too_large : limit < length bytes → RubyLists ds bytes (at_first 3 id.StrictLimit)
  no_program : length bytes ≤ limit → ((p : PlainProgram) → IsProgram ds p bytes → ⊥) → RubyLists ds bytes (at_first 3 id.UnsupportedSyntax)
  bodies : {p : PlainProgram} {found list : List Diag} → length bytes ≤ limit → IsProgram ds p bytes → OfProgram 3 (classes_of ds) p found → IsOrderOf found list → RubyLists ds bytes list

-- what is listed of both: the signature file's faults come first, and where there are some, nothing is said of the Ruby file
pub data Lists (signature ruby : List ℕ) : List Diag → Type 0 where
  signature_too_large : limit < length signature → Lists signature ruby (at_first 2 id.StrictLimit)
  no_signature : length signature ≤ limit → ((ds : PlainDecls) → IsSignature 2 ds signature → ⊥) → Lists signature ruby (at_first 2 id.SignatureSyntaxError)
  good_signature : {ds : PlainDecls} {list : List Diag} → length signature ≤ limit → IsSignature 2 ds signature → RubyLists ds ruby list → Lists signature ruby list

-- what reading a program answers: its faults, where the bytes are one program for these declarations, and nothing where they are none
abbrev pub AnswersProgram : PlainDecls → List ℕ → Option (List Diag) → Type 0
AnswersProgram ds bytes None = (p : PlainProgram) → IsProgram ds p bytes → ⊥
AnswersProgram ds bytes (Some list) = (p : PlainProgram) × IsProgram ds p bytes × IsOnly (OfProgram 3 (classes_of ds) p) list × ((q : PlainProgram) → IsProgram ds q bytes → q ≡ p)
