-- Of two texts one list alone is right.
use Rattle.std.proofs.Common.{◌≡◌, ℕ, ◌<◌, ◌≤◌, List, length, refl, sym, subst, arith}
use Rattle.std.specs.Prelude.{Option, None, Some, Result, Ok, Err, IfOk, MatchOption}
use Rattle.body_check.specs.declared.table.ClassMethods.{ClassMethods}
use Rattle.sig_model.specs.PlainDecl.{PlainDecls}
use Rattle.sig_model.specs.declared.diag.Diag.{Diag}
use Rattle.sig_model.specs.declared.diag.DiagId.TheVariants as id
use Rattle.diagnostics.specs.Order.{IsOrdered, SameDiagnostics, IsOrderOf}
use Rattle.signature_profile.specs.Profile.{IsSignature}
use Rattle.ruby_reader.specs.declared.tree.Program.{Program}
use Rattle.ruby_reader.specs.PlainLaws.{plain_program}
use Rattle.ruby_reader.specs.Answers.{Answers}
use Rattle.body_check.specs.Table.{classes_of}
use Rattle.body_check.specs.Matching.{Matches}
use Rattle.body_check.specs.Faults.{OfProgram}
use Rattle.call_outcomes.specs.Only.{IsOnly}
use Rattle.call_outcomes.specs.Loads.{limit}
use Rattle.steep_cli.specs.Lists.{at_first, RubyLists, ruby_too_large, no_program, bodies, Lists, signature_too_large, no_signature, good_signature, AnswersProgram}

module _ (ds : PlainDecls) (bytes : List ℕ) where
  -- the bytes are the text of one program, and it matches or not
  pub no_program_unread : Answers bytes None → AnswersProgram ds bytes None
  no_program_unread none = λ p program. none p program.written

  pub no_program_unmatched : (p : Program) → Answers bytes (Some p) → (Matches (classes_of ds) (plain_program p) → ⊥) → AnswersProgram ds bytes None
  no_program_unmatched p read differs = λ q program. differs (subst (Matches (classes_of ds)) (read.1 q program.written) program.matches)

  pub program_matched : (p : Program) (list : List Diag) → Answers bytes (Some p) → Matches (classes_of ds) (plain_program p) → IsOnly (OfProgram 3 (classes_of ds) (plain_program p)) list → AnswersProgram ds bytes (Some list)
  program_matched p list read same one = (plain_program p, record { written = read.0; matches = same }, one, λ q program. read.1 q program.written)

  pub only_large : limit < length bytes → IsOnly (RubyLists ds bytes) (at_first 3 id.StrictLimit)
  only_large large = record { holds = ruby_too_large large; only = λ y other. go y other }
    where
      go : (y : List Diag) → RubyLists ds bytes y → y ≡ at_first 3 id.StrictLimit
      go y (ruby_too_large more) = refl
      go y (no_program within none) = absurd (omega arith)
      go y (bodies within program found order) = absurd (omega arith)

  pub only_none : length bytes ≤ limit → AnswersProgram ds bytes None → IsOnly (RubyLists ds bytes) (at_first 3 id.UnsupportedSyntax)
  only_none within none = record { holds = no_program within none; only = λ y other. go y other }
    where
      go : (y : List Diag) → RubyLists ds bytes y → y ≡ at_first 3 id.UnsupportedSyntax
      go y (ruby_too_large more) = absurd (omega arith)
      go y (no_program also other) = refl
      go y (bodies {p = p} also program found order) = absurd (none p program)

  pub only_bodies : (found list : List Diag) → length bytes ≤ limit → AnswersProgram ds bytes (Some found) → IsOrderOf found list
      → ((other : List Diag) → IsOrdered other → SameDiagnostics found other → other ≡ list) → IsOnly (RubyLists ds bytes) list
  only_bodies found list within answer order one = record { holds = bodies within answer.1 answer.2.holds order; only = λ y other. go y other }
    where
      go : (y : List Diag) → RubyLists ds bytes y → y ≡ list
      go y (ruby_too_large more) = absurd (omega arith)
      go y (no_program also none) = absurd (none answer.0 answer.1)
      go y (bodies {p = q} {found = others} also program listed ordered) =
          let same : others ≡ found = answer.2.only others (subst (λ r. OfProgram 3 (classes_of ds) r others) (answer.3 q program) listed) in
          one y ordered.ordered (subst (λ ds. SameDiagnostics ds y) same ordered.same)

module _ (signature ruby : List ℕ) where
  pub only_large_signature : limit < length signature → IsOnly (Lists signature ruby) (at_first 2 id.StrictLimit)
  only_large_signature large = record { holds = signature_too_large large; only = λ y other. go y other }
    where
      go : (y : List Diag) → Lists signature ruby y → y ≡ at_first 2 id.StrictLimit
      go y (signature_too_large more) = refl
      go y (no_signature within none) = absurd (omega arith)
      go y (good_signature within read list) = absurd (omega arith)

  pub only_no_signature : length signature ≤ limit → ((ds : PlainDecls) → IsSignature 2 ds signature → ⊥) → IsOnly (Lists signature ruby) (at_first 2 id.SignatureSyntaxError)
  only_no_signature within none = record { holds = no_signature within none; only = λ y other. go y other }
    where
      go : (y : List Diag) → Lists signature ruby y → y ≡ at_first 2 id.SignatureSyntaxError
      go y (signature_too_large more) = absurd (omega arith)
      go y (no_signature also other) = refl
      go y (good_signature {ds = ds} also read list) = absurd (none ds read)

  pub only_good_signature : (ds : PlainDecls) (list : List Diag) → length signature ≤ limit → IsSignature 2 ds signature → ((es : PlainDecls) → IsSignature 2 es signature → es ≡ ds)
      → IsOnly (RubyLists ds ruby) list → IsOnly (Lists signature ruby) list
  only_good_signature ds list within read one listed = record { holds = good_signature within read listed.holds; only = λ y other. go y other }
    where
      go : (y : List Diag) → Lists signature ruby y → y ≡ list
      go y (signature_too_large more) = absurd (omega arith)
      go y (no_signature also none) = absurd (none ds read)
      go y (good_signature {ds = es} also other inner) = listed.only y (subst (λ fs. RubyLists fs ruby y) (one es other) inner)

-- What holds of the one value that a result may have, or of each.
pub ok_is : {X E : Type 0} (r : Result X E) (x : X) (Q : X → Type 0) → IfOk r (λ y. y ≡ x) → Q x → IfOk r Q
ok_is (Ok y) x Q is holds = subst Q (sym is) holds
ok_is (Err e) x Q is holds = tt

pub ok_on : {X E : Type 0} (r : Result X E) (P Q : X → Type 0) → IfOk r P → ((x : X) → P x → Q x) → IfOk r Q
ok_on (Ok x) P Q holds on = on x holds
ok_on (Err e) P Q holds on = tt

pub answers_checked : {E : Type 0} (ds : PlainDecls) (bytes : List ℕ) (p : Program) (r : Result (Option (List Diag)) E) (cs : List ClassMethods) → Answers bytes (Some p) → cs ≡ classes_of ds
    → IfOk r (λ found. MatchOption found (Matches cs (plain_program p) → ⊥)
    (λ list. Matches cs (plain_program p) × OfProgram 3 cs (plain_program p) list × ((other : List Diag) → OfProgram 3 cs (plain_program p) other → other ≡ list)))
    → IfOk r (AnswersProgram ds bytes)
answers_checked {E = E} ds bytes p r cs read cs_are checked = go r (subst (λ cs'. IfOk r (λ found. Checked cs' found)) cs_are checked)
  where
    Checked : List ClassMethods → Option (List Diag) → Type 0
    Checked cs found = MatchOption found (Matches cs (plain_program p) → ⊥)
        (λ list. Matches cs (plain_program p) × OfProgram 3 cs (plain_program p) list × ((other : List Diag) → OfProgram 3 cs (plain_program p) other → other ≡ list))

    go : (r : Result (Option (List Diag)) E) → IfOk r (λ found. Checked (classes_of ds) found) → IfOk r (AnswersProgram ds bytes)
    go (Ok None) differs = no_program_unmatched ds bytes p read differs
    go (Ok (Some list)) same = program_matched ds bytes p list read same.0 (record { holds = same.1; only = same.2 })
    go (Err e) h = tt
