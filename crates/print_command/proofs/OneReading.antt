-- A file spells declarations or is refused, in one way.
use Rattle.std.proofs.Common.{◌≡◌, refl, sym, ◌∙◌, ap, subst, ℕ, ◌+◌, ◌<◌, ◌≤◌, List, [], ◌∷◌, ◌++◌, append-nil, length, take, arith}
use Rattle.sig_model.specs.PlainDecl.{PlainDecls}
use Rattle.sig_model.specs.declared.diag.Diag.{Diag}
use Rattle.sig_model.specs.declared.diag.DiagId.TheVariants as id
use Rattle.rbs_lexer.specs.declared.token.SigToken.{SigToken}
use Rattle.rbs_lexer.specs.Division.{End, whole, Divides, IsDivided}
use Rattle.rbs_lexer.proofs.OneDivision.{divides_only}
use Rattle.rbs_terminals.specs.declared.token.Token.{Token}
use Rattle.rbs_terminals.specs.Terminals.{terminals}
use Rattle.rbs_types.specs.Answers.{last_end}
use Rattle.viable_prefixes.specs.Prefixes.{IsFault, Begins}
use Rattle.rbs_declarations.specs.Limits.{IsText, IsWritten, IsFaultyFile}
use Rattle.rbs_declarations.specs.Answers.{IsFaultAt}
use Rattle.rbs_parser.specs.Texts.{limit, all_terminals, IsFile, GoesWrong}
use Rattle.rbs_parser.proofs.Main.{files_once}
use Rattle.print_command.specs.Faults.{fault_at, Refuses, too_large, past_limit, no_signature}

module _ {X T : Type 0} (Text Written : X → List T → Type 0) (ts : List T) where
  -- a text goes wrong behind one front alone
  fault_place : (n m : ℕ) (a b : Type 0) → IsFault Text Written ts n a → IsFault Text Written ts m b → n ≡ m
  fault_place n m a b f g = omega (arith, g.longest n f.in_text f.begins, f.longest m g.in_text g.begins)

  -- and passes a limit there or not
  fault_limit : (n m : ℕ) (a b : Type 0) → IsFault Text Written ts n a → IsFault Text Written ts m b → a → b
  fault_limit n m a b f g x = g.past_limit.1 (subst (λ k. (k < length ts) × Begins Written (take (k + 1) ts)) (fault_place n m a b f g) (f.past_limit.0 x))

-- In the file of this number.
module _ (file : ℕ) (bytes : List ℕ) where
  -- the bytes go wrong at one place alone, and pass a limit there or not
  wrong_once : (at to : ℕ) (a b : Type 0) → GoesWrong file (λ ts. IsFaultAt file ts at a) bytes → GoesWrong file (λ ts. IsFaultAt file ts to b) bytes → (at ≡ to) × (a → b)
  wrong_once at to a b h k =
      let (ts, e, d, f) = h in
      let (us, i, c, g) = k in
      let same = divides_only file d c in
      let found : IsFaultAt file (all_terminals bytes ts e) to b = subst (λ us. IsFaultAt file (all_terminals bytes us e) to b) same.0 (subst (λ i. IsFaultAt file (all_terminals bytes us i) to b) same.1 g) in
      let front = fault_place (IsText file) (IsWritten file) (all_terminals bytes ts e) f.0 found.0 a b f.1 found.1 in
      (f.2 ∙ ap (λ n. last_end (take n (all_terminals bytes ts e))) front ∙ sym found.2, fault_limit (IsText file) (IsWritten file) (all_terminals bytes ts e) f.0 found.0 a b f.1 found.1)

  -- bytes that go wrong spell no declarations
  wrong_spells_none : (at : ℕ) (a : Type 0) (ds : PlainDecls) → GoesWrong file (λ ts. IsFaultAt file ts at a) bytes → IsFile file ds bytes → ⊥
  wrong_spells_none at a ds h k =
      let (ts, e, d, f) = h in
      let (short, us, c, text) = k in
      let same = divides_only file d c in
      f.1.no_text ds (subst (λ us. IsText file ds (all_terminals bytes us e)) same.0
      (subst (λ i. IsText file ds (all_terminals bytes us i)) same.1 (subst (IsText file ds) (sym (append-nil (terminals bytes us))) text)))

  pub refused_spells_none : (d : Diag) (ds : PlainDecls) → Refuses file bytes d → IsFile file ds bytes → ⊥
  refused_spells_none d ds (too_large large) k = let short = k.0 in absurd (omega arith)
  refused_spells_none d ds (past_limit {at = at} short wrong) k = wrong_spells_none at (Unit {0}) ds wrong k
  refused_spells_none d ds (no_signature {at = at} short wrong) k = wrong_spells_none at ⊥ ds wrong k

  pub spelled_once : (ds es : PlainDecls) → IsFile file ds bytes → IsFile file es bytes → ds ≡ es
  spelled_once ds es h k =
      let (short, ts, d, text) = h in
      files_once file ts whole bytes (record { divided = d; only = λ us f c. divides_only file d c }) ds es h k

  pub refused_once : (d e : Diag) → Refuses file bytes d → Refuses file bytes e → d ≡ e
  refused_once d e (too_large large) (too_large more) = refl
  refused_once d e (too_large large) (past_limit short wrong) = absurd (omega arith)
  refused_once d e (too_large large) (no_signature short wrong) = absurd (omega arith)
  refused_once d e (past_limit short wrong) (too_large large) = absurd (omega arith)
  refused_once d e (past_limit {at = at} short wrong) (past_limit {at = to} also other) =
      ap (λ n. fault_at file n id.StrictLimit) (wrong_once at to (Unit {0}) (Unit {0}) wrong other).0
  refused_once d e (past_limit {at = at} short wrong) (no_signature {at = to} also other) = absurd ((wrong_once at to (Unit {0}) ⊥ wrong other).1 tt)
  refused_once d e (no_signature short wrong) (too_large large) = absurd (omega arith)
  refused_once d e (no_signature {at = at} short wrong) (past_limit {at = to} also other) = absurd ((wrong_once to at (Unit {0}) ⊥ other wrong).1 tt)
  refused_once d e (no_signature {at = at} short wrong) (no_signature {at = to} also other) =
      ap (λ n. fault_at file n id.SignatureSyntaxError) (wrong_once at to ⊥ ⊥ wrong other).0
