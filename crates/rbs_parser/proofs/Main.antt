-- What comes of the terminals of a text comes of the text.
use Rattle.std.proofs.Common.{ℕ, ◌≡◌, refl, sym, ◌∙◌, ap, subst, ◌≤◌, inr, List, [], ◌∷◌, ◌++◌, append-nil, length, Ok, Err}
use Rattle.sig_model.specs.declared.ty.Ty.{Ty}
use Rattle.sig_model.specs.declared.decl.Decl.{Decl}
use Rattle.sig_model.specs.PlainTy.{PlainTy}
use Rattle.sig_model.specs.PlainDecl.{PlainDecls, plain_decls}
use Rattle.rbs_lexer.specs.declared.token.SigToken.{SigToken}
use Rattle.rbs_lexer.specs.Division.{End, whole, stray, past, IsDivided}
use Rattle.rbs_terminals.specs.declared.token.Token.{Token}
use Rattle.rbs_terminals.specs.declared.token.Spot.{Spot}
use Rattle.rbs_terminals.specs.declared.token.Kind.TheVariants as kind
use Rattle.rbs_terminals.specs.Terminals.{terminals}
use Rattle.rbs_types.specs.declared.reading.Refused.{Refused}
use Rattle.rbs_types.specs.declared.reading.Refused.TheVariants as fault
use Rattle.rbs_types.specs.Symbols.{token}
use Rattle.rbs_types.specs.Limits.{IsText as IsTypeText}
use Rattle.rbs_types.specs.Answers.{Answers as AnswersTypeOf}
use Rattle.rbs_types.proofs.Main.{types_are_spelled_once}
use Rattle.rbs_types.proofs.Strays.{past_unfit, stray_unwritten as type_not_stray}
use Rattle.rbs_declarations.specs.Limits.{IsText as IsFileText}
use Rattle.rbs_declarations.specs.Answers.{Answers as AnswersFileOf}
use Rattle.rbs_declarations.proofs.Main.{files_are_spelled_once}
use Rattle.rbs_declarations.proofs.Strays.{stray_unwritten as file_not_stray}
use Rattle.rbs_parser.specs.Texts.{limit, stop_at, stop_behind, all_terminals, refusal, IsTextOf, IsFile, IsType, AnswersFile, AnswersType}

-- the terminals of tokens, with the one at which the bytes stop being tokens
pub terminals_are : (bytes : List ℕ) (us ts : List SigToken) (e : End) (before stop : List Token) → us ≡ ts → before ≡ terminals bytes us → stop ≡ stop_behind us e → before ++ stop ≡ all_terminals bytes ts e
terminals_are bytes us ts e before stop same is stops =
    ap (λ before. before ++ stop) is ∙ ap (λ stop. terminals bytes us ++ stop) stops ∙ ap (λ us. all_terminals bytes us e) same

-- In a file, where a text of terminals ends neither with a byte that begins no token nor with an integer past 64 bits.
module _ (file : ℕ) {X : Type 0} (IsText : X → List Token → Type 0)
    (no_stray : (x : X) (ts : List Token) (s : Spot) → IsText x (ts ++ token kind.Stray s ∷ []) → ⊥)
    (no_past : (x : X) (ts : List Token) (s : Spot) → IsText x (ts ++ token kind.PastInteger s ∷ []) → ⊥) where
  -- the text of the bytes, said of their terminals
  of_terminals : (ts : List SigToken) (e : End) (bytes : List ℕ) → IsDivided file ts e bytes → (x : X) → IsTextOf file (IsText x) bytes → IsText x (all_terminals bytes ts e)
  of_terminals ts e bytes d x h =
      let (short, us, divides, text) = h in
      let same = d.only us whole divides in
      subst (λ e. IsText x (all_terminals bytes ts e)) same.1 (subst (IsText x) (sym (append-nil (terminals bytes ts))) (subst (λ us. IsText x (terminals bytes us)) same.0 text))

  -- and the other way round
  of_bytes : (ts : List SigToken) (e : End) (bytes : List ℕ) → IsDivided file ts e bytes → length bytes ≤ limit → (x : X) → IsText x (all_terminals bytes ts e) → IsTextOf file (IsText x) bytes
  of_bytes ts whole bytes d short x text = (short, ts, d.divided, subst (IsText x) (append-nil (terminals bytes ts)) text)
  of_bytes ts (stray at) bytes d short x text = absurd (no_stray x (terminals bytes ts) (stop_at ts kind.Stray at).spot text)
  of_bytes ts (past at) bytes d short x text = absurd (no_past x (terminals bytes ts) (stop_at ts kind.PastInteger at).spot text)

-- In the file of this number.
module _ (file : ℕ) where
  -- ---- declarations

  file_there : (ts : List SigToken) (e : End) (bytes : List ℕ) → IsDivided file ts e bytes → (ds : PlainDecls) → IsFile file ds bytes → IsFileText file ds (all_terminals bytes ts e)
  file_there = of_terminals file (IsFileText file) (λ ds ts s h. file_not_stray file ds ts s h.written) (λ ds ts s h. past_unfit ts s h.small)

  is_file : (ts : List SigToken) (e : End) (bytes : List ℕ) → IsDivided file ts e bytes → length bytes ≤ limit → (ds : PlainDecls) → IsFileText file ds (all_terminals bytes ts e) → IsFile file ds bytes
  is_file = of_bytes file (IsFileText file) (λ ds ts s h. file_not_stray file ds ts s h.written) (λ ds ts s h. past_unfit ts s h.small)

  pub files_once : (ts : List SigToken) (e : End) (bytes : List ℕ) → IsDivided file ts e bytes → (ds es : PlainDecls) → IsFile file ds bytes → IsFile file es bytes → ds ≡ es
  files_once ts e bytes d ds es h k = files_are_spelled_once file ds es (all_terminals bytes ts e) (file_there ts e bytes d ds h).written (file_there ts e bytes d es k).written

  pub file_read : (ts : List SigToken) (e : End) (bytes : List ℕ) → IsDivided file ts e bytes → length bytes ≤ limit → (ds : List Decl) → AnswersFileOf file (all_terminals bytes ts e) (Ok ds) → AnswersFile file bytes (Ok ds)
  file_read ts e bytes d short ds a = (is_file ts e bytes d short _ a.0, λ es h. a.1 es (file_there ts e bytes d es h))

  pub file_refused : (ts : List SigToken) (e : End) (bytes : List ℕ) → IsDivided file ts e bytes → length bytes ≤ limit → (r : Refused) → AnswersFileOf file (all_terminals bytes ts e) (Err r)
      → AnswersFile file bytes (Err (refusal file r))
  file_refused ts e bytes d short (fault.Syntax at) a = (at, refl, short, (ts, e, d.divided, a), λ es h. a.1.no_text es (file_there ts e bytes d es h))
  file_refused ts e bytes d short (fault.Limit at) a = (at, refl, inr (short, (ts, e, d.divided, a)), λ es h. a.1.no_text es (file_there ts e bytes d es h))
  file_refused ts e bytes d short fault.NoMemory a = tt

  -- ---- a type

  type_there : (ts : List SigToken) (e : End) (bytes : List ℕ) → IsDivided file ts e bytes → (t : PlainTy) → IsType file t bytes → IsTypeText t (all_terminals bytes ts e)
  type_there = of_terminals file IsTypeText (λ t ts s h. type_not_stray t ts s h.written) (λ t ts s h. past_unfit ts s h.small)

  is_type : (ts : List SigToken) (e : End) (bytes : List ℕ) → IsDivided file ts e bytes → length bytes ≤ limit → (t : PlainTy) → IsTypeText t (all_terminals bytes ts e) → IsType file t bytes
  is_type = of_bytes file IsTypeText (λ t ts s h. type_not_stray t ts s h.written) (λ t ts s h. past_unfit ts s h.small)

  pub types_once : (ts : List SigToken) (e : End) (bytes : List ℕ) → IsDivided file ts e bytes → (t u : PlainTy) → IsType file t bytes → IsType file u bytes → t ≡ u
  types_once ts e bytes d t u h k = types_are_spelled_once t u (all_terminals bytes ts e) (type_there ts e bytes d t h).written (type_there ts e bytes d u k).written

  pub type_read : (ts : List SigToken) (e : End) (bytes : List ℕ) → IsDivided file ts e bytes → length bytes ≤ limit → (t : Ty) → AnswersTypeOf (all_terminals bytes ts e) (Ok t) → AnswersType file bytes (Ok t)
  type_read ts e bytes d short t a = (is_type ts e bytes d short _ a.0, λ u h. a.1 u (type_there ts e bytes d u h))

  pub type_refused : (ts : List SigToken) (e : End) (bytes : List ℕ) → IsDivided file ts e bytes → length bytes ≤ limit → (r : Refused) → AnswersTypeOf (all_terminals bytes ts e) (Err r)
      → AnswersType file bytes (Err (refusal file r))
  type_refused ts e bytes d short (fault.Syntax at) a = (at, refl, short, (ts, e, d.divided, a), λ u h. a.1.no_text u (type_there ts e bytes d u h))
  type_refused ts e bytes d short (fault.Limit at) a = (at, refl, inr (short, (ts, e, d.divided, a)), λ u h. a.1.no_text u (type_there ts e bytes d u h))
  type_refused ts e bytes d short fault.NoMemory a = tt

  -- ---- declarations that were found to be spelled

  pub file_found : (ts : List Token) (ds : List Decl) → IsFileText file (plain_decls ds) ts → AnswersFileOf file ts (Ok ds)
  file_found ts ds text = (text, λ es h. files_are_spelled_once file es (plain_decls ds) ts h.written text.written)
