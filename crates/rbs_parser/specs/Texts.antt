-- Which bytes spell declarations or a type, and where bytes that spell none go wrong.
use Rattle.std.specs.Prelude.{◌≡◌, ℕ, ◌<◌, ◌≤◌, ◌⊎◌, List, [], ◌∷◌, ◌++◌, length, Result, Ok, Err}
use Rattle.sig_model.specs.declared.ty.Ty.{Ty}
use Rattle.sig_model.specs.declared.decl.Decl.{Decl}
use Rattle.sig_model.specs.PlainTy.{PlainTy, plain_ty}
use Rattle.sig_model.specs.PlainDecl.{PlainDecls, plain_decls}
use Rattle.rbs_lexer.specs.declared.token.SigToken.{SigToken}
use Rattle.rbs_lexer.specs.Division.{span, End, whole, stray, past, Divides}
use Rattle.rbs_terminals.specs.declared.token.Token.{Token}
use Rattle.rbs_terminals.specs.declared.token.Gap.TheVariants as gap
use Rattle.rbs_terminals.specs.declared.token.Kind.{Kind}
use Rattle.rbs_terminals.specs.declared.token.Kind.TheVariants as kind
use Rattle.rbs_terminals.specs.Terminals.{terminals}
use Rattle.rbs_types.specs.declared.reading.Refused.{Refused}
use Rattle.rbs_types.specs.declared.reading.Refused.TheVariants as fault
use Rattle.rbs_types.specs.Limits.{IsText as IsTypeText}
use Rattle.rbs_types.specs.Answers.{IsFaultAt as IsTypeFaultAt}
use Rattle.rbs_declarations.specs.Limits.{IsText as IsFileText}
use Rattle.rbs_declarations.specs.Answers.{IsFaultAt as IsFileFaultAt}
use Rattle.rbs_parser.specs.declared.refused.ParseRefused.{ParseRefused}
use Rattle.rbs_parser.specs.declared.refused.ParseRefused.TheVariants as refused

-- the most bytes of a text
abbrev pub limit : ℕ
limit = 1048576

-- where the last of these tokens ends, 0 where there is none
abbrev pub end_of_last : List SigToken → ℕ
end_of_last [] = 0
end_of_last (t ∷ []) = t.place.end
end_of_last (t ∷ u ∷ ts) = end_of_last (u ∷ ts)

abbrev pub stop_at : List SigToken → Kind → ℕ → Token
stop_at ts k at = record { kind = k; spot = record { before = end_of_last ts; gap = gap.Line; start = at; end = at; comments = [] } }

-- The terminal behind these tokens at which the bytes stop being tokens, where they do: a byte that begins none, or an integer past 64 bits.
abbrev pub stop_behind : List SigToken → End → List Token
stop_behind ts whole = []
stop_behind ts (stray at) = stop_at ts kind.Stray at ∷ []
stop_behind ts (past at) = stop_at ts kind.PastInteger at ∷ []

-- the terminals of bytes that divide so
abbrev pub all_terminals : List ℕ → List SigToken → End → List Token
all_terminals bytes ts e = terminals bytes ts ++ stop_behind ts e

-- the bytes are too many, and nothing of them is read
abbrev pub IsTooLong : List ℕ → ℕ → Type 0
IsTooLong bytes at = (limit < length bytes) × (at ≡ 0)

-- the refusal of a text of the file of this number, where its terminals are refused so
abbrev pub refusal : ℕ → Refused → ParseRefused
refusal file (fault.Syntax at) = refused.Syntax (span file at at)
refusal file (fault.Limit at) = refused.Limit (span file at at)
refusal file fault.NoMemory = refused.NoMemory

-- In the file of this number.
module _ (file : ℕ) where
  -- The bytes are the text of these terminals: they divide into tokens, whose terminals these are.
  abbrev pub IsTextOf : (List Token → Type 0) → List ℕ → Type 0
  IsTextOf Spelled bytes = (length bytes ≤ limit) × (ts : List SigToken) × Divides file 0 ts whole bytes × Spelled (terminals bytes ts)

  -- the bytes spell the declarations of a file, within the limits
  abbrev pub IsFile : PlainDecls → List ℕ → Type 0
  IsFile ds bytes = IsTextOf (IsFileText file ds) bytes

  -- the bytes spell the type, within the limits
  abbrev pub IsType : PlainTy → List ℕ → Type 0
  IsType t bytes = IsTextOf (IsTypeText t) bytes

  -- `IsFault`, said of terminals, holds of those up to the place where the bytes stop being tokens.
  abbrev pub GoesWrong : (List Token → Type 0) → List ℕ → Type 0
  GoesWrong IsFault bytes = (ts : List SigToken) × (e : End) × Divides file 0 ts e bytes × IsFault (all_terminals bytes ts e)

  -- The one list of declarations that the bytes spell, or where they go wrong, and whether a limit is passed there. Memory may run out.
  abbrev pub AnswersFile : List ℕ → Result (List Decl) ParseRefused → Type 0
  AnswersFile bytes (Ok ds) = IsFile (plain_decls ds) bytes × ((es : PlainDecls) → IsFile es bytes → es ≡ plain_decls ds)
  AnswersFile bytes (Err (refused.Syntax place)) = (at : ℕ) × (place ≡ span file at at) × (length bytes ≤ limit) × GoesWrong (λ ts. IsFileFaultAt file ts at ⊥) bytes × ((es : PlainDecls) → IsFile es bytes → ⊥)
  AnswersFile bytes (Err (refused.Limit place)) =
      (at : ℕ) × (place ≡ span file at at) × (IsTooLong bytes at ⊎ ((length bytes ≤ limit) × GoesWrong (λ ts. IsFileFaultAt file ts at (Unit {0})) bytes)) × ((es : PlainDecls) → IsFile es bytes → ⊥)
  AnswersFile bytes (Err refused.NoMemory) = Unit {0}

  -- The one type that the bytes spell, or where they go wrong, in the same way.
  abbrev pub AnswersType : List ℕ → Result Ty ParseRefused → Type 0
  AnswersType bytes (Ok t) = IsType (plain_ty t) bytes × ((u : PlainTy) → IsType u bytes → u ≡ plain_ty t)
  AnswersType bytes (Err (refused.Syntax place)) = (at : ℕ) × (place ≡ span file at at) × (length bytes ≤ limit) × GoesWrong (λ ts. IsTypeFaultAt ts at ⊥) bytes × ((u : PlainTy) → IsType u bytes → ⊥)
  AnswersType bytes (Err (refused.Limit place)) =
      (at : ℕ) × (place ≡ span file at at) × (IsTooLong bytes at ⊎ ((length bytes ≤ limit) × GoesWrong (λ ts. IsTypeFaultAt ts at (Unit {0})) bytes)) × ((u : PlainTy) → IsType u bytes → ⊥)
  AnswersType bytes (Err refused.NoMemory) = Unit {0}
