-- When the declarations of a file make it a signature of the profile.
use Rattle.std.proofs.Common.{ℕ, ◌≡◌, Bool, true, false, sym, subst, List}
use Rattle.rbs_lexer.specs.declared.token.SigToken.{SigToken}
use Rattle.rbs_lexer.specs.Division.{End, whole, IsDivided}
use Rattle.rbs_terminals.specs.Terminals.{terminals}
use Rattle.sig_model.specs.declared.decl.Decl.{Decl}
use Rattle.sig_model.specs.PlainDecl.{PlainDecls, plain_decls}
use Rattle.rbs_parser.specs.Texts.{IsFile}
use Rattle.signature_profile.specs.Shape.{are_classes}
use Rattle.signature_profile.specs.Parentheses.{opens_behind_colons}
use Rattle.signature_profile.specs.Profile.{IsWellNamed, IsSignature}

module _ (file : ℕ) (tokens : List SigToken) (end : End) (ds : PlainDecls) (bytes : List ℕ) (divided : IsDivided file tokens end bytes) where
  -- the parentheses of a text are those of its only tokens
  pub refuses_parentheses : opens_behind_colons false (terminals bytes tokens) ≡ false → IsSignature file ds bytes → ⊥
  refuses_parentheses f s =
      let ts = s.parenthesized.0 in
      let same : ts ≡ tokens = (divided.only ts whole s.parenthesized.1).0 in
      let good : opens_behind_colons false (terminals bytes tokens) ≡ true = subst (λ us. opens_behind_colons false (terminals bytes us) ≡ true) same s.parenthesized.2 in
      cc

  pub refuses_shape : are_classes ds ≡ false → IsSignature file ds bytes → ⊥
  refuses_shape f s = let good = s.shaped in cc

  -- all four hold
  pub makes_signature : IsFile file ds bytes → are_classes ds ≡ true → opens_behind_colons false (terminals bytes tokens) ≡ true → IsWellNamed ds → IsSignature file ds bytes
  makes_signature read shaped opens named =
      let ts = read.1 in
      let same : ts ≡ tokens = (divided.only ts whole read.2).0 in
      record {
        read = read;
        shaped = shaped;
        parenthesized = (ts, read.2, subst (λ us. opens_behind_colons false (terminals bytes us) ≡ true) (sym same) opens);
        well_named = named;
      }

-- Where the only declarations of a file don't make it a signature, it is none.
pub refuses_only : (file : ℕ) (bytes : List ℕ) (decls : List Decl) → ((es : PlainDecls) → IsFile file es bytes → es ≡ plain_decls decls) → (good : Bool) → good ≡ false
    → (IsSignature file (plain_decls decls) bytes → good ≡ true) → (ds : PlainDecls) → IsSignature file ds bytes → ⊥
refuses_only file bytes decls only good bad holds ds s = let g = holds (subst (λ es. IsSignature file es bytes) (only ds s.read) s) in cc
