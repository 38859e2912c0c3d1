-- Where declarations stand plays no part in their printed form, their height and what they need open.
use Rattle.std.proofs.Common.{max, ℕ, suc, ◌+◌, ◌≡◌, refl, sym, ◌∙◌, ap, ap₂, List, ◌++◌, arith}
use Rattle.sig_model.specs.PlainDecl as decl
use Rattle.sig_model.specs.PlainDecl.{PlainDecl, PlainBody, PlainParts, PlainDecls}
use Rattle.rbs_declarations.specs.Heights.{params_height, option_height, member_height, body_height, decl_height, parts_height, decls_height}
use Rattle.rbs_printer.specs.Texts.{line}
use Rattle.rbs_printer.specs.Declarations.{notes_lines, body_lines, decl_lines, parts_lines, printed}
use Rattle.printed_signatures.specs.Nesting.{body_nesting, decl_nesting, parts_nesting, decls_nesting}
use Rattle.printed_signatures.specs.Unplaced.{unplaced_body, unplaced_decl, unplaced_parts, unplaced}

mutual
  same_body : (depth : ℕ) (b : PlainBody) → body_lines depth (unplaced_body b) ≡ body_lines depth b
  same_body depth (decl.class n ps t parts) = rw (same_parts (suc depth) parts) refl
  same_body depth (decl.module n ps ts parts) = rw (same_parts (suc depth) parts) refl
  same_body depth (decl.iface n ps parts) = rw (same_parts (suc depth) parts) refl
  same_body depth (decl.alias n ps t) = refl
  same_body depth (decl.const n t) = refl

  same_decl : (depth : ℕ) (d : PlainDecl) → decl_lines depth (unplaced_decl d) ≡ decl_lines depth d
  same_decl depth (decl.decl place notes body) = ap (λ w. notes_lines depth notes ++ w) (same_body depth body)

  same_parts : (depth : ℕ) (ps : PlainParts) → parts_lines depth (unplaced_parts ps) ≡ parts_lines depth ps
  same_parts depth decl.no_parts = refl
  same_parts depth (decl.inner d ps) = ap₂ (λ (v w : List ℕ). v ++ w) (same_decl depth d) (same_parts depth ps)
  same_parts depth (decl.member place notes m ps) = rw (same_parts depth ps) refl

same_form : (ds : PlainDecls) → printed (unplaced ds) ≡ printed ds
same_form decl.no_decls = refl
same_form (decl.more_decls d ds) = ap₂ (λ (v w : List ℕ). v ++ w) (same_decl 0 d) (same_form ds)

mutual
  body_as_high : (b : PlainBody) → body_height (unplaced_body b) ≡ body_height b
  body_as_high (decl.class n ps t parts) = ap (max (max (params_height ps) (option_height t))) (parts_as_high parts)
  body_as_high (decl.module n ps ts parts) = rw (parts_as_high parts) refl
  body_as_high (decl.iface n ps parts) = ap (max (params_height ps)) (parts_as_high parts)
  body_as_high (decl.alias n ps t) = refl
  body_as_high (decl.const n t) = refl

  decl_as_high : (d : PlainDecl) → decl_height (unplaced_decl d) ≡ decl_height d
  decl_as_high (decl.decl place notes body) = body_as_high body

  parts_as_high : (ps : PlainParts) → parts_height (unplaced_parts ps) ≡ parts_height ps
  parts_as_high decl.no_parts = refl
  parts_as_high (decl.inner d ps) = ap₂ max (decl_as_high d) (parts_as_high ps)
  parts_as_high (decl.member place notes m ps) = ap (max (member_height m)) (parts_as_high ps)

as_high : (ds : PlainDecls) → decls_height (unplaced ds) ≡ decls_height ds
as_high decl.no_decls = refl
as_high (decl.more_decls d ds) = ap₂ max (decl_as_high d) (as_high ds)

-- declarations that are equal, places aside
module _ (ds es : PlainDecls) (e : unplaced es ≡ unplaced ds) where
  pub same_printed : printed es ≡ printed ds
  same_printed = sym (same_form es) ∙ ap printed e ∙ same_form ds

  pub same_height : decls_height es ≡ decls_height ds
  same_height = sym (as_high es) ∙ ap decls_height e ∙ as_high ds
