-- The lines of declarations that can be written are told apart.
use Rattle.std.proofs.Common.{ℕ, suc, ◌≡◌, refl, Bool, true, false, List, [], ◌∷◌, ◌++◌, inl, inr}
use Rattle.std.specs.Prelude.{Option, Some, None}
use Rattle.sig_model.specs.declared.decl.Notes.{Notes}
use Rattle.sig_model.specs.PlainMember.{PlainMember, method, attr, mixin, alias, ivar, section}
use Rattle.sig_model.specs.PlainDecl as decl
use Rattle.sig_model.specs.PlainDecl.{PlainDecl, PlainBody, PlainParts, PlainDecls}
use Rattle.rbs_terminals.specs.declared.token.Keyword.TheVariants as a_keyword
use Rattle.printed_tokens.specs.Pieces.{Piece, blank, tok, Line, Apart, begins_with_token, IsApart, AreApart}
use Rattle.printed_tokens.specs.Pieces as pieces
use Rattle.printed_tokens.specs.Layout.{sign, where_set, name_pieces, path_pieces, vis_before, self_before, member_pieces, annotation_piece, annotated, noted, plain_line, end_line, heading, inner_lines, decl_lines, parts_lines, all_lines}
use Rattle.printed_signatures.specs.Writable.{IsPath, IsName, AreAnnotations, AreComments, AreNotes, IsMember, IsInterfaceMember, IsBody, IsDeclaration, AreParts, AreInterfaceParts, AreWritable}
use Rattle.printed_signatures.proofs.NamesApart.{keyword_apart}
use Rattle.printed_signatures.proofs.MembersApart.{member_apart, interface_member_apart, heading_apart, annotation_apart}
use Rattle.rbs_types.specs.Grammar.{Use, of_class}
use Rattle.rbs_terminals.specs.declared.token.Mark.TheVariants as mark

-- ---- lines begin with a token

begins_before : (ps qs : List Piece) → begins_with_token ps ≡ true → begins_with_token (ps ++ qs) ≡ true
begins_before [] qs e = absurd cc
begins_before (blank ∷ ps) qs e = absurd cc
begins_before (tok k w ∷ ps) qs e = refl

path_begins : (u : Use) (ws : List (List ℕ)) → IsPath u ws → begins_with_token (path_pieces ws) ≡ true
path_begins u [] h = absurd h
path_begins u (w ∷ []) h = refl
path_begins u (w ∷ v ∷ ws) h = refl

member_begins : (m : PlainMember) → begins_with_token (member_pieces m) ≡ true
member_begins (method None single w ms) = refl
member_begins (method (Some v) single w ms) = refl
member_begins (attr None k w t) = refl
member_begins (attr (Some v) k w t) = refl
member_begins (mixin k t) = refl
member_begins (alias new old) = refl
member_begins (ivar true w t) = refl
member_begins (ivar false w t) = refl
member_begins (section v) = refl

heading_begins : (b : PlainBody) → IsBody b → begins_with_token (heading b) ≡ true
heading_begins (decl.class n ps t parts) h = refl
heading_begins (decl.module n ps ts parts) h = refl
heading_begins (decl.iface n ps parts) h = refl
heading_begins (decl.alias n ps t) h = refl
heading_begins (decl.const n t) h = begins_before (name_pieces n) _ (rooted n.rooted)
  where
    rooted : (r : Bool) → begins_with_token (where_set r (sign mark.Scope ∷ []) ++ path_pieces n.path) ≡ true
    rooted true = refl
    rooted false = path_begins of_class n.path h.0

-- ---- lines

comments_are : (ws : List (List ℕ)) → AreComments ws → pieces.AreComments ws
comments_are [] h = tt
comments_are (w ∷ ws) h = (h.0, comments_are ws h.1)

lines_append : (ks ls : List Line) → AreApart ks → AreApart ls → AreApart (ks ++ ls)
lines_append [] ls h i = i
lines_append (k ∷ ks) ls h i = (h.0, lines_append ks ls h.1 i)

annotated_apart : (depth : ℕ) (comments texts : List (List ℕ)) (ps : List Piece) → AreComments comments → AreAnnotations texts → begins_with_token ps ≡ true → Apart ps 10 → AreApart (annotated depth comments texts ps)
annotated_apart depth comments [] ps c a f h = (record { first = f; comments = comments_are comments c; pieces = h }, tt)
annotated_apart depth comments (w ∷ ws) ps c a f h = (record { first = refl; comments = comments_are comments c; pieces = annotation_apart w a.0 }, annotated_apart depth [] ws ps tt a.1 f h)

noted_apart : (depth : ℕ) (n : Notes) (ps : List Piece) → AreNotes n → begins_with_token ps ≡ true → Apart ps 10 → AreApart (noted depth n ps)
noted_apart depth n ps h f i = annotated_apart depth n.comments n.annotations ps h.0 h.1 f i

end_apart : (depth : ℕ) → IsApart (end_line depth)
end_apart depth = record { first = refl; comments = tt; pieces = keyword_apart a_keyword.End [] 10 refl tt }

mutual
  inner_apart : (depth : ℕ) (b : PlainBody) → IsBody b → AreApart (inner_lines depth b)
  inner_apart depth (decl.class n ps t parts) h = lines_append (parts_lines (suc depth) parts) (end_line depth ∷ []) (parts_apart (suc depth) parts h.3) (end_apart depth, tt)
  inner_apart depth (decl.module n ps ts parts) h = lines_append (parts_lines (suc depth) parts) (end_line depth ∷ []) (parts_apart (suc depth) parts h.3) (end_apart depth, tt)
  inner_apart depth (decl.iface n ps parts) h = lines_append (parts_lines (suc depth) parts) (end_line depth ∷ []) (interface_parts_apart (suc depth) parts h.2) (end_apart depth, tt)
  inner_apart depth (decl.alias n ps t) h = tt
  inner_apart depth (decl.const n t) h = tt

  pub decl_apart : (depth : ℕ) (d : PlainDecl) → IsDeclaration d → AreApart (decl_lines depth d)
  decl_apart depth (decl.decl place notes body) h = lines_append (noted depth notes (heading body)) (inner_lines depth body) (noted_apart depth notes (heading body) h.0 (heading_begins body h.1) (heading_apart body h.1)) (inner_apart depth body h.1)

  parts_apart : (depth : ℕ) (ps : PlainParts) → AreParts ps → AreApart (parts_lines depth ps)
  parts_apart depth decl.no_parts h = tt
  parts_apart depth (decl.inner d ps) h = lines_append (decl_lines depth d) (parts_lines depth ps) (decl_apart depth d h.0) (parts_apart depth ps h.1)
  parts_apart depth (decl.member place notes m ps) h =
      lines_append (noted depth notes (member_pieces m)) (parts_lines depth ps) (noted_apart depth notes (member_pieces m) h.0 (member_begins m) (member_apart m h.1)) (parts_apart depth ps h.2)

  interface_parts_apart : (depth : ℕ) (ps : PlainParts) → AreInterfaceParts ps → AreApart (parts_lines depth ps)
  interface_parts_apart depth decl.no_parts h = tt
  interface_parts_apart depth (decl.inner d ps) h = absurd h
  interface_parts_apart depth (decl.member place notes m ps) h =
      lines_append (noted depth notes (member_pieces m)) (parts_lines depth ps) (noted_apart depth notes (member_pieces m) h.0 (member_begins m) (interface_member_apart m h.1)) (interface_parts_apart depth ps h.2)

pub all_apart : (ds : PlainDecls) → AreWritable ds → AreApart (all_lines ds)
all_apart decl.no_decls h = tt
all_apart (decl.more_decls d ds) h = lines_append (decl_lines 0 d) (all_lines ds) (decl_apart 0 d h.0) (all_apart ds h.1)
