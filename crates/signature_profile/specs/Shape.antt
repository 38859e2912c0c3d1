-- Which declarations the profile has, by their form. Which names and types stand in them is another matter.
use Rattle.std.specs.Prelude.{ℕ, Bool, true, false, not, ◌&&◌, List, [], ◌∷◌, None, Some, is_none}
use Rattle.std.specs.List.{list_any}
use Rattle.names.specs.Places.{is_among}
use Rattle.profile_words.specs.Words.{is_interface_name, keywords}
use Rattle.rbs_lexer.specs.Names.{starts_lower, is_ending}
use Rattle.sig_model.specs.PlainTy.{PlainArgs, PlainKeys, PlainRest, PlainBlock, PlainFun, no_args, more_args, no_keys, more_keys, no_rest, rest, no_block, block, function}
use Rattle.sig_model.specs.PlainMember.{PlainMethod, PlainMember, method}
use Rattle.sig_model.specs.PlainDecl.{PlainBody, PlainDecl, PlainDecls, PlainParts, no_decls, more_decls, decl, class, no_parts, inner, member}

-- ---- names

abbrev pub begins_lower : List ℕ → Bool
begins_lower [] = false
begins_lower (b ∷ w) = starts_lower b

-- The name of a method that is a plain word: a small letter or an underscore stands first, and none of the marks `?`, `!` and `=` at the end. It is no keyword of signatures or of Ruby, and no name of an interface.
abbrev pub is_plain_word : List ℕ → Bool
is_plain_word w = (begins_lower w && not (list_any is_ending w)) && (not (is_among w keywords) && not (is_interface_name w))

-- a name of one word, which isn't rooted
abbrev pub is_bare : Bool → List (List ℕ) → Bool
is_bare false (w ∷ []) = true
is_bare _ _ = false

-- ---- what is left out

abbrev pub no_item : {A : Type 0} → List A → Bool
no_item [] = true
no_item (x ∷ xs) = false

abbrev pub no_arg : PlainArgs → Bool
no_arg no_args = true
no_arg (more_args t n args) = false

abbrev pub no_key : PlainKeys → Bool
no_key no_keys = true
no_key (more_keys k n t ks) = false

abbrev pub no_rest_at : PlainRest → Bool
no_rest_at no_rest = true
no_rest_at (rest t n) = false

abbrev pub no_block_at : PlainBlock → Bool
no_block_at no_block = true
no_block_at (block n f) = false

-- ---- methods

-- positional parameters without names
abbrev pub are_unnamed : PlainArgs → Bool
are_unnamed no_args = true
are_unnamed (more_args t None args) = are_unnamed args
are_unnamed (more_args t (Some w) args) = false

-- required parameters without names, and a result
abbrev pub is_plain_function : PlainFun → Bool
is_plain_function (function required optional more trailing keys key_more blk result) =
    are_unnamed required && ((no_arg optional && (no_rest_at more && no_arg trailing)) && (no_key keys && (no_rest_at key_more && no_block_at blk)))

abbrev pub is_plain_overload : PlainMethod → Bool
is_plain_overload o = no_item o.params && is_plain_function o.fun

abbrev pub is_one_overload : List PlainMethod → Bool
is_one_overload (o ∷ []) = is_plain_overload o
is_one_overload _ = false

-- a method of the class's objects with a plain word as its name, one overload, and no visibility of its own
abbrev pub is_method : PlainMember → Bool
is_method (method vis single word overloads) = is_none vis && (not single && (is_plain_word word && is_one_overload overloads))
is_method _ = false

-- methods, and nothing else
abbrev pub are_methods : PlainParts → Bool
are_methods no_parts = true
are_methods (inner d parts) = false
are_methods (member place notes m parts) = (no_item notes.annotations && is_method m) && are_methods parts

-- ---- classes

-- a class of methods with a name of one word, and neither type parameters nor a superclass
abbrev pub is_class_body : PlainBody → Bool
is_class_body (class n params parent parts) = (is_bare n.rooted n.path && (no_item params && is_none parent)) && are_methods parts
is_class_body _ = false

abbrev pub is_class : PlainDecl → Bool
is_class (decl place notes body) = no_item notes.annotations && is_class_body body

-- classes, and nothing else
abbrev pub are_classes : PlainDecls → Bool
are_classes no_decls = true
are_classes (more_decls d ds) = is_class d && are_classes ds
