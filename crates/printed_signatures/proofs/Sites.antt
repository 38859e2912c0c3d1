-- A printed type, with parentheses where its place needs them, is a phrase of that place.
use Rattle.std.proofs.Common.{◌≡◌, refl, sym, subst, Bool, true, false, List, [], ◌∷◌, ◌++◌, inl, inr}
use Rattle.std.specs.Prelude.{◌⊎◌, not}
use Rattle.rbs_terminals.specs.declared.token.Token.{Token}
use Rattle.rbs_terminals.specs.declared.token.Spot.{Spot}
use Rattle.rbs_terminals.specs.declared.token.Gap.{Gap}
use Rattle.rbs_terminals.specs.declared.token.Gap.TheVariants as gap
use Rattle.rbs_terminals.specs.declared.token.Mark.TheVariants as mark
use Rattle.sig_model.specs.PlainTy as plain
use Rattle.sig_model.specs.PlainTy.{PlainTy, PlainFun}
use Rattle.rbs_types.specs.Symbols.{sign, scope_follows, question_follows}
use Rattle.rbs_types.specs.Grammar.{Spells, type, inter, opt, simple, result, lone_inter, lone_opt, lone_simple, opt_of, lone_result, opt_result, paren}
use Rattle.rbs_printer.specs.Types.{in_union, in_inter, before_question, result as in_result, is_optional, result_of}
use Rattle.printed_tokens.specs.Layout as lay
use Rattle.printed_tokens.specs.Layout.{type_pieces, in_parentheses, placed}
use Rattle.printed_tokens.specs.Fits.{Fits}
use Rattle.printed_signatures.proofs.Split.{first_mark, last_mark}

-- neither a `::` nor a question mark follows
abbrev pub Quiet : List Token → Type 0
Quiet ts = (scope_follows ts ≡ false) × (question_follows ts ≡ false)

-- a question mark behind the type may belong to a part of it
abbrev pub asks : PlainTy → Bool
asks (plain.union ts) = true
asks (plain.inter ts) = true
asks (plain.fun f) = not (is_optional (result_of f))
asks _ = false

-- a question mark behind the type would not belong to a part of it, or none follows
abbrev pub Settled : PlainTy → List Token → Type 0
Settled t rest = (asks t ≡ false) ⊎ (question_follows rest ≡ false)

-- the type without parentheses, by the narrowest sort that it is
abbrev pub Bare : PlainTy → List Token → List Token → Type 0
Bare (plain.union ts) us rest = Spells type (plain.union ts) us rest
Bare (plain.inter ts) us rest = Spells inter (plain.inter ts) us rest
Bare (plain.opt t) us rest = (s : Spot) × Spells simple t us (sign mark.Question s ∷ rest)
Bare t us rest = Spells simple t us rest

-- the printed type is read back
abbrev pub Reads : PlainTy → Type 0
Reads t = (g : Gap) (ts rest : List Token) → Fits g (type_pieces t) ts rest → scope_follows rest ≡ false → Settled t rest → Bare t ts rest

bare_type : (t : PlainTy) (ts rest : List Token) → Bare t ts rest → Spells type t ts rest
bare_type (plain.union us) ts rest d = d
bare_type (plain.inter us) ts rest d = lone_inter d
bare_type (plain.opt t) ts rest (s, d) = lone_inter (lone_opt (opt_of s d))
bare_type _ ts rest d = lone_inter (lone_opt (lone_simple d))

module _ (t : PlainTy) (r : Reads t) where
  -- where any type may stand
  pub read_whole : (g : Gap) (ts rest : List Token) → Fits g (type_pieces t) ts rest → Quiet rest → Spells type t ts rest
  read_whole g ts rest f q = bare_type t ts rest (r g ts rest f q.0 (inr q.1))

  read_parentheses : (g : Gap) (ts rest : List Token) → Fits g (in_parentheses true (type_pieces t)) ts rest → Spells simple t ts rest
  read_parentheses g ts rest f =
      let (s, more, at, j, f') = first_mark g mark.Open (type_pieces t ++ lay.sign mark.Close ∷ []) ts rest f in
      let (s', inside, j') = last_mark gap.Joined (type_pieces t) mark.Close more rest f' in
      subst (λ ts. Spells simple t ts rest) (sym at) (paren s s' (read_whole gap.Joined more (sign mark.Close s' ∷ rest) inside (refl, refl)))

pub read_in_union : (t : PlainTy) → Reads t → (g : Gap) (ts rest : List Token) → Fits g (placed in_union t (type_pieces t)) ts rest → Quiet rest → Spells inter t ts rest
read_in_union (plain.union us) r g ts rest f q = lone_opt (lone_simple (read_parentheses (plain.union us) r g ts rest f))
read_in_union (plain.inter us) r g ts rest f q = r g ts rest f q.0 (inr q.1)
read_in_union (plain.opt t) r g ts rest f q = let (s, d) = r g ts rest f q.0 (inr q.1) in lone_opt (opt_of s d)
read_in_union _ r g ts rest f q = lone_opt (lone_simple (r g ts rest f q.0 (inr q.1)))

pub read_in_inter : (t : PlainTy) → Reads t → (g : Gap) (ts rest : List Token) → Fits g (placed in_inter t (type_pieces t)) ts rest → Quiet rest → Spells opt t ts rest
read_in_inter (plain.union us) r g ts rest f q = lone_simple (read_parentheses (plain.union us) r g ts rest f)
read_in_inter (plain.inter us) r g ts rest f q = lone_simple (read_parentheses (plain.inter us) r g ts rest f)
read_in_inter (plain.opt t) r g ts rest f q = let (s, d) = r g ts rest f q.0 (inr q.1) in opt_of s d
read_in_inter _ r g ts rest f q = lone_simple (r g ts rest f q.0 (inr q.1))

proc_questioned : (f : PlainFun) (b : Bool) → not (is_optional (result_of f)) ≡ b → Reads (plain.fun f) → (g : Gap) (ts rest : List Token) → Fits g (in_parentheses b (type_pieces (plain.fun f))) ts rest
    → scope_follows rest ≡ false → Spells simple (plain.fun f) ts rest
proc_questioned f true e r g ts rest h q = read_parentheses (plain.fun f) r g ts rest h
proc_questioned f false e r g ts rest h q = r g ts rest h q (inl e)

-- Before a question mark. That of the result of a proc type stands before it.
pub read_questioned : (t : PlainTy) → Reads t → (g : Gap) (ts rest : List Token) → Fits g (placed before_question t (type_pieces t)) ts rest → scope_follows rest ≡ false → Spells simple t ts rest
read_questioned (plain.union us) r g ts rest f q = read_parentheses (plain.union us) r g ts rest f
read_questioned (plain.inter us) r g ts rest f q = read_parentheses (plain.inter us) r g ts rest f
read_questioned (plain.opt t) r g ts rest f q = read_parentheses (plain.opt t) r g ts rest f
read_questioned (plain.fun h) r g ts rest f q = proc_questioned h (not (is_optional (result_of h))) refl r g ts rest f q
read_questioned _ r g ts rest f q = r g ts rest f q (inl refl)

-- a question mark behind the result would not belong to it, or none follows
abbrev pub Done : PlainTy → List Token → Type 0
Done t rest = (is_optional t ≡ true) ⊎ (question_follows rest ≡ false)

no_question : (t : PlainTy) (rest : List Token) → is_optional t ≡ false → Done t rest → question_follows rest ≡ false
no_question t rest e (inl h) = absurd (cc)
no_question t rest e (inr h) = h

pub read_result : (t : PlainTy) → Reads t → (g : Gap) (ts rest : List Token) → Fits g (placed in_result t (type_pieces t)) ts rest → scope_follows rest ≡ false → Done t rest → Spells result t ts rest
read_result (plain.union us) r g ts rest f q d = lone_result (read_parentheses (plain.union us) r g ts rest f) (no_question (plain.union us) rest refl d)
read_result (plain.inter us) r g ts rest f q d = lone_result (read_parentheses (plain.inter us) r g ts rest f) (no_question (plain.inter us) rest refl d)
read_result (plain.opt t) r g ts rest f q d = let (s, e) = r g ts rest f q (inl refl) in opt_result s e
read_result t r g ts rest f q d = let none = no_question t rest refl d in lone_result (r g ts rest f q (inr none)) none
