-- Names, lists, keys and parameters with one more stay writable.
use Rattle.std.specs.Prelude.{◌≡◌, refl, ℕ, Bool, true, false, not, ◌&&◌, ◌⊎◌, if◌then◌else◌, List, [], ◌∷◌, ◌++◌, Option, Some, None}
use Rattle.std.proofs.Common.{sym, subst, ap, ◌∙◌, inl, inr}
use Rattle.names.specs.Places.{same_name}
use Rattle.names.proofs.Places.{same_name-true, eq-same_name}
use Rattle.sig_model.specs.PlainTy as plain
use Rattle.sig_model.specs.PlainTy.{PlainTy, PlainTys, PlainKeys, PlainArgs, PlainRest, PlainFun, PlainBlock}
use Rattle.rbs_lexer.specs.Names.{IsUpper, IsLower}
use Rattle.rbs_types.specs.declared.state.Parameters.{Parameters}
use Rattle.rbs_types.specs.declared.state.Listed.{Listed}
use Rattle.rbs_types.specs.Plains.{and_ty, and_key, and_arg, is_new, no_ty, no_arg, no_rest_yet, no_key}
use Rattle.rbs_types.specs.Parts.{no_parameters, closed, nothing_listed, takes_positional, takes_optional, and_positional, and_optional, and_rest, and_keyword, function_of}
use Rattle.rbs_types.specs.Grammar.{Use}
use Rattle.printed_signatures.specs.Writable.{EndsName, IsPath, IsType, AreTypes, AreKeys, AreArguments, IsRest, IsParameterName, IsBlock, IsFunction, several, has_no_block}

-- ---- names

abbrev pub AreCapital : List (List ℕ) → Type 0
AreCapital [] = Unit {0}
AreCapital (w ∷ ws) = IsUpper w × AreCapital ws

pub path_ends : (u : Use) (ws : List (List ℕ)) (w : List ℕ) → AreCapital ws → EndsName u w → IsPath u (ws ++ w ∷ [])
path_ends u [] w c e = e
path_ends u (v ∷ []) w c e = (c.0, e)
path_ends u (v ∷ x ∷ ws) w c e = (c.0, path_ends u (x ∷ ws) w c.1 e)

pub capital_more : (ws : List (List ℕ)) (w : List ℕ) → AreCapital ws → IsUpper w → AreCapital (ws ++ w ∷ [])
capital_more [] w c e = (e, tt)
capital_more (v ∷ ws) w c e = (c.0, capital_more ws w c.1 e)

-- ---- lists with one more

pub types_and : (ts : PlainTys) (t : PlainTy) → AreTypes ts → IsType t → AreTypes (and_ty ts t)
types_and plain.no_tys t h i = (i, tt)
types_and (plain.more_tys u ts) t h i = (h.0, types_and ts t h.1 i)

pub arguments_and : (ts : PlainArgs) (t : PlainTy) (n : Option (List ℕ)) → AreArguments ts → IsType t → IsParameterName n → AreArguments (and_arg ts t n)
arguments_and plain.no_args t n h i j = (i, j, tt)
arguments_and (plain.more_args u m ts) t n h i j = (h.0, h.1, arguments_and ts t n h.2 i j)

-- one behind some is several
pub several_and : (ts : PlainTys) (t : PlainTy) → no_ty ts ≡ false → several (and_ty ts t) ≡ true
several_and plain.no_tys t e = absurd cc
several_and (plain.more_tys u plain.no_tys) t e = refl
several_and (plain.more_tys u (plain.more_tys v ts)) t e = refl

pub some_and : (ts : PlainTys) (t : PlainTy) → no_ty (and_ty ts t) ≡ false
some_and plain.no_tys t = refl
some_and (plain.more_tys u ts) t = refl

-- ---- keys

same_turned : (a b : List ℕ) (x y : Bool) → same_name a b ≡ x → same_name b a ≡ y → not x ≡ true → not y ≡ true
same_turned a b false false d e n = refl
same_turned a b false true d e n =
    let same : b ≡ a = same_name-true b a e in
    let also : same_name a b ≡ true = eq-same_name a b (sym same) in
    absurd cc
same_turned a b true y d e n = absurd cc

pub differs_turned : (a b : List ℕ) → not (same_name a b) ≡ true → not (same_name b a) ≡ true
differs_turned a b n = same_turned a b (same_name a b) (same_name b a) refl refl n

pub and_left : (a b : Bool) → (a && b) ≡ true → a ≡ true
and_left true b e = refl
and_left false b e = absurd cc

pub and_right : (a b : Bool) → (a && b) ≡ true → b ≡ true
and_right true b e = e
and_right false b e = absurd cc

pub and_both : (a b : Bool) → a ≡ true → b ≡ true → (a && b) ≡ true
and_both true true d e = refl
and_both true false d e = absurd cc
and_both false b d e = absurd cc

new_and : (k w : List ℕ) (needed : Bool) (t : PlainTy) (ks : PlainKeys) → is_new k ks ≡ true → not (same_name k w) ≡ true → is_new k (and_key ks w needed t) ≡ true
new_and k w needed t plain.no_keys h d = and_both _ _ d refl
new_and k w needed t (plain.more_keys j n u ks) h d = and_both _ _ (and_left (not (same_name k j)) _ h) (new_and k w needed t ks (and_right (not (same_name k j)) _ h) d)

pub keys_and : (ks : PlainKeys) (w : List ℕ) (needed : Bool) (t : PlainTy) → AreKeys ks → is_new w ks ≡ true → IsLower w → IsType t → AreKeys (and_key ks w needed t)
keys_and plain.no_keys w needed t h d l i = (l, refl, i, tt)
keys_and (plain.more_keys k n u ks) w needed t h d l i =
    (h.0, new_and k w needed t ks h.1 (differs_turned w k (and_left (not (same_name w k)) _ d)), h.2, keys_and ks w needed t h.3 (and_right (not (same_name w k)) _ d) l i)

-- ---- parameters

abbrev Trailing : PlainArgs → PlainArgs → PlainRest → Type 0
Trailing trailing optional more = (no_arg trailing ≡ true) ⊎ ((no_arg optional && no_rest_yet more) ≡ false)

pub record AreParametersSoFar (p : Parameters) : Type 0 where
  pub required : AreArguments p.required
  pub optional : AreArguments p.optional
  pub rest : IsRest p.rest
  pub trailing : AreArguments p.trailing
  pub order : Trailing p.trailing p.optional p.rest
  pub keys : AreKeys p.keys

pub none_yet : AreParametersSoFar no_parameters
none_yet = record { required = tt; optional = tt; rest = tt; trailing = tt; order = inl refl; keys = tt }

either_parameters : (b : Bool) (p q : Parameters) → (b ≡ true → AreParametersSoFar p) → (b ≡ false → AreParametersSoFar q) → AreParametersSoFar (if b then p else q)
either_parameters true p q h i = h refl
either_parameters false p q h i = i refl

pub with_positional : (p : Parameters) (t : PlainTy) (n : Option (List ℕ)) → AreParametersSoFar p → IsType t → IsParameterName n → AreParametersSoFar (and_positional p t n)
with_positional p t n h i j =
    either_parameters (no_arg p.optional && no_rest_yet p.rest) _ _
    (λ e. record { required = arguments_and p.required t n h.required i j; optional = h.optional; rest = h.rest; trailing = h.trailing; order = h.order; keys = h.keys })
    (λ e. record { required = h.required; optional = h.optional; rest = h.rest; trailing = arguments_and p.trailing t n h.trailing i j; order = inr e; keys = h.keys })

takes_no_trailing : (p : Parameters) → takes_optional p ≡ true → no_arg p.trailing ≡ true
takes_no_trailing p e = and_left (no_arg p.trailing) _ (and_right (no_rest_yet p.rest) _ e)

pub with_optional : (p : Parameters) (t : PlainTy) (n : Option (List ℕ)) → takes_optional p ≡ true → AreParametersSoFar p → IsType t → IsParameterName n → AreParametersSoFar (and_optional p t n)
with_optional p t n e h i j = record { required = h.required; optional = arguments_and p.optional t n h.optional i j; rest = h.rest; trailing = h.trailing; order = inl (takes_no_trailing p e); keys = h.keys }

pub with_rest : (p : Parameters) (t : PlainTy) (n : Option (List ℕ)) → takes_optional p ≡ true → AreParametersSoFar p → IsType t → IsParameterName n → AreParametersSoFar (and_rest p t n)
with_rest p t n e h i j = record { required = h.required; optional = h.optional; rest = (i, j); trailing = h.trailing; order = inl (takes_no_trailing p e); keys = h.keys }

pub with_keyword : (p : Parameters) (w : List ℕ) (needed : Bool) (t : PlainTy) → is_new w p.keys ≡ true → AreParametersSoFar p → IsLower w → IsType t → AreParametersSoFar (and_keyword p w needed t)
with_keyword p w needed t d h l i = record { required = h.required; optional = h.optional; rest = h.rest; trailing = h.trailing; order = h.order; keys = keys_and p.keys w needed t h.keys d l i }

pub record AreListed (l : Listed) : Type 0 where
  pub parameters : AreParametersSoFar l.parameters
  pub key_rest : IsRest l.key_rest

pub function_written : (l : Listed) (b : PlainBlock) (t : PlainTy) → AreListed l → IsBlock b → IsType t → IsFunction (function_of l b t)
function_written l b t h i j =
    let p = h.parameters in
    (p.required, p.optional, p.rest, p.trailing, p.order, p.keys, h.key_rest, i, j)
