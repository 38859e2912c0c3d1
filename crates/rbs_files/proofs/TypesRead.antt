-- Types that were read are within the limits.
use Rattle.std.proofs.Common.{ℕ, ◌+◌, ◌≤◌, ◌≡◌, subst, List, arith}
use Rattle.rbs_terminals.specs.declared.token.Token.{Token}
use Rattle.rbs_terminals.specs.declared.token.Mark.TheVariants as mark
use Rattle.sig_model.specs.declared.ty.TypeName.{TypeName}
use Rattle.sig_model.specs.PlainTy as plain
use Rattle.sig_model.specs.PlainTy.{PlainTy, PlainTys, PlainFun}
use Rattle.sig_model.specs.Height.{height, fun_height}
use Rattle.rbs_types.specs.Capped.{capped}
use Rattle.rbs_types.specs.Grammar.{Use, Name, Spells, type, Lists, Function}
use Rattle.rbs_declarations.specs.Grammar.{unapplied, applied}
use Rattle.rbs_phrases.specs.Fronts.{Front, whole, Marked}
use Rattle.rbs_files.specs.Within.{IsType, IsFunction, IsApplied}
use Rattle.rbs_files.proofs.TypesFront.{before as before_mark, type_front, types_front, function_front}
use Rattle.rbs_files.proofs.TypesOpen.{open_since, open_inside}

pub unapplied_within : (room : ℕ) {u : Use} {n : TypeName} {ts rest : List Token} → Name u n ts rest → IsApplied room u (plain.name n plain.no_tys) ts rest
unapplied_within room d = (unapplied d, omega arith, omega arith)

-- the same text, of which these terminals were taken
module _ (before room : ℕ) (old new : Front) (kept : whole new ≡ whole old) (is : before ≡ old.opened) (few : new.opened ≤ before + room) where
  pub type_within : {t : PlainTy} → Spells type t old.rest new.rest → height t ≤ 200 → IsType room t old.rest new.rest
  type_within d low = (d, open_since before room old new kept is few (type_front d), low)

  pub function_within : {f : PlainFun} → Function f old.rest new.rest → fun_height f ≤ 200 → IsFunction room f old.rest new.rest
  function_within d low = (d, open_since before room old new kept is few (function_front d), low)

  pub applied_within : {u : Use} {n : TypeName} {us : PlainTys} {ts mid last : List Token} → Name u n ts old.rest → Marked mark.OpenSquare old.rest mid
      → Lists type mark.Comma plain.no_tys us mid last → Marked mark.CloseSquare last new.rest → height (plain.name n us) ≤ 200 → IsApplied room u (plain.name n us) ts new.rest
  applied_within {u = u} {n = n} {us = us} {ts = ts} {mid = mid} d (s, e) ds (s', e') low =
      let head = subst (λ r. Name u n ts r) e d in
      let inside = subst (λ r. Lists type mark.Comma plain.no_tys us mid r) e' ds in
      (applied s s' head inside, open_inside before room old new kept is few s mid e (before_mark (types_front inside)), low)

-- what is as low as that, as far as heights are told apart
pub low_enough : (levels h : ℕ) → levels ≡ capped h → levels ≤ 200 → h ≤ 200
low_enough levels h e l = omega (arith, e, l)
