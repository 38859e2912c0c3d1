-- Headings that were read.
use Rattle.std.proofs.Common.{ℕ, ◌≡◌, ◌≤◌, sym, subst, List, Some, None, arith}
use Rattle.rbs_terminals.specs.declared.token.Token.{Token}
use Rattle.rbs_terminals.specs.declared.token.Mark.TheVariants as mark
use Rattle.sig_model.specs.PlainTy as plain
use Rattle.sig_model.specs.PlainTy.{PlainTy, PlainTys}
use Rattle.sig_model.specs.Height.{tallest}
use Rattle.rbs_types.specs.Plains.{and_ty}
use Rattle.rbs_types.specs.Grammar.{of_class, of_class_or_interface}
use Rattle.rbs_types.proofs.Heights.{tallest_and}
use Rattle.rbs_phrases.specs.Fronts.{Marked}
use Rattle.rbs_declarations.specs.Grammar.{no_parent, parent, SelfTypes, last_self, more_selves, no_selves, selves}
use Rattle.rbs_declarations.specs.Openness.{self_types_open}
use Rattle.rbs_files.specs.Within.{IsApplied, IsParent, IsSelves}
use Rattle.rbs_files.specs.Onward.{AreSelfTypes, GrowsSelves}

pub without_parent : (room : ℕ) (ts rest : List Token) → ts ≡ rest → IsParent room None ts rest
without_parent room ts rest e = subst (λ ts. IsParent room None ts rest) (sym e) (no_parent, omega arith, omega arith)

pub with_parent : (room : ℕ) (t : PlainTy) (ts mid rest : List Token) → Marked mark.Less ts mid → IsApplied room of_class t mid rest → IsParent room (Some t) ts rest
with_parent room t ts mid rest less h = subst (λ ts. IsParent room (Some t) ts rest) (sym less.1) (parent less.0 h.0, h.1, h.2)

pub without_selves : (room : ℕ) (ts rest : List Token) → ts ≡ rest → IsSelves room plain.no_tys ts rest
without_selves room ts rest e = subst (λ ts. IsSelves room plain.no_tys ts rest) (sym e) (no_selves, omega arith, omega arith)

pub with_selves : (room : ℕ) (us : PlainTys) (ts mid rest : List Token) → Marked mark.Colon ts mid → AreSelfTypes room plain.no_tys us mid rest → IsSelves room us ts rest
with_selves room us ts mid rest colon h = subst (λ ts. IsSelves room us ts rest) (sym colon.1) (selves colon.0 h.0, h.1, h.2)

-- one more, where a comma follows
pub more_follow : (room : ℕ) (before after : PlainTys) (t : PlainTy) (ts mid mid' : List Token) → IsApplied room of_class_or_interface t ts mid → Marked mark.Comma mid mid' → after ≡ and_ty before t
    → GrowsSelves room before after ts mid'
more_follow room before after t ts mid mid' h comma e all rest d low =
    let (named, within, high) = subst (λ (mid : List Token). IsApplied room of_class_or_interface t ts mid) comma.1 h in
    let (behind, low') = subst (λ (us : PlainTys). (w : SelfTypes us all mid' rest) × (self_types_open w ≤ room)) e (d, low) in
    (more_selves comma.0 named behind, omega arith)

-- the last one
pub none_follows : (room : ℕ) (before after : PlainTys) (t : PlainTy) (ts mid rest : List Token) → IsApplied room of_class_or_interface t ts mid → mid ≡ rest → after ≡ and_ty before t
    → (w : SelfTypes before after ts rest) × (self_types_open w ≤ room)
none_follows room before after t ts mid rest h e more =
    let (named, within, high) = subst (λ (mid : List Token). IsApplied room of_class_or_interface t ts mid) e h in
    subst (λ (us : PlainTys). (w : SelfTypes before us ts rest) × (self_types_open w ≤ room)) (sym more) (last_self named, within)

pub still_low : (before after : PlainTys) (t : PlainTy) (room : ℕ) (ts rest : List Token) → tallest before ≤ 200 → IsApplied room of_class_or_interface t ts rest → after ≡ and_ty before t → tallest after ≤ 200
still_low before after t room ts rest low h e =
    let high = h.2 in
    subst (λ (us : PlainTys). tallest us ≤ 200) (sym e) (omega (arith, tallest_and before t))
