-- The heights of what is made of parts, and how the height of a whole grows with that of a part.
use Rattle.std.proofs.Common.{max, ℕ, ◌+◌, ◌≤◌, ◌≡◌, refl, ◌∙◌, ap, Bool, true, false, if◌then◌else◌, ◌&&◌, List, [], ◌∷◌, Option, arith}
use Rattle.sig_model.specs.PlainTy as plain
use Rattle.sig_model.specs.PlainTy.{PlainTy, PlainTys, PlainKeys, PlainArgs}
use Rattle.sig_model.specs.Height.{height, tallest, tallest_key, tallest_arg, block_height}
use Rattle.rbs_types.specs.declared.state.Members.{Members}
use Rattle.rbs_types.specs.declared.state.Members.TheVariants as members
use Rattle.rbs_types.specs.declared.state.Parameters.{Parameters}
use Rattle.rbs_types.specs.declared.state.Listed.{Listed}
use Rattle.rbs_types.specs.declared.state.Head.{Head}
use Rattle.rbs_types.specs.declared.state.Level.{Level}
use Rattle.rbs_types.specs.declared.state.Owner.{Owner}
use Rattle.rbs_types.specs.declared.state.Owner.TheVariants as owner
use Rattle.rbs_types.specs.declared.state.Slot.{Slot}
use Rattle.rbs_types.specs.declared.state.Slot.TheVariants as slot
use Rattle.rbs_types.specs.declared.state.Frame.{Frame}
use Rattle.rbs_types.specs.declared.state.Frame.TheVariants as frame
use Rattle.rbs_types.specs.Plains.{and_ty, and_key, and_arg, no_arg, no_rest_yet}
use Rattle.rbs_types.specs.Parts.{and_positional, and_optional, and_rest, and_keyword, all_of, function_of, ended}
use Rattle.rbs_types.specs.Machine.{joined, all_ended}
use Rattle.rbs_types.specs.Needs.{rise_over, rise_among, parameters_height, kept_height, listed_height, head_height, rise_heads, rise, owned, held, up}

-- ---- lists with one more

pub tallest_and : (ts : PlainTys) (t : PlainTy) → tallest (and_ty ts t) ≡ max (tallest ts) (height t)
tallest_and plain.no_tys t = omega arith
tallest_and (plain.more_tys u ts) t = omega (arith, tallest_and ts t)

pub tallest_key_and : (ks : PlainKeys) (w : List ℕ) (needed : Bool) (t : PlainTy) → tallest_key (and_key ks w needed t) ≡ max (tallest_key ks) (height t)
tallest_key_and plain.no_keys w needed t = omega arith
tallest_key_and (plain.more_keys k n u ks) w needed t = omega (arith, tallest_key_and ks w needed t)

pub tallest_arg_and : (ts : PlainArgs) (t : PlainTy) (n : Option (List ℕ)) → tallest_arg (and_arg ts t n) ≡ max (tallest_arg ts) (height t)
tallest_arg_and plain.no_args t n = omega arith
tallest_arg_and (plain.more_args u m ts) t n = omega (arith, tallest_arg_and ts t n)

-- ---- parameters with one more

either_height : (b : Bool) (p q : Parameters) (h : ℕ) → parameters_height p ≡ h → parameters_height q ≡ h → parameters_height (if b then p else q) ≡ h
either_height true p q h d e = d
either_height false p q h d e = e

pub positional_height : (p : Parameters) (t : PlainTy) (n : Option (List ℕ)) → parameters_height (and_positional p t n) ≡ max (parameters_height p) (height t)
positional_height p t n = either_height (no_arg p.optional && no_rest_yet p.rest) _ _ _ (omega (arith, tallest_arg_and p.required t n)) (omega (arith, tallest_arg_and p.trailing t n))

pub optional_height : (p : Parameters) (t : PlainTy) (n : Option (List ℕ)) → parameters_height (and_optional p t n) ≡ max (parameters_height p) (height t)
optional_height p t n = omega (arith, tallest_arg_and p.optional t n)

pub rest_height_and : (p : Parameters) (t : PlainTy) (n : Option (List ℕ)) → parameters_height (and_rest p t n) ≡ max (kept_height p slot.Rest) (height t)
rest_height_and p t n = omega arith

pub keyword_height : (p : Parameters) (w : List ℕ) (needed : Bool) (t : PlainTy) → parameters_height (and_keyword p w needed t) ≡ max (parameters_height p) (height t)
keyword_height p w needed t = omega (arith, tallest_key_and p.keys w needed t)

pub all_height : (p : Parameters) (x : Slot) (t : PlainTy) (n : Option (List ℕ)) → listed_height (all_of p x t n) ≡ max (kept_height p x) (height t)
all_height p slot.Positional t n = omega (arith, positional_height p t n)
all_height p slot.Optional t n = omega (arith, optional_height p t n)
all_height p slot.Rest t n = omega arith
all_height p slot.KeyRest t n = omega arith
all_height p (slot.Key w needed) t n = omega (arith, keyword_height p w needed t)

-- ---- functions

pub ended_height : (h : Head) (t : PlainTy) → height (ended h t) ≡ max (head_height h) (height t) + 1
ended_height h t = omega arith

pub block_function_height : (l : Listed) (needed : Bool) (t : PlainTy) → block_height (plain.block needed (function_of l plain.no_block t)) ≡ max (listed_height l) (height t)
block_function_height l needed t = omega arith

pub all_ended_height : (hs : List Head) (t : PlainTy) → height (all_ended hs t) ≡ rise_heads hs (height t)
all_ended_height [] t = refl
all_ended_height (h ∷ hs) t = all_ended_height hs (ended h t) ∙ ap (rise_heads hs) (ended_height h t)

-- ---- unions and intersections

pub joined_union : (us : PlainTys) (t : PlainTy) → height (joined plain.union us t) ≡ rise_over us (height t)
joined_union plain.no_tys t = refl
joined_union (plain.more_tys u us) t = omega (arith, tallest_and (plain.more_tys u us) t)

pub joined_inter : (us : PlainTys) (t : PlainTy) → height (joined plain.inter us t) ≡ rise_over us (height t)
joined_inter plain.no_tys t = refl
joined_inter (plain.more_tys u us) t = omega (arith, tallest_and (plain.more_tys u us) t)

-- one more member must follow
pub rise_over_and : (us : PlainTys) (t : PlainTy) → rise_over us (height t) ≤ rise_over (and_ty us t) 1
rise_over_and plain.no_tys t = omega arith
rise_over_and (plain.more_tys u us) t = omega (arith, tallest_and us t)

-- ---- a whole is as high at least where its part is higher

pub rise_over_mono : (us : PlainTys) (a b : ℕ) → a ≤ b → rise_over us a ≤ rise_over us b
rise_over_mono plain.no_tys a b h = h
rise_over_mono (plain.more_tys u us) a b h = omega arith

pub rise_among_mono : (ms : Members) (a b : ℕ) → a ≤ b → rise_among ms a ≤ rise_among ms b
rise_among_mono (members.Operands us is) a b h = rise_over_mono us _ _ (rise_over_mono is a b h)
rise_among_mono members.Result a b h = h
rise_among_mono members.Closed a b h = h

pub rise_heads_mono : (hs : List Head) (a b : ℕ) → a ≤ b → rise_heads hs a ≤ rise_heads hs b
rise_heads_mono [] a b h = h
rise_heads_mono (f ∷ hs) a b h = rise_heads_mono hs _ _ (omega arith)

pub rise_mono : (level : Level) (a b : ℕ) → a ≤ b → rise level a ≤ rise level b
rise_mono level a b h = rise_among_mono level.members _ _ (rise_heads_mono level.heads a b h)

pub owned_mono : (o : Owner) (a b : ℕ) → a ≤ b → owned o a ≤ owned o b
owned_mono (owner.Function level) a b h = rise_mono level _ _ (omega arith)
owned_mono (owner.Block needed outer level) a b h = rise_mono level _ _ (omega arith)

pub held_mono : (f : Frame) (a b : ℕ) → a ≤ b → held f a ≤ held f b
held_mono (frame.Paren outer) a b h = rise_mono outer a b h
held_mono (frame.Arguments n done outer) a b h = rise_mono outer _ _ (omega arith)
held_mono (frame.Tuple done outer) a b h = rise_mono outer _ _ (omega arith)
held_mono (frame.Record done key needed outer) a b h = rise_mono outer _ _ (omega arith)
held_mono (frame.Parameter before x owner) a b h = owned_mono owner _ _ (omega arith)
held_mono (frame.Block needed inner outer level) a b h = rise_mono level _ _ (omega arith)

pub up_mono : (frames : List Frame) (a b : ℕ) → a ≤ b → up frames a ≤ up frames b
up_mono [] a b h = h
up_mono (f ∷ frames) a b h = up_mono frames _ _ (held_mono f a b h)
