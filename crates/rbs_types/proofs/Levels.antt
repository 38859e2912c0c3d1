-- What a height rises to on the way out is capped alike whether it is capped before or not.
use Rattle.std.proofs.Common.{ℕ, ◌≡◌, ◌+◌, sym, ◌∙◌, ap, max, List, [], ◌∷◌, ◌++◌, reverse, arith}
use Rattle.std.proofs.lemmas.List.{reverse-append, reverse-reverse}
use Rattle.sig_model.specs.PlainTy as plain
use Rattle.sig_model.specs.PlainTy.{PlainTys}
use Rattle.sig_model.specs.Height.{tallest, tallest_key}
use Rattle.rbs_types.specs.declared.state.Members.{Members}
use Rattle.rbs_types.specs.declared.state.Members.TheVariants as members
use Rattle.rbs_types.specs.declared.state.Head.{Head}
use Rattle.rbs_types.specs.declared.state.Level.{Level}
use Rattle.rbs_types.specs.declared.state.Owner.{Owner}
use Rattle.rbs_types.specs.declared.state.Owner.TheVariants as owner
use Rattle.rbs_types.specs.declared.state.Frame.{Frame}
use Rattle.rbs_types.specs.declared.state.Frame.TheVariants as frame
use Rattle.rbs_types.specs.Capped.{capped}
use Rattle.rbs_types.specs.Needs.{rise_over, rise_among, rise_heads, rise, owned, held, up, head_height, listed_height, kept_height, frame_open, frames_open}

-- whatever is capped alike before is capped alike behind
along : (F : ℕ → ℕ) → ((h : ℕ) → capped (F (capped h)) ≡ capped (F h)) → (m n : ℕ) → capped m ≡ capped n → capped (F m) ≡ capped (F n)
along F same m n e = sym (same m) ∙ ap (λ (k : ℕ). capped (F k)) e ∙ same n

capped_rise : (a h : ℕ) → capped (max a (capped h) + 1) ≡ capped (max a h + 1)
capped_rise a h = omega arith

over_capped : (us : PlainTys) (h : ℕ) → capped (rise_over us (capped h)) ≡ capped (rise_over us h)
over_capped plain.no_tys h = omega arith
over_capped (plain.more_tys u us) h = capped_rise (tallest (plain.more_tys u us)) h

among_capped : (ms : Members) (h : ℕ) → capped (rise_among ms (capped h)) ≡ capped (rise_among ms h)
among_capped (members.Operands us is) h = along (rise_over us) (over_capped us) (rise_over is (capped h)) (rise_over is h) (over_capped is h)
among_capped members.Result h = omega arith
among_capped members.Closed h = omega arith

heads_capped : (hs : List Head) (h : ℕ) → capped (rise_heads hs (capped h)) ≡ capped (rise_heads hs h)
heads_capped [] h = omega arith
heads_capped (f ∷ hs) h = along (rise_heads hs) (heads_capped hs) (max (head_height f) (capped h) + 1) (max (head_height f) h + 1) (capped_rise (head_height f) h)

rise_capped : (level : Level) (h : ℕ) → capped (rise level (capped h)) ≡ capped (rise level h)
rise_capped level h = along (rise_among level.members) (among_capped level.members) (rise_heads level.heads (capped h)) (rise_heads level.heads h) (heads_capped level.heads h)

owned_capped : (x : Owner) (h : ℕ) → capped (owned x (capped h)) ≡ capped (owned x h)
owned_capped (owner.Function level) h = along (rise level) (rise_capped level) (max (capped h) 1 + 1) (max h 1 + 1) (omega arith)
owned_capped (owner.Block needed outer level) h =
    let o : ℕ = listed_height outer in
    along (rise level) (rise_capped level) (max o (max (capped h) 1) + 1) (max o (max h 1) + 1) (block_rise o h)
  where
    block_rise : (o h : ℕ) → capped (max o (max (capped h) 1) + 1) ≡ capped (max o (max h 1) + 1)
    block_rise o h = omega arith

held_capped : (f : Frame) (h : ℕ) → capped (held f (capped h)) ≡ capped (held f h)
held_capped (frame.Paren outer) h = rise_capped outer h
held_capped (frame.Arguments n done outer) h = along (rise outer) (rise_capped outer) (max (tallest done) (capped h) + 1) (max (tallest done) h + 1) (capped_rise (tallest done) h)
held_capped (frame.Tuple done outer) h = along (rise outer) (rise_capped outer) (max (tallest done) (capped h) + 1) (max (tallest done) h + 1) (capped_rise (tallest done) h)
held_capped (frame.Record done key needed outer) h =
    along (rise outer) (rise_capped outer) (max (tallest_key done) (capped h) + 1) (max (tallest_key done) h + 1) (capped_rise (tallest_key done) h)
held_capped (frame.Parameter before x owner) h = along (owned owner) (owned_capped owner) (max (kept_height before x) (capped h)) (max (kept_height before x) h) (capped_beside (kept_height before x) h)
  where
    capped_beside : (a h : ℕ) → capped (max a (capped h)) ≡ capped (max a h)
    capped_beside a h = omega arith
held_capped (frame.Block needed inner outer level) h =
    let i : ℕ = listed_height inner in
    let o : ℕ = listed_height outer in
    along (rise level) (rise_capped level) (max o (max (max i (capped h)) 1) + 1) (max o (max (max i h) 1) + 1) (block_rise o i h)
  where
    block_rise : (o i h : ℕ) → capped (max o (max (max i (capped h)) 1) + 1) ≡ capped (max o (max (max i h) 1) + 1)
    block_rise o i h = omega arith

up_capped : (frames : List Frame) (h : ℕ) → capped (up frames (capped h)) ≡ capped (up frames h)
up_capped [] h = omega arith
up_capped (f ∷ frames) h = along (up frames) (up_capped frames) (held f (capped h)) (held f h) (held_capped f h)

-- for the code, which has capped heights at hand

pub over_at : (us : PlainTys) (m n : ℕ) → m ≡ capped n → capped (rise_over us m) ≡ capped (rise_over us n)
over_at us m n e = ap (λ (k : ℕ). capped (rise_over us k)) e ∙ over_capped us n

pub among_at : (ms : Members) (m n : ℕ) → m ≡ capped n → capped (rise_among ms m) ≡ capped (rise_among ms n)
among_at ms m n e = ap (λ (k : ℕ). capped (rise_among ms k)) e ∙ among_capped ms n

pub rise_at : (level : Level) (m n : ℕ) → m ≡ capped n → capped (rise level m) ≡ capped (rise level n)
rise_at level m n e = ap (λ (k : ℕ). capped (rise level k)) e ∙ rise_capped level n

pub owned_at : (x : Owner) (m n : ℕ) → m ≡ capped n → capped (owned x m) ≡ capped (owned x n)
owned_at x m n e = ap (λ (k : ℕ). capped (owned x k)) e ∙ owned_capped x n

pub up_at : (frames : List Frame) (m n : ℕ) → m ≡ capped n → capped (up frames m) ≡ capped (up frames n)
up_at frames m n e = ap (λ (k : ℕ). capped (up frames k)) e ∙ up_capped frames n

-- a step down a list from its end

reverse_push : {A : Type 0} (xs : List A) (x : A) → reverse (xs ++ x ∷ []) ≡ x ∷ reverse xs
reverse_push xs x = reverse-append xs (x ∷ [])

pub heads_step : (all rest : List Head) (f : Head) (m n : ℕ) → all ≡ rest ++ f ∷ [] → m ≡ capped (max (head_height f) n + 1) → capped (rise_heads (reverse rest) m) ≡ capped (rise_heads (reverse all) n)
heads_step all rest f m n e d =
    ap (λ (k : ℕ). capped (rise_heads (reverse rest) k)) d
    ∙ heads_capped (reverse rest) (max (head_height f) n + 1)
    ∙ ap (λ (hs : List Head). capped (rise_heads hs n)) (sym (ap reverse e ∙ reverse_push rest f))

pub up_step : (all rest : List Frame) (f : Frame) (m n : ℕ) → all ≡ rest ++ f ∷ [] → m ≡ capped (held f n) → capped (up (reverse rest) m) ≡ capped (up (reverse all) n)
up_step all rest f m n e d =
    ap (λ (k : ℕ). capped (up (reverse rest) k)) d
    ∙ up_capped (reverse rest) (held f n)
    ∙ ap (λ (fs : List Frame). capped (up fs n)) (sym (ap reverse e ∙ reverse_push rest f))

pub open_step : (all rest : List Frame) (f : Frame) → all ≡ rest ++ f ∷ [] → frames_open (reverse all) ≡ frame_open f + frames_open (reverse rest)
open_step all rest f e = ap frames_open (ap reverse e ∙ reverse_push rest f)

pub ruleset levels = (over_at, among_at, rise_at, owned_at, up_at, heads_step, up_step, open_step, reverse-reverse)
