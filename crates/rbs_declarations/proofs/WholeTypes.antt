-- The tokens that finish a type lead its reader to a state where the type is whole, and which takes nothing that may stand behind it.
use Rattle.std.proofs.Common.{ℕ, ◌≤◌, ◌≡◌, refl, sym, ◌∙◌, ap, List, [], ◌∷◌, ◌++◌, Option, Some, None, length, arith}
use Rattle.rbs_terminals.specs.declared.token.Token.{Token}
use Rattle.sig_model.specs.PlainTy as plain
use Rattle.sig_model.specs.PlainTy.{PlainTy, PlainFun}
use Rattle.sig_model.specs.Height.{height}
use Rattle.rbs_types.specs.declared.state.State.{State}
use Rattle.rbs_types.specs.Grammar.{a_function}
use Rattle.rbs_types.specs.Machine.{start_function, next, final}
use Rattle.rbs_types.specs.Depth.{surely, OpenAtMost}
use Rattle.rbs_types.specs.Needs.{need, depth, reach}
use Rattle.rbs_types.specs.Limits.{IsSmall}
use Rattle.rbs_types.proofs.Through.{through, rests, taken}
use Rattle.rbs_types.proofs.Needs.{need_final}
use Rattle.rbs_types.proofs.Depths.{depth_next, reach_final}
use Rattle.rbs_types.proofs.Sound.{sound_phrase}
use Rattle.rbs_types.proofs.Finishes.{FollowsAll, Finishes, behind_all}
use Rattle.rbs_types.proofs.Finish.{finish}
use Rattle.viable_prefixes.specs.Runs.{reads, Each}
use Rattle.viable_prefixes.proofs.Goes.{Goes, then_taken, goes_reads}
use Rattle.rbs_declarations.proofs.Valid.{Led}

-- the tokens lead from one state to another
abbrev pub Leading : State → List Token → State → Type 0
Leading i w m = Goes next (λ s c. Unit {0}) i w m

-- the type is whole: it has the height that the state needs, and nothing is open
pub record Whole (m : State) (t : PlainTy) : Type 0 where
  pub final_is : final m ≡ Some t
  pub refuses : (c : Token) → FollowsAll (c ∷ []) → next m c ≡ None
  pub tall : need m ≡ height t
  pub shut : reach m ≤ 0

-- tokens that lead to a type which is whole, at the height that the state needs
pub record Completed (i : State) : Type 0 where
  pub w : List Token
  pub m : State
  pub t : PlainTy
  pub run : Leading i w m
  pub whole : Whole m t
  pub tall : need m ≡ need i
  pub within : OpenAtMost (reach i) (depth i) w
  pub alone : reads next final i w ≡ Some t
  pub small : Each IsSmall w

-- ---- the state that the tokens lead to

run_of : (w : List Token) (i : State) (t : PlainTy) → reads next final i w ≡ Some t → (m : State) × Leading i w m × (final m ≡ Some t)
unfolding reads
run_of [] i t e = (i, refl, e)
run_of (c ∷ w) i t e =
    let (a, n, e') = then_taken (next i c) (λ m. reads next final m w) t e in
    let (m, g, f) = run_of w a t e' in
    (m, (a, n, tt, g), f)

depth_behind : (w : List Token) (i m : State) → Leading i w m → depth m ≡ behind_all (depth i) w
depth_behind [] i m g = ap depth (sym g)
depth_behind (c ∷ w) i m g = depth_behind w g.0 m g.3 ∙ ap (λ d. behind_all d w) (depth_next i c g.0 g.1)

through_run : {R : Type 0} (K : PlainTy → List Token → R) (fail : R) (w : List Token) (i m : State) (rest : List Token) → Leading i w m → through K fail i (w ++ rest) ≡ through K fail m rest
unfolding through
through_run K fail [] i m rest g = ap (λ s. through K fail s rest) g
through_run K fail (c ∷ w) i m rest g =
    ap (λ o. taken o (λ s. through K fail s (w ++ rest)) (rests K fail (final i) (c ∷ (w ++ rest)))) g.1 ∙ through_run K fail w g.0 m rest g.3

-- ---- it takes nothing that may stand behind the type

-- how many tokens are left behind the type
left : State → List Token → ℕ
left s ts = through (λ t rest. length rest) 0 s ts

none_left : (o : Option PlainTy) → rests (λ t rest. length rest) 0 o [] ≡ 0
none_left (Some t) = refl
none_left None = refl

one_left : (m : State) (c : Token) → left m (c ∷ []) ≡ 1 → next m c ≡ None
unfolding left through
one_left m c e = by_next (next m c) e
  where
    by_next : (o : Option State) → taken o (λ s. through (λ t rest. length rest) 0 s []) (rests (λ t rest. length rest) 0 (final m) (c ∷ [])) ≡ 1 → o ≡ None
    by_next None h = refl
    by_next (Some s) h = let none : rests (λ t rest. length rest) 0 (final s) [] ≡ 0 = none_left (final s) in absurd (omega (arith, none, h))

refuses_behind : (w : List Token) (i m : State) (t : PlainTy) → Leading i w m → ((c : Token) → FollowsAll (c ∷ []) → left i (w ++ c ∷ []) ≡ 1) → (c : Token) → FollowsAll (c ∷ []) → next m c ≡ None
unfolding left
refuses_behind w i m t g h c f = one_left m c (sym (through_run (λ t rest. length rest) 0 w i m (c ∷ []) g) ∙ h c f)

completed_by : (i : State) → Finishes i → Completed i
unfolding left
completed_by i f =
    let (m, run, final_is) = run_of f.w i f.t f.alone in
    let deep : depth m ≡ surely 0 = depth_behind f.w i m run ∙ f.shut in
    let sure : (depth m).sure ≡ 0 = ap (λ d. d.sure) deep in
    record {
      w = f.w;
      m = m;
      t = f.t;
      run = run;
      whole = record {
        final_is = final_is;
        refuses = refuses_behind f.w i m f.t run (λ c h. f.whole (λ t rest. length rest) 0 (c ∷ []) h);
        tall = need_final m f.t final_is;
        shut = omega (arith, reach_final m f.t final_is, sure);
      };
      tall = need_final m f.t final_is ∙ f.tall;
      within = f.within (reach i) (omega arith);
      alone = f.alone;
      small = f.small;
    }

pub completed : (i : State) → Completed i
completed i = completed_by i (finish i)

-- what is read behind the name of a method is a function
pub is_function : (i : State) (w : List Token) (t : PlainTy) → Led a_function i → reads next final i w ≡ Some t → (f : PlainFun) × (t ≡ plain.fun f)
is_function i w t led e =
    let (f, is, _) = sound_phrase a_function t (led.0 ++ w) (goes_reads next (λ s c. Unit {0}) final led.0 start_function i w led.1 ∙ e) in
    (f, is)
