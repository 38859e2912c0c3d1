-- What it is to finish a state, and that a state is finished where one more token leads to one that is.
use Rattle.std.proofs.Common.{subst, max, ℕ, ◌≤◌, ◌≡◌, refl, sym, ◌∙◌, ap, List, [], ◌∷◌, Some, length, option_and_then, arith}
use Rattle.rbs_terminals.specs.declared.token.Token.{Token}
use Rattle.rbs_terminals.specs.declared.token.Keyword.TheVariants as keyword
use Rattle.rbs_terminals.specs.declared.token.Kind.TheVariants as kind
use Rattle.sig_model.specs.PlainMember.{PlainMember}
use Rattle.sig_model.specs.PlainDecl as decl
use Rattle.sig_model.specs.PlainDecl.{PlainDecl, PlainDecls}
use Rattle.rbs_types.specs.Symbols.{token, word}
use Rattle.rbs_types.specs.Limits.{IsSmall}
use Rattle.rbs_types.proofs.Closing.{here}
use Rattle.viable_prefixes.specs.Runs.{reads, Each, OpenAtMost}
use Rattle.rbs_declarations.specs.declared.state.Begun.{Begun}
use Rattle.rbs_declarations.specs.declared.state.Heading.{Heading}
use Rattle.rbs_declarations.specs.declared.state.Frame.{Frame}
use Rattle.rbs_declarations.specs.declared.state.Focus.{Focus}
use Rattle.rbs_declarations.specs.declared.state.Focus.TheVariants as focus
use Rattle.rbs_declarations.specs.declared.state.State.{State}
use Rattle.rbs_declarations.specs.Grammar.{and_decl}
use Rattle.rbs_declarations.specs.Machine.{state_of, with_inner, framed, body_of, place_from, membered, ended_frame, then_part, next, final}
use Rattle.rbs_declarations.specs.Heights.{member_height, decls_height}
use Rattle.rbs_declarations.specs.Needs.{heading_height, focus_height, focus_open, need, opened, reach}
use Rattle.rbs_declarations.proofs.Behind.{behind, open_at}
use Rattle.rbs_declarations.proofs.Opens.{sure_reach}
use Rattle.rbs_declarations.proofs.Heights.{inner_and, member_and, decls_and, body_of_height}

-- ---- tokens that finish

abbrev pub end_word : Token
end_word = word keyword.End here

-- `A`
abbrev pub capital : Token
capital = token (kind.Upper (65 ∷ [])) here

-- `_A`
abbrev pub underscored : Token
underscored = token (kind.Interface (95 ∷ 65 ∷ [])) here

-- `a`
abbrev pub small_word : Token
small_word = token (kind.Lower (97 ∷ [])) here

-- ---- states that can be finished

-- In the file of this number.
module _ (file : ℕ) where
  -- Tokens that finish a state: the declarations are known but for the end of the text. A type that must still come has the height 1.
  pub record Closes (s : State) : Type 0 where
    pub w : List Token
    pub ds : ℕ → PlainDecls
    pub alone : (e : ℕ) → reads (next file) (final file e) s w ≡ Some (ds e)
    pub tall : (e : ℕ) → decls_height (ds e) ≤ max (need s) 1
    pub within : (limit : ℕ) → reach s ≤ limit → OpenAtMost (behind file) (open_at file) limit (Some s) w
    pub small : Each IsSmall w

  -- a token that leads to a state which is finished within the same limits
  pub record Step (s : State) (c : Token) (m : State) : Type 0 where
    pub goes : next file s c ≡ Some m
    pub tall : need m ≤ max (need s) 1
    pub far : reach m ≤ reach s
    pub small : IsSmall c

  pub first : {s m : State} (c : Token) → Step s c m → Closes m → Closes s
  unfolding reads
  first {s = s} {m = m} c p f = record {
    w = c ∷ f.w;
    ds = f.ds;
    alone = λ e. ap (option_and_then (λ x. reads (next file) (final file e) x f.w)) p.goes ∙ f.alone e;
    tall = λ e. omega (arith, p.tall, f.tall e);
    within = λ limit h.
        let reached : reach m ≤ limit = omega (arith, p.far) in
        let few : opened m ≤ limit = omega (arith, sure_reach m) in
        (subst (λ o. open_at file o ≤ limit) (sym p.goes) few, subst (λ o. OpenAtMost (behind file) (open_at file) limit o f.w) (sym p.goes) (f.within limit reached));
    small = (p.small, f.small);
  }

  -- the text may end here
  pub at_end : (s : State) (ds : ℕ → PlainDecls) → ((e : ℕ) → final file e s ≡ Some (ds e)) → ((e : ℕ) → decls_height (ds e) ≤ max (need s) 1) → Closes s
  unfolding reads
  at_end s ds whole tall = record { w = []; ds = ds; alone = whole; tall = tall; within = λ limit h. tt; small = tt }

  -- what a frame declares, if its `end` comes now
  abbrev frame_decl : Frame → PlainDecl
  frame_decl f = decl.decl (place_from file f.begun 0) f.begun.notes (body_of f.heading f.parts)

  -- Where an `end` ends the innermost declaration, as many of them as are open finish the text.
  pub frames_end : (fs : List Frame) (f : Frame) (ds : PlainDecls) (s : State) → next file s end_word ≡ ended_frame file ds (f ∷ fs) here
      → need (state_of focus.Parts ds (f ∷ fs)) ≤ max (need s) 1 → length (f ∷ fs) ≤ reach s → Closes s
  frames_end [] f ds s goes tall far =
      let all : PlainDecls = and_decl ds (frame_decl f) in
      let high : decls_height all ≤ max (need s) 1 = omega (arith, decls_and ds (frame_decl f), body_of_height f.heading f.parts, tall) in
      first end_word (record { goes = goes; tall = omega (arith, high); far = omega arith; small = tt }) (at_end (state_of focus.Parts all []) (λ e. all) (λ e. refl) (λ e. omega arith))
  frames_end (g ∷ gs) f ds s goes tall far =
      let outer : Frame = with_inner g (frame_decl f) in
      let high : need (state_of focus.Parts ds (outer ∷ gs)) ≤ max (need s) 1 = omega (arith, inner_and g.parts (frame_decl f), body_of_height f.heading f.parts, tall) in
      first end_word (record { goes = goes; tall = high; far = omega arith; small = tt }) (frames_end gs outer ds (state_of focus.Parts ds (outer ∷ gs)) refl (omega arith) (omega arith))

  -- where the parts of a declaration begin at the `end`
  pub heading_ends : (f : Focus) (begun : Begun) (h : Heading) (ds : PlainDecls) (fs : List Frame)
      → next file (state_of f ds fs) end_word ≡ ended_frame file ds (framed begun h ∷ fs) here → heading_height h ≤ max (focus_height f) 1 → 1 ≤ focus_open f → Closes (state_of f ds fs)
  heading_ends f begun h ds fs goes tall far = frames_end fs (framed begun h) ds (state_of f ds fs) goes (omega arith) (omega arith)

  -- where a member is whole before the `end`
  pub member_ends : (f : Focus) (begun : Begun) (e : ℕ) (x : PlainMember) (ds : PlainDecls) (g : Frame) (fs : List Frame)
      → next file (state_of f ds (g ∷ fs)) end_word ≡ then_part file (Some (membered file begun e x ds (g ∷ fs))) (kind.Keyword keyword.End) here
      → member_height x ≤ max (focus_height f) 1 → Closes (state_of f ds (g ∷ fs))
  member_ends f begun e x ds g fs goes tall =
      frames_end fs _ ds (state_of f ds (g ∷ fs)) goes (omega (arith, member_and g.parts (place_from file begun e) begun.notes x)) (omega arith)
