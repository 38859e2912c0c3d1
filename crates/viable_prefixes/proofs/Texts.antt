-- A text is taken within the limits, and what was taken within the limits begins one.
use Rattle.std.proofs.Common.{max, ◌≤◌, ◌≡◌, refl, sym, ◌∙◌, ap, subst, List, [], ◌∷◌, ◌++◌, Some, option_and_then, arith}
use Rattle.viable_prefixes.specs.Runs.{reads, Each}
use Rattle.viable_prefixes.specs.Prefixes.{Begins}
use Rattle.viable_prefixes.proofs.Goes.{Goes, then_taken, goes_reads, goes_split}
use Rattle.viable_prefixes.proofs.Machines.{Machine, IsReader, OpenFrom, Text, Within, Took}

module _ {S T X D : Type 0} (m : Machine S T X D) (r : IsReader m) where
  need_reads : (ts : List T) (s : S) (x : X) → m.Valid s → reads m.next m.final s ts ≡ Some x → m.need s ≤ m.height x
  unfolding reads
  need_reads [] s x v e = r.need_final s x v e
  need_reads (t ∷ ts) s x v e =
      let (a, n, h) = then_taken (m.next s t) (λ a. reads m.next m.final a ts) x e in
      let here : m.need s ≤ m.need a = r.need_next s t a v n in
      let later : m.need a ≤ m.height x = need_reads ts a x (r.valid_next s t a v n) h in
      omega arith

  reach_reads : (ts : List T) (s : S) (x : X) → m.Valid s → reads m.next m.final s ts ≡ Some x → m.sure (m.depth s) ≤ m.many → OpenFrom m (m.depth s) ts → m.reach s ≤ m.many
  unfolding reads
  reach_reads [] s x v e h o = omega (arith, r.reach_final s x v e)
  reach_reads (t ∷ ts) s x v e h o =
      let (a, n, k) = then_taken (m.next s t) (λ a. reads m.next m.final a ts) x e in
      let is : m.depth a ≡ m.behind (m.depth s) t = r.depth_next s t a v n in
      let few : m.sure (m.depth a) ≤ m.many = subst (λ d. m.sure d ≤ m.many) (sym is) o.0 in
      let later : m.reach a ≤ m.many = reach_reads ts a x (r.valid_next s t a v n) k few (subst (λ d. OpenFrom m d ts) (sym is) o.1) in
      let far : m.reach s ≤ max (m.sure (m.depth s)) (m.reach a) = r.reach_next s t a v n in
      omega arith

  goes : (ts : List T) (s : S) (x : X) → m.Valid s → reads m.next m.final s ts ≡ Some x → m.height x ≤ m.tall → OpenFrom m (m.depth s) ts → Each m.Small ts
      → (e : S) × Goes m.next (Within m) s ts e × (m.final e ≡ Some x)
  unfolding reads
  goes [] s x v k h o small = (s, refl, k)
  goes (t ∷ ts) s x v k h o small =
      let (a, n, k') = then_taken (m.next s t) (λ a. reads m.next m.final a ts) x k in
      let valid = r.valid_next s t a v n in
      let is : m.depth a ≡ m.behind (m.depth s) t = r.depth_next s t a v n in
      let inside = subst (λ d. OpenFrom m d ts) (sym is) o.1 in
      let low : m.need a ≤ m.height x = need_reads ts a x valid k' in
      let (e, g, f) = goes ts a x valid k' h inside small.1 in
      let few : m.sure (m.depth a) ≤ m.many = subst (λ d. m.sure d ≤ m.many) (sym is) o.0 in
      let wide : m.reach a ≤ m.many = reach_reads ts a x valid k' few inside in
      (e, (a, n, (omega arith, wide, small.0), g), f)

  -- a text is taken, and it is whole there
  pub text_took : (x : X) (ts : List T) → Text m x ts → (e : S) × Took m ts e × (m.final e ≡ Some x)
  text_took x ts h = goes ts m.start x r.valid_start (r.complete x ts h.0) h.1 h.2 h.3

  -- ---- what was taken within the limits, and then finished within them, is within them

  goes_valid : (ts : List T) (s e : S) → m.Valid s → Goes m.next (Within m) s ts e → m.Valid e
  goes_valid [] s e v g = subst m.Valid g v
  goes_valid (t ∷ ts) s e v g = goes_valid ts g.0 e (r.valid_next s t g.0 v g.1) g.3

  goes_low : (ts : List T) (s e : S) → m.need s ≤ m.tall → Goes m.next (Within m) s ts e → m.need e ≤ m.tall
  goes_low [] s e h g = subst (λ s. m.need s ≤ m.tall) g h
  goes_low (t ∷ ts) s e h g = goes_low ts g.0 e g.2.0 g.3

  goes_few : (ts : List T) (s e : S) → m.reach s ≤ m.many → Goes m.next (Within m) s ts e → m.reach e ≤ m.many
  goes_few [] s e h g = subst (λ s. m.reach s ≤ m.many) g h
  goes_few (t ∷ ts) s e h g = goes_few ts g.0 e g.2.1 g.3

  goes_open : (ts : List T) (s e : S) (rest : List T) → m.Valid s → Goes m.next (Within m) s ts e → OpenFrom m (m.depth e) rest → OpenFrom m (m.depth s) (ts ++ rest)
  goes_open [] s e rest v g o = subst (λ s. OpenFrom m (m.depth s) rest) (sym g) o
  goes_open (t ∷ ts) s e rest v g o =
      let valid = r.valid_next s t g.0 v g.1 in
      let is : m.depth g.0 ≡ m.behind (m.depth s) t = r.depth_next s t g.0 v g.1 in
      let few : m.sure (m.depth g.0) ≤ m.many = omega (arith, r.sure_reach g.0 valid, g.2.1) in
      (subst (λ d. m.sure d ≤ m.many) is few, subst (λ d. OpenFrom m d (ts ++ rest)) is (goes_open ts g.0 e rest valid g.3 o))

  goes_small : (ts : List T) (s e : S) (rest : List T) → Goes m.next (Within m) s ts e → Each m.Small rest → Each m.Small (ts ++ rest)
  goes_small [] s e rest g small = small
  goes_small (t ∷ ts) s e rest g small = (g.2.2, goes_small ts g.0 e rest g.3 small)

  pub took_valid : (ts : List T) (e : S) → Took m ts e → m.Valid e
  took_valid ts e g = goes_valid ts m.start e r.valid_start g

  pub took_low : (ts : List T) (e : S) → Took m ts e → m.need e ≤ m.tall
  took_low ts e g = goes_low ts m.start e r.need_start g

  pub took_few : (ts : List T) (e : S) → Took m ts e → m.reach e ≤ m.many
  took_few ts e g = goes_few ts m.start e r.reach_start g

  -- what was taken begins a text
  pub took_begins : (ts : List T) (e : S) → Took m ts e → Begins (Text m) ts
  took_begins ts e g =
      let (w, x, k, h, o, small) = r.finish e (took_valid ts e g) in (
        x,
        w,
        (
          r.sound x (ts ++ w) (goes_reads m.next (Within m) m.final ts m.start e w g ∙ k),
          h (took_low ts e g),
          goes_open ts m.start e w r.valid_start g (o (took_few ts e g)),
          goes_small ts m.start e w g small,
        ),
      )

  -- what was taken, and is whole, is a text
  pub took_text : (ts : List T) (e : S) (x : X) → Took m ts e → m.final e ≡ Some x → Text m x (ts ++ [])
  unfolding reads
  took_text ts e x g f = (
    r.sound x (ts ++ []) (goes_reads m.next (Within m) m.final ts m.start e [] g ∙ f),
    r.height_final e x (took_valid ts e g) f (took_low ts e g),
    goes_open ts m.start e [] r.valid_start g tt,
    goes_small ts m.start e [] g tt,
  )

  -- ---- one more token

  -- where the machine takes it, something begins so, aside from limits
  pub begins_written : (ts : List T) (e a : S) (t : T) → Took m ts e → m.next e t ≡ Some a → (x : X) × (rest : List T) × m.Written x (ts ++ t ∷ rest)
  unfolding reads
  begins_written ts e a t g n =
      let (w, x, k, h, o, small) = r.finish a (r.valid_next e t a (took_valid ts e g) n) in
      (x, w, r.sound x (ts ++ t ∷ w) (goes_reads m.next (Within m) m.final ts m.start e (t ∷ w) g ∙ ap (option_and_then (λ a. reads m.next m.final a w)) n ∙ k))

  -- and only there
  pub written_taken : (ts : List T) (e : S) (t : T) (x : X) (rest : List T) → Took m ts e → m.Written x (ts ++ t ∷ rest) → (a : S) × (m.next e t ≡ Some a)
  unfolding reads
  written_taken ts e t x rest g w =
      let k : reads m.next m.final e (t ∷ rest) ≡ Some x = sym (goes_reads m.next (Within m) m.final ts m.start e (t ∷ rest) g) ∙ r.complete x (ts ++ t ∷ rest) w in
      let (a, n, _) = then_taken (m.next e t) (λ a. reads m.next m.final a rest) x k in
      (a, n)

  -- within the limits something begins so only where the state that it leads to is within them
  pub text_taken : (ts : List T) (e : S) (t : T) (x : X) (rest : List T) → Took m ts e → Text m x (ts ++ t ∷ rest) → (a : S) × (m.next e t ≡ Some a) × Within m a t
  text_taken ts e t x rest g h =
      let (b, all, f) = text_took x (ts ++ t ∷ rest) h in
      let after = goes_split m.next (Within m) ts (t ∷ rest) m.start e b g all in
      (after.0, after.1, after.2)
