-- Parameters: a token of them takes the reader on, and no other does.
use Rattle.std.proofs.Common.{◌≡◌, ℕ, refl, sym, ◌∙◌, ap, subst, List, [], ◌∷◌, ◌++◌, append_assoc, append-nil}
use Rattle.ruby_tokens.specs.declared.token.Token.{Token}
use Rattle.ruby_tokens.specs.declared.token.Kind.{Kind}
use Rattle.ruby_tokens.specs.declared.token.Kind.TheVariants as kind
use Rattle.ruby_reader.specs.declared.parameters.ParameterPlace.{ParameterPlace}
use Rattle.ruby_reader.specs.declared.parameters.ParameterPlace.TheVariants as place
use Rattle.ruby_reader.specs.declared.parameters.ParametersReader.{ParametersReader}
use Rattle.ruby_reader.specs.Grammar.{tok, IsSkipped, skipped_newline, skipped_note, Closes, close_skip, close_here, Parameters, parameter_skip, parameter_last, parameter_more, Parens, parens_none, parens_some}
use Rattle.ruby_reader.specs.ParametersMachine.{step, parameters_next}
use Rattle.ruby_reader.proofs.Steps.{Goes}

-- what is left of the parameters directly behind one of them
pub data NamedLeft : List (List ℕ) → List Token → List Token → Type 0 where
  last_left : {ts rest : List Token} → Closes ts rest → NamedLeft [] ts rest
  more_left : {ps : List (List ℕ)} {s e : ℕ} {ts rest : List Token} → Parameters ps ts rest → NamedLeft ps (tok kind.Comma s e ∷ ts) rest

abbrev pub PlaceLeft : ParameterPlace → List (List ℕ) → List Token → List Token → Type 0
PlaceLeft place.Opened more ts rest = Parens more ts rest
PlaceLeft place.Named more ts rest = NamedLeft more ts rest
PlaceLeft place.Closing more ts rest = (more ≡ []) × Closes ts rest
PlaceLeft place.Comma more ts rest = Parameters more ts rest

-- what is left of the parameters `ps`
abbrev pub ParametersLeft : ParametersReader → List (List ℕ) → List Token → List Token → Type 0
ParametersLeft r ps ts rest = (more : List (List ℕ)) × (ps ≡ r.names ++ more) × PlaceLeft r.place more ts rest

module _ (ns : List (List ℕ)) where
  -- a parameter more
  more_same : (more : List (List ℕ)) (n : List ℕ) {ps : List (List ℕ)} → ps ≡ ns ++ n ∷ more → ps ≡ (ns ++ n ∷ []) ++ more
  more_same more n same = same ∙ sym (append_assoc ns (n ∷ []) more)

  same_more : (more : List (List ℕ)) (n : List ℕ) {ps : List (List ℕ)} → ps ≡ (ns ++ n ∷ []) ++ more → ps ≡ ns ++ n ∷ more
  same_more more n same = same ∙ append_assoc ns (n ∷ []) more

  none_same : {ps : List (List ℕ)} → ps ≡ ns ++ [] → ps ≡ ns
  none_same same = same ∙ append-nil ns

  same_none : {ps : List (List ℕ)} → ps ≡ ns → ps ≡ ns ++ []
  same_none same = same ∙ sym (append-nil ns)

  no_more : {ps more : List (List ℕ)} → ps ≡ ns ++ more → more ≡ [] → ps ≡ ns ++ []
  no_more same none = same ∙ ap (λ more. ns ++ more) none

  abbrev Step : ParameterPlace → Kind → List (List ℕ) → List Token → List Token → Type 0
  Step p k ps ts rest = Goes ParametersLeft (step ns p k) ps ts rest

  opened_goes : {ps more : List (List ℕ)} {k : Kind} {s e : ℕ} {ts rest : List Token} → ps ≡ ns ++ more → Parens more (tok k s e ∷ ts) rest → Step place.Opened k ps ts rest
  opened_goes same (parens_none (close_skip skipped_newline c)) = ([], same, parens_none c)
  opened_goes same (parens_none (close_skip skipped_note c)) = ([], same, parens_none c)
  opened_goes same (parens_none close_here) = (none_same same, refl)
  opened_goes {more = more} same (parens_some (parameter_skip skipped_newline p)) = (more, same, parens_some p)
  opened_goes {more = more} same (parens_some (parameter_skip skipped_note p)) = (more, same, parens_some p)
  opened_goes same (parens_some (parameter_last c)) = ([], more_same _ _ same, last_left c)
  opened_goes same (parens_some (parameter_more {ps = more} p)) = (more, more_same _ _ same, more_left p)

  comma_goes : {ps more : List (List ℕ)} {k : Kind} {s e : ℕ} {ts rest : List Token} → ps ≡ ns ++ more → Parameters more (tok k s e ∷ ts) rest → Step place.Comma k ps ts rest
  comma_goes {more = more} same (parameter_skip skipped_newline p) = (more, same, p)
  comma_goes {more = more} same (parameter_skip skipped_note p) = (more, same, p)
  comma_goes same (parameter_last c) = ([], more_same _ _ same, last_left c)
  comma_goes same (parameter_more {ps = more} p) = (more, more_same _ _ same, more_left p)

  named_goes : {ps more : List (List ℕ)} {k : Kind} {s e : ℕ} {ts rest : List Token} → ps ≡ ns ++ more → NamedLeft more (tok k s e ∷ ts) rest → Step place.Named k ps ts rest
  named_goes same (last_left (close_skip skipped_newline c)) = ([], same, (refl, c))
  named_goes same (last_left (close_skip skipped_note c)) = ([], same, (refl, c))
  named_goes same (last_left close_here) = (none_same same, refl)
  named_goes {more = more} same (more_left p) = (more, same, p)

  closing_goes : {ps more : List (List ℕ)} {k : Kind} {s e : ℕ} {ts rest : List Token} → ps ≡ ns ++ more → more ≡ [] → Closes (tok k s e ∷ ts) rest → Step place.Closing k ps ts rest
  closing_goes {more = more} same none (close_skip skipped_newline c) = (more, same, (none, c))
  closing_goes {more = more} same none (close_skip skipped_note c) = (more, same, (none, c))
  closing_goes same none close_here = (none_same (no_more same none), refl)

  place_goes : (p : ParameterPlace) (ps : List (List ℕ)) (c : Token) (ts rest : List Token) → ParametersLeft (record { names = ns; place = p }) ps (c ∷ ts) rest → Step p c.kind ps ts rest
  place_goes place.Opened ps c ts rest g = opened_goes g.1 g.2
  place_goes place.Named ps c ts rest g = named_goes g.1 g.2
  place_goes place.Closing ps c ts rest g = closing_goes g.1 g.2.0 g.2.1
  place_goes place.Comma ps c ts rest g = comma_goes g.1 g.2

  abbrev Before : ParameterPlace → Kind → ℕ → ℕ → List (List ℕ) → List Token → List Token → Type 0
  Before p k s e ps ts rest = ParametersLeft (record { names = ns; place = p }) ps (tok k s e ∷ ts) rest

  close_before : {s e : ℕ} {ts rest : List Token} → ts ≡ rest → Closes (tok kind.Close s e ∷ ts) rest
  close_before {s = s} {e = e} {ts = ts} same = subst (λ us. Closes (tok kind.Close s e ∷ ts) us) same close_here

  parens_skip : {more : List (List ℕ)} {k : Kind} {s e : ℕ} {ts rest : List Token} → IsSkipped k → Parens more ts rest → Parens more (tok k s e ∷ ts) rest
  parens_skip i (parens_none c) = parens_none (close_skip i c)
  parens_skip i (parens_some p) = parens_some (parameter_skip i p)

  parameter_of_named : {n : List ℕ} {more : List (List ℕ)} {s e : ℕ} {ts rest : List Token} → NamedLeft more ts rest → Parameters (n ∷ more) (tok (kind.Name n) s e ∷ ts) rest
  parameter_of_named (last_left c) = parameter_last c
  parameter_of_named (more_left p) = parameter_more p

  opened_left : (k : Kind) {s e : ℕ} {ps : List (List ℕ)} {ts rest : List Token} → Step place.Opened k ps ts rest → Before place.Opened k s e ps ts rest
  opened_left kind.Close g = ([], same_none g.0, parens_none (close_before g.1))
  opened_left (kind.Name n) g = (n ∷ g.0, same_more _ _ g.1, parens_some (parameter_of_named g.2))
  opened_left kind.Newline g = (g.0, g.1, parens_skip skipped_newline g.2)
  opened_left kind.TypeNote g = (g.0, g.1, parens_skip skipped_note g.2)
  opened_left _ g = absurd g

  comma_left : (k : Kind) {s e : ℕ} {ps : List (List ℕ)} {ts rest : List Token} → Step place.Comma k ps ts rest → Before place.Comma k s e ps ts rest
  comma_left (kind.Name n) g = (n ∷ g.0, same_more _ _ g.1, parameter_of_named g.2)
  comma_left kind.Newline g = (g.0, g.1, parameter_skip skipped_newline g.2)
  comma_left kind.TypeNote g = (g.0, g.1, parameter_skip skipped_note g.2)
  comma_left _ g = absurd g

  named_left : (k : Kind) {s e : ℕ} {ps : List (List ℕ)} {ts rest : List Token} → Step place.Named k ps ts rest → Before place.Named k s e ps ts rest
  named_left kind.Comma g = (g.0, g.1, more_left g.2)
  named_left kind.Close g = ([], same_none g.0, last_left (close_before g.1))
  named_left kind.Newline g = ([], no_more g.1 g.2.0, last_left (close_skip skipped_newline g.2.1))
  named_left kind.TypeNote g = ([], no_more g.1 g.2.0, last_left (close_skip skipped_note g.2.1))
  named_left _ g = absurd g

  closing_left : (k : Kind) {s e : ℕ} {ps : List (List ℕ)} {ts rest : List Token} → Step place.Closing k ps ts rest → Before place.Closing k s e ps ts rest
  closing_left kind.Close g = ([], same_none g.0, (refl, close_before g.1))
  closing_left kind.Newline g = (g.0, g.1, (g.2.0, close_skip skipped_newline g.2.1))
  closing_left kind.TypeNote g = (g.0, g.1, (g.2.0, close_skip skipped_note g.2.1))
  closing_left _ g = absurd g

  place_left : (p : ParameterPlace) (ps : List (List ℕ)) (c : Token) (ts rest : List Token) → Step p c.kind ps ts rest → ParametersLeft (record { names = ns; place = p }) ps (c ∷ ts) rest
  place_left place.Opened ps c ts rest g = opened_left c.kind g
  place_left place.Named ps c ts rest g = named_left c.kind g
  place_left place.Closing ps c ts rest g = closing_left c.kind g
  place_left place.Comma ps c ts rest g = comma_left c.kind g

  no_closes : {rest : List Token} → Closes [] rest → ⊥
  no_closes c = elim c [ ]

  no_parameters : {more : List (List ℕ)} {rest : List Token} → Parameters more [] rest → ⊥
  no_parameters p = elim p [ ]

  no_parens : {more : List (List ℕ)} {rest : List Token} → Parens more [] rest → ⊥
  no_parens (parens_none c) = no_closes c
  no_parens (parens_some p) = no_parameters p

  no_named : {more : List (List ℕ)} {rest : List Token} → NamedLeft more [] rest → ⊥
  no_named (last_left c) = no_closes c

  place_ends : (p : ParameterPlace) (more : List (List ℕ)) (rest : List Token) → PlaceLeft p more [] rest → ⊥
  place_ends place.Opened more rest g = no_parens g
  place_ends place.Named more rest g = no_named g
  place_ends place.Closing more rest g = no_closes g.1
  place_ends place.Comma more rest g = no_parameters g

-- a token of the parameters takes the reader on
pub parameters_goes : (r : ParametersReader) (ps : List (List ℕ)) (c : Token) (ts rest : List Token) → ParametersLeft r ps (c ∷ ts) rest → Goes ParametersLeft (parameters_next r c) ps ts rest
parameters_goes r ps c ts rest g = place_goes r.names r.place ps c ts rest g

-- what takes the reader on is a token of the parameters
pub parameters_left : (r : ParametersReader) (ps : List (List ℕ)) (c : Token) (ts rest : List Token) → Goes ParametersLeft (parameters_next r c) ps ts rest → ParametersLeft r ps (c ∷ ts) rest
parameters_left r ps c ts rest g = place_left r.names r.place ps c ts rest g

-- no parameters end with the text
pub parameters_end : (r : ParametersReader) (ps : List (List ℕ)) (rest : List Token) → ParametersLeft r ps [] rest → ⊥
parameters_end r ps rest g = place_ends r.names r.place g.0 rest g.2
