-- A list of statements: a token of it takes the reader on or stands behind its end, and no other does.
use Rattle.std.proofs.Common.{◌≡◌, ℕ, ◌≤◌, refl, sym, ◌∙◌, ap, subst, List, [], ◌∷◌, ◌++◌, Option, Some, None}
use Rattle.ruby_tokens.specs.declared.token.Token.{Token}
use Rattle.ruby_tokens.specs.declared.token.Kind.{Kind}
use Rattle.ruby_tokens.specs.declared.token.Kind.TheVariants as kind
use Rattle.ruby_reader.specs.declared.tree.Expression.{Expression}
use Rattle.ruby_reader.specs.declared.tree.Expression.TheVariants as expression
use Rattle.ruby_reader.specs.declared.tree.Statement.{Statement}
use Rattle.ruby_reader.specs.declared.progress.Turn.{Turn}
use Rattle.ruby_reader.specs.declared.progress.Turn.TheVariants as turn
use Rattle.ruby_reader.specs.declared.expression.ExpressionReader.{ExpressionReader}
use Rattle.ruby_reader.specs.declared.expression.Outcome.{Outcome}
use Rattle.ruby_reader.specs.declared.expression.Outcome.TheVariants.{Reading, Ended}
use Rattle.ruby_reader.specs.declared.list.ListPlace.{ListPlace}
use Rattle.ruby_reader.specs.declared.list.ListPlace.TheVariants as place
use Rattle.ruby_reader.specs.declared.list.ListReader.{ListReader}
use Rattle.ruby_reader.specs.PlainTree as plain
use Rattle.ruby_reader.specs.PlainTree.{PlainExpression, PlainStatement}
use Rattle.ruby_reader.specs.PlainLaws.{plain_expression, plain_statement, plain_statements, plain-Local}
use Rattle.ruby_reader.specs.Heights.{statement_height, limit, AreLow}
use Rattle.ruby_reader.specs.Grammar.{tok, taken, break_newline, break_semicolon, literal_int, literal_str, literal_sym, literal_nil, skips_more, expression_calls, Expressions, operand_literal, operand_local, operand_new, States, state_expression, state_assignment, Ending, Ends, Lists, list_ends, list_break, list_more}
use Rattle.ruby_reader.specs.ExpressionMachine.{start, operand_of, with_operand, expression_next, expression_final}
use Rattle.ruby_reader.specs.ListMachine.{local, statement_of, with_statement, between_statements, behind_low, with_outcome, with_final, step, list_next, ends, list_final}
use Rattle.ruby_reader.proofs.Steps.{turn_of, map_more, none_more}
use Rattle.ruby_reader.proofs.OpenCalls.{leads_left, here_leads, goes_on, stops_on, ExpressionLeft, ExpressionGoes}
use Rattle.ruby_reader.proofs.ExpressionGoes.{operand_goes, value_behind, expression_goes}
use Rattle.ruby_reader.proofs.ExpressionReturns.{operand_left, expression_left}
use Rattle.ruby_reader.proofs.ExpressionEnds.{ended_there, expression_ends, expression_finished}
use Rattle.ruby_reader.proofs.Statements.{plain_of, plain_of_is, no_equals_list, After, after_surrounds, with_low_statement, with_statement_in}

-- what is left of a statement behind its first name, `n`, and of its list
pub data NamedLeft (ending : Ending) (ss : List Statement) (qs : List PlainStatement) (rest : List Token) (n : List ℕ) : List Token → Type 0 where
  read_left : {ts : List Token} → ExpressionLeft (After ending ss qs rest None) (local n) ts → NamedLeft ending ss qs rest n ts
  assigned_left : {s e : ℕ} {ts : List Token} → ExpressionLeft (After ending ss qs rest (Some n)) start ts → NamedLeft ending ss qs rest n (tok kind.Equals s e ∷ ts)

-- what is left of the list `qs`, behind the statements `ss`
abbrev pub PlaceLeft : Ending → List Statement → ListPlace → List PlainStatement → List Token → List Token → Type 0
PlaceLeft ending ss (place.Between t) qs ts rest = (more : List PlainStatement) × (qs ≡ plain_statements ss ++ more) × AreLow more × Lists ending (turn_of t) more ts rest
PlaceLeft ending ss (place.Named n) qs ts rest = NamedLeft ending ss qs rest n ts
PlaceLeft ending ss (place.Reading goal r) qs ts rest = ExpressionLeft (After ending ss qs rest goal) r ts

abbrev pub ListLeft : Ending → ListReader → List PlainStatement → List Token → List Token → Type 0
ListLeft ending r qs ts rest = PlaceLeft ending r.statements r.place qs ts rest

abbrev pub ListGoes : Ending → Option ListReader → List PlainStatement → List Token → List Token → Type 0
ListGoes ending None qs ts rest = ⊥
ListGoes ending (Some r) qs ts rest = ListLeft ending r qs ts rest

-- the statements of a list that may end
abbrev pub Finished : Option (List Statement) → List PlainStatement → Type 0
Finished o qs = (zs : List Statement) × (o ≡ Some zs) × (qs ≡ plain_statements zs)

-- a token takes a list on, or stands behind its end
pub data Steps (ending : Ending) (next : Option ListReader) (last : Option (List Statement)) (c : Token) (qs : List PlainStatement) (ts rest : List Token) : Type 0 where
  goes : ListGoes ending next qs ts rest → Steps ending next last c qs ts rest
  stops : Ends ending (c ∷ ts) rest → Finished last qs → Steps ending next last c qs ts rest

finished_all : (ss : List Statement) {qs : List PlainStatement} → qs ≡ plain_statements ss ++ [] → Finished (Some ss) qs
finished_all ss same = (ss, refl, same ∙ none_more (plain_statements ss))

module _ (ending : Ending) (ss : List Statement) where
  -- a statement that begins here
  begin_goes : {qs more : List PlainStatement} {q : PlainStatement} {k : Kind} {s e : ℕ} {ts mid rest : List Token} → qs ≡ plain_statements ss ++ q ∷ more → AreLow (q ∷ more) → States q (tok k s e ∷ ts) mid → Lists ending taken more mid rest
      → ListGoes ending (between_statements ss turn.Free k) qs ts rest
  begin_goes {qs = qs} {more = more} {s = s} {e = e} {rest = rest} same low (state_expression (expression_calls (operand_literal literal_int) c)) l =
      operand_goes (After ending ss qs rest None) (after_surrounds ending ss qs rest None) [] {s = s} {e = e} (operand_literal literal_int) c (more, same, low.0, low.1, l)
  begin_goes {qs = qs} {more = more} {s = s} {e = e} {rest = rest} same low (state_expression (expression_calls (operand_literal literal_str) c)) l =
      operand_goes (After ending ss qs rest None) (after_surrounds ending ss qs rest None) [] {s = s} {e = e} (operand_literal literal_str) c (more, same, low.0, low.1, l)
  begin_goes {qs = qs} {more = more} {s = s} {e = e} {rest = rest} same low (state_expression (expression_calls (operand_literal literal_sym) c)) l =
      operand_goes (After ending ss qs rest None) (after_surrounds ending ss qs rest None) [] {s = s} {e = e} (operand_literal literal_sym) c (more, same, low.0, low.1, l)
  begin_goes {qs = qs} {more = more} {s = s} {e = e} {rest = rest} same low (state_expression (expression_calls (operand_literal literal_nil) c)) l =
      operand_goes (After ending ss qs rest None) (after_surrounds ending ss qs rest None) [] {s = s} {e = e} (operand_literal literal_nil) c (more, same, low.0, low.1, l)
  begin_goes {qs = qs} {more = more} {s = s} {e = e} {rest = rest} same low (state_expression (expression_calls (operand_new d a) c)) l =
      operand_goes (After ending ss qs rest None) (after_surrounds ending ss qs rest None) [] {s = s} {e = e} (operand_new d a) c (more, same, low.0, low.1, l)
  begin_goes {qs = qs} {more = more} {rest = rest} same low (state_expression (expression_calls (operand_local {n = n}) c)) l =
      read_left (value_behind (After ending ss qs rest None) (after_surrounds ending ss qs rest None) [] (expression.Local n) (plain.local n) (plain-Local n) c (more, same, low.0, low.1, l))
  begin_goes {more = more} same low (state_assignment {x = x} {mid = mid} {rest = on} sk ex) l = assigned_left (x, mid, on, sk, ex, (more, same, low.0, low.1, l))

  between_goes : (t : Turn) {qs more : List PlainStatement} {k : Kind} {s e : ℕ} {ts rest : List Token} → qs ≡ plain_statements ss ++ more → AreLow more → Lists ending (turn_of t) more (tok k s e ∷ ts) rest
      → Steps ending (between_statements ss t k) (Some ss) (tok k s e) qs ts rest
  between_goes turn.Free same low (list_ends en) = stops en (finished_all ss same)
  between_goes turn.Free {more = more} same low (list_break break_newline l) = goes (more, same, low, l)
  between_goes turn.Free {more = more} same low (list_break break_semicolon l) = goes (more, same, low, l)
  between_goes turn.Free same low (list_more st l) = goes (begin_goes same low st l)
  between_goes turn.Taken same low (list_ends en) = stops en (finished_all ss same)
  between_goes turn.Taken {more = more} same low (list_break break_newline l) = goes (more, same, low, l)
  between_goes turn.Taken {more = more} same low (list_break break_semicolon l) = goes (more, same, low, l)

  between_first : {qs : List PlainStatement} {ts rest : List Token} → (x : PlainExpression) × (on : List Token) × Expressions x ts on × After ending ss qs rest None turn.Taken x on → PlaceLeft ending ss (place.Between turn.Free) qs ts rest
  between_first f = let g = f.3 in (plain.expression f.0 ∷ g.0, g.1, (g.2, g.3), list_more (state_expression f.2) g.4)

  -- an expression that begins a list
  begins_left : (k : Kind) {qs : List PlainStatement} {s e : ℕ} {ts rest : List Token} → ExpressionGoes (After ending ss qs rest None) (with_operand [] (operand_of k)) (tok k s e) ts → PlaceLeft ending ss (place.Between turn.Free) qs (tok k s e ∷ ts) rest
  begins_left k {qs = qs} {rest = rest} g = between_first (operand_left (After ending ss qs rest None) (after_surrounds ending ss qs rest None) [] k g)

  assigned_before : (n : List ℕ) {qs : List PlainStatement} {s1 e1 s2 e2 : ℕ} {ts rest : List Token} → ExpressionLeft (After ending ss qs rest (Some n)) start ts
      → PlaceLeft ending ss (place.Between turn.Free) qs (tok (kind.Name n) s1 e1 ∷ tok kind.Equals s2 e2 ∷ ts) rest
  assigned_before n f = let g = f.5 in (plain.assignment n f.0 ∷ g.0, g.1, (g.2, g.3), list_more (state_assignment f.3 f.4) g.4)

  named_before : (n : List ℕ) {qs : List PlainStatement} {s e : ℕ} {ts rest : List Token} → NamedLeft ending ss qs rest n ts → PlaceLeft ending ss (place.Between turn.Free) qs (tok (kind.Name n) s e ∷ ts) rest
  named_before n (read_left g) = begins_left (kind.Name n) g
  named_before n (assigned_left f) = assigned_before n f

  between_left : (t : Turn) (k : Kind) {qs : List PlainStatement} {s e : ℕ} {ts rest : List Token} → ListGoes ending (between_statements ss t k) qs ts rest → PlaceLeft ending ss (place.Between t) qs (tok k s e ∷ ts) rest
  between_left t kind.Newline g = (g.0, g.1, g.2, list_break break_newline g.3)
  between_left t kind.Semicolon g = (g.0, g.1, g.2, list_break break_semicolon g.3)
  between_left turn.Free (kind.Integer z) g = begins_left (kind.Integer z) g
  between_left turn.Free (kind.Text z) g = begins_left (kind.Text z) g
  between_left turn.Free (kind.Symbol z) g = begins_left (kind.Symbol z) g
  between_left turn.Free kind.Nil g = begins_left kind.Nil g
  between_left turn.Free (kind.Upper c) g = begins_left (kind.Upper c) g
  between_left turn.Free (kind.Name n) g = named_before n g
  between_left turn.Free _ g = absurd g
  between_left turn.Taken _ g = absurd g

same_more : (ss : List Statement) (goal : Option (List ℕ)) (x : Expression) (more : List PlainStatement) → plain_statements (ss ++ statement_of goal x ∷ []) ++ more ≡ plain_statements ss ++ plain_of goal (plain_expression x) ∷ more
same_more ss goal x more = map_more plain_statement ss (statement_of goal x) more ∙ ap (λ q. plain_statements ss ++ q ∷ more) (plain_of_is goal x)

module _ (ending : Ending) (ss : List Statement) (goal : Option (List ℕ)) where
  add_goes : (x : Expression) (t : Turn) (o : Option Expression) {qs : List PlainStatement} {k : Kind} {s e : ℕ} {ts rest : List Token} → o ≡ Some x → After ending ss qs rest goal t (plain_expression x) (tok k s e ∷ ts)
      → Steps ending (behind_low (with_statement ss goal x) t k) (with_final ss goal o) (tok k s e) qs ts rest
  add_goes x t o {qs = qs} {k = k} {s = s} {e = e} {ts = ts} {rest = rest} is g =
      let added = with_low_statement ss goal x g.2 in
      let b = between_goes ending (ss ++ statement_of goal x ∷ []) t (g.1 ∙ sym (same_more ss goal x g.0)) g.3 g.4 in
      subst (λ zs. Steps ending (behind_low zs t k) (with_final ss goal o) (tok k s e) qs ts rest) (sym added)
      (subst (λ o. Steps ending (between_statements (ss ++ statement_of goal x ∷ []) t k) o (tok k s e) qs ts rest) (sym (ap (with_final ss goal) is ∙ added)) b)

  outcome_goes : (o : Option Outcome) (last : Option Expression) {qs : List PlainStatement} {k : Kind} {s e : ℕ} {ts rest : List Token} → ((x : Expression) (t : Turn) → o ≡ Some (Ended x t) → last ≡ Some x)
      → ExpressionGoes (After ending ss qs rest goal) o (tok k s e) ts → Steps ending (with_outcome ss goal k o) (with_final ss goal last) (tok k s e) qs ts rest
  outcome_goes None last is g = absurd g
  outcome_goes (Some (Reading r)) last is g = goes g
  outcome_goes (Some (Ended x t)) last is g = add_goes x t last (is x t refl) g

  expression_steps : (r : ExpressionReader) (c : Token) {qs : List PlainStatement} {ts rest : List Token} → ExpressionLeft (After ending ss qs rest goal) r (c ∷ ts)
      → Steps ending (with_outcome ss goal c.kind (expression_next r c)) (with_final ss goal (expression_final r)) c qs ts rest
  expression_steps r c {qs = qs} {ts = ts} {rest = rest} g =
      outcome_goes (expression_next r c) (expression_final r) (ended_there r c) (expression_goes (After ending ss qs rest goal) (after_surrounds ending ss qs rest goal) r c ts g)

  added_left : (x : Expression) (t : Turn) (k : Kind) {qs : List PlainStatement} {s e : ℕ} {ts rest : List Token} → ListGoes ending (behind_low (with_statement ss goal x) t k) qs ts rest → After ending ss qs rest goal t (plain_expression x) (tok k s e ∷ ts)
  added_left x t k {qs = qs} {s = s} {e = e} {ts = ts} {rest = rest} g =
      with_statement_in (λ zs. ListGoes ending (behind_low zs t k) qs ts rest) ss goal x (After ending ss qs rest goal t (plain_expression x) (tok k s e ∷ ts)) (λ g. absurd g)
      (λ low g. let b = between_left ending (ss ++ statement_of goal x ∷ []) t k g in (b.0, b.1 ∙ same_more ss goal x b.0, low, b.2, b.3)) g

  outcome_left : (o : Option Outcome) (k : Kind) (qs : List PlainStatement) (s e : ℕ) (ts rest : List Token) → ListGoes ending (with_outcome ss goal k o) qs ts rest → ExpressionGoes (After ending ss qs rest goal) o (tok k s e) ts
  outcome_left None k qs s e ts rest g = absurd g
  outcome_left (Some (Reading r)) k qs s e ts rest g = g
  outcome_left (Some (Ended x t)) k qs s e ts rest g = added_left x t k g

  expression_returns : (r : ExpressionReader) (c : Token) (qs : List PlainStatement) (ts rest : List Token) → ListGoes ending (with_outcome ss goal c.kind (expression_next r c)) qs ts rest → ExpressionLeft (After ending ss qs rest goal) r (c ∷ ts)
  expression_returns r c qs ts rest g =
      expression_left (After ending ss qs rest goal) (after_surrounds ending ss qs rest goal) r c ts (outcome_left (expression_next r c) c.kind qs c.start c.end ts rest g)

  -- a list that ends with an expression
  whole_finished : (r : ExpressionReader) (x : Expression) (zs : List Statement) {qs : List PlainStatement} {ts rest : List Token} → expression_final r ≡ Some x → with_statement ss goal x ≡ Some zs → qs ≡ plain_statements zs → Ends ending ts rest
      → ExpressionLeft (After ending ss qs rest goal) r ts
  whole_finished r x zs {qs = qs} {ts = ts} {rest = rest} is added same en =
      with_statement_in (λ o. o ≡ Some zs) ss goal x (ExpressionLeft (After ending ss qs rest goal) r ts) (λ e. absurd (cc))
      (λ low e. expression_finished (After ending ss qs rest goal) (after_surrounds ending ss qs rest goal) r x ts is (λ t. ([], all_same low e, low, tt, list_ends en))) added
    where
      some_same : {a b : List Statement} → Some a ≡ Some b → b ≡ a
      some_same e = cc

      all_same : statement_height (plain_of goal (plain_expression x)) ≤ limit → Some (ss ++ statement_of goal x ∷ []) ≡ Some zs → qs ≡ plain_statements ss ++ plain_of goal (plain_expression x) ∷ []
      all_same low e = same ∙ ap plain_statements (some_same e) ∙ sym (none_more (plain_statements (ss ++ statement_of goal x ∷ []))) ∙ same_more ss goal x []

  final_finished : (r : ExpressionReader) (o : Option Expression) (zs : List Statement) {qs : List PlainStatement} {ts rest : List Token} → expression_final r ≡ o → with_final ss goal o ≡ Some zs → qs ≡ plain_statements zs → Ends ending ts rest
      → ExpressionLeft (After ending ss qs rest goal) r ts
  final_finished r None zs is e same en = absurd (cc)
  final_finished r (Some x) zs is e same en = whole_finished r x zs is e same en

  no_lists : (t : Turn) {more : List PlainStatement} {rest : List Token} → Lists ending (turn_of t) more [] rest → (more ≡ []) × Ends ending [] rest
  no_lists turn.Free (list_ends en) = (refl, en)
  no_lists turn.Free (list_more st l) = absurd (no_states st)
    where
      no_states : {q : PlainStatement} {rest : List Token} → States q [] rest → ⊥
      no_states (state_expression (expression_calls o c)) = elim o [ ]
  no_lists turn.Taken (list_ends en) = (refl, en)

  -- what is left of a list where the text ends behind an expression
  after_ended : (o : Option Expression) (x : Expression) (t : Turn) {qs : List PlainStatement} {rest : List Token} → o ≡ Some x → After ending ss qs rest goal t (plain_expression x) [] → Ends ending [] rest × Finished (with_final ss goal o) qs
  after_ended o x t is g =
      let l = no_lists t g.4 in
      let added = with_low_statement ss goal x g.2 in (
        l.1,
        (
          ss ++ statement_of goal x ∷ [],
          ap (with_final ss goal) is ∙ added,
          g.1 ∙ ap (λ more. plain_statements ss ++ plain_of goal (plain_expression x) ∷ more) l.0 ∙ sym (same_more ss goal x []) ∙ none_more (plain_statements (ss ++ statement_of goal x ∷ [])),
        ),
      )

  expression_ended : (r : ExpressionReader) {qs : List PlainStatement} {rest : List Token} → ExpressionLeft (After ending ss qs rest goal) r [] → Ends ending [] rest × Finished (with_final ss goal (expression_final r)) qs
  expression_ended r {qs = qs} {rest = rest} g =
      let w = expression_ends (After ending ss qs rest goal) (after_surrounds ending ss qs rest goal) r g in after_ended (expression_final r) w.0 w.1 w.2 w.3

no_equals : (ending : Ending) (ss : List Statement) (n : List ℕ) {qs : List PlainStatement} {s e : ℕ} {ts rest : List Token} → ExpressionLeft (After ending ss qs rest None) (local n) (tok kind.Equals s e ∷ ts) → ⊥
no_equals ending ss n (goes_on (here_leads (leads_left (skips_more i sk) d))) = elim i [ ]
no_equals ending ss n (stops_on g) = no_equals_list g.4

read_goes : (ending : Ending) (ss : List Statement) (n : List ℕ) (k : Kind) {qs : List PlainStatement} {s e : ℕ} {ts rest : List Token} → ExpressionLeft (After ending ss qs rest None) (local n) (tok k s e ∷ ts)
    → Steps ending (step ss (place.Named n) (tok k s e)) (ends ss (place.Named n)) (tok k s e) qs ts rest
read_goes ending ss n kind.Equals g = absurd (no_equals ending ss n g)
read_goes ending ss n k {s = s} {e = e} g = expression_steps ending ss None (local n) (tok k s e) g

named_goes : (ending : Ending) (ss : List Statement) (n : List ℕ) {qs : List PlainStatement} {k : Kind} {s e : ℕ} {ts rest : List Token} → NamedLeft ending ss qs rest n (tok k s e ∷ ts)
    → Steps ending (step ss (place.Named n) (tok k s e)) (ends ss (place.Named n)) (tok k s e) qs ts rest
named_goes ending ss n {k = k} (read_left g) = read_goes ending ss n k g
named_goes ending ss n (assigned_left g) = goes g

place_goes : (ending : Ending) (ss : List Statement) (p : ListPlace) (qs : List PlainStatement) (c : Token) (ts rest : List Token) → PlaceLeft ending ss p qs (c ∷ ts) rest → Steps ending (step ss p c) (ends ss p) c qs ts rest
place_goes ending ss (place.Between t) qs c ts rest g = between_goes ending ss t g.1 g.2 g.3
place_goes ending ss (place.Named n) qs c ts rest g = named_goes ending ss n g
place_goes ending ss (place.Reading goal r) qs c ts rest g = expression_steps ending ss goal r c g

named_left : (ending : Ending) (ss : List Statement) (n : List ℕ) (k : Kind) {qs : List PlainStatement} {s e : ℕ} {ts rest : List Token} → ListGoes ending (step ss (place.Named n) (tok k s e)) qs ts rest → NamedLeft ending ss qs rest n (tok k s e ∷ ts)
named_left ending ss n kind.Equals g = assigned_left g
named_left ending ss n k {qs = qs} {s = s} {e = e} {ts = ts} {rest = rest} g = read_left (expression_returns ending ss None (local n) (tok k s e) qs ts rest g)

place_left : (ending : Ending) (ss : List Statement) (p : ListPlace) (qs : List PlainStatement) (c : Token) (ts rest : List Token) → ListGoes ending (step ss p c) qs ts rest → PlaceLeft ending ss p qs (c ∷ ts) rest
place_left ending ss (place.Between t) qs c ts rest g = between_left ending ss t c.kind g
place_left ending ss (place.Named n) qs c ts rest g = named_left ending ss n c.kind g
place_left ending ss (place.Reading goal r) qs c ts rest g = expression_returns ending ss goal r c qs ts rest g

same_list : {a b : List Statement} → Some a ≡ Some b → b ≡ a
same_list e = cc

place_finished : (ending : Ending) (ss : List Statement) (p : ListPlace) (zs : List Statement) (qs : List PlainStatement) (ts rest : List Token) → ends ss p ≡ Some zs → qs ≡ plain_statements zs → Ends ending ts rest → PlaceLeft ending ss p qs ts rest
place_finished ending ss (place.Between t) zs qs ts rest e same en = ([], same ∙ ap plain_statements (same_list e) ∙ sym (none_more (plain_statements ss)), tt, list_ends en)
place_finished ending ss (place.Named n) zs qs ts rest e same en = read_left (final_finished ending ss None (local n) (Some (expression.Local n)) zs refl e same en)
place_finished ending ss (place.Reading goal r) zs qs ts rest e same en = final_finished ending ss goal r (expression_final r) zs refl e same en

named_ended : (ending : Ending) (ss : List Statement) (n : List ℕ) {qs : List PlainStatement} {rest : List Token} → NamedLeft ending ss qs rest n [] → Ends ending [] rest × Finished (ends ss (place.Named n)) qs
named_ended ending ss n (read_left g) = expression_ended ending ss None (local n) g

between_ended : (ending : Ending) (ss : List Statement) (t : Turn) {qs more : List PlainStatement} {rest : List Token} → qs ≡ plain_statements ss ++ more → Lists ending (turn_of t) more [] rest → Ends ending [] rest × Finished (Some ss) qs
between_ended ending ss t same l = let n = no_lists ending ss None t l in (n.1, finished_all ss (same ∙ ap (λ more. plain_statements ss ++ more) n.0))

place_ended : (ending : Ending) (ss : List Statement) (p : ListPlace) (qs : List PlainStatement) (rest : List Token) → PlaceLeft ending ss p qs [] rest → Ends ending [] rest × Finished (ends ss p) qs
place_ended ending ss (place.Between t) qs rest g = between_ended ending ss t g.1 g.3
place_ended ending ss (place.Named n) qs rest g = named_ended ending ss n g
place_ended ending ss (place.Reading goal r) qs rest g = expression_ended ending ss goal r g

-- a token of the list takes the reader on, or stands behind its end
pub list_goes : (ending : Ending) (r : ListReader) (qs : List PlainStatement) (c : Token) (ts rest : List Token) → ListLeft ending r qs (c ∷ ts) rest → Steps ending (list_next r c) (list_final r) c qs ts rest
list_goes ending r qs c ts rest g = place_goes ending r.statements r.place qs c ts rest g

-- what takes the reader on is a token of the list
pub list_left : (ending : Ending) (r : ListReader) (qs : List PlainStatement) (c : Token) (ts rest : List Token) → ListGoes ending (list_next r c) qs ts rest → ListLeft ending r qs (c ∷ ts) rest
list_left ending r qs c ts rest g = place_left ending r.statements r.place qs c ts rest g

-- a list that may end does so in front of its end
pub list_finished : (ending : Ending) (r : ListReader) (zs : List Statement) (qs : List PlainStatement) (ts rest : List Token) → list_final r ≡ Some zs → qs ≡ plain_statements zs → Ends ending ts rest → ListLeft ending r qs ts rest
list_finished ending r zs qs ts rest e same en = place_finished ending r.statements r.place zs qs ts rest e same en

-- what is left of a list where the text ends
pub list_ended : (ending : Ending) (r : ListReader) (qs : List PlainStatement) (rest : List Token) → ListLeft ending r qs [] rest → Ends ending [] rest × Finished (list_final r) qs
list_ended ending r qs rest g = place_ended ending r.statements r.place qs rest g
