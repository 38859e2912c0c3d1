-- A method: a token of it takes the reader on, and no other does.
use Rattle.std.proofs.Common.{◌≡◌, ℕ, refl, sym, ◌∙◌, ap, subst, List, [], ◌∷◌, Option, Some, None}
use Rattle.ruby_tokens.specs.declared.token.Token.{Token}
use Rattle.ruby_tokens.specs.declared.token.Kind.{Kind}
use Rattle.ruby_tokens.specs.declared.token.Kind.TheVariants as kind
use Rattle.ruby_reader.specs.declared.tree.Statement.{Statement}
use Rattle.ruby_reader.specs.declared.tree.Definition.{Definition}
use Rattle.ruby_reader.specs.declared.progress.Turn.TheVariants as turn
use Rattle.ruby_reader.specs.declared.progress.Progress.{Progress}
use Rattle.ruby_reader.specs.declared.progress.Progress.TheVariants.{Reading, Read}
use Rattle.ruby_reader.specs.declared.list.ListReader.{ListReader}
use Rattle.ruby_reader.specs.declared.parameters.ParametersReader.{ParametersReader}
use Rattle.ruby_reader.specs.declared.method.Head.{Head}
use Rattle.ruby_reader.specs.declared.method.MethodReader.{MethodReader}
use Rattle.ruby_reader.specs.declared.method.MethodReader.TheVariants as method
use Rattle.ruby_reader.specs.PlainTree.{PlainStatement, PlainDefinition}
use Rattle.ruby_reader.specs.PlainLaws.{plain_statements, plain_definition}
use Rattle.ruby_reader.specs.Heights.{AreLow}
use Rattle.ruby_reader.specs.Grammar.{tok, free, taken, break_newline, break_semicolon, body, Ends, ends_body, Lists, list_ends, list_break, Parens, Defines, define_bare, define_parens}
use Rattle.ruby_reader.specs.ListMachine as list
use Rattle.ruby_reader.specs.ParametersMachine.{parameters_next}
use Rattle.ruby_reader.specs.MethodMachine.{method_next, in_body, with_body, with_statements, with_parameters}
use Rattle.ruby_reader.proofs.Steps.{Goes, Reaches}
use Rattle.ruby_reader.proofs.Lists.{ListLeft, ListGoes, Finished, Steps, goes, stops, list_goes, list_left, list_finished, list_ended}
use Rattle.ruby_reader.proofs.EndStops.{end_stops}
use Rattle.ruby_reader.proofs.ParameterLists.{ParametersLeft, parameters_goes, parameters_left, parameters_end}

-- a method of this head
abbrev pub plain_defined : Head → List (List ℕ) → List PlainStatement → PlainDefinition
plain_defined h ps ss = record { name = h.name; start = h.start; parameters = ps; body = ss }

-- what is left of the method `d` behind its name
pub data HeadLeft (h : Head) (d : PlainDefinition) : List Token → List Token → Type 0 where
  bare_left : {ss : List PlainStatement} {ts rest : List Token} → d ≡ plain_defined h [] ss → AreLow ss → Lists body taken ss ts rest → HeadLeft h d ts rest
  parens_left : {ps : List (List ℕ)} {ss : List PlainStatement} {s e : ℕ} {ts mid rest : List Token} → d ≡ plain_defined h ps ss → Parens ps ts mid → AreLow ss → Lists body free ss mid rest
      → HeadLeft h d (tok kind.Open s e ∷ ts) rest

-- what is left of the method `d` behind its `def`
pub data NameLeft (start : ℕ) (d : PlainDefinition) : List Token → List Token → Type 0 where
  name_left : {m : List ℕ} {s e : ℕ} {ts rest : List Token} → HeadLeft (record { name = m; start = start }) d ts rest → NameLeft start d (tok (kind.Name m) s e ∷ ts) rest

-- what is left of the method `d` in its body
abbrev pub BodyLeft : Head → List (List ℕ) → ListReader → PlainDefinition → List Token → List Token → Type 0
BodyLeft h ps r d ts rest = (ss : List PlainStatement) × (d ≡ plain_defined h ps ss) × ListLeft body r ss ts rest

-- what is left of the method `d`
abbrev pub MethodLeft : MethodReader → PlainDefinition → List Token → List Token → Type 0
MethodLeft (method.Def start) d ts rest = NameLeft start d ts rest
MethodLeft (method.Named h) d ts rest = HeadLeft h d ts rest
MethodLeft (method.Parameters h r) d ts rest = (ps : List (List ℕ)) × (ss : List PlainStatement) × (mid : List Token) × (d ≡ plain_defined h ps ss) × ParametersLeft r ps ts mid × AreLow ss × Lists body free ss mid rest
MethodLeft (method.Body h ps r) d ts rest = BodyLeft h ps r d ts rest

abbrev pub MethodGoes : Option (Progress MethodReader Definition) → PlainDefinition → List Token → List Token → Type 0
MethodGoes o d ts rest = Reaches plain_definition MethodLeft o d ts rest

def_goes : (start : ℕ) {d : PlainDefinition} {k : Kind} {s e : ℕ} {ts rest : List Token} → NameLeft start d (tok k s e ∷ ts) rest → MethodGoes (method_next (method.Def start) (tok k s e)) d ts rest
def_goes start (name_left h) = h

on_goes : (h : Head) (ps : List (List ℕ)) (o : Option ListReader) (d : PlainDefinition) (ss : List PlainStatement) (ts rest : List Token) → d ≡ plain_defined h ps ss → ListGoes body o ss ts rest → MethodGoes (with_body h ps o) d ts rest
on_goes h ps None d ss ts rest same g = absurd g
on_goes h ps (Some r) d ss ts rest same g = (ss, same, g)

step_goes : (h : Head) (ps : List (List ℕ)) (r : ListReader) (k : Kind) (s e : ℕ) (d : PlainDefinition) (ss : List PlainStatement) (ts rest : List Token) → d ≡ plain_defined h ps ss → ListGoes body (list.list_next r (tok k s e)) ss ts rest
    → MethodGoes (in_body h ps r (tok k s e)) d ts rest
step_goes h ps r kind.End s e d ss ts rest same g = absurd (end_stops body r.statements r.place s e ss ts rest g)
step_goes h ps r k s e d ss ts rest same g = on_goes h ps (list.list_next r (tok k s e)) d ss ts rest same g

end_goes : (h : Head) (ps : List (List ℕ)) (r : ListReader) {d : PlainDefinition} {ss : List PlainStatement} {k : Kind} {s e : ℕ} {ts rest : List Token} → d ≡ plain_defined h ps ss → Ends body (tok k s e ∷ ts) rest → Finished (list.list_final r) ss
    → MethodGoes (in_body h ps r (tok k s e)) d ts rest
end_goes h ps r {d = d} {ts = ts} same ends_body is = subst (λ o. MethodGoes (with_statements h ps o) d ts ts) (sym is.1) (same ∙ ap (plain_defined h ps) is.2, refl)

body_goes : (h : Head) (ps : List (List ℕ)) (r : ListReader) (d : PlainDefinition) (ss : List PlainStatement) (c : Token) (ts rest : List Token) → d ≡ plain_defined h ps ss → Steps body (list.list_next r c) (list.list_final r) c ss ts rest
    → MethodGoes (in_body h ps r c) d ts rest
body_goes h ps r d ss c ts rest same (goes g) = step_goes h ps r c.kind c.start c.end d ss ts rest same g
body_goes h ps r d ss c ts rest same (stops en is) = end_goes h ps r same en is

-- before a body without parentheses stands a newline or a `;`
bare_goes : (h : Head) {d : PlainDefinition} {ss : List PlainStatement} {k : Kind} {s e : ℕ} {ts rest : List Token} → d ≡ plain_defined h [] ss → AreLow ss → Lists body taken ss (tok k s e ∷ ts) rest → MethodGoes (method_next (method.Named h) (tok k s e)) d ts rest
bare_goes h same low (list_ends ends_body) = (same, refl)
bare_goes h {ss = ss} same low (list_break break_newline l) = (ss, same, (ss, refl, low, l))
bare_goes h {ss = ss} same low (list_break break_semicolon l) = (ss, same, (ss, refl, low, l))

head_goes : (h : Head) {d : PlainDefinition} {k : Kind} {s e : ℕ} {ts rest : List Token} → HeadLeft h d (tok k s e ∷ ts) rest → MethodGoes (method_next (method.Named h) (tok k s e)) d ts rest
head_goes h (bare_left same low l) = bare_goes h same low l
head_goes h (parens_left {ps = ps} {ss = ss} {mid = mid} same p low l) = (ps, ss, mid, same, (ps, refl, p), low, l)

with_goes : (h : Head) (o : Option (Progress ParametersReader (List (List ℕ)))) (d : PlainDefinition) (ps : List (List ℕ)) (ss : List PlainStatement) (ts mid rest : List Token)
    → d ≡ plain_defined h ps ss → Goes ParametersLeft o ps ts mid → AreLow ss → Lists body free ss mid rest → MethodGoes (with_parameters h o) d ts rest
with_goes h None d ps ss ts mid rest same g low l = absurd g
with_goes h (Some (Reading r)) d ps ss ts mid rest same g low l = (ps, ss, mid, same, g, low, l)
with_goes h (Some (Read qs)) d ps ss ts mid rest same g low l =
    (ss, same ∙ ap (λ qs. plain_defined h qs ss) g.0, (ss, refl, low, subst (λ us. Lists body free ss us rest) (sym g.1) l))

-- a token of the method takes the reader on
pub method_goes : (m : MethodReader) (d : PlainDefinition) (c : Token) (ts rest : List Token) → MethodLeft m d (c ∷ ts) rest → MethodGoes (method_next m c) d ts rest
method_goes (method.Def start) d c ts rest g = def_goes start g
method_goes (method.Named h) d c ts rest g = head_goes h g
method_goes (method.Parameters h r) d c ts rest g = with_goes h (parameters_next r c) d g.0 g.1 ts g.2 rest g.3 (parameters_goes r g.0 c ts g.2 g.4) g.5 g.6
method_goes (method.Body h ps r) d c ts rest g = body_goes h ps r d g.0 c ts rest g.1 (list_goes body r g.0 c ts rest g.2)

def_left : (start : ℕ) (k : Kind) {d : PlainDefinition} {s e : ℕ} {ts rest : List Token} → MethodGoes (method_next (method.Def start) (tok k s e)) d ts rest → NameLeft start d (tok k s e ∷ ts) rest
def_left start (kind.Name m) g = name_left g
def_left start _ g = absurd g

end_left : (h : Head) (ps : List (List ℕ)) (r : ListReader) (o : Option (List Statement)) (s e : ℕ) (d : PlainDefinition) (ts rest : List Token) → list.list_final r ≡ o → MethodGoes (with_statements h ps o) d ts rest
    → BodyLeft h ps r d (tok kind.End s e ∷ ts) rest
end_left h ps r None s e d ts rest is g = absurd g
end_left h ps r (Some zs) s e d ts rest is g =
    (plain_statements zs, g.0, list_finished body r zs (plain_statements zs) (tok kind.End s e ∷ ts) rest is refl (subst (λ us. Ends body (tok kind.End s e ∷ ts) us) g.1 ends_body))

on_left : (h : Head) (ps : List (List ℕ)) (o : Option ListReader) (d : PlainDefinition) (ts rest : List Token) → MethodGoes (with_body h ps o) d ts rest → (ss : List PlainStatement) × (d ≡ plain_defined h ps ss) × ListGoes body o ss ts rest
on_left h ps None d ts rest g = absurd g
on_left h ps (Some r) d ts rest g = g

step_left : (h : Head) (ps : List (List ℕ)) (r : ListReader) (c : Token) (d : PlainDefinition) (ts rest : List Token) → MethodGoes (with_body h ps (list.list_next r c)) d ts rest → BodyLeft h ps r d (c ∷ ts) rest
step_left h ps r c d ts rest g = let w = on_left h ps (list.list_next r c) d ts rest g in (w.0, w.1, list_left body r w.0 c ts rest w.2)

body_left : (h : Head) (ps : List (List ℕ)) (r : ListReader) (k : Kind) (s e : ℕ) (d : PlainDefinition) (ts rest : List Token) → MethodGoes (in_body h ps r (tok k s e)) d ts rest → BodyLeft h ps r d (tok k s e ∷ ts) rest
body_left h ps r kind.End s e d ts rest g = end_left h ps r (list.list_final r) s e d ts rest refl g
body_left h ps r k s e d ts rest g = step_left h ps r (tok k s e) d ts rest g

bare_of_body : (h : Head) {d : PlainDefinition} {ts rest : List Token} → BodyLeft h [] (list.start turn.Taken) d ts rest → HeadLeft h d ts rest
bare_of_body h {ts = ts} {rest = rest} g = bare_left g.1 (subst AreLow (sym g.2.1) g.2.2) (subst (λ ss. Lists body taken ss ts rest) (sym g.2.1) g.2.3)

bare_of_left : (h : Head) (k : Kind) (s e : ℕ) (d : PlainDefinition) (ts rest : List Token) → MethodGoes (in_body h [] (list.start turn.Taken) (tok k s e)) d ts rest → HeadLeft h d (tok k s e ∷ ts) rest
bare_of_left h k s e d ts rest g = bare_of_body h (body_left h [] (list.start turn.Taken) k s e d ts rest g)

head_left : (h : Head) (k : Kind) {d : PlainDefinition} {s e : ℕ} {ts rest : List Token} → MethodGoes (method_next (method.Named h) (tok k s e)) d ts rest → HeadLeft h d (tok k s e ∷ ts) rest
head_left h kind.Open {ts = ts} g = parens_left g.3 (subst (λ ps. Parens ps ts g.2) (sym g.4.1) g.4.2) g.5 g.6
head_left h k {d = d} {s = s} {e = e} {ts = ts} {rest = rest} g = bare_of_left h k s e d ts rest g

with_left : (h : Head) (o : Option (Progress ParametersReader (List (List ℕ)))) (d : PlainDefinition) (ts rest : List Token) → MethodGoes (with_parameters h o) d ts rest
    → (ps : List (List ℕ)) × (ss : List PlainStatement) × (mid : List Token) × (d ≡ plain_defined h ps ss) × Goes ParametersLeft o ps ts mid × AreLow ss × Lists body free ss mid rest
with_left h None d ts rest g = absurd g
with_left h (Some (Reading r)) d ts rest g = g
with_left h (Some (Read qs)) d ts rest g = (qs, g.0, ts, g.1, (refl, refl), subst AreLow (sym g.2.1) g.2.2, subst (λ ss. Lists body free ss ts rest) (sym g.2.1) g.2.3)

-- what takes the reader on is a token of the method
pub method_left : (m : MethodReader) (d : PlainDefinition) (c : Token) (ts rest : List Token) → MethodGoes (method_next m c) d ts rest → MethodLeft m d (c ∷ ts) rest
method_left (method.Def start) d c ts rest g = def_left start c.kind g
method_left (method.Named h) d c ts rest g = head_left h c.kind g
method_left (method.Parameters h r) d c ts rest g = let w = with_left h (parameters_next r c) d ts rest g in (w.0, w.1, w.2, w.3, parameters_left r w.0 c ts w.2 w.4, w.5, w.6)
method_left (method.Body h ps r) d c ts rest g = body_left h ps r c.kind c.start c.end d ts rest g

no_names : {start : ℕ} {d : PlainDefinition} {rest : List Token} → NameLeft start d [] rest → ⊥
no_names g = elim g [ ]

no_ends : {rest : List Token} → Ends body [] rest → ⊥
no_ends en = elim en [ ]

no_lists : {ss : List PlainStatement} {rest : List Token} → Lists body taken ss [] rest → ⊥
no_lists (list_ends en) = no_ends en

no_heads : {h : Head} {d : PlainDefinition} {rest : List Token} → HeadLeft h d [] rest → ⊥
no_heads (bare_left same low l) = no_lists l

-- no method ends with the text
pub method_ends : (m : MethodReader) (d : PlainDefinition) (rest : List Token) → MethodLeft m d [] rest → ⊥
method_ends (method.Def start) d rest g = no_names g
method_ends (method.Named h) d rest g = no_heads g
method_ends (method.Parameters h r) d rest g = parameters_end r g.0 g.2 g.4
method_ends (method.Body h ps r) d rest g = let w = list_ended body r g.0 rest g.2 in no_ends w.0

-- what stands behind a `def`
pub name_of_define : {d : PlainDefinition} {k : Kind} {s e : ℕ} {ts rest : List Token} → Defines d (tok k s e ∷ ts) rest → AreLow d.body → (k ≡ kind.Def) × NameLeft s d ts rest
name_of_define (define_bare l) low = (refl, name_left (bare_left refl low l))
name_of_define (define_parens p l) low = (refl, name_left (parens_left refl p low l))

define_head : {m : List ℕ} {d : PlainDefinition} {s1 e1 s2 e2 : ℕ} {ts rest : List Token} → HeadLeft (record { name = m; start = s1 }) d ts rest → Defines d (tok kind.Def s1 e1 ∷ tok (kind.Name m) s2 e2 ∷ ts) rest × AreLow d.body
define_head {m = m} {s1 = s1} {e1 = e1} {s2 = s2} {e2 = e2} (bare_left {ts = ts} {rest = rest} same low l) =
    subst (λ d. Defines d (tok kind.Def s1 e1 ∷ tok (kind.Name m) s2 e2 ∷ ts) rest × AreLow d.body) (sym same) (define_bare l, low)
define_head {m = m} {s1 = s1} {e1 = e1} {s2 = s2} {e2 = e2} (parens_left {s = s} {e = e} {ts = ts} {rest = rest} same p low l) =
    subst (λ d. Defines d (tok kind.Def s1 e1 ∷ tok (kind.Name m) s2 e2 ∷ tok kind.Open s e ∷ ts) rest × AreLow d.body) (sym same) (define_parens p l, low)

pub define_of_name : {d : PlainDefinition} {s e : ℕ} {ts rest : List Token} → NameLeft s d ts rest → Defines d (tok kind.Def s e ∷ ts) rest × AreLow d.body
define_of_name (name_left h) = define_head h
