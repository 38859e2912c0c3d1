-- A class: a token of it takes the reader on, and no other does.
use Rattle.std.proofs.Common.{◌≡◌, ℕ, refl, sym, ◌∙◌, ap, subst, List, [], ◌∷◌, ◌++◌, Option, Some, None}
use Rattle.std.specs.List.{AllByRecursion}
use Rattle.ruby_tokens.specs.declared.token.Token.{Token}
use Rattle.ruby_tokens.specs.declared.token.Kind.{Kind}
use Rattle.ruby_tokens.specs.declared.token.Kind.TheVariants as kind
use Rattle.ruby_reader.specs.declared.tree.Definition.{Definition}
use Rattle.ruby_reader.specs.declared.tree.Opening.{Opening}
use Rattle.ruby_reader.specs.declared.progress.Turn.{Turn}
use Rattle.ruby_reader.specs.declared.progress.Turn.TheVariants as turn
use Rattle.ruby_reader.specs.declared.progress.Progress.{Progress}
use Rattle.ruby_reader.specs.declared.progress.Progress.TheVariants.{Reading, Read}
use Rattle.ruby_reader.specs.declared.method.MethodReader.{MethodReader}
use Rattle.ruby_reader.specs.declared.class.ClassReader.{ClassReader}
use Rattle.ruby_reader.specs.declared.class.ClassReader.TheVariants as class
use Rattle.ruby_reader.specs.PlainTree.{PlainDefinition, PlainOpening}
use Rattle.ruby_reader.specs.PlainLaws.{plain_definition, plain_definitions, plain_opening}
use Rattle.ruby_reader.specs.Heights.{AreLow}
use Rattle.ruby_reader.specs.Grammar.{tok, taken, break_newline, break_semicolon, Methods, methods_end, methods_break, methods_note, methods_more, Defines, Opens, opens}
use Rattle.ruby_reader.specs.MethodMachine.{method_next}
use Rattle.ruby_reader.specs.ClassMachine.{class_next, with_method, with_definition}
use Rattle.ruby_reader.proofs.Steps.{turn_of, Reaches, map_more, none_more}
use Rattle.ruby_reader.proofs.Methods.{MethodLeft, MethodGoes, NameLeft, method_goes, method_left, method_ends, name_of_define, define_of_name}

-- a class with these methods behind those that it has
abbrev pub with_more : Opening → List PlainDefinition → PlainOpening
with_more o ds = record { name = o.name; start = o.start; definitions = plain_definitions o.definitions ++ ds }

abbrev pub LowMethods : List PlainDefinition → Type 0
LowMethods ds = AllByRecursion (λ (d : PlainDefinition). AreLow d.body) ds

-- what is left of the class `p` behind its `class`
pub data TitleLeft (start : ℕ) (p : PlainOpening) : List Token → List Token → Type 0 where
  title_left : {n : List ℕ} {ds : List PlainDefinition} {s e : ℕ} {ts rest : List Token} → p ≡ record { name = n; start = start; definitions = ds } → LowMethods ds → Methods taken ds ts rest → TitleLeft start p (tok (kind.Upper n) s e ∷ ts) rest

-- what is left of the class `p`
abbrev pub ClassLeft : ClassReader → PlainOpening → List Token → List Token → Type 0
ClassLeft (class.Class start) p ts rest = TitleLeft start p ts rest
ClassLeft (class.Between o t) p ts rest = (ds : List PlainDefinition) × (p ≡ with_more o ds) × LowMethods ds × Methods (turn_of t) ds ts rest
ClassLeft (class.Method o m) p ts rest = (d : PlainDefinition) × (ds : List PlainDefinition) × (mid : List Token) × (p ≡ with_more o (d ∷ ds)) × LowMethods ds × MethodLeft m d ts mid × Methods taken ds mid rest

abbrev pub ClassGoes : Option (Progress ClassReader Opening) → PlainOpening → List Token → List Token → Type 0
ClassGoes o p ts rest = Reaches plain_opening ClassLeft o p ts rest

with_more_after : (o : Opening) (d : Definition) (ds : List PlainDefinition) → with_more (with_definition o d) ds ≡ with_more o (plain_definition d ∷ ds)
with_more_after o d ds = ap (λ es. record { name = o.name; start = o.start; definitions = es }) (map_more plain_definition o.definitions d ds)

with_none : (o : Opening) → with_more o [] ≡ plain_opening o
with_none o = ap (λ es. record { name = o.name; start = o.start; definitions = es }) (none_more (plain_definitions o.definitions))

title_goes : (start : ℕ) {p : PlainOpening} {k : Kind} {s e : ℕ} {ts rest : List Token} → TitleLeft start p (tok k s e ∷ ts) rest → ClassGoes (class_next (class.Class start) (tok k s e)) p ts rest
title_goes start (title_left {ds = ds} same low ms) = (ds, same, low, ms)

begin_goes : (o : Opening) {p : PlainOpening} {d : PlainDefinition} {ds : List PlainDefinition} {k : Kind} {s : ℕ} (e : ℕ) {ts mid rest : List Token} → p ≡ with_more o (d ∷ ds) → (k ≡ kind.Def) × NameLeft s d ts mid → LowMethods ds → Methods taken ds mid rest
    → ClassGoes (class_next (class.Between o turn.Free) (tok k s e)) p ts rest
begin_goes o {p = p} {d = d} {ds = ds} {s = s} e {ts = ts} {mid = mid} {rest = rest} same n low ms =
    subst (λ k. ClassGoes (class_next (class.Between o turn.Free) (tok k s e)) p ts rest) (sym n.0) (d, ds, mid, same, low, n.1, ms)

between_goes : (o : Opening) (t : Turn) {p : PlainOpening} {ds : List PlainDefinition} {k : Kind} {s e : ℕ} {ts rest : List Token} → p ≡ with_more o ds → LowMethods ds → Methods (turn_of t) ds (tok k s e ∷ ts) rest
    → ClassGoes (class_next (class.Between o t) (tok k s e)) p ts rest
between_goes o turn.Free same low methods_end = (same ∙ with_none o, refl)
between_goes o turn.Free {ds = ds} same low (methods_break break_newline ms) = (ds, same, low, ms)
between_goes o turn.Free {ds = ds} same low (methods_break break_semicolon ms) = (ds, same, low, ms)
between_goes o turn.Free {ds = ds} same low (methods_note ms) = (ds, same, low, ms)
between_goes o turn.Free {e = e} same low (methods_more d ms) = begin_goes o e same (name_of_define d low.0) low.1 ms
between_goes o turn.Taken same low methods_end = (same ∙ with_none o, refl)
between_goes o turn.Taken {ds = ds} same low (methods_break break_newline ms) = (ds, same, low, ms)
between_goes o turn.Taken {ds = ds} same low (methods_break break_semicolon ms) = (ds, same, low, ms)
between_goes o turn.Taken {ds = ds} same low (methods_note ms) = (ds, same, low, ms)

with_goes : (o : Opening) (r : Option (Progress MethodReader Definition)) (p : PlainOpening) (d : PlainDefinition) (ds : List PlainDefinition) (ts mid rest : List Token)
    → p ≡ with_more o (d ∷ ds) → LowMethods ds → MethodGoes r d ts mid → Methods taken ds mid rest → ClassGoes (with_method o r) p ts rest
with_goes o None p d ds ts mid rest same low g ms = absurd g
with_goes o (Some (Reading m)) p d ds ts mid rest same low g ms = (d, ds, mid, same, low, g, ms)
with_goes o (Some (Read f)) p d ds ts mid rest same low g ms =
    (ds, same ∙ ap (λ x. with_more o (x ∷ ds)) g.0 ∙ sym (with_more_after o f ds), low, subst (λ us. Methods taken ds us rest) (sym g.1) ms)

-- a token of the class takes the reader on
pub class_goes : (r : ClassReader) (p : PlainOpening) (c : Token) (ts rest : List Token) → ClassLeft r p (c ∷ ts) rest → ClassGoes (class_next r c) p ts rest
class_goes (class.Class start) p c ts rest g = title_goes start g
class_goes (class.Between o t) p c ts rest g = between_goes o t g.1 g.2 g.3
class_goes (class.Method o m) p c ts rest g = with_goes o (method_next m c) p g.0 g.1 ts g.2 rest g.3 g.4 (method_goes m g.0 c ts g.2 g.5) g.6

title_of_left : (start : ℕ) (k : Kind) {p : PlainOpening} {s e : ℕ} {ts rest : List Token} → ClassGoes (class_next (class.Class start) (tok k s e)) p ts rest → TitleLeft start p (tok k s e ∷ ts) rest
title_of_left start (kind.Upper n) g = title_left g.1 g.2 g.3
title_of_left start _ g = absurd g

between_left : (o : Opening) (t : Turn) (k : Kind) {p : PlainOpening} {s e : ℕ} {ts rest : List Token} → ClassGoes (class_next (class.Between o t) (tok k s e)) p ts rest
    → (ds : List PlainDefinition) × (p ≡ with_more o ds) × LowMethods ds × Methods (turn_of t) ds (tok k s e ∷ ts) rest
between_left o t kind.End {s = s} {e = e} {ts = ts} g = ([], g.0 ∙ sym (with_none o), tt, subst (λ us. Methods (turn_of t) [] (tok kind.End s e ∷ ts) us) g.1 methods_end)
between_left o t kind.Newline g = (g.0, g.1, g.2, methods_break break_newline g.3)
between_left o t kind.Semicolon g = (g.0, g.1, g.2, methods_break break_semicolon g.3)
between_left o t kind.TypeNote g = (g.0, g.1, g.2, methods_note g.3)
between_left o turn.Free kind.Def g = let d = define_of_name g.5 in (g.0 ∷ g.1, g.3, (d.1, g.4), methods_more d.0 g.6)
between_left o turn.Taken kind.Def g = absurd g
between_left o t _ g = absurd g

with_left : (o : Opening) (r : Option (Progress MethodReader Definition)) (p : PlainOpening) (ts rest : List Token) → ClassGoes (with_method o r) p ts rest
    → (d : PlainDefinition) × (ds : List PlainDefinition) × (mid : List Token) × (p ≡ with_more o (d ∷ ds)) × LowMethods ds × MethodGoes r d ts mid × Methods taken ds mid rest
with_left o None p ts rest g = absurd g
with_left o (Some (Reading m)) p ts rest g = g
with_left o (Some (Read f)) p ts rest g = (plain_definition f, g.0, ts, g.1 ∙ with_more_after o f g.0, g.2, (refl, refl), g.3)

-- what takes the reader on is a token of the class
pub class_left : (r : ClassReader) (p : PlainOpening) (c : Token) (ts rest : List Token) → ClassGoes (class_next r c) p ts rest → ClassLeft r p (c ∷ ts) rest
class_left (class.Class start) p c ts rest g = title_of_left start c.kind g
class_left (class.Between o t) p c ts rest g = between_left o t c.kind g
class_left (class.Method o m) p c ts rest g = let w = with_left o (method_next m c) p ts rest g in (w.0, w.1, w.2, w.3, w.4, method_left m w.0 c ts w.2 w.5, w.6)

no_titles : {start : ℕ} {p : PlainOpening} {rest : List Token} → TitleLeft start p [] rest → ⊥
no_titles g = elim g [ ]

no_defines : {d : PlainDefinition} {rest : List Token} → Defines d [] rest → ⊥
no_defines g = elim g [ ]

no_methods : (t : Turn) {ds : List PlainDefinition} {rest : List Token} → Methods (turn_of t) ds [] rest → ⊥
no_methods turn.Free (methods_more d ms) = no_defines d
no_methods turn.Taken g = elim g [ ]

-- no class ends with the text in it
pub class_ends : (r : ClassReader) (p : PlainOpening) (rest : List Token) → ClassLeft r p [] rest → ⊥
class_ends (class.Class start) p rest g = no_titles g
class_ends (class.Between o t) p rest g = no_methods t g.3
class_ends (class.Method o m) p rest g = method_ends m g.0 g.2 g.5

-- what stands behind a `class`
pub title_of_opens : {p : PlainOpening} {k : Kind} {s e : ℕ} {ts rest : List Token} → Opens p (tok k s e ∷ ts) rest → LowMethods p.definitions → (k ≡ kind.Class) × TitleLeft s p ts rest
title_of_opens (opens ms) low = (refl, title_left refl low ms)

pub opens_of_title : {p : PlainOpening} {s e : ℕ} {ts rest : List Token} → TitleLeft s p ts rest → Opens p (tok kind.Class s e ∷ ts) rest × LowMethods p.definitions
opens_of_title {s = s} {e = e} (title_left {n = n} {s = s2} {e = e2} {ts = ts} {rest = rest} same low ms) =
    subst (λ p. Opens p (tok kind.Class s e ∷ tok (kind.Upper n) s2 e2 ∷ ts) rest × LowMethods p.definitions) (sym same) (opens ms, low)
