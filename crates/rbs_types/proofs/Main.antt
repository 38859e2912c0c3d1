-- The reader of types within the limits: the one type that tokens spell, or the place right behind the longest front with which such a text begins.
use Rattle.std.proofs.Common.{ℕ, ◌+◌, ◌<◌, ◌≡◌, List, [], ◌∷◌, ◌++◌, take, length, Some, None, arith}
use Rattle.rbs_terminals.specs.declared.token.Token.{Token}
use Rattle.sig_model.specs.PlainTy.{PlainTy}
use Rattle.sig_model.specs.Height.{height}
use Rattle.rbs_types.specs.declared.state.State.{State}
use Rattle.rbs_types.specs.Machine.{start, next, final}
use Rattle.rbs_types.specs.Depth.{Depth, behind}
use Rattle.rbs_types.specs.Needs.{need, depth, reach}
use Rattle.rbs_types.specs.Limits.{IsSmall, IsWritten, IsText, IsFaultyType, IsWithin}
use Rattle.viable_prefixes.specs.Prefixes.{IsFault}
use Rattle.viable_prefixes.proofs.Machines.{Machine, IsReader, Text}
use Rattle.viable_prefixes.proofs.Goes.{Goes}
use Rattle.viable_prefixes.proofs.Prefixes as prefixes
use Rattle.rbs_types.proofs.Complete.{complete}
use Rattle.rbs_types.proofs.Sound.{sound}
use Rattle.rbs_types.proofs.Needs.{need_next, need_final}
use Rattle.rbs_types.proofs.Depths.{depth_next, sure_reach, reach_next, reach_final}
use Rattle.rbs_types.proofs.Finish.{finish_reads}

abbrev pub types : Machine State Token PlainTy Depth
types = record {
  start = start;
  next = next;
  final = final;
  Valid = λ s. Unit {0};
  Written = IsWritten;
  tall = 200;
  many = 400;
  height = height;
  behind = behind;
  sure = λ d. d.sure;
  Small = IsSmall;
  need = need;
  depth = depth;
  reach = reach;
}

pub types_are_read : IsReader types
types_are_read = record {
  sound = sound;
  complete = complete;
  valid_start = tt;
  valid_next = λ s c m v e. tt;
  need_start = omega arith;
  need_next = λ s c m v e. need_next s c m e;
  need_final = λ s t v e. omega (arith, need_final s t e);
  height_final = λ s t v e low. omega (arith, need_final s t e, low);
  depth_next = λ s c m v e. depth_next s c m e;
  reach_start = omega arith;
  sure_reach = λ s v. sure_reach s;
  reach_next = λ s c m v e. reach_next s c m e;
  reach_final = λ s t v e. reach_final s t e;
  finish = λ s v. let (w, t, e, tall, within, small) = finish_reads s in (w, t, e, λ low. omega (arith, tall, low), within 400, small);
}

-- the tokens spell one type, if any
pub types_are_spelled_once : (t u : PlainTy) (ts : List Token) → IsWritten t ts → IsWritten u ts → t ≡ u
types_are_spelled_once = prefixes.spelled_once types types_are_read

-- the reader took the tokens within the limits
abbrev pub Took : List Token → State → Type 0
Took ts s = Goes next IsWithin start ts s

pub took_more : (ts : List Token) (n : ℕ) (s m : State) (c : Token) → Took (take n ts) s → take (n + 1) ts ≡ take n ts ++ c ∷ [] → next s c ≡ Some m → IsWithin m c → Took (take (n + 1) ts) m
took_more = prefixes.took_more types types_are_read

-- ---- the limits of a text, by their names

is_text : (t : PlainTy) (ts : List Token) → Text types t ts → IsText t ts
is_text t ts h = record { written = h.0; height = h.1; nested = h.2; small = h.3 }

of_text : (t : PlainTy) (ts : List Token) → IsText t ts → Text types t ts
of_text t ts h = (h.written, h.height, h.nested, h.small)

named : (ts : List Token) (n : ℕ) (limit : Type 0) → IsFault (Text types) IsWritten ts n limit → IsFaultyType ts n limit
named ts n limit = prefixes.text_is (Text types) IsText IsWritten ts n limit is_text of_text

-- the same fault, where a passed limit is said in other words
pub fault_when : (ts : List Token) (n : ℕ) (a b : Type 0) → (a → b) → (b → a) → IsFaultyType ts n a → IsFaultyType ts n b
fault_when = prefixes.limit_is IsText IsWritten

-- ---- how reading ends

-- All tokens were taken, and a type is whole: it is the one that they spell.
pub whole_type : (ts : List Token) (s : State) (t : PlainTy) → Took ts s → final s ≡ Some t → IsText t ts × ((u : PlainTy) → IsText u ts → u ≡ t)
whole_type ts s t took e = let h = prefixes.whole types types_are_read ts s t took e in (is_text t ts h.0, λ u k. h.1 u (of_text u ts k))

-- All tokens were taken, and no type is whole.
pub unfinished_type : (ts : List Token) (s : State) → Took ts s → final s ≡ None → IsFaultyType ts (length ts) ⊥
unfinished_type ts s took e = named ts (length ts) ⊥ (prefixes.unfinished types types_are_read ts s took e)

-- The token behind the first `n` is refused.
pub refused_type : (ts : List Token) (n : ℕ) (s : State) (c : Token) → Took (take n ts) s → n < length ts → take (n + 1) ts ≡ take n ts ++ c ∷ [] → next s c ≡ None → IsFaultyType ts n ⊥
refused_type ts n s c took lt is e = named ts n ⊥ (prefixes.refused types types_are_read ts n s c took lt is e)

-- The token behind the first `n` is taken, but passes a limit.
pub past_type : (ts : List Token) (n : ℕ) (s m : State) (c : Token) → Took (take n ts) s → n < length ts → take (n + 1) ts ≡ take n ts ++ c ∷ [] → next s c ≡ Some m → (IsWithin m c → ⊥)
    → IsFaultyType ts n (Unit {0})
past_type ts n s m c took lt is e past = named ts n (Unit {0}) (prefixes.past types types_are_read ts n s m c took lt is e past)
