-- What has to be known of a machine, so that it faults right behind the longest viable prefix.
use Rattle.std.proofs.Common.{ℕ, max, ◌≤◌, ◌≡◌, List, Option, Some}
use Rattle.viable_prefixes.specs.Runs.{reads, Each, OpenAtMost}
use Rattle.viable_prefixes.proofs.Goes.{Goes}

-- A machine with states `S` that takes tokens `T` one at a time and ends with an `X`, aside from limits. How much is open at a place is a `D`.
pub record Machine (S T X D : Type 0) : Type 1 where
  pub start : S
  pub next : S → T → Option S
  pub final : S → Option X
  -- what holds of each state that is met
  pub Valid : S → Type 0
  -- what the tokens must spell
  pub Written : X → List T → Type 0
  -- the limits of what is spelled
  pub tall : ℕ
  pub many : ℕ
  pub height : X → ℕ
  pub behind : D → T → D
  pub sure : D → ℕ
  pub Small : T → Type 0
  -- the least height of what goes on from a state, what is open there, and the least number that is reached by what goes on from it
  pub need : S → ℕ
  pub depth : S → D
  pub reach : S → ℕ

module _ {S T X D : Type 0} (m : Machine S T X D) where
  abbrev pub OpenFrom : D → List T → Type 0
  OpenFrom = OpenAtMost m.behind m.sure m.many

  -- what is spelled within the limits
  abbrev pub Text : X → List T → Type 0
  Text x ts = m.Written x ts × (m.height x ≤ m.tall) × OpenFrom (m.depth m.start) ts × Each m.Small ts

  -- a token led to this state, and something within the limits goes on from there
  abbrev pub Within : S → T → Type 0
  Within s t = (m.need s ≤ m.tall) × (m.reach s ≤ m.many) × m.Small t

  -- the machine took the tokens within the limits
  abbrev pub Took : List T → S → Type 0
  Took ts s = Goes m.next Within m.start ts s

  -- Tokens that lead on from a state to an end. They keep each limit that the state keeps.
  abbrev pub Finished : S → Type 0
  Finished s = (w : List T) × (x : X) × (reads m.next m.final s w ≡ Some x) × (m.need s ≤ m.tall → m.height x ≤ m.tall) × (m.reach s ≤ m.many → OpenFrom (m.depth s) w) × Each m.Small w

  pub record IsReader : Type 0 where
    pub sound : (x : X) (ts : List T) → reads m.next m.final m.start ts ≡ Some x → m.Written x ts
    pub complete : (x : X) (ts : List T) → m.Written x ts → reads m.next m.final m.start ts ≡ Some x
    pub valid_start : m.Valid m.start
    pub valid_next : (s : S) (t : T) (e : S) → m.Valid s → m.next s t ≡ Some e → m.Valid e
    pub need_start : m.need m.start ≤ m.tall
    pub need_next : (s : S) (t : T) (e : S) → m.Valid s → m.next s t ≡ Some e → m.need s ≤ m.need e
    pub need_final : (s : S) (x : X) → m.Valid s → m.final s ≡ Some x → m.need s ≤ m.height x
    pub height_final : (s : S) (x : X) → m.Valid s → m.final s ≡ Some x → m.need s ≤ m.tall → m.height x ≤ m.tall
    pub depth_next : (s : S) (t : T) (e : S) → m.Valid s → m.next s t ≡ Some e → m.depth e ≡ m.behind (m.depth s) t
    pub reach_start : m.reach m.start ≤ m.many
    pub sure_reach : (s : S) → m.Valid s → m.sure (m.depth s) ≤ m.reach s
    pub reach_next : (s : S) (t : T) (e : S) → m.Valid s → m.next s t ≡ Some e → m.reach s ≤ max (m.sure (m.depth s)) (m.reach e)
    pub reach_final : (s : S) (x : X) → m.Valid s → m.final s ≡ Some x → m.reach s ≤ m.sure (m.depth s)
    pub finish : (s : S) → m.Valid s → Finished s
