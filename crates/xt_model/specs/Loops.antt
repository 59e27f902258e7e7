-- The first loop where arcs make one.
use Rattle.std.specs.Prelude.{◌≡◌, ℕ, ◌+◌, ◌-◌, ◌<◌, List, length, drop, Some}
use Rattle.std.specs.List.{slice_get, slice_index}
use Rattle.xt_model.specs.declared.net.TimingArc.{TimingArc}
use Rattle.xt_model.specs.declared.net.Net.{Net}
use Rattle.xt_model.specs.Levels.{Reads}

-- net b is the input of the arc of number k into net a
abbrev pub IsInput : List Net → ℕ → ℕ → ℕ → Type 0
IsInput nets a k b =
    (n : Net) × (arc : TimingArc) × (slice_get nets a ≡ Some n) × (slice_get n.arcs k ≡ Some arc) × (arc.from.0 ≡ b)

-- from this net one can go on without end, at each net to the input of one of its arcs
abbrev pub IsEndless : List Net → ℕ → Type 0
IsEndless nets net = (walk : ℕ → ℕ) × (walk 0 ≡ net) × ((i : ℕ) → Reads nets (walk i) (walk (i + 1)))

-- the endless net of the least number
pub record IsLeastEndless (nets : List Net) (net : ℕ) : Type 0 where
  pub endless : IsEndless nets net
  pub least : (m : ℕ) → m < net → IsEndless nets m → ⊥

-- arc k into net a is its first whose input is endless, and net b is this input
pub record IsFirstEndless (nets : List Net) (a k b : ℕ) : Type 0 where
  pub input : IsInput nets a k b
  pub endless : IsEndless nets b
  pub first : (j c : ℕ) → j < k → IsInput nets a j c → IsEndless nets c → ⊥

-- the walk goes on from net a to net b
abbrev pub GoesTo : List Net → ℕ → ℕ → Type 0
GoesTo nets a b = (k : ℕ) × IsFirstEndless nets a k b

-- the walk from the least endless net, as far as each net on it is a new one: from its last net it goes on to the
-- net that stands at place `back` of it
pub record IsWalkBack (nets : List Net) (walk : List ℕ) (back : ℕ) : Type 0 where
  pub within : back < length walk
  pub starts : IsLeastEndless nets (slice_index walk 0)
  pub goes : (i : ℕ) → i + 1 < length walk → GoesTo nets (slice_index walk i) (slice_index walk (i + 1))
  pub once : (i j : ℕ) → i < j → j < length walk → slice_index walk i ≡ slice_index walk j → ⊥
  pub returns : GoesTo nets (slice_index walk (length walk - 1)) (slice_index walk back)

-- the first loop: the nets of this walk from place `back` on
abbrev pub IsFirstLoop : List Net → List ℕ → Type 0
IsFirstLoop nets loop = (walk : List ℕ) × (back : ℕ) × IsWalkBack nets walk back × (loop ≡ drop back walk)
