-- Levels of nets, the order by level, pairs of coupled nets, and the bound on rounds.
use Rattle.std.specs.Prelude.{◌≡◌, ℕ, ◌+◌, ◌*◌, ◌-◌, ◌<◌, ◌⊎◌, List, [], ◌∷◌, length, map, Some, max, ◌↔◌}
use Rattle.std.specs.List.{slice_get, slice_index, Contains}
use Rattle.xt_model.specs.declared.net.Coupling.{Coupling}
use Rattle.xt_model.specs.declared.net.TimingArc.{TimingArc}
use Rattle.xt_model.specs.declared.net.Net.{Net}

-- the greatest of a list of numbers, 0 for none
abbrev pub greatest_of : List ℕ → ℕ
greatest_of [] = 0
greatest_of (n ∷ more) = max n (greatest_of more)

-- one level above the highest input of the arcs, so 1 for a source
abbrev pub level_from : List ℕ → List TimingArc → ℕ
level_from levels arcs = 1 + greatest_of (map (λ a. slice_index levels a.from.0) arcs)

-- one level for each net, and each is what its arcs make it
pub record AreLevels (nets : List Net) (levels : List ℕ) : Type 0 where
  pub count : length levels ≡ length nets
  pub each : (i : ℕ) (n : Net) → slice_get nets i ≡ Some n → slice_index levels i ≡ level_from levels n.arcs

-- the nets have levels, so their arcs make no loop
abbrev pub AreLevelled : List Net → Type 0
AreLevelled nets = (levels : List ℕ) × AreLevels nets levels

-- the level of the net of this number
abbrev pub IsLevel : List Net → ℕ → ℕ → Type 0
IsLevel nets net level = (levels : List ℕ) × AreLevels nets levels × (slice_get levels net ≡ Some level)

-- the highest level that a net has; a design without nets has depth 0
abbrev pub IsDepth : List Net → ℕ → Type 0
IsDepth nets depth = (levels : List ℕ) × AreLevels nets levels × (depth ≡ greatest_of levels)

-- net a has an arc from net b
abbrev pub Reads : List Net → ℕ → ℕ → Type 0
Reads nets a b = (n : Net) × (arc : TimingArc) × (slice_get nets a ≡ Some n) × Contains n.arcs arc × (arc.from.0 ≡ b)

-- a ring of nets: each has an arc from the one after it, and the last has one from the first
pub record IsLoop (nets : List Net) (path : List ℕ) : Type 0 where
  pub some : 0 < length path
  pub steps : (i : ℕ) → i + 1 < length path → Reads nets (slice_index path i) (slice_index path (i + 1))
  pub closes : Reads nets (slice_index path (length path - 1)) (slice_index path 0)

-- net a stands before net b: by level, and by number within a level
abbrev pub StandsBefore : List ℕ → ℕ → ℕ → Type 0
StandsBefore levels a b =
    (slice_index levels a < slice_index levels b) ⊎ ((slice_index levels a ≡ slice_index levels b) × (a < b))

-- every net once, by level and then by number
pub record IsOrderBy (nets : List Net) (levels order : List ℕ) : Type 0 where
  pub count : length order ≡ length nets
  pub members : (net : ℕ) → Contains order net ↔ (net < length nets)
  pub sorted : (i j : ℕ) → i < j → j < length order → StandsBefore levels (slice_index order i) (slice_index order j)

abbrev pub IsOrder : List Net → List ℕ → Type 0
IsOrder nets order = (levels : List ℕ) × AreLevels nets levels × IsOrderBy nets levels order

-- the nets have an order, as those of each design have
abbrev pub AreOrdered : List Net → Type 0
AreOrdered nets = (order : List ℕ) × IsOrder nets order

-- net a has a coupling to net b
abbrev pub CouplesTo : List Net → ℕ → ℕ → Type 0
CouplesTo nets a b = (n : Net) × (k : Coupling) × (slice_get nets a ≡ Some n) × Contains n.couplings k × (k.to.0 ≡ b)

-- the list has each unordered pair of coupled nets once, the lesser number first
pub record ArePairs (nets : List Net) (pairs : List (ℕ × ℕ)) : Type 0 where
  pub once : (i j : ℕ) (p q : ℕ × ℕ) → i < j → slice_get pairs i ≡ Some p → slice_get pairs j ≡ Some q → p ≡ q → ⊥
  pub members : (a b : ℕ) → Contains pairs (a, b) ↔ ((a < b) × (CouplesTo nets a b ⊎ CouplesTo nets b a))

-- how many unordered pairs of nets have a coupling on either side
abbrev pub IsPairCount : List Net → ℕ → Type 0
IsPairCount nets count = (pairs : List (ℕ × ℕ)) × ArePairs nets pairs × (length pairs ≡ count)

-- the bound on the rounds of a run: one block of as many rounds as there are levels for each of the four
-- overlap answers of a pair, and one more
abbrev pub bound_of : ℕ → ℕ → ℕ
bound_of pairs depth = (4 * pairs + 1) * depth
