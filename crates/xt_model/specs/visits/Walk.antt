-- How far a walk against the arcs has come that gives each net its level.
use Rattle.std.specs.Prelude.{◌≡◌, ℕ, ◌+◌, ◌*◌, ◌-◌, ◌<◌, ◌≤◌, ◌==◌, List, length, take, Some, IfSome, count_by}
use Rattle.std.specs.List.{All, slice_get, slice_index}
use Rattle.xt_model.specs.declared.net.TimingArc.{TimingArc}
use Rattle.xt_model.specs.declared.net.Net.{Net}
use Rattle.xt_model.specs.declared.visits.Walk.{Walk}
use Rattle.xt_model.specs.Levels.{level_from}
use Rattle.xt_model.specs.Loops.{IsInput}

-- the input of each arc is a net that is there
abbrev pub AreInputsThere : List Net → Type 0
AreInputsThere nets = (i : ℕ) (n : Net) → slice_get nets i ≡ Some n → All (λ a. a.from.0 < length nets) n.arcs

-- the input of each of the arcs has a level; 0 stands for no level yet
abbrev pub HaveLevels : List ℕ → List TimingArc → Type 0
HaveLevels levels arcs = All (λ a. 0 < slice_index levels a.from.0) arcs

-- the input of the arc of this number has no level yet
abbrev pub WaitsAt : List TimingArc → List ℕ → ℕ → Type 0
WaitsAt arcs levels i = IfSome (slice_get arcs i) (λ a. slice_index levels a.from.0 ≡ 0)

-- how many numbers are still 0
abbrev pub zeros_in : List ℕ → ℕ
zeros_in ns = count_by (λ n. n == 0) ns

-- Each level that is known is the one that the net's arcs make, and no greater than the number of known
-- levels. The arcs before a net's cursor have inputs with levels. The path is a list of nets without a
-- level: every net of a number below its first has one, and the next of each net on it is the input of the
-- arc at that net's cursor. A net's place is 1 more than where it stands on the path, and 0 for a net that
-- was never on it.
pub record IsWalk (nets : List Net) (levels cursors places path : List ℕ) : Type 0 where
  pub levels_count : length levels ≡ length nets
  pub cursors_count : length cursors ≡ length nets
  pub places_count : length places ≡ length nets
  pub inputs : (i : ℕ) (n : Net) → slice_get nets i ≡ Some n → 0 < slice_index levels i → HaveLevels levels n.arcs
  pub each : (i : ℕ) (n : Net) → slice_get nets i ≡ Some n → 0 < slice_index levels i
      → slice_index levels i ≡ level_from levels n.arcs
  pub most : (i : ℕ) → slice_index levels i + zeros_in levels ≤ length levels
  pub cursors_within : (i : ℕ) (n : Net) → slice_get nets i ≡ Some n → slice_index cursors i ≤ length n.arcs
  pub before : (i : ℕ) (n : Net) → slice_get nets i ≡ Some n → HaveLevels levels (take (slice_index cursors i) n.arcs)
  pub there : (k : ℕ) → k < length path → slice_index path k < length nets
  pub waits : (k : ℕ) → k < length path → slice_index levels (slice_index path k) ≡ 0
  pub place : (k : ℕ) → k < length path → slice_index places (slice_index path k) ≡ k + 1
  pub begins : (i : ℕ) → i < slice_index path 0 → 0 < slice_index levels i
  pub steps : (k : ℕ) → k + 1 < length path
      → IsInput nets (slice_index path k) (slice_index cursors (slice_index path k)) (slice_index path (k + 1))
  pub on_path : (i : ℕ) → 0 < slice_index places i → slice_index levels i ≡ 0 → slice_index places i ≤ length path
  pub stands : (i : ℕ) → 0 < slice_index places i → slice_index levels i ≡ 0
      → slice_index path (slice_index places i - 1) ≡ i

-- the net at the end of the path
abbrev pub last_of : List ℕ → ℕ
last_of path = slice_index path (length path - 1)

-- the net is the input of the arc at the cursor of net a; it is there and has no level yet
pub record IsWaitedFor (nets : List Net) (levels cursors : List ℕ) (a net : ℕ) : Type 0 where
  pub there : net < length nets
  pub input : IsInput nets a (slice_index cursors a) net
  pub waits : slice_index levels net ≡ 0

-- how much of a walk is left: each net may still come onto the path once and leave it once
abbrev pub steps_left : List ℕ → List ℕ → ℕ
steps_left places path = 2 * zeros_in places + length path

-- how far this walk has come, as data
abbrev pub IsWalkOf : List Net → Walk → Type 0
IsWalkOf nets w = IsWalk nets w.levels.items w.cursors.items w.places.items w.path.items

-- less is left of the first walk than of the second
abbrev pub HasLessLeft : Walk → Walk → Type 0
HasLessLeft w v = steps_left w.places.items w.path.items < steps_left v.places.items v.path.items

-- every net with a level keeps one
abbrev pub KeepsLevels : Walk → Walk → Type 0
KeepsLevels w v = (i : ℕ) → 0 < slice_index w.levels.items i → 0 < slice_index v.levels.items i

-- every net of a number below this one has a level
abbrev pub HasLevelsBelow : Walk → ℕ → Type 0
HasLevelsBelow w net = (i : ℕ) → i < net → 0 < slice_index w.levels.items i

-- the net at the end of the path waits for this one
abbrev pub WaitsFor : List Net → Walk → ℕ → Type 0
WaitsFor nets w net = IsWaitedFor nets w.levels.items w.cursors.items (last_of w.path.items) net

-- the inputs of all arcs of this net have levels
abbrev pub HasInputs : List Net → Walk → ℕ → Type 0
HasInputs nets w net = IfSome (slice_get nets net) (λ n. HaveLevels w.levels.items n.arcs)
