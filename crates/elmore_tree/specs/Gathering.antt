-- Capacitances moved along the steps of a walk, towards the root.
use Rattle.std.specs.Prelude.{◌≡◌, ℕ, ◌*◌, ◌<◌, ◌≤◌, ◌^◌, List, length, take, Bool, true, false}
use Rattle.std.specs.Prelude.{if◌then◌else◌, Some, ◌==◌, ◌||◌}
use Rattle.std.specs.List.{slice_get, slice_index, list_any}
use Rattle.elmore_tree.specs.declared.walk.Step.{Step}
use Rattle.elmore_tree.specs.Trees.{TreeParts, IsSoundTree, is_needed}
use Rattle.elmore_tree.specs.Paths.{is_on, is_in, resistors_in}
use Rattle.elmore_tree.specs.Sums.{sum_below, shared}
use Rattle.elmore_tree.specs.Walks.{is_visited, path_to, path_of, IsWalked}

-- over all nodes, the resistance common to the paths to this node and to the other times the other's capacitance
abbrev pub elmore_sum : TreeParts → List Step → List ℕ → ℕ → ℕ
elmore_sum t steps caps k = sum_below (λ m. shared t (path_of steps k) (path_of steps m) * slice_index caps m) t.nodes

-- the capacitance behind a resistor, where the first steps make the paths
abbrev pub behind : TreeParts → List Step → List ℕ → ℕ → ℕ → ℕ
behind t steps caps i j = sum_below (λ k. if is_on (path_to steps i k) j then slice_index caps k else 0) t.nodes

-- the capacitance of the nodes that the first steps visit
abbrev pub visited_sum : TreeParts → List Step → List ℕ → ℕ → ℕ
visited_sum t steps caps i = sum_below (λ k. if is_visited t (take i steps) k then slice_index caps k else 0) t.nodes

-- all capacitance
abbrev pub cap_sum : TreeParts → List ℕ → ℕ
cap_sum t caps = sum_below (λ k. slice_index caps k) t.nodes

-- the ends of the steps from number i on have given all that is behind them to where their steps start
pub record IsGathered (t : TreeParts) (steps : List Step) (first caps : List ℕ) (i : ℕ) : Type 0 where
  pub count : length caps ≡ t.nodes
  pub most : visited_sum t steps caps i ≤ 2 ^ 46
  pub before : (m : ℕ) (s : Step) → slice_get steps m ≡ Some s → m < i
      → behind t steps caps i s.resistor ≡ behind t steps first (length steps) s.resistor
  pub after : (m : ℕ) (s : Step) → slice_get steps m ≡ Some s → i ≤ m
      → slice_index caps s.to ≡ behind t steps first (length steps) s.resistor

-- the nodes that the first steps visit have their sums
pub record AreSumsOf (t : TreeParts) (steps : List Step) (caps sums : List ℕ) (i : ℕ) : Type 0 where
  pub count : length sums ≡ t.nodes
  pub each : (k : ℕ) → is_visited t (take i steps) k ≡ true → slice_index sums k ≡ elmore_sum t steps caps k

-- beside the nodes that were marked, those at which the given things hang are
pub record AreMarked {X : Type 0} (node_of : X → ℕ) (xs : List X) (old new : List Bool) : Type 0 where
  pub count : length new ≡ length old
  pub each : (k : ℕ) → is_in new k ≡ (is_in old k || list_any (λ x. node_of x == k) xs)

-- node n is the first that is needed and not reached
pub record IsFirstUnreached (needed reached : List Bool) (n : ℕ) : Type 0 where
  pub wanted : is_in needed n ≡ true
  pub outside : is_in reached n ≡ false
  pub least : (k : ℕ) → k < n → is_in needed k ≡ true → is_in reached k ≡ true

-- each needed node is reached
pub record IsAllReached (needed reached : List Bool) : Type 0 where
  pub each : (k : ℕ) → is_in needed k ≡ true → is_in reached k ≡ true

-- a walk over a sound wire that is a tree and reaches all that has to be reached: there are no more resistors than
-- steps
pub record IsTreeWalk (t : TreeParts) (steps : List Step) : Type 0 where
  pub sound : IsSoundTree t
  pub needed : List Bool
  pub reached : List Bool
  pub walked : IsWalked t reached steps
  pub tree : resistors_in reached t.resistors ≤ length steps
  pub each : (k : ℕ) → is_in needed k ≡ is_needed t k
  pub all : IsAllReached needed reached
