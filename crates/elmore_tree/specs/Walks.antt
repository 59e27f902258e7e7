-- A walk over a wire from its root: each step goes by a resistor to a node that was not visited before.
use Rattle.std.specs.Prelude.{◌≡◌, ℕ, zero, suc, ◌+◌, ◌≤◌, List, [], ◌∷◌, length, take, drop, Bool, ◌<◌, true}
use Rattle.std.specs.Prelude.{false, ◌==◌, ◌||◌, Option, Some, None, if◌then◌else◌}
use Rattle.std.specs.List.{list_any, slice_get, slice_index_or}
use Rattle.std.specs.Option.{IsSomeAnd}
use Rattle.std.specs.Prelude.{◌⊎◌}
use Rattle.elmore_tree.specs.declared.part.Resistor.{Resistor}
use Rattle.elmore_tree.specs.declared.walk.Step.{Step}
use Rattle.elmore_tree.specs.Trees.{TreeParts}
use Rattle.elmore_tree.specs.Paths.{Joins, is_on, is_in, nodes_in}

-- one of the steps leads to the node
abbrev pub leads_to : List Step → ℕ → Bool
leads_to steps k = list_any (λ (s : Step). s.to == k) steps

-- the node is the root, or a step leads to it
abbrev pub is_visited : TreeParts → List Step → ℕ → Bool
is_visited t steps k = (t.root == k) || leads_to steps k

-- an end of the resistor of this number is at the node
abbrev pub Touches : List Resistor → ℕ → ℕ → Type 0
Touches resistors j k = IsSomeAnd (slice_get resistors j) (λ r. (r.a ≡ k) ⊎ (r.b ≡ k))

-- the numbers of the resistors at each node
abbrev pub row_of : List (List ℕ) → ℕ → List ℕ
row_of rows k = slice_index_or rows k []

-- for each node the numbers of the resistors that have an end there
pub record AreRows (t : TreeParts) (rows : List (List ℕ)) : Type 0 where
  pub count : length rows ≡ t.nodes
  pub touch : (j k : ℕ) → is_on (row_of rows k) j ≡ true → Touches t.resistors j k
  pub all : (j k : ℕ) → Touches t.resistors j k → is_on (row_of rows k) j ≡ true

-- the same of the first n resistors
pub record AreRowsOf (t : TreeParts) (n : ℕ) (rows : List (List ℕ)) : Type 0 where
  pub count : length rows ≡ t.nodes
  pub touch : (j k : ℕ) → is_on (row_of rows k) j ≡ true → Touches t.resistors j k
  pub all : (j k : ℕ) → j < n → Touches t.resistors j k → is_on (row_of rows k) j ≡ true

-- each step goes by a resistor from a node visited before it to one that was not
pub record IsGrown (t : TreeParts) (steps : List Step) : Type 0 where
  pub joins : (i : ℕ) (s : Step) → slice_get steps i ≡ Some s → Joins t.resistors s.resistor s.from s.to
  pub from : (i : ℕ) (s : Step) → slice_get steps i ≡ Some s → is_visited t (take i steps) s.from ≡ true
  pub to : (i : ℕ) (s : Step) → slice_get steps i ≡ Some s → is_visited t (take i steps) s.to ≡ false

-- the path to a node after one more step
abbrev pub path_by : Option Step → (ℕ → List ℕ) → ℕ → List ℕ
path_by None before k = before k
path_by (Some s) before k = if s.to == k then s.resistor ∷ before s.from else before k

-- the path to a node that the first steps of a walk make
abbrev pub path_to : List Step → ℕ → ℕ → List ℕ
path_to steps zero k = []
path_to steps (suc i) k = path_by (slice_get steps i) (path_to steps i) k

-- the path to a node that all steps make
abbrev pub path_of : List Step → ℕ → List ℕ
path_of steps k = path_to steps (length steps) k

abbrev pub end_of : TreeParts → Option Step → ℕ
end_of t None = t.root
end_of t (Some s) = s.to

-- the node at a place of the order: the root, then where each step leads
abbrev pub node_at : TreeParts → List Step → ℕ → ℕ
node_at t steps zero = t.root
node_at t steps (suc i) = end_of t (slice_get steps i)

-- the first path is the beginning, at the root, of the second
abbrev pub IsAbove : List ℕ → List ℕ → Type 0
IsAbove p q = (n : ℕ) × (p ≡ drop n q)

-- each step starts on the path to the node before it
pub record IsPreorder (t : TreeParts) (steps : List Step) : Type 0 where
  pub each : (i : ℕ) (s : Step) → slice_get steps i ≡ Some s
      → IsAbove (path_to steps i s.from) (path_to steps i (node_at t steps i))

-- the pending steps start on the path to the last node, the later ones further down
pub record IsStack (t : TreeParts) (steps pending : List Step) : Type 0 where
  pub order : IsPreorder t steps
  pub here : (i : ℕ) (s : Step) → slice_get pending i ≡ Some s
      → IsAbove (path_of steps s.from) (path_of steps (node_at t steps (length steps)))
  pub down : (i j : ℕ) (r s : Step) → i ≤ j → slice_get pending i ≡ Some r → slice_get pending j ≡ Some s
      → IsAbove (path_of steps r.from) (path_of steps s.from)

-- the marked nodes are those visited and those to which a pending step leads, each by one step
pub record IsWalk (t : TreeParts) (reached : List Bool) (steps pending : List Step) : Type 0 where
  pub count : length reached ≡ t.nodes
  pub sizes : nodes_in reached ≡ 1 + length steps + length pending
  pub marks : (k : ℕ) → is_in reached k ≡ (is_visited t steps k || leads_to pending k)
  pub grown : IsGrown t steps
  pub joins : (i : ℕ) (s : Step) → slice_get pending i ≡ Some s → Joins t.resistors s.resistor s.from s.to
  pub from : (i : ℕ) (s : Step) → slice_get pending i ≡ Some s → is_visited t steps s.from ≡ true
  pub to : (i : ℕ) (s : Step) → slice_get pending i ≡ Some s → is_visited t steps s.to ≡ false
  pub once : (i : ℕ) (s : Step) → slice_get pending i ≡ Some s → leads_to (take i pending) s.to ≡ false
  pub stack : IsStack t steps pending

-- what a resistor joins to this node is marked
pub record IsSpreadAt (t : TreeParts) (reached : List Bool) (a : ℕ) : Type 0 where
  pub each : (j b : ℕ) → Joins t.resistors j a b → is_in reached b ≡ true

-- what a resistor joins to a visited node is marked
pub record IsSpread (t : TreeParts) (reached : List Bool) (steps : List Step) : Type 0 where
  pub each : (a : ℕ) → is_visited t steps a ≡ true → IsSpreadAt t reached a

-- the walk is at its end: the marked nodes are those visited, and no resistor leads out of them
pub record IsWalked (t : TreeParts) (reached : List Bool) (steps : List Step) : Type 0 where
  pub count : length reached ≡ t.nodes
  pub sizes : nodes_in reached ≡ 1 + length steps
  pub marks : (k : ℕ) → is_in reached k ≡ is_visited t steps k
  pub grown : IsGrown t steps
  pub spread : IsSpread t reached steps
  pub order : IsPreorder t steps
