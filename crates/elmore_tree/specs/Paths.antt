-- Paths from the root of a wire, and the part of the wire that they reach.
use Rattle.std.specs.Prelude.{◌≡◌, ℕ, ◌<◌, ◌≤◌, List, [], ◌∷◌, length, Bool, false, ◌==◌, IsTrue, ◌↔◌, ◌⊎◌}
use Rattle.std.specs.List.{count_by, list_any, slice_get, slice_index_or}
use Rattle.std.specs.Option.{IsSomeAnd}
use Rattle.elmore_tree.specs.declared.part.Resistor.{Resistor}
use Rattle.elmore_tree.specs.Trees.{TreeParts, is_needed}

-- the resistor of this number joins the nodes a and b
abbrev pub Joins : List Resistor → ℕ → ℕ → ℕ → Type 0
Joins resistors j a b = IsSomeAnd (slice_get resistors j) (λ r. ((r.a ≡ a) × (r.b ≡ b)) ⊎ ((r.a ≡ b) × (r.b ≡ a)))

-- the path goes through the resistor of this number
abbrev pub is_on : List ℕ → ℕ → Bool
is_on path j = list_any (λ i. i == j) path

-- a path from the root to a node: the numbers of its resistors, the last first, none of them twice
abbrev pub IsPath : TreeParts → ℕ → List ℕ → Type 0
IsPath t node [] = node ≡ t.root
IsPath t node (j ∷ before) =
    (from : ℕ) × Joins t.resistors j from node × (is_on before j ≡ false) × IsPath t from before

-- the node is joined to the root
abbrev pub IsJoined : TreeParts → ℕ → Type 0
IsJoined t node = (path : List ℕ) × IsPath t node path

-- the node of this number is marked
abbrev pub is_in : List Bool → ℕ → Bool
is_in part k = slice_index_or part k false

-- a mark for each node that says whether it is joined to the root
pub record IsPart (t : TreeParts) (part : List Bool) : Type 0 where
  pub count : length part ≡ t.nodes
  pub each : (k : ℕ) → IsTrue (is_in part k) ↔ IsJoined t k

-- how many nodes are marked
abbrev pub nodes_in : List Bool → ℕ
nodes_in part = count_by (λ m. m) part

-- how many resistors the part has; both ends of a resistor are in it or neither is
abbrev pub resistors_in : List Bool → List Resistor → ℕ
resistors_in part resistors = count_by (λ r. is_in part r.a) resistors

-- the part joined to the root has at least as many resistors as nodes, so it is no tree
abbrev pub IsMeshed : TreeParts → Type 0
IsMeshed t = (part : List Bool) × IsPart t part × (nodes_in part ≤ resistors_in part t.resistors)

-- the least node that has to be reached and is not
pub record IsLeastUnreached (t : TreeParts) (node : ℕ) : Type 0 where
  pub needed : IsTrue (is_needed t node)
  pub outside : IsJoined t node → ⊥
  pub least : (k : ℕ) → k < node → IsTrue (is_needed t k) → IsJoined t k
