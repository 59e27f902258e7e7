-- The order of a walk, and what the paths to the nodes at its places have in common.
use Rattle.std.specs.Prelude.{◌≡◌, ℕ, suc, ◌<◌, ◌≤◌, List, length, take, Bool, true, false, ◌==◌}
use Rattle.std.specs.Prelude.{slice_index}
use Rattle.std.specs.List.{sum_by, list_any, slice_index_or}
use Rattle.elmore_tree.specs.declared.walk.Step.{Step}
use Rattle.elmore_tree.specs.declared.order.Link.{Link}
use Rattle.elmore_tree.specs.declared.order.TapOrder.{TapOrder}
use Rattle.elmore_tree.specs.declared.part.Tap.{Tap}
use Rattle.elmore_tree.specs.Trees.{TreeParts, IsSoundTree}
use Rattle.elmore_tree.specs.Paths.{is_in}
use Rattle.elmore_tree.specs.Sums.{shared, resistance}
use Rattle.elmore_tree.specs.Walks.{path_of, is_visited, node_at, IsGrown, IsPreorder}

-- the steps of a walk over a sound wire, each from the path to the node before it
pub record IsPreorderWalk (t : TreeParts) (steps : List Step) : Type 0 where
  pub sound : IsSoundTree t
  pub few : length steps < 65536
  pub grown : IsGrown t steps
  pub order : IsPreorder t steps

-- the resistance of a path
abbrev pub path_resistance : TreeParts → List ℕ → ℕ
path_resistance t path = sum_by (resistance t) path

-- the resistance common to the paths to the nodes at two places
abbrev pub common : TreeParts → List Step → ℕ → ℕ → ℕ
common t steps a b = shared t (path_of steps (node_at t steps a)) (path_of steps (node_at t steps b))

-- a tap hangs at the node
abbrev pub is_tapped : TreeParts → ℕ → Bool
is_tapped t k = list_any (λ (tap : Tap). tap.node == k) t.taps

-- a mark for each node that says whether a tap hangs there
pub record AreTapped (t : TreeParts) (marks : List Bool) : Type 0 where
  pub count : length marks ≡ t.nodes
  pub each : (k : ℕ) → is_in marks k ≡ is_tapped t k

-- the place of each node that the first steps visit
pub record ArePlaces (t : TreeParts) (steps : List Step) (i : ℕ) (places : List ℕ) : Type 0 where
  pub count : length places ≡ t.nodes
  pub within : (k : ℕ) → slice_index places k ≤ i
  pub each : (k : ℕ) → is_visited t (take i steps) k ≡ true → node_at t steps (slice_index places k) ≡ k

-- the resistance of the path to each node that the first steps visit
pub record AreResistances (t : TreeParts) (steps : List Step) (i : ℕ) (sums : List ℕ) : Type 0 where
  pub count : length sums ≡ t.nodes
  pub each : (k : ℕ) → is_visited t (take i steps) k ≡ true → slice_index sums k ≡ path_resistance t (path_of steps k)

abbrev pub no_link : Link
no_link = record { place = 0; common = 0 }

abbrev pub link_at : List Link → ℕ → Link
link_at links p = slice_index_or links p no_link

-- a link from place p back to the nearest place with a tap's node, or to the first place
pub record IsLinkBack (t : TreeParts) (steps : List Step) (p : ℕ) (link : Link) : Type 0 where
  pub before : link.place < p
  pub nearest : (m : ℕ) → link.place < m → m < p → is_tapped t (node_at t steps m) ≡ false
  pub common : link.common ≡ common t steps link.place p

-- a link from place p on to the nearest place with a tap's node, or past the last place
pub record IsLinkOn (t : TreeParts) (steps : List Step) (p : ℕ) (link : Link) : Type 0 where
  pub after : p < link.place
  pub nearest : (m : ℕ) → p < m → m < link.place → m ≤ length steps → is_tapped t (node_at t steps m) ≡ false
  pub common : link.place ≤ length steps → link.common ≡ common t steps p link.place

-- the first places, up to number i, are linked back
pub record AreLinkedBack (t : TreeParts) (steps : List Step) (i : ℕ) (links : List Link) : Type 0 where
  pub count : length links ≡ suc (length steps)
  pub each : (p : ℕ) → 0 < p → p ≤ i → IsLinkBack t steps p (link_at links p)

-- the places from number i on are linked on
pub record AreLinkedOn (t : TreeParts) (steps : List Step) (i : ℕ) (links : List Link) : Type 0 where
  pub count : length links ≡ suc (length steps)
  pub each : (p : ℕ) → i ≤ p → p ≤ length steps → IsLinkOn t steps p (link_at links p)

-- the places of the nodes, the resistance of the path to each, and links between those with taps
pub record IsTapOrder (t : TreeParts) (steps : List Step) (o : TapOrder) : Type 0 where
  pub places : ArePlaces t steps (length steps) o.places.items
  pub resistances : AreResistances t steps (length steps) o.resistances.items
  pub back : AreLinkedBack t steps (length steps) o.back.items
  pub on : AreLinkedOn t steps 0 o.on.items

-- each tap's node from place a to place b has what its path has in common with the path to the node at p
pub record IsRowFrom (t : TreeParts) (steps : List Step) (p a b : ℕ) (row : List ℕ) : Type 0 where
  pub count : length row ≡ suc (length steps)
  pub each : (m : ℕ) → a ≤ m → m ≤ b → is_tapped t (node_at t steps m) ≡ true → slice_index row m ≡ common t steps m p

-- at the place of each tap's node the row has what its path has in common with the path to a sink
pub record IsRowOf (t : TreeParts) (steps : List Step) (o : TapOrder) (sink : ℕ) (row : List ℕ) : Type 0 where
  pub count : length row ≡ suc (length steps)
  pub each : (k : ℕ) → is_tapped t k ≡ true → is_visited t steps k ≡ true
      → slice_index row (slice_index o.places.items k) ≡ shared t (path_of steps sink) (path_of steps k)
