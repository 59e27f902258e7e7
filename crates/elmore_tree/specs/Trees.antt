-- A wire: the nodes of a net, its resistors, and what hangs at the nodes.
use Rattle.std.specs.Prelude.{◌≡◌, ℕ, ◌+◌, ◌*◌, ◌<◌, ◌≤◌, ◌^◌, ℤ, pos, ◌≤ℤ◌, List, length, Bool, nat_lt}
use Rattle.std.specs.Prelude.{◌==◌, ◌||◌}
use Rattle.std.specs.Int.RustNames.{unsigned_abs}
use Rattle.std.specs.List.{All, sum_by, list_any, slice_index_or}
use Rattle.xt_model.specs.Limits.{most_nodes}
use Rattle.elmore_tree.specs.declared.part.Resistor.{Resistor}
use Rattle.elmore_tree.specs.declared.part.Tap.{Tap}

-- the number of nodes, the root where the driver stands, the resistors, the capacitance to ground of each
-- node, the taps for coupling capacitors and the nodes of the sinks
pub record TreeParts : Type 0 where
  pub nodes : ℕ
  pub root : ℕ
  pub resistors : List Resistor
  pub ground : List ℤ
  pub taps : List Tap
  pub sinks : List ℕ

-- both ends are there, and the resistance in milliohms is 0 to 2^40
pub record IsSoundResistor (nodes : ℕ) (r : Resistor) : Type 0 where
  pub a : r.a < nodes
  pub b : r.b < nodes
  pub least : pos 0 ≤ℤ r.value
  pub most : r.value ≤ℤ pos (2 ^ 40)

-- the node is there, and the capacitance in aF is 0 to 2^40
pub record IsSoundTap (nodes : ℕ) (t : Tap) : Type 0 where
  pub node : t.node < nodes
  pub least : pos 0 ≤ℤ t.cap
  pub most : t.cap ≤ℤ pos (2 ^ 40)

-- the capacitance to ground of all nodes, in aF
abbrev pub ground_sum : List ℤ → ℕ
ground_sum ground = sum_by unsigned_abs ground

-- the capacitance of all taps, in aF
abbrev pub tap_sum : List Tap → ℕ
tap_sum taps = sum_by (λ t. unsigned_abs t.cap) taps

-- numbers name nodes that are there, quantities keep their ranges, and so does the load with each tap twice
pub record IsSoundTree (t : TreeParts) : Type 0 where
  pub root : t.root < t.nodes
  pub most_nodes : t.nodes ≤ most_nodes
  pub resistors : All (IsSoundResistor t.nodes) t.resistors
  pub grounds : length t.ground ≡ t.nodes
  pub natural : All (λ g. pos 0 ≤ℤ g) t.ground
  pub taps : All (IsSoundTap t.nodes) t.taps
  pub sinks : All (λ p. p < t.nodes) t.sinks
  pub most_load : ground_sum t.ground + 2 * tap_sum t.taps ≤ 2 ^ 46

-- the capacitance to ground of a node, in aF
abbrev pub ground_at : TreeParts → ℕ → ℕ
ground_at t k = unsigned_abs (slice_index_or t.ground k (pos 0))

-- a node that the driver has to reach: a sink, the node of a tap, or one with capacitance to ground
abbrev pub is_needed : TreeParts → ℕ → Bool
is_needed t k =
    nat_lt 0 (ground_at t k) || (list_any (λ p. p == k) t.sinks || list_any (λ (tap : Tap). tap.node == k) t.taps)
