-- The Elmore delay of a wire as sums of products of resistance and capacitance (Elmore 1948).
use Rattle.std.specs.Prelude.{ℕ, zero, suc, ◌+◌, ◌*◌, ◌/◌, ◌≤◌, ◌^◌, ℤ, pos, ◌≤ℤ◌, List, [], ◌∷◌, map}
use Rattle.std.specs.Prelude.{if◌then◌else◌, Option, Some, None}
use Rattle.std.specs.Int.RustNames.{unsigned_abs}
use Rattle.std.specs.List.{All, sum_by, slice_get}
use Rattle.elmore_tree.specs.declared.part.Resistor.{Resistor}
use Rattle.elmore_tree.specs.declared.part.Tap.{Tap}
use Rattle.elmore_tree.specs.Trees.{TreeParts, ground_at}
use Rattle.elmore_tree.specs.Paths.{IsPath, IsJoined, is_on}

abbrev pub resistance_of : Option Resistor → ℕ
resistance_of None = 0
resistance_of (Some r) = unsigned_abs r.value

-- the resistance of the resistor of this number, in milliohms
abbrev pub resistance : TreeParts → ℕ → ℕ
resistance t j = resistance_of (slice_get t.resistors j)

-- the resistance that is common to two paths: the sum over the resistors of the one that the other goes through
abbrev pub shared : TreeParts → List ℕ → List ℕ → ℕ
shared t p q = sum_by (λ j. if is_on q j then resistance t j else 0) p

-- the sum of f 0, f 1 and so on, n terms
abbrev pub sum_below : (ℕ → ℕ) → ℕ → ℕ
sum_below f zero = 0
sum_below f (suc n) = sum_below f n + f n

-- a path to each node of the part that is joined to the root
pub record ArePaths (t : TreeParts) (paths : ℕ → List ℕ) : Type 0 where
  pub each : (k : ℕ) → IsJoined t k → IsPath t k (paths k)

-- over all nodes, the resistance common to the paths to a sink and to the node times the node's capacitance
abbrev pub base_of : TreeParts → (ℕ → List ℕ) → ℕ → ℕ
base_of t paths p = sum_below (λ k. shared t (paths p) (paths k) * ground_at t k) t.nodes

-- the resistance common to the paths to a sink and to a tap times the tap's capacitance
abbrev pub coefficient_of : TreeParts → (ℕ → List ℕ) → ℕ → Tap → ℕ
coefficient_of t paths p tap = shared t (paths p) (paths tap.node) * unsigned_abs tap.cap

-- what the delay to a sink is made of, in milliohms times aF: a base, and a coefficient for each tap
pub record SinkSums : Type 0 where
  pub base : ℤ
  pub coefs : List ℤ

-- base and coefficients are 0 or more, and at most 2^102 together
pub record IsSinkSums (s : SinkSums) : Type 0 where
  pub base : pos 0 ≤ℤ s.base
  pub coefs : All (λ c. pos 0 ≤ℤ c) s.coefs
  pub most : unsigned_abs s.base + sum_by unsigned_abs s.coefs ≤ 2 ^ 102

-- the sums of a sink at this node
abbrev pub sink_sums : TreeParts → (ℕ → List ℕ) → ℕ → SinkSums
sink_sums t paths p = record {
  base = pos (base_of t paths p);
  coefs = map (λ tap. pos (coefficient_of t paths p tap)) t.taps;
}

-- of each coefficient its factor in quarters times it
abbrev pub quarters : List ℕ → List ℤ → ℕ
quarters [] cs = 0
quarters (f ∷ fs) [] = 0
quarters (f ∷ fs) (c ∷ cs) = f * unsigned_abs c + quarters fs cs

-- the delay in fs where each tap counts by its factor in quarters
abbrev pub delay_of : SinkSums → List ℕ → ℕ
delay_of s factors = (4 * unsigned_abs s.base + quarters factors s.coefs) / 4000000
