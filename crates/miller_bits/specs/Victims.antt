-- An edge of a net, as the victim of the nets that are coupled to it.
use Rattle.std.specs.Prelude.{◌≡◌, ℕ, ◌≤◌, ℤ, List, length}
use Rattle.miller_bits.specs.declared.overlaps.Overlaps.{Overlaps}
use Rattle.xt_model.specs.declared.edge.Edge.{Edge}
use Rattle.xt_model.specs.declared.quad.Quad.{Quad}
use Rattle.xt_model.specs.declared.net.Net.{Net}
use Rattle.xt_model.specs.Assign.{quads_of}
use Rattle.xt_model.specs.Limits.{most_couplings}
use Rattle.xt_model.specs.Miller.{MillerNumbers}
use Rattle.xt_model.specs.Parts.{Parts}
use Rattle.xt_model.specs.Sound.{IsSoundNet}
use Rattle.xt_meaning.specs.Overlap.{least_factors, greatest_factors}
use Rattle.xt_meaning.specs.Reads.{HoldsOfEnds}
use Rattle.miller_bits.specs.declared.active.Active.{Active}
use Rattle.miller_bits.specs.Actives.{IsActive}
use Rattle.miller_bits.specs.Views.{HasNet, answers_by}

-- an edge of net number `number`, which is `net`, in a design of these Miller numbers: its own window, and the factors
-- of the net's couplings there, in quarters, at least and at most
pub record VictimEdge : Type 0 where
  pub miller : MillerNumbers
  pub number : ℕ
  pub window : Quad
  pub net : Net
  pub least : List ℕ
  pub greatest : List ℕ

-- an edge of net number n by the bounds in words, and by the overlaps that count
abbrev pub victim_of : Overlaps → Parts → (ℕ → ℤ) → ℕ → Edge → Net → VictimEdge
victim_of o d f n e net = record {
  miller = d.miller;
  number = n;
  window = quads_of f n e;
  net = net;
  least = least_factors d.miller (answers_by o d f) n e net.couplings;
  greatest = greatest_factors d.miller (answers_by o d f) n e net.couplings;
}

-- net number n, which is `net`, is sound, the window of its edge e is that of `own`, and the words of the nets at the
-- other ends of its couplings are at hand
pub record IsAtHand (has : ℕ → Type 0) (f : ℕ → ℤ)
    (d : Parts) (n : ℕ) (e : Edge) (own : Active) (net : Net) : Type 0 where
  pub window : own.window ≡ quads_of f n e
  pub active : IsActive own
  pub sound : IsSoundNet d n net
  pub few : length net.couplings ≤ most_couplings
  pub aggressors : HoldsOfEnds (HasNet has) net.couplings
