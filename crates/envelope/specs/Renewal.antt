-- Windows that are the envelope of a design but for two of its nets and those that read them.
use Rattle.std.specs.Prelude.{◌≡◌, ◌≢◌, ℕ, List, IfSome}
use Rattle.std.specs.List.{All, AllPass, slice_get}
use Rattle.xt_model.specs.declared.edge.Edge.{Edge}
use Rattle.xt_model.specs.declared.quad.Pair.{Pair}
use Rattle.xt_model.specs.Parts.{Parts}
use Rattle.xt_model.specs.Assign.{assigned}
use Rattle.xt_meaning.specs.Operator.{widest_operator}
use Rattle.xt_meaning.specs.Fixpoint.{IsWindows}
use Rattle.xt_meaning.specs.Envelope.{keeps, net_tests}

-- net number n is neither of two nets, and none of its arcs comes from one of them
pub record IsApart (d : Parts) (a b n : ℕ) : Type 0 where
  pub first : n ≢ a
  pub second : n ≢ b
  pub inputs : IfSome (slice_get d.nets n) (λ net. All (λ arc. (arc.from.0 ≢ a) × (arc.from.0 ≢ b)) net.arcs)

-- the windows of each net that is apart from the two are what the operator makes of these windows where everything
-- overlaps, and keep the limits
pub record IsEnvelopeBut (d : Parts) (a b : ℕ) (w : List Pair) : Type 0 where
  pub windows : IsWindows d w
  pub fixed : (n : ℕ) (e : Edge) → IsApart d a b n → widest_operator d (assigned w) n e ≡ assigned w n e
  pub kept : (n : ℕ) → IsApart d a b n → AllPass keeps (net_tests d w n)
