-- What decides the windows that the operator makes of a net: the windows of its inputs, and which windows overlap at
-- the couplings of the net and of its inputs.
use Rattle.std.specs.Prelude.{◌≡◌, ℕ, ℤ, List, Option, IfSome}
use Rattle.std.specs.List.{All, slice_get}
use Rattle.xt_model.specs.declared.edge.Edge.{Edge}
use Rattle.xt_model.specs.declared.net.Coupling.{Coupling}
use Rattle.xt_model.specs.declared.net.TimingArc.{TimingArc}
use Rattle.xt_model.specs.declared.net.Net.{Net}
use Rattle.xt_model.specs.Parts.{Parts}
use Rattle.xt_model.specs.Assign.{Assignment}
use Rattle.xt_meaning.specs.Overlap.{overlap_answers}

-- two assignments give the same overlap answers for net n and net m
abbrev pub HasSameAnswers : Option ℤ → Assignment → Assignment → ℕ → ℕ → Type 0
HasSameAnswers period W V n m = (e f : Edge) → overlap_answers period W n e m f ≡ overlap_answers period V n e m f

-- and so for net n and each net of its couplings
abbrev pub HaveSameAnswers : Option ℤ → Assignment → Assignment → ℕ → List Coupling → Type 0
HaveSameAnswers period W V n ks = All (λ k. HasSameAnswers period W V n k.to.0) ks

-- what decides the contribution of an arc of net number n, which is `net`, is the same in two assignments
pub record IsFedAlike (d : Parts) (W V : Assignment) (n : ℕ) (net : Net) (a : TimingArc) : Type 0 where
  pub window : W a.from.0 a.input ≡ V a.from.0 a.input
  pub own : HaveSameAnswers d.period W V n net.couplings
  pub from : IfSome (slice_get d.nets a.from.0) (λ m. HaveSameAnswers d.period W V a.from.0 m.couplings)

-- and so for each arc of the net
pub record AreDecidedAlike (d : Parts) (W V : Assignment) (n : ℕ) : Type 0 where
  pub arcs : IfSome (slice_get d.nets n) (λ net. All (IsFedAlike d W V n net) net.arcs)
