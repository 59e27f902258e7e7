-- When no sum of an evaluation leaves its type.
use Rattle.std.specs.Prelude.{ℕ, ◌^◌, pos, ◌≤ℤ◌, List, IfSome}
use Rattle.std.specs.List.{All, slice_get}
use Rattle.xt_model.specs.declared.quad.Quad.{Quad}
use Rattle.xt_model.specs.declared.quad.Pair.{Pair}
use Rattle.xt_model.specs.declared.net.TimingArc.{TimingArc}
use Rattle.xt_model.specs.Quads.{IsLive, IsWithin}
use Rattle.xt_model.specs.Parts.{Parts}
use Rattle.xt_model.specs.Sound.{IsConstraint}
use Rattle.xt_model.specs.Assign.{Assignment, assigned}
use Rattle.xt_meaning.specs.Overlap.{Answers, all_overlap}
use Rattle.xt_meaning.specs.Operator.{Range, wire_range}
use Rattle.xt_meaning.specs.Envelope.{IsEnvelope, IsAccepted}

-- the windows at the inputs of the arcs of net number n lie within an envelope that keeps the limits
pub record ReadsWithinEnvelope (d : Parts) (W : Assignment) (n : ℕ) : Type 0 where
  pub top : List Pair
  pub envelope : IsEnvelope d top
  pub accepted : IsAccepted d top
  pub inputs : IfSome
      (slice_get d.nets n)
      (λ net. All (λ a. IsWithin (W a.from.0 a.input) (assigned top a.from.0 a.input)) net.arcs)

-- a window that a design can be given, before a wire with a delay from 0 to 2^47 fs
pub record FitsWire (q : Quad) (wire : Range) : Type 0 where
  pub driver : IsConstraint q
  pub low : pos 0 ≤ℤ wire.least
  pub ordered : wire.least ≤ℤ wire.most
  pub high : wire.most ≤ℤ pos (2 ^ 47)

-- the window at the input of an arc, where it is live, fits the wire before the arc
abbrev pub FitsAtInput : Parts → Answers → Assignment → TimingArc → Type 0
FitsAtInput d b W a =
    IsLive (W a.from.0 a.input)
    → FitsWire (W a.from.0 a.input) (wire_range d.miller b a.from.0 a.input a.sink (slice_get d.nets a.from.0))

-- so it is at each arc of net number n, with these overlap answers
pub record ReadsFitBy (d : Parts) (b : Answers) (W : Assignment) (n : ℕ) : Type 0 where
  pub inputs : IfSome (slice_get d.nets n) (λ net. All (FitsAtInput d b W) net.arcs)

-- the same where everything overlaps
abbrev pub ReadsFit : Parts → Assignment → ℕ → Type 0
ReadsFit d W n = ReadsFitBy d all_overlap W n
