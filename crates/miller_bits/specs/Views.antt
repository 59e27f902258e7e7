-- What a view of words has to hold for a net, and what it answers.
use Rattle.std.specs.Prelude.{ℕ, ◌<◌, ℤ, Bool, if◌then◌else◌, Option, Some, None, IfSome}
use Rattle.std.specs.List.{slice_get}
use Rattle.miller_bits.specs.declared.overlaps.Overlaps.{Overlaps}
use Rattle.miller_bits.specs.declared.overlaps.Overlaps.TheVariants.{OfWindows, All}
use Rattle.xt_model.specs.declared.edge.Edge.{Edge}
use Rattle.xt_model.specs.declared.net.Coupling.{Coupling}
use Rattle.xt_model.specs.declared.net.Net.{Net}
use Rattle.xt_model.specs.Miller.{MillerNumbers}
use Rattle.xt_model.specs.Parts.{Parts}
use Rattle.xt_model.specs.Assign.{word_number, quads_of}
use Rattle.xt_meaning.specs.Overlap.{Answers, all_overlap, overlap_answers}
use Rattle.xt_meaning.specs.Reads.{HoldsOfEnds}

-- the words of an edge of net number n are among these
abbrev pub HasEdge : (ℕ → Type 0) → ℕ → Edge → Type 0
HasEdge has n e = (side : ℕ) → side < 4 → has (word_number n e side)

-- the words of both edges of net number n are among these
abbrev pub HasNet : (ℕ → Type 0) → ℕ → Type 0
HasNet has n = (e : Edge) → HasEdge has n e

-- the words of an edge of net number n, and of both edges of the nets at the other ends of its couplings, are
-- among these
pub record HasVictim (has : ℕ → Type 0) (d : Parts) (n : ℕ) (e : Edge) : Type 0 where
  pub own : HasEdge has n e
  pub aggressors : IfSome (slice_get d.nets n) (λ net. HoldsOfEnds (HasNet has) net.couplings)

-- the overlap answers of the windows that a view of words stands for, in this design
abbrev pub answers_of : Parts → (ℕ → ℤ) → Answers
answers_of d f = overlap_answers d.period (quads_of f)

-- the overlap answers that count: those of the windows, or that every two windows overlap
abbrev pub answers_by : Overlaps → Parts → (ℕ → ℤ) → Answers
answers_by OfWindows d f = answers_of d f
answers_by All d f = all_overlap

-- the coupling of this number
abbrev pub coupling_at : Option Net → ℕ → Option Coupling
coupling_at None i = None
coupling_at (Some net) i = slice_get net.couplings i

-- the least factor of a coupling, by whether the aggressor can switch the same way at the same time
abbrev pub least_by : MillerNumbers → Bool → ℕ
least_by m b = if b then m.low else m.mid

-- the greatest, by whether it can switch the other way
abbrev pub greatest_by : MillerNumbers → Bool → ℕ
greatest_by m b = if b then m.high else m.mid
