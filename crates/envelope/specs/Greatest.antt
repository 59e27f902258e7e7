-- The greatest wire delay of a design, with every coupling at its highest factor.
use Rattle.std.specs.Prelude.{ℕ, ◌<◌, ◌≤◌, ◌^◌, ℤ, pos, ◌≤ℤ◌, length, IfSome}
use Rattle.std.specs.List.{slice_get}
use Rattle.xt_model.specs.declared.net.Net.{Net}
use Rattle.xt_model.specs.Miller.{MillerNumbers}
use Rattle.xt_model.specs.Parts.{Parts}
use Rattle.xt_meaning.specs.Envelope.{greatest_wire}

-- a delay in fs that a wire can have
pub record IsWireDelay (wire : ℤ) : Type 0 where
  pub low : pos 0 ≤ℤ wire
  pub high : wire ≤ℤ pos (2 ^ 105)

-- the wires to the sinks of a net below a number have this delay in fs at most
pub record AreWiresToSinksAtMost (m : MillerNumbers) (net : Net) (sinks : ℕ) (greatest : ℤ) : Type 0 where
  pub delay : IsWireDelay greatest
  pub each : (sink : ℕ) → sink < sinks → greatest_wire m net sink ≤ℤ greatest

-- the wires of the nets from number `from` to before number `to` have this delay in fs at most
pub record AreWiresOfNetsAtMost (d : Parts) (from to : ℕ) (greatest : ℤ) : Type 0 where
  pub delay : IsWireDelay greatest
  pub each : (n : ℕ) → from ≤ n → n < to
      → IfSome (slice_get d.nets n) (λ net. AreWiresToSinksAtMost d.miller net (length net.sinks) greatest)

-- the wires of all nets have this delay in fs at most
abbrev pub AreWiresAtMost : Parts → ℤ → Type 0
AreWiresAtMost d greatest = AreWiresOfNetsAtMost d 0 (length d.nets) greatest
