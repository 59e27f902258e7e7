-- What reading leaves true of constraints: the clock and what is set for ports keep their ranges.
use Rattle.std.specs.Prelude.{pos, IfSome}
use Rattle.std.specs.List.{All}
use Rattle.xt_model.specs.Limits.{most_period}
use Rattle.xt_model.specs.Sound.{IsBetween}
use Rattle.xt_number.specs.Quantities.{IsQuantity}
use Rattle.sdc_read.specs.declared.constraints.Clock.{Clock}
use Rattle.sdc_read.specs.declared.constraints.Constraints.{Constraints}
use Rattle.sdc_read.specs.Ports.{IsInRange}

-- the clock falls from 0 to 2^40 fs behind its rise
pub record IsSoundClock (c : Clock) : Type 0 where
  pub period : IsBetween (pos 1) most_period c.period
  pub fall : IsQuantity c.fall

-- constraints that are to be linked: the clock is sound, and what is set for ports keeps its range
pub record AreSoundConstraints (c : Constraints) : Type 0 where
  pub clock : IfSome c.clock IsSoundClock
  pub ports : All IsInRange c.ports
