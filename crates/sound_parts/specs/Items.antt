-- Soundness of the tables, nets and checks of a design, each by itself.
use Rattle.std.specs.Prelude.{ℕ, ◌<◌, ◌^◌, ◌≤ℤ◌, length, IfSome}
use Rattle.std.specs.List.{All, slice_get}
use Rattle.xt_model.specs.declared.net.Net.{Net}
use Rattle.xt_model.specs.Limits.{most_cap}
use Rattle.xt_model.specs.Miller.{IsMiller}
use Rattle.xt_model.specs.Tables.{IsTable}
use Rattle.xt_model.specs.Parts.{Parts}
use Rattle.xt_model.specs.Sound.{IsCap, IsPeriod, IsSoundArc, IsSoundCheck, IsSoundCoupling, IsSoundNet, IsSoundSink}
use Rattle.xt_model.specs.Sound.{IsWithinLimits, greatest_load}

-- the couplings, sinks and arcs of net number `own` are sound
abbrev pub HasSoundLists : Parts → ℕ → Net → Type 0
HasSoundLists d own n =
    All (IsSoundCoupling d own) n.couplings × All (IsSoundSink (length n.couplings)) n.sinks × All (IsSoundArc d) n.arcs

-- the load of the net is in range, also with every coupling counted twice, and the number of a sink fits 32 bits
abbrev pub HasSoundSizes : Net → Type 0
HasSoundSizes n = IsCap n.load × (greatest_load n ≤ℤ most_cap) × (length n.sinks < 2 ^ 32)

-- each net is sound under its number
abbrev pub HasSoundNets : Parts → Type 0
HasSoundNets d = (i : ℕ) → IfSome (slice_get d.nets i) (IsSoundNet d i)

-- each table, net and check is sound
pub record HasSoundItems (d : Parts) : Type 0 where
  pub tables : All IsTable d.tables
  pub nets : HasSoundNets d
  pub checks : All (IsSoundCheck d) d.checks

-- the parts are sound, if names of nets differ
abbrev pub IsSoundButForNames : Parts → Type 0
IsSoundButForNames d = IsWithinLimits d × IsPeriod d × IsMiller d.miller × HasSoundItems d
