-- What reading leaves true of a library: numbers of tables lead to one, and capacitances keep their range.
use Rattle.std.specs.Prelude.{ℕ, ◌<◌, length, Option, IfSome}
use Rattle.std.specs.List.{All}
use Rattle.xt_number.specs.Quantities.{IsQuantity}
use Rattle.liberty_cells.specs.declared.library.Library.{Library}
use Rattle.liberty_cells.specs.declared.timing.Timing.{Timing}
use Rattle.liberty_cells.specs.Pins.{PinParts}

abbrev pub IsTableNumber : Library → Option ℕ → Type 0
IsTableNumber library o = IfSome o (λ n. n < length library.tables)

pub record IsSoundTiming (library : Library) (t : Timing) : Type 0 where
  pub rise : IsTableNumber library t.rise
  pub fall : IsTableNumber library t.fall
  pub rise_slew : IsTableNumber library t.rise_slew
  pub fall_slew : IsTableNumber library t.fall_slew

pub record IsSoundPin (library : Library) (p : PinParts) : Type 0 where
  pub cap : IsQuantity p.cap
  pub timings : All (IsSoundTiming library) p.timings

-- the tables that timing groups name are there, and capacitances keep their range
pub record IsSoundLibrary (library : Library) : Type 0 where
  pub pins : All (λ cell. All (IsSoundPin library) cell.pins) library.cells
