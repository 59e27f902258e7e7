-- What the pins of one group of the text have in common.
use Rattle.std.specs.Prelude.{pos, []}
use Rattle.name_numbers.specs.Names.{Text}
use Rattle.liberty_cells.specs.declared.pin.PinFacts.{PinFacts}
use Rattle.liberty_cells.specs.declared.pin.Role.TheVariants.{Other}
use Rattle.liberty_cells.specs.Pins.{PinParts, pin_named}

-- what a group has in common that gives no direction, capacitance and timing groups
abbrev pub empty_facts : PinFacts
empty_facts = record { role = Other; cap = pos 0; timings = [] }

-- a pin of a group by its name
abbrev pub pin_of : PinFacts → Text → PinParts
pin_of f name = pin_named f.role f.cap f.timings name
