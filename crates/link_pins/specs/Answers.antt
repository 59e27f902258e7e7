-- What tests answer.
use Rattle.std.specs.Prelude.{◌≡◌, Option, Some, None, Result, Ok, Err}
use Rattle.name_numbers.specs.Names.{Text}
use Rattle.liberty_cells.specs.Pins.{PinParts}
use Rattle.link_rules.specs.declared.fault.LinkFault.{LinkFault}
use Rattle.link_rules.specs.declared.fault.LinkFault.TheVariants as faults
use Rattle.link_rules.specs.declared.fault.LinkRefusal.TheVariants as refusals

-- a fault of a test is the one that is found, or want of memory
abbrev pub IsFound : Option LinkFault → LinkFault → Type 0
IsFound found faults.NoMemory = Unit {0}
IsFound found fault = found ≡ Some fault

-- a pin that the cell does not have
abbrev pub missing_pin : Text → Text → Option PinParts → Option LinkFault
missing_pin instance pin None = Some (faults.Refused (refusals.K2 instance pin))
missing_pin instance pin (Some p) = None

-- a test answers what is found: nothing, or the fault
abbrev pub Tests : {A : Type 0} → Option LinkFault → Result A LinkFault → Type 0
Tests found (Ok x) = found ≡ None
Tests found (Err fault) = IsFound found fault
