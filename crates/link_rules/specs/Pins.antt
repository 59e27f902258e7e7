-- The pins of a netlist that are on nets.
use Rattle.std.specs.Prelude.{ℕ, ◌+◌, ◌==◌, ◌&&◌, Bool, true, false, List, [], ◌∷◌, ◌++◌, find, filter, filter_map}
use Rattle.std.specs.Prelude.{Option, Some, bytes_eq}
use Rattle.xt_model.specs.Options.{◌>>=◌}
use Rattle.name_numbers.specs.Names.{Text}
use Rattle.liberty_cells.specs.declared.library.Library.{Library}
use Rattle.liberty_cells.specs.declared.cell.Cell.{Cell}
use Rattle.liberty_cells.specs.declared.pin.Role.{Role}
use Rattle.liberty_cells.specs.declared.pin.Role.TheVariants as roles
use Rattle.liberty_cells.specs.Pins.{PinParts}
use Rattle.verilog_net.specs.declared.netlist.Instance.{Instance}
use Rattle.verilog_net.specs.declared.netlist.Netlist.{Netlist}
use Rattle.verilog_net.specs.declared.netlist.Wire.{Wire}
use Rattle.link_rules.specs.Bits.{net_of}
use Rattle.link_rules.specs.Ends.{NetEnd, Pin}

-- the cell of a name, and the first pin of a name in a cell
abbrev pub cell_named : Library → Text → Option Cell
cell_named library name = find (λ c. bytes_eq name c.name) library.cells

abbrev pub pin_named : Cell → Text → Option PinParts
pin_named cell name = find (λ p. bytes_eq name p.name) cell.pins

abbrev pub is_input : Role → Bool
is_input roles.Input = true
is_input _ = false

abbrev pub is_output : Role → Bool
is_output roles.Output = true
is_output _ = false

-- a pin of an instance that is on a net: the number and the name of the instance, the pin of its cell, and the net
pub record Connected : Type 0 where
  pub instance : ℕ
  pub owner : Text
  pub pin : PinParts
  pub net : ℕ

-- the end of a net that it is
abbrev pub end_of : Connected → NetEnd
end_of c = Pin c.owner c.pin.name

module _ (library : Library) (netlist : Netlist) where
  -- a pin of the instance of this number, where its cell has it and it is on a net
  abbrev pub connected : ℕ → Instance → Text × Wire → Option Connected
  connected number instance connection = do
    cell ← cell_named library instance.cell
    pin ← pin_named cell connection.0
    net ← net_of netlist.nets connection.1
    Some (record { instance = number; owner = instance.name; pin = pin; net = net })

  abbrev pub pins_from : ℕ → List Instance → List Connected
  pins_from number [] = []
  pins_from number (instance ∷ more) =
      filter_map (connected number instance) instance.pins ++ pins_from (number + 1) more

  -- all pins on nets: instances in the order of the text, and pins in the order of the text
  unfoldable pub pins : List Connected
  pins = pins_from 0 netlist.instances

  -- the input pins on a net, and the output pins on it
  abbrev pub inputs_on : ℕ → List Connected
  inputs_on net = filter (λ c. is_input c.pin.role && c.net == net) pins

  abbrev pub outputs_on : ℕ → List Connected
  outputs_on net = filter (λ c. is_output c.pin.role && c.net == net) pins
