-- A module that is its own flat netlist.
use Rattle.std.specs.Prelude.{◌&&◌, not, Bool, false, List, [], ◌∷◌}
use Rattle.std.specs.List.{list_all}
use Rattle.std.specs.Str.{bytes_eq}
use Rattle.name_numbers.specs.Names.{Text}
use Rattle.verilog_net.specs.declared.netlist.Instance.{Instance}
use Rattle.verilog_net.specs.declared.netlist.Netlist.{Netlist}
use Rattle.hier_flatten.specs.Fits.{cell_pin_fits}

-- an instance in a module of this name is one of a cell, none of whose pins is connected to a whole bus
abbrev pub is_plain : Text → Instance → Bool
is_plain name i = not (bytes_eq name i.cell) && list_all cell_pin_fits i.pins

-- there is one module, which has neither an instance of itself nor a whole bus as a connection
abbrev pub is_alone : List Netlist → Bool
is_alone (m ∷ []) = list_all (is_plain m.«module») m.instances
is_alone _ = false
