-- Names that cells of instances have, as a table holds them.
use Rattle.std.specs.Prelude.{◌≡◌, ◌||◌, Bool, true, false, List, Option, Some, None}
use Rattle.std.specs.List.{list_any}
use Rattle.std.specs.Str.{bytes_eq}
use Rattle.name_numbers.specs.Names.{Text, value_of}
use Rattle.verilog_net.specs.declared.netlist.Instance.{Instance}
use Rattle.verilog_net.specs.declared.netlist.Netlist.{Netlist}
use Rattle.hier_flatten.specs.Hierarchy.{is_instanced}

abbrev pub is_held : {V : Type 0} → Option V → Bool
is_held None = false
is_held (Some v) = true

-- the name of a cell of these instances
abbrev pub is_cell : Text → List Instance → Bool
is_cell name instances = list_any (λ i. bytes_eq name i.cell) instances

-- the cells of these instances were noted beside those before
pub record HasCells (instances : List Instance) (old new : List (Text × Unit {0})) : Type 0 where
  pub each : (name : Text) → is_held (value_of name new) ≡ (is_cell name instances || is_held (value_of name old))

-- the cells of all instances of the modules were noted
pub record AreCells (modules : List Netlist) (cells : List (Text × Unit {0})) : Type 0 where
  pub each : (name : Text) → is_held (value_of name cells) ≡ is_instanced modules name
