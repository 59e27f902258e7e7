-- What an index of a netlist keeps.
use Rattle.std.specs.Prelude.{◌≡◌, ℕ, ◌≤◌, List, length, map, position, bytes_eq}
use Rattle.std.specs.List.{All, AllZip}
use Rattle.name_numbers.specs.Names.{Text, value_of}
use Rattle.verilog_net.specs.declared.netlist.Instance.{Instance}
use Rattle.verilog_net.specs.declared.netlist.Netlist.{Netlist}
use Rattle.verilog_net.specs.declared.netlist.Wire.{Wire}
use Rattle.verilog_net.specs.Nets.{Nets}
use Rattle.xt_model.specs.Limits.{most_nets, most_instances}
use Rattle.verilog_net.specs.Bits.{bits}
use Rattle.verilog_net.specs.Sound.{IsSoundNetlist}
use Rattle.link_index.specs.declared.wires.PinWires.{PinWires}
use Rattle.link_index.specs.Bits.{AreStarts}
use Rattle.link_index.specs.Names.{AreNames}

-- a table has the names of the bits in order
abbrev pub HasNames : Nets → List (Text × Unit {0}) → Type 0
HasNames nets table = map (λ e. e.0) table ≡ map (λ b. b.name) (bits nets)

-- each name has the number of the first instance of this name
pub record HaveNumbers (instances : List Instance) (numbers : List (Text × ℕ)) : Type 0 where
  pub each : (name : Text) → value_of name numbers ≡ position (λ i. bytes_eq name i.name) instances

-- each name has what the first pin of this name is connected to
pub record HaveWires (pins wires : List (Text × Wire)) : Type 0 where
  pub each : (name : Text) → value_of name wires ≡ value_of name pins

-- what is kept of the pins of an instance: of many pins a table
abbrev pub AreWired : List (Text × Wire) → PinWires → Type 0
AreWired pins w = All (HaveWires pins) w.tables.items

-- what is kept beside a sound netlist: the first bit of each net, and how many bits there are
pub record AreBits (n : Netlist) (firsts : List ℕ) (size : ℕ) : Type 0 where
  pub sound : IsSoundNetlist n
  pub most : length (bits n.nets) ≤ most_nets
  pub few : length n.instances ≤ most_instances
  pub starts : AreStarts n.nets firsts
  pub count : size ≡ length (bits n.nets)

-- what is kept beside its bits: their names
pub record IsIndex (n : Netlist) (table : List (Text × Unit {0})) : Type 0 where
  pub names : HasNames n.nets table
  pub spelled : AreNames table

-- what is kept of the instances of a netlist: the numbers of their names and the wires of each
pub record HaveInstances (n : Netlist) (numbers : List (Text × ℕ)) (pins : List PinWires) : Type 0 where
  pub instances : HaveNumbers n.instances numbers
  pub wires : AllZip (λ i. AreWired i.pins) n.instances pins
