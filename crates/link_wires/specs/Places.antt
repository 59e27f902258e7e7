-- Where names stand: what look-ups by hash keep.
use Rattle.std.specs.Prelude.{◌≡◌, ℕ, List, position}
use Rattle.std.specs.Str.{bytes_eq}
use Rattle.name_numbers.specs.Names.{Text, value_of}
use Rattle.verilog_net.specs.declared.netlist.Netlist.{Netlist}
use Rattle.spef_read.specs.declared.parasitics.Parasitics.{Parasitics}
use Rattle.link_rules.specs.Nodes.{text_of}

-- parasitics, and the netlist that their names speak of
pub record Extracted : Type 0 where
  pub netlist : Netlist
  pub parasitics : Parasitics

-- each name has the place of the first wire of this name
pub record HavePlaces (p : Parasitics) (places : List (Text × ℕ)) : Type 0 where
  pub each : (name : Text) → value_of name places ≡ position (λ w. bytes_eq name (text_of p w.name)) p.nets
