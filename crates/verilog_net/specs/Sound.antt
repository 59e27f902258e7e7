-- What reading leaves true of a netlist: names fit, no two bits have the same name, and bounds of ranges are not too
-- great.
use Rattle.std.specs.Prelude.{◌≡◌, ◌≢◌, ℕ, ◌<◌, ◌≤◌, Some, IfSome}
use Rattle.std.specs.List.{All, slice_get}
use Rattle.text_forms.specs.Names.{IsShortName}
use Rattle.verilog_net.specs.declared.netlist.Instance.{Instance}
use Rattle.verilog_net.specs.declared.netlist.Netlist.{Netlist}
use Rattle.verilog_net.specs.Bits.{Bit, bits}
use Rattle.verilog_net.specs.Nets.{most_bit}

pub record IsSoundInstance (i : Instance) : Type 0 where
  pub cell : IsShortName i.cell
  pub name : IsShortName i.name
  pub pins : All (λ p. IsShortName p.0) i.pins

-- no two bits have the same name
pub record HaveOwnNames (netlist : Netlist) : Type 0 where
  pub differ : (i j : ℕ) (a b : Bit) → i < j → slice_get (bits netlist.nets) i ≡ Some a
      → slice_get (bits netlist.nets) j ≡ Some b → a.name ≢ b.name

-- a netlist that is to be linked
pub record IsSoundNetlist (netlist : Netlist) : Type 0 where
  pub nets : All (λ net. IsShortName net.0) netlist.nets
  pub own : HaveOwnNames netlist
  pub instances : All IsSoundInstance netlist.instances

-- one of the modules of a text
pub record IsSoundModule (m : Netlist) : Type 0 where
  pub nets : All (λ net. IsShortName net.0) m.nets
  pub ranges : All (λ net. IfSome net.1.range (λ r. (r.0 ≤ most_bit) × (r.1 ≤ most_bit))) m.nets
  pub instances : All IsSoundInstance m.instances
