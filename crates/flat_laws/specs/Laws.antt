-- What laws of flat netlists say.
use Rattle.std.specs.Prelude.{◌≡◌, false, [], ◌∷◌, Ok}
use Rattle.std.specs.List.{All}
use Rattle.name_numbers.specs.Names.{Text}
use Rattle.xt_lex.specs.Bytes.{last_line}
use Rattle.verilog_net.specs.declared.netlist.Netlist.{Netlist}
use Rattle.verilog_net.specs.declared.netlist.Wire.{Wire}
use Rattle.verilog_net.specs.declared.netlist.Wire.TheVariants as wires
use Rattle.verilog_net.specs.Reading.{modules_of}
use Rattle.hier_flatten.specs.Hierarchy.{is_instanced}
use Rattle.hier_flatten.specs.Meaning.{FlatMeans}

-- a pin is connected to one bit, to a constant or to nothing
abbrev pub IsOneBit : Wire → Type 0
IsOneBit (wires.Whole decl) = ⊥
IsOneBit wire = Unit {0}

-- no pin of an instance is connected to a whole bus
abbrev pub ConnectsBits : Netlist → Type 0
ConnectsBits m = All (λ i. All (λ p. IsOneBit p.1) i.pins) m.instances

-- the text is this module alone, also where several are admitted; unless the module contains itself, it is the flat
-- netlist of the text
pub record IsItself (bytes : Text) (m : Netlist) : Type 0 where
  pub alone : modules_of bytes ≡ Ok (m ∷ [])
  pub flat : is_instanced (m ∷ []) m.«module» ≡ false → FlatMeans (m ∷ []) (last_line bytes) (Ok m)
