-- What comes of the parts of a design.
use Rattle.std.specs.Prelude.{◌≡◌, ℕ, List, [], map, Result, Ok, Err, unwrap_or, option_map}
use Rattle.std.specs.List.{slice_get}
use Rattle.name_numbers.specs.Names.{Text}
use Rattle.xt_model.specs.declared.net.Net.{Net}
use Rattle.xt_model.specs.Levels.{AreLevelled}
use Rattle.xt_model.specs.Parts.{Parts}
use Rattle.verilog_net.specs.declared.netlist.Netlist.{Netlist}
use Rattle.link_rules.specs.declared.fault.LinkFault.{LinkFault}
use Rattle.link_rules.specs.declared.fault.LinkFault.TheVariants as faults
use Rattle.verilog_net.specs.Bits.{bits}
use Rattle.link_rules.specs.Link.{IsLoopFault}

-- the name of the net of a number
abbrev pub net_name : Netlist → ℕ → Text
net_name netlist i = unwrap_or (option_map (λ b. b.name) (slice_get (bits netlist.nets) i)) []

-- nets and the bits of a netlist have the same names
abbrev pub HaveNamesOf : Netlist → List Net → Type 0
HaveNamesOf netlist nets = map (λ n. n.name) nets ≡ map (λ b. b.name) (bits netlist.nets)

-- a fault is the loop of nets by their names; want of memory is always free
abbrev pub IsLoopOf : List Net → LinkFault → Type 0
IsLoopOf nets faults.NoMemory = Unit {0}
IsLoopOf nets fault = IsLoopFault nets fault

-- the design of these parts, whose nets have levels, or the loop of its nets
abbrev pub Builds : Parts → Result Parts LinkFault → Type 0
Builds d (Ok e) = (e ≡ d) × AreLevelled d.nets
Builds d (Err fault) = IsLoopOf d.nets fault
