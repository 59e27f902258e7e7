-- The flat netlist of a module. Its nets are the module's, then for each instance of a module, in the order of the
-- text, the flat nets of that instance. Only ports without a connection are nets there; another port is what it is
-- connected to.
use Rattle.std.specs.Prelude.{◌≡◌, ℕ, ◌+◌, ◌*◌, ◌<◌, ◌≤◌, ◌^◌, nat_lt, List, [], ◌∷◌, ◌++◌, length, map, replicate}
use Rattle.std.specs.Prelude.{Option, Some, None, Result, Ok, Err, if◌then◌else◌}
use Rattle.std.specs.List.{slice_get}
use Rattle.name_numbers.specs.Names.{Text, value_of}
use Rattle.xt_model.specs.Limits.{most_nets, most_instances}
use Rattle.xt_model.specs.Results.{◌>>=◌}
use Rattle.xt_model.specs.declared.fault.LimitKind.{LimitKind}
use Rattle.xt_model.specs.declared.fault.LimitKind.TheVariants as limits
use Rattle.verilog_net.specs.declared.netlist.Net.{Net}
use Rattle.verilog_net.specs.declared.netlist.Instance.{Instance}
use Rattle.verilog_net.specs.declared.netlist.Netlist.{Netlist}
use Rattle.verilog_net.specs.declared.netlist.PortRole.TheVariants.{Inner}
use Rattle.verilog_net.specs.declared.netlist.Wire.{Wire}
use Rattle.verilog_net.specs.declared.netlist.Wire.TheVariants as wires
use Rattle.verilog_net.specs.Nets.{Nets, is_directed}
use Rattle.hier_flatten.specs.Places.{width_of, place_in, bit_at}
use Rattle.hier_flatten.specs.Fits.{range_at}
use Rattle.hier_flatten.specs.Hierarchy.{Hierarchy, ends, cell, inner}

-- a module at a path: what is before each name, the module's nets, and what each of them is in the flat netlist
pub record Scope : Type 0 where
  pub prefix : Text
  pub nets : Nets
  pub meant : List Wire

-- the flat nets and instances so far, and how many instances of modules were met
pub record Flat : Type 0 where
  pub nets : Nets
  pub instances : List Instance
  pub entered : ℕ

abbrev pub Ranges : Type 0
Ranges = List (Option (ℕ × ℕ))

abbrev pub ranges_of : Nets → Ranges
ranges_of nets = map (λ net. net.1.range) nets

-- the range of a flat net by its number
abbrev pub range_or_none : Option (Option (ℕ × ℕ)) → Option (ℕ × ℕ)
range_or_none None = None
range_or_none (Some range) = range

abbrev pub range_of : ℕ → Ranges → Option (ℕ × ℕ)
range_of net flat = range_or_none (slice_get flat net)

-- ---- connections

abbrev pub or_open : Option Wire → Wire
or_open None = wires.Open
or_open (Some wire) = wire

-- a bit of a flat net
abbrev pub bit_of : ℕ → Option ℕ → Wire
bit_of net None = wires.Open
bit_of net (Some bit) = wires.Bit net bit

-- the bit at a place of what a net is in the flat netlist, whose nets have these ranges
abbrev pub bit_within : Ranges → ℕ → Wire → Wire
bit_within flat place (wires.Whole net) = bit_of net (bit_at (range_of net flat) place)
bit_within flat place wire = wire

-- what something is connected to in the flat netlist, by what it is connected to in a module with these nets
abbrev pub flat_wire : Ranges → Nets → List Wire → Wire → Wire
flat_wire flat nets meant wires.Open = wires.Open
flat_wire flat nets meant wires.Constant = wires.Constant
flat_wire flat nets meant (wires.Bit decl bit) =
    bit_within flat (place_in (range_at decl nets) bit) (or_open (slice_get meant decl))
flat_wire flat nets meant (wires.Whole decl) = or_open (slice_get meant decl)

abbrev pub flat_pins : Ranges → Nets → List Wire → List (Text × Wire) → List (Text × Wire)
flat_pins flat nets meant pins = map (λ p. (p.0, flat_wire flat nets meant p.1)) pins

-- an instance of a cell
abbrev pub flat_instance : Ranges → Scope → Instance → Instance
flat_instance flat s i = record {
  cell = i.cell;
  name = s.prefix ++ i.name;
  line = i.line;
  pins = flat_pins flat s.nets s.meant i.pins;
}

-- ---- an instance of a module

-- what a net of the module is connected to outside, by the pins of the instance
abbrev pub wire_of : Ranges → Nets → List Wire → List (Text × Wire) → Text × Net → Wire
wire_of flat nets meant pins net =
    if is_directed net.1.role then flat_wire flat nets meant (or_open (value_of net.0 pins)) else wires.Open

-- what a net is in the flat netlist: one without a connection is a net of its own, of the number `next`
abbrev pub meant_by : ℕ → Wire → Wire
meant_by next wires.Open = wires.Whole next
meant_by next wire = wire

abbrev pub next_after : ℕ → Wire → ℕ
next_after next wires.Open = next + 1
next_after next wire = next

-- the same for nets one after another
abbrev pub meant_from : ℕ → List Wire → List Wire
meant_from next [] = []
meant_from next (wire ∷ more) = meant_by next wire ∷ meant_from (next_after next wire) more

-- a net of its own: its name is that of the path and its own, and it is no port
abbrev pub own_of : Text → Text × Net → Wire → Nets
own_of prefix net wires.Open = (prefix ++ net.0, record net.1 { role = Inner }) ∷ []
own_of prefix net wire = []

-- the nets without a connection
abbrev pub own_nets : Text → Nets → List Wire → Nets
own_nets prefix (net ∷ nets) (wire ∷ ws) = own_of prefix net wire ++ own_nets prefix nets ws
own_nets prefix _ _ = []

-- the names of a path are joined by `/`
abbrev pub prefix_below : Text → Text → Text
prefix_below prefix name = prefix ++ (name ++ 47 ∷ [])

-- what the nets of the instance's module are connected to outside
abbrev pub wires_below : Ranges → Scope → Instance → Netlist → List Wire
wires_below flat s i m = map (wire_of flat s.nets s.meant i.pins) m.nets

-- the module at this instance
abbrev pub scope_below : Ranges → Scope → Instance → Netlist → Scope
scope_below flat s i m = record {
  prefix = prefix_below s.prefix i.name;
  nets = m.nets;
  meant = meant_from (length flat) (wires_below flat s i m);
}

-- its own nets go last
abbrev pub entered_below : Flat → Scope → Instance → Netlist → Flat
entered_below flat s i m = record flat {
  nets = flat.nets ++ own_nets (prefix_below s.prefix i.name) m.nets (wires_below (ranges_of flat.nets) s i m);
  entered = flat.entered + 1;
}

-- ---- limits

-- how many bits nets of these ranges have
abbrev pub bits_in : Ranges → ℕ
bits_in [] = 0
bits_in (range ∷ more) = width_of range + bits_in more

-- what limits are asked of: the ranges of the flat nets, and how many instances of cells and of modules were met
pub record Counts : Type 0 where
  pub ranges : Ranges
  pub met : ℕ

abbrev pub counts_of : Flat → Counts
counts_of flat = record { ranges = ranges_of flat.nets; met = length flat.instances + flat.entered }

-- the limit that is passed where a further instance of a module is met: it is counted, its nets are not yet
abbrev pub limit_after : ℕ → ℕ → Option LimitKind
limit_after met bits =
    if nat_lt most_instances (met + 1) then Some limits.Instances
    else if nat_lt most_nets bits then Some limits.Nets
    else None

unfoldable pub limit_of : Counts → Option LimitKind
limit_of counts = limit_after counts.met (bits_in counts.ranges)

-- what comes of an instance of a module, unless it passes a limit
abbrev pub unless_passed : Option LimitKind → Result Flat LimitKind → Result Flat LimitKind
unless_passed (Some what) more = Err what
unless_passed None more = more

-- ---- the flat netlist

-- what is flat once these instances of a module at a path have been added, with all below them
abbrev pub flat_below : Hierarchy → Scope → Flat → Result Flat LimitKind
flat_below ends s flat = Ok flat
flat_below (cell i more) s flat =
    flat_below more s (record flat { instances = flat.instances ++ flat_instance (ranges_of flat.nets) s i ∷ [] })
flat_below (inner i m below more) s flat =
    unless_passed (limit_of (counts_of flat))
    (flat_below below (scope_below (ranges_of flat.nets) s i m) (entered_below flat s i m))
    >>= flat_below more s

-- each net of the top is a net of its own
abbrev pub top_scope : Netlist → Scope
top_scope top = record {
  prefix = [];
  nets = top.nets;
  meant = meant_from 0 (replicate (length top.nets) wires.Open);
}

abbrev pub at_top : Netlist → Flat
at_top top = record { nets = top.nets; instances = []; entered = 0 }

-- the flat netlist of the top with this below its instances
unfoldable pub built : Netlist → Hierarchy → Result Flat LimitKind
built top h = flat_below h (top_scope top) (at_top top)

-- ---- what the code counts

pub record IsCounted (ranges : Ranges) (bits : ℕ) : Type 0 where
  pub count : bits ≡ bits_in ranges
  pub few : length ranges < 2 ^ 32
  pub most : bits ≤ length ranges * 2 ^ 32

-- the net of a number, where it has no connection
abbrev pub own_at : Text → Option (Text × Net) → Option Wire → Nets
own_at prefix (Some net) (Some wire) = own_of prefix net wire
own_at prefix _ _ = []
