-- What the forms of a netlist mean, one after another. A state has the modules that ended, and of the module that is
-- being read what its statements said so far.
use Rattle.std.specs.Prelude.{ℕ, Bool, true, false, not, ◌&&◌, ◌==◌, List, [], ◌∷◌, ◌++◌, length}
use Rattle.std.specs.Prelude.{Option, Some, None, Result, Ok, Err, if◌then◌else◌}
use Rattle.std.specs.List.{list_all}
use Rattle.name_numbers.specs.Names.{Text, has_name, with_name, found, with_value}
use Rattle.xt_model.specs.declared.code.Code.{Code}
use Rattle.xt_model.specs.declared.code.Code.TheVariants.{V3, V4, V5, V6}
use Rattle.verilog_net.specs.declared.netlist.Net.{Net}
use Rattle.verilog_net.specs.declared.netlist.Netlist.{Netlist}
use Rattle.verilog_net.specs.declared.netlist.Instance.{Instance}
use Rattle.verilog_net.specs.declared.netlist.Wire.{Wire}
use Rattle.verilog_net.specs.declared.netlist.Wire.TheVariants as wires
use Rattle.verilog_net.specs.declared.netlist.PortRole.{PortRole}
use Rattle.verilog_net.specs.declared.netlist.PortRole.TheVariants as roles
use Rattle.verilog_net.specs.Forms.{Item}
use Rattle.verilog_net.specs.Forms as grammar
use Rattle.verilog_net.specs.Nets.{Nets, NetBit, number_of, has_bit, named_bit, same_range, joined_role}
use Rattle.verilog_net.specs.Nets.{BitNets, with_net, has_bit_net, is_port}

pub record State : Type 0 where
  -- whether one module alone is admitted, and no whole bus as a connection
  pub single : Bool
  -- the modules that ended, and the names of all modules
  pub ended : List Netlist
  pub modules : List Text
  -- the module that is being read: its name, the names of its header, its nets, those of them that have names of bits,
  -- the names of its instances, and those instances that ended
  pub current : Text
  pub header : List Text
  pub nets : Nets
  pub bit_nets : BitNets
  pub instance_names : List Text
  pub instances : List Instance
  -- the declaration that is being read
  pub role : PortRole
  pub left : ℕ
  pub range : Option (ℕ × ℕ)
  -- the instance that is being read: its cell, its name and the line of it, the names of its pins, the pins with what
  -- they are connected to, and the pin whose connection is being read
  pub cell : Text
  pub instance : Text
  pub line : ℕ
  pub pin_names : List Text
  pub pins : List (Text × Wire)
  pub pin : Text

-- nothing has been read
abbrev pub nothing : Bool → State
nothing single = record {
  single = single;
  ended = [];
  modules = [];
  current = [];
  header = [];
  nets = [];
  bit_nets = [];
  instance_names = [];
  instances = [];
  role = roles.Inner;
  left = 0;
  range = None;
  cell = [];
  instance = [];
  line = 0;
  pin_names = [];
  pins = [];
  pin = [];
}

-- a further module, where more than one is admitted
unfoldable pub begin_module : State → Result State Code
begin_module s = if s.single && not (length s.ended == 0) then Err V3 else Ok s

-- the name of a module, which is no other's
unfoldable pub name_module : Text → State → Result State Code
name_module name s =
    if has_name name s.modules then Err V5
    else Ok (record s {
      modules = with_name name s.modules;
      current = name;
      header = [];
      bit_nets = [];
      instance_names = [];
    })

-- a name of the header
abbrev pub list_name : Text → State → State
list_name name s = record s { header = s.header ++ name ∷ [] }

-- the module as it is, once it ended
abbrev pub netlist_of : State → Netlist
netlist_of s = record { «module» = s.current; nets = s.nets; instances = s.instances }

-- the end of a module: each name of the header has to have a direction
unfoldable pub end_module : State → Result State Code
end_module s =
    if list_all (λ name. is_port name s.nets) s.header
    then Ok (record s { ended = s.ended ++ netlist_of s ∷ []; nets = []; instances = [] })
    else Err V4

-- a further net
abbrev pub with_further : Text → Net → State → State
with_further name net s = record s { nets = with_value name net s.nets; bit_nets = with_net name s.bit_nets }

-- a net is declared that has been declared or used before
abbrev pub declare_again : Text → State → Net → Option PortRole → Result State Code
declare_again name s net None = Err V3
declare_again name s net (Some role) =
    if same_range net.range s.range
    then Ok (record s { nets = with_value name (record { range = net.range; role = role; declared = true }) s.nets })
    else Err V3

-- a name is declared for the first time: it is not that of a bit, and no net has the name of one of its bits
abbrev pub declare_new : Text → State → Option NetBit → Result State Code
declare_new name s (Some bit) = Err V3
declare_new name s None =
    if has_bit_net name s.range s.bit_nets then Err V3
    else Ok (with_further name (record { range = s.range; role = s.role; declared = true }) s)

abbrev pub declare_as : Text → State → Option (ℕ × Net) → Result State Code
declare_as name s (Some net) = declare_again name s net.1 (joined_role net.1.role s.role)
declare_as name s None = declare_new name s (named_bit name s.nets)

-- a name is declared by the declaration that is being read
unfoldable pub declare : Text → State → Result State Code
declare name s = declare_as name s (found name s.nets)

-- a name is declared without a range
abbrev pub declare_scalar : PortRole → Text → State → Result State Code
declare_scalar role name s = declare name (record s { role = role; range = None })

-- the left bound of the range of a declaration
abbrev pub left_as : PortRole → State → Option ℕ → Result State Code
left_as role s (Some left) = Ok (record s { role = role; left = left })
left_as role s None = Err V6

unfoldable pub left_bound : PortRole → Text → State → Result State Code
left_bound role digits s = left_as role s (number_of digits)

-- the right bound of the range of a declaration
abbrev pub right_as : State → Option ℕ → Result State Code
right_as s (Some right) = Ok (record s { range = Some (s.left, right) })
right_as s None = Err V6

unfoldable pub right_bound : Text → State → Result State Code
right_bound digits s = right_as s (number_of digits)

-- an instance of the cell that is being read, with a name that no instance has
unfoldable pub begin_further : Text → ℕ → State → Result State Code
begin_further name line s =
    if has_name name s.instance_names then Err V5
    else Ok (record s {
      instance_names = with_name name s.instance_names;
      instance = name;
      line = line;
      pin_names = [];
    })

-- an instance of a cell
abbrev pub begin_instance : Text → Text → ℕ → State → Result State Code
begin_instance cell name line s = begin_further name line (record s { cell = cell })

-- a pin that the instance does not have so far
unfoldable pub begin_pin : Text → State → Result State Code
begin_pin name s =
    if has_name name s.pin_names then Err V5
    else Ok (record s { pin_names = with_name name s.pin_names; pin = name })

-- the pin is connected to this
abbrev pub connect : Wire → State → State
connect wire s = record s { pins = s.pins ++ (s.pin, wire) ∷ [] }

-- a name that no net has is a net
abbrev pub connect_new : Text → State → Option NetBit → State
connect_new name s (Some bit) = connect (wires.Bit bit.0 bit.1) s
connect_new name s None = connect (wires.Bit (length s.nets) 0)
    (with_further name (record { range = None; role = roles.Inner; declared = false }) s)

-- a net without a range is one bit; a whole bus is connected where several modules are admitted
abbrev pub connect_found : ℕ → State → Option (ℕ × ℕ) → Result State Code
connect_found decl s None = Ok (connect (wires.Bit decl 0) s)
connect_found decl s (Some range) = if s.single then Err V3 else Ok (connect (wires.Whole decl) s)

abbrev pub connect_as : Text → State → Option (ℕ × Net) → Result State Code
connect_as name s (Some net) = connect_found net.0 s net.1.range
connect_as name s None = Ok (connect_new name s (named_bit name s.nets))

-- the pin is connected to the net or the bit of this name
unfoldable pub connect_name : Text → State → Result State Code
connect_name name s = connect_as name s (found name s.nets)

-- the pin is connected to a bit of a range
abbrev pub connect_within : ℕ → State → Option (ℕ × ℕ) → Option ℕ → Result State Code
connect_within decl s (Some range) (Some bit) =
    if has_bit range bit then Ok (connect (wires.Bit decl bit) s) else Err V6
connect_within decl s _ _ = Err V6

-- a bit of a name that is not declared is refused, and so is one of a name that has no such bit
abbrev pub connect_bit_as : Text → State → Option (ℕ × Net) → Result State Code
connect_bit_as digits s None = Err V4
connect_bit_as digits s (Some net) =
    if net.1.declared then connect_within net.0 s net.1.range (number_of digits) else Err V4

unfoldable pub connect_bit : Text → Text → State → Result State Code
connect_bit name digits s = connect_bit_as digits s (found name s.nets)

-- the instance as it is, once it ended
abbrev pub instance_of : State → Instance
instance_of s = record { cell = s.cell; name = s.instance; line = s.line; pins = s.pins }

abbrev pub end_instance : State → State
end_instance s = record s { instances = s.instances ++ instance_of s ∷ []; pins = [] }

-- what a form means
unfoldable pub means : Item → State → Result State Code
means grammar.Nothing s = Ok s
means (grammar.Refused code) s = Err code
means grammar.ModuleBegins s = begin_module s
means (grammar.ModuleName name) s = name_module name s
means (grammar.Listed name) s = Ok (list_name name s)
means grammar.ModuleEnds s = end_module s
means (grammar.Scalar role name) s = declare_scalar role name s
means (grammar.Left role digits) s = left_bound role digits s
means (grammar.Right digits) s = right_bound digits s
means (grammar.Further name) s = declare name s
means (grammar.Instance cell name line) s = begin_instance cell name line s
means (grammar.FurtherInstance name line) s = begin_further name line s
means (grammar.Pin name) s = begin_pin name s
means grammar.NoConnection s = Ok (connect wires.Open s)
means grammar.Constant s = Ok (connect wires.Constant s)
means (grammar.Net name) s = connect_name name s
means (grammar.Bit bus digits) s = connect_bit bus digits s
means grammar.InstanceEnds s = Ok (end_instance s)
