-- What each form of a netlist leaves true of the state.
use Rattle.std.specs.Prelude.{◌≡◌, refl, ℕ, ◌≤◌, nat_le, ◌==◌, ◌&&◌, not, Bool, true, false, List, [], length}
use Rattle.std.specs.Prelude.{Option, Some, None, IfSome, Ok, Err, IfOk}
use Rattle.std.specs.List.{AllByRecursion, list_all}
use Rattle.std.proofs.Common.{arith, subst}
use Rattle.std.proofs.lemmas.Bool.{cond_both, leb-true}
use Rattle.std.proofs.lemmas.List.Elements.{All-from_recursion}
use Rattle.name_numbers.specs.Names.{Text, found, has_name}
use Rattle.xt_model.specs.declared.code.Code.TheVariants.{V3, V4, V5, V6}
use Rattle.text_forms.specs.Names.{is_name, IsShortName}
use Rattle.text_forms.proofs.Bytes.{each_push, each-weaker}
use Rattle.text_forms.proofs.NameLaws.{short_name}
use Rattle.text_forms.proofs.Kept.{passed_if, passed_unless}
use Rattle.verilog_net.specs.declared.netlist.Net.{Net}
use Rattle.verilog_net.specs.declared.netlist.Netlist.{Netlist}
use Rattle.verilog_net.specs.declared.netlist.Instance.{Instance}
use Rattle.verilog_net.specs.declared.netlist.Wire.{Wire}
use Rattle.verilog_net.specs.declared.netlist.Wire.TheVariants as wires
use Rattle.verilog_net.specs.declared.netlist.PortRole.{PortRole}
use Rattle.verilog_net.specs.declared.netlist.PortRole.TheVariants as roles
use Rattle.verilog_net.specs.Nets.{Nets, NetBit, most_bit, value_after, number_of, has_bit, named_bit, same_range, joined_role, is_port, BitNets, has_bit_net}
use Rattle.verilog_net.specs.Meaning.{State, nothing, begin_module, name_module, netlist_of, end_module, with_further, declare_again, declare_new}
use Rattle.verilog_net.specs.Meaning.{declare_as, declare, left_as, left_bound, right_as, right_bound, begin_further, begin_pin, connect}
use Rattle.verilog_net.specs.Meaning.{connect_new, connect_found, connect_as, connect_name, connect_within, connect_bit_as, connect_bit, instance_of, end_instance}
use Rattle.verilog_net.specs.Sound.{IsSoundInstance}
use Rattle.verilog_net.proofs.OwnNames.{shapes, IsBounded, AreFine, none_fine, further_fine, again_fine}

abbrev pub IsNamed : Text → Type 0
IsNamed name = is_name name ≡ true

-- a module whose bits have names of their own, and whose instances are sound
pub record IsFineModule (m : Netlist) : Type 0 where
  pub nets : (named : BitNets) × AreFine (shapes m.nets) named
  pub instances : AllByRecursion IsSoundInstance m.instances

-- by the parts of a state that count, so that it is the same where others change
pub record AreFineParts (done : List Netlist) (known : Nets) (named : BitNets) (placed : List Instance) (bound : ℕ)
    (bounds : Option (ℕ × ℕ)) (given : List (Text × Wire)) : Type 0 where
  pub ended : AllByRecursion IsFineModule done
  pub nets : AreFine (shapes known) named
  pub instances : AllByRecursion IsSoundInstance placed
  pub left : bound ≤ most_bit
  pub range : IsBounded bounds
  pub pins : AllByRecursion (λ p. IsNamed p.0) given

-- what is true of each part is true of all
fine_of : {done : List Netlist} {known : Nets} {named : BitNets} {placed : List Instance} {bound : ℕ}
    {bounds : Option (ℕ × ℕ)} {given : List (Text × Wire)}
    → AllByRecursion IsFineModule done → AreFine (shapes known) named → AllByRecursion IsSoundInstance placed → bound ≤ most_bit
    → IsBounded bounds → AllByRecursion (λ p. IsNamed p.0) given → AreFineParts done known named placed bound bounds given
fine_of ended nets instances left range pins =
    record { ended = ended; nets = nets; instances = instances; left = left; range = range; pins = pins }

abbrev pub IsFine : State → Type 0
IsFine s = AreFineParts s.ended s.nets s.bit_nets s.instances s.left s.range s.pins

-- ---- what is true in some contexts

-- no module is being read
abbrev pub Outside : State → Type 0
Outside s = IsFine s × (s.nets ≡ [])

-- an instance is being read
abbrev pub IsInInstance : State → Type 0
IsInInstance s = IsNamed s.cell × IsNamed s.instance

abbrev pub Instanced : State → Type 0
Instanced s = IsFine s × IsInInstance s

-- a pin of an instance is being read
abbrev pub InPin : State → Type 0
InPin s = Instanced s × IsNamed s.pin

no_range : IsBounded None
no_range r e = absurd (cc)

pub nothing_fine : (single : Bool) → IsFine (nothing single)
nothing_fine single = record { ended = tt; nets = none_fine []; instances = tt; left = omega arith; range = no_range; pins = tt }

-- ---- modules
module _ (s : State) (h : IsFine s) where
  pub begin_module_fine : s.nets ≡ [] → IfOk (begin_module s) Outside
  unfolding begin_module
  begin_module_fine none = passed_unless Outside (s.single && not (length s.ended == 0)) V3 (h, none)

  pub name_module_fine : (name : Text) → s.nets ≡ [] → IfOk (name_module name s) IsFine
  unfolding name_module
  name_module_fine name none =
      passed_unless IsFine (has_name name s.modules) V5 (fine_of h.ended (rw none (none_fine [])) h.instances h.left h.range h.pins)

  pub end_module_fine : IfOk (end_module s) Outside
  unfolding end_module
  end_module_fine =
      let whole : IsFineModule (netlist_of s) = record { nets = (s.bit_nets, h.nets); instances = h.instances } in
      let ended = each_push IsFineModule s.ended (netlist_of s) h.ended whole in
      passed_if Outside (list_all (λ name. is_port name s.nets) s.header) V4 (fine_of ended (none_fine s.bit_nets) tt h.left h.range h.pins, refl)

  -- ---- declarations

  -- other nets
  netted : {nets : Nets} {named : BitNets} → AreFine (shapes nets) named → IsFine (record s { nets = nets; bit_nets = named })
  netted nets = fine_of h.ended nets h.instances h.left h.range h.pins

  declared_again : (name : Text) (net : ℕ × Net) (role : Option PortRole) → found name s.nets ≡ Some net
      → IfOk (declare_again name s net.1 role) IsFine
  declared_again name net None at = tt
  declared_again name net (Some role) at =
      let v : Net = record { range = net.1.range; role = role; declared = true } in
      passed_if IsFine (same_range net.1.range s.range) V3 (netted (again_fine name v s.nets s.bit_nets h.nets net at refl))

  declared_new : (name : Text) (o : Option NetBit) → IsNamed name → found name s.nets ≡ None → named_bit name s.nets ≡ o
      → IfOk (declare_new name s o) IsFine
  declared_new name (Some bit) is at none = tt
  declared_new name None is at none =
      let v : Net = record { range = s.range; role = s.role; declared = true } in
      cond_both (has_bit_net name s.range s.bit_nets) (Err V3) (Ok (with_further name v s)) (λ r. IfOk r IsFine) (λ e. tt)
      (λ free. netted (further_fine name v s.nets s.bit_nets h.nets is h.range at none free))

  declared_by : (name : Text) (o : Option (ℕ × Net)) → IsNamed name → found name s.nets ≡ o → IfOk (declare_as name s o) IsFine
  declared_by name (Some net) is at = declared_again name net (joined_role net.1.role s.role) at
  declared_by name None is at = declared_new name (named_bit name s.nets) is at refl

  pub declare_fine : (name : Text) → IsNamed name → IfOk (declare name s) IsFine
  unfolding declare
  declare_fine name is = declared_by name (found name s.nets) is refl

  -- ---- bounds
  number_most : (digits : Text) → IfSome (number_of digits) (λ m. m ≤ most_bit)
  number_most digits =
      let v = value_after 0 digits in
      cond_both (nat_le v most_bit) (Some v) None (λ o. IfSome o (λ m. m ≤ most_bit)) (λ e. leb-true v most_bit e) (λ e. tt)

  pub left_bound_fine : (role : PortRole) (digits : Text) → IfOk (left_bound role digits s) IsFine
  unfolding left_bound
  left_bound_fine role digits =
      (elim (number_of digits) as (λ o. IfSome o (λ m. m ≤ most_bit) → IfOk (left_as role s o) IsFine)
      [ None ↦ λ most. tt | Some left ↦ λ most. fine_of h.ended h.nets h.instances most h.range h.pins ]) (number_most digits)

  bounds : (left right : ℕ) → left ≤ most_bit → right ≤ most_bit → IsBounded (Some (left, right))
  bounds left right l m r e =
      let same : ◌≡◌ {A = ℕ × ℕ} (left, right) r = cc in subst (λ x. (x.0 ≤ most_bit) × (x.1 ≤ most_bit)) same (l, m)

  pub right_bound_fine : (digits : Text) → IfOk (right_bound digits s) IsFine
  unfolding right_bound
  right_bound_fine digits =
      (elim (number_of digits) as (λ o. IfSome o (λ m. m ≤ most_bit) → IfOk (right_as s o) IsFine)
      [ None ↦ λ most. tt | Some right ↦ λ most. fine_of h.ended h.nets h.instances h.left (bounds s.left right h.left most) h.pins ]) (number_most digits)

-- a name that is declared without a range
pub scalar_fine : (s : State) → IsFine s → (role : PortRole) → IsFine (record s { role = role; range = None })
scalar_fine s h role = fine_of h.ended h.nets h.instances h.left no_range h.pins

-- ---- instances
pub further_instance : (s : State) → IsFine s → (name : Text) (line : ℕ) → IsNamed s.cell → IsNamed name → IfOk (begin_further name line s) Instanced
unfolding begin_further
further_instance s h name line cell is = passed_unless Instanced (has_name name s.instance_names) V5 (h, (cell, is))

pub begin_pin_fine : (s : State) → Instanced s → (name : Text) → IsNamed name → IfOk (begin_pin name s) InPin
unfolding begin_pin
begin_pin_fine s h name is = passed_unless InPin (has_name name s.pin_names) V5 (h, is)

-- what a pin is connected to
module _ (s : State) (h : InPin s) where
  pub connected : (wire : Wire) → Instanced (connect wire s)
  connected wire =
      let fine = h.0.0 in
      let pins = each_push (λ p. IsNamed p.0) s.pins (s.pin, wire) fine.pins h.1 in
      (fine_of fine.ended fine.nets fine.instances fine.left fine.range pins, h.0.1)

  connected_within : (decl : ℕ) (range : Option (ℕ × ℕ)) (bit : Option ℕ) → IfOk (connect_within decl s range bit) Instanced
  connected_within decl (Some range) (Some bit) = passed_if Instanced (has_bit range bit) V6 (connected (wires.Bit decl bit))
  connected_within decl _ _ = tt

  bit_found : (digits : Text) (o : Option (ℕ × Net)) → IfOk (connect_bit_as digits s o) Instanced
  bit_found digits None = tt
  bit_found digits (Some net) =
      cond_both net.1.declared (connect_within net.0 s net.1.range (number_of digits)) (Err V4) (λ r. IfOk r Instanced)
      (λ e. connected_within net.0 net.1.range (number_of digits)) (λ e. tt)

  pub connect_bit_fine : (name digits : Text) → IfOk (connect_bit name digits s) Instanced
  unfolding connect_bit
  connect_bit_fine name digits = bit_found digits (found name s.nets)

  found_by : (decl : ℕ) (range : Option (ℕ × ℕ)) → IfOk (connect_found decl s range) Instanced
  found_by decl None = connected (wires.Bit decl 0)
  found_by decl (Some range) = passed_unless Instanced s.single V3 (connected (wires.Whole decl))

-- a pin on a net that may not have been named before
module _ (s : State) (h : InPin s) (name : Text) (is : IsNamed name) where
  no_bits : has_bit_net name None s.bit_nets ≡ false
  unfolding has_bit_net
  no_bits = refl

  used_by : (o : Option NetBit) → found name s.nets ≡ None → named_bit name s.nets ≡ o → Instanced (connect_new name s o)
  used_by (Some bit) at none = connected s h (wires.Bit bit.0 bit.1)
  used_by None at none =
      let fine = h.0.0 in
      let v : Net = record { range = None; role = roles.Inner; declared = false } in
      let nets = further_fine name v s.nets s.bit_nets fine.nets is no_range at none no_bits in
      let used : IsFine (with_further name v s) = fine_of fine.ended nets fine.instances fine.left fine.range fine.pins in
      connected (with_further name v s) ((used, h.0.1), h.1) (wires.Bit (length s.nets) 0)

  name_by : (o : Option (ℕ × Net)) → found name s.nets ≡ o → IfOk (connect_as name s o) Instanced
  name_by (Some net) at = found_by s h net.0 net.1.range
  name_by None at = used_by (named_bit name s.nets) at refl

  pub connect_name_fine : IfOk (connect_name name s) Instanced
  unfolding connect_name
  connect_name_fine = name_by (found name s.nets) refl

pub end_instance_fine : (s : State) → Instanced s → Instanced (end_instance s)
end_instance_fine s h =
    let fine = h.0 in
    let whole : IsSoundInstance (instance_of s) = record {
      cell = short_name s.cell h.1.0;
      name = short_name s.instance h.1.1;
      pins = All-from_recursion (λ p. IsShortName p.0) s.pins (each-weaker (λ p. IsNamed p.0) (λ p. IsShortName p.0) (λ p n. short_name p.0 n) s.pins fine.pins);
    } in
    let instances = each_push IsSoundInstance s.instances (instance_of s) fine.instances whole in
    (fine_of fine.ended fine.nets instances fine.left fine.range tt, h.1)
