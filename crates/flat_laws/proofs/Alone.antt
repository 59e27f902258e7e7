-- What a text means where one module alone is admitted, and where several are.
use Rattle.std.specs.Prelude.{◌≡◌, refl, ℕ, not, ◌&&◌, ◌==◌, Bool, true, false, List, [], length, Option, Some, None, Result, Ok, Err, if◌then◌else◌}
use Rattle.std.specs.List.{list_all}
use Rattle.std.proofs.Common.{◌⊎◌, inl, inr}
use Rattle.name_numbers.specs.Names.{Text, has_name, found}
use Rattle.text_forms.specs.Forms.{Refusal, at_line}
use Rattle.text_forms.specs.Refusals.{Meant, tokens_refused, unless}
use Rattle.text_forms.specs.Meaning.{Reading, Ends, Refuses, Yields, reading, meaning, text_means}
use Rattle.xt_lex.specs.declared.rules.Rules.TheVariants.{Verilog}
use Rattle.xt_model.specs.Results.{◌>>=◌}
use Rattle.xt_model.specs.declared.code.Code.{Code}
use Rattle.xt_model.specs.declared.code.Code.TheVariants.{V1, V2, V3, V4, V5, V6}
use Rattle.verilog_net.specs.declared.context.Context.TheVariants.{Start}
use Rattle.verilog_net.specs.declared.netlist.Net.{Net}
use Rattle.verilog_net.specs.declared.netlist.PortRole.{PortRole}
use Rattle.verilog_net.specs.declared.netlist.Wire.TheVariants as wires
use Rattle.verilog_net.specs.Sorts.{same_sort, netlist_tokens}
use Rattle.verilog_net.specs.Nets.{NetBit, number_of, has_bit, named_bit, same_range, joined_role, has_bit_net, is_port}
use Rattle.verilog_net.specs.Forms.{Item, misfits, forms}
use Rattle.verilog_net.specs.Forms as grammar
use Rattle.verilog_net.specs.Meaning.{State, nothing, means, begin_module, name_module, end_module, declare_again, declare_new, declare_as, declare, left_as, left_bound, right_as, right_bound}
use Rattle.verilog_net.specs.Meaning.{begin_further, begin_pin, connect, connect_new, connect_found, connect_as, connect_name, connect_within, connect_bit_as, connect_bit}
use Rattle.verilog_net.specs.Reading.{rest_means, text_state}

-- ---- one form

-- a state where several modules are admitted
abbrev pub several : State → State
several s = record s { single = false }

abbrev as_several : Result State Code → Result State Code
as_several (Ok s) = Ok (several s)
as_several (Err code) = Err code

-- both come to the same
abbrev Same : Result State Code → Result State Code → Type 0
Same alone more = more ≡ as_several alone

abbrev pub is_range : Option (ℕ × ℕ) → Bool
is_range None = false
is_range (Some range) = true

abbrev pub is_bus : Option (ℕ × Net) → Bool
is_bus None = false
is_bus (Some net) = is_range net.1.range

-- what one module alone does not admit: a further module, and a whole bus as a connection
abbrev pub spoils : Item → State → Bool
spoils grammar.ModuleBegins s = not (length s.ended == 0)
spoils (grammar.Net name) s = is_bus (found name s.nets)
spoils _ s = false

-- such an item is refused by V3 where one module alone is admitted, or both come to the same
abbrev pub IsSame : Bool → Result State Code → Result State Code → Type 0
IsSame spoilt alone more = ((spoilt ≡ true) × (alone ≡ Err V3)) ⊎ Same alone more

module _ (s : State) where
  refused_by : (b : Bool) (code : Code) (t : State) → Same (if b then Err code else Ok t) (if b then Err code else Ok (several t))
  refused_by true code t = refl
  refused_by false code t = refl

  taken_by : (b : Bool) (code : Code) (t : State) → Same (if b then Ok t else Err code) (if b then Ok (several t) else Err code)
  taken_by true code t = refl
  taken_by false code t = refl

  alone_by : (b further : Bool) (t : State) → IsSame further (if b && further then Err V3 else Ok t) (Ok (several t))
  alone_by true true t = inl (refl, refl)
  alone_by true false t = inr refl
  alone_by false further t = inr refl

  whole_by : (b : Bool) (t : State) → IsSame true (if b then Err V3 else Ok t) (Ok (several t))
  whole_by true t = inl (refl, refl)
  whole_by false t = inr refl

  begin_same : IsSame (not (length s.ended == 0)) (begin_module s) (begin_module (several s))
  unfolding begin_module
  begin_same = alone_by s.single (not (length s.ended == 0)) s

  name_same : (name : Text) → Same (name_module name s) (name_module name (several s))
  unfolding name_module
  name_same name = refused_by (has_name name s.modules) V5 _

  end_same : Same (end_module s) (end_module (several s))
  unfolding end_module
  end_same = taken_by (list_all (λ name. is_port name s.nets) s.header) V4 _

  again_same : (name : Text) (net : Net) (role : Option PortRole) → Same (declare_again name s net role) (declare_again name (several s) net role)
  again_same name net None = refl
  again_same name net (Some role) = taken_by (same_range net.range s.range) V3 _

  new_same : (name : Text) (o : Option NetBit) → Same (declare_new name s o) (declare_new name (several s) o)
  new_same name (Some bit) = refl
  new_same name None = refused_by (has_bit_net name s.range s.bit_nets) V3 _

  declared_same : (name : Text) (o : Option (ℕ × Net)) → Same (declare_as name s o) (declare_as name (several s) o)
  declared_same name (Some net) = again_same name net.1 (joined_role net.1.role s.role)
  declared_same name None = new_same name (named_bit name s.nets)

  declare_same : (name : Text) → Same (declare name s) (declare name (several s))
  unfolding declare
  declare_same name = declared_same name (found name s.nets)

  left_by : (role : PortRole) (o : Option ℕ) → Same (left_as role s o) (left_as role (several s) o)
  left_by role None = refl
  left_by role (Some left) = refl

  left_same : (role : PortRole) (digits : Text) → Same (left_bound role digits s) (left_bound role digits (several s))
  unfolding left_bound
  left_same role digits = left_by role (number_of digits)

  right_by : (o : Option ℕ) → Same (right_as s o) (right_as (several s) o)
  right_by None = refl
  right_by (Some right) = refl

  right_same : (digits : Text) → Same (right_bound digits s) (right_bound digits (several s))
  unfolding right_bound
  right_same digits = right_by (number_of digits)

  further_same : (name : Text) (line : ℕ) → Same (begin_further name line s) (begin_further name line (several s))
  unfolding begin_further
  further_same name line = refused_by (has_name name s.instance_names) V5 _

  pin_same : (name : Text) → Same (begin_pin name s) (begin_pin name (several s))
  unfolding begin_pin
  pin_same name = refused_by (has_name name s.pin_names) V5 _

  found_same : (decl : ℕ) (range : Option (ℕ × ℕ)) → IsSame (is_range range) (connect_found decl s range) (connect_found decl (several s) range)
  found_same decl None = inr refl
  found_same decl (Some range) = whole_by s.single (connect (wires.Whole decl) s)

  used_same : (name : Text) (o : Option NetBit) → Same (Ok (connect_new name s o)) (Ok (connect_new name (several s) o))
  used_same name (Some bit) = refl
  used_same name None = refl

  net_same : (name : Text) (o : Option (ℕ × Net)) → IsSame (is_bus o) (connect_as name s o) (connect_as name (several s) o)
  net_same name (Some net) = found_same net.0 net.1.range
  net_same name None = inr (used_same name (named_bit name s.nets))

  connected_same : (name : Text) → IsSame (is_bus (found name s.nets)) (connect_name name s) (connect_name name (several s))
  unfolding connect_name
  connected_same name = net_same name (found name s.nets)

  within_same : (decl : ℕ) (range : Option (ℕ × ℕ)) (bit : Option ℕ) → Same (connect_within decl s range bit) (connect_within decl (several s) range bit)
  within_same decl (Some range) (Some bit) = taken_by (has_bit range bit) V6 _
  within_same decl (Some range) None = refl
  within_same decl None bit = refl

  bit_by : (digits : Text) (net : ℕ × Net) (b : Bool) → Same (if b then connect_within net.0 s net.1.range (number_of digits) else Err V4)
      (if b then connect_within net.0 (several s) net.1.range (number_of digits) else Err V4)
  bit_by digits net true = within_same net.0 net.1.range (number_of digits)
  bit_by digits net false = refl

  bit_same : (digits : Text) (o : Option (ℕ × Net)) → Same (connect_bit_as digits s o) (connect_bit_as digits (several s) o)
  bit_same digits None = refl
  bit_same digits (Some net) = bit_by digits net net.1.declared

  bits_same : (name digits : Text) → Same (connect_bit name digits s) (connect_bit name digits (several s))
  unfolding connect_bit
  bits_same name digits = bit_same digits (found name s.nets)

pub item_same : (item : Item) (s : State) → IsSame (spoils item (several s)) (means item s) (means item (several s))
unfolding means
item_same grammar.Nothing s = inr refl
item_same (grammar.Refused code) s = inr refl
item_same grammar.ModuleBegins s = begin_same s
item_same (grammar.ModuleName name) s = inr (name_same s name)
item_same (grammar.Listed name) s = inr refl
item_same grammar.ModuleEnds s = inr (end_same s)
item_same (grammar.Scalar role name) s = inr (declare_same (record s { role = role; range = None }) name)
item_same (grammar.Left role digits) s = inr (left_same s role digits)
item_same (grammar.Right digits) s = inr (right_same s digits)
item_same (grammar.Further name) s = inr (declare_same s name)
item_same (grammar.Instance cell name line) s = inr (further_same (record s { cell = cell }) name line)
item_same (grammar.FurtherInstance name line) s = inr (further_same s name line)
item_same (grammar.Pin name) s = inr (pin_same s name)
item_same grammar.NoConnection s = inr refl
item_same grammar.Constant s = inr refl
item_same (grammar.Net name) s = connected_same s name
item_same (grammar.Bit bus digits) s = inr (bits_same s bus digits)
item_same grammar.InstanceEnds s = inr refl

-- ---- a whole text

abbrev pub meant_as_several : Meant State → Meant State
meant_as_several (Ok s) = Ok (several s)
meant_as_several (Err why) = Err why

-- one module alone is refused by V3 at a line, or several mean the same
abbrev pub MeanSame : Meant State → Meant State → Type 0
MeanSame alone more = ((line : ℕ) × (alone ≡ Err (record { line = line; code = V3 }))) ⊎ (more ≡ meant_as_several alone)

items_same : (r : Reading Item Code) (s : State) → MeanSame (meaning means r s) (meaning means r (several s))
items_same Ends s = inr refl
items_same (Refuses why) s = inr refl
items_same (Yields item line more) s = by (λ t. items_same more t) (means item s) (means item (several s)) (item_same item s)
  where
    by : ((t : State) → MeanSame (meaning means more t) (meaning means more (several t))) → (alone two : Result State Code)
        → IsSame (spoils item (several s)) alone two → MeanSame (at_line line alone >>= meaning means more) (at_line line two >>= meaning means more)
    by rest alone two (inl e) = rw e.1 (inl (line, refl))
    by rest (Ok t) two (inr e) = rw e (rest t)
    by rest (Err code) two (inr e) = rw e (inr refl)

pub text_same : (bytes : List ℕ) → MeanSame (text_state true bytes) (text_state false bytes)
unfolding text_state text_means
text_same bytes = by (tokens_refused Verilog V1 V2 bytes)
  where
    by : (o : Option (Refusal Code)) → MeanSame (unless o (rest_means Start (netlist_tokens bytes) (nothing true))) (unless o (rest_means Start (netlist_tokens bytes) (nothing false)))
    by (Some why) = inr refl
    by None = items_same (reading same_sort misfits forms (forms Start) [] (netlist_tokens bytes)) (nothing true)
