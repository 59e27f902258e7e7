-- What each form leaves true of the state where one module alone is admitted: pins are connected to bits that are
-- there, names of instances differ, and one module ends.
use Rattle.std.specs.Prelude.{◌≡◌, refl, ℕ, zero, suc, ◌+◌, not, ◌&&◌, ◌||◌, ◌==◌, Bool, true, false, List, [], ◌∷◌, ◌++◌, length, map, take}
use Rattle.std.specs.Prelude.{Option, Some, None, Result, Ok, Err, if◌then◌else◌}
use Rattle.std.specs.List.{AllByRecursion, slice_get, list_all}
use Rattle.std.specs.Str.{bytes_eq}
use Rattle.std.proofs.Common.{sym, ap, ◌∙◌, subst}
use Rattle.std.proofs.Math.Numerals.{one-add}
use Rattle.std.proofs.lemmas.Bool.{false≢true, or_left, or_right}
use Rattle.std.proofs.lemmas.List.{length-map, map-append}
use Rattle.std.proofs.lemmas.List.Folds.{list_any-append}
use Rattle.std.proofs.lemmas.Slice.Eq.{bytes_eq-Decides}
use Rattle.name_numbers.specs.Names.{Text, has_name, found, with_name, with_value}
use Rattle.xt_model.specs.Options.{◌>>=◌}
use Rattle.xt_model.specs.declared.code.Code.{Code}
use Rattle.xt_model.specs.declared.code.Code.TheVariants.{V3, V4, V5, V6}
use Rattle.verilog_net.specs.declared.netlist.Instance.{Instance}
use Rattle.verilog_net.specs.declared.netlist.Net.{Net}
use Rattle.verilog_net.specs.declared.netlist.Netlist.{Netlist}
use Rattle.verilog_net.specs.declared.netlist.PortRole.{PortRole}
use Rattle.verilog_net.specs.declared.netlist.PortRole.TheVariants as roles
use Rattle.verilog_net.specs.declared.netlist.Wire.{Wire}
use Rattle.verilog_net.specs.declared.netlist.Wire.TheVariants as wires
use Rattle.verilog_net.specs.Nets.{Nets, NetBit, BitNets, bit_from, number_of, has_bit, named_bit, same_range, joined_role, with_net, has_bit_net, is_port}
use Rattle.verilog_net.specs.Meaning.{State, begin_module, name_module, netlist_of, end_module, with_further, declare_again, declare_new, declare_as, declare, left_as, left_bound, right_as, right_bound}
use Rattle.verilog_net.specs.Meaning.{begin_further, begin_pin, connect, connect_new, connect_found, connect_as, connect_name, connect_within, connect_bit_as, connect_bit, instance_of, end_instance}
use Rattle.hier_flatten.specs.Names.{is_repeated}
use Rattle.hier_flatten.proofs.NamesLaws.{seen_more}
use Rattle.text_forms.proofs.Bytes.{each_push, each-weaker}
use Rattle.verilog_net.proofs.OwnNames.{Shape, shapes, later, found_cons, absent, with_push, shapes_push, same_shapes}

-- ---- items of lists
module _ {X : Type 0} where
  get_front : (xs ys : List X) (i : ℕ) (x : X) → slice_get xs i ≡ Some x → slice_get (xs ++ ys) i ≡ Some x
  get_front [] ys i x e = absurd (cc)
  get_front (y ∷ xs) ys zero x e = e
  get_front (y ∷ xs) ys (suc i) x e = get_front xs ys i x e

  get_last : (xs : List X) (x : X) → slice_get (xs ++ x ∷ []) (length xs) ≡ Some x
  get_last [] x = refl
  get_last (y ∷ xs) x = get_last xs x

-- ---- connections

-- a net with this range has the bit; one without a range has bit 0 alone
abbrev pub IsBitOf : Option (ℕ × ℕ) → ℕ → Type 0
IsBitOf None bit = bit ≡ 0
IsBitOf (Some r) bit = has_bit r bit ≡ true

-- a net with this number is there, and has the bit
pub record IsThere (ss : List Shape) (decl bit : ℕ) : Type 0 where
  pub shape : Shape
  pub there : slice_get ss decl ≡ Some shape
  pub within : IsBitOf shape.1 bit

abbrev pub IsConnected : List Shape → Wire → Type 0
IsConnected ss wires.Open = Unit {0}
IsConnected ss wires.Constant = Unit {0}
IsConnected ss (wires.Bit decl bit) = IsThere ss decl bit
IsConnected ss (wires.Whole decl) = ⊥

abbrev pub AreConnected : List Shape → List (Text × Wire) → Type 0
AreConnected ss pins = AllByRecursion (λ p. IsConnected ss p.1) pins

abbrev pub HaveConnected : List Shape → List Instance → Type 0
HaveConnected ss is = AllByRecursion (λ i. AreConnected ss i.pins) is

abbrev pub names_of : List Instance → List Text
names_of is = map (λ i. i.name) is

-- a module that ended
pub record IsClosed (m : Netlist) : Type 0 where
  pub pins : HaveConnected (shapes m.nets) m.instances
  pub names : is_repeated (names_of m.instances) ≡ false

-- more nets are there
abbrev Extends : List Shape → List Shape → Type 0
Extends ss ts = (decl : ℕ) (s : Shape) → slice_get ss decl ≡ Some s → slice_get ts decl ≡ Some s

module _ (ss ts : List Shape) (f : Extends ss ts) where
  wider : (w : Wire) → IsConnected ss w → IsConnected ts w
  wider wires.Open h = tt
  wider wires.Constant h = tt
  wider (wires.Bit decl bit) h = record { shape = h.shape; there = f decl h.shape h.there; within = h.within }
  wider (wires.Whole decl) h = absurd h

  wider_pins : (pins : List (Text × Wire)) → AreConnected ss pins → AreConnected ts pins
  wider_pins pins h = each-weaker (λ p. IsConnected ss p.1) (λ p. IsConnected ts p.1) (λ p c. wider p.1 c) pins h

  wider_instances : (is : List Instance) → HaveConnected ss is → HaveConnected ts is
  wider_instances is h = each-weaker (λ i. AreConnected ss i.pins) (λ i. AreConnected ts i.pins) (λ i c. wider_pins i.pins c) is h

-- a net that is found is there
record Names (nets : Nets) (r : ℕ × Net) : Type 0 where
  name : Text
  there : slice_get (shapes nets) r.0 ≡ Some (name, r.1.range)

shape_found : (name : Text) (nets : Nets) (r : ℕ × Net) → found name nets ≡ Some r → Names nets r
shape_found name [] r h = absurd (cc)
shape_found name (e ∷ more) r h = by (λ q at. shape_found name more q at) (bytes_eq name e.0) (sym (found_cons e more name) ∙ h)
  where
    rest : ((q : ℕ × Net) → found name more ≡ Some q → Names more q) → (o : Option (ℕ × Net)) → found name more ≡ o → later o ≡ Some r → Names (e ∷ more) r
    rest further None at g = absurd (cc)
    rest further (Some q) at g =
        let same : ◌≡◌ {A = ℕ × Net} (1 + q.0, q.1) r = cc in
        let inside = further q at in
        let here : Names (e ∷ more) (1 + q.0, q.1) = record { name = inside.name; there = ap (slice_get (shapes (e ∷ more))) (one-add q.0) ∙ inside.there } in
        subst (Names (e ∷ more)) same here

    by : ((q : ℕ × Net) → found name more ≡ Some q → Names more q) → (b : Bool) → (if b then Some (0, e.1) else later (found name more)) ≡ Some r → Names (e ∷ more) r
    by further true g =
        let same : ◌≡◌ {A = ℕ × Net} (0, e.1) r = cc in
        let here : Names (e ∷ more) (0, e.1) = record { name = e.0; there = refl } in
        subst (Names (e ∷ more)) same here
    by further false g = rest further (found name more) refl g

net_there : (nets : Nets) (r : ℕ × Net) (bit : ℕ) → Names nets r → IsBitOf r.1.range bit → IsThere (shapes nets) r.0 bit
net_there nets r bit n is = record { shape = (n.name, r.1.range); there = n.there; within = is }

-- ---- bits by their names

-- where a name is that of a bit: its place, its bus and the range of that
pub record IsNamed (name : Text) (nets : Nets) (bit : NetBit) : Type 0 where
  pub place : ℕ × ℕ
  pub bus : ℕ × Net
  pub range : ℕ × ℕ
  pub at : bit_from 0 name ≡ Some place
  pub there : found (take place.0 name) nets ≡ Some bus
  pub ranged : bus.1.range ≡ Some range
  pub within : has_bit range place.1 ≡ true
  pub whole : ◌≡◌ {A = NetBit} (bus.0, place.1, bus.1.role) bit

module _ (name : Text) (nets : Nets) (bit : NetBit) where
  bit_by : (place : ℕ × ℕ) (bus : ℕ × Net) (range : ℕ × ℕ) (b : Bool) → bit_from 0 name ≡ Some place → found (take place.0 name) nets ≡ Some bus
      → bus.1.range ≡ Some range → has_bit range place.1 ≡ b → (if b then Some (bus.0, place.1, bus.1.role) else None) ≡ Some bit → IsNamed name nets bit
  bit_by place bus range false at there ranged within e = absurd (cc)
  bit_by place bus range true at there ranged within e =
      record { place = place; bus = bus; range = range; at = at; there = there; ranged = ranged; within = within; whole = cc }

  range_by : (place : ℕ × ℕ) (bus : ℕ × Net) (o : Option (ℕ × ℕ)) → bit_from 0 name ≡ Some place → found (take place.0 name) nets ≡ Some bus → bus.1.range ≡ o
      → (o >>= (λ range. if has_bit range place.1 then Some (bus.0, place.1, bus.1.role) else None)) ≡ Some bit → IsNamed name nets bit
  range_by place bus None at there ranged e = absurd (cc)
  range_by place bus (Some range) at there ranged e = bit_by place bus range (has_bit range place.1) at there ranged refl e

  bus_by : (place : ℕ × ℕ) (o : Option (ℕ × Net)) → bit_from 0 name ≡ Some place → found (take place.0 name) nets ≡ o
      → (o >>= (λ bus. bus.1.range >>= (λ range. if has_bit range place.1 then Some (bus.0, place.1, bus.1.role) else None))) ≡ Some bit
      → IsNamed name nets bit
  bus_by place None at there e = absurd (cc)
  bus_by place (Some bus) at there e = range_by place bus bus.1.range at there refl e

  place_by : (o : Option (ℕ × ℕ)) → bit_from 0 name ≡ o
      → (o >>= (λ place. found (take place.0 name) nets
      >>= (λ bus. bus.1.range >>= (λ range. if has_bit range place.1 then Some (bus.0, place.1, bus.1.role) else None)))) ≡ Some bit
      → IsNamed name nets bit
  place_by None at e = absurd (cc)
  place_by (Some place) at e = bus_by place (found (take place.0 name) nets) at refl e

  pub bit_named : named_bit name nets ≡ Some bit → IsNamed name nets bit
  unfolding named_bit
  bit_named e = place_by (bit_from 0 name) refl e

  bit_there : named_bit name nets ≡ Some bit → IsThere (shapes nets) bit.0 bit.1
  bit_there e =
      let n = bit_named e in
      let within : IsBitOf n.bus.1.range n.place.1 = rw n.ranged n.within in
      subst (λ x. IsThere (shapes nets) x.0 x.1) n.whole (net_there nets n.bus n.place.1 (shape_found (take n.place.0 name) nets n.bus n.there) within)

-- ---- states

pub record Facts (single : Bool) (ms : List Netlist) (ss : List Shape) (seen : List Text) (is : List Instance) (ps : List (Text × Wire)) : Type 0 where
  pub alone : single ≡ true
  pub closed : AllByRecursion IsClosed ms
  pub pins : AreConnected ss ps
  pub instances : HaveConnected ss is
  -- the names of instances are noted, and differ
  pub noted : AllByRecursion (λ i. has_name i.name seen ≡ true) is
  pub apart : is_repeated (names_of is) ≡ false

abbrev pub FactsOf : State → Type 0
FactsOf s = Facts s.single s.ended (shapes s.nets) s.instance_names s.instances s.pins

-- no module has been read
pub record IsEmpty (is : List Instance) (ps : List (Text × Wire)) (ms : List Netlist) : Type 0 where
  pub instances : is ≡ []
  pub pins : ps ≡ []
  pub ended : ms ≡ []

-- a module is being read, and no instance of it
pub record IsOutside (ps : List (Text × Wire)) (ms : List Netlist) : Type 0 where
  pub pins : ps ≡ []
  pub ended : ms ≡ []

-- an instance is being read, with a name of its own
pub record IsWithin (ms : List Netlist) (name : Text) (seen : List Text) (is : List Instance) : Type 0 where
  pub ended : ms ≡ []
  pub noted : has_name name seen ≡ true
  pub apart : has_name name (names_of is) ≡ false

-- one module has been read
pub record IsEnd (is : List Instance) (ps : List (Text × Wire)) (ms : List Netlist) : Type 0 where
  pub instances : is ≡ []
  pub pins : ps ≡ []
  pub ended : length ms ≡ 1

abbrev pub Empty : State → Type 0
Empty s = FactsOf s × IsEmpty s.instances s.pins s.ended

abbrev pub Outside : State → Type 0
Outside s = FactsOf s × IsOutside s.pins s.ended

abbrev pub Within : State → Type 0
Within s = FactsOf s × IsWithin s.ended s.instance s.instance_names s.instances

abbrev pub Ended : State → Type 0
Ended s = FactsOf s × IsEnd s.instances s.pins s.ended

-- a test that is not refused
pub past : (b : Bool) (code : Code) (x s' : State) → (if b then Err code else Ok x) ≡ Ok s' → (b ≡ false) × (x ≡ s')
past true code x s' e = absurd (cc)
past false code x s' e = (refl, cc)

pub held : (b : Bool) (code : Code) (x s' : State) → (if b then Ok x else Err code) ≡ Ok s' → (b ≡ true) × (x ≡ s')
held false code x s' e = absurd (cc)
held true code x s' e = (refl, cc)

carry : (P : State → Type 0) (x s' : State) → P x → ◌≡◌ {A = Result State Code} (Ok x) (Ok s') → P s'
carry P x s' h e = let same : x ≡ s' = cc in subst P same h

-- ---- modules
module _ (s s' : State) where
  pub begins_first : Empty s → begin_module s ≡ Ok s' → Empty s'
  unfolding begin_module
  begins_first h e = subst Empty (past (s.single && not (length s.ended == 0)) V3 s s' e).1 h

  pub begins_again : Ended s → begin_module s ≡ Ok s' → Empty s'
  unfolding begin_module
  begins_again h e =
      let no : ◌≡◌ {A = Result State Code} (Err V3) (Ok s') = rw (h.0.alone, h.1.ended) at e in
      absurd (cc)

  pub name_keeps : (name : Text) → Empty s → name_module name s ≡ Ok s' → Outside s'
  unfolding name_module
  name_keeps name h e =
      let f = h.0 in
      let x : State = record s { modules = with_name name s.modules; current = name; header = []; bit_nets = []; instance_names = [] } in
      let noted : AllByRecursion (λ i. has_name i.name [] ≡ true) s.instances = subst (λ is. AllByRecursion (λ i. has_name i.name [] ≡ true) is) (sym h.1.instances) tt in
      let all : Outside x = (
        record { alone = f.alone; closed = f.closed; pins = f.pins; instances = f.instances; noted = noted; apart = f.apart },
        record { pins = h.1.pins; ended = h.1.ended },
      ) in
      subst Outside (past (has_name name s.modules) V5 x s' e).1 all

  pub end_keeps : Outside s → end_module s ≡ Ok s' → Ended s'
  unfolding end_module
  end_keeps h e =
      let f = h.0 in
      let x : State = record s { ended = s.ended ++ netlist_of s ∷ []; nets = []; instances = [] } in
      let whole : IsClosed (netlist_of s) = record { pins = f.instances; names = f.apart } in
      let pins : AreConnected [] s.pins = subst (AreConnected []) (sym h.1.pins) tt in
      let one : length (s.ended ++ netlist_of s ∷ []) ≡ 1 = ap (λ es. length (es ++ netlist_of s ∷ [])) h.1.ended in
      let all : Ended x = (
        record { alone = f.alone; closed = each_push IsClosed s.ended (netlist_of s) f.closed whole; pins = pins; instances = tt; noted = tt; apart = refl },
        record { instances = refl; pins = h.1.pins; ended = one },
      ) in
      subst Ended (held (list_all (λ name. is_port name s.nets) s.header) V4 x s' e).1 all

  -- ---- declarations
  renetted : (nets : Nets) (named : BitNets) → Outside s → Extends (shapes s.nets) (shapes nets) → record s { nets = nets; bit_nets = named } ≡ s' → Outside s'
  renetted nets named h more same =
      let f = h.0 in
      let all : Outside (record s { nets = nets; bit_nets = named }) = (
        record {
          alone = f.alone;
          closed = f.closed;
          pins = wider_pins (shapes s.nets) (shapes nets) more s.pins f.pins;
          instances = wider_instances (shapes s.nets) (shapes nets) more s.instances f.instances;
          noted = f.noted;
          apart = f.apart;
        },
        h.1,
      ) in
      subst Outside same all

  again_keeps : (name : Text) (net : ℕ × Net) (role : Option PortRole) → Outside s → found name s.nets ≡ Some net → declare_again name s net.1 role ≡ Ok s' → Outside s'
  again_keeps name net None h at e = absurd (cc)
  again_keeps name net (Some role) h at e =
      let v : Net = record { range = net.1.range; role = role; declared = true } in
      let same = same_shapes name v s.nets net at refl in
      renetted (with_value name v s.nets) s.bit_nets h (λ decl t g. ap (λ ss. slice_get ss decl) same ∙ g)
      (held (same_range net.1.range s.range) V3 (record s { nets = with_value name v s.nets }) s' e).1

  further_keeps : (name : Text) (v : Net) → Outside s → found name s.nets ≡ None → with_further name v s ≡ s' → Outside s'
  further_keeps name v h new same =
      let pushed : shapes (with_value name v s.nets) ≡ shapes s.nets ++ (name, v.range) ∷ [] =
      ap shapes (with_push name v s.nets (absent name s.nets new)) ∙ shapes_push name v s.nets in
      renetted (with_value name v s.nets) (with_net name s.bit_nets) h
      (λ decl t g. ap (λ ss. slice_get ss decl) pushed ∙ get_front (shapes s.nets) ((name, v.range) ∷ []) decl t g) same

  new_keeps : (name : Text) (o : Option NetBit) → Outside s → found name s.nets ≡ None → declare_new name s o ≡ Ok s' → Outside s'
  new_keeps name (Some bit) h new e = absurd (cc)
  new_keeps name None h new e =
      let v : Net = record { range = s.range; role = s.role; declared = true } in
      further_keeps name v h new (past (has_bit_net name s.range s.bit_nets) V3 (with_further name v s) s' e).1

  declared_keeps : (name : Text) (o : Option (ℕ × Net)) → Outside s → found name s.nets ≡ o → declare_as name s o ≡ Ok s' → Outside s'
  declared_keeps name (Some net) h at e = again_keeps name net (joined_role net.1.role s.role) h at e
  declared_keeps name None h at e = new_keeps name (named_bit name s.nets) h at e

  pub declare_keeps : (name : Text) → Outside s → declare name s ≡ Ok s' → Outside s'
  unfolding declare
  declare_keeps name h e = declared_keeps name (found name s.nets) h refl e

  left_by : (role : PortRole) (o : Option ℕ) → Outside s → left_as role s o ≡ Ok s' → Outside s'
  left_by role None h e = absurd (cc)
  left_by role (Some left) h e = carry Outside (record s { role = role; left = left }) s' h e

  pub left_keeps : (role : PortRole) (digits : Text) → Outside s → left_bound role digits s ≡ Ok s' → Outside s'
  unfolding left_bound
  left_keeps role digits h e = left_by role (number_of digits) h e

  right_by : (o : Option ℕ) → Outside s → right_as s o ≡ Ok s' → Outside s'
  right_by None h e = absurd (cc)
  right_by (Some right) h e = carry Outside (record s { range = Some (s.left, right) }) s' h e

  pub right_keeps : (digits : Text) → Outside s → right_bound digits s ≡ Ok s' → Outside s'
  unfolding right_bound
  right_keeps digits h e = right_by (number_of digits) h e

-- ---- instances
still_noted : (name other : Text) (names : List Text) → has_name name names ≡ true → has_name name (names ++ other ∷ []) ≡ true
still_noted name other names h = list_any-append (bytes_eq name) names (other ∷ []) ∙ or_left (has_name name names) (has_name name (other ∷ [])) h

now_noted : (name : Text) (names : List Text) → has_name name (names ++ name ∷ []) ≡ true
now_noted name names =
    list_any-append (bytes_eq name) names (name ∷ [])
    ∙ or_right (has_name name names) (has_name name (name ∷ [])) (or_left (bytes_eq name name) false ((bytes_eq-Decides name name).1 refl))

not_among : (name : Text) (names : List Text) (is : List Instance) → has_name name names ≡ false
    → AllByRecursion (λ i. has_name i.name names ≡ true) is → has_name name (names_of is) ≡ false
not_among name names [] free h = refl
not_among name names (i ∷ is) free h = by (not_among name names is free h.1) (bytes_eq name i.name) refl
  where
    by : has_name name (names_of is) ≡ false → (b : Bool) → bytes_eq name i.name ≡ b → (b || has_name name (names_of is)) ≡ false
    by rest true e = absurd (false≢true (sym free ∙ (ap (λ n. has_name n names) ((bytes_eq-Decides name i.name).0 e) ∙ h.0)))
    by rest false e = rest

module _ (s s' : State) where
  pub begin_keeps : (name : Text) (line : ℕ) → Outside s → begin_further name line s ≡ Ok s' → Within s'
  unfolding begin_further
  begin_keeps name line h e =
      let f = h.0 in
      let x : State = record s { instance_names = with_name name s.instance_names; instance = name; line = line; pin_names = [] } in
      let test = past (has_name name s.instance_names) V5 x s' e in
      let names : with_name name s.instance_names ≡ s.instance_names ++ name ∷ [] = ap (λ b. if b then s.instance_names else s.instance_names ++ name ∷ []) test.0 in
      let noted : AllByRecursion (λ i. has_name i.name (s.instance_names ++ name ∷ []) ≡ true) s.instances =
      each-weaker (λ i. has_name i.name s.instance_names ≡ true) (λ i. has_name i.name (s.instance_names ++ name ∷ []) ≡ true)
      (λ i n. still_noted i.name name s.instance_names n) s.instances f.noted in
      let all : Within x = (
        record {
          alone = f.alone;
          closed = f.closed;
          pins = f.pins;
          instances = f.instances;
          noted = subst (λ ns. AllByRecursion (λ i. has_name i.name ns ≡ true) s.instances) (sym names) noted;
          apart = f.apart;
        },
        record {
          ended = h.1.ended;
          noted = ap (has_name name) names ∙ now_noted name s.instance_names;
          apart = not_among name s.instance_names s.instances test.0 f.noted;
        },
      ) in
      subst Within test.1 all

  pub pin_keeps : (name : Text) → Within s → begin_pin name s ≡ Ok s' → Within s'
  unfolding begin_pin
  pin_keeps name h e = subst Within (past (has_name name s.pin_names) V5 (record s { pin_names = with_name name s.pin_names; pin = name }) s' e).1 h

  pub connect_keeps : (wire : Wire) → IsConnected (shapes s.nets) wire → Within s → ◌≡◌ {A = Result State Code} (Ok (connect wire s)) (Ok s') → Within s'
  connect_keeps wire is h e =
      let f = h.0 in
      let all : Within (connect wire s) = (
        record {
          alone = f.alone;
          closed = f.closed;
          pins = each_push (λ p. IsConnected (shapes s.nets) p.1) s.pins (s.pin, wire) f.pins is;
          instances = f.instances;
          noted = f.noted;
          apart = f.apart;
        },
        h.1,
      ) in
      carry Within (connect wire s) s' all e

  within_keeps : (net : ℕ × Net) (range : Option (ℕ × ℕ)) (bit : Option ℕ) → Within s → Names s.nets net → net.1.range ≡ range
      → connect_within net.0 s range bit ≡ Ok s' → Within s'
  within_keeps net (Some range) (Some bit) h n at e =
      let test = held (has_bit range bit) V6 (connect (wires.Bit net.0 bit) s) s' e in
      let within : IsBitOf net.1.range bit = rw at test.0 in
      connect_keeps (wires.Bit net.0 bit) (net_there s.nets net bit n within) h (ap (λ x. Ok x) test.1)
  within_keeps net (Some range) None h n at e = absurd (cc)
  within_keeps net None bit h n at e = absurd (cc)

  declared_by : (digits : Text) (net : ℕ × Net) (b : Bool) → Within s → Names s.nets net
      → (if b then connect_within net.0 s net.1.range (number_of digits) else Err V4) ≡ Ok s' → Within s'
  declared_by digits net false h n e = absurd (cc)
  declared_by digits net true h n e = within_keeps net net.1.range (number_of digits) h n refl e

  bits_by : (name digits : Text) (o : Option (ℕ × Net)) → Within s → found name s.nets ≡ o → connect_bit_as digits s o ≡ Ok s' → Within s'
  bits_by name digits None h at e = absurd (cc)
  bits_by name digits (Some net) h at e = declared_by digits net net.1.declared h (shape_found name s.nets net at) e

  pub bit_keeps : (name digits : Text) → Within s → connect_bit name digits s ≡ Ok s' → Within s'
  unfolding connect_bit
  bit_keeps name digits h e = bits_by name digits (found name s.nets) h refl e

  scalar_by : (net : ℕ × Net) (range : Option (ℕ × ℕ)) → Within s → Names s.nets net → net.1.range ≡ range → connect_found net.0 s range ≡ Ok s' → Within s'
  scalar_by net None h n at e =
      let within : IsBitOf net.1.range 0 = rw at refl in
      connect_keeps (wires.Bit net.0 0) (net_there s.nets net 0 n within) h e
  scalar_by net (Some range) h n at e =
      let no : ◌≡◌ {A = Result State Code} (Err V3) (Ok s') = rw h.0.alone at e in
      absurd (cc)

-- a pin on a net that has not been named before
module _ (s s' : State) (h : Within s) where
  used_keeps : (name : Text) (o : Option NetBit) → found name s.nets ≡ None → named_bit name s.nets ≡ o
      → ◌≡◌ {A = Result State Code} (Ok (connect_new name s o)) (Ok s') → Within s'
  used_keeps name (Some bit) new at e = connect_keeps s s' (wires.Bit bit.0 bit.1) (bit_there name s.nets bit at) h e
  used_keeps name None new at e =
      let f = h.0 in
      let v : Net = record { range = None; role = roles.Inner; declared = false } in
      let x : State = with_further name v s in
      let pushed : shapes (with_value name v s.nets) ≡ shapes s.nets ++ (name, None) ∷ [] =
      ap shapes (with_push name v s.nets (absent name s.nets new)) ∙ shapes_push name v s.nets in
      let more : Extends (shapes s.nets) (shapes (with_value name v s.nets)) =
      λ decl t g. ap (λ ss. slice_get ss decl) pushed ∙ get_front (shapes s.nets) ((name, None) ∷ []) decl t g in
      let all : Within x = (
        record {
          alone = f.alone;
          closed = f.closed;
          pins = wider_pins (shapes s.nets) (shapes (with_value name v s.nets)) more s.pins f.pins;
          instances = wider_instances (shapes s.nets) (shapes (with_value name v s.nets)) more s.instances f.instances;
          noted = f.noted;
          apart = f.apart;
        },
        h.1,
      ) in
      let here : slice_get (shapes (with_value name v s.nets)) (length s.nets) ≡ Some (name, None) =
      ap (λ ss. slice_get ss (length s.nets)) pushed
      ∙ (ap (slice_get (shapes s.nets ++ (name, None) ∷ [])) (sym (length-map s.nets (λ (t : Text × Net). (t.0, t.1.range)))) ∙ get_last (shapes s.nets) (name, None)) in
      connect_keeps x s' (wires.Bit (length s.nets) 0) (record { shape = (name, None); there = here; within = refl }) all e

  net_by : (name : Text) (o : Option (ℕ × Net)) → found name s.nets ≡ o → connect_as name s o ≡ Ok s' → Within s'
  net_by name (Some net) at e = scalar_by s s' net net.1.range h (shape_found name s.nets net at) refl e
  net_by name None at e = used_keeps name (named_bit name s.nets) at refl e

  pub net_keeps : (name : Text) → connect_name name s ≡ Ok s' → Within s'
  unfolding connect_name
  net_keeps name e = net_by name (found name s.nets) refl e

  pub instance_keeps : ◌≡◌ {A = Result State Code} (Ok (end_instance s)) (Ok s') → Outside s'
  instance_keeps e =
      let f = h.0 in
      let i = instance_of s in
      let names : names_of (s.instances ++ i ∷ []) ≡ names_of s.instances ++ s.instance ∷ [] = map-append (λ (j : Instance). j.name) s.instances (i ∷ []) in
      let apart : is_repeated (names_of s.instances ++ s.instance ∷ []) ≡ false =
      (seen_more (names_of s.instances) s.instance [] (names_of s.instances ++ s.instance ∷ []) h.1.apart (record { whole = refl; differ = f.apart })).differ in
      let all : Outside (end_instance s) = (
        record {
          alone = f.alone;
          closed = f.closed;
          pins = tt;
          instances = each_push (λ j. AreConnected (shapes s.nets) j.pins) s.instances i f.instances f.pins;
          noted = each_push (λ j. has_name j.name s.instance_names ≡ true) s.instances i f.noted h.1.noted;
          apart = ap is_repeated names ∙ apart;
        },
        record { pins = refl; ended = h.1.ended },
      ) in
      carry Outside (end_instance s) s' all e
