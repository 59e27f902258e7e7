-- The pins of a netlist, its arcs and its check points lead to sinks and tables that are there.
use Rattle.std.specs.Prelude.{◌≡◌, refl, ℕ, suc, ◌+◌, ◌<◌, ◌≤◌, ◌&&◌, ◌||◌, ◌==◌, Bool, true, false, List, [], ◌∷◌, ◌++◌, length, flat_map, find, position}
use Rattle.std.specs.Prelude.{ℤ, Option, Some, None, IfSome, is_some, bytes_eq, if◌then◌else◌}
use Rattle.std.specs.List.{All, AllByRecursion, slice_get}
use Rattle.std.specs.Prelude.{filter_map}
use Rattle.std.proofs.Common.{arith, subst, length-append}
use Rattle.std.proofs.lemmas.List.Elements.{recursion_from_All, All-append, All-cons}
use Rattle.std.proofs.lemmas.Slice.Eq.{bytes_eq-Decides}
use Rattle.xt_model.specs.Options.{◌>>=◌}
use Rattle.name_numbers.specs.Names.{Text}
use Rattle.xt_model.specs.declared.edge.Edge.{Edge}
use Rattle.xt_model.specs.declared.edge.Edge.TheVariants.{Rise, Fall}
use Rattle.xt_model.specs.declared.net.TimingArc.{TimingArc}
use Rattle.xt_model.specs.declared.check.CheckPoint.{CheckPoint}
use Rattle.xt_model.specs.declared.check.CheckPoint.TheVariants as checks
use Rattle.xt_model.specs.Names.{IsName}
use Rattle.xt_model.specs.Sound.{IsDelayOption}
use Rattle.liberty_cells.specs.declared.library.Library.{Library}
use Rattle.liberty_cells.specs.declared.timing.Timing.{Timing}
use Rattle.liberty_cells.specs.Pins.{PinParts}
use Rattle.verilog_net.specs.declared.netlist.Instance.{Instance}
use Rattle.verilog_net.specs.declared.netlist.Netlist.{Netlist}
use Rattle.verilog_net.specs.declared.netlist.Wire.{Wire}
use Rattle.verilog_net.specs.declared.netlist.Wire.TheVariants as wires
use Rattle.verilog_net.specs.declared.netlist.PortRole.{PortRole}
use Rattle.verilog_net.specs.declared.netlist.PortRole.TheVariants as roles
use Rattle.verilog_net.specs.Nets.{Nets}
use Rattle.sdc_read.specs.declared.constraints.Constraints.{Constraints}
use Rattle.sdc_read.specs.declared.ports.PortSet.{PortSet}
use Rattle.sdc_read.specs.Ports.{port_at, IsTime, IsInRange}
use Rattle.verilog_net.specs.Bits.{Bit, bits}
use Rattle.link_rules.specs.Bits.{is_bit, net_of}
use Rattle.link_rules.specs.Ends.{sink_name}
use Rattle.link_rules.specs.Pins.{Connected, cell_named, pin_named, is_input, is_output, end_of, connected, pins_from, pins, inputs_on, outputs_on}
use Rattle.link_rules.specs.Arcs.{both, tables_at, Place, arc_by, arcs_from, edge_pairs, is_input_pin, sink_at, pin_arcs, arcs_of}
use Rattle.link_rules.specs.Checks.{side_of, flop_check, group_checks, pin_checks, flop_checks, side_check, set_checks, port_checks, port_checks_from}
use Rattle.text_forms.specs.Names.{IsShortName}
use Rattle.liberty_cells.specs.Sound.{IsTableNumber, IsSoundTiming, IsSoundPin, IsSoundLibrary}
use Rattle.verilog_net.specs.Sound.{IsSoundInstance, IsSoundNetlist}
use Rattle.design_link.proofs.Lists.{got, each-append, each_find, find_true, each_filter, each_given, each_joined, each_any, position_within}
use Rattle.design_link.proofs.GivenLaws.{port_in_range}

-- ---- names
-- the names of an instance and of a pin make a name together
pub joined_name : (owner pin : Text) → IsShortName owner → IsShortName pin → IsName (owner ++ 47 ∷ pin)
joined_name owner pin a b =
    let len = length-append owner (47 ∷ pin) in
    let x = a.short in
    let y = b.short in
    let s = a.name.some in
    record {
      some = omega (arith, len, s);
      short = omega (arith, len, x, y);
      printable = All-append (λ c. (33 ≤ c) × (c ≤ 126)) owner (47 ∷ pin) a.name.printable
          (All-cons (λ c. (33 ≤ c) × (c ≤ 126)) 47 pin (omega arith, omega arith) b.name.printable);
    }

-- ---- the net of a pin
pub bit_within : (nets : Nets) (wire : Wire) (net : ℕ) → net_of nets wire ≡ Some net → net < length (bits nets)
unfolding net_of
bit_within nets (wires.Bit decl bit) net e = position_within (is_bit decl bit) (bits nets) net e
bit_within nets wires.Open net e = absurd (cc)
bit_within nets wires.Constant net e = absurd (cc)
bit_within nets (wires.Whole decl) net e = absurd (cc)

module _ (library : Library) (netlist : Netlist) where
  -- a pin on a net: names that fit, a pin of the library, a net that is there
  pub record IsOn (c : Connected) : Type 0 where
    pub owner : IsShortName c.owner
    pub name : IsShortName c.pin.name
    pub pin : IsSoundPin library c.pin
    pub net : c.net < length (bits netlist.nets)

  -- a sink: its net, and its number there
  pub record IsSinkAt (net sink : ℕ) : Type 0 where
    pub net_there : net < length (bits netlist.nets)
    pub sink_there : sink < length (inputs_on library netlist net)

  -- an arc from a sink, with tables
  pub record IsArcOn (a : TimingArc) : Type 0 where
    pub sink : IsSinkAt a.from.0 a.sink
    pub delay : a.delay < length library.tables
    pub slew : a.slew < length library.tables

  module _ (lib : IsSoundLibrary library) (net : IsSoundNetlist netlist) where
    connected_on : (number : ℕ) (instance : Instance) (connection : Text × Wire) (c : Connected) → IsShortName instance.name
        → IsShortName connection.0 → connected library netlist number instance connection ≡ Some c → IsOn c
    connected_on number instance connection c owner name e =
        let put : PinParts → ℕ → Connected = λ pin net. record { instance = number; owner = instance.name; pin = pin; net = net } in
        let behind_pin : PinParts → Option Connected = λ pin. net_of netlist.nets connection.1 >>= λ net. Some (put pin net) in
        let x = got (cell_named library instance.cell) (λ cell. pin_named cell connection.0 >>= behind_pin) c e in
        let y = got (pin_named x.0 connection.0) behind_pin c x.2 in
        let z = got (net_of netlist.nets connection.1) (λ net. Some (put y.0 net)) c y.2 in
        let cells = recursion_from_All (λ cell. All (IsSoundPin library) cell.pins) library.cells lib.pins in
        let cell = each_find (λ cell. All (IsSoundPin library) cell.pins) (λ cell. bytes_eq instance.cell cell.name) library.cells x.0 cells x.1 in
        let sound = each_find (IsSoundPin library) (λ p. bytes_eq connection.0 p.name) x.0.pins y.0 (recursion_from_All (IsSoundPin library) x.0.pins cell) y.1 in
        let same_name : connection.0 ≡ y.0.name =
        (bytes_eq-Decides connection.0 y.0.name).0 (find_true (λ p. bytes_eq connection.0 p.name) x.0.pins y.0 y.1) in
        let named : IsShortName y.0.name = subst IsShortName same_name name in
        let on : IsOn (put y.0 z.0) = record { owner = owner; name = named; pin = sound; net = bit_within netlist.nets connection.1 z.0 z.1 } in
        let same : put y.0 z.0 ≡ c = cc (z.2) in
        subst IsOn same on

    pins_from_on : (number : ℕ) (instances : List Instance) → AllByRecursion IsSoundInstance instances
        → AllByRecursion IsOn (pins_from library netlist number instances)
    pins_from_on number [] h = tt
    pins_from_on number (i ∷ more) h =
        each-append IsOn (filter_map (connected library netlist number i) i.pins) (pins_from library netlist (number + 1) more)
        (each_given (λ p. IsShortName p.0) IsOn (connected library netlist number i) (λ p c n e. connected_on number i p c h.0.name n e) i.pins
        (recursion_from_All (λ p. IsShortName p.0) i.pins h.0.pins))
        (pins_from_on (number + 1) more h.1)

    pub pins_on : AllByRecursion IsOn (pins library netlist)
    unfolding pins
    pins_on = pins_from_on 0 netlist.instances (recursion_from_All IsSoundInstance netlist.instances net.instances)

    pub inputs_are : (n : ℕ) → AllByRecursion IsOn (inputs_on library netlist n)
    inputs_are n = each_filter IsOn (λ c. is_input c.pin.role && c.net == n) (pins library netlist) pins_on

    pub outputs_are : (n : ℕ) → AllByRecursion IsOn (outputs_on library netlist n)
    outputs_are n = each_filter IsOn (λ c. is_output c.pin.role && c.net == n) (pins library netlist) pins_on

    -- ---- sinks
    pub sink_is : (instance : ℕ) (name : Text) (at : Place) → sink_at library netlist instance name ≡ Some at → IsSinkAt at.0 at.1
    unfolding sink_at
    sink_is instance name at e =
        let test : Connected → Bool = is_input_pin library netlist instance name in
        let x = got (find test (pins library netlist)) (λ c. position test (inputs_on library netlist c.net) >>= λ k. Some (c.net, k)) at e in
        let y = got (position test (inputs_on library netlist x.0.net)) (λ k. Some (x.0.net, k)) at x.2 in
        let on = each_find IsOn test (pins library netlist) x.0 pins_on x.1 in
        let here : IsSinkAt x.0.net y.0 =
        record { net_there = on.net; sink_there = position_within test (inputs_on library netlist x.0.net) y.0 y.1 } in
        let same : ◌≡◌ {A = Place} (x.0.net, y.0) at = cc (y.2) in
        subst (λ p. IsSinkAt p.0 p.1) same here

    -- ---- arcs
    both_there : (n : ℕ) (a b : Option ℕ) (q : ℕ × ℕ) → IfSome a (λ k. k < n) → IfSome b (λ k. k < n) → both a b ≡ Some q → (q.0 < n) × (q.1 < n)
    both_there n (Some a) (Some b) q h k e = let same : ◌≡◌ {A = ℕ × ℕ} (a, b) q = cc in subst (λ p. (p.0 < n) × (p.1 < n)) same pair
      where
        pair : (a < n) × (b < n)
        pair = (h, k)
    both_there n (Some a) None q h k e = absurd (cc)
    both_there n None b q h k e = absurd (cc)

    tables_there : (t : Timing) (edge : Edge) (q : ℕ × ℕ) → IsSoundTiming library t → tables_at t edge ≡ Some q
        → (q.0 < length library.tables) × (q.1 < length library.tables)
    tables_there t Rise q h e = both_there (length library.tables) t.rise t.rise_slew q h.rise h.rise_slew e
    tables_there t Fall q h e = both_there (length library.tables) t.fall t.fall_slew q h.fall h.fall_slew e

    arc_is : (t : Timing) (at : Place) (pair : Edge × Edge) (a : TimingArc) → IsSoundTiming library t → IsSinkAt at.0 at.1
        → arc_by t at pair ≡ Some a → IsArcOn a
    arc_is t at pair a h s e =
        let put : ℕ × ℕ → TimingArc = λ tables. record { from = record { 0 = at.0 }; sink = at.1; input = pair.0; output = pair.1; delay = tables.0; slew = tables.1 } in
        let x = got (tables_at t pair.1) (λ tables. Some (put tables)) a e in
        let there = tables_there t pair.1 x.0 h x.1 in
        let on : IsArcOn (put x.0) = record { sink = s; delay = there.0; slew = there.1 } in
        let same : put x.0 ≡ a = cc (x.2) in
        subst IsArcOn same on

    arcs_by : (t : Timing) (o : Option Place) → ((at : Place) → o ≡ Some at → IsSinkAt at.0 at.1) → IsSoundTiming library t → AllByRecursion IsArcOn (arcs_from t o)
    arcs_by t None f h = tt
    arcs_by t (Some at) f h =
        each_given (λ pair. Unit {0}) IsArcOn (arc_by t at) (λ pair a u e. arc_is t at pair a h (f at refl) e) (edge_pairs t.kind t.sense) (each_any (edge_pairs t.kind t.sense))

    timing_arcs : (c : Connected) (t : Timing) → IsSoundTiming library t
        → AllByRecursion IsArcOn (flat_map (λ related. arcs_from t (sink_at library netlist c.instance related)) t.related)
    timing_arcs c t h =
        each_joined (λ related. Unit {0}) IsArcOn (λ related. arcs_from t (sink_at library netlist c.instance related))
        (λ related u. arcs_by t (sink_at library netlist c.instance related) (λ at e. sink_is c.instance related at e) h) t.related (each_any t.related)

    arcs_are_of : (c : Connected) → IsOn c → AllByRecursion IsArcOn (pin_arcs library netlist c)
    arcs_are_of c on =
        each_joined (IsSoundTiming library) IsArcOn (λ t. flat_map (λ related. arcs_from t (sink_at library netlist c.instance related)) t.related)
        (λ t h. timing_arcs c t h) c.pin.timings (recursion_from_All (IsSoundTiming library) c.pin.timings on.pin.timings)

    pub arcs_are : (n : ℕ) → AllByRecursion IsArcOn (arcs_of library netlist n)
    unfolding arcs_of
    arcs_are n = each_joined IsOn IsArcOn (pin_arcs library netlist) arcs_are_of (outputs_on library netlist n) (outputs_are n)

    -- ---- check points of flip-flops
    abbrev pub IsFlopOn : CheckPoint → Type 0
    IsFlopOn (checks.Flop name hold datum datum_sink clock clock_sink rise fall) =
        IsName name × IsSinkAt datum.0 datum_sink × IsSinkAt clock.0 clock_sink × IsTableNumber library rise × IsTableNumber library fall
    IsFlopOn (checks.Port name hold net sink rise fall) = ⊥

    flop_is : (c : Connected) (t : Timing) (hold : Bool) (related : Text) (p : CheckPoint) → IsOn c → IsSoundTiming library t
        → flop_check library netlist c t hold related ≡ Some p → IsFlopOn p
    flop_is c t hold related p on h e =
        let put : Place → Place → CheckPoint = λ d k. checks.Flop (sink_name (end_of c)) hold (record { 0 = d.0 }) d.1 (record { 0 = k.0 }) k.1 t.rise t.fall in
        let x = got (sink_at library netlist c.instance c.pin.name) (λ d. sink_at library netlist c.instance related >>= λ k. Some (put d k)) p e in
        let y = got (sink_at library netlist c.instance related) (λ k. Some (put x.0 k)) p x.2 in
        let point : IsFlopOn (put x.0 y.0) =
        (joined_name c.owner c.pin.name on.owner on.name, sink_is c.instance c.pin.name x.0 x.1, sink_is c.instance related y.0 y.1, h.rise, h.fall) in
        let same : put x.0 y.0 ≡ p = cc (y.2) in
        subst IsFlopOn same point

    group_are : (c : Connected) (t : Timing) (o : Option Bool) → IsOn c → IsSoundTiming library t → AllByRecursion IsFlopOn (group_checks library netlist c t o)
    group_are c t None on h = tt
    group_are c t (Some hold) on h =
        each_given (λ related. Unit {0}) IsFlopOn (flop_check library netlist c t hold) (λ related p u e. flop_is c t hold related p on h e) t.related (each_any t.related)

    flops_of : (c : Connected) → IsOn c → AllByRecursion IsFlopOn (pin_checks library netlist c)
    flops_of c on = by (is_input c.pin.role)
      where
        by : (b : Bool) → AllByRecursion IsFlopOn (if b then flat_map (λ t. group_checks library netlist c t (side_of t.kind)) c.pin.timings else [])
        by false = tt
        by true =
            each_joined (IsSoundTiming library) IsFlopOn (λ t. group_checks library netlist c t (side_of t.kind)) (λ t h. group_are c t (side_of t.kind) on h)
            c.pin.timings (recursion_from_All (IsSoundTiming library) c.pin.timings on.pin.timings)

    pub flops_are : AllByRecursion IsFlopOn (flop_checks library netlist)
    unfolding flop_checks
    flops_are = each_joined IsOn IsFlopOn (pin_checks library netlist) flops_of (pins library netlist) pins_on

-- ---- check points of output ports
delay_is : (o : Option ℤ) → IsTime o → IsDelayOption o
delay_is None h = tt
delay_is (Some x) h = record { least = h.0; most = h.1 }

module _ (library : Library) (netlist : Netlist) (constraints : Constraints) (ranges : AllByRecursion IsInRange constraints.ports)
    (names : AllByRecursion (λ b. IsName b.name) (bits netlist.nets)) where
  -- a point of an output port, which is the last sink of its net
  pub record IsPortSink (net sink : ℕ) : Type 0 where
    pub bit : Bit
    pub at : slice_get (bits netlist.nets) net ≡ Some bit
    pub role : bit.role ≡ roles.Output
    pub last : sink ≡ length (inputs_on library netlist net)

  abbrev pub IsPortOn : CheckPoint → Type 0
  IsPortOn (checks.Flop name hold datum datum_sink clock clock_sink rise fall) = ⊥
  IsPortOn (checks.Port name hold net sink rise fall) = IsName name × IsPortSink net.0 sink × IsDelayOption rise × IsDelayOption fall

  side_on : (name : Text) (hold : Bool) (net sink : ℕ) (rise fall : Option ℤ) → IsName name → IsPortSink net sink → IsTime rise → IsTime fall
      → AllByRecursion IsPortOn (side_check name hold net sink rise fall)
  side_on name hold net sink rise fall n s r f = by (is_some rise || is_some fall)
    where
      by : (b : Bool) → AllByRecursion IsPortOn (if b then checks.Port name hold (record { 0 = net }) sink rise fall ∷ [] else [])
      by false = tt
      by true = ((n, s, delay_is rise r, delay_is fall f), tt)

  set_on : (name : Text) (net sink : ℕ) (o : Option PortSet) → IsName name → IsPortSink net sink → IfSome o IsInRange → AllByRecursion IsPortOn (set_checks name net sink o)
  set_on name net sink None n s h = tt
  set_on name net sink (Some set) n s h =
      each-append IsPortOn (side_check name false net sink set.output.rise_max set.output.fall_max) (side_check name true net sink set.output.rise_min set.output.fall_min)
      (side_on name false net sink set.output.rise_max set.output.fall_max n s h.output.1 h.output.3)
      (side_on name true net sink set.output.rise_min set.output.fall_min n s h.output.0 h.output.2)

  port_on : (net : ℕ) (b : Bit) (role : PortRole) → b.role ≡ role → slice_get (bits netlist.nets) net ≡ Some b → IsName b.name
      → AllByRecursion IsPortOn (port_checks library netlist constraints net b role)
  port_on net b roles.Output e at n =
      set_on b.name net (length (inputs_on library netlist net)) (port_at b.decl b.bit constraints.ports) n (record { bit = b; at = at; role = e; last = refl })
      (port_in_range b.decl b.bit constraints.ports ranges)
  port_on net b roles.Input e at n = tt
  port_on net b roles.Inner e at n = tt

  ports_from : (net : ℕ) (bs : List Bit) → ((i : ℕ) (b : Bit) → slice_get bs i ≡ Some b → slice_get (bits netlist.nets) (net + i) ≡ Some b)
      → AllByRecursion (λ b. IsName b.name) bs → AllByRecursion IsPortOn (port_checks_from library netlist constraints net bs)
  ports_from net [] f n = tt
  ports_from net (b ∷ more) f n =
      each-append IsPortOn (port_checks library netlist constraints net b b.role) (port_checks_from library netlist constraints (net + 1) more)
      (port_on net b b.role refl (subst (λ k. slice_get (bits netlist.nets) k ≡ Some b) (omega arith) (f 0 b refl)) n.0)
      (ports_from (net + 1) more (λ i c e. subst (λ k. slice_get (bits netlist.nets) k ≡ Some c) (omega arith) (f (suc i) c e)) n.1)

  pub ports_are : AllByRecursion IsPortOn (port_checks_from library netlist constraints 0 (bits netlist.nets))
  ports_are = ports_from 0 (bits netlist.nets) (λ i b e. subst (λ k. slice_get (bits netlist.nets) k ≡ Some b) (omega arith) e) names
