-- The design of sound values, of which nothing is refused, is sound.
use Rattle.std.specs.Prelude.{◌≡◌, refl, ℕ, zero, suc, ◌+◌, ◌*◌, ◌<◌, ◌≤◌, ◌^◌, nat_le, Bool, true, false, List, [], ◌∷◌, ◌++◌, length, map, flat_map}
use Rattle.std.specs.Prelude.{ℤ, pos, ◌+ℤ◌, ◌*ℤ◌, ◌≤ℤ◌, Option, Some, None, IfSome, IsSome, option_map, if◌then◌else◌}
use Rattle.std.specs.List.{All, AllByRecursion, slice_get, sum_by}
use Rattle.std.specs.Option.{IsSomeAnd}
use Rattle.std.proofs.Common.{arith, sym, ap, ◌∙◌, subst, length-append}
use Rattle.std.proofs.lemmas.Bool.{leb-true}
use Rattle.std.proofs.lemmas.Int.{ints}
use Rattle.std.proofs.lemmas.List.Elements.{recursion_from_All, All-from_recursion}
use Rattle.xt_model.specs.declared.check.CheckPoint.{CheckPoint}
use Rattle.xt_model.specs.declared.check.CheckPoint.TheVariants as checks
use Rattle.xt_model.specs.declared.fault.LimitKind.TheVariants as limits
use Rattle.xt_model.specs.declared.net.Coupling.{Coupling}
use Rattle.xt_model.specs.declared.net.TimingArc.{TimingArc}
use Rattle.xt_model.specs.declared.net.Net.{Net}
use Rattle.xt_model.specs.declared.quad.Pair.{Pair}
use Rattle.xt_model.specs.Limits.{most_cap, most_period, most_nets, most_tables, most_checks, most_couplings, most_coefficients, most_arcs, most_reads}
use Rattle.xt_model.specs.Miller.{classical}
use Rattle.xt_model.specs.Names.{IsName}
use Rattle.xt_model.specs.Parts.{Parts}
use Rattle.xt_model.specs.Tables.{IsTable}
use Rattle.xt_model.specs.Sound.{IsBetween, IsCap, LeavesGiven, IsSoundCoupling, IsSoundSink, HasSink, IsSoundArc, coupling_sum, IsSoundNet, IsSoundCheck, coefficients_of, couplings_at, reads_of, HasOwnNames, IsWithinLimits, IsSound}
use Rattle.liberty_cells.specs.declared.library.Library.{Library}
use Rattle.verilog_net.specs.declared.netlist.Netlist.{Netlist}
use Rattle.verilog_net.specs.declared.netlist.PortRole.{PortRole}
use Rattle.verilog_net.specs.declared.netlist.PortRole.TheVariants as roles
use Rattle.spef_read.specs.declared.parasitics.Parasitics.{Parasitics}
use Rattle.sdc_read.specs.declared.constraints.Clock.{Clock}
use Rattle.sdc_read.specs.declared.constraints.Constraints.{Constraints}
use Rattle.sdc_read.specs.Ports.{IsInRange}
use Rattle.elmore_tree.specs.declared.form.WireForm.{WireForm}
use Rattle.elmore_tree.specs.declared.part.Tap.{Tap}
use Rattle.elmore_tree.specs.Forms.{IsFormOf}
use Rattle.elmore_tree.specs.Sums.{SinkSums, IsSinkSums, coefficient_of, sink_sums}
use Rattle.elmore_tree.specs.Trees.{ground_sum, tap_sum}
use Rattle.link_rules.specs.declared.circuit.Sink.{Sink}
use Rattle.link_rules.specs.declared.circuit.NetPins.{NetPins}
use Rattle.link_rules.specs.declared.fault.LinkFault.{LinkFault}
use Rattle.link_rules.specs.declared.fault.LinkFault.TheVariants as faults
use Rattle.link_rules.specs.declared.fault.LinkRefusal.TheVariants as refusals
use Rattle.link_rules.specs.Bare.{Inputs, bare_sink, bare_net, bare_nets, bare_parts, filled_sinks, filled_nets, parts_with}
use Rattle.link_rules.specs.Bare as bare
use Rattle.verilog_net.specs.Bits.{Bit, bits, rising}
use Rattle.link_rules.specs.Circuit.{Numbered, numbered, port_drivers, drivers_of, pin_sink, port_sinks, sinks_of, net_pins, circuit_of}
use Rattle.link_rules.specs.Checks.{flop_checks, port_checks_from, checks_of}
use Rattle.link_rules.specs.Ends.{sink_name}
use Rattle.link_rules.specs.Arcs.{pin_arcs, arcs_of}
use Rattle.link_rules.specs.Given.{quiet_pair, given_by, given_of}
use Rattle.link_rules.specs.Limits.{or_fault, passed, count_fault, size_fault}
use Rattle.link_rules.specs.Link.{AreForms, HasAcceptedWires}
use Rattle.link_rules.specs.Pins.{Connected, end_of, inputs_on, outputs_on}
use Rattle.link_rules.specs.Refusals.{drivers_fault, driver_fault, IsAcceptedWire}
use Rattle.liberty_cells.specs.Sound.{IsSoundLibrary}
use Rattle.spef_read.specs.Sound.{AreSoundParasitics}
use Rattle.sdc_read.specs.Sound.{IsSoundClock, AreSoundConstraints}
use Rattle.verilog_net.specs.Sound.{IsSoundNetlist}
use Rattle.link_rules.specs.Wires.{couplings_of, tree_of}
use Rattle.design_link.proofs.Lists.{each-append, each-weaker, each_at, there, within, numbered_at, length-numbered, mapped_at, length-mapped}
use Rattle.design_link.proofs.GivenLaws.{all_given}
use Rattle.design_link.proofs.PinLaws.{joined_name, IsOn, IsSinkAt, IsArcOn, inputs_are, arcs_are, IsFlopOn, flops_are, IsPortSink, IsPortOn, ports_are}
use Rattle.design_link.proofs.CoupleLaws.{caps_are, IsCoupling, couplings_by, sums_agree, counts_agree, both_kept, kept, load_kept}
use Rattle.xt_model.specs.Levels.{AreLevelled}
use Rattle.xt_model.specs.Loops.{IsFirstLoop}
use Rattle.design_link.proofs.LoopLaws.{HaveSameArcs, same_arcs, levelled_in, first_loop_in}
use Rattle.design_link.proofs.FillLaws.{AreSums, length-filled_sinks, sinks_sound, filled_at, length-filled_nets, Fit, fit_by, sum_filled, coefficients_kept, all_reads, couplings_kept}

-- ---- one driver at most
module _ (library : Library) (netlist : Netlist) where
  few_by : (n : Numbered) (more : List Numbered) (b : Bool) → nat_le (length (drivers_of library netlist n)) 1 ≡ b
      → (if b then drivers_fault library netlist more else Some (faults.Refused (refusals.K3 n.1.name))) ≡ None
      → (length (drivers_of library netlist n) ≤ 1) × (drivers_fault library netlist more ≡ None)
  few_by n more true le e = (leb-true (length (drivers_of library netlist n)) 1 le, e)
  few_by n more false le e = absurd (cc)

  few_drivers : (ns : List Numbered) → drivers_fault library netlist ns ≡ None → AllByRecursion (λ n. length (drivers_of library netlist n) ≤ 1) ns
  few_drivers [] e = tt
  few_drivers (n ∷ more) e =
      let h = few_by n more (nat_le (length (drivers_of library netlist n)) 1) refl e in (h.0, few_drivers more h.1)

  -- a net that an input port drives has no arcs
  no_arcs : (p : Pair) (ends : List Connected) → suc (length (map end_of ends)) ≤ 1 → LeavesGiven p (flat_map (pin_arcs library netlist) ends)
  no_arcs p [] h = tt
  no_arcs p (c ∷ more) h = absurd (omega (arith, h))

  quiet_arcs : (arcs : List TimingArc) → LeavesGiven quiet_pair arcs
  quiet_arcs [] = tt
  quiet_arcs (a ∷ arcs) = (refl, refl)

  leaves_by : (constraints : Constraints) (i : ℕ) (b : Bit) (role : PortRole)
      → length (port_drivers b role ++ map end_of (outputs_on library netlist i)) ≤ 1
      → LeavesGiven (given_by constraints b role) (flat_map (pin_arcs library netlist) (outputs_on library netlist i))
  leaves_by constraints i b roles.Input h = no_arcs (given_by constraints b roles.Input) (outputs_on library netlist i) h
  leaves_by constraints i b roles.Output h = quiet_arcs _
  leaves_by constraints i b roles.Inner h = quiet_arcs _

-- ---- sizes
-- a design within its limits on sizes
pub record KeepsSizes (d : Parts) : Type 0 where
  couplings : sum_by (λ n. length n.couplings) d.nets ≤ most_couplings
  coefficients : sum_by coefficients_of d.nets ≤ most_coefficients
  arcs : sum_by (λ n. length n.arcs) d.nets ≤ most_arcs
  tables : length d.tables ≤ most_tables
  pub checks : length d.checks ≤ most_checks
  reads : sum_by (reads_of d) d.nets ≤ most_reads

pub sizes_kept : (d : Parts) → size_fault d ≡ None → KeepsSizes d
unfolding size_fault
sizes_kept d e =
    let o1 : Option LinkFault = passed limits.Couplings None (sum_by (λ (n : Net). length n.couplings) d.nets) most_couplings in
    let o2 : Option LinkFault = passed limits.Coefficients None (sum_by coefficients_of d.nets) most_coefficients in
    let o3 : Option LinkFault = passed limits.Arcs None (sum_by (λ (n : Net). length n.arcs) d.nets) most_arcs in
    let o4 : Option LinkFault = passed limits.Tables None (length d.tables) most_tables in
    let o5 : Option LinkFault = passed limits.Checks None (length d.checks) most_checks in
    let o6 : Option LinkFault = passed limits.Reads None (sum_by (reads_of d) d.nets) most_reads in
    let a = both_kept o1 (or_fault o2 (or_fault o3 (or_fault o4 (or_fault o5 o6)))) e in
    let b = both_kept o2 (or_fault o3 (or_fault o4 (or_fault o5 o6))) a.1 in
    let c = both_kept o3 (or_fault o4 (or_fault o5 o6)) b.1 in
    let f = both_kept o4 (or_fault o5 o6) c.1 in
    let g = both_kept o5 o6 f.1 in
    record {
      couplings = kept limits.Couplings None (sum_by (λ (n : Net). length n.couplings) d.nets) most_couplings a.0;
      coefficients = kept limits.Coefficients None (sum_by coefficients_of d.nets) most_coefficients b.0;
      arcs = kept limits.Arcs None (sum_by (λ (n : Net). length n.arcs) d.nets) most_arcs c.0;
      tables = kept limits.Tables None (length d.tables) most_tables f.0;
      checks = kept limits.Checks None (length d.checks) most_checks g.0;
      reads = kept limits.Reads None (sum_by (reads_of d) d.nets) most_reads g.1;
    }

-- ---- the forms of wires
length-rising : (f n : ℕ) → length (rising f n) ≡ n
length-rising f zero = refl
length-rising f (suc n) = ap suc (length-rising (f + 1) n)

module _ (netlist : Netlist) (parasitics : Parasitics) (n : bare.Numbered) where
  pub sinks_length : length (bare.tree netlist parasitics n).sinks ≡ length n.1.sinks
  unfolding tree_of
  sinks_length = length-mapped _ (rising 0 (length n.1.sinks)) ∙ length-rising 0 (length n.1.sinks)

  form_by : (form : WireForm) → IsFormOf (bare.tree netlist parasitics n) form → length form.sinks ≡ length n.1.sinks
  form_by form f =
      let by = f.sums f.paths.0 f.paths.1 in
      ap length by.sinks ∙ (length-mapped (sink_sums (bare.tree netlist parasitics n) f.paths.0) (bare.tree netlist parasitics n).sinks ∙ sinks_length)

  taps_length : length (bare.tree netlist parasitics n).taps ≡ length (couplings_of (bare.wire netlist parasitics n))
  unfolding tree_of couplings_of
  taps_length = sym (counts_agree netlist parasitics n.0 (bare.nodes netlist parasitics n) (bare.wire netlist parasitics n) (bare.wire netlist parasitics n).caps)

  sums_by : (paths : ℕ → List ℕ) (ks : List ℕ) (fs : List SinkSums) → fs ≡ map (sink_sums (bare.tree netlist parasitics n) paths) ks
      → AllByRecursion IsSinkSums fs → AllByRecursion (AreSums (length (couplings_of (bare.wire netlist parasitics n)))) fs
  sums_by paths [] [] e h = tt
  sums_by paths [] (f ∷ fs) e h = absurd (cc)
  sums_by paths (k ∷ ks) [] e h = absurd (cc)
  sums_by paths (k ∷ ks) (f ∷ fs) e h =
      let first : f ≡ sink_sums (bare.tree netlist parasitics n) paths k = cc in
      let rest : fs ≡ map (sink_sums (bare.tree netlist parasitics n) paths) ks = cc in
      let count : length f.coefs ≡ length (couplings_of (bare.wire netlist parasitics n)) =
      ap (λ s. length s.coefs) first ∙ (length-mapped (λ (tap : Tap). pos (coefficient_of (bare.tree netlist parasitics n) paths k tap)) (bare.tree netlist parasitics n).taps ∙ taps_length) in
      (record { sums = h.0; count = count }, sums_by paths ks fs rest h.1)

  forms_sums : (form : WireForm) → IsFormOf (bare.tree netlist parasitics n) form → AllByRecursion IsSinkSums form.sinks
      → AllByRecursion (AreSums (length (couplings_of (bare.wire netlist parasitics n)))) form.sinks
  forms_sums form f h = let by = f.sums f.paths.0 f.paths.1 in sums_by f.paths.0 (bare.tree netlist parasitics n).sinks form.sinks by.sinks h

  -- the load of a net
  load_most : IsAcceptedWire netlist parasitics n → ground_sum (bare.tree netlist parasitics n).ground + 2 * tap_sum (bare.tree netlist parasitics n).taps ≤ 2 ^ 46
  load_most t = load_kept netlist parasitics n t.limit

  module _ (sound : AreSoundParasitics parasitics) where
    coupling_is : coupling_sum (couplings_of (bare.wire netlist parasitics n)) ≡ pos (tap_sum (bare.tree netlist parasitics n).taps)
    unfolding couplings_of tree_of
    coupling_is = sums_agree netlist parasitics n.0 (bare.nodes netlist parasitics n) (bare.wire netlist parasitics n) (bare.wire netlist parasitics n).caps
        (caps_are netlist parasitics sound n.0 n.1)

    couplings_are : AllByRecursion (IsCoupling netlist parasitics n.0) (couplings_of (bare.wire netlist parasitics n))
    unfolding couplings_of
    couplings_are = couplings_by netlist parasitics n.0 (bare.wire netlist parasitics n).caps (caps_are netlist parasitics sound n.0 n.1)

some_is : {A : Type 0} (a b : A) → Some a ≡ Some b → a ≡ b
some_is a b e = cc

-- ---- the whole design
-- values that are sound, and what their types keep: tables, ranges of ports, names of bits, sums of forms, numbers of sinks
pub record AreSoundInputs (x : Inputs) (forms : List WireForm) : Type 0 where
  pub library : IsSoundLibrary x.library
  pub netlist : IsSoundNetlist x.netlist
  pub parasitics : AreSoundParasitics x.parasitics
  pub constraints : AreSoundConstraints x.constraints
  pub tables : All IsTable x.library.tables
  pub ports : AllByRecursion IsInRange x.constraints.ports
  pub names : AllByRecursion (λ b. IsName b.name) (bits x.netlist.nets)
  pub sums : AllByRecursion (λ f. AllByRecursion IsSinkSums f.sinks) forms
  pub few : (i : ℕ) (b : Bit) → slice_get (bits x.netlist.nets) i ≡ Some b → length (sinks_of x.library x.netlist x.constraints (i, b)) < 2 ^ 32

module _ (x : Inputs) (forms : List WireForm) (points : List CheckPoint) where
  abbrev pub nets : List Net
  nets = filled_nets (bare_nets x) forms

  -- the design with these check points
  abbrev pub design : Parts
  design = record {
    period = option_map (λ c. c.period) x.constraints.clock;
    tables = x.library.tables;
    nets = nets;
    checks = points;
    miller = classical;
  }

  abbrev pins : ℕ → Bit → NetPins
  pins i b = net_pins x.library x.netlist x.constraints (i, b)

  -- a net of the design, by its bit and the form of its wire
  record IsNetOf (i : ℕ) (n : Net) : Type 0 where
    bit : Bit
    bit_at : slice_get (bits x.netlist.nets) i ≡ Some bit
    form : WireForm
    formed : IsFormOf (bare.tree x.netlist x.parasitics (i, pins i bit)) form
    accepted : IsAcceptedWire x.netlist x.parasitics (i, pins i bit)
    form_at : slice_get forms i ≡ Some form
    driven : length (drivers_of x.library x.netlist (i, bit)) ≤ 1
    is : n ≡ record (bare_net x.netlist x.parasitics (i, pins i bit)) { sinks = filled_sinks (bare_net x.netlist x.parasitics (i, pins i bit)).sinks form.sinks }

  module _ (wires : HasAcceptedWires x) (formed : AreForms x.netlist x.parasitics (bare.numbered x) forms) where
    -- a numbered net by its bit
    record IsNumberedBy (i : ℕ) (q : bare.Numbered) : Type 0 where
      bit : Bit
      bit_at : slice_get (bits x.netlist.nets) i ≡ Some bit
      driven : length (drivers_of x.library x.netlist (i, bit)) ≤ 1
      is : q ≡ (i, pins i bit)

    few_of : AllByRecursion (λ n. length (drivers_of x.library x.netlist n) ≤ 1) (numbered x.netlist)
    unfolding driver_fault
    few_of = few_drivers x.library x.netlist (numbered x.netlist) wires.pins.drivers

    numbered_by : (i : ℕ) (q : bare.Numbered) → slice_get (bare.numbered x) i ≡ Some q → IsNumberedBy i q
    unfolding circuit_of
    numbered_by i q e =
        let a = numbered_at 0 (map (net_pins x.library x.netlist x.constraints) (numbered x.netlist)) i q e in
        let b = mapped_at (net_pins x.library x.netlist x.constraints) (numbered x.netlist) i a.0 a.1 in
        let c = numbered_at 0 (bits x.netlist.nets) i b.0 b.1 in
        let number : 0 + i ≡ i = omega arith in
        let bit_is : b.0 ≡ (i, c.0) = c.2 ∙ ap (λ k. (k, c.0)) number in
        record {
          bit = c.0;
          bit_at = c.1;
          driven = subst (λ n. length (drivers_of x.library x.netlist n) ≤ 1) bit_is (each_at (λ n. length (drivers_of x.library x.netlist n) ≤ 1) (numbered x.netlist) i b.0 few_of b.1);
          is = a.2 ∙ (ap (λ k. (k, a.0)) number ∙ (ap (λ p. (i, p)) (sym b.2) ∙ ap (λ n. (i, net_pins x.library x.netlist x.constraints n)) bit_is));
        }

    bare_length : length (bare_nets x) ≡ length (bits x.netlist.nets)
    unfolding bare_nets circuit_of
    bare_length =
        length-mapped (bare_net x.netlist x.parasitics) (bare.numbered x)
        ∙ (length-numbered 0 (map (net_pins x.library x.netlist x.constraints) (numbered x.netlist))
        ∙ (length-mapped (net_pins x.library x.netlist x.constraints) (numbered x.netlist) ∙ length-numbered 0 (bits x.netlist.nets)))

    forms_length : length forms ≡ length (bare_nets x)
    unfolding bare_nets
    forms_length = formed.count ∙ sym (length-mapped (bare_net x.netlist x.parasitics) (bare.numbered x))

    pub nets_length : length nets ≡ length (bits x.netlist.nets)
    nets_length = length-filled_nets (bare_nets x) forms forms_length ∙ bare_length

    net_by : (i : ℕ) (n m : Net) (q : bare.Numbered) (f : WireForm) → slice_get (bare.numbered x) i ≡ Some q → slice_get forms i ≡ Some f
        → bare_net x.netlist x.parasitics q ≡ m → n ≡ record m { sinks = filled_sinks m.sinks f.sinks } → IsNetOf i n
    net_by i n m q f qe fe same is =
        let h = numbered_by i q qe in
        let form = formed.each i q f qe fe in
        let accepted = each_at (IsAcceptedWire x.netlist x.parasitics) (bare.numbered x) i q (recursion_from_All (IsAcceptedWire x.netlist x.parasitics) (bare.numbered x) wires.wires) qe in
        let fill : Net → Net = λ k. record k { sinks = filled_sinks k.sinks f.sinks } in
        record {
          bit = h.bit;
          bit_at = h.bit_at;
          form = f;
          formed = subst (λ k. IsFormOf (bare.tree x.netlist x.parasitics k) f) h.is form;
          accepted = subst (IsAcceptedWire x.netlist x.parasitics) h.is accepted;
          form_at = fe;
          driven = h.driven;
          is = is ∙ (ap fill (sym same) ∙ ap (λ k. fill (bare_net x.netlist x.parasitics k)) h.is);
        }

    net_is : (i : ℕ) (n : Net) → slice_get nets i ≡ Some n → IsNetOf i n
    unfolding bare_nets
    net_is i n e =
        let h = filled_at (bare_nets x) forms i n e in
        let q = mapped_at (bare_net x.netlist x.parasitics) (bare.numbered x) i h.net h.net_at in
        net_by i n h.net q.0 h.form q.1 h.form_at q.2 h.is

    pub fit : Fit (bare_nets x) forms
    unfolding bare_nets bare_net
    fit = fit_by (bare_nets x) forms forms_length (λ i m f a b.
        let q = mapped_at (bare_net x.netlist x.parasitics) (bare.numbered x) i m a in
        let form = formed.each i q.0 f q.1 b in
        form_by x.netlist x.parasitics q.0 f form ∙ (sym (length-mapped (bare_sink x.netlist x.parasitics) q.0.1.sinks) ∙ ap (λ k. length k.sinks) q.2))

    -- ---- sinks
    sinks_count : (i : ℕ) (n : Net) (h : IsNetOf i n) → length n.sinks ≡ length (sinks_of x.library x.netlist x.constraints (i, h.bit))
    unfolding bare_net net_pins
    sinks_count i n h =
        let all : List Sink = sinks_of x.library x.netlist x.constraints (i, h.bit) in
        let made = length-mapped (bare_sink x.netlist x.parasitics) all in
        let count : length h.form.sinks ≡ length (map (bare_sink x.netlist x.parasitics) all) = form_by x.netlist x.parasitics (i, pins i h.bit) h.form h.formed ∙ sym made in
        ap (λ k. length k.sinks) h.is ∙ (length-filled_sinks (map (bare_sink x.netlist x.parasitics) all) h.form.sinks count ∙ made)

    has_sink : (net sink : ℕ) (b : Bit) → slice_get (bits x.netlist.nets) net ≡ Some b → sink < length (sinks_of x.library x.netlist x.constraints (net, b)) → HasSink design net sink
    has_sink net sink b at lt =
        let room = within (bits x.netlist.nets) net b at in
        let len = nets_length in
        let n = there nets net (omega (arith, room, len)) in
        let h = net_is net n.0 n.1 in
        let same : h.bit ≡ b = some_is h.bit b (sym h.bit_at ∙ at) in
        let count : length n.0.sinks ≡ length (sinks_of x.library x.netlist x.constraints (net, b)) =
        sinks_count net n.0 h ∙ ap (λ k. length (sinks_of x.library x.netlist x.constraints (net, k))) same in
        subst (λ o. IsSomeAnd o (λ k. sink < length k.sinks)) (sym n.1) (omega (arith, lt, count))

    inputs_fewer : (net : ℕ) (b : Bit) (role : PortRole) → length (inputs_on x.library x.netlist net)
        ≤ length (map pin_sink (inputs_on x.library x.netlist net) ++ port_sinks x.library x.netlist x.constraints b role)
    inputs_fewer net b role =
        let made = length-mapped pin_sink (inputs_on x.library x.netlist net) in
        let all = length-append (map pin_sink (inputs_on x.library x.netlist net)) (port_sinks x.library x.netlist x.constraints b role) in
        omega (arith, made, all)

    sink_there : (net sink : ℕ) → IsSinkAt x.library x.netlist net sink → HasSink design net sink
    sink_there net sink h =
        let b = there (bits x.netlist.nets) net h.net_there in
        let lt = h.sink_there in
        let le = inputs_fewer net b.0 b.0.role in
        has_sink net sink b.0 b.1 (omega (arith, lt, le))

    last_by : (net sink : ℕ) (b : Bit) (role : PortRole) → role ≡ roles.Output → sink ≡ length (inputs_on x.library x.netlist net)
        → sink < length (map pin_sink (inputs_on x.library x.netlist net) ++ port_sinks x.library x.netlist x.constraints b role)
    last_by net sink b roles.Output e last =
        let made = length-mapped pin_sink (inputs_on x.library x.netlist net) in
        let all = length-append (map pin_sink (inputs_on x.library x.netlist net)) (port_sinks x.library x.netlist x.constraints b roles.Output) in
        omega (arith, made, all, last)
    last_by net sink b roles.Input e last = absurd (cc)
    last_by net sink b roles.Inner e last = absurd (cc)

    port_sink_there : (ranges : AllByRecursion IsInRange x.constraints.ports) (names : AllByRecursion (λ b. IsName b.name) (bits x.netlist.nets)) (net sink : ℕ)
        → IsPortSink x.library x.netlist x.constraints ranges names net sink → HasSink design net sink
    port_sink_there ranges names net sink h = has_sink net sink h.bit h.at (last_by net sink h.bit h.bit.role h.role h.last)

    module _ (sound : AreSoundInputs x forms) where
      port_named : (i : ℕ) (b : Bit) (role : PortRole) → IsName b.name
          → AllByRecursion (λ s. IsName (sink_name s.end)) (port_sinks x.library x.netlist x.constraints b role)
      port_named i b roles.Output n = (n, tt)
      port_named i b roles.Input n = tt
      port_named i b roles.Inner n = tt

      pins_named : (cs : List Connected) → AllByRecursion (IsOn x.library x.netlist) cs → AllByRecursion (λ s. IsName (sink_name s.end)) (map pin_sink cs)
      pins_named [] h = tt
      pins_named (c ∷ cs) h = (joined_name c.owner c.pin.name h.0.owner h.0.name, pins_named cs h.1)

      bare_named : (ss : List Sink) → AllByRecursion (λ s. IsName (sink_name s.end)) ss → AllByRecursion (λ s. IsName s.name) (map (bare_sink x.netlist x.parasitics) ss)
      bare_named [] h = tt
      bare_named (s ∷ ss) h = (h.0, bare_named ss h.1)

      bit_named : (i : ℕ) (b : Bit) → slice_get (bits x.netlist.nets) i ≡ Some b → IsName b.name
      bit_named i b at = each_at (λ b. IsName b.name) (bits x.netlist.nets) i b sound.names at

      sinks_named : (i : ℕ) (b : Bit) → slice_get (bits x.netlist.nets) i ≡ Some b
          → AllByRecursion (λ s. IsName s.name) (map (bare_sink x.netlist x.parasitics) (sinks_of x.library x.netlist x.constraints (i, b)))
      sinks_named i b at =
          bare_named (sinks_of x.library x.netlist x.constraints (i, b))
          (each-append (λ s. IsName (sink_name s.end)) (map pin_sink (inputs_on x.library x.netlist i)) (port_sinks x.library x.netlist x.constraints b b.role)
          (pins_named (inputs_on x.library x.netlist i) (inputs_are x.library x.netlist sound.library sound.netlist i))
          (port_named i b b.role (bit_named i b at)))

      -- ---- a net
      coupling_sound : (i : ℕ) (k : Coupling) → IsCoupling x.netlist x.parasitics i k → IsSoundCoupling design i k
      coupling_sound i k h =
          let len = nets_length in
          let lt = h.to.there in
          let a = h.cap.least in
          let b = h.cap.most in
          record { there = omega (arith, len, lt); other = h.to.other; cap = record { least = a; most = omega (arith, ints, b) } }

      arc_sound : (a : TimingArc) → IsArcOn x.library x.netlist a → IsSoundArc design a
      arc_sound a h = record { sink = sink_there a.from.0 a.sink h.sink; delay = h.delay; slew = h.slew }

      load_is : (g t : ℕ) (s : ℤ) → s ≡ pos t → g + 2 * t ≤ 2 ^ 46 → (pos g +ℤ (pos 2 *ℤ s)) ≤ℤ most_cap
      load_is g t s e le = subst (λ z. (pos g +ℤ (pos 2 *ℤ z)) ≤ℤ most_cap) (sym e) (whole_is g t le)
        where
          whole_is : (g t : ℕ) → g + 2 * t ≤ 2 ^ 46 → pos (g + 2 * t) ≤ℤ most_cap
          whole_is g t le = omega (arith, ints, le)

      cap_is : (g t : ℕ) → g + 2 * t ≤ 2 ^ 46 → IsCap (pos g)
      cap_is g t le = record { least = omega (arith, ints); most = omega (arith, ints, le) }

      bare_sound : (i : ℕ) (b : Bit) (f : WireForm) → slice_get (bits x.netlist.nets) i ≡ Some b → IsFormOf (bare.tree x.netlist x.parasitics (i, pins i b)) f
          → IsAcceptedWire x.netlist x.parasitics (i, pins i b) → AllByRecursion IsSinkSums f.sinks → length (drivers_of x.library x.netlist (i, b)) ≤ 1
          → length (filled_sinks (bare_net x.netlist x.parasitics (i, pins i b)).sinks f.sinks) < 2 ^ 32
          → IsSoundNet design i (record (bare_net x.netlist x.parasitics (i, pins i b)) { sinks = filled_sinks (bare_net x.netlist x.parasitics (i, pins i b)).sinks f.sinks })
      unfolding bare_net net_pins given_of arcs_of
      bare_sound i b f at formed' accepted sums driven few =
          let n : bare.Numbered = (i, pins i b) in
          let given = all_given x.constraints b sound.constraints sound.ports in
          let most = load_most x.netlist x.parasitics n accepted in
          record {
            name = bit_named i b at;
            load = cap_is (ground_sum (bare.tree x.netlist x.parasitics n).ground) (tap_sum (bare.tree x.netlist x.parasitics n).taps) most;
            rise = given.rise;
            fall = given.fall;
            derived = leaves_by x.library x.netlist x.constraints i b b.role driven;
            couplings = All-from_recursion (IsSoundCoupling design i) (couplings_of (bare.wire x.netlist x.parasitics n))
                (each-weaker (IsCoupling x.netlist x.parasitics i) (IsSoundCoupling design i) (coupling_sound i) (couplings_of (bare.wire x.netlist x.parasitics n))
                (couplings_are x.netlist x.parasitics n sound.parasitics));
            sinks = All-from_recursion (IsSoundSink (length (couplings_of (bare.wire x.netlist x.parasitics n)))) _
                (sinks_sound (length (couplings_of (bare.wire x.netlist x.parasitics n))) (map (bare_sink x.netlist x.parasitics) (sinks_of x.library x.netlist x.constraints (i, b))) f.sinks
                (sinks_named i b at) (forms_sums x.netlist x.parasitics n f formed' sums));
            arcs = All-from_recursion (IsSoundArc design) (arcs_of x.library x.netlist i)
                (each-weaker (IsArcOn x.library x.netlist) (IsSoundArc design) arc_sound (arcs_of x.library x.netlist i) (arcs_are x.library x.netlist sound.library sound.netlist i));
            few_sinks = few;
            most_load = load_is (ground_sum (bare.tree x.netlist x.parasitics n).ground) (tap_sum (bare.tree x.netlist x.parasitics n).taps)
                (coupling_sum (couplings_of (bare.wire x.netlist x.parasitics n))) (coupling_is x.netlist x.parasitics n sound.parasitics) most;
          }

      net_sound : (i : ℕ) (n : Net) → slice_get nets i ≡ Some n → IsSoundNet design i n
      net_sound i n e =
          let h = net_is i n e in
          let count = sinks_count i n h in
          let few = sound.few i h.bit h.bit_at in
          let sinks = ap (λ k. length k.sinks) h.is in
          subst (λ k. IsSoundNet design i k) (sym h.is)
          (bare_sound i h.bit h.form h.bit_at h.formed h.accepted
          (each_at (λ f. AllByRecursion IsSinkSums f.sinks) forms i h.form sound.sums h.form_at) h.driven (omega (arith, count, few, sinks)))

      nets_sound : (i : ℕ) → IfSome (slice_get nets i) (IsSoundNet design i)
      nets_sound i = by (slice_get nets i) refl
        where
          by : (o : Option Net) → slice_get nets i ≡ o → IfSome o (IsSoundNet design i)
          by None e = tt
          by (Some n) e = net_sound i n e

      name_is : (i : ℕ) (n : Net) (h : IsNetOf i n) → n.name ≡ h.bit.name
      unfolding bare_net net_pins
      name_is i n h = ap (λ k. k.name) h.is

      own_names : HasOwnNames nets
      own_names = record {
        differ = λ i j n m lt a b same.
            let h = net_is i n a in
            let k = net_is j m b in
            sound.netlist.own.differ i j h.bit k.bit lt h.bit_at k.bit_at (sym (name_is i n h) ∙ (same ∙ name_is j m k));
      }

      -- ---- check points
      flop_sound : (p : CheckPoint) → IsFlopOn x.library x.netlist sound.library sound.netlist p → IsSoundCheck design p
      flop_sound (checks.Flop name hold datum datum_sink clock clock_sink rise fall) h =
          (h.0, sink_there datum.0 datum_sink h.1, sink_there clock.0 clock_sink h.2, h.3, h.4)
      flop_sound (checks.Port name hold net sink rise fall) h = absurd h

      port_sound : (p : CheckPoint) → IsPortOn x.library x.netlist x.constraints sound.ports sound.names p → IsSoundCheck design p
      port_sound (checks.Port name hold net sink rise fall) h = (h.0, port_sink_there sound.ports sound.names net.0 sink h.1, h.2, h.3)
      port_sound (checks.Flop name hold datum datum_sink clock clock_sink rise fall) h = absurd h

      pub checks_sound : AllByRecursion (IsSoundCheck design) (checks_of x.library x.netlist x.constraints)
      unfolding checks_of
      checks_sound =
          each-append (IsSoundCheck design) (flop_checks x.library x.netlist) (port_checks_from x.library x.netlist x.constraints 0 (bits x.netlist.nets))
          (each-weaker (IsFlopOn x.library x.netlist sound.library sound.netlist) (IsSoundCheck design) flop_sound (flop_checks x.library x.netlist)
          (flops_are x.library x.netlist sound.library sound.netlist))
          (each-weaker (IsPortOn x.library x.netlist x.constraints sound.ports sound.names) (IsSoundCheck design) port_sound
          (port_checks_from x.library x.netlist x.constraints 0 (bits x.netlist.nets)) (ports_are x.library x.netlist x.constraints sound.ports sound.names))

      -- ---- limits
      counts : length (bits x.netlist.nets) ≤ most_nets
      unfolding count_fault
      counts = kept limits.Nets None (length (bits x.netlist.nets)) most_nets (both_kept _ _ wires.pins.counts).0

      couplings_same : (k : ℕ) → couplings_at design k ≡ couplings_at (bare_parts x) k
      unfolding bare_parts
      couplings_same k = couplings_kept (bare_nets x) forms k fit

      within_limits : size_fault (bare_parts x) ≡ None → length points ≤ most_checks → IsWithinLimits design
      unfolding bare_parts
      within_limits e few =
          let h = sizes_kept (bare_parts x) e in
          let couplings = h.couplings in
          let coefficients = h.coefficients in
          let arcs = h.arcs in
          let reads = h.reads in
          let same_couplings = sum_filled (λ n. length n.couplings) (λ m g s. refl) (bare_nets x) forms fit in
          let same_coefficients = sum_filled coefficients_of coefficients_kept (bare_nets x) forms fit in
          let same_arcs = sum_filled (λ n. length n.arcs) (λ m g s. refl) (bare_nets x) forms fit in
          let same_reads = all_reads design (bare_parts x) couplings_same nets ∙ sum_filled (reads_of (bare_parts x)) (λ m g s. refl) (bare_nets x) forms fit in
          let len = nets_length in
          let most = counts in
          record {
            nets = omega (arith, len, most);
            tables = h.tables;
            checks = few;
            couplings = omega (arith, couplings, same_couplings);
            coefficients = omega (arith, coefficients, same_coefficients);
            arcs = omega (arith, arcs, same_arcs);
            reads = omega (arith, reads, same_reads);
          }

      period_by : (o : Option Clock) → IfSome o IsSoundClock → IfSome (option_map (λ c. c.period) o) (IsBetween (pos 1) most_period)
      period_by None h = tt
      period_by (Some c) h = h.period

      -- a design with these check points is sound
      pub design_sound : size_fault (bare_parts x) ≡ None → AllByRecursion (IsSoundCheck design) points → length points ≤ most_checks
          → (0 < length points → IsSome design.period) → IsSound design
      design_sound sizes pointed few clocked = record {
        tables = sound.tables;
        nets = nets_sound;
        names = own_names;
        checks = All-from_recursion (IsSoundCheck design) points pointed;
        limits = within_limits sizes few;
        period = record { range = period_by x.constraints.clock sound.constraints.clock; there = clocked };
        miller = record { low = omega arith; mid = omega arith; high = omega arith };
      }

    -- the arcs of the design are those before forms are filled in
    pub arcs_same : HaveSameArcs nets (bare_nets x)
    arcs_same = same_arcs (bare_nets x) forms fit

    pub levelled : AreLevelled nets → AreLevelled (bare_nets x)
    levelled = levelled_in nets (bare_nets x) arcs_same (length-filled_nets (bare_nets x) forms forms_length)

    pub first_loop : (loop : List ℕ) → IsFirstLoop nets loop → IsFirstLoop (bare_nets x) loop
    first_loop = first_loop_in nets (bare_nets x) arcs_same

-- the design with all check points is the one that is defined
pub linked_is : (x : Inputs) (forms : List WireForm) → design x forms (bare.circuit x).checks ≡ parts_with x forms
unfolding parts_with bare_parts
linked_is x forms = refl

pub points_are : (x : Inputs) → (bare.circuit x).checks ≡ checks_of x.library x.netlist x.constraints
unfolding circuit_of
points_are x = refl
