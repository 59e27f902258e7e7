-- The design that is built of gathered values, or the fault of its loop or of its clock.
use Rattle.std.specs.Prelude.{◌≡◌, refl, ◌+◌, ◌<◌, ◌≤◌, ◌^◌, List, [], ◌∷◌, length, map, ℤ, pos, Option, Some, None, IfSome, option_map, is_some, Result, Ok, Err, IsSome, if◌then◌else◌}
use Rattle.std.specs.List.{All, AllByRecursion}
use Rattle.std.proofs.Common.{arith, sym, ap, ◌∙◌, subst, inl, inr, to_z, of_z, w64}
use Rattle.std.proofs.lemmas.Int.{ints}
use Rattle.std.proofs.lemmas.List.Elements.{recursion_from_All}
use Rattle.xt_model.specs.declared.check.CheckPoint.{CheckPoint}
use Rattle.xt_model.specs.declared.net.Net.{Net}
use Rattle.xt_model.specs.declared.table.Table.{Table}
use Rattle.xt_model.specs.Levels.{AreLevelled}
use Rattle.xt_model.specs.Limits.{most_checks, most_period}
use Rattle.xt_model.specs.Parts.{Parts, classical_parts}
use Rattle.xt_model.specs.Sound.{IsBetween, IsSound, IsSoundCheck}
use Rattle.xt_model.specs.Tables.{IsTable}
use Rattle.sdc_read.specs.declared.constraints.Clock.{Clock}
use Rattle.sdc_read.specs.declared.constraints.Constraints.{Constraints}
use Rattle.sdc_read.specs.Ports.{IsInRange}
use Rattle.elmore_tree.specs.declared.form.WireForm.{WireForm}
use Rattle.link_rules.specs.declared.fault.LinkFault.{LinkFault}
use Rattle.link_rules.specs.declared.fault.LinkFault.TheVariants as faults
use Rattle.link_rules.specs.declared.fault.LinkRefusal.TheVariants as refusals
use Rattle.link_rules.specs.Bare.{Inputs, bare_net, bare_nets, bare_parts, filled_nets, parts_with}
use Rattle.link_rules.specs.Bare as bare
use Rattle.verilog_net.specs.Bits.{bits}
use Rattle.link_rules.specs.Circuit.{sinks_of, circuit_of}
use Rattle.link_rules.specs.Link.{Links}
use Rattle.link_rules.specs.Refusals.{unclocked, clock_fault}
use Rattle.liberty_cells.specs.Sound.{IsSoundLibrary}
use Rattle.spef_read.specs.Sound.{AreSoundParasitics}
use Rattle.sdc_read.specs.Sound.{IsSoundClock, AreSoundConstraints}
use Rattle.verilog_net.specs.Sound.{IsSoundNetlist}
use Rattle.link_pins.specs.Answers.{IsFound}
use Rattle.design_link.specs.declared.gathering.Gathered.{Gathered}
use Rattle.design_link.specs.Built.{HaveNamesOf, IsLoopOf, Builds}
use Rattle.design_link.specs.Gathered.{IsGathered}
use Rattle.design_link.specs.Nets.{FitAll, AreMade}
use Rattle.design_link.proofs.Lists.{length-numbered, there, within, each_by}
use Rattle.design_link.proofs.MadeLaws.{AreFormed, nets_formed, wires_fit}
use Rattle.design_link.proofs.NameLaws.{IsKept, names_bare, names_filled, names_same, kept_names, kept_few}
use Rattle.design_link.proofs.SoundDesigns.{AreSoundInputs, sizes_kept, design, design_sound, checks_sound, levelled, first_loop, linked_is, points_are}
use Rattle.design_link.proofs.SoundDesigns as designs

-- values of which wires and sizes are accepted, with their wires
module _ (x : Inputs) (g : Gathered) (is : IsGathered x g) where
  count : length g.wires.items ≡ length (bare.circuit x).nets
  count = is.wires.count ∙ length-numbered 0 (bare.circuit x).nets

  nets_are : g.circuit.nets ≡ (bare.circuit x).nets
  nets_are = ap (λ c. c.nets) is.circuit

  pub fit_all : FitAll g.circuit.nets g.wires.items
  fit_all = subst (λ ps. FitAll ps g.wires.items) (sym nets_are) (record {
    count = count;
    each = wires_fit x.netlist x.parasitics (bare.circuit x).nets g.wires.items 0 count is.wires.each;
  })

  -- the nets that are made of them
  module _ (nets : List Net) (made : AreMade g.circuit.nets g.wires.items nets) where
    here : AreMade (bare.circuit x).nets g.wires.items nets
    here = subst (λ ps. AreMade ps g.wires.items nets) nets_are made

    pub formed : AreFormed x.netlist x.parasitics (bare.numbered x) nets
    formed = nets_formed x.netlist x.parasitics (bare.circuit x).nets g.wires.items nets 0 count here.count is.wires.each here.each

    abbrev pub forms : List WireForm
    forms = formed.forms

    -- the nets of the design, before which nothing is refused
    abbrev whole : List Net
    whole = filled_nets (bare_nets x) forms

    nets_is : nets ≡ whole
    unfolding bare_nets
    nets_is = formed.is

    bare_named : HaveNamesOf x.netlist (bare_nets x)
    unfolding bare_nets circuit_of
    bare_named = names_bare x.library x.netlist x.parasitics x.constraints 0 0 (bits x.netlist.nets)

    whole_named : HaveNamesOf x.netlist whole
    whole_named = names_filled (bare_nets x) forms (designs.fit x forms [] is.accepted formed.are) ∙ bare_named

    pub named : HaveNamesOf x.netlist nets
    named = ap (map (λ (n : Net). n.name)) nets_is ∙ whole_named

    -- a loop of the nets is refused
    whole_refused : (f : LinkFault) → IsLoopOf whole f → Links x (Err f)
    whole_refused faults.NoMemory h = tt
    whole_refused (faults.Refused (refusals.K4 names)) h =
        inr (inr (inr (inr (inr (inl (record {
          wires = is.accepted;
          sizes = is.sizes;
          here = (h.0, first_loop x forms [] is.accepted formed.are h.0 h.1, h.2 ∙ names_same x.netlist whole (bare_nets x) whole_named bare_named h.0);
        }))))))
    whole_refused (faults.Refused (refusals.K1 a b)) h = absurd h
    whole_refused (faults.Refused (refusals.K2 a b)) h = absurd h
    whole_refused (faults.Refused (refusals.K3 a)) h = absurd h
    whole_refused (faults.Refused (refusals.K5 a)) h = absurd h
    whole_refused (faults.Refused (refusals.K6 a b)) h = absurd h
    whole_refused (faults.Refused (refusals.K7 a)) h = absurd h
    whole_refused (faults.Refused (refusals.K9 a b)) h = absurd h
    whole_refused (faults.Limit what name value) h = absurd h

    pub loop_refused : (f : LinkFault) → IsLoopOf nets f → Links x (Err f)
    loop_refused f h = whole_refused f (subst (λ ns. IsLoopOf ns f) nets_is h)

    bare_levelled : AreLevelled nets → AreLevelled (bare_nets x)
    bare_levelled h = levelled x forms [] is.accepted formed.are (subst AreLevelled nets_is h)

    -- the design by its parts
    design_is : (points : List CheckPoint) (period : Option ℤ) (ts : List Table) (cs : List CheckPoint) → period ≡ option_map (λ (k : Clock). k.period) x.constraints.clock
        → ts ≡ x.library.tables → cs ≡ points → classical_parts period ts nets cs ≡ design x forms points
    design_is points period ts cs a b c =
        ap (λ p. classical_parts p ts nets cs) a
        ∙ (ap (λ t. classical_parts (option_map (λ (k : Clock). k.period) x.constraints.clock) t nets cs) b
        ∙ (ap (λ n. classical_parts (option_map (λ (k : Clock). k.period) x.constraints.clock) x.library.tables n cs) nets_is
        ∙ ap (classical_parts (option_map (λ (k : Clock). k.period) x.constraints.clock) x.library.tables whole) c))

    -- ---- with a clock
    module _ (c : Clock) (clock : x.constraints.clock ≡ Some c) (period : Option ℤ) (is_period : period ≡ Some c.period) (ts : List Table) (is_tables : ts ≡ x.library.tables)
        (cs : List CheckPoint) (is_checks : cs ≡ (bare.circuit x).checks) where
      clock_kept : clock_fault (bare_parts x) ≡ None
      unfolding clock_fault bare_parts
      clock_kept = ap (λ o. if is_some (option_map (λ (k : Clock). k.period) o) then None else unclocked (bare.circuit x).checks) clock

      pub clocked_is : classical_parts period ts nets cs ≡ design x forms (bare.circuit x).checks
      clocked_is = design_is (bare.circuit x).checks period ts cs (is_period ∙ sym (ap (option_map (λ (k : Clock). k.period)) clock)) is_tables is_checks

      pub linked : (r : Result Parts LinkFault) → Builds (classical_parts period ts nets cs) r → Links x r
      linked (Ok d) h = record {
        wires = is.accepted;
        sizes = is.sizes;
        levels = bare_levelled h.1;
        clock = clock_kept;
        parts = (forms, formed.are, h.0 ∙ (clocked_is ∙ linked_is x forms));
      }
      linked (Err f) h = loop_refused f h

    -- ---- with no clock
    no_clock : x.constraints.clock ≡ None → clock_fault (bare_parts x) ≡ unclocked (bare.circuit x).checks
    unfolding clock_fault bare_parts
    no_clock e = ap (λ o. if is_some (option_map (λ (k : Clock). k.period) o) then None else unclocked (bare.circuit x).checks) e

    no_points : (cs : List CheckPoint) → unclocked cs ≡ None → [] ≡ cs
    no_points [] e = refl
    no_points (c ∷ cs) e = absurd (cc)

    module _ (clock : x.constraints.clock ≡ None) (cs : List CheckPoint) (is_checks : cs ≡ (bare.circuit x).checks) where
      pub unclocked_refused : AreLevelled nets → (f : LinkFault) → IsFound (unclocked cs) f → Links x (Err f)
      unclocked_refused levels faults.NoMemory h = tt
      unclocked_refused levels (faults.Refused r) h =
          inr (inr (inr (inr (inr (inr (record { wires = is.accepted; sizes = is.sizes; levels = bare_levelled levels; here = no_clock clock ∙ (ap unclocked (sym is_checks) ∙ h) }))))))
      unclocked_refused levels (faults.Limit what name value) h =
          inr (inr (inr (inr (inr (inr (record { wires = is.accepted; sizes = is.sizes; levels = bare_levelled levels; here = no_clock clock ∙ (ap unclocked (sym is_checks) ∙ h) }))))))

      module _ (ts : List Table) (is_tables : ts ≡ x.library.tables) (points : List CheckPoint) (no_checks : points ≡ []) where
        pub unclocked_is : classical_parts None ts nets points ≡ design x forms []
        unclocked_is = design_is [] None ts points (sym (ap (option_map (λ (k : Clock). k.period)) clock)) is_tables no_checks

        pub linked_unclocked : (d : Parts) → Builds (classical_parts None ts nets points) (Ok d) → unclocked cs ≡ None → Links x (Ok d)
        linked_unclocked d h none =
            let all : unclocked (bare.circuit x).checks ≡ None = ap unclocked (sym is_checks) ∙ none in
            record {
              wires = is.accepted;
              sizes = is.sizes;
              levels = bare_levelled h.1;
              clock = no_clock clock ∙ all;
              parts = (forms, formed.are, h.0 ∙ (unclocked_is ∙ (ap (design x forms) (no_points (bare.circuit x).checks all) ∙ linked_is x forms)));
            }

    -- ---- the design is sound
    module _ (library : IsSoundLibrary x.library) (netlist : IsSoundNetlist x.netlist) (parasitics : AreSoundParasitics x.parasitics)
        (constraints : AreSoundConstraints x.constraints) (tables : All IsTable x.library.tables) where
      all_kept : AllByRecursion IsKept (bare.circuit x).nets
      all_kept = each_by IsKept (bare.circuit x).nets (λ i p at.
          let lt = within (bare.circuit x).nets i p at in
          let wires = count in
          let made_count = here.count in
          let w = there g.wires.items i (omega (arith, lt, wires)) in
          let n = there nets i (omega (arith, lt, made_count)) in
          let h = here.each i p w.0 n.0 at w.1 n.1 in
          record { name = h.name; few = h.few })

      sound_inputs : AreSoundInputs x forms
      unfolding circuit_of
      sound_inputs = record {
        library = library;
        netlist = netlist;
        parasitics = parasitics;
        constraints = constraints;
        tables = tables;
        ports = recursion_from_All IsInRange x.constraints.ports constraints.ports;
        names = kept_names x.library x.netlist x.parasitics x.constraints 0 (bits x.netlist.nets) all_kept;
        sums = formed.sums;
        few = λ i b at.
            let number : 0 + i ≡ i = omega arith in
            subst (λ k. length (sinks_of x.library x.netlist x.constraints (k, b)) < 2 ^ 32) number
            (kept_few x.library x.netlist x.parasitics x.constraints 0 (bits x.netlist.nets) all_kept i b at);
      }

      few_checks : length (bare.circuit x).checks ≤ most_checks
      unfolding bare_parts
      few_checks = (sizes_kept (bare_parts x) is.sizes).checks

      all_checks : AllByRecursion (IsSoundCheck (design x forms (bare.circuit x).checks)) (bare.circuit x).checks
      all_checks = subst (AllByRecursion (IsSoundCheck (design x forms (bare.circuit x).checks))) (sym (points_are x))
          (checks_sound x forms (bare.circuit x).checks is.accepted formed.are sound_inputs)

      clock_there : (o : Option Clock) (c : Clock) → o ≡ Some c → IsSome (option_map (λ (k : Clock). k.period) o)
      clock_there o c e = subst (λ p. IsSome (option_map (λ (k : Clock). k.period) p)) (sym e) refl

      pub clocked_sound : (c : Clock) → x.constraints.clock ≡ Some c → (d : Parts) → d ≡ design x forms (bare.circuit x).checks → IsSound d
      clocked_sound c e d same =
          subst IsSound (sym same)
          (design_sound x forms (bare.circuit x).checks is.accepted formed.are sound_inputs is.sizes all_checks few_checks (λ some. clock_there x.constraints.clock c e))

      pub unclocked_sound : (d : Parts) → d ≡ design x forms [] → IsSound d
      unclocked_sound d same =
          subst IsSound (sym same) (design_sound x forms [] is.accepted formed.are sound_inputs is.sizes tt (omega arith) (λ some. absurd (omega (arith, some))))

-- the period of a clock fits 64 bits
pub period_kept : (constraints : Constraints) (c : Clock) → AreSoundConstraints constraints → constraints.clock ≡ Some c → Some (to_z w64 (of_z w64 c.period)) ≡ Some c.period
period_kept constraints c sound e = go constraints.clock e sound.clock
  where
    go : (o : Option Clock) → o ≡ Some c → IfSome o IsSoundClock → Some (to_z w64 (of_z w64 c.period)) ≡ Some c.period
    go None a h = absurd (cc)
    go (Some k) a h =
        let same : k ≡ c = cc in
        let range : IsBetween (pos 1) most_period c.period = subst (λ d. IsBetween (pos 1) most_period d.period) same h.period in
        let fits : to_z w64 (of_z w64 c.period) ≡ c.period = omega (arith, ints, range.least, range.most) in
        ap Some fits
