-- The arcs into nets and the check points, one pin after another.
use Rattle.std.proofs.Common.{◌≡◌, ℕ, ◌==◌, ◌&&◌, Bool, true, false, cond, List, [], ◌∷◌, ◌++◌, length, set, Some, refl, sym, ap, ◌∙◌, inl, inr}
use Rattle.std.specs.Prelude.{flat_map}
use Rattle.std.specs.List.{All, slice_get}
use Rattle.std.proofs.lemmas.Bool.{cases_eq, eq-eqb, ne_eqb}
use Rattle.std.proofs.lemmas.Grind.{flat_map-append}
use Rattle.std.proofs.lemmas.List.{append-nil, length-set}
use Rattle.std.proofs.lemmas.List.Concat.{flat_map-cons}
use Rattle.std.proofs.lemmas.List.Elements.{filter-append}
use Rattle.std.proofs.lemmas.Option.{slice_get_within, get_or_from_slice_get}
use Rattle.xt_model.specs.declared.check.CheckPoint.{CheckPoint}
use Rattle.liberty_cells.specs.declared.library.Library.{Library}
use Rattle.verilog_net.specs.declared.netlist.Netlist.{Netlist}
use Rattle.link_rules.specs.Arcs.{pin_arcs}
use Rattle.verilog_net.specs.Bits.{bits}
use Rattle.link_rules.specs.Checks.{pin_checks}
use Rattle.link_rules.specs.Pins.{Connected, is_output}
use Rattle.link_pins.specs.declared.timings.NetArcs.{NetArcs}
use Rattle.link_pins.specs.Rows.{outputs_in, AreTimed}
use Rattle.link_pins.proofs.DriverLaws.{set_there, set_elsewhere}

module _ (library : Library) (netlist : Netlist) where
  -- nothing so far
  pub timed_none : (rows : List NetArcs) (points : List CheckPoint) → length rows ≡ length (bits netlist.nets) → All (λ row. row.arcs.items ≡ []) rows → points ≡ []
      → AreTimed library netlist [] rows points
  timed_none rows points count none no_points = record {
    arcs = record {
      count = count;
      each = λ net row h. ap (λ (r : NetArcs). r.arcs.items) (sym (get_or_from_slice_get rows net row row h)) ∙ none net row (slice_get_within rows net row h);
    };
    checks = no_points;
  }

  module _ (done : List Connected) (c : Connected) where
    out_more : (net : ℕ) (b : Bool) → (is_output c.pin.role && c.net == net) ≡ b → outputs_in net (done ++ c ∷ []) ≡ outputs_in net done ++ cond b (c ∷ []) []
    out_more net b e =
        filter-append (λ d. is_output d.pin.role && d.net == net) done (c ∷ []) ∙ ap (λ t. outputs_in net done ++ cond t (c ∷ []) []) e

    not_out : (net : ℕ) → (is_output c.pin.role && c.net == net) ≡ false → flat_map (pin_arcs library netlist) (outputs_in net (done ++ c ∷ [])) ≡ flat_map (pin_arcs library netlist) (outputs_in net done)
    not_out net e = ap (flat_map (pin_arcs library netlist)) (out_more net false e ∙ append-nil (outputs_in net done))

    out_here : is_output c.pin.role ≡ true
        → flat_map (pin_arcs library netlist) (outputs_in c.net (done ++ c ∷ [])) ≡ flat_map (pin_arcs library netlist) (outputs_in c.net done) ++ pin_arcs library netlist c
    out_here out =
        let test : (is_output c.pin.role && c.net == c.net) ≡ true = rw (out, eq-eqb c.net c.net refl) refl in
        ap (flat_map (pin_arcs library netlist)) (out_more c.net true test)
        ∙ (flat_map-append (pin_arcs library netlist) (outputs_in c.net done) (c ∷ [])
        ∙ ap (λ l. flat_map (pin_arcs library netlist) (outputs_in c.net done) ++ l) (flat_map-cons (pin_arcs library netlist) c [] ∙ append-nil (pin_arcs library netlist c)))

    last_checks : (points new : List CheckPoint) → points ≡ flat_map (pin_checks library netlist) done → new ≡ points ++ pin_checks library netlist c
        → new ≡ flat_map (pin_checks library netlist) (done ++ c ∷ [])
    last_checks points new are adds =
        adds ∙ (ap (λ l. l ++ pin_checks library netlist c) are
        ∙ sym (flat_map-append (pin_checks library netlist) done (c ∷ [])
        ∙ ap (λ l. flat_map (pin_checks library netlist) done ++ l) (flat_map-cons (pin_checks library netlist) c [] ∙ append-nil (pin_checks library netlist c))))

    -- a pin that drives nothing
    pub timed_input : (rows : List NetArcs) (points new : List CheckPoint) → AreTimed library netlist done rows points → is_output c.pin.role ≡ false → new ≡ points ++ pin_checks library netlist c
        → AreTimed library netlist (done ++ c ∷ []) rows new
    timed_input rows points new are idle adds = record {
      arcs = record { count = are.arcs.count; each = λ net row h. are.arcs.each net row h ∙ sym (not_out net (rw idle refl)) };
      checks = last_checks points new are.checks adds;
    }

    -- one that drives its net
    pub timed_output : (rows : List NetArcs) (row more : NetArcs) (points new : List CheckPoint) → AreTimed library netlist done rows points → slice_get rows c.net ≡ Some row → is_output c.pin.role ≡ true
        → more.arcs.items ≡ row.arcs.items ++ pin_arcs library netlist c → new ≡ points ++ pin_checks library netlist c → AreTimed library netlist (done ++ c ∷ []) (set rows c.net more) new
    timed_output rows row more points new are there out arcs adds = record {
      arcs = record {
        count = length-set rows c.net more ∙ are.arcs.count;
        each = λ net e h. elim (cases_eq net c.net) [
          | inl same ↦
              let here : slice_get (set rows c.net more) c.net ≡ Some e = ap (slice_get (set rows c.net more)) (sym same) ∙ h in
              let is : more ≡ e = set_there rows c.net more e (slice_get_within rows c.net row there) here in
              ap (λ (r : NetArcs). r.arcs.items) (sym is) ∙ (arcs ∙ (ap (λ l. l ++ pin_arcs library netlist c) (are.arcs.each c.net row there)
              ∙ (sym (out_here out) ∙ ap (λ n. flat_map (pin_arcs library netlist) (outputs_in n (done ++ c ∷ []))) (sym same))))
          | inr other ↦
              let test : (is_output c.pin.role && c.net == net) ≡ false = rw (ne_eqb c.net net (λ q. other (sym q))) (by (is_output c.pin.role)) in
              are.arcs.each net e (set_elsewhere rows c.net net more e other h) ∙ sym (not_out net test)
        ];
      };
      checks = last_checks points new are.checks adds;
    }
      where
        by : (t : Bool) → (t && false) ≡ false
        by true = refl
        by false = refl
