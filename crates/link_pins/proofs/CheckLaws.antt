-- The check points of an input pin.
use Rattle.std.proofs.Common.{◌≡◌, Bool, true, false, cond, List, [], ◌∷◌, ◌++◌, Some, refl, ap, ◌∙◌}
use Rattle.std.specs.Prelude.{Option, None, filter_map, flat_map, option_map, option_and_then}
use Rattle.std.specs.List.{cons_option}
use Rattle.std.proofs.lemmas.List.Concat.{flat_map-cons}
use Rattle.name_numbers.specs.Names.{Text}
use Rattle.xt_model.specs.declared.check.CheckPoint.{CheckPoint}
use Rattle.xt_model.specs.declared.check.CheckPoint.TheVariants as checks
use Rattle.liberty_cells.specs.declared.library.Library.{Library}
use Rattle.liberty_cells.specs.declared.timing.Timing.{Timing}
use Rattle.verilog_net.specs.declared.netlist.Netlist.{Netlist}
use Rattle.link_rules.specs.Arcs.{Place, sink_at}
use Rattle.link_rules.specs.Checks.{side_of, flop_check, group_checks, pin_checks}
use Rattle.link_rules.specs.Ends.{sink_name}
use Rattle.link_rules.specs.Pins.{Connected, end_of, is_input}
use Rattle.link_pins.specs.declared.arcs.SinkAt.{SinkAt}
use Rattle.link_pins.specs.declared.related.RelatedPin.{RelatedPin}
use Rattle.link_pins.specs.Places.{place_of}
use Rattle.link_pins.specs.Related.{clock_of}

module _ (library : Library) (netlist : Netlist) (c : Connected) where
  -- the point against a clock's sink
  abbrev pub point : Timing → Bool → SinkAt → SinkAt → CheckPoint
  point t hold datum clock =
      checks.Flop (sink_name (end_of c)) hold (record { 0 = datum.net }) datum.sink (record { 0 = clock.net }) clock.sink t.rise t.fall

  pub flop_is : (t : Timing) (hold : Bool) (datum : SinkAt) (r : Option SinkAt) (related : Text) → sink_at library netlist c.instance c.pin.name ≡ Some (place_of datum)
      → sink_at library netlist c.instance related ≡ option_map place_of r → flop_check library netlist c t hold related ≡ option_map (point t hold datum) r
  flop_is t hold datum r related own clock =
      ap (option_and_then (λ (d : Place). option_and_then (λ (k : Place). Some (checks.Flop (sink_name (end_of c)) hold (record { 0 = d.0 }) d.1 (record { 0 = k.0 }) k.1 t.rise t.fall))
      (sink_at library netlist c.instance related))) own
      ∙ (ap (option_and_then (λ (k : Place). Some (checks.Flop (sink_name (end_of c)) hold (record { 0 = datum.net }) datum.sink (record { 0 = k.0 }) k.1 t.rise t.fall))) clock ∙ by r)
    where
      by : (o : Option SinkAt) → option_and_then (λ (k : Place). Some (checks.Flop (sink_name (end_of c)) hold (record { 0 = datum.net }) datum.sink (record { 0 = k.0 }) k.1 t.rise t.fall)) (option_map place_of o)
          ≡ option_map (point t hold datum) o
      by None = refl
      by (Some s) = refl

  abbrev pub by_group : Timing → List CheckPoint
  by_group t = group_checks library netlist c t (side_of t.kind)

  -- the point against a related pin
  abbrev pub check_of : SinkAt → List (Option SinkAt) → RelatedPin → Option CheckPoint
  check_of datum at r = option_map (λ k. point r.timing.now k.0 datum k.1) (clock_of at r)

  -- a pin that is no sink has none
  no_flops : (t : Timing) (hold : Bool) → sink_at library netlist c.instance c.pin.name ≡ None → (items : List Text) → filter_map (flop_check library netlist c t hold) items ≡ []
  no_flops t hold none [] = refl
  no_flops t hold none (x ∷ xs) =
      let here : flop_check library netlist c t hold x ≡ None =
      ap (option_and_then (λ (d : Place). option_and_then (λ (k : Place). Some (checks.Flop (sink_name (end_of c)) hold (record { 0 = d.0 }) d.1 (record { 0 = k.0 }) k.1 t.rise t.fall))
      (sink_at library netlist c.instance x))) none in
      ap (λ o. cons_option o (filter_map (flop_check library netlist c t hold) xs)) here ∙ no_flops t hold none xs

  no_group : (t : Timing) → sink_at library netlist c.instance c.pin.name ≡ None → (o : Option Bool) → group_checks library netlist c t o ≡ []
  no_group t none None = refl
  no_group t none (Some hold) = no_flops t hold none t.related

  no_groups : sink_at library netlist c.instance c.pin.name ≡ None → (ts : List Timing) → flat_map by_group ts ≡ []
  no_groups none [] = refl
  no_groups none (t ∷ ts) = flat_map-cons by_group t ts ∙ (ap (λ l. l ++ flat_map by_group ts) (no_group t none (side_of t.kind)) ∙ no_groups none ts)

  pub no_sink : sink_at library netlist c.instance c.pin.name ≡ None → pin_checks library netlist c ≡ []
  no_sink none = by (is_input c.pin.role)
    where
      by : (b : Bool) → cond b (flat_map by_group c.pin.timings) [] ≡ []
      by true = no_groups none c.pin.timings
      by false = refl
