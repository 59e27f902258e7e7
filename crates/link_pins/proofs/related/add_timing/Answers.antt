use Rattle.std.proofs.Common.{◌≡◌, ◌++◌, ◌∷◌, [], ◌∙◌, List, map, Some, sym, ap, append_assoc}
use Rattle.std.specs.Prelude.{Option, filter_map}
use Rattle.std.specs.List.{cons_option, slice_get}
use Rattle.name_numbers.specs.Names.{Text}
use Rattle.liberty_cells.specs.declared.cell.Cell.{Cell}
use Rattle.liberty_cells.specs.declared.timing.Timing.{Timing}
use Rattle.link_index.specs.Cells.{pin_place}
use Rattle.link_pins.specs.Timed.{TimedPlace, with_timing}
use Rattle.link_pins.proofs.PinLaws.{some_at}
use Rattle.link_pins.proofs.related.add_timing.Goals as goal

pub related-preserved-in-Continue-1 : goal.related-preserved-in-Continue-1
related-preserved-in-Continue-1 c = record {
  timings = c.in_ok-push.ensures.timings ∙ c.related.invariant.timings;
  related = λ x there.
      let t = c.args.timing.now in
      let made : List Text → List TimedPlace = λ names. map (with_timing t) (filter_map (pin_place x) names) in
      let at : slice_get c.related.pins.timings c.args.number ≡ Some t = ap (λ (l : List Timing). slice_get l c.args.number) c.related.invariant.timings ∙ c.requires.there in
      let place : pin_place x c.in-Some.name.now ≡ Some c.in-Some-pin.pin =
      sym (some_at _ (λ (y : Cell). Some c.in-Some-pin.pin ≡ pin_place y c.in-Some.name.now) x there c.in-Some-pin.ensures.place) in
      ap (λ l. l ++ made c.next.new.self) (c.in_ok-push.ensures.items t at)
      ∙ (append_assoc c.related.pins.items (with_timing t c.in-Some-pin.pin ∷ []) (made c.next.new.self)
      ∙ (ap (λ (o : Option _). c.related.pins.items ++ map (with_timing t) (cons_option o (filter_map (pin_place x) c.next.new.self))) (sym place)
      ∙ (ap (λ l. c.related.pins.items ++ made l) (sym c.in-Some.ensures) ∙ c.related.invariant.related x there)));
}
