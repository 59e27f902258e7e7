use Rattle.std.proofs.Common.{◌≡◌, ◌∙◌, [], ◌∷◌, ◌++◌, map, get_or, refl, sym, ap, subst}
use Rattle.std.specs.List.{All}
use Rattle.std.proofs.lemmas.List.{map-append, take_more}
use Rattle.std.proofs.lemmas.List.Elements.{All-append}
use Rattle.link_pins.specs.declared.related.PinCount.{PinCount}
use Rattle.link_pins.specs.Related.{IsUncounted}
use Rattle.link_pins.proofs.PlacedLaws.{one}
use Rattle.link_pins.proofs.related.no_counts.Goals as goal

pub loop-pin-preserved : goal.loop-pin-preserved
loop-pin-preserved c =
    let p = get_or c.args.pins.now c.loop-pin.pin-index 0 in
    let u : PinCount = record { pin = p; count = 0; places = c.none.result } in
    let push : c.push.new.self.items ≡ c.loop-pin.counts.items ++ u ∷ [] = c.in_ok-push.ensures.items in
    record {
      pins =
          ap (map (λ (x : PinCount). x.pin)) push
          ∙ (map-append (λ (x : PinCount). x.pin) c.loop-pin.counts.items (u ∷ [])
          ∙ (ap (λ l. l ++ p ∷ []) c.loop-pin.invariant.pins ∙ sym (take_more c.args.pins.now c.loop-pin.pin-index 0 c.loop-pin-test.true)));
      none = subst (All IsUncounted) (sym push) (All-append IsUncounted c.loop-pin.counts.items (u ∷ []) c.loop-pin.invariant.none (one IsUncounted u (refl, c.none.ensures)));
    }
