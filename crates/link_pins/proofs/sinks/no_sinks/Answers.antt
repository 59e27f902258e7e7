use Rattle.std.proofs.Common.{◌≡◌, ◌++◌, [], ◌∷◌, length, sym, ap, subst, arith}
use Rattle.std.specs.List.{All}
use Rattle.std.proofs.lemmas.List.{length_push}
use Rattle.std.proofs.lemmas.List.Elements.{All-append}
use Rattle.link_pins.specs.declared.sinks.NetSinks.{NetSinks}
use Rattle.link_pins.proofs.PlacedLaws.{one}
use Rattle.link_pins.proofs.sinks.no_sinks.Goals as goal

abbrev IsEmpty : NetSinks → Type 0
IsEmpty row = row.sinks.items ≡ []

pub input_counts-requires-clause-sound : goal.input_counts-requires-clause-sound
input_counts-requires-clause-sound c = c.requires.sound

pub input_counts-requires-clause-pins : goal.input_counts-requires-clause-pins
input_counts-requires-clause-pins c = c.requires.pins

pub loop-count-init : goal.loop-count-init
loop-count-init c = record {
  count = ap length c.in_ok-rows.ensures.items;
  none = subst (All IsEmpty) (sym c.in_ok-rows.ensures.items) (λ k d lt. absurd (omega (arith, lt)));
}

pub loop-count-preserved : goal.loop-count-preserved
loop-count-preserved c =
    let row : NetSinks = record { sinks = c.in_ok-sinks.sinks } in
    let push : c.push.new.self.items ≡ c.loop-count.rows.items ++ row ∷ [] = c.in_ok-push.ensures.items in
    record {
      count = omega (arith, ap length push, length_push c.loop-count.rows.items row, c.loop-count.invariant.count);
      none = subst (All IsEmpty) (sym push) (All-append IsEmpty c.loop-count.rows.items (row ∷ []) c.loop-count.invariant.none (one IsEmpty row c.in_ok-sinks.ensures.items));
    }

pub returns-clause-count : goal.returns-clause-count
returns-clause-count c =
    omega (arith, c.loop-count.invariant.count, c.loop-count-test.false, c.loop-count.auto.count-index-end, c.in_ok-counts.ensures, ap length c.deref-count-items.ensures.value)

pub returns-clause-none : goal.returns-clause-none
returns-clause-none c = c.loop-count.invariant.none
