use Rattle.std.proofs.Common.{◌<◌, ◌∙◌, length, get_or, refl, arith}
use Rattle.std.specs.Prelude.{None}
use Rattle.std.proofs.lemmas.List.{length-set}
use Rattle.std.proofs.lemmas.Option.{slice_get-get_or}
use Rattle.link_pins.proofs.PlaceLaws.{those_less, all_clear}
use Rattle.link_pins.proofs.IndexLaws.{none_listed}
use Rattle.link_pins.proofs.PinLaws.{nothing}
use Rattle.link_pins.proofs.arcs.Places.clear.Goals as goal

pub loop-k-init : goal.loop-k-init
loop-k-init c = record { count = refl; those = c.requires.those }

pub index_mut-requires : goal.index_mut-requires
index_mut-requires c =
    omega (arith, c.requires.room c.loop-k.k nothing (omega (arith, c.loop-k-test.true, c.requires.within)), c.loop-k.invariant.count, c.loop-k.self.at.ok.0)

pub loop-k-preserved : goal.loop-k-preserved
loop-k-preserved c =
    let p = get_or c.args.pins.now c.loop-k.k nothing in
    let within : c.loop-k.k < length c.args.pins.now = omega (arith, c.loop-k-test.true, c.requires.within) in
    let lt : p.pin < length c.loop-k.self.at.items = omega (arith, c.requires.room c.loop-k.k nothing within, c.loop-k.invariant.count) in
    record {
      count = length-set c.loop-k.self.at.items p.pin None ∙ c.loop-k.invariant.count;
      those = those_less c.args.pins.now c.loop-k.k c.args.to p c.loop-k.self.at.items (slice_get-get_or c.args.pins.now c.loop-k.k nothing within) lt c.loop-k.invariant.those;
    }

pub returns-clause-count : goal.returns-clause-count
returns-clause-count c = c.loop-k.invariant.count

pub returns-clause-clear : goal.returns-clause-clear
returns-clause-clear c = all_clear c.args.pins.now c.loop-k.k c.args.to c.loop-k.self.at.items c.loop-k-test.false c.loop-k.invariant.those

pub returns-clause-listed : goal.returns-clause-listed
returns-clause-listed c =
    none_listed _ (all_clear c.args.pins.now c.loop-k.k c.args.to c.loop-k.self.at.items c.loop-k-test.false c.loop-k.invariant.those) c.clear.ensures.items
