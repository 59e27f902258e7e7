use Rattle.std.proofs.Common.{◌≡◌, ℕ, ◌+◌, ◌<◌, sym, ap, subst, ◌∙◌, List, length, get_or, arith}
use Rattle.std.specs.Prelude.{slice_index}
use Rattle.std.proofs.lemmas.List.{length-set}
use Rattle.xt_model.specs.declared.net.NetId.{NetId}
use Rattle.net_eval.specs.ReadLists.{ids}
use Rattle.chaos_core.proofs.Places.{id_at, ids_below, ids_count, places_turn, rising_place}
use Rattle.chaos_core.proofs.loaded.set_places.Goals as goal

pub set_place-requires-clause-low : goal.set_place-requires-clause-low
set_place-requires-clause-low c =
    let none : NetId = record { 0 = 0 } in
    let k = c.loop-place.place in
    let n = ids_count c.args.reads.now in
    let at = id_at c.args.reads.now k none c.loop-place-test.true in
    let low = rising_place (ids c.args.reads.now) k c.requires.rising (omega (arith, n, c.loop-place-test.true)) in
    omega (arith, at, low)

pub loop-place-preserved : goal.loop-place-preserved
loop-place-preserved c =
    let none : NetId = record { 0 = 0 } in
    let reads = c.args.reads.now in
    let k = c.loop-place.place in
    let net = (get_or reads k none).0 in
    let inv = c.loop-place.invariant in
    let n = ids_count reads in
    let within : k < length (ids reads) = omega (arith, n, c.loop-place-test.true) in
    let there : net < length c.loop-place.places = let h = c.requires.inside k none c.loop-place-test.true in let same = inv.count in omega (arith, h, same) in
    let P : List ℕ → Type 0 = λ places. (i : ℕ) → i < k + 1 → slice_index places (slice_index (ids reads) i) ≡ i in
    record {
      count = ap length c.set_place.ensures ∙ (length-set c.loop-place.places net k ∙ inv.count);
      each = subst P (sym c.set_place.ensures) (places_turn (ids reads) c.loop-place.places k net c.requires.rising there within (id_at reads k none c.loop-place-test.true) inv.each);
    }

pub returns-clause-places : goal.returns-clause-places
returns-clause-places c =
    let reads = c.args.reads.now in
    let n = ids_count reads in
    record {
      inside = subst (λ long. (i m : ℕ) → i < length (ids reads) → get_or (ids reads) i m < long) (sym c.loop-place.invariant.count) (ids_below reads (length c.args.places.now) c.requires.inside);
      each = λ i h. c.loop-place.invariant.each i (omega (arith, n, h, c.loop-place-test.false));
    }
