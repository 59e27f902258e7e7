use Rattle.net_eval.specs.ReadLists.{ids}
use Rattle.chaos_core.proofs.Places.{id_at}
use Rattle.chaos_core.proofs.Recalled.{numbers_more}
use Rattle.chaos_core.proofs.looked.Looked.has_numbers.Goals as goal

pub loop-place-preserved : goal.loop-place-preserved
loop-place-preserved c =
    let place = c.loop-place.place in
    let reads = c.args.reads.now in
    numbers_more c.args.self.now.windows.now (ids reads) c.args.numbers.now place _ c.pair-pair.result (id_at reads place (record { 0 = 0 }) c.loop-place-test.true) c.pair-pair.ensures.value c.pair-pair.ensures.in_range
    (c.are_from.ensures c.if-not-are_from.false) c.loop-place.invariant
