use Rattle.std.proofs.Common.{pos, subst, ℤ, to_z, w64, arith}
use Rattle.std.proofs.lemmas.List.{get_or_default}
use Rattle.table_box.specs.Cells.{IsAtMost}
use Rattle.table_box.proofs.Sizes.{size_more, sizes_more}
use Rattle.table_box.proofs.monotone.greatest_size.Goals as goal

pub loop-place-preserved : goal.loop-place-preserved
loop-place-preserved c =
    let inv = c.loop-place.invariant in
    let more = size_more _ _ c.max.result c.max-size.result (c.requires c.loop-place.place (pos 0) c.loop-place-test.true) inv.number inv.least c.max.ensures.value c.max-size.ensures.value in
    record { each = sizes_more _ _ _ _ inv.each more.more more.here; least = more.least; number = more.number }

pub returns-clause-most : goal.returns-clause-most
returns-clause-most c = λ k d h.
    let done = c.loop-place-test.false in
    let size = to_z w64 c.loop-place.size-bits in
    subst (λ (x : ℤ). IsAtMost size x) (get_or_default c.args.numbers.now k (pos 0) d h) (c.loop-place.invariant.each k (omega (arith, done, h)))
