use Rattle.std.proofs.Common.{◌≡◌, to_z, of_z, w64, arith}
use Rattle.std.proofs.lemmas.Int.{ints}
use Rattle.std.specs.Int.{w128}
use Rattle.linked_text.proofs.field.quantity.Goals as goal

pub returns-clause-value : goal.returns-clause-value
returns-clause-value c =
    let x : to_z w64 (of_z w64 (to_z w128 (of_z w128 c.in_ok-x.x))) ≡ c.in_ok-x.x = omega (arith, ints, c.in_ok-x.ensures.low, c.in_ok-x.ensures.high) in
    let low : to_z w128 (of_z w128 (to_z w64 (of_z w64 c.args.low))) ≡ c.args.low = omega (arith, ints) in
    let high : to_z w128 (of_z w128 (to_z w64 (of_z w64 c.args.high))) ≡ c.args.high = omega (arith, ints) in
    let read = rw (low, high) at c.in_ok-x.ensures.value in
    rw x read
