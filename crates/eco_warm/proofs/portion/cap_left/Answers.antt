use Rattle.std.proofs.Common.{arith}
use Rattle.std.proofs.lemmas.Int.{ints, clamps}
use Rattle.eco_warm.specs.declared.edit.Move.TheVariants.{ToGround}
use Rattle.eco_warm.specs.Possible.{IsMove}
use Rattle.eco_warm.proofs.portion.cap_left.Goals as goal

pub returns-in-ToGround-clause-range : goal.returns-in-ToGround-clause-range
returns-in-ToGround-clause-range c =
    let h : IsMove (ToGround c.in-ToGround.by) = rw c.in-ToGround.is at c.requires.moving in
    let k = c.requires.cap in
    let m = c.min.ensures.value in
    record { least = omega (arith, ints, clamps, h.least, h.most, k.least, k.most, m); most = omega (arith, ints, clamps, h.least, h.most, k.least, k.most, m) }
