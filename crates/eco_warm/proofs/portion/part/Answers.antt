use Rattle.std.proofs.Common.{◌+◌, ◌*◌, ◌/◌, ◌%◌, arith}
use Rattle.eco_warm.proofs.Products.{by_parts, part_past}
use Rattle.eco_warm.proofs.portion.part.Goals as goal

pub returns-in_err-whole : goal.returns-in_err-whole
returns-in_err-whole c = rw c.from_residual.ensures (part_past c.args.coef c.args.left c.args.cap (c.args.coef / c.args.cap * c.args.left) c.requires.some (omega arith) (omega (arith, c.in_err-whole.ensures)))

pub returns-in_err-sum : goal.returns-in_err-sum
returns-in_err-sum c =
    let w = c.in_ok-whole.ensures in
    rw c.from_residual-in_err-sum.ensures (part_past c.args.coef c.args.left c.args.cap (c.in_ok-whole.whole + c.args.coef % c.args.cap * c.args.left / c.args.cap) c.requires.some (omega (arith, w.1)) (omega (arith, c.in_err-sum.ensures)))

pub returns-then-sum-gt-MOST_PRODUCT : goal.returns-then-sum-gt-MOST_PRODUCT
returns-then-sum-gt-MOST_PRODUCT c =
    let w = c.in_ok-whole.ensures in
    let s = c.in_ok-sum.ensures in
    part_past c.args.coef c.args.left c.args.cap c.in_ok-sum.sum c.requires.some (omega (arith, w.1, s.1)) (omega (arith, c.if-sum-gt-MOST_PRODUCT.true))

pub returns : goal.returns
returns c =
    let w = c.in_ok-whole.ensures in
    let s = c.in_ok-sum.ensures in
    let e = by_parts c.args.coef c.args.left c.args.cap c.requires.some in
    (omega (arith, w.1, s.1, e), omega (arith, c.if-sum-gt-MOST_PRODUCT.false))
