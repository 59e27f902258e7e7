use Rattle.std.proofs.Common.{◌≡◌, ◌≤◌, ◌/◌, length, ap, arith}
use Rattle.std.specs.Fmt.{decimal}
use Rattle.std.proofs.lemmas.Fmt.{length-decimal-le}
use Rattle.std.proofs.lemmas.List.{length-append}
use Rattle.xt_number.proofs.digits.short_size.Goals as goal

pub returns-clause-short : goal.returns-clause-short
returns-clause-short c =
    let whole = c.args.size / 1000 in
    let digits : length (decimal whole) ≤ 20 = length-decimal-le 20 whole (omega arith) (omega (arith, c.ranges.size.fits)) (omega (arith, c.ranges.size.fits)) in
    omega (arith, ap length c.put_number.ensures, length-append (decimal whole) c.fraction-digits.result, digits, c.fraction-digits.ensures.length)
