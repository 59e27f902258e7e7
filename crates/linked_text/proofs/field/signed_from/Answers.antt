use Rattle.std.proofs.Common.{arith}
use Rattle.std.proofs.lemmas.Int.{ints}
use Rattle.linked_text.proofs.field.signed_from.Goals as goal

pub returns-else-n-eq0-clause-below : goal.returns-else-n-eq0-clause-below
returns-else-n-eq0-clause-below c =
    let below = c.in_ok-n-in-45.ensures.below in
    record { low = omega (arith, ints, below, c.requires); high = omega (arith, ints, below, c.requires) }

pub returns-in_ok-n-in_default-clause-below : goal.returns-in_ok-n-in_default-clause-below
returns-in_ok-n-in_default-clause-below c =
    let below = c.in_ok-n-in_default.ensures.below in
    record { low = omega (arith, ints, below, c.requires); high = omega (arith, ints, below, c.requires) }
