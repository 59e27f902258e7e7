use Rattle.std.proofs.Common.{SFits, w32, to_z-of_z, rules}
use Rattle.liberty_tables.proofs.units.cap_unit.Goals as goal

pub returns-in-Some-scaled_unit-clause-bounds : goal.returns-in-Some-scaled_unit-clause-bounds
returns-in-Some-scaled_unit-clause-bounds c =
    let fits : SFits w32 c.in-Some-scaled_unit.scale = search rules in
    rw (to_z-of_z fits) c.in-Some-scaled_unit.ensures.bounds
