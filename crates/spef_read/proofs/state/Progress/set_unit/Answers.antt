use Rattle.std.proofs.Common.{◌+ℤ◌, refl, SFits, w32, to_z-of_z, rules}
use Rattle.spef_read.specs.Meaning.{set_unit}
use Rattle.spef_read.proofs.state.Progress.set_unit.Goals as goal

pub returns-in-Capacitance : goal.returns-in-Capacitance
unfolding set_unit
returns-in-Capacitance c =
    let unit : SFits w32 c.in-Some.power = search rules in
    let number : SFits w32 c.self.inside.power = search rules in
    let both : SFits w32 (c.in-Some.power +ℤ c.self.inside.power) = search rules in
    rw (to_z-of_z unit, to_z-of_z number, to_z-of_z both, ← c.self.view_is, ← c.in-Some.ensures.value, c.in-Capacitance.is) refl

pub returns-in-Resistance : goal.returns-in-Resistance
unfolding set_unit
returns-in-Resistance c =
    let unit : SFits w32 c.in-Some.power = search rules in
    let number : SFits w32 c.self.inside.power = search rules in
    let both : SFits w32 (c.in-Some.power +ℤ c.self.inside.power) = search rules in
    rw (to_z-of_z unit, to_z-of_z number, to_z-of_z both, ← c.self.view_is, ← c.in-Some.ensures.value, c.in-Resistance.is) refl

pub returns-in-Time : goal.returns-in-Time
unfolding set_unit
returns-in-Time c = rw (← c.self.view_is, ← c.in-Some.ensures.value, c.in-Time.is) refl

pub returns-in-Inductance : goal.returns-in-Inductance
unfolding set_unit
returns-in-Inductance c = rw (← c.self.view_is, ← c.in-Some.ensures.value, c.in-Inductance.is) refl
