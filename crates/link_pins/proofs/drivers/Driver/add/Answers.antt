use Rattle.std.proofs.Common.{◌∙◌, Some, sym, ap}
use Rattle.link_rules.specs.Pins.{end_of}
use Rattle.link_pins.proofs.DriverLaws.{driver_again, driver_first}
use Rattle.link_pins.proofs.PinLaws.{some_at}
use Rattle.link_pins.proofs.drivers.Driver.add.Goals as goal

pub end_of-requires-clause-there : goal.end_of-requires-clause-there
end_of-requires-clause-there c = rw c.bits.ensures c.requires.there

pub end_of-requires-clause-short : goal.end_of-requires-clause-short
end_of-requires-clause-short c = rw c.bits.ensures c.requires.short

pub returns-then-is_some : goal.returns-then-is_some
returns-then-is_some c = λ ends d at old.
    let both = driver_again c.args.self.now.end ends (end_of d) old.first (sym c.is_some.ensures ∙ c.if-is_some.true) in
    record { first = both.0; twice = both.1 }

pub returns-in_ok-self : goal.returns-in_ok-self
returns-in_ok-self c = λ ends d at old.
    let both = driver_first c.args.self.now.end c.args.self.now.twice ends (end_of d) old.first (sym c.is_some.ensures ∙ c.if-is_some.false) old.twice in
    record { first = c.in_ok-self.ensures ∙ (ap Some (some_at _ _ d at (rw c.bits.ensures at c.in_ok-end_of.ensures)) ∙ both.0); twice = both.1 }
