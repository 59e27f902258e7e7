use Rattle.std.proofs.Common.{◌∙◌, ap}
use Rattle.miller_bits.proofs.Sums.{least_of_all, greatest_of_all}
use Rattle.miller_bits.proofs.victim.Victim.factors.Goals as goal

pub returns-in-All-clause-least : goal.returns-in-All-clause-least
returns-in-All-clause-least g c =
    let v = c.self.inside in
    rw (← c.self.view_is, c.in-All.is) (least_of_all v.design.now.miller v.number.0 v.edge v.net.now.couplings c.args.coupling _ (rw (← c.self.view_is) at c.requires) (c.widest_factors.ensures.least ∙ ap (λ m. m.low) c.miller.ensures.value))

pub returns-in-All-clause-greatest : goal.returns-in-All-clause-greatest
returns-in-All-clause-greatest g c =
    let v = c.self.inside in
    rw (← c.self.view_is, c.in-All.is) (greatest_of_all v.design.now.miller v.number.0 v.edge v.net.now.couplings c.args.coupling _ (rw (← c.self.view_is) at c.requires) (c.widest_factors.ensures.greatest ∙ ap (λ m. m.high) c.miller.ensures.value))
