use Rattle.std.proofs.Common.{◌≡◌, ◌<◌, ◌∙◌, subst, sym, arith}
use Rattle.design_gen.specs.Taps.{driver_of, pins}
use Rattle.design_gen.specs.Rows.{Seed}
use Rattle.design_gen.proofs.DrawnLaws.{as_many, driver_at}
use Rattle.design_gen.proofs.drawn.Drawn.driver.Goals as goal

pub index-requires : goal.index-requires
index-requires c =
    let P : Seed → Type 0 = λ s. c.args.pin < pins s.nets in
    let h = subst P (sym c.self.view_is) c.requires in
    let l = as_many c.self.inside.number c.self.inside.nets c.self.invariant.parts.count c.self.inside.drivers.items c.self.invariant.parts.are_drivers in
    omega (arith, l, h)

pub returns : goal.returns
returns c =
    let P : Seed → Type 0 = λ s. c.args.pin < pins s.nets in
    let Q : Seed → Type 0 = λ s. c.index.result.now ≡ driver_of s.number s.nets c.args.pin in
    let e = driver_at c.self.inside.number c.self.inside.nets c.self.invariant.parts.count c.self.inside.drivers.items c.self.invariant.parts.are_drivers c.args.pin
    c.index.result.now (subst P (sym c.self.view_is) c.requires) in
    subst Q c.self.view_is (c.index.ensures ∙ e)
