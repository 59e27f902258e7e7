use Rattle.std.proofs.Common.{◌≡◌, ◌<◌, ap, ◌∙◌, subst, sym, length, get_or, arith}
use Rattle.design_gen.specs.Taps.{driver_of, place_of, pins}
use Rattle.design_gen.specs.Rows.{Seed}
use Rattle.design_gen.proofs.Sums.{length-each_below, each_at}
use Rattle.design_gen.proofs.drawn.Drawn.place.Goals as goal

pub index-requires : goal.index-requires
index-requires c =
    let P : Seed → Type 0 = λ s. c.args.pin < pins s.nets in
    let h = subst P (sym c.self.view_is) c.requires in
    let l = ap (λ ps. length ps) c.self.invariant.parts.are_places ∙ length-each_below (place_of (driver_of c.self.inside.number c.self.inside.nets)) (pins c.self.inside.nets) in
    omega (arith, l, h)

pub returns : goal.returns
returns c =
    let P : Seed → Type 0 = λ s. c.args.pin < pins s.nets in
    let Q : Seed → Type 0 = λ s. c.index.result.now ≡ place_of (driver_of s.number s.nets) c.args.pin in
    let e = each_at (place_of (driver_of c.self.inside.number c.self.inside.nets)) (pins c.self.inside.nets) c.args.pin c.index.result.now (subst P (sym c.self.view_is) c.requires) in
    subst Q c.self.view_is (c.index.ensures ∙ (ap (λ ps. get_or ps c.args.pin c.index.result.now) c.self.invariant.parts.are_places ∙ e))
