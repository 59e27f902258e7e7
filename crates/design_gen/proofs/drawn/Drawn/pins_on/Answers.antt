use Rattle.std.proofs.Common.{◌≡◌, ℕ, ◌<◌, ◌≤◌, ◌∙◌, List, length, map, subst, sym, arith}
use Rattle.std.specs.List.{All}
use Rattle.design_gen.specs.Rows.{Seed}
use Rattle.design_gen.specs.Taps.{driver_of, pins, pins_on}
use Rattle.design_gen.proofs.NetLaws.{pins_on_below, pins_on_few}
use Rattle.design_gen.proofs.DrawnLaws.{row_is}
use Rattle.design_gen.proofs.drawn.Drawn.pins_on.Goals as goal

are : (c : goal.After-as_slice) → c.as_slice.result.now ≡ pins_on (driver_of c.args.self.now.number c.args.self.now.nets) c.args.net (pins c.args.self.now.nets)
are c =
    let P : Seed → Type 0 = λ s. c.args.net < s.nets in
    let Q : Seed → Type 0 = λ s. c.as_slice.result.now ≡ pins_on (driver_of s.number s.nets) c.args.net (pins s.nets) in
    let h = subst P (sym c.self.view_is) c.requires in
    let l = c.self.invariant.parts.sink_rows in
    let there : c.args.net < length (map (λ r. r.items) c.self.inside.sinks.rows.items) = omega (arith, h, l) in
    let row = row_is (λ r. r.items) c.self.inside.sinks.rows.items c.args.net c.index.result.now c.as_slice.result.now there c.as_slice.ensures c.index.ensures in
    subst Q c.self.view_is (row ∙ c.self.invariant.parts.are_sinks.each c.args.net there)

pub returns-clause-value : goal.returns-clause-value
returns-clause-value c = are c

pub returns-clause-below : goal.returns-clause-below
returns-clause-below c =
    let P : List ℕ → Type 0 = λ ps. All (λ p. p < pins c.args.self.now.nets) ps in
    subst P (sym (are c)) (pins_on_below (driver_of c.args.self.now.number c.args.self.now.nets) c.args.net (pins c.args.self.now.nets))

pub returns-clause-few : goal.returns-clause-few
returns-clause-few c =
    let P : List ℕ → Type 0 = λ ps. length ps ≤ pins c.args.self.now.nets in
    subst P (sym (are c)) (pins_on_few (driver_of c.args.self.now.number c.args.self.now.nets) c.args.net (pins c.args.self.now.nets))
