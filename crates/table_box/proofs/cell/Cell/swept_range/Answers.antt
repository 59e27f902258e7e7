-- No line lies between the slews either.
use Rattle.std.proofs.Common.{◌≡◌, ◌∙◌, ap, ℤ, arith}
use Rattle.std.specs.Int.{int_min, int_max}
use Rattle.std.proofs.lemmas.Int.{ints, clamps}
use Rattle.xt_meaning.specs.Lookup.{span_of}
use Rattle.table_box.specs.Rows.{row_least, row_greatest}
use Rattle.table_box.proofs.Small.{one_cell}
use Rattle.table_box.proofs.Sweeps.{box_of_ends}
use Rattle.table_box.proofs.cell.Cell.swept_range.Goals as goal

alone : (a : ℤ) → (a ≡ int_min a a) × (a ≡ int_max a a)
alone a = (omega (arith, ints, clamps), omega (arith, ints, clamps))

pub returns-then-slews : goal.returns-then-slews
returns-then-slews c =
    let k = c.args.self.now in let r = c.requires.slews in let l = c.requires.ends.loads in let small = c.requires.ends.first in
    let e = c.row_range-start.ensures in let x = c.row_range-start.result in
    let at_from = r.start in let at_to = r.start ∙ ap (span_of k.table.now.slews) (r.single c.if-slews.true) in
    box_of_ends k.table.now small.table _ _ _ _ r.ordered l.ordered _ _ x.0 x.1 x.0 x.1 x.0 x.1 r.first r.last (r.none_between c.requires.inside)
    (e.least ∙ ap (λ s. row_least k.table.now s c.args.loads.now.from c.args.loads.now.to) at_from)
    (e.greatest ∙ ap (λ s. row_greatest k.table.now s c.args.loads.now.from c.args.loads.now.to) at_from)
    (e.least ∙ ap (λ s. row_least k.table.now s c.args.loads.now.from c.args.loads.now.to) at_to)
    (e.greatest ∙ ap (λ s. row_greatest k.table.now s c.args.loads.now.from c.args.loads.now.to) at_to)
    (alone x.0).0 (alone x.1).1

pub row_range-requires-clause-slew : goal.row_range-requires-clause-slew
row_range-requires-clause-slew c =
    let r = c.requires.slews in
    rw c.requires.start (one_cell _ _ _ _ _ c.requires.ends.first.table.slews r.start r.end (r.one_cell c.requires.inside))

pub returns : goal.returns
returns c =
    let k = c.args.self.now in let r = c.requires.slews in let l = c.requires.ends.loads in
    let e = c.row_range-start.ensures in let f = c.row_range.ensures in let x = c.row_range-start.result in let y = c.row_range.result in
    box_of_ends k.table.now c.requires.ends.first.table _ _ _ _ r.ordered l.ordered _ _ x.0 x.1 y.0 y.1 c.joined.result.0 c.joined.result.1 r.first r.last (r.none_between c.requires.inside)
    (e.least ∙ ap (λ s. row_least k.table.now s c.args.loads.now.from c.args.loads.now.to) r.start)
    (e.greatest ∙ ap (λ s. row_greatest k.table.now s c.args.loads.now.from c.args.loads.now.to) r.start)
    (f.least ∙ ap (λ s. row_least k.table.now s c.args.loads.now.from c.args.loads.now.to) r.end)
    (f.greatest ∙ ap (λ s. row_greatest k.table.now s c.args.loads.now.from c.args.loads.now.to) r.end)
    c.joined.ensures.least c.joined.ensures.greatest
