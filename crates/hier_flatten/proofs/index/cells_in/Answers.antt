use Rattle.std.proofs.Common.{refl, rules}
use Rattle.hier_flatten.specs.Hierarchy.{cells_in}
use Rattle.hier_flatten.proofs.RunLaws.{cells_more, cells_end}
use Rattle.hier_flatten.proofs.index.cells_in.Goals as goal

pub returns-then-is_some-clause-count : goal.returns-then-is_some-clause-count
returns-then-is_some-clause-count c =
    cells_end c.links.rest.now _ _ c.links.count (cells_in c.args.links.now) c.is_some.result c.in-len1-up.len_at_least refl
    _ refl c.is_some.ensures c.if-is_some.true c.links.invariant.counted

pub links-preserved : goal.links-preserved
links-preserved c = record {
  counted = cells_more c.links.rest.now _ _ c.links.count (cells_in c.args.links.now) c.is_some.result c.in-len1-up.len_at_least refl
      _ refl c.is_some.ensures c.if-is_some.false c.links.invariant.counted;
  within = search rules;
}
