use Rattle.std.proofs.Common.{None, refl, ap, ◌∙◌, take}
use Rattle.hier_flatten.specs.Hierarchy.{cells_in}
use Rattle.hier_flatten.proofs.IndexLaws.{not_cell, has_module, left_first, named, further_linked}
use Rattle.hier_flatten.proofs.index.Index.next.Goals as goal

pub returns-in_default-link-clause-next : goal.returns-in_default-link-clause-next
returns-in_default-link-clause-next c = absurd (
    not_cell c.args.self.now c.args.rest.instances.now c.args.rest.links.now _ c.split_at.result.1.now c.split_at-2.result.1.now c.requires
    c.cells_in-count.ensures.count c.split_at.ensures.back c.split_at-2.ensures.back _ c.instance-item.result c.in-len1-up.len_at_least c.instance-item.is
    _ _ c.in-len1-up-links.len_at_least refl c.in_default-link.is)

pub returns-in_default-linked-clause-next : goal.returns-in_default-linked-clause-next
returns-in_default-linked-clause-next c = absurd (
    has_module c.args.self.now c.args.rest.instances.now c.args.rest.links.now _ c.split_at.result.1.now c.split_at-2.result.1.now c.requires
    c.cells_in-count.ensures.count c.split_at.ensures.back c.split_at-2.ensures.back _ c.instance-item.result c.in-len1-up.len_at_least c.instance-item.is
    _ _ c.in-len1-up-links.len_at_least refl
    c.in-Some.number c.in-Some.is c.in_default-linked.ensures)

pub returns-clause-next : goal.returns-clause-next
returns-clause-next c = record {
  first = left_first c.args.self.now c.args.rest.instances.now c.args.rest.links.now _ c.split_at.result.1.now c.split_at-2.result.1.now c.requires
      c.cells_in-count.ensures.count c.split_at.ensures.back c.split_at-2.ensures.back _ c.instance-item.result c.in-len1-up.len_at_least c.instance-item.is
      None _ c.in-len1-up-links.len_at_least refl;
  named = named c.args.self.now c.args.rest.instances.now c.args.rest.links.now _ c.split_at.result.1.now c.split_at-2.result.1.now c.requires
      c.cells_in-count.ensures.count c.split_at.ensures.back c.split_at-2.ensures.back _ c.instance-item.result c.in-len1-up.len_at_least c.instance-item.is
      _ _ c.in-len1-up-links.len_at_least refl
      c.in-Some.number c.in-Some-linked.module.now c.in-Some.is c.in-Some-linked.ensures.0;
  inside = c.as_slice.ensures;
  below = c.in-Some-linked.ensures.1;
  more = further_linked c.args.self.now c.args.rest.instances.now c.args.rest.links.now _ c.split_at.result.1.now c.split_at-2.result.1.now c.requires
      c.cells_in-count.ensures.count c.split_at.ensures.back c.split_at-2.ensures.back _ c.instance-item.result c.in-len1-up.len_at_least c.instance-item.is
      None _ c.in-len1-up-links.len_at_least refl;
}

pub returns-clause-cells : goal.returns-clause-cells
returns-clause-cells c =
    c.split_at.ensures.front
    ∙ ap (λ n. take n c.args.rest.instances.now) (c.cells_in-count.ensures.count ∙ ap cells_in c.requires)
