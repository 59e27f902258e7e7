use Rattle.std.proofs.Common.{◌∙◌}
use Rattle.std.proofs.lemmas.List.Filters.{dedup_is}
use Rattle.std.proofs.Common.{ap}
use Rattle.net_eval.specs.ReadLists.{ids}
use Rattle.net_eval.proofs.Looks.{list_is}
use Rattle.net_eval.proofs.reads.read_list.Goals as goal

pub returns : goal.returns
returns c = list_is c.args.design.now c.args.own c.net.result.now _ _ _ c.net.ensures.there c.in_ok-look_at.ensures c.sort_unstable.ensures.permutation c.sort_unstable.ensures.sorted
    (ap ids c.from_vec.ensures ∙ (c.in_ok-nets.ensures ∙ (c.as_slice.ensures.value ∙ dedup_is _ _ _ c.dedup.ensures.filtered)))
