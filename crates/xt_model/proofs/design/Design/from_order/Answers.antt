use Rattle.std.proofs.Common.{◌∙◌, sym}
use Rattle.xt_model.proofs.OrderLaws.{same_order}
use Rattle.xt_model.proofs.design.Design.from_order.Goals as goal

pub invariant_of-result : goal.invariant_of-result
invariant_of-result c =
    let levels = c.into_rows-levels.ensures.levels in
    let kept = rw (← levels) at c.requires.levels in
    let order = c.into_rows-levels.ensures.order in
    record {
      sound = c.requires.sound;
      are_levels = kept;
      is_order = same_order _ _ _ _ (sym order.count ∙ kept.count) order.is_order;
      is_depth = order.is_depth;
      is_pair_count = c.requires.pairs;
      most_depth = order.most_depth;
      most_pairs = c.requires.few;
    }
