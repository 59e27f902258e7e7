use Rattle.std.proofs.Common.{sym, subst, List, rules}
use Rattle.std.specs.List.Sorted.{IsPermutation}
use Rattle.std.proofs.lemmas.Fn.{always_returns_same}
use Rattle.glitch_noise.specs.declared.change.Change.{Change}
use Rattle.glitch_noise.specs.Changes.{Ascend}
use Rattle.glitch_noise.proofs.Sweeping.{best_in_order}
use Rattle.glitch_noise.proofs.Sorting.{ascend_sorted}
use Rattle.glitch_noise.proofs.sweep.best_of.Goals as goal

pub sweep-requires : goal.sweep-requires
sweep-requires c =
    subst Ascend (sym c.as_slice.ensures.value) (ascend_sorted _ (c.sort_unstable_by_key.ensures.sorted (λ x. x.at) (always_returns_same _ _ _ (λ a r q k. search rules))))

pub returns : goal.returns
returns c =
    let P : List Change → Type 0 = λ cs. IsPermutation c.args.changes.now.items cs in
    best_in_order c.args.changes.now.items c.as_slice.result.now c.sweep.result.sum c.sweep.result.moment (subst P (sym c.as_slice.ensures.value) c.sort_unstable_by_key.ensures.permutation) c.sweep.ensures
