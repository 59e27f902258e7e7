use Rattle.std.proofs.Common.{ℕ, get_or, rules}
use Rattle.std.proofs.lemmas.Fn.{always_returns_same}
use Rattle.std.proofs.lemmas.List.Sorted.{IsNonDecreasingBy-from_sort_by_key}
use Rattle.xt_model.proofs.OrderLaws.{sorted_is_order}
use Rattle.xt_model.proofs.order.order_by_level.Goals as goal

pub returns : goal.returns
returns c =
    let level : ℕ → ℕ = λ net. get_or c.args.levels.now net 0 in
    let sort = c.in_ok-sort_by_key.ensures in
    sorted_is_order _ _ _ _ c.in_ok-order.ensures sort.permutation
    (IsNonDecreasingBy-from_sort_by_key level _ sort.sorted (λ a r q k. search rules))
    (sort.stable level (always_returns_same _ _ _ (λ a r q k. search rules)))
