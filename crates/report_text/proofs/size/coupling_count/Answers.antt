use Rattle.std.proofs.Common.{◌≡◌, ℕ, ◌+◌, ◌≤◌, length, take, get_or, ap, arith}
use Rattle.std.specs.List.{sum_by}
use Rattle.std.proofs.lemmas.List.Sums.{sum_by_more_le}
use Rattle.xt_model.specs.declared.net.Net.{Net}
use Rattle.report_text.proofs.size.coupling_count.Goals as goal

pub overflow_add-count : goal.overflow_add-count
overflow_add-count c =
    let f : Net → ℕ = λ n. length n.couplings in
    let nets = c.nets-net-items.result.now in
    let i = c.loop-net.net-index in
    let x = c.net-item.result in
    let more : sum_by f (take i nets) + f (get_or nets i x) ≤ sum_by f nets = sum_by_more_le f nets i x c.loop-net-test.true in
    let this : f x ≡ f (get_or nets i x) = ap f c.net-item.is in
    let same : sum_by f nets ≡ sum_by f c.args.design.now.nets = ap (sum_by f) c.nets-net-items.ensures.value in
    let most : sum_by f c.args.design.now.nets ≤ 1048576 = c.nets-net-items.ensures.sound.limits.couplings in
    let count : c.loop-net.count ≡ sum_by f (take i nets) = c.loop-net.invariant in
    omega (arith, c.len-count.ensures)
