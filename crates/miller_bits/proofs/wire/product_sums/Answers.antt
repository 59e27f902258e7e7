use Rattle.std.proofs.Common.{◌≡◌, ℕ, ◌+◌, ◌*◌, ◌<◌, ◌≤◌, ◌^◌, arith, ap, List, length, ℤ, pos, ◌+ℤ◌, ◌*ℤ◌, ◌≤ℤ◌, SFits, to_z, of_z}
use Rattle.std.specs.Int.{w128}
use Rattle.std.proofs.lemmas.Int.{ints}
use Rattle.xt_model.specs.declared.net.Net.{Net}
use Rattle.xt_model.specs.Limits.{most_couplings}
use Rattle.xt_model.specs.Sound.{IsProduct}
use Rattle.miller_bits.proofs.Sums.{IsSumSoFar, sum_start, sum_turn, sum_stored, sum_end, sum_most, stored_128, coef_of, coef_stored}
use Rattle.miller_bits.proofs.wire.product_sums.Goals as goal

-- a product, as it is stored
stored : (x : ℤ) → IsProduct x → IsProduct (to_z w128 (of_z w128 x))
stored x k = record { least = omega (arith, ints, k.least, k.most); most = omega (arith, ints, k.least, k.most) }

-- the number of a coefficient is far below what a sum has room for
few_more : (xs cs : List ℤ) (n i : ℕ) → xs ≡ cs → length cs ≡ n → n ≤ most_couplings → i < length xs → i + 1 ≤ 1048576
few_more xs cs n i same count few below = let under : i < length cs = rw same at below in omega (arith, count, few, under)

few_all : (xs cs : List ℤ) (n i : ℕ) → xs ≡ cs → length cs ≡ n → n ≤ most_couplings → i ≤ length xs → i ≤ 1048576
few_all xs cs n i same count few within = let under : i ≤ length cs = rw same at within in omega (arith, count, few, under)

-- one more fits beside a sum so far
sum_fits : (ms : List ℕ) (cs : List ℤ) (base : ℤ) (i : ℕ) (sum x : ℤ) → i + 1 ≤ 1048576 → IsSumSoFar ms cs base i sum → pos 0 ≤ℤ x → x ≤ℤ pos (12 * 2 ^ 102) → SFits w128 (sum +ℤ to_z w128 (of_z w128 x))
sum_fits ms cs base i sum x few h low high = omega (arith, ints, few, h.low, h.high, low, high)

-- four times a base, as it is stored
quarters : (x r : ℤ) → IsProduct x → r ≡ pos 4 *ℤ to_z w128 (of_z w128 x) → to_z w128 (of_z w128 r) ≡ pos 4 *ℤ x
quarters x r k is = omega (arith, ints, k.least, k.most, is)

pub in_quarters-base-requires : goal.in_quarters-base-requires
in_quarters-base-requires g c = stored _ c.requires.sink.base

pub loop-index-init : goal.loop-index-init
loop-index-init g c =
    let base = c.requires.sink.base in
    let is = quarters c.args.sink.now.base c.in_quarters-base.result base c.in_quarters-base.ensures.value in
    record {
      a_least = sum_start _ _ _ _ base is;
      a_greatest = sum_start _ _ _ _ base is;
      b_least = sum_start _ _ _ _ base is;
      b_greatest = sum_start _ _ _ _ base is;
    }

pub bounds-coef-items-index : goal.bounds-coef-items-index
bounds-coef-items-index g c = c.loop-index-test.true

pub factors-a_low-requires : goal.factors-a_low-requires
factors-a_low-requires g c =
    let below = rw c.as_slice-coef-items.ensures at c.loop-index-test.true in
    let count = c.requires.sink.count in
    omega (arith, below, count)

pub factors-b_low-requires : goal.factors-b_low-requires
factors-b_low-requires g c =
    let below = rw c.as_slice-coef-items.ensures at c.loop-index-test.true in
    let count = c.requires.sink.count in
    let same = ap (λ (n : Net). length n.couplings) c.requires.net in
    omega (arith, below, count, same)

pub scaled-a_least-requires-clause-factor : goal.scaled-a_least-requires-clause-factor
scaled-a_least-requires-clause-factor g c = c.factors-a_low.ensures.few_least

pub scaled-a_least-requires-clause-coef : goal.scaled-a_least-requires-clause-coef
scaled-a_least-requires-clause-coef g c = stored _ (coef_of _ _ c.loop-index.index c.requires.sink.coefs c.as_slice-coef-items.ensures c.loop-index-test.true)

pub scaled-a_greatest-requires-clause-factor : goal.scaled-a_greatest-requires-clause-factor
scaled-a_greatest-requires-clause-factor g c = c.factors-a_low.ensures.few_greatest

pub scaled-a_greatest-requires-clause-coef : goal.scaled-a_greatest-requires-clause-coef
scaled-a_greatest-requires-clause-coef g c = stored _ (coef_of _ _ c.loop-index.index c.requires.sink.coefs c.as_slice-coef-items.ensures c.loop-index-test.true)

pub scaled-b_least-requires-clause-factor : goal.scaled-b_least-requires-clause-factor
scaled-b_least-requires-clause-factor g c = c.factors-b_low.ensures.few_least

pub scaled-b_least-requires-clause-coef : goal.scaled-b_least-requires-clause-coef
scaled-b_least-requires-clause-coef g c = stored _ (coef_of _ _ c.loop-index.index c.requires.sink.coefs c.as_slice-coef-items.ensures c.loop-index-test.true)

pub scaled-b_greatest-requires-clause-factor : goal.scaled-b_greatest-requires-clause-factor
scaled-b_greatest-requires-clause-factor g c = c.factors-b_low.ensures.few_greatest

pub scaled-b_greatest-requires-clause-coef : goal.scaled-b_greatest-requires-clause-coef
scaled-b_greatest-requires-clause-coef g c = stored _ (coef_of _ _ c.loop-index.index c.requires.sink.coefs c.as_slice-coef-items.ensures c.loop-index-test.true)

pub overflow_add-a_least : goal.overflow_add-a_least
overflow_add-a_least g c =
    let few = few_more _ _ _ _ c.as_slice-coef-items.ensures c.requires.sink.count c.requires.few c.loop-index-test.true in
    sum_fits _ _ _ _ _ c.scaled-a_least.result few c.loop-index.invariant.a_least c.scaled-a_least.ensures.low c.scaled-a_least.ensures.high

pub overflow_add-a_greatest : goal.overflow_add-a_greatest
overflow_add-a_greatest g c =
    let few = few_more _ _ _ _ c.as_slice-coef-items.ensures c.requires.sink.count c.requires.few c.loop-index-test.true in
    sum_fits _ _ _ _ _ c.scaled-a_greatest.result few c.loop-index.invariant.a_greatest c.scaled-a_greatest.ensures.low c.scaled-a_greatest.ensures.high

pub overflow_add-b_least : goal.overflow_add-b_least
overflow_add-b_least g c =
    let few = few_more _ _ _ _ c.as_slice-coef-items.ensures c.requires.sink.count c.requires.few c.loop-index-test.true in
    sum_fits _ _ _ _ _ c.scaled-b_least.result few c.loop-index.invariant.b_least c.scaled-b_least.ensures.low c.scaled-b_least.ensures.high

pub overflow_add-b_greatest : goal.overflow_add-b_greatest
overflow_add-b_greatest g c =
    let few = few_more _ _ _ _ c.as_slice-coef-items.ensures c.requires.sink.count c.requires.few c.loop-index-test.true in
    sum_fits _ _ _ _ _ c.scaled-b_greatest.result few c.loop-index.invariant.b_greatest c.scaled-b_greatest.ensures.low c.scaled-b_greatest.ensures.high

pub loop-index-preserved : goal.loop-index-preserved
loop-index-preserved g c =
    let i = c.loop-index.index in
    let coefs = c.args.sink.now.coefs in
    let base = c.args.sink.now.base in
    let same = c.as_slice-coef-items.ensures in
    let below : i < length coefs = rw same at c.loop-index-test.true in
    let few = few_more _ _ _ _ same c.requires.sink.count c.requires.few c.loop-index-test.true in
    let coef = coef_stored _ _ i c.requires.sink.coefs same c.loop-index-test.true in
    let a_least = sum_turn c.args.a.now.least coefs base i (pos 0) _ c.scaled-a_least.result _ _ below c.factors-a_low.ensures.least coef c.scaled-a_least.ensures.value c.scaled-a_least.ensures.low c.scaled-a_least.ensures.high c.loop-index.invariant.a_least in
    let a_greatest = sum_turn c.args.a.now.greatest coefs base i (pos 0) _ c.scaled-a_greatest.result _ _ below c.factors-a_low.ensures.greatest coef c.scaled-a_greatest.ensures.value c.scaled-a_greatest.ensures.low c.scaled-a_greatest.ensures.high c.loop-index.invariant.a_greatest in
    let b_least = sum_turn c.args.b.now.least coefs base i (pos 0) _ c.scaled-b_least.result _ _ below c.factors-b_low.ensures.least coef c.scaled-b_least.ensures.value c.scaled-b_least.ensures.low c.scaled-b_least.ensures.high c.loop-index.invariant.b_least in
    let b_greatest = sum_turn c.args.b.now.greatest coefs base i (pos 0) _ c.scaled-b_greatest.result _ _ below c.factors-b_low.ensures.greatest coef c.scaled-b_greatest.ensures.value c.scaled-b_greatest.ensures.low c.scaled-b_greatest.ensures.high c.loop-index.invariant.b_greatest in
    record {
      a_least = sum_stored _ _ _ _ _ _ (stored_128 _ _ c.scaled-a_least.ensures.low c.scaled-a_least.ensures.high a_least.low (sum_most _ _ _ _ _ few a_least)) a_least;
      a_greatest = sum_stored _ _ _ _ _ _ (stored_128 _ _ c.scaled-a_greatest.ensures.low c.scaled-a_greatest.ensures.high a_greatest.low (sum_most _ _ _ _ _ few a_greatest)) a_greatest;
      b_least = sum_stored _ _ _ _ _ _ (stored_128 _ _ c.scaled-b_least.ensures.low c.scaled-b_least.ensures.high b_least.low (sum_most _ _ _ _ _ few b_least)) b_least;
      b_greatest = sum_stored _ _ _ _ _ _ (stored_128 _ _ c.scaled-b_greatest.ensures.low c.scaled-b_greatest.ensures.high b_greatest.low (sum_most _ _ _ _ _ few b_greatest)) b_greatest;
    }

pub returns-clause-a_least : goal.returns-clause-a_least
returns-clause-a_least g c = sum_end _ _ _ _ _ (rw c.as_slice-coef-items.ensures at c.loop-index-test.false) c.loop-index.invariant.a_least

pub returns-clause-a_greatest : goal.returns-clause-a_greatest
returns-clause-a_greatest g c = sum_end _ _ _ _ _ (rw c.as_slice-coef-items.ensures at c.loop-index-test.false) c.loop-index.invariant.a_greatest

pub returns-clause-b_least : goal.returns-clause-b_least
returns-clause-b_least g c = sum_end _ _ _ _ _ (rw c.as_slice-coef-items.ensures at c.loop-index-test.false) c.loop-index.invariant.b_least

pub returns-clause-b_greatest : goal.returns-clause-b_greatest
returns-clause-b_greatest g c = sum_end _ _ _ _ _ (rw c.as_slice-coef-items.ensures at c.loop-index-test.false) c.loop-index.invariant.b_greatest

pub returns-clause-a_range : goal.returns-clause-a_range
returns-clause-a_range g c = record {
  least_natural = c.loop-index.invariant.a_least.low;
  greatest_natural = c.loop-index.invariant.a_greatest.low;
  greatest_small =
      sum_most _ _ _ c.loop-index.index _ (few_all _ _ _ _ c.as_slice-coef-items.ensures c.requires.sink.count c.requires.few c.loop-index.auto.index-end) c.loop-index.invariant.a_greatest;
}

pub returns-clause-b_range : goal.returns-clause-b_range
returns-clause-b_range g c = record {
  least_natural = c.loop-index.invariant.b_least.low;
  greatest_natural = c.loop-index.invariant.b_greatest.low;
  greatest_small =
      sum_most _ _ _ c.loop-index.index _ (few_all _ _ _ _ c.as_slice-coef-items.ensures c.requires.sink.count c.requires.few c.loop-index.auto.index-end) c.loop-index.invariant.b_greatest;
}
