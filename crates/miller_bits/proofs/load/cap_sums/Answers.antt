use Rattle.std.proofs.Common.{◌≡◌, ◌<◌, ◌^◌, ◌∙◌, ap, arith, length, ℤ, pos, ◌+ℤ◌, ◌≤ℤ◌, SFits, to_z, of_z, w64}
use Rattle.std.proofs.lemmas.Int.{ints}
use Rattle.xt_model.specs.declared.net.Coupling.{Coupling}
use Rattle.xt_model.specs.Sound.{IsCap}
use Rattle.xt_meaning.specs.Wires.{cap_sum}
use Rattle.miller_bits.specs.Victims.{VictimEdge}
use Rattle.miller_bits.proofs.Sums.{cap_start, cap_end, cap_turn, cap_stored, stored_64, cap_at}
use Rattle.miller_bits.proofs.load.cap_sums.Goals as goal

abbrev no_coupling : Coupling
no_coupling = record { to = record { 0 = 0 }; cap = pos 0 }

-- a capacitance, as it is stored
kept : (x : ℤ) → IsCap x → to_z w64 (of_z w64 x) ≡ x
kept x k = omega (arith, ints, k.least, k.most)

stored : (x : ℤ) → IsCap x → IsCap (to_z w64 (of_z w64 x))
stored x k = rw (kept x k) k

-- one more fits beside a sum so far
sum_fits : (sum x : ℤ) → pos 0 ≤ℤ sum → sum ≤ℤ pos (2 ^ 50) → pos 0 ≤ℤ x → x ≤ℤ pos (2 ^ 50) → SFits w64 (sum +ℤ to_z w64 (of_z w64 x))
sum_fits sum x low high x_low x_high = omega (arith, ints, low, high, x_low, x_high)

pub scaled-a_least-requires-clause-cap : goal.scaled-a_least-requires-clause-cap
scaled-a_least-requires-clause-cap g c =
    let v = c.a.inside in
    stored _ (cap_at v.design.now v.number.0 v.net.now _ c.loop-index.index no_coupling c.a.invariant.sound c.as_slice-coupling-items.ensures c.loop-index-test.true)

pub scaled-a_greatest-requires-clause-cap : goal.scaled-a_greatest-requires-clause-cap
scaled-a_greatest-requires-clause-cap g c =
    let v = c.a.inside in
    stored _ (cap_at v.design.now v.number.0 v.net.now _ c.loop-index.index no_coupling c.a.invariant.sound c.as_slice-coupling-items.ensures c.loop-index-test.true)

pub scaled-b_least-requires-clause-cap : goal.scaled-b_least-requires-clause-cap
scaled-b_least-requires-clause-cap g c =
    let v = c.a.inside in
    stored _ (cap_at v.design.now v.number.0 v.net.now _ c.loop-index.index no_coupling c.a.invariant.sound c.as_slice-coupling-items.ensures c.loop-index-test.true)

pub scaled-b_greatest-requires-clause-cap : goal.scaled-b_greatest-requires-clause-cap
scaled-b_greatest-requires-clause-cap g c =
    let v = c.a.inside in
    stored _ (cap_at v.design.now v.number.0 v.net.now _ c.loop-index.index no_coupling c.a.invariant.sound c.as_slice-coupling-items.ensures c.loop-index-test.true)

pub loop-index-preserved : goal.loop-index-preserved
loop-index-preserved g c =
    let v = c.a.inside in
    let s = c.a.invariant.sound in
    let ks = c.as_slice-coupling-items.result.now in
    let same = c.as_slice-coupling-items.ensures in
    let i = c.loop-index.index in
    let k = cap_at v.design.now v.number.0 v.net.now _ i no_coupling s same c.loop-index-test.true in
    let a_least = cap_turn v.design.now v.number.0 v.net.now c.args.a.now.least ks i no_coupling _ c.scaled-a_least.result _ _ s
    c.factors-a_low.ensures.few_least same c.loop-index-test.true c.factors-a_low.ensures.least (kept _ k) c.scaled-a_least.ensures.value c.loop-index.invariant.a_least in
    let a_greatest = cap_turn v.design.now v.number.0 v.net.now c.args.a.now.greatest ks i no_coupling _ c.scaled-a_greatest.result _ _ s
    c.factors-a_low.ensures.few_greatest same c.loop-index-test.true c.factors-a_low.ensures.greatest (kept _ k) c.scaled-a_greatest.ensures.value c.loop-index.invariant.a_greatest in
    let b_least = cap_turn v.design.now v.number.0 v.net.now c.args.b.now.least ks i no_coupling _ c.scaled-b_least.result _ _ s
    c.factors-b_low.ensures.few_least same c.loop-index-test.true c.factors-b_low.ensures.least (kept _ k) c.scaled-b_least.ensures.value c.loop-index.invariant.b_least in
    let b_greatest = cap_turn v.design.now v.number.0 v.net.now c.args.b.now.greatest ks i no_coupling _ c.scaled-b_greatest.result _ _ s
    c.factors-b_low.ensures.few_greatest same c.loop-index-test.true c.factors-b_low.ensures.greatest (kept _ k) c.scaled-b_greatest.ensures.value c.loop-index.invariant.b_greatest in
    record {
      a_least = cap_stored _ _ _ _ _ (stored_64 _ _ c.scaled-a_least.ensures.low c.scaled-a_least.ensures.high a_least.low a_least.high) a_least;
      a_greatest = cap_stored _ _ _ _ _ (stored_64 _ _ c.scaled-a_greatest.ensures.low c.scaled-a_greatest.ensures.high a_greatest.low a_greatest.high) a_greatest;
      b_least = cap_stored _ _ _ _ _ (stored_64 _ _ c.scaled-b_least.ensures.low c.scaled-b_least.ensures.high b_least.low b_least.high) b_least;
      b_greatest = cap_stored _ _ _ _ _ (stored_64 _ _ c.scaled-b_greatest.ensures.low c.scaled-b_greatest.ensures.high b_greatest.low b_greatest.high) b_greatest;
    }

pub returns-clause-a_least : goal.returns-clause-a_least
returns-clause-a_least g c =
    let is : c.as_slice-coupling-items.result.now ≡ c.args.a.now.net.couplings = c.as_slice-coupling-items.ensures ∙ ap (λ (v : VictimEdge). v.net.couplings) c.a.view_is in
    cap_end _ _ _ _ c.loop-index-test.false c.loop-index.invariant.a_least ∙ ap (cap_sum c.args.a.now.least) is

pub returns-clause-a_greatest : goal.returns-clause-a_greatest
returns-clause-a_greatest g c =
    let is : c.as_slice-coupling-items.result.now ≡ c.args.a.now.net.couplings = c.as_slice-coupling-items.ensures ∙ ap (λ (v : VictimEdge). v.net.couplings) c.a.view_is in
    cap_end _ _ _ _ c.loop-index-test.false c.loop-index.invariant.a_greatest ∙ ap (cap_sum c.args.a.now.greatest) is

pub returns-clause-b_least : goal.returns-clause-b_least
returns-clause-b_least g c =
    let is : c.as_slice-coupling-items.result.now ≡ c.args.a.now.net.couplings = c.as_slice-coupling-items.ensures ∙ ap (λ (v : VictimEdge). v.net.couplings) c.a.view_is in
    cap_end _ _ _ _ c.loop-index-test.false c.loop-index.invariant.b_least ∙ ap (cap_sum c.args.b.now.least) is

pub returns-clause-b_greatest : goal.returns-clause-b_greatest
returns-clause-b_greatest g c =
    let is : c.as_slice-coupling-items.result.now ≡ c.args.a.now.net.couplings = c.as_slice-coupling-items.ensures ∙ ap (λ (v : VictimEdge). v.net.couplings) c.a.view_is in
    cap_end _ _ _ _ c.loop-index-test.false c.loop-index.invariant.b_greatest ∙ ap (cap_sum c.args.b.now.greatest) is

pub loop-index-init : goal.loop-index-init
loop-index-init g c = record { a_least = cap_start _ _; a_greatest = cap_start _ _; b_least = cap_start _ _; b_greatest = cap_start _ _ }

pub bounds-coupling-items-index : goal.bounds-coupling-items-index
bounds-coupling-items-index g c = c.loop-index-test.true

pub factors-a_low-requires : goal.factors-a_low-requires
factors-a_low-requires g c =
    let is : c.as_slice-coupling-items.result.now ≡ c.args.a.now.net.couplings = c.as_slice-coupling-items.ensures ∙ ap (λ (v : VictimEdge). v.net.couplings) c.a.view_is in
    rw is at c.loop-index-test.true

pub factors-b_low-requires : goal.factors-b_low-requires
factors-b_low-requires g c =
    let is : c.as_slice-coupling-items.result.now ≡ c.args.a.now.net.couplings = c.as_slice-coupling-items.ensures ∙ ap (λ (v : VictimEdge). v.net.couplings) c.a.view_is in
    let below : c.loop-index.index < length c.args.a.now.net.couplings = rw is at c.loop-index-test.true in
    rw c.requires.net below

pub returns-clause-a_range : goal.returns-clause-a_range
returns-clause-a_range g c = record {
  least_natural = c.loop-index.invariant.a_least.low;
  least_small = c.loop-index.invariant.a_least.high;
  greatest_natural = c.loop-index.invariant.a_greatest.low;
  greatest_small = c.loop-index.invariant.a_greatest.high;
}

pub returns-clause-b_range : goal.returns-clause-b_range
returns-clause-b_range g c = record {
  least_natural = c.loop-index.invariant.b_least.low;
  least_small = c.loop-index.invariant.b_least.high;
  greatest_natural = c.loop-index.invariant.b_greatest.low;
  greatest_small = c.loop-index.invariant.b_greatest.high;
}

pub scaled-a_least-requires-clause-factor : goal.scaled-a_least-requires-clause-factor
scaled-a_least-requires-clause-factor g c = c.factors-a_low.ensures.few_least

pub overflow_add-a_least : goal.overflow_add-a_least
overflow_add-a_least g c =
    let sum = c.loop-index.invariant.a_least in
    sum_fits _ c.scaled-a_least.result sum.low sum.high c.scaled-a_least.ensures.low c.scaled-a_least.ensures.high

pub scaled-a_greatest-requires-clause-factor : goal.scaled-a_greatest-requires-clause-factor
scaled-a_greatest-requires-clause-factor g c = c.factors-a_low.ensures.few_greatest

pub overflow_add-a_greatest : goal.overflow_add-a_greatest
overflow_add-a_greatest g c =
    let sum = c.loop-index.invariant.a_greatest in
    sum_fits _ c.scaled-a_greatest.result sum.low sum.high c.scaled-a_greatest.ensures.low c.scaled-a_greatest.ensures.high

pub scaled-b_least-requires-clause-factor : goal.scaled-b_least-requires-clause-factor
scaled-b_least-requires-clause-factor g c = c.factors-b_low.ensures.few_least

pub overflow_add-b_least : goal.overflow_add-b_least
overflow_add-b_least g c =
    let sum = c.loop-index.invariant.b_least in
    sum_fits _ c.scaled-b_least.result sum.low sum.high c.scaled-b_least.ensures.low c.scaled-b_least.ensures.high

pub scaled-b_greatest-requires-clause-factor : goal.scaled-b_greatest-requires-clause-factor
scaled-b_greatest-requires-clause-factor g c = c.factors-b_low.ensures.few_greatest

pub overflow_add-b_greatest : goal.overflow_add-b_greatest
overflow_add-b_greatest g c =
    let sum = c.loop-index.invariant.b_greatest in
    sum_fits _ c.scaled-b_greatest.result sum.low sum.high c.scaled-b_greatest.ensures.low c.scaled-b_greatest.ensures.high
