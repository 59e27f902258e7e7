use Rattle.std.proofs.Common.{◌≡◌, ◌∙◌, ap, refl, ℤ, to_z, of_z, w64, arith}
use Rattle.std.proofs.lemmas.Int.{ints}
use Rattle.xt_model.specs.Sound.{IsCap}
use Rattle.miller_bits.specs.Victims.{VictimEdge}
use Rattle.miller_bits.proofs.Sums.{load_is}
use Rattle.miller_bits.proofs.load.load_ranges.Goals as goal

-- a capacitance, as it is stored
kept : (x : ℤ) → IsCap x → to_z w64 (of_z w64 x) ≡ x
kept x k = omega (arith, ints, k.least, k.most)

stored : (x : ℤ) → IsCap x → IsCap (to_z w64 (of_z w64 x))
stored x k = rw (kept x k) k

pub cap_sums-requires : goal.cap_sums-requires
cap_sums-requires g c = c.requires

pub range_with_quarters-requires-clause-load : goal.range_with_quarters-requires-clause-load
range_with_quarters-requires-clause-load g c = stored _ c.a.invariant.sound.load

pub range_with_quarters-requires-clause-quarters : goal.range_with_quarters-requires-clause-quarters
range_with_quarters-requires-clause-quarters g c = c.cap_sums.ensures.a_range

pub range_with_quarters-requires-2-clause-load : goal.range_with_quarters-requires-2-clause-load
range_with_quarters-requires-2-clause-load g c = stored _ c.a.invariant.sound.load

pub range_with_quarters-requires-2-clause-quarters : goal.range_with_quarters-requires-2-clause-quarters
range_with_quarters-requires-2-clause-quarters g c = c.cap_sums.ensures.b_range

pub returns-clause-a_least : goal.returns-clause-a_least
returns-clause-a_least g c =
    let load = kept c.a.inside.net.now.load c.a.invariant.sound.load ∙ ap (λ (v : VictimEdge). v.net.load) c.a.view_is in
    load_is c.args.a.now.least c.args.a.now.net _ _ _ _ _ refl c.range_with_quarters.ensures.least load refl c.cap_sums.ensures.a_least

pub returns-clause-a_greatest : goal.returns-clause-a_greatest
returns-clause-a_greatest g c =
    let load = kept c.a.inside.net.now.load c.a.invariant.sound.load ∙ ap (λ (v : VictimEdge). v.net.load) c.a.view_is in
    load_is c.args.a.now.greatest c.args.a.now.net _ _ _ _ _ refl c.range_with_quarters.ensures.greatest load refl c.cap_sums.ensures.a_greatest

pub returns-clause-b_least : goal.returns-clause-b_least
returns-clause-b_least g c =
    let load = kept c.a.inside.net.now.load c.a.invariant.sound.load ∙ ap (λ (v : VictimEdge). v.net.load) c.a.view_is in
    rw c.requires.net (load_is c.args.b.now.least c.args.a.now.net _ _ _ _ _ refl c.range_with_quarters-2.ensures.least load refl c.cap_sums.ensures.b_least)

pub returns-clause-b_greatest : goal.returns-clause-b_greatest
returns-clause-b_greatest g c =
    let load = kept c.a.inside.net.now.load c.a.invariant.sound.load ∙ ap (λ (v : VictimEdge). v.net.load) c.a.view_is in
    rw c.requires.net (load_is c.args.b.now.greatest c.args.a.now.net _ _ _ _ _ refl c.range_with_quarters-2.ensures.greatest load refl c.cap_sums.ensures.b_greatest)
