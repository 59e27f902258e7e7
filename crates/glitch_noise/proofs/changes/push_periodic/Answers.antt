use Rattle.std.proofs.Common.{◌≡◌, ◌∙◌, sym, subst, refl, true, false, List, [], ◌∷◌, ◌++◌, ℤ, pos, ◌-ℤ◌, w64, SFits, to_z-of_z, rules, arith}
use Rattle.std.specs.Prelude.{Result, OnOk, int_le}
use Rattle.std.specs.Int.{int_rem_euclid}
use Rattle.std.proofs.lemmas.Int.{ints}
use Rattle.glitch_noise.specs.declared.change.Change.{Change}
use Rattle.glitch_noise.specs.Changes.{change, in_period, periodic_changes}
use Rattle.glitch_noise.proofs.changes.push_periodic.Goals as goal

-- a period or more
whole_one : {T E : Type 0} (r : Result T E) (new old : List Change) (period from end cap p f e k : ℤ) → p ≡ period → f ≡ from → e ≡ end → k ≡ cap → int_le p (e -ℤ f) ≡ true
    → OnOk r (new ≡ old ++ change (pos 0) k ∷ []) → OnOk r (new ≡ old ++ periodic_changes period from end cap)
whole_one r new old period from end cap p f e k is_period is_from is_end is_cap whole h =
    let P : List Change → Type 0 = λ cs. OnOk r (new ≡ old ++ cs) in
    let test : int_le period (end -ℤ from) ≡ true = rw (is_period, is_from, is_end) at whole in
    let same : change (pos 0) k ∷ [] ≡ periodic_changes period from end cap = rw (test, is_cap) refl in
    subst P same h

-- a part of a period
part_one : {T E : Type 0} (r : Result T E) (new old : List Change) (period from end cap p f e k a b : ℤ) → p ≡ period → f ≡ from → e ≡ end → k ≡ cap → int_le p (e -ℤ f) ≡ false
    → a ≡ int_rem_euclid f p → b ≡ int_rem_euclid e p → OnOk r (new ≡ old ++ in_period a b k) → OnOk r (new ≡ old ++ periodic_changes period from end cap)
part_one r new old period from end cap p f e k a b is_period is_from is_end is_cap part is_a is_b h =
    let P : List Change → Type 0 = λ cs. OnOk r (new ≡ old ++ cs) in
    let test : int_le period (end -ℤ from) ≡ false = rw (is_period, is_from, is_end) at part in
    let same : in_period a b k ≡ periodic_changes period from end cap = rw (test, is_a, is_b, is_period, is_from, is_end, is_cap) refl in
    subst P same h

pub in_first-requires : goal.in_first-requires
in_first-requires c = rw (to_z-of_z c.ranges.period) c.requires.period

pub in_first-requires-2 : goal.in_first-requires-2
in_first-requires-2 c = rw (to_z-of_z c.ranges.period) c.requires.period

pub push_in_period-requires : goal.push_in_period-requires
push_in_period-requires c = let k = c.requires.cap in record { least = omega (arith, ints, k.least, k.most); most = omega (arith, ints, k.least, k.most) }

pub returns-then-is_whole : goal.returns-then-is_whole
returns-then-is_whole c =
    whole_one c.push.result c.push.new.changes.items c.args.changes.now.items c.args.period c.args.from c.args.end c.args.cap _ _ _ _ (to_z-of_z c.ranges.period) (to_z-of_z c.ranges.from) (to_z-of_z c.ranges.end) (to_z-of_z c.ranges.cap)
    (sym c.is_whole.ensures ∙ c.if-is_whole.true) c.push.ensures

pub returns : goal.returns
returns c =
    let first : SFits w64 c.in_first.result = search rules in
    let second : SFits w64 c.in_first-2.result = search rules in
    part_one c.push_in_period.result c.push_in_period.new.changes.items c.args.changes.now.items c.args.period c.args.from c.args.end c.args.cap _ _ _ _ _ _ (to_z-of_z c.ranges.period) (to_z-of_z c.ranges.from) (to_z-of_z c.ranges.end) (to_z-of_z c.ranges.cap)
    (sym c.is_whole.ensures ∙ c.if-is_whole.false) (to_z-of_z first ∙ c.in_first.ensures) (to_z-of_z second ∙ c.in_first-2.ensures) c.push_in_period.ensures
