use Rattle.std.proofs.Common.{◌≡◌, ℕ, ◌+◌, ◌*◌, ap, subst, arith}
use Rattle.std.specs.Prelude.{slice_index}
use Rattle.net_eval.specs.ReadLists.{ids}
use Rattle.chaos_core.proofs.Sparing.{still_windows}
use Rattle.chaos_core.proofs.noted.TwoLoadsTwoTimes.is_still.Goals as goal

pub returns : goal.returns
returns c = λ t.
    let before = c.args.self.now.before.numbers.now in
    let after = c.args.self.now.after.numbers.now in
    let past = c.loop-place-test.false in
    still_windows (ids c.args.self.now.before.reads.now) before after c.args.net.0
    (λ i lt. subst (λ (a : ℕ). slice_index before (a + i) ≡ slice_index after (a + i)) (ap (λ (p : ℕ). 8 * p) c.place-from.ensures.place) (c.loop-place.invariant i (omega (arith, lt, past))))
