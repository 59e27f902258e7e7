use Rattle.std.proofs.Common.{◌≡◌, ◌∙◌, ap, refl, List, [], ◌∷◌, ◌++◌, ℤ, neg_ℤ, to_z-of_z, arith}
use Rattle.std.specs.Prelude.{Result, OnOk}
use Rattle.std.proofs.lemmas.Int.{ints}
use Rattle.std.proofs.lemmas.List.{append_assoc}
use Rattle.std.proofs.lemmas.Result.{on_ok_weaker}
use Rattle.glitch_noise.specs.declared.change.Change.{Change}
use Rattle.glitch_noise.specs.Changes.{change, until_end}
use Rattle.glitch_noise.proofs.changes.push_until.Goals as goal

-- two changes, appended one after the other
two_more : {T E : Type 0} (r : Result T E) (new old before : List Change) (from end cap f e k l : ℤ) → f ≡ from → e ≡ end → k ≡ cap → l ≡ neg_ℤ cap
    → before ≡ old ++ change f k ∷ [] → OnOk r (new ≡ before ++ change e l ∷ []) → OnOk r (new ≡ old ++ until_end from end cap)
two_more r new old before from end cap f e k l is_from is_end is_cap is_less first second =
    let same : change f k ∷ change e l ∷ [] ≡ until_end from end cap = rw (is_from, is_end, is_cap, is_less) refl in
    on_ok_weaker r (λ is. is ∙ (ap (λ (cs : List Change). cs ++ change e l ∷ []) first ∙ (append_assoc old (change f k ∷ []) (change e l ∷ []) ∙ ap (λ (cs : List Change). old ++ cs) same))) second

pub overflow_sub-cap : goal.overflow_sub-cap
overflow_sub-cap c = omega (arith, ints, c.requires.least, c.requires.most)

pub returns : goal.returns
returns c =
    two_more c.push-2.result c.push-2.new.changes.items c.args.changes.now.items c.push.new.changes.items c.args.from c.args.end c.args.cap _ _ _ _ (to_z-of_z c.ranges.from) (to_z-of_z c.ranges.end) (to_z-of_z c.ranges.cap)
    (omega (arith, ints, c.requires.least, c.requires.most)) c.in_ok-push.ensures c.push-2.ensures
