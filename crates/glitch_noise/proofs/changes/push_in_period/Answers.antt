use Rattle.std.proofs.Common.{◌≡◌, ◌∙◌, ap, subst, refl, true, false, List, [], ◌∷◌, ◌++◌, ℤ, pos, neg_ℤ, to_z-of_z, arith}
use Rattle.std.specs.Prelude.{Result, OnOk, int_lt}
use Rattle.std.proofs.lemmas.Int.{ints}
use Rattle.std.proofs.lemmas.List.{append_assoc}
use Rattle.std.proofs.lemmas.Result.{on_ok_weaker}
use Rattle.glitch_noise.specs.declared.change.Change.{Change}
use Rattle.glitch_noise.specs.Changes.{change, until_end, in_period}
use Rattle.glitch_noise.proofs.changes.push_in_period.Goals as goal

-- an end that is after the start
in_one : {T E : Type 0} (r : Result T E) (new old : List Change) (from end cap f e k : ℤ) → f ≡ from → e ≡ end → k ≡ cap → int_lt f e ≡ true
    → OnOk r (new ≡ old ++ until_end f e k) → OnOk r (new ≡ old ++ in_period from end cap)
in_one r new old from end cap f e k is_from is_end is_cap after h =
    let P : List Change → Type 0 = λ cs. OnOk r (new ≡ old ++ cs) in
    let test : int_lt from end ≡ true = rw (is_from, is_end) at after in
    let same : until_end f e k ≡ in_period from end cap = rw (test, is_from, is_end, is_cap) refl in
    subst P same h

-- three changes, appended one after the other, where the end is not after the start
three_more : {T E : Type 0} (r : Result T E) (new old one two : List Change) (from end cap f e k l : ℤ) → f ≡ from → e ≡ end → k ≡ cap → l ≡ neg_ℤ cap → int_lt f e ≡ false
    → one ≡ old ++ change (pos 0) k ∷ [] → two ≡ one ++ change e l ∷ [] → OnOk r (new ≡ two ++ change f k ∷ []) → OnOk r (new ≡ old ++ in_period from end cap)
three_more r new old one two from end cap f e k l is_from is_end is_cap is_less not_after first second third =
    let test : int_lt from end ≡ false = rw (is_from, is_end) at not_after in
    let same : change (pos 0) k ∷ change e l ∷ change f k ∷ [] ≡ in_period from end cap = rw (test, is_from, is_end, is_cap, is_less) refl in
    let both : two ≡ old ++ change (pos 0) k ∷ change e l ∷ [] = second ∙ (ap (λ (cs : List Change). cs ++ change e l ∷ []) first ∙ append_assoc old (change (pos 0) k ∷ []) (change e l ∷ [])) in
    on_ok_weaker r (λ is. is ∙ (ap (λ (cs : List Change). cs ++ change f k ∷ []) both ∙ (append_assoc old (change (pos 0) k ∷ change e l ∷ []) (change f k ∷ []) ∙ ap (λ (cs : List Change). old ++ cs) same))) third

pub overflow_sub-cap : goal.overflow_sub-cap
overflow_sub-cap c = omega (arith, ints, c.requires.least, c.requires.most)

pub push_until-requires : goal.push_until-requires
push_until-requires c = record { least = omega (arith, ints, c.requires.least, c.requires.most); most = omega (arith, ints, c.requires.least, c.requires.most) }

pub returns-then-from-end : goal.returns-then-from-end
returns-then-from-end c =
    in_one c.push_until.result c.push_until.new.changes.items c.args.changes.now.items c.args.from c.args.end c.args.cap _ _ _ (to_z-of_z c.ranges.from) (to_z-of_z c.ranges.end) (to_z-of_z c.ranges.cap)
    c.if-from-end.true c.push_until.ensures

pub returns : goal.returns
returns c =
    three_more c.push-3.result c.push-3.new.changes.items c.args.changes.now.items c.push.new.changes.items c.push-2.new.changes.items c.args.from c.args.end c.args.cap _ _ _ _ (to_z-of_z c.ranges.from) (to_z-of_z c.ranges.end) (to_z-of_z c.ranges.cap)
    (omega (arith, ints, c.requires.least, c.requires.most)) c.if-from-end.false c.in_ok-push.ensures c.in_ok-push-2.ensures c.push-3.ensures
