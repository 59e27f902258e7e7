use Rattle.std.proofs.Common.{◌≡◌, refl, sym, ap, ◌∙◌, to_z, of_z, w64, arith}
use Rattle.std.proofs.lemmas.Int.{ints}
use Rattle.linked_text.specs.EachLine.{bounds_in, has_word, holds, numbered, worded}
use Rattle.linked_text.proofs.Inversions.{goes_on, is_refused, word_agrees, word_differs}
use Rattle.linked_text.proofs.net_lines.bounds.Goals as goal

pub returns-in_default : goal.returns-in_default
unfolding bounds_in
returns-in_default c = is_refused _ (ap worded c.in_default.ensures)

pub returns-then-ne : goal.returns-then-ne
unfolding bounds_in
returns-then-ne c = goes_on _ (ap worded c.in-Some.ensures) (is_refused _ (ap has_word (word_differs c.in-Some.word.now c.ne.ensures c.edge_word.ensures c.if-ne.true)))

pub returns-in_default-quantity : goal.returns-in_default-quantity
unfolding bounds_in
returns-in_default-quantity c = goes_on _ (ap worded c.in-Some.ensures) (goes_on _ (ap has_word (word_agrees c.in-Some.word.now c.ne.ensures c.edge_word.ensures c.if-ne.false)) (is_refused _ (ap numbered c.in_default-quantity.ensures.value)))

pub returns-in_default-quantity-2 : goal.returns-in_default-quantity-2
unfolding bounds_in
returns-in_default-quantity-2 c = goes_on _ (ap worded c.in-Some.ensures) (goes_on _ (ap has_word (word_agrees c.in-Some.word.now c.ne.ensures c.edge_word.ensures c.if-ne.false)) (goes_on _ (ap numbered c.in-Some-quantity.ensures.value) (is_refused _ (ap numbered c.in_default-quantity-2.ensures.value))))

pub returns-in_default-quantity-3 : goal.returns-in_default-quantity-3
unfolding bounds_in
returns-in_default-quantity-3 c = goes_on _ (ap worded c.in-Some.ensures) (goes_on _ (ap has_word (word_agrees c.in-Some.word.now c.ne.ensures c.edge_word.ensures c.if-ne.false)) (goes_on _ (ap numbered c.in-Some-quantity.ensures.value) (goes_on _ (ap numbered c.in-Some-quantity-2.ensures.value) (is_refused _ (ap numbered c.in_default-quantity-3.ensures.value)))))

pub returns-in_default-quantity-4 : goal.returns-in_default-quantity-4
unfolding bounds_in
returns-in_default-quantity-4 c = goes_on _ (ap worded c.in-Some.ensures) (goes_on _ (ap has_word (word_agrees c.in-Some.word.now c.ne.ensures c.edge_word.ensures c.if-ne.false)) (goes_on _ (ap numbered c.in-Some-quantity.ensures.value) (goes_on _ (ap numbered c.in-Some-quantity-2.ensures.value) (goes_on _ (ap numbered c.in-Some-quantity-3.ensures.value) (is_refused _ (ap numbered c.in_default-quantity-4.ensures.value))))))

pub returns : goal.returns
unfolding bounds_in
returns c =
    let tlo : to_z w64 (of_z w64 c.in-Some-quantity.tlo) ≡ c.in-Some-quantity.tlo = omega (arith, ints, c.in-Some-quantity.ensures.low, c.in-Some-quantity.ensures.high) in
    let thi : to_z w64 (of_z w64 c.in-Some-quantity-2.thi) ≡ c.in-Some-quantity-2.thi = omega (arith, ints, c.in-Some-quantity-2.ensures.low, c.in-Some-quantity-2.ensures.high) in
    let slo : to_z w64 (of_z w64 c.in-Some-quantity-3.slo) ≡ c.in-Some-quantity-3.slo = omega (arith, ints, c.in-Some-quantity-3.ensures.low, c.in-Some-quantity-3.ensures.high) in
    let shi : to_z w64 (of_z w64 c.in-Some-quantity-4.shi) ≡ c.in-Some-quantity-4.shi = omega (arith, ints, c.in-Some-quantity-4.ensures.low, c.in-Some-quantity-4.ensures.high) in
    let live = rw (tlo, thi, slo, shi) at (sym c.live.ensures ∙ c.if-not-live.false) in
    rw (tlo, thi, slo, shi) (goes_on _ (ap worded c.in-Some.ensures) (goes_on _ (ap has_word (word_agrees c.in-Some.word.now c.ne.ensures c.edge_word.ensures c.if-ne.false)) (goes_on _ (ap numbered c.in-Some-quantity.ensures.value) (goes_on _ (ap numbered c.in-Some-quantity-2.ensures.value) (goes_on _ (ap numbered c.in-Some-quantity-3.ensures.value) (goes_on _ (ap numbered c.in-Some-quantity-4.ensures.value) (goes_on _ (ap holds live) refl)))))))
