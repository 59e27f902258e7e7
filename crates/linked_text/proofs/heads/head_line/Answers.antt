use Rattle.std.proofs.Common.{◌≡◌, refl, sym, ap, ◌∙◌, arith, to_z, of_z, w64}
use Rattle.std.proofs.lemmas.Int.{ints}
use Rattle.linked_text.specs.EachLine.{head_in, has_word, holds, numbered, worded}
use Rattle.linked_text.proofs.Inversions.{all_true, first_false, goes_on, is_refused, last_false}
use Rattle.linked_text.proofs.Cuts.{name_sound}
use Rattle.linked_text.proofs.heads.head_line.Goals as goal

pub from_slice-requires : goal.from_slice-requires
from_slice-requires c = name_sound c.in-Some.name.now (sym c.is_name.ensures ∙ c.if-not-is_name.false)

pub returns-in_default-clause-value : goal.returns-in_default-clause-value
unfolding head_in
returns-in_default-clause-value c = is_refused _ (ap worded c.in_default.ensures)

pub returns-then-not-is_net-clause-value : goal.returns-then-not-is_net-clause-value
unfolding head_in
returns-then-not-is_net-clause-value c = goes_on _ (ap worded c.in-Some.ensures) (is_refused _ (ap has_word (sym c.is_net.ensures ∙ c.if-not-is_net.true)))

pub returns-in_default-kind-clause-value : goal.returns-in_default-kind-clause-value
unfolding head_in
returns-in_default-kind-clause-value c = goes_on _ (ap worded c.in-Some.ensures) (goes_on _ (ap has_word (sym c.is_net.ensures ∙ c.if-not-is_net.false)) (is_refused _ (ap worded c.in_default-kind.ensures)))

pub returns-in_default-quantity-clause-value : goal.returns-in_default-quantity-clause-value
unfolding head_in
returns-in_default-quantity-clause-value c = goes_on _ (ap worded c.in-Some.ensures) (goes_on _ (ap has_word (sym c.is_net.ensures ∙ c.if-not-is_net.false)) (goes_on _ (ap worded c.in-Some-kind.ensures) (is_refused _ (ap numbered c.in_default-quantity.ensures.value))))

pub returns-in_default-count-clause-value : goal.returns-in_default-count-clause-value
unfolding head_in
returns-in_default-count-clause-value c = goes_on _ (ap worded c.in-Some.ensures) (goes_on _ (ap has_word (sym c.is_net.ensures ∙ c.if-not-is_net.false)) (goes_on _ (ap worded c.in-Some-kind.ensures) (goes_on _ (ap numbered c.in-Some-quantity.ensures.value) (is_refused _ (ap numbered c.in_default-count.ensures)))))

pub returns-in_default-count-2-clause-value : goal.returns-in_default-count-2-clause-value
unfolding head_in
returns-in_default-count-2-clause-value c = goes_on _ (ap worded c.in-Some.ensures) (goes_on _ (ap has_word (sym c.is_net.ensures ∙ c.if-not-is_net.false)) (goes_on _ (ap worded c.in-Some-kind.ensures) (goes_on _ (ap numbered c.in-Some-quantity.ensures.value) (goes_on _ (ap numbered c.in-Some-count.ensures) (is_refused _ (ap numbered c.in_default-count-2.ensures))))))

pub returns-in_default-count-3-clause-value : goal.returns-in_default-count-3-clause-value
unfolding head_in
returns-in_default-count-3-clause-value c = goes_on _ (ap worded c.in-Some.ensures) (goes_on _ (ap has_word (sym c.is_net.ensures ∙ c.if-not-is_net.false)) (goes_on _ (ap worded c.in-Some-kind.ensures) (goes_on _ (ap numbered c.in-Some-quantity.ensures.value) (goes_on _ (ap numbered c.in-Some-count.ensures) (goes_on _ (ap numbered c.in-Some-count-2.ensures) (is_refused _ (ap numbered c.in_default-count-3.ensures)))))))

pub returns-then-not-is_name-clause-value : goal.returns-then-not-is_name-clause-value
unfolding head_in
returns-then-not-is_name-clause-value c = goes_on _ (ap worded c.in-Some.ensures) (goes_on _ (ap has_word (sym c.is_net.ensures ∙ c.if-not-is_net.false)) (goes_on _ (ap worded c.in-Some-kind.ensures) (goes_on _ (ap numbered c.in-Some-quantity.ensures.value) (goes_on _ (ap numbered c.in-Some-count.ensures) (goes_on _ (ap numbered c.in-Some-count-2.ensures) (goes_on _ (ap numbered c.in-Some-count-3.ensures) (is_refused _ (ap holds (first_false _ (sym c.is_name.ensures ∙ c.if-not-is_name.true))))))))))

pub returns-then-not-fresh-clause-value : goal.returns-then-not-fresh-clause-value
unfolding head_in
returns-then-not-fresh-clause-value c = goes_on _ (ap worded c.in-Some.ensures) (goes_on _ (ap has_word (sym c.is_net.ensures ∙ c.if-not-is_net.false)) (goes_on _ (ap worded c.in-Some-kind.ensures) (goes_on _ (ap numbered c.in-Some-quantity.ensures.value) (goes_on _ (ap numbered c.in-Some-count.ensures) (goes_on _ (ap numbered c.in-Some-count-2.ensures) (goes_on _ (ap numbered c.in-Some-count-3.ensures) (is_refused _ (ap holds (last_false (sym c.is_name.ensures ∙ c.if-not-is_name.false) (sym c.in_ok-fresh.ensures.fresh ∙ c.if-not-fresh.true))))))))))

pub returns-clause-value : goal.returns-clause-value
unfolding head_in
returns-clause-value c =
    let load : to_z w64 (of_z w64 c.in-Some-quantity.load) ≡ c.in-Some-quantity.load = omega (arith, ints, c.in-Some-quantity.ensures.low, c.in-Some-quantity.ensures.high) in
    goes_on _ (ap worded c.in-Some.ensures) (goes_on _ (ap has_word (sym c.is_net.ensures ∙ c.if-not-is_net.false)) (goes_on _ (ap worded c.in-Some-kind.ensures) (goes_on _ (ap numbered c.in-Some-quantity.ensures.value) (goes_on _ (ap numbered c.in-Some-count.ensures) (goes_on _ (ap numbered c.in-Some-count-2.ensures) (goes_on _ (ap numbered c.in-Some-count-3.ensures) (goes_on _ (ap holds (all_true (sym c.is_name.ensures ∙ c.if-not-is_name.false) (sym c.in_ok-fresh.ensures.fresh ∙ c.if-not-fresh.false))) (rw (c.in_ok-name.ensures, load) refl))))))))
