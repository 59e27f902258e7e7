use Rattle.std.proofs.Common.{refl, sym, ap, ◌∙◌}
use Rattle.linked_text.specs.EachLine.{arc_in, has_word, holds, numbered, worded}
use Rattle.linked_text.proofs.Inversions.{goes_on, is_refused}
use Rattle.linked_text.proofs.net_lines.ArcReaderLineReader.read.Goals as goal

pub returns-in_default : goal.returns-in_default
unfolding arc_in
returns-in_default c = is_refused _ (ap worded c.in_default.ensures)

pub returns-then-not-is_arc : goal.returns-then-not-is_arc
unfolding arc_in
returns-then-not-is_arc c = goes_on _ (ap worded c.in-Some.ensures) (is_refused _ (ap has_word (sym c.is_arc.ensures ∙ c.if-not-is_arc.true)))

pub returns-in_default-edge : goal.returns-in_default-edge
unfolding arc_in
returns-in_default-edge c = goes_on _ (ap worded c.in-Some.ensures) (goes_on _ (ap has_word (sym c.is_arc.ensures ∙ c.if-not-is_arc.false)) (is_refused _ (ap worded c.in_default-edge.ensures)))

pub returns-in_default-edge-2 : goal.returns-in_default-edge-2
unfolding arc_in
returns-in_default-edge-2 c = goes_on _ (ap worded c.in-Some.ensures) (goes_on _ (ap has_word (sym c.is_arc.ensures ∙ c.if-not-is_arc.false)) (goes_on _ (ap worded c.in-Some-edge.ensures) (is_refused _ (ap worded c.in_default-edge-2.ensures))))

pub returns-in_default-count : goal.returns-in_default-count
unfolding arc_in
returns-in_default-count c = goes_on _ (ap worded c.in-Some.ensures) (goes_on _ (ap has_word (sym c.is_arc.ensures ∙ c.if-not-is_arc.false)) (goes_on _ (ap worded c.in-Some-edge.ensures) (goes_on _ (ap worded c.in-Some-edge-2.ensures) (is_refused _ (ap numbered c.in_default-count.ensures)))))

pub returns-in_default-count-2 : goal.returns-in_default-count-2
unfolding arc_in
returns-in_default-count-2 c = goes_on _ (ap worded c.in-Some.ensures) (goes_on _ (ap has_word (sym c.is_arc.ensures ∙ c.if-not-is_arc.false)) (goes_on _ (ap worded c.in-Some-edge.ensures) (goes_on _ (ap worded c.in-Some-edge-2.ensures) (goes_on _ (ap numbered c.in-Some-count.ensures) (is_refused _ (ap numbered c.in_default-count-2.ensures))))))

pub returns-in_default-count-3 : goal.returns-in_default-count-3
unfolding arc_in
returns-in_default-count-3 c = goes_on _ (ap worded c.in-Some.ensures) (goes_on _ (ap has_word (sym c.is_arc.ensures ∙ c.if-not-is_arc.false)) (goes_on _ (ap worded c.in-Some-edge.ensures) (goes_on _ (ap worded c.in-Some-edge-2.ensures) (goes_on _ (ap numbered c.in-Some-count.ensures) (goes_on _ (ap numbered c.in-Some-count-2.ensures) (is_refused _ (ap numbered c.in_default-count-3.ensures)))))))

pub returns-in_default-count-4 : goal.returns-in_default-count-4
unfolding arc_in
returns-in_default-count-4 c = goes_on _ (ap worded c.in-Some.ensures) (goes_on _ (ap has_word (sym c.is_arc.ensures ∙ c.if-not-is_arc.false)) (goes_on _ (ap worded c.in-Some-edge.ensures) (goes_on _ (ap worded c.in-Some-edge-2.ensures) (goes_on _ (ap numbered c.in-Some-count.ensures) (goes_on _ (ap numbered c.in-Some-count-2.ensures) (goes_on _ (ap numbered c.in-Some-count-3.ensures) (is_refused _ (ap numbered c.in_default-count-4.ensures))))))))

pub returns-then-not-are_there : goal.returns-then-not-are_there
unfolding arc_in
returns-then-not-are_there c = goes_on _ (ap worded c.in-Some.ensures) (goes_on _ (ap has_word (sym c.is_arc.ensures ∙ c.if-not-is_arc.false)) (goes_on _ (ap worded c.in-Some-edge.ensures) (goes_on _ (ap worded c.in-Some-edge-2.ensures) (goes_on _ (ap numbered c.in-Some-count.ensures) (goes_on _ (ap numbered c.in-Some-count-2.ensures) (goes_on _ (ap numbered c.in-Some-count-3.ensures) (goes_on _ (ap numbered c.in-Some-count-4.ensures) (is_refused _ (ap holds (sym c.are_there.ensures ∙ c.if-not-are_there.true))))))))))

pub returns : goal.returns
unfolding arc_in
returns c = goes_on _ (ap worded c.in-Some.ensures) (goes_on _ (ap has_word (sym c.is_arc.ensures ∙ c.if-not-is_arc.false)) (goes_on _ (ap worded c.in-Some-edge.ensures) (goes_on _ (ap worded c.in-Some-edge-2.ensures) (goes_on _ (ap numbered c.in-Some-count.ensures) (goes_on _ (ap numbered c.in-Some-count-2.ensures) (goes_on _ (ap numbered c.in-Some-count-3.ensures) (goes_on _ (ap numbered c.in-Some-count-4.ensures) (goes_on _ (ap holds (sym c.are_there.ensures ∙ c.if-not-are_there.false)) (refl)))))))))
