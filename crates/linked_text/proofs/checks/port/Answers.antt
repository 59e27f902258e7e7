use Rattle.std.proofs.Common.{refl, sym, ap, ◌∙◌, ◌&&◌}
use Rattle.linked_text.specs.EachLine.{port_in, has_word, holds, numbered, worded, has_sink}
use Rattle.linked_text.proofs.Inversions.{goes_on, is_refused, word_agrees, word_differs}
use Rattle.linked_text.proofs.Options.{both_true}
use Rattle.linked_text.proofs.Cuts.{name_sound}
use Rattle.linked_text.specs.Fields.{is_name}
use Rattle.linked_text.proofs.checks.port.Goals as goal

pub from_slice-requires : goal.from_slice-requires
from_slice-requires c =
    let name = c.in-Some.name.now in
    let there = has_sink c.args.sinks.now c.in-Some-count.net c.in-Some-count-2.sink in
    let stands = both_true c.args.period (is_name name && there) (sym c.may_stand.ensures ∙ c.if-not-may_stand.false) in
    name_sound name (both_true (is_name name) there stands.1).0

pub returns-in_default : goal.returns-in_default
unfolding port_in
returns-in_default c = is_refused _ (ap worded c.in_default.ensures)

pub returns-then-ne : goal.returns-then-ne
unfolding port_in
returns-then-ne c = goes_on _ (ap worded c.in-Some.ensures) (is_refused _ (ap has_word (word_differs c.in-Some.word.now c.ne.ensures c.as_slice.ensures c.if-ne.true)))

pub returns-in_default-hold : goal.returns-in_default-hold
unfolding port_in
returns-in_default-hold c = goes_on _ (ap worded c.in-Some.ensures) (goes_on _ (ap has_word (word_agrees c.in-Some.word.now c.ne.ensures c.as_slice.ensures c.if-ne.false)) (is_refused _ (ap worded c.in_default-hold.ensures)))

pub returns-in_default-count : goal.returns-in_default-count
unfolding port_in
returns-in_default-count c = goes_on _ (ap worded c.in-Some.ensures) (goes_on _ (ap has_word (word_agrees c.in-Some.word.now c.ne.ensures c.as_slice.ensures c.if-ne.false)) (goes_on _ (ap worded c.in-Some-hold.ensures) (is_refused _ (ap numbered c.in_default-count.ensures))))

pub returns-in_default-count-2 : goal.returns-in_default-count-2
unfolding port_in
returns-in_default-count-2 c = goes_on _ (ap worded c.in-Some.ensures) (goes_on _ (ap has_word (word_agrees c.in-Some.word.now c.ne.ensures c.as_slice.ensures c.if-ne.false)) (goes_on _ (ap worded c.in-Some-hold.ensures) (goes_on _ (ap numbered c.in-Some-count.ensures) (is_refused _ (ap numbered c.in_default-count-2.ensures)))))

pub returns-in_default-delay_or_dash : goal.returns-in_default-delay_or_dash
unfolding port_in
returns-in_default-delay_or_dash c = goes_on _ (ap worded c.in-Some.ensures) (goes_on _ (ap has_word (word_agrees c.in-Some.word.now c.ne.ensures c.as_slice.ensures c.if-ne.false)) (goes_on _ (ap worded c.in-Some-hold.ensures) (goes_on _ (ap numbered c.in-Some-count.ensures) (goes_on _ (ap numbered c.in-Some-count-2.ensures) (is_refused _ (ap numbered c.in_default-delay_or_dash.ensures))))))

pub returns-in_default-delay_or_dash-2 : goal.returns-in_default-delay_or_dash-2
unfolding port_in
returns-in_default-delay_or_dash-2 c = goes_on _ (ap worded c.in-Some.ensures) (goes_on _ (ap has_word (word_agrees c.in-Some.word.now c.ne.ensures c.as_slice.ensures c.if-ne.false)) (goes_on _ (ap worded c.in-Some-hold.ensures) (goes_on _ (ap numbered c.in-Some-count.ensures) (goes_on _ (ap numbered c.in-Some-count-2.ensures) (goes_on _ (ap numbered c.in-Some-delay_or_dash.ensures) (is_refused _ (ap numbered c.in_default-delay_or_dash-2.ensures)))))))

pub returns-then-not-may_stand : goal.returns-then-not-may_stand
unfolding port_in
returns-then-not-may_stand c = goes_on _ (ap worded c.in-Some.ensures) (goes_on _ (ap has_word (word_agrees c.in-Some.word.now c.ne.ensures c.as_slice.ensures c.if-ne.false)) (goes_on _ (ap worded c.in-Some-hold.ensures) (goes_on _ (ap numbered c.in-Some-count.ensures) (goes_on _ (ap numbered c.in-Some-count-2.ensures) (goes_on _ (ap numbered c.in-Some-delay_or_dash.ensures) (goes_on _ (ap numbered c.in-Some-delay_or_dash-2.ensures) (is_refused _ (ap holds (sym c.may_stand.ensures ∙ c.if-not-may_stand.true)))))))))

pub returns : goal.returns
unfolding port_in
returns c = goes_on _ (ap worded c.in-Some.ensures) (goes_on _ (ap has_word (word_agrees c.in-Some.word.now c.ne.ensures c.as_slice.ensures c.if-ne.false)) (goes_on _ (ap worded c.in-Some-hold.ensures) (goes_on _ (ap numbered c.in-Some-count.ensures) (goes_on _ (ap numbered c.in-Some-count-2.ensures) (goes_on _ (ap numbered c.in-Some-delay_or_dash.ensures) (goes_on _ (ap numbered c.in-Some-delay_or_dash-2.ensures) (goes_on _ (ap holds (sym c.may_stand.ensures ∙ c.if-not-may_stand.false)) (rw c.in_ok-name.ensures refl))))))))
