use Rattle.std.proofs.Common.{refl, sym, ap, ◌∙◌, ◌&&◌}
use Rattle.linked_text.specs.EachLine.{flop_in, has_word, holds, numbered, worded, has_sink}
use Rattle.linked_text.proofs.Inversions.{goes_on, is_refused, word_agrees, word_differs}
use Rattle.linked_text.proofs.Options.{both_true}
use Rattle.linked_text.proofs.Cuts.{name_sound}
use Rattle.linked_text.specs.Fields.{is_name}
use Rattle.linked_text.proofs.checks.flop.Goals as goal

pub from_slice-requires : goal.from_slice-requires
from_slice-requires c =
    let name = c.in-Some.name.now in
    let there = has_sink c.args.sinks.now c.in-Some-count.datum c.in-Some-count-2.datum_sink in
    let stands = both_true c.args.period (is_name name && there) (sym c.may_stand.ensures ∙ c.if-not-may_stand.false) in
    name_sound name (both_true (is_name name) there stands.1).0

pub returns-in_default : goal.returns-in_default
unfolding flop_in
returns-in_default c = is_refused _ (ap worded c.in_default.ensures)

pub returns-then-ne : goal.returns-then-ne
unfolding flop_in
returns-then-ne c = goes_on _ (ap worded c.in-Some.ensures) (is_refused _ (ap has_word (word_differs c.in-Some.word.now c.ne.ensures c.as_slice.ensures c.if-ne.true)))

pub returns-in_default-hold : goal.returns-in_default-hold
unfolding flop_in
returns-in_default-hold c = goes_on _ (ap worded c.in-Some.ensures) (goes_on _ (ap has_word (word_agrees c.in-Some.word.now c.ne.ensures c.as_slice.ensures c.if-ne.false)) (is_refused _ (ap worded c.in_default-hold.ensures)))

pub returns-in_default-count : goal.returns-in_default-count
unfolding flop_in
returns-in_default-count c = goes_on _ (ap worded c.in-Some.ensures) (goes_on _ (ap has_word (word_agrees c.in-Some.word.now c.ne.ensures c.as_slice.ensures c.if-ne.false)) (goes_on _ (ap worded c.in-Some-hold.ensures) (is_refused _ (ap numbered c.in_default-count.ensures))))

pub returns-in_default-count-2 : goal.returns-in_default-count-2
unfolding flop_in
returns-in_default-count-2 c = goes_on _ (ap worded c.in-Some.ensures) (goes_on _ (ap has_word (word_agrees c.in-Some.word.now c.ne.ensures c.as_slice.ensures c.if-ne.false)) (goes_on _ (ap worded c.in-Some-hold.ensures) (goes_on _ (ap numbered c.in-Some-count.ensures) (is_refused _ (ap numbered c.in_default-count-2.ensures)))))

pub returns-in_default-count-3 : goal.returns-in_default-count-3
unfolding flop_in
returns-in_default-count-3 c = goes_on _ (ap worded c.in-Some.ensures) (goes_on _ (ap has_word (word_agrees c.in-Some.word.now c.ne.ensures c.as_slice.ensures c.if-ne.false)) (goes_on _ (ap worded c.in-Some-hold.ensures) (goes_on _ (ap numbered c.in-Some-count.ensures) (goes_on _ (ap numbered c.in-Some-count-2.ensures) (is_refused _ (ap numbered c.in_default-count-3.ensures))))))

pub returns-in_default-count-4 : goal.returns-in_default-count-4
unfolding flop_in
returns-in_default-count-4 c = goes_on _ (ap worded c.in-Some.ensures) (goes_on _ (ap has_word (word_agrees c.in-Some.word.now c.ne.ensures c.as_slice.ensures c.if-ne.false)) (goes_on _ (ap worded c.in-Some-hold.ensures) (goes_on _ (ap numbered c.in-Some-count.ensures) (goes_on _ (ap numbered c.in-Some-count-2.ensures) (goes_on _ (ap numbered c.in-Some-count-3.ensures) (is_refused _ (ap numbered c.in_default-count-4.ensures)))))))

pub returns-in_default-table_or_dash : goal.returns-in_default-table_or_dash
unfolding flop_in
returns-in_default-table_or_dash c = goes_on _ (ap worded c.in-Some.ensures) (goes_on _ (ap has_word (word_agrees c.in-Some.word.now c.ne.ensures c.as_slice.ensures c.if-ne.false)) (goes_on _ (ap worded c.in-Some-hold.ensures) (goes_on _ (ap numbered c.in-Some-count.ensures) (goes_on _ (ap numbered c.in-Some-count-2.ensures) (goes_on _ (ap numbered c.in-Some-count-3.ensures) (goes_on _ (ap numbered c.in-Some-count-4.ensures) (is_refused _ (ap numbered c.in_default-table_or_dash.ensures))))))))

pub returns-in_default-table_or_dash-2 : goal.returns-in_default-table_or_dash-2
unfolding flop_in
returns-in_default-table_or_dash-2 c = goes_on _ (ap worded c.in-Some.ensures) (goes_on _ (ap has_word (word_agrees c.in-Some.word.now c.ne.ensures c.as_slice.ensures c.if-ne.false)) (goes_on _ (ap worded c.in-Some-hold.ensures) (goes_on _ (ap numbered c.in-Some-count.ensures) (goes_on _ (ap numbered c.in-Some-count-2.ensures) (goes_on _ (ap numbered c.in-Some-count-3.ensures) (goes_on _ (ap numbered c.in-Some-count-4.ensures) (goes_on _ (ap numbered c.in-Some-table_or_dash.ensures) (is_refused _ (ap numbered c.in_default-table_or_dash-2.ensures)))))))))

pub returns-then-not-may_stand : goal.returns-then-not-may_stand
unfolding flop_in
returns-then-not-may_stand c = goes_on _ (ap worded c.in-Some.ensures) (goes_on _ (ap has_word (word_agrees c.in-Some.word.now c.ne.ensures c.as_slice.ensures c.if-ne.false)) (goes_on _ (ap worded c.in-Some-hold.ensures) (goes_on _ (ap numbered c.in-Some-count.ensures) (goes_on _ (ap numbered c.in-Some-count-2.ensures) (goes_on _ (ap numbered c.in-Some-count-3.ensures) (goes_on _ (ap numbered c.in-Some-count-4.ensures) (goes_on _ (ap numbered c.in-Some-table_or_dash.ensures) (goes_on _ (ap numbered c.in-Some-table_or_dash-2.ensures) (is_refused _ (ap holds (sym c.may_stand.ensures ∙ c.if-not-may_stand.true)))))))))))

pub returns-then-not-has_sink : goal.returns-then-not-has_sink
unfolding flop_in
returns-then-not-has_sink c = goes_on _ (ap worded c.in-Some.ensures) (goes_on _ (ap has_word (word_agrees c.in-Some.word.now c.ne.ensures c.as_slice.ensures c.if-ne.false)) (goes_on _ (ap worded c.in-Some-hold.ensures) (goes_on _ (ap numbered c.in-Some-count.ensures) (goes_on _ (ap numbered c.in-Some-count-2.ensures) (goes_on _ (ap numbered c.in-Some-count-3.ensures) (goes_on _ (ap numbered c.in-Some-count-4.ensures) (goes_on _ (ap numbered c.in-Some-table_or_dash.ensures) (goes_on _ (ap numbered c.in-Some-table_or_dash-2.ensures) (goes_on _ (ap holds (sym c.may_stand.ensures ∙ c.if-not-may_stand.false)) (is_refused _ (ap holds (sym c.has_sink.ensures ∙ c.if-not-has_sink.true))))))))))))

pub returns-then-not-have_tables : goal.returns-then-not-have_tables
unfolding flop_in
returns-then-not-have_tables c = goes_on _ (ap worded c.in-Some.ensures) (goes_on _ (ap has_word (word_agrees c.in-Some.word.now c.ne.ensures c.as_slice.ensures c.if-ne.false)) (goes_on _ (ap worded c.in-Some-hold.ensures) (goes_on _ (ap numbered c.in-Some-count.ensures) (goes_on _ (ap numbered c.in-Some-count-2.ensures) (goes_on _ (ap numbered c.in-Some-count-3.ensures) (goes_on _ (ap numbered c.in-Some-count-4.ensures) (goes_on _ (ap numbered c.in-Some-table_or_dash.ensures) (goes_on _ (ap numbered c.in-Some-table_or_dash-2.ensures) (goes_on _ (ap holds (sym c.may_stand.ensures ∙ c.if-not-may_stand.false)) (goes_on _ (ap holds (sym c.has_sink.ensures ∙ c.if-not-has_sink.false)) (is_refused _ (ap holds (sym c.have_tables.ensures ∙ c.if-not-have_tables.true)))))))))))))

pub returns : goal.returns
unfolding flop_in
returns c = goes_on _ (ap worded c.in-Some.ensures) (goes_on _ (ap has_word (word_agrees c.in-Some.word.now c.ne.ensures c.as_slice.ensures c.if-ne.false)) (goes_on _ (ap worded c.in-Some-hold.ensures) (goes_on _ (ap numbered c.in-Some-count.ensures) (goes_on _ (ap numbered c.in-Some-count-2.ensures) (goes_on _ (ap numbered c.in-Some-count-3.ensures) (goes_on _ (ap numbered c.in-Some-count-4.ensures) (goes_on _ (ap numbered c.in-Some-table_or_dash.ensures) (goes_on _ (ap numbered c.in-Some-table_or_dash-2.ensures) (goes_on _ (ap holds (sym c.may_stand.ensures ∙ c.if-not-may_stand.false)) (goes_on _ (ap holds (sym c.has_sink.ensures ∙ c.if-not-has_sink.false)) (goes_on _ (ap holds (sym c.have_tables.ensures ∙ c.if-not-have_tables.false)) (rw c.in_ok-name.ensures refl))))))))))))
