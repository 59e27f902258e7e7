use Rattle.std.proofs.Common.{◌≡◌, ◌+◌, true, false, ltb, [], codes, length, rules}
use Rattle.std.specs.Str.{bytes_eq}
use Rattle.xt_model.specs.declared.code.Code.TheVariants.{E1}
use Rattle.call_meaning.specs.Eco.{LinesMean, lines_of, most_edits, refused_at}
use Rattle.call_meaning.proofs.EditLines.{ends, ends_badly, goes_on, refused_stops, too_many}
use Rattle.xtalk_top.proofs.edit_lines.next_line.Goals as goal

pub returns-then-is_empty-clause-means : goal.returns-then-is_empty-clause-means
returns-then-is_empty-clause-means c =
    let is : bytes_eq c.in-Some.line.now (codes "end") ≡ true = search rules in
    let none : length c.in-Some.more.now ≡ 0 = search rules in
    ends c.args.file.now c.in-Some.line.now c.in-Some.more.now (lines_of c.args.rest.now) c.args.count c.in-Some.ensures.lines is none

pub returns-then-eq-clause-stop : goal.returns-then-eq-clause-stop
returns-then-eq-clause-stop c = λ d.
    let is : bytes_eq c.in-Some.line.now (codes "end") ≡ true = search rules in
    let some : c.in-Some.more.now ≡ [] → ⊥ = search rules in
    refused_stops (LinesMean c.args.file.now (lines_of c.args.rest.now) c.args.count d) (refused_at c.args.file.now (c.args.count + 2) E1) c.refused-then-eq.result c.refused-then-eq.ensures
    (ends_badly c.args.file.now c.in-Some.line.now c.in-Some.more.now (lines_of c.args.rest.now) c.args.count c.in-Some.ensures.lines is some d)

pub returns-then-count-eq-MOST_EDITS-clause-stop : goal.returns-then-count-eq-MOST_EDITS-clause-stop
returns-then-count-eq-MOST_EDITS-clause-stop c = λ d.
    let is : bytes_eq c.in-Some.line.now (codes "end") ≡ false = search rules in
    let full : c.args.count ≡ most_edits = search rules in
    refused_stops (LinesMean c.args.file.now (lines_of c.args.rest.now) c.args.count d) (refused_at c.args.file.now (c.args.count + 1) E1) c.refused-then-count-eq-MOST_EDITS.result
    c.refused-then-count-eq-MOST_EDITS.ensures
    (too_many c.args.file.now c.in-Some.line.now c.in-Some.more.now (lines_of c.args.rest.now) c.args.count c.in-Some.ensures.lines is full d)

pub returns-clause-means : goal.returns-clause-means
returns-clause-means c =
    let is : bytes_eq c.in-Some.line.now (codes "end") ≡ false = search rules in
    let few : ltb c.args.count most_edits ≡ true = search rules in
    goes_on c.args.file.now c.in-Some.line.now c.in-Some.more.now (lines_of c.args.rest.now) c.args.count c.in-Some.ensures.lines is few
