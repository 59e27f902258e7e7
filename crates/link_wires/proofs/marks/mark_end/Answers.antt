use Rattle.std.proofs.Common.{◌≡◌, ◌<◌, Some, length, map, sym, ap, ◌∙◌, refl, arith}
use Rattle.std.specs.Prelude.{position}
use Rattle.std.specs.Str.{bytes_eq}
use Rattle.std.proofs.lemmas.List.{length-map}
use Rattle.std.proofs.lemmas.Option.{slice_get_within}
use Rattle.name_parts.specs.Parts.{whole}
use Rattle.link_wires.specs.declared.marks.Mark.{Mark}
use Rattle.link_wires.proofs.MarkLaws.{named_there, marked_turn, unmarked_turn, end_nowhere, end_known, end_marked}
use Rattle.link_wires.proofs.marks.mark_end.Goals as goal

abbrev none : Mark
none = record { turn = 0; number = 0 }

pub returns-in_default-clause-marks : goal.returns-in_default-clause-marks
returns-in_default-clause-marks c =
    let names = map (λ e. e.0) c.args.parasitics.now.names in
    let count : length names ≡ length c.args.parasitics.now.names = length-map c.args.parasitics.now.names (λ e. e.0) in
    let t : whole c.of.result ≡ c.args.end.now = c.of.ensures ∙ c.bytes.ensures.value in
    end_nowhere names c.args.turn c.args.number c.args.end.now c.args.marks.now
    (ap (λ x. position (bytes_eq x) names) (sym t) ∙ sym c.in_default.ensures)

pub returns-then-marks-place-clause-marks : goal.returns-then-marks-place-clause-marks
returns-then-marks-place-clause-marks c =
    let names = map (λ e. e.0) c.args.parasitics.now.names in
    let count : length names ≡ length c.args.parasitics.now.names = length-map c.args.parasitics.now.names (λ e. e.0) in
    let t : whole c.of.result ≡ c.args.end.now = c.of.ensures ∙ c.bytes.ensures.value in
    let at : position (bytes_eq c.args.end.now) names ≡ Some c.in-Some.place = ap (λ x. position (bytes_eq x) names) (sym t) ∙ sym c.in-Some.ensures in
    let within = slice_get_within names c.in-Some.place c.args.end.now (named_there c.args.end.now names c.in-Some.place at) in
    let lt : c.in-Some.place < length c.args.marks.now = omega (arith, within, c.requires.count, count) in
    end_known names c.args.turn c.args.number c.args.end.now c.args.marks.now c.in-Some.place at
    (marked_turn c.args.turn c.in-Some.place none c.args.marks.now lt (omega (arith, c.if-marks-place.true)))

pub returns-clause-marks : goal.returns-clause-marks
returns-clause-marks c =
    let names = map (λ e. e.0) c.args.parasitics.now.names in
    let count : length names ≡ length c.args.parasitics.now.names = length-map c.args.parasitics.now.names (λ e. e.0) in
    let t : whole c.of.result ≡ c.args.end.now = c.of.ensures ∙ c.bytes.ensures.value in
    let at : position (bytes_eq c.args.end.now) names ≡ Some c.in-Some.place = ap (λ x. position (bytes_eq x) names) (sym t) ∙ sym c.in-Some.ensures in
    let here = named_there c.args.end.now names c.in-Some.place at in
    let within = slice_get_within names c.in-Some.place c.args.end.now here in
    let lt : c.in-Some.place < length c.args.marks.now = omega (arith, within, c.requires.count, count) in
    end_marked names c.args.turn c.args.number c.args.end.now c.args.marks.now c.in-Some.place (record { turn = c.args.turn; number = c.args.number }) _
    c.requires.own here (unmarked_turn c.args.turn c.in-Some.place none c.args.marks.now lt (λ e. absurd (omega (arith, e, c.if-marks-place.false)))) refl refl refl
