use Rattle.std.proofs.Common.{w64, rules}
use Rattle.std.proofs.lemmas.Int.{to_z-of_z}
use mir.Val.{SFits}
use Rattle.aggressor_report.proofs.Spent.{kept_number, kept_later, spent_late, spent_early}
use Rattle.aggressor_report.proofs.passage.spent.Goals as goal

pub returns-then-late : goal.returns-then-late
returns-then-late c =
    let s = c.args.input.now in
    let fits : SFits w64 s.greatest_wire = search rules in
    spent_late c.args.late s (record { least = c.args.delays.0; most = c.args.delays.1 }) _ _ _ c.if-late.true (to_z-of_z w64 s.greatest_wire fits)
    (kept_number c.args.delays.1 c.requires.greatest) (kept_later s.window.thi c.args.delays.1 c.requires.input.thi c.requires.greatest)

pub returns-else-late : goal.returns-else-late
returns-else-late c =
    let s = c.args.input.now in
    let fits : SFits w64 s.least_wire = search rules in
    spent_early c.args.late s (record { least = c.args.delays.0; most = c.args.delays.1 }) _ _ _ c.if-late.false (to_z-of_z w64 s.least_wire fits)
    (kept_number c.args.delays.0 c.requires.least) (kept_later s.window.tlo c.args.delays.0 c.requires.input.tlo c.requires.least)
