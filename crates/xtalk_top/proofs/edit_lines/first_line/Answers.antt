use Rattle.std.proofs.Common.{sym, ◌∙◌}
use Rattle.call_meaning.proofs.EditLines.{first_of_lines, only_line}
use Rattle.xtalk_top.proofs.edit_lines.first_line.Goals as goal

pub returns-in-None-clause-lines : goal.returns-in-None-clause-lines
returns-in-None-clause-lines c = only_line c.args.bytes.now (sym c.first_newline.ensures.value ∙ c.in-None.is)

pub returns-in-Some-clause-lines : goal.returns-in-Some-clause-lines
returns-in-Some-clause-lines c =
    rw (c.split_at.ensures.front, c.split_at-in-Some.ensures.back) (first_of_lines c.args.bytes.now c.in-Some.at (sym c.first_newline.ensures.value ∙ c.in-Some.is))
