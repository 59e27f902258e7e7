use Rattle.std.proofs.Common.{sym, ◌∙◌}
use Rattle.name_numbers.proofs.EightLaws.{all_written}
use Rattle.name_parts.proofs.PartLaws.{none_left}
use Rattle.name_parts.proofs.parts.write_both.Goals as goal

pub returns-then-is_empty : goal.returns-then-is_empty
returns-then-is_empty g c =
    none_left g.H.Hasher.write c.args.state.now c.write_eights-left.new.state c.write.new.self c.args.first.now c.args.rest.now
    c.write_eights-left.result.now (sym c.is_empty.ensures ∙ c.if-is_empty.true) c.write_eights-left.ensures.written
    (all_written g.H.Hasher.write c.write_eights-left.new.state c.write_eights-end.new.state c.write.new.self c.args.rest.now c.write_eights-end.result.now
    c.write_eights-end.ensures.few c.write_eights-end.ensures.written c.write.ensures)
