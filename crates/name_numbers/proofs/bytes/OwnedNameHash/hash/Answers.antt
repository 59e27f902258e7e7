use Rattle.std.proofs.Common.{ap, ◌∙◌}
use Rattle.std.specs.List.{fold}
use Rattle.name_numbers.specs.Eights.{eights}
use Rattle.name_numbers.proofs.EightLaws.{all_written}
use Rattle.name_numbers.proofs.bytes.OwnedNameHash.hash.Goals as goal

pub returns : goal.returns
returns g c =
    all_written g.H.Hasher.write c.args.state.now c.write_eights-left.new.state c.write.new.self c.as_slice.result.now c.write_eights-left.result.now
    c.write_eights-left.ensures.few c.write_eights-left.ensures.written c.write.ensures
    ∙ ap (λ b. fold g.H.Hasher.write c.args.state.now (eights b)) c.as_slice.ensures
