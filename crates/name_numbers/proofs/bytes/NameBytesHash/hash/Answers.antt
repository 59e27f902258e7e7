use Rattle.name_numbers.proofs.EightLaws.{all_written}
use Rattle.name_numbers.proofs.bytes.NameBytesHash.hash.Goals as goal

pub returns : goal.returns
returns g c = all_written g.H.Hasher.write c.args.state.now c.write_eights-left.new.state c.write.new.self c.args.self.now.bytes.now c.write_eights-left.result.now
    c.write_eights-left.ensures.few c.write_eights-left.ensures.written c.write.ensures
