use Rattle.name_numbers.proofs.EightLaws.{written_further}
use Rattle.name_numbers.proofs.bytes.write_eights.Goals as goal

pub eights-preserved : goal.eights-preserved
eights-preserved g c = λ more.
    written_further g.H.Hasher.write c.args.state.now c.eights.state c.write.new.self c.args.bytes.now c.eights.rest.now c.split_at.result.0.now c.split_at.result.1.now more
    c.split_at.ensures.by_index.0 c.split_at.ensures.front_len c.write.ensures (c.eights.invariant more)
