use Rattle.std.proofs.Common.{◌≡◌, ◌+◌, ◌∙◌, length, arith}
use Rattle.name_numbers.proofs.EightLaws.{all_written}
use Rattle.name_parts.proofs.PartLaws.{all_at_once, after_eight}
use Rattle.name_parts.proofs.parts.write_across.Goals as goal

pub returns-then-left-rest-lt8 : goal.returns-then-left-rest-lt8
returns-then-left-rest-lt8 g c =
    all_at_once g.H.Hasher.write c.args.state.now c.write.new.self c.args.left.now c.args.rest.now c.as_slice.result.now
    c.if-left-rest-lt8.true (c.as_slice.ensures.value ∙ c.joined.ensures) c.write.ensures

pub returns : goal.returns
returns g c =
    let eight : length c.args.left.now + length c.split_at.result.0.now ≡ 8 = omega (arith, c.split_at.ensures.front_len, c.requires) in
    after_eight g.H.Hasher.write c.args.state.now c.write-2.new.self c.write-3.new.self c.args.left.now c.args.rest.now
    c.split_at.result.0.now c.split_at.result.1.now c.as_slice-2.result.now c.split_at.ensures.by_index.0 eight
    (c.as_slice-2.ensures.value ∙ c.joined-2.ensures) c.write-2.ensures
    (all_written g.H.Hasher.write c.write-2.new.self c.write_eights-end.new.state c.write-3.new.self c.split_at.result.1.now c.write_eights-end.result.now
    c.write_eights-end.ensures.few c.write_eights-end.ensures.written c.write-3.ensures)
