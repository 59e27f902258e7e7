use Rattle.std.proofs.Common.{map, ap, sym, subst, ◌∙◌, arith}
use Rattle.std.proofs.lemmas.List.{take_all}
use Rattle.name_numbers.specs.Names.{with_value}
use Rattle.verilog_net.specs.Bits.{bit_name, numbers_of}
use Rattle.link_index.specs.Names.{with_names, AreNames}
use Rattle.link_index.proofs.BitLaws.{length-numbers}
use Rattle.link_index.proofs.NameLaws.{entered_one}
use Rattle.link_index.proofs.SpelledLaws.{bit_spelled, set_spelled}
use Rattle.link_index.proofs.names.add_bus.Goals as goal

pub loop-place-preserved : goal.loop-place-preserved
loop-place-preserved c =
    let whole = c.as_slice.ensures.value ∙ c.in_ok-whole.ensures in
    let given = c.in_ok-set.ensures.given ∙ ap (λ w. with_value w tt c.loop-place.names) whole in
    record {
      names =
          entered_one (bit_name c.args.name.now) (numbers_of (c.args.left, c.args.right)) c.loop-place.place c.number_at.result
          c.args.names.now c.loop-place.names c.set.new.self c.number_at.ensures c.loop-place.invariant.names given;
      spelled = subst AreNames (sym given)
          (set_spelled (bit_name c.args.name.now c.number_at.result) c.loop-place.names
          (bit_spelled c.args.name.now c.number_at.result (omega (arith, c.number_at.type_inv)) c.requires.short) c.loop-place.invariant.spelled);
    }

pub returns-clause-entered : goal.returns-clause-entered
returns-clause-entered c =
    let numbers = numbers_of (c.args.left, c.args.right) in
    let all = take_all c.loop-place.place numbers
    (omega (arith, length-numbers (c.args.left, c.args.right), c.width-count.ensures.value, c.loop-place-test.false)) in
    c.loop-place.invariant.names ∙ ap (λ l. with_names c.args.names.now (map (bit_name c.args.name.now) l)) all

pub returns-clause-spelled : goal.returns-clause-spelled
returns-clause-spelled c = c.loop-place.invariant.spelled
