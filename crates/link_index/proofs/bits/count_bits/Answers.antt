use Rattle.std.proofs.Common.{◌+◌, length, ap, sym, ◌∙◌, arith}
use Rattle.link_index.proofs.NameLaws.{no_nets, all_nets, one_net_more}
use Rattle.link_index.proofs.bits.count_bits.Goals as goal

pub loop-number-init : goal.loop-number-init
loop-number-init c = record { count = sym (ap length (no_nets c.args.nets.now)); most = omega arith }

pub loop-number-preserved : goal.loop-number-preserved
loop-number-preserved c = record {
  count =
      ap (λ n. n + c.net_width-count.result) c.loop-number.invariant.count
      ∙ sym (one_net_more c.args.nets.now c.loop-number.number c.net_width-count.result c.net_width-count.ensures.value);
  most = omega (arith, c.loop-number.invariant.most, c.net_width-count.ensures.most);
}

pub returns : goal.returns
returns c =
    c.loop-number.invariant.count
    ∙ ap length (all_nets c.args.nets.now c.loop-number.number (omega (arith, c.len-number-end.ensures, c.loop-number-test.false)))
