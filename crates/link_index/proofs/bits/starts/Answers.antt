use Rattle.std.proofs.Common.{◌+◌, length, length-append, ap, sym, ◌∙◌, arith}
use Rattle.link_index.proofs.NameLaws.{no_nets, one_net_more, nets_within, starts_more}
use Rattle.link_index.proofs.bits.starts.Goals as goal

pub loop-number-init : goal.loop-number-init
loop-number-init c = record {
  next = sym (ap length (no_nets c.args.nets.now));
  count = ap length c.new-starts.ensures.items;
  each = λ k less. absurd (omega arith);
}

pub overflow_cast-next : goal.overflow_cast-next
overflow_cast-next c = omega (arith, nets_within c.args.nets.now c.loop-number.number, c.loop-number.invariant.next, c.requires)

pub overflow_add-next : goal.overflow_add-next
overflow_add-next c =
    omega (arith, nets_within c.args.nets.now c.loop-number.number, c.loop-number.invariant.next, c.requires, c.net_width-next.ensures.most)

pub loop-number-preserved : goal.loop-number-preserved
loop-number-preserved c =
    let s = c.loop-number.invariant in record {
      next =
          ap (λ n. n + c.net_width-next.result) s.next
          ∙ sym (one_net_more c.args.nets.now c.loop-number.number c.net_width-next.result c.net_width-next.ensures.value);
      count = omega (arith, s.count, simp length-append at (ap length c.in_ok-push.ensures.items));
      each =
          starts_more c.args.nets.now c.loop-number.starts.items c.push.new.self.items c.loop-number.number c.loop-number.next
          c.in_ok-push.ensures.items s.count s.next s.each;
    }
