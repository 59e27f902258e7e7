use Rattle.std.proofs.Common.{arith, sym}
use Rattle.std.proofs.lemmas.List.{append-nil}
use Rattle.verilog_net.specs.Bits.{numbers_of}
use Rattle.link_index.proofs.BitLaws.{length-numbers}
use Rattle.link_pins.specs.Seen.{numbered_bit}
use Rattle.link_pins.proofs.BitLaws.{numbered_more, numbered_all}
use Rattle.link_pins.proofs.bits.add_bus.Goals as goal

pub loop-place-init : goal.loop-place-init
loop-place-init c = sym (append-nil c.args.bits.now.items)

pub loop-place-preserved : goal.loop-place-preserved
loop-place-preserved c =
    numbered_more (numbered_bit c.args.decl c.args.role) (numbers_of (c.args.left, c.args.right)) c.loop-place.place c.number_at-bit.result
    c.args.bits.now.items c.loop-place.bits.items _ c.number_at-bit.ensures c.loop-place.invariant c.in_ok-push.ensures.items

pub returns : goal.returns
returns c =
    numbered_all (numbered_bit c.args.decl c.args.role) (numbers_of (c.args.left, c.args.right)) c.loop-place.place
    c.args.bits.now.items c.loop-place.bits.items
    (omega (arith, length-numbers (c.args.left, c.args.right), c.width-place-end.ensures.value, c.loop-place-test.false)) c.loop-place.invariant
