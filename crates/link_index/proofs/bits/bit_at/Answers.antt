use Rattle.std.proofs.Common.{◌≡◌, ◌+◌, length, take, Some, slice_index, ap, sym, ◌∙◌, arith}
use Rattle.std.proofs.lemmas.Option.{slice_get_within}
use Rattle.verilog_net.specs.Bits.{bits}
use Rattle.link_index.proofs.BitLaws.{bit_nowhere, bit_off, bit_there}
use Rattle.link_index.proofs.NameLaws.{offset_within, net_bits_within}
use Rattle.link_index.proofs.bits.bit_at.Goals as goal

pub returns-in-None : goal.returns-in-None
returns-in-None c = sym (bit_nowhere c.args.nets.now c.args.decl c.args.bit (sym c.in-None.ensures))

pub returns-in-None-offset : goal.returns-in-None-offset
returns-in-None-offset c =
    sym (bit_off c.args.nets.now c.args.decl c.args.bit _ (sym c.in-Some.ensures) (sym c.in-None-offset.ensures))

pub bounds-starts-decl : goal.bounds-starts-decl
bounds-starts-decl c =
    let k = slice_get_within c.args.nets.now c.args.decl _ (sym c.in-Some.ensures) in
    omega (arith, k, c.requires.starts.count)

pub overflow_add-result : goal.overflow_add-result
overflow_add-result c =
    let nets = c.args.nets.now in
    let k = slice_get_within nets c.args.decl _ (sym c.in-Some.ensures) in
    let first : slice_index c.args.starts.now c.args.decl ≡ length (bits (take c.args.decl nets)) = c.requires.starts.each c.args.decl k in
    let before = offset_within _ c.args.bit _ (sym c.in-Some-offset.ensures) in
    omega (arith, first, before, net_bits_within nets c.args.decl _ (sym c.in-Some.ensures), c.requires.few)

pub returns-in-Some-offset : goal.returns-in-Some-offset
returns-in-Some-offset c =
    let nets = c.args.nets.now in
    let k = slice_get_within nets c.args.decl _ (sym c.in-Some.ensures) in
    let first : slice_index c.args.starts.now c.args.decl ≡ length (bits (take c.args.decl nets)) = c.requires.starts.each c.args.decl k in
    ap (λ n. Some (n + c.in-Some-offset.before)) first
    ∙ sym (bit_there nets c.args.decl c.args.bit c.in-Some-offset.before _ (sym c.in-Some.ensures) (sym c.in-Some-offset.ensures))
