use Rattle.std.proofs.Common.{◌≡◌, ◌∙◌, ap, sym, [], length, map, arith}
use Rattle.sdc_read.specs.Changes.{over_first}
use Rattle.sdc_read.specs.Objects.{behind, net_bits, ports_of}
use Rattle.sdc_read.specs.View.{bits_text}
use Rattle.sdc_read.proofs.Over.{over_next}
use Rattle.sdc_read.proofs.listed.ports_of.Goals as goal

pub loop-decl-init : goal.loop-decl-init
loop-decl-init c = ap (map bits_text) c.new-list.ensures.items

pub loop-decl-preserved : goal.loop-decl-preserved
loop-decl-preserved c =
    let at = net_bits c.args.role c.args.netlist.now.nets in
    c.in_ok-push_some.ensures
    ∙ (ap (λ bits. behind bits (map bits_text c.loop-decl.list.items)) c.net_bits.ensures
    ∙ (ap (behind (at c.loop-decl.decl)) c.loop-decl.invariant ∙ sym (over_next (λ i. behind (at i)) c.loop-decl.decl [])))

pub returns : goal.returns
unfolding ports_of
returns c =
    let past = c.loop-decl-test.false in
    let last = c.loop-decl.auto.decl-end in
    let many = c.len-decl-end.ensures in
    let all : c.loop-decl.decl ≡ length c.args.netlist.now.nets = omega (arith, past, last, many) in
    c.loop-decl.invariant ∙ ap (λ n. over_first (λ i. behind (net_bits c.args.role c.args.netlist.now.nets i)) n []) all
