use Rattle.std.proofs.Common.{◌≡◌, ◌≤◌, ◌<◌, ◌*◌, ◌^◌, ◌∙◌, length, arith, sym, ap, subst}
use Rattle.std.proofs.lemmas.List.{take_all}
use Rattle.std.specs.List.{sum_by}
use Rattle.xt_model.specs.Sound.{reads_by, reads_of}
use Rattle.design_link.specs.Sizes.{plain_nets}
use Rattle.design_link.proofs.CoefficientLaws.{length-plain}
use Rattle.design_link.proofs.ReadLaws.{reads_turn, most_turn}
use Rattle.design_link.proofs.sizes.reads_in_all.Goals as goal

pub loop-k-preserved : goal.loop-k-preserved
loop-k-preserved c =
    let lt : c.loop-k.k < length c.args.nets.now = c.loop-k-test.true in
    let own : c.coupling_count.result ≡ length c.index-wires-k.result.couplings = c.coupling_count.ensures in
    let arcs_most : c.reads_for-total.result ≤ length c.index-nets-k.result.arcs * 2 ^ 65 =
    subst (λ arcs. c.reads_for-total.result ≤ length arcs * 2 ^ 65) c.as_slice.ensures c.reads_for-total.ensures.most in (
      λ d is. reads_turn d c.args.nets.now c.args.wires.now c.loop-k.k c.loop-k.total c.reads_for-total.result c.index-nets-k.result c.index-wires-k.result c.requires.count lt
          c.index-nets-k.is c.index-wires-k.is is
          (λ e same. c.reads_for-total.ensures.value e same ∙ (ap (λ m. reads_by e m c.as_slice.result.now) own ∙ ap (reads_by e (length c.index-wires-k.result.couplings)) c.as_slice.ensures))
          (c.loop-k.invariant.0 d is),
      most_turn c.args.nets.now c.loop-k.k c.loop-k.total c.reads_for-total.result c.index-nets-k.result lt c.index-nets-k.is c.loop-k.invariant.1 arcs_most,
    )

pub returns : goal.returns
returns c d is =
    let size = length-plain c.args.nets.now c.args.wires.now c.requires.count in
    let all : length (plain_nets c.args.nets.now c.args.wires.now) ≤ c.loop-k.k = omega (arith, size) in
    c.loop-k.invariant.0 d is ∙ (ap (sum_by (reads_of d)) (take_all c.loop-k.k (plain_nets c.args.nets.now c.args.wires.now) all) ∙ ap (sum_by (reads_of d)) (sym is))
