use Rattle.std.proofs.Common.{◌≤◌, ap, ◌∙◌, length, arith}
use Rattle.std.proofs.lemmas.List.{take_all}
use Rattle.std.specs.List.{sum_by}
use Rattle.xt_model.specs.Sound.{coefficients_of}
use Rattle.design_link.specs.Sizes.{plain_nets}
use Rattle.design_link.proofs.CoefficientLaws.{coefficients_turn, length-plain}
use Rattle.design_link.proofs.sizes.coefficients_in_all.Goals as goal

pub loop-k-preserved : goal.loop-k-preserved
loop-k-preserved c =
    coefficients_turn c.args.nets.now c.args.wires.now c.loop-k.k c.loop-k.total c.len.result c.coupling_count.result c.index-nets-k.result c.index-wires-k.result c.requires.count
    (omega arith) c.index-nets-k.is c.index-wires-k.is c.len.ensures c.coupling_count.ensures (omega arith) c.loop-k.invariant.0 c.loop-k.invariant.1

pub returns : goal.returns
returns c =
    let size = length-plain c.args.nets.now c.args.wires.now c.requires.count in
    let all : length (plain_nets c.args.nets.now c.args.wires.now) ≤ c.loop-k.k = omega (arith, size) in
    c.loop-k.invariant.0 ∙ ap (sum_by coefficients_of) (take_all c.loop-k.k (plain_nets c.args.nets.now c.args.wires.now) all)
