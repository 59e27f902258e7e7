use Rattle.std.proofs.Common.{◌∙◌, ap, map, pos, ◌*ℤ◌, arith}
use Rattle.std.proofs.lemmas.List.{take_all}
use Rattle.xt_model.specs.declared.net.Coupling.{Coupling}
use Rattle.design_gen.proofs.nets.coefficients.Goals as goal

pub loop-coupling-init : goal.loop-coupling-init
loop-coupling-init c = c.in_ok-coefs.ensures.items

pub returns : goal.returns
returns c =
    let whole = take_all c.loop-coupling.coupling-index c.args.couplings.now (omega (arith, c.loop-coupling-test.false)) in
    c.from_vec.ensures ∙ (c.loop-coupling.invariant ∙ ap (map (λ (k : Coupling). pos 100000 *ℤ k.cap)) whole)
