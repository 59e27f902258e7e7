use Rattle.std.proofs.Common.{◌∙◌, ◌++◌, ◌∷◌, [], ap, sym, take, take-suc, add-one, arith}
use Rattle.std.proofs.lemmas.List.{take_all}
use Rattle.design_gen.proofs.nets.couplings_of.Goals as goal

pub loop-coupling-init : goal.loop-coupling-init
loop-coupling-init c = c.in_ok-couplings.ensures.items

pub loop-coupling-preserved : goal.loop-coupling-preserved
loop-coupling-preserved c =
    let drawn = c.args.drawn.now in
    let i = c.loop-coupling.coupling-index in
    let k = c.coupling-item.result in
    let more = ap (λ m. take m drawn) (add-one i) ∙ take-suc drawn i k c.loop-coupling-test.true in
    c.in_ok-push.ensures.items ∙ (ap (λ ks. ks ++ c.coupling.result ∷ []) c.loop-coupling.invariant
    ∙ (ap (λ x. take i drawn ++ x ∷ []) (c.coupling.ensures ∙ c.coupling-item.is) ∙ sym more))

pub returns : goal.returns
returns c = c.loop-coupling.invariant ∙ take_all c.loop-coupling.coupling-index c.args.drawn.now (omega (arith, c.loop-coupling-test.false))
