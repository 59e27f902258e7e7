use Rattle.std.proofs.Common.{ap, sym, ◌∙◌, ◌++◌, [], ◌∷◌, drop, arith}
use Rattle.design_gen.specs.Lists.{each_below}
use Rattle.design_gen.specs.Generated.{generated_net}
use Rattle.design_gen.proofs.Sums.{each_from_itself, each_from_push}
use Rattle.design_gen.proofs.design.nets_within.Goals as goal

pub loop-i-init : goal.loop-i-init
loop-i-init c =
    let f = generated_net c.args.drawn.now.number c.args.drawn.now.nets in
    (c.in_ok-nets.ensures.items ∙ sym (each_from_itself f c.args.from), omega arith)

pub loop-i-preserved : goal.loop-i-preserved
loop-i-preserved c =
    let f = generated_net c.args.drawn.now.number c.args.drawn.now.nets in
    let i = c.loop-i.i in
    let made = ap (λ x. drop c.args.from (each_below f i) ++ x ∷ []) c.in_ok-net.ensures in (
      c.in_ok-push.ensures.items
          ∙ (ap (λ xs. xs ++ c.in_ok-net.field-0 ∷ []) c.loop-i.invariant.0
          ∙ (made ∙ sym (each_from_push f c.args.from i c.loop-i.invariant.1))),
      omega (arith, c.loop-i.invariant.1),
    )
