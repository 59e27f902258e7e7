use Rattle.std.proofs.Common.{◌≡◌, ◌+◌, List, drop, subst, IfOk, arith}
use Rattle.xt_model.specs.declared.net.Net.{Net}
use Rattle.design_gen.specs.Lists.{each_below}
use Rattle.design_gen.specs.Generated.{generated_net}
use Rattle.design_gen.proofs.Sums.{each_from_append}
use Rattle.design_gen.proofs.design.+fn-nets_by-join+arg2+fn-nets_by-join+arg3+nets_by.Goals as goal

pub returns : goal.returns
returns g t c =
    let f = generated_net c.args.drawn.now.number c.args.drawn.now.nets in
    let middle = c.args.from + c.part.result in
    let whole = each_from_append f c.args.from middle c.args.to (omega arith) (omega (arith, c.part.ensures, c.requires.order)) in
    let left = drop c.args.from (each_below f middle) in
    let right = drop middle (each_below f c.args.to) in
    let P : List Net → Type 0 = λ ns. IfOk c.joined.result (λ all. all.items ≡ ns) in
    subst P whole (c.joined.ensures left right c.join-left.ensures.first c.join-left.ensures.second)

pub returns-then-shares-le1 : goal.returns-then-shares-le1
returns-then-shares-le1 g t c = c.nets_within.ensures

pub join+arg2-returns : goal.join+arg2-returns
join+arg2-returns g t c = c.nets_by.ensures

pub join+arg3-returns : goal.join+arg3-returns
join+arg3-returns g t c = c.nets_by.ensures

pub fn::nets_by::join+arg2+FnOnce::call_once-returns : goal.fn::nets_by::join+arg2+FnOnce::call_once-returns
fn::nets_by::join+arg2+FnOnce::call_once-returns g t c = c.join+arg2.ensures

pub fn::nets_by::join+arg3+FnOnce::call_once-returns : goal.fn::nets_by::join+arg3+FnOnce::call_once-returns
fn::nets_by::join+arg3+FnOnce::call_once-returns g t c = c.join+arg3.ensures
