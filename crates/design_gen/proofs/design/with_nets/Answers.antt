use Rattle.std.proofs.Common.{subst, map}
use Rattle.xt_model.specs.declared.fault.BuildFault.{BuildFault}
use Rattle.xt_model.specs.Build.{IsFaultOf}
use Rattle.xt_model.proofs.LoopLaws.{first_is_loop}
use Rattle.design_gen.proofs.design.with_nets.Goals as goal

pub new-requires-2 : goal.new-requires-2
new-requires-2 c =
    let s = c.requires.sound in
    record { sound = rw (c.in_ok-tables.ensures, c.new.ensures.items) s }

pub unreachable-requires : goal.unreachable-requires
unreachable-requires c =
    let P : BuildFault → Type 0 = λ f. IsFaultOf c.args.nets.items f in
    let first_loop = subst P c.in-Err-Loop.field-0-is c.in-Err-Loop.ensures.loops in
    c.requires.acyclic (map (λ n. n.0) c.in-Err-Loop.field-0-0) (first_is_loop c.args.nets.items (map (λ n. n.0) c.in-Err-Loop.field-0-0) first_loop)
