use Rattle.std.proofs.Common.{◌∙◌, map}
use Rattle.xt_model.specs.declared.net.NetId.{NetId}
use Rattle.design_link.proofs.NameLaws.{names_are, all_there, first_loop_of_same}
use Rattle.design_link.proofs.linking.design_of.Goals as goal

pub names_of-requires-clause-there : goal.names_of-requires-clause-there
names_of-requires-clause-there c =
    let loop = rw c.in-Err-Loop.field-0-is at c.in-Err-Loop.ensures.loops in
    all_there c.args.netlist.now c.args.nets.items c.as_slice.result.now c.requires.names
    (first_loop_of_same c.from_vec.result c.args.nets.items _ c.as_slice.result.now c.from_vec.ensures c.as_slice.ensures loop)

pub returns-in_ok-names_of-in-Err-Loop : goal.returns-in_ok-names_of-in-Err-Loop
returns-in_ok-names_of-in-Err-Loop c =
    let loop = rw c.in-Err-Loop.field-0-is at c.in-Err-Loop.ensures.loops in (
      map (λ (n : NetId). n.0) c.as_slice.result.now,
      first_loop_of_same c.from_vec.result c.args.nets.items _ c.as_slice.result.now c.from_vec.ensures c.as_slice.ensures loop,
      c.in_ok-names_of-in-Err-Loop.ensures ∙ names_are c.args.netlist.now c.args.nets.items c.requires.names c.as_slice.result.now,
    )
