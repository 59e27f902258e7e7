use Rattle.std.proofs.Common.{◌∙◌, refl, ap, map}
use Rattle.std.proofs.lemmas.List.{take_all}
use Rattle.design_link.specs.Built.{net_name}
use Rattle.design_link.proofs.NameLaws.{bit_there}
use Rattle.design_link.proofs.names.names_by.Goals as goal

pub unreachable-requires : goal.unreachable-requires
unreachable-requires c =
    bit_there c.args.index.now c.args.index.now refl _ (c.requires c.loop-net.net-index _ c.loop-net-test.true) c.in_default.ensures.value

pub from_slice-requires : goal.from_slice-requires
from_slice-requires c = c.in-Some.ensures.spelled

pub returns : goal.returns
returns c =
    c.from_vec.ensures ∙ (c.loop-net.invariant ∙ ap (map (λ n. net_name c.args.index.now n.0)) (take_all c.loop-net.net-index c.args.nets.now c.loop-net-test.false))
