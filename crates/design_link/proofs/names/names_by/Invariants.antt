use Rattle.std.proofs.Common.{◌≡◌, take, map}
use Rattle.design_link.specs.Built.{net_name}
use Rattle.design_link.proofs.names.names_by.Given as goal

abbrev pub invariant-loop-net : goal.invariant-loop-net
invariant-loop-net l = l.names.items ≡ map (λ n. net_name l.index n.0) (take l.net-index l.nets)
