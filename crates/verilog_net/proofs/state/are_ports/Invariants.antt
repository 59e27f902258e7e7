use Rattle.std.proofs.Common.{◌≡◌, length, map}
use Rattle.std.specs.List.{list_all}
use Rattle.verilog_net.specs.Nets.{is_port}
use Rattle.verilog_net.proofs.state.are_ports.Given as goal

abbrev pub invariant-names : goal.invariant-names
invariant-names l =
    list_all (λ name. is_port name l.nets) (map (λ n. n.now) l.rest)
    ≡ list_all (λ name. is_port name l.nets) (map (λ n. n.now) l.names)

abbrev pub decreases-names : goal.decreases-names
decreases-names l = length l.rest
