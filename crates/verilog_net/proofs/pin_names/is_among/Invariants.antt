use Rattle.std.proofs.Common.{◌≡◌, length, map}
use Rattle.name_numbers.specs.Names.{has_name}
use Rattle.verilog_net.proofs.pin_names.is_among.Given as goal

abbrev pub invariant-names : goal.invariant-names
invariant-names l = has_name l.name (map (λ k. k.now) l.rest) ≡ has_name l.name (map (λ k. k.now) l.names)

abbrev pub decreases-names : goal.decreases-names
decreases-names l = length l.rest
