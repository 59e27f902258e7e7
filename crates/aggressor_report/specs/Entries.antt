-- The entries of a design, edge by edge.
use Rattle.std.specs.Prelude.{ℕ, List, [], Option, Some, None, take, drop}
use Rattle.std.specs.List.{filter}
use Rattle.xt_model.specs.declared.edge.Edge.{Edge}
use Rattle.xt_model.specs.declared.quad.Pair.{Pair}
use Rattle.xt_model.specs.declared.net.NetId.{NetId}
use Rattle.xt_model.specs.declared.net.Net.{Net}
use Rattle.xt_model.specs.Parts.{Parts}
use Rattle.aggressor_report.specs.declared.guilt.Guilt.{Guilt}
use Rattle.aggressor_report.specs.Guilt.{is_guilty, edge_entries, net_entries}

-- the entries of an edge of a net in which an aggressor can do something
abbrev pub edge_guilty : Parts → List Pair → List Pair → NetId → Edge → Option Net → List Guilt
edge_guilty d low high victim e None = []
edge_guilty d low high victim e (Some net) = filter is_guilty (edge_entries d low high victim e 0 net.couplings)

-- the entries of the nets from number `from` to before number `to` in which an aggressor can do something
abbrev pub guilty_among : Parts → List Pair → List Pair → ℕ → ℕ → List Guilt
guilty_among d low high from to = filter is_guilty (net_entries d low high from (drop from (take to d.nets)))
