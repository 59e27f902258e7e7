use Rattle.std.proofs.Common.{◌≡◌, take, map, length, suc}
use Rattle.elmore_tree.specs.Sums.{sink_sums}
use Rattle.elmore_tree.specs.Walks.{path_of}
use Rattle.elmore_tree.proofs.elmore.forms_by.Given as goal

abbrev pub invariant-loop-sink : goal.invariant-loop-sink
invariant-loop-sink l = record {
  forms : l.forms.items ≡ map (sink_sums l.tree (path_of l.steps)) (take l.sink-index l.tree.sinks);
  row : length l.row ≡ suc (length l.steps);
}
