use Rattle.std.proofs.Common.{◌≡◌, ℕ, ◌<◌, true}
use Rattle.elmore_tree.specs.Paths.{is_in}
use Rattle.elmore_tree.proofs.reached.first_unreached.Given as goal

abbrev pub invariant-loop-node : goal.invariant-loop-node
invariant-loop-node l = (k : ℕ) → k < l.node → is_in l.needed k ≡ true → is_in l.reached k ≡ true
