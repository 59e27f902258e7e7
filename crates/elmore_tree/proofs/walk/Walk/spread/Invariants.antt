use Rattle.std.proofs.Common.{◌≡◌, ℕ, true, take}
use Rattle.elmore_tree.specs.Paths.{Joins, is_in, is_on}
use Rattle.elmore_tree.specs.Walks.{IsWalk}
use Rattle.elmore_tree.proofs.walk.Walk.spread.Given as goal

abbrev pub invariant-loop-number : goal.invariant-loop-number
invariant-loop-number l = record {
  walk : IsWalk l.tree l.self.reached.items l.self.steps.items l.self.pending.items;
  steps : l.self.steps.items ≡ l.initial.self.steps.items;
  keeps : (k : ℕ) → is_in l.initial.self.reached.items k ≡ true → is_in l.self.reached.items k ≡ true;
  each : (j b : ℕ) → is_on (take l.number-index l.around) j ≡ true → Joins l.tree.resistors j l.node b → is_in l.self.reached.items b ≡ true;
}
