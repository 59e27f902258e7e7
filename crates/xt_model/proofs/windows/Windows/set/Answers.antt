use Rattle.std.proofs.lemmas.List.Elements.{All-set}
use Rattle.xt_model.specs.Quads.{IsPairInRange}
use Rattle.xt_model.proofs.windows.Windows.set.Goals as goal

pub invariant_of-self : goal.invariant_of-self
invariant_of-self c = All-set IsPairInRange _ _ _ c.requires.in_range c.self.invariant
