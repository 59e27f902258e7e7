-- Laws of generated designs.
use Rattle.std.specs.Prelude.{ℕ, ◌≤◌, List}
use Rattle.xt_model.specs.Limits.{most_generated}
use Rattle.xt_model.specs.Sound.{IsSound}
use Rattle.xt_model.specs.Levels.{IsLoop}
use Rattle.design_gen.specs.Generated.{generated}

-- a count of nets that a design is generated for
pub record IsCount (nets : ℕ) : Type 0 where
  pub some : 1 ≤ nets
  pub most : nets ≤ most_generated

-- the parts of every generated design are sound
abbrev pub GeneratedIsSound : Type 0
GeneratedIsSound = (number nets : ℕ) → IsCount nets → IsSound (generated number nets)

-- and its arcs make no loop
abbrev pub GeneratedMakesNoLoop : Type 0
GeneratedMakesNoLoop = (number nets : ℕ) (path : List ℕ) → IsCount nets → IsLoop (generated number nets).nets path → ⊥
