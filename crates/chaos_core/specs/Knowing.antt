-- What a run knows of nets that it need not evaluate.
use Rattle.std.specs.Prelude.{◌≡◌, ℕ, Bool, List, length}
use Rattle.xt_model.specs.declared.net.NetId.{NetId}
use Rattle.xt_model.specs.declared.quad.Pair.{Pair}
use Rattle.xt_model.specs.Parts.{Parts}
use Rattle.chaos_core.specs.declared.known.Known.{Known}
use Rattle.chaos_core.specs.declared.known.Known.TheVariants.{Turns, Moves}
use Rattle.chaos_core.specs.TurnMarks.{AreListed, AreMarks, Marks}

-- of one worker: marks that fit the words, and for each net the nets whose coupling list has it
pub record KnowsTurns (d : Parts) (workers : ℕ) (words : List ℕ) (m : Marks) (lists : List (List NetId)) : Type 0 where
  pub one : workers ≡ 1
  pub marks : AreMarks d words m
  pub listed : AreListed d lists

-- of several: windows and two marks, whatever they are, for each net
pub record KnowsMoves (d : Parts) (v : List Pair) (still decided : List Bool) : Type 0 where
  pub before : length v ≡ length d.nets
  pub unmoved : length still ≡ length d.nets
  pub marks : length decided ≡ length d.nets

abbrev pub IsKnown : Parts → ℕ → List ℕ → Known → Type 0
IsKnown d workers words (Turns m lists) = KnowsTurns d workers words m lists
IsKnown d workers words (Moves before unmoved marks) = KnowsMoves d before unmoved.items marks.items
