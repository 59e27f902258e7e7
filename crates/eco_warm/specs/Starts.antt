-- From where the windows of an edited design are found.
use Rattle.std.specs.Prelude.{◌≡◌, List, [], ◌∷◌}
use Rattle.xt_model.specs.declared.quad.Pair.{Pair}
use Rattle.xt_model.specs.Quads.{meet_of}
use Rattle.xt_model.specs.Parts.{Parts}
use Rattle.xt_model.specs.Sound.{IsSound}
use Rattle.xt_meaning.specs.Laws.{quiet_windows}
use Rattle.eco_warm.specs.declared.edit.Edit.{Edit}
use Rattle.eco_warm.specs.declared.edit.Change.{Change}
use Rattle.eco_warm.specs.declared.edit.Change.TheVariants.{Shrinks, Grows, Neither}
use Rattle.eco_warm.specs.Edits.{edited, change_of}
use Rattle.eco_warm.specs.Possible.{IsEditOf}

-- the second design is the first, which is sound, after one edit that changes windows so
pub record IsAfterEdit (before after : Parts) (change : Change) : Type 0 where
  pub edit : Edit
  pub sound : IsSound before
  pub between : IsEditOf before.nets edit
  pub made : after ≡ edited edit before
  pub changed : change ≡ change_of before.miller edit

-- edge by edge the greatest windows that lie within both
abbrev pub met : List Pair → List Pair → List Pair
met [] ws = []
met (p ∷ ps) [] = []
met (p ∷ ps) (q ∷ qs) = record { rise = meet_of p.rise q.rise; fall = meet_of p.fall q.fall } ∷ met ps qs

-- where the widening run starts: at the old least windows where the edit grows, else where nothing switches
abbrev pub low_start : Change → Parts → List Pair → List Pair
low_start Shrinks after low = quiet_windows after
low_start Grows after low = low
low_start Neither after low = quiet_windows after

-- where the narrowing run starts: at the old greatest windows within the new envelope where the edit shrinks, else at
-- the new envelope
abbrev pub high_start : Change → List Pair → List Pair → List Pair
high_start Shrinks high top = met high top
high_start Grows high top = top
high_start Neither high top = top
