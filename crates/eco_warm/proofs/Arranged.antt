-- The operators before and after an edit, by how the edit is said to move windows.
use Rattle.std.proofs.Common.{◌≡◌, refl}
use Rattle.xt_model.specs.Parts.{Parts}
use Rattle.xt_model.specs.Sound.{IsSound}
use Rattle.eco_warm.specs.declared.edit.Edit.{Edit}
use Rattle.eco_warm.specs.declared.edit.Change.{Change}
use Rattle.eco_warm.specs.declared.edit.Change.TheVariants.{Shrinks, Grows, Neither}
use Rattle.eco_warm.specs.Edits.{change_of, edited}
use Rattle.eco_warm.specs.Laws.{AreOrdered}
use Rattle.eco_warm.specs.Possible.{IsAllowed, IsEditOf}
use Rattle.eco_warm.proofs.Allowed.{edited_sound}
use Rattle.eco_warm.proofs.Shrinking.{shrinks, grows}

ordered_by : (d : Parts) (e : Edit) (change : Change) → IsSound d → IsEditOf d.nets e → IsAllowed e d.nets → change_of d.miller e ≡ change → AreOrdered change d (edited e d)
ordered_by d e Shrinks s between allowed is = λ W. shrinks d e s (edited_sound d e s between allowed) between is W
ordered_by d e Grows s between allowed is = λ W. grows d e s between is W
ordered_by d e Neither s between allowed is = tt

pub arranged : (d : Parts) (e : Edit) → IsSound d → IsEditOf d.nets e → IsAllowed e d.nets → AreOrdered (change_of d.miller e) d (edited e d)
arranged d e s between allowed = ordered_by d e (change_of d.miller e) s between allowed refl
