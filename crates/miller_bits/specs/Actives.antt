-- Windows with the moments between which their transitions can be under way.
use Rattle.std.specs.Prelude.{◌≡◌}
use Rattle.xt_model.specs.Quads.{IsInRange, is_live}
use Rattle.xt_meaning.specs.Overlap.{active_from, active_to}
use Rattle.miller_bits.specs.declared.active.Active.{Active}

-- whether the window is live, and from when and to when a transition of it can be under way
pub record IsActive (a : Active) : Type 0 where
  pub range : IsInRange a.window
  pub live : a.live ≡ is_live a.window
  pub from : a.from ≡ active_from a.window
  pub to : a.to ≡ active_to a.window
