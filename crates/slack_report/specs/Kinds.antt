-- The check with the least slack.
use Rattle.std.specs.Prelude.{◌≡◌, ℕ, ◌<◌, Bool, false, if◌then◌else◌, ◌≤ℤ◌, ◌<ℤ◌, int_le, List, Option, Some, None}
use Rattle.std.specs.List.{slice_get}
use Rattle.xt_model.specs.declared.check.CheckPoint.{CheckPoint}
use Rattle.xt_model.specs.Parts.{Parts}
use Rattle.slack_report.specs.declared.slack.Slack.{Slack}
use Rattle.slack_report.specs.Points.{is_hold}

-- a check of this kind, hold or setup, that is not idle
pub record Counts (d : Parts) (hold : Bool) (s : Slack) : Type 0 where
  pub point : CheckPoint
  pub there : slice_get d.checks s.point ≡ Some point
  pub kind : is_hold point ≡ hold
  pub active : s.idle ≡ false

-- the worst of these checks of a kind is number i: in the greatest windows no other has less slack, and none before it
-- has as little
pub record IsWorst (d : Parts) (hold : Bool) (all : List Slack) (i : ℕ) (s : Slack) : Type 0 where
  pub there : slice_get all i ≡ Some s
  pub counts : Counts d hold s
  pub least : (j : ℕ) (t : Slack) → slice_get all j ≡ Some t → Counts d hold t → s.greatest ≤ℤ t.greatest
  pub first : (j : ℕ) (t : Slack) → j < i → slice_get all j ≡ Some t → Counts d hold t → s.greatest <ℤ t.greatest

-- none of them is of the kind and not idle
abbrev pub HasNone : Parts → Bool → List Slack → Type 0
HasNone d hold all = (j : ℕ) (t : Slack) → slice_get all j ≡ Some t → Counts d hold t → ⊥

-- of the worst check so far and a later one, the one with less slack, the first of equals
abbrev pub worse_of : Option Slack → Slack → Slack
worse_of None next = next
worse_of (Some s) next = if int_le s.greatest next.greatest then s else next
