-- The laws that tie transitions to slacks.
use Rattle.std.specs.Prelude.{◌≡◌, ℕ, ◌⊎◌, Bool, false, ℤ, pos, ◌≤ℤ◌, List, Some}
use Rattle.std.specs.List.{All, Any, slice_get}
use Rattle.std.specs.Option.{IsSomeAnd}
use Rattle.xt_model.specs.declared.edge.Edge.{Edge}
use Rattle.xt_model.specs.declared.quad.Pair.{Pair}
use Rattle.xt_model.specs.declared.check.CheckPoint.{CheckPoint}
use Rattle.xt_model.specs.Parts.{Parts}
use Rattle.xt_model.specs.Sound.{IsSound}
use Rattle.xt_model.specs.Levels.{AreLevels}
use Rattle.xt_model.specs.Assign.{assigned}
use Rattle.xt_meaning.specs.Fixpoint.{IsLeastFixpoint, IsGreatestFixpoint}
use Rattle.xt_meaning.specs.Envelope.{IsEnvelope}
use Rattle.run_laws.specs.Transitions.{Transition, AreConsistent}
use Rattle.slack_report.specs.declared.slack.Slack.{Slack}
use Rattle.slack_report.specs.Checks.{check_at}
use Rattle.slack_report.specs.Kinds.{IsWorst, HasNone}
use Rattle.slack_report.specs.Points.{is_hold}
use Rattle.slack_report.specs.Slacks.{slack_in, slacks}
use Rattle.slack_laws.specs.Arrivals.{Leave, Keep}

-- where words can hold the envelope and consistent transitions leave something at a check point, the check of that edge
-- has a slack in the greatest windows, and they leave no less
abbrev pub ConsistentLeaveSlack : Type 0
ConsistentLeaveSlack = (d : Parts) (levels : List ℕ) (top high : List Pair) (xs : List Transition) (i : ℕ)
    (p : CheckPoint) (e : Edge) (left : ℤ) → IsSound d → AreLevels d.nets levels → IsEnvelope d top
    → IsGreatestFixpoint d high → AreConsistent d xs → slice_get d.checks i ≡ Some p → Leave d xs p e left
    → IsSomeAnd (check_at i p e) (λ c. IsSomeAnd (slack_in d (assigned high) c) (λ s. s ≤ℤ left))

-- of an edge at the check point of this number: it is not idle, and its slack in the greatest windows is at most this
pub record IsAtMost (point : ℕ) (edge : Edge) (left : ℤ) (s : Slack) : Type 0 where
  pub at_point : s.point ≡ point
  pub at_edge : s.edge ≡ edge
  pub active : s.idle ≡ false
  pub greatest : s.greatest ≤ℤ left

-- and so it is in the list of the design's slacks
abbrev pub ConsistentLeaveSlacks : Type 0
ConsistentLeaveSlacks = (d : Parts) (levels : List ℕ) (top low high : List Pair) (xs : List Transition) (i : ℕ)
    (p : CheckPoint) (e : Edge) (left : ℤ) → IsSound d → AreLevels d.nets levels → IsEnvelope d top
    → IsLeastFixpoint d low → IsGreatestFixpoint d high → AreConsistent d xs → slice_get d.checks i ≡ Some p
    → Leave d xs p e left → Any (IsAtMost i e left) (slacks d low high)

-- so where no slack of the list is below 0 in the greatest windows, consistent transitions keep all checks
abbrev pub ConsistentKeepChecks : Type 0
ConsistentKeepChecks = (d : Parts) (levels : List ℕ) (top low high : List Pair) (xs : List Transition) (i : ℕ)
    (p : CheckPoint) (e : Edge) → IsSound d → AreLevels d.nets levels → IsEnvelope d top → IsLeastFixpoint d low
    → IsGreatestFixpoint d high → AreConsistent d xs → slice_get d.checks i ≡ Some p
    → All (λ s. pos 0 ≤ℤ s.greatest) (slacks d low high) → Keep d xs p e

-- the worst check of a kind, setup or hold, has a slack in the greatest windows that is not below 0, or all are idle
abbrev pub IsNotBelow : Parts → Bool → List Slack → Type 0
IsNotBelow d hold all = HasNone d hold all ⊎ ((j : ℕ) × (s : Slack) × IsWorst d hold all j s × (pos 0 ≤ℤ s.greatest))

-- then they keep all checks of that kind
abbrev pub ConsistentKeepKinds : Type 0
ConsistentKeepKinds = (d : Parts) (levels : List ℕ) (top low high : List Pair) (xs : List Transition) (i : ℕ)
    (p : CheckPoint) (e : Edge) → IsSound d → AreLevels d.nets levels → IsEnvelope d top → IsLeastFixpoint d low
    → IsGreatestFixpoint d high → AreConsistent d xs → slice_get d.checks i ≡ Some p
    → IsNotBelow d (is_hold p) (slacks d low high) → Keep d xs p e
