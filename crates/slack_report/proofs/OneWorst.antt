-- One check at most is the worst of a kind.
use Rattle.std.proofs.Common.{◌≡◌, ℕ, ◌<◌, ap, sym, ◌∙◌, Bool, List, inl, inr, arith}
use Rattle.std.specs.List.{slice_get}
use Rattle.std.proofs.lemmas.Bool.{cases_lt}
use Rattle.std.proofs.lemmas.Int.{ints}
use Rattle.std.proofs.lemmas.Option.{same_Some}
use Rattle.xt_model.specs.Parts.{Parts}
use Rattle.slack_report.specs.declared.slack.Slack.{Slack}
use Rattle.slack_report.specs.Kinds.{HasNone, IsWorst}

module _ (d : Parts) (hold : Bool) (all : List Slack) where
  -- a worst check does not come before another
  not_before : (i j : ℕ) (s t : Slack) → IsWorst d hold all i s → IsWorst d hold all j t → i < j → ⊥
  not_before i j s t a b lt =
      let less = b.first i s lt a.there a.counts in
      let least = a.least j t b.there b.counts in
      absurd (omega (arith, ints, less, least))

  pub one_place : (i j : ℕ) (s t : Slack) → IsWorst d hold all i s → IsWorst d hold all j t → i ≡ j
  one_place i j s t a b = elim (cases_lt i j) [
    | inl lt ↦ absurd (not_before i j s t a b lt)
    | inr ge ↦ elim (cases_lt j i) [
      | inl lt ↦ absurd (not_before j i t s b a lt)
      | inr le ↦ omega (arith, ge, le)
    ]
  ]

  pub one_worst : (i j : ℕ) (s t : Slack) → IsWorst d hold all i s → IsWorst d hold all j t → s ≡ t
  one_worst i j s t a b = same_Some s t (sym a.there ∙ (ap (slice_get all) (one_place i j s t a b) ∙ b.there))

  pub none_or_worst : (i : ℕ) (s : Slack) → HasNone d hold all → IsWorst d hold all i s → ⊥
  none_or_worst i s none a = none i s a.there a.counts
