-- Slacks, check point by check point.
use Rattle.std.proofs.Common.{◌≡◌, ℕ, ◌+◌, ◌<◌, ◌≤◌, sym, ap, ◌∙◌, List, [], ◌++◌, length, map, drop, get_or, append_assoc}
use Rattle.std.proofs.lemmas.List.{map-append, append-nil, at_drop_more, at_drop_all}
use Rattle.xt_model.specs.declared.edge.Edge.TheVariants.{Rise, Fall}
use Rattle.xt_model.specs.declared.check.CheckPoint.{CheckPoint}
use Rattle.slack_report.specs.declared.check.Check.{Check}
use Rattle.slack_report.specs.declared.slack.Slack.{Slack}
use Rattle.slack_report.specs.Checks.{check_at, listed, checks_from}

-- a turn of the loop over check points
pub points_turn : (f : Check → Slack) (points : List CheckPoint) (i : ℕ) (p : CheckPoint) (done rise fall whole : List Slack) → i < length points
    → rise ≡ done ++ map f (listed (check_at i (get_or points i p) Rise)) → fall ≡ rise ++ map f (listed (check_at i (get_or points i p) Fall))
    → done ++ map f (checks_from i (drop i points)) ≡ whole → fall ++ map f (checks_from (i + 1) (drop (i + 1) points)) ≡ whole
points_turn f points i p done rise fall whole h rise_is fall_is so_far =
    let a = listed (check_at i (get_or points i p) Rise) in
    let b = listed (check_at i (get_or points i p) Fall) in
    let more = checks_from (i + 1) (drop (i + 1) points) in
    let split : map f ((a ++ b) ++ more) ≡ (map f a ++ map f b) ++ map f more = map-append f (a ++ b) more ∙ ap (λ t. t ++ map f more) (map-append f a b) in
    let step : done ++ map f (checks_from i (drop i points)) ≡ done ++ map f ((a ++ b) ++ more) = at_drop_more (λ r. done ++ map f (checks_from i r)) points i p h in
    let grouped : ((done ++ map f a) ++ map f b) ++ map f more ≡ done ++ ((map f a ++ map f b) ++ map f more) = simp append_assoc in
    let e : fall ++ map f more ≡ done ++ ((map f a ++ map f b) ++ map f more) = rw (fall_is, rise_is) grouped in
    e ∙ (ap (λ t. done ++ t) (sym split) ∙ (sym step ∙ so_far))

-- the end of that loop
pub points_end : (f : Check → Slack) (points : List CheckPoint) (i : ℕ) (done whole : List Slack) → length points ≤ i → done ++ map f (checks_from i (drop i points)) ≡ whole → done ≡ whole
points_end f points i done whole past h =
    let step : done ++ map f (checks_from i (drop i points)) ≡ done ++ [] = at_drop_all (λ r. done ++ map f (checks_from i r)) points i past in
    sym (append-nil done) ∙ (sym step ∙ h)
