-- From what transitions leave at a check point to the slacks of the design.
use Rattle.std.proofs.Common.{◌≡◌, ℕ, zero, suc, ◌+◌, ◌<◌, inl, inr, refl, sym, ap, subst, ◌∙◌, List, length, get_or, [], ◌∷◌, ℤ, pos, ◌≤ℤ◌, arith}
use Rattle.std.specs.Prelude.{Option, Some, None}
use Rattle.std.specs.List.{All, Any, slice_get}
use Rattle.std.specs.Option.{IsSomeAnd}
use Rattle.std.proofs.lemmas.Int.{ints}
use Rattle.std.proofs.lemmas.Option.{none-some, same_Some, slice_get-get_or}
use Rattle.std.proofs.lemmas.List.Elements.{All-contains}
use Rattle.xt_model.specs.declared.edge.Edge.{Edge}
use Rattle.xt_model.specs.declared.edge.Edge.TheVariants.{Rise, Fall}
use Rattle.xt_model.specs.declared.quad.Pair.{Pair}
use Rattle.xt_model.specs.declared.check.CheckPoint.{CheckPoint}
use Rattle.xt_model.specs.declared.check.CheckPoint.TheVariants.{Flop, Port}
use Rattle.xt_model.specs.Parts.{Parts}
use Rattle.xt_model.specs.Sound.{IsSound}
use Rattle.xt_model.specs.Levels.{AreLevels}
use Rattle.xt_model.specs.Assign.{Assignment, assigned}
use Rattle.xt_meaning.specs.Fixpoint.{IsLeastFixpoint, IsGreatestFixpoint}
use Rattle.xt_meaning.specs.Envelope.{IsEnvelope}
use Rattle.xt_meaning.proofs.Growth.{wired}
use Rattle.run_laws.specs.Transitions.{Transition, AreConsistent}
use Rattle.run_laws.proofs.Hulls.{within_greatest}
use Rattle.slack_report.specs.declared.slack.Slack.{Slack}
use Rattle.slack_report.specs.Checks.{check_at, listed, checks_at, checks_from, checks_of}
use Rattle.slack_report.specs.Kinds.{Counts}
use Rattle.slack_report.specs.Points.{is_hold}
use Rattle.slack_report.specs.Slacks.{slack_in, slack_by, slack_of, slacks}
use Rattle.slack_laws.specs.Arrivals.{Leave}
use Rattle.slack_laws.specs.Laws.{IsAtMost, IsNotBelow}
use Rattle.slack_laws.proofs.Lists.{Has, has_left, has_right, has_mapped, any_from_has}
use Rattle.slack_laws.proofs.Below.{HaveSlacks, slacks_below, slacks_there}
use Rattle.slack_laws.proofs.Live.{live_there}

-- ---- one check
some_then : {X : Type 0} (o : Option X) (P Q : X → Type 0) → IsSomeAnd o P → ((x : X) → P x → Q x) → IsSomeAnd o Q
some_then None P Q h k = absurd h
some_then (Some x) P Q h k = k x h

-- what holds of slacks in these windows and in those holds of the check of an edge
at_point : (d : Parts) (xs : List Transition) (V W : Assignment) (P Q : ℤ → Type 0) (left : ℤ) (i : ℕ) (p : CheckPoint) (e : Edge) → HaveSlacks d xs V left P → HaveSlacks d xs W left Q → Leave d xs p e left
    → IsSomeAnd (check_at i p e) (λ c. (c.point ≡ i) × (c.edge ≡ e) × IsSomeAnd (slack_in d V c) P × IsSomeAnd (slack_in d W c) Q)
at_point d xs V W P Q left i (Flop name hold net sink clock clock_sink None fall) Rise v w l = absurd l
at_point d xs V W P Q left i (Flop name hold net sink clock clock_sink (Some table) fall) Rise v w l =
    (refl, refl, v.flop hold net.0 Rise sink clock.0 clock_sink table l, w.flop hold net.0 Rise sink clock.0 clock_sink table l)
at_point d xs V W P Q left i (Flop name hold net sink clock clock_sink rise None) Fall v w l = absurd l
at_point d xs V W P Q left i (Flop name hold net sink clock clock_sink rise (Some table)) Fall v w l =
    (refl, refl, v.flop hold net.0 Fall sink clock.0 clock_sink table l, w.flop hold net.0 Fall sink clock.0 clock_sink table l)
at_point d xs V W P Q left i (Port name hold net sink None fall) Rise v w l = absurd l
at_point d xs V W P Q left i (Port name hold net sink (Some delay) fall) Rise v w l = (refl, refl, v.port hold net.0 Rise sink delay l, w.port hold net.0 Rise sink delay l)
at_point d xs V W P Q left i (Port name hold net sink rise None) Fall v w l = absurd l
at_point d xs V W P Q left i (Port name hold net sink rise (Some delay)) Fall v w l = (refl, refl, v.port hold net.0 Fall sink delay l, w.port hold net.0 Fall sink delay l)

-- ---- all checks
has_listed : {X : Type 0} (P : X → Type 0) (o : Option X) → IsSomeAnd o P → Has P (listed o)
has_listed P None h = absurd h
has_listed P (Some x) h = inl h

module _ (d : Parts) (V W : Assignment) (P : Slack → Type 0) (p : CheckPoint) where
  has_at : (i : ℕ) (e : Edge) → IsSomeAnd (check_at i p e) (λ c. P (slack_of d V W c)) → Has (λ c. P (slack_of d V W c)) (checks_at i p)
  has_at i Rise h = has_left (λ c. P (slack_of d V W c)) (listed (check_at i p Rise)) (listed (check_at i p Fall)) (has_listed (λ c. P (slack_of d V W c)) (check_at i p Rise) h)
  has_at i Fall h = has_right (λ c. P (slack_of d V W c)) (listed (check_at i p Rise)) (listed (check_at i p Fall)) (has_listed (λ c. P (slack_of d V W c)) (check_at i p Fall) h)

  has_from : (from : ℕ) (points : List CheckPoint) (k i : ℕ) (e : Edge) → slice_get points k ≡ Some p → i ≡ from + k → IsSomeAnd (check_at i p e) (λ c. P (slack_of d V W c))
      → Has (λ c. P (slack_of d V W c)) (checks_from from points)
  has_from from [] k i e there place h = absurd (none-some p there)
  has_from from (q ∷ more) zero i e there place h =
      let here : i ≡ from = omega (arith, place) in
      let Q : CheckPoint → Type 0 = λ r. Has (λ c. P (slack_of d V W c)) (checks_at from r) in
      let R : ℕ → Type 0 = λ j. Has (λ c. P (slack_of d V W c)) (checks_at j p) in
      has_left (λ c. P (slack_of d V W c)) (checks_at from q) (checks_from (from + 1) more) (subst Q (sym (same_Some q p there)) (subst R here (has_at i e h)))
  has_from from (q ∷ more) (suc k) i e there place h =
      has_right (λ c. P (slack_of d V W c)) (checks_at from q) (checks_from (from + 1) more) (has_from (from + 1) more k i e there (omega (arith, place)) h)

both_some : {B : Type 0} (f : Option ℤ → Option ℤ → B) (o r : Option ℤ) (P Q : ℤ → Type 0) (R : B → Type 0) → IsSomeAnd o P → IsSomeAnd r Q → ((s t : ℤ) → P s → Q t → R (f (Some s) (Some t))) → R (f o r)
both_some f None r P Q R h k each = absurd h
both_some f (Some s) None P Q R h k each = absurd k
both_some f (Some s) (Some t) P Q R h k each = each s t h k

listed_get : (all : List Slack) (j : ℕ) (s : Slack) → j < length all → get_or all j s ≡ s → slice_get all j ≡ Some s
listed_get all j s h is = slice_get-get_or all j s h ∙ ap (λ x. Some x) is

-- ---- the laws
module _ (d : Parts) (levels : List ℕ) (top high : List Pair) (xs : List Transition) (i : ℕ) (p : CheckPoint) (e : Edge) (left : ℤ)
    (sound : IsSound d) (are : AreLevels d.nets levels) (env : IsEnvelope d top) (greatest : IsGreatestFixpoint d high) (why : AreConsistent d xs) where
  below : HaveSlacks d xs (assigned high) left (λ s. s ≤ℤ left)
  below = slacks_below d (assigned high) xs left (wired d sound) (within_greatest d levels top high xs sound are env greatest why)

  pub leave_slack : Leave d xs p e left → IsSomeAnd (check_at i p e) (λ c. IsSomeAnd (slack_in d (assigned high) c) (λ s. s ≤ℤ left))
  leave_slack l = some_then (check_at i p e) _ _ (at_point d xs (assigned high) (assigned high) (λ s. s ≤ℤ left) (λ s. s ≤ℤ left) left i p e below below l) (λ c h. h.2)

  module _ (low : List Pair) (least : IsLeastFixpoint d low) (there : slice_get d.checks i ≡ Some p) where
    some : HaveSlacks d xs (assigned low) left (λ s. Unit {0})
    some = slacks_there d (assigned low) xs left (live_there d levels (assigned low) xs (wired d sound) are least.fixpoint.fixed why)

    counts : (s : Slack) → IsAtMost i e left s → Counts d (is_hold p) s
    counts s h = record { point = p; there = rw h.at_point there; kind = refl; active = h.active }

    pub leave_slacks : Leave d xs p e left → Any (IsAtMost i e left) (slacks d low high)
    leave_slacks l =
        any_from_has (IsAtMost i e left) (slacks d low high)
        (has_mapped (slack_of d (assigned low) (assigned high)) (IsAtMost i e left) (checks_of d)
        (has_from d (assigned low) (assigned high) (IsAtMost i e left) p 0 d.checks i i e there (omega arith)
        (some_then (check_at i p e) _ _ (at_point d xs (assigned high) (assigned low) (λ s. s ≤ℤ left) (λ s. Unit {0}) left i p e below some l)
        (λ c h.
        both_some (slack_by c) (slack_in d (assigned high) c) (slack_in d (assigned low) c) (λ s. s ≤ℤ left) (λ s. Unit {0}) (IsAtMost i e left) h.2 h.3
        (λ s t under other. record { at_point = h.0; at_edge = h.1; active = refl; greatest = under })))))

    pub not_below : All (λ s. pos 0 ≤ℤ s.greatest) (slacks d low high) → Leave d xs p e left → pos 0 ≤ℤ left
    not_below all l =
        let a = leave_slacks l in
        let above : pos 0 ≤ℤ a.1.greatest = All-contains (λ s. pos 0 ≤ℤ s.greatest) (slacks d low high) a.1 all (a.0, a.2, a.3) in
        omega (arith, ints, above, a.4.greatest)

    not_below_worst : IsNotBelow d (is_hold p) (slacks d low high) → Any (IsAtMost i e left) (slacks d low high) → pos 0 ≤ℤ left
    not_below_worst (inl none) a = absurd (none a.0 a.1 (listed_get (slacks d low high) a.0 a.1 a.2 a.3) (counts a.1 a.4))
    not_below_worst (inr w) a =
        let under = w.2.least a.0 a.1 (listed_get (slacks d low high) a.0 a.1 a.2 a.3) (counts a.1 a.4) in
        omega (arith, ints, under, w.3, a.4.greatest)

    pub not_below_kind : IsNotBelow d (is_hold p) (slacks d low high) → Leave d xs p e left → pos 0 ≤ℤ left
    not_below_kind met l = not_below_worst met (leave_slacks l)
