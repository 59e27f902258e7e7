-- The hull of a consistent list lies within what the operator makes of it, so it lies within the greatest windows.
use Rattle.std.proofs.Common.{◌≡◌, ℕ, zero, suc, ◌+◌, ◌<◌, ◌≤◌, inl, inr, refl, sym, ap, subst, Bool, true, false, List, [], ◌∷◌, length, arith}
use Rattle.std.specs.Prelude.{IsTrue, if◌then◌else◌, ◌&&◌, Option, Some, None}
use Rattle.std.specs.List.{All, Contains, slice_get}
use Rattle.std.specs.Option.{IsSomeAnd}
use Rattle.std.proofs.lemmas.Bool.{cases_lt}
use Rattle.std.proofs.lemmas.Int.{ints, clamps}
use Rattle.std.proofs.lemmas.Option.{slice_get_within}
use Rattle.std.proofs.lemmas.List.Elements.{All-nil, All-cons, All-head, All-tail, All-weaker, All-contains, All-contains_itself}
use Rattle.xt_model.specs.declared.edge.Edge.{Edge}
use Rattle.xt_model.specs.declared.edge.Edge.TheVariants.{Rise, Fall}
use Rattle.xt_model.specs.declared.quad.Quad.{Quad}
use Rattle.xt_model.specs.declared.quad.Pair.{Pair}
use Rattle.xt_model.specs.declared.net.Net.{Net}
use Rattle.xt_model.specs.Quads.{bottom, IsWithin, IsBound, IsInRange, IsPairInRange, join_of, same_edge}
use Rattle.xt_model.specs.Parts.{Parts}
use Rattle.xt_model.specs.Sound.{IsSound}
use Rattle.xt_model.specs.Levels.{AreLevels}
use Rattle.xt_model.specs.Assign.{Assignment, assigned}
use Rattle.xt_meaning.specs.Overlap.{overlap_answers}
use Rattle.xt_meaning.specs.Operator.{operator, step}
use Rattle.xt_meaning.specs.Fixpoint.{IsWindows, IsContained, IsGreatestFixpoint}
use Rattle.xt_meaning.specs.Envelope.{IsWidest, IsEnvelope}
use Rattle.xt_meaning.proofs.Order.{within_trans, within_refl, join_left, join_most, both_true, true_both, live_mono}
use Rattle.xt_meaning.proofs.Growth.{wired}
use Rattle.xt_meaning.proofs.Listed.{listed, length-listed, listed_inside, listed_past, listed_in_range}
use Rattle.xt_meaning.proofs.Starts.{bottom_in_range, join_in_range, windows_in_range, bottom_within_operator}
use Rattle.run_laws.specs.Transitions.{Transition, IsExplainedBy, IsExplained, AreConsistent}
use Rattle.run_laws.specs.Laws.{LiesInLive, LieWithin}
use Rattle.run_laws.proofs.Cells.{point, point_live, lies_from_within, within_from_lies}
use Rattle.run_laws.proofs.Explained.{joined, same_edge_itself, HoldAll, operator_holds, widest_holds}

-- ---- where a transition is
same_number : ℕ → ℕ → Bool
same_number zero zero = true
same_number zero (suc n) = false
same_number (suc m) zero = false
same_number (suc m) (suc n) = same_number m n

same_number_itself : (n : ℕ) → IsTrue (same_number n n)
unfolding same_number
same_number_itself zero = refl
same_number_itself (suc n) = same_number_itself n

from_same_number : (m n : ℕ) → IsTrue (same_number m n) → m ≡ n
unfolding same_number
from_same_number zero zero h = refl
from_same_number zero (suc n) h = absurd (cc)
from_same_number (suc m) zero h = absurd (cc)
from_same_number (suc m) (suc n) h = ap suc (from_same_number m n h)

from_same_edge : (e f : Edge) → IsTrue (same_edge e f) → e ≡ f
from_same_edge Rise Rise h = refl
from_same_edge Rise Fall h = absurd (cc)
from_same_edge Fall Rise h = absurd (cc)
from_same_edge Fall Fall h = refl

is_at : Transition → ℕ → Edge → Bool
is_at x n e = same_number x.net n && same_edge x.edge e

is_at_itself : (x : Transition) → IsTrue (is_at x x.net x.edge)
unfolding is_at
is_at_itself x = true_both (same_number x.net x.net) (same_edge x.edge x.edge) (same_number_itself x.net) (same_edge_itself x.edge)

-- ---- the hull of a list
hull : List Transition → Assignment
hull [] n e = bottom
hull (x ∷ more) n e = if is_at x n e then join_of (hull more n e) (point x) else hull more n e

grown : (t : Bool) (q r : Quad) → IsWithin q (if t then join_of q r else q)
grown true q r = join_left q r
grown false q r = within_refl q

joined_most : (t : Bool) (q r s : Quad) → IsWithin q s → (IsTrue t → IsWithin r s) → IsWithin (if t then join_of q r else q) s
joined_most true q r s h k = join_most q r s h (k refl)
joined_most false q r s h k = h

-- it holds each transition
hull_holds : (xs : List Transition) → All (λ x. IsWithin (point x) (hull xs x.net x.edge)) xs
unfolding hull
hull_holds [] = All-nil (λ x. IsWithin (point x) (hull [] x.net x.edge))
hull_holds (x ∷ more) = All-cons (λ y. IsWithin (point y) (hull (x ∷ more) y.net y.edge)) x more
    (joined (is_at x x.net x.edge) (hull more x.net x.edge) (point x) (is_at_itself x))
    (All-weaker (λ y. IsWithin (point y) (hull more y.net y.edge)) (λ y. IsWithin (point y) (hull (x ∷ more) y.net y.edge))
    (λ y h. within_trans (point y) (hull more y.net y.edge) (hull (x ∷ more) y.net y.edge) h (grown (is_at x y.net y.edge) (hull more y.net y.edge) (point x)))
    more (hull_holds more))

-- and lies within windows that hold each transition
hull_most : (xs : List Transition) (V : Assignment) (n : ℕ) (e : Edge) → IsWithin bottom (V n e) → All (λ x. IsWithin (point x) (V x.net x.edge)) xs → IsWithin (hull xs n e) (V n e)
unfolding hull is_at
hull_most [] V n e above each = above
hull_most (x ∷ more) V n e above each =
    joined_most (is_at x n e) (hull more n e) (point x) (V n e) (hull_most more V n e above (All-tail (λ y. IsWithin (point y) (V y.net y.edge)) x more each))
    (λ t.
    let p = both_true (same_number x.net n) (same_edge x.edge e) t in
    let P : ℕ → Type 0 = λ i. IsWithin (point x) (V i x.edge) in
    let Q : Edge → Type 0 = λ f. IsWithin (point x) (V n f) in
    subst Q (from_same_edge x.edge e p.1) (subst P (from_same_number x.net n p.0) (All-head (λ y. IsWithin (point y) (V y.net y.edge)) x more each)))

-- ---- words can hold it
point_in_range : (x : Transition) (q : Quad) → IsInRange q → IsWithin (point x) q → IsInRange (point x)
point_in_range x q r w =
    let time : IsBound x.time = record { low = omega (arith, ints, r.tlo.low, w.tlo); high = omega (arith, ints, r.thi.high, w.thi) } in
    let slew : IsBound x.slew = record { low = omega (arith, ints, r.slo.low, w.slo); high = omega (arith, ints, r.shi.high, w.shi) } in
    record { tlo = time; thi = time; slo = slew; shi = slew }

chosen_in_range : (t : Bool) (q r : Quad) → IsInRange q → IsInRange r → IsInRange (if t then join_of q r else q)
chosen_in_range true q r a b = join_in_range q r a b
chosen_in_range false q r a b = a

hull_in_range : (xs : List Transition) → All (λ x. IsInRange (point x)) xs → (n : ℕ) (e : Edge) → IsInRange (hull xs n e)
unfolding hull
hull_in_range [] each n e = bottom_in_range
hull_in_range (x ∷ more) each n e =
    chosen_in_range (is_at x n e) (hull more n e) (point x) (hull_in_range more (All-tail (λ y. IsInRange (point y)) x more each) n e) (All-head (λ y. IsInRange (point y)) x more each)

-- ---- as a list of windows
hull_windows : Parts → List Transition → List Pair
hull_windows d xs = listed (hull xs) 0 (length d.nets)

inside_is_hull : (d : Parts) (xs : List Transition) (n : ℕ) (e : Edge) → n < length d.nets → assigned (hull_windows d xs) n e ≡ hull xs n e
unfolding hull_windows
inside_is_hull d xs n e h =
    let k : 0 + n ≡ n = omega arith in
    let P : ℕ → Type 0 = λ i. assigned (listed (hull xs) 0 (length d.nets)) n e ≡ hull xs i e in
    subst P k (listed_inside (hull xs) 0 (length d.nets) n e h)

past_is_bottom : (d : Parts) (xs : List Transition) (n : ℕ) (e : Edge) → length d.nets ≤ n → assigned (hull_windows d xs) n e ≡ bottom
unfolding hull_windows
past_is_bottom d xs n e h = listed_past (hull xs) 0 (length d.nets) n e h

-- ---- the hull of a consistent list
all_from_each : (P : Transition → Type 0) (xs : List Transition) → ((x : Transition) → Contains xs x → P x) → All P xs
all_from_each P xs h = All-weaker (Contains xs) P h xs (All-contains_itself xs)

net_there : (d : Parts) (xs : List Transition) (x : Transition) (o : Option Net) → slice_get d.nets x.net ≡ o → IsSomeAnd o (λ net. IsExplainedBy d xs net x net.arcs) → x.net < length d.nets
net_there d xs x None e why = absurd why
net_there d xs x (Some net) e why = slice_get_within d.nets x.net net e

hull_windows_hold : (d : Parts) (xs : List Transition) → AreConsistent d xs → HoldAll (assigned (hull_windows d xs)) xs
hull_windows_hold d xs why = λ x h.
    let inside = net_there d xs x (slice_get d.nets x.net) refl (All-contains (IsExplained d xs) xs x why h) in
    let P : Quad → Type 0 = λ q. IsWithin (point x) q in
    subst P (sym (inside_is_hull d xs x.net x.edge inside)) (All-contains (λ y. IsWithin (point y) (hull xs y.net y.edge)) xs x (hull_holds xs) h)

hull_fits : (d : Parts) (xs : List Transition) → IsSound d → AreConsistent d xs → IsContained (assigned (hull_windows d xs)) (step d (hull_windows d xs))
hull_fits d xs s why = record { each = each } where
  held : All (λ y. IsWithin (point y) (step d (hull_windows d xs) y.net y.edge)) xs
  held =
      all_from_each (λ y. IsWithin (point y) (step d (hull_windows d xs) y.net y.edge)) xs
      (operator_holds d (assigned (hull_windows d xs)) xs (wired d s) why (hull_windows_hold d xs why))

  above : (n : ℕ) (e : Edge) → IsWithin bottom (step d (hull_windows d xs) n e)
  above n e = bottom_within_operator d (overlap_answers d.period (assigned (hull_windows d xs))) (assigned (hull_windows d xs)) n e s

  each : (n : ℕ) (e : Edge) → IsWithin (assigned (hull_windows d xs) n e) (step d (hull_windows d xs) n e)
  each n e =
      let P : Quad → Type 0 = λ q. IsWithin q (step d (hull_windows d xs) n e) in
      elim (cases_lt n (length d.nets)) [
        | inl p ↦ subst P (sym (inside_is_hull d xs n e p)) (hull_most xs (step d (hull_windows d xs)) n e (above n e) held)
        | inr p ↦ subst P (sym (past_is_bottom d xs n e p)) (above n e)
      ]

hull_is_windows : (d : Parts) (xs : List Transition) → All (λ x. IsInRange (point x)) xs → IsWindows d (hull_windows d xs)
unfolding hull_windows
hull_is_windows d xs range = record {
  count = length-listed (hull xs) 0 (length d.nets);
  in_range = listed_in_range (hull xs) 0 (length d.nets) (hull_in_range xs range);
}

-- ---- the laws
lie_from_held : (W : Assignment) (xs : List Transition) → HoldAll W xs → LieWithin W xs
lie_from_held W xs held = all_from_each (λ x. LiesInLive (W x.net x.edge) x) xs
    (λ x h. record { live = live_mono (point x) (W x.net x.edge) (held x h) (point_live x); bounds = lies_from_within (W x.net x.edge) x (held x h) })

held_from_lie : (W : Assignment) (xs : List Transition) → LieWithin W xs → HoldAll W xs
held_from_lie W xs lie = λ x h. within_from_lies (W x.net x.edge) x (All-contains (λ y. LiesInLive (W y.net y.edge) y) xs x lie h).bounds

pub within_envelope : (d : Parts) (ls : List ℕ) (top : List Pair) (xs : List Transition) → IsSound d → AreLevels d.nets ls → IsWidest d top → AreConsistent d xs → LieWithin (assigned top) xs
within_envelope d ls top xs s levels widest why = lie_from_held (assigned top) xs (widest_holds d ls xs top (wired d s) levels widest why)

pub operator_keeps : (d : Parts) (W : Assignment) (xs : List Transition) → IsSound d → AreConsistent d xs → LieWithin W xs → LieWithin (operator d W) xs
operator_keeps d W xs s why lie = lie_from_held (operator d W) xs (operator_holds d W xs (wired d s) why (held_from_lie W xs lie))

pub within_greatest : (d : Parts) (ls : List ℕ) (top high : List Pair) (xs : List Transition) → IsSound d → AreLevels d.nets ls → IsEnvelope d top → IsGreatestFixpoint d high → AreConsistent d xs
    → LieWithin (assigned high) xs
within_greatest d ls top high xs s levels env greatest why =
    let held = widest_holds d ls xs top (wired d s) levels env.widest why in
    let range = all_from_each (λ x. IsInRange (point x)) xs (λ x h. point_in_range x (assigned top x.net x.edge) (windows_in_range d top env.windows x.net x.edge) (held x h)) in
    let under = greatest.greatest (hull_windows d xs) (hull_is_windows d xs range) (hull_fits d xs s why) in
    lie_from_held (assigned high) xs
    (λ x h. within_trans (point x) (assigned (hull_windows d xs) x.net x.edge) (assigned high x.net x.edge) (hull_windows_hold d xs why x h) (under.each x.net x.edge))
