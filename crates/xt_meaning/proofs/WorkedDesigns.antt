-- Examples worked out by hand, computed by the definitions: two designs with two fixpoints each, and one whose
-- envelope is wider than its one fixpoint.
use Rattle.std.specs.Prelude.{◌≡◌, refl, ℕ, List, [], ◌∷◌, map, ℤ, pos, Some}
use Rattle.xt_model.specs.declared.edge.Edge.TheVariants.{Rise, Fall}
use Rattle.xt_model.specs.declared.quad.Pair.{Pair}
use Rattle.xt_model.specs.Parts.{Parts}
use Rattle.xt_model.specs.Assign.{Assignment, assigned}
use Rattle.xt_model.proofs.WorkedDesigns.{quad, cross, cross_windows, load_pair, pair_windows, pair_low, pair_high}
use Rattle.xt_meaning.specs.Lookup.{table_value, least_over, greatest_over}
use Rattle.xt_meaning.specs.Operator.{operator_by, step, widest_operator}

-- the windows of the first four nets, and of a fifth that is not there
abbrev five : Assignment → List Pair
five W = map (λ n. record { rise = W n Rise; fall = W n Fall }) (0 ∷ 1 ∷ 2 ∷ 3 ∷ 4 ∷ [])

-- the operator gives both windows of cross back
cross_low_fixed : five (step cross (cross_windows (pos 1700))) ≡ five (assigned (cross_windows (pos 1700)))
unfolding operator_by table_value least_over greatest_over
cross_low_fixed = refl

cross_high_fixed : five (step cross (cross_windows (pos 1500))) ≡ five (assigned (cross_windows (pos 1500)))
unfolding operator_by table_value least_over greatest_over
cross_high_fixed = refl

-- and both of the load pair
pair_low_fixed : five (step (load_pair (pos 100)) pair_low) ≡ five (assigned pair_low)
unfolding operator_by table_value least_over greatest_over
pair_low_fixed = refl

pair_high_fixed : five (step (load_pair (pos 100)) pair_high) ≡ five (assigned pair_high)
unfolding operator_by table_value least_over greatest_over
pair_high_fixed = refl

-- with its second source far later the two nets never meet, so the loads are plain
apart_fixed : five (step (load_pair (pos 5000)) (pair_windows (pos 5000) (quad (pos 1000) (pos 1000) (pos 0) (pos 0)) (quad (pos 6000) (pos 6000) (pos 0) (pos 0))))
    ≡ five (assigned (pair_windows (pos 5000) (quad (pos 1000) (pos 1000) (pos 0) (pos 0)) (quad (pos 6000) (pos 6000) (pos 0) (pos 0))))
unfolding operator_by table_value least_over greatest_over
apart_fixed = refl

-- but the envelope, where everything overlaps, is wider
apart_envelope : five (widest_operator (load_pair (pos 5000)) (assigned (pair_windows (pos 5000) (quad (pos 800) (pos 1200) (pos 0) (pos 0)) (quad (pos 5800) (pos 6200) (pos 0) (pos 0)))))
    ≡ five (assigned (pair_windows (pos 5000) (quad (pos 800) (pos 1200) (pos 0) (pos 0)) (quad (pos 5800) (pos 6200) (pos 0) (pos 0))))
unfolding operator_by table_value least_over greatest_over
apart_envelope = refl

-- ---- the load pair with a clock, and with other factors
abbrev clocked : ℤ → Parts
clocked period = record (load_pair (pos 100)) { period = Some period }

-- a period of 1000 fs changes nothing; with one of 100 fs the two nets always meet
slow_clock_low : five (step (clocked (pos 1000)) pair_low) ≡ five (assigned pair_low)
unfolding operator_by table_value least_over greatest_over
slow_clock_low = refl

slow_clock_high : five (step (clocked (pos 1000)) pair_high) ≡ five (assigned pair_high)
unfolding operator_by table_value least_over greatest_over
slow_clock_high = refl

fast_clock_fixed : five (step (clocked (pos 100)) pair_high) ≡ five (assigned pair_high)
unfolding operator_by table_value least_over greatest_over
fast_clock_fixed = refl

fast_clock_meets : five (step (clocked (pos 100)) pair_low) ≡ five (assigned pair_high)
unfolding operator_by table_value least_over greatest_over
fast_clock_meets = refl

abbrev counted_by : ℕ → ℕ → ℕ → Parts
counted_by low mid high = record (load_pair (pos 100)) { miller = record { low = low; mid = mid; high = high } }

-- three whole capacitors where the other edge switches: 200 fs more at the latest
thrice_low : five (step (counted_by 0 4 12) pair_low) ≡ five (assigned pair_low)
unfolding operator_by table_value least_over greatest_over
thrice_low = refl

abbrev thrice_high : List Pair
thrice_high = pair_windows (pos 100) (quad (pos 1000) (pos 1400) (pos 0) (pos 0)) (quad (pos 1100) (pos 1500) (pos 0) (pos 0))

thrice_high_fixed : five (step (counted_by 0 4 12) thrice_high) ≡ five (assigned thrice_high)
unfolding operator_by table_value least_over greatest_over
thrice_high_fixed = refl

-- one whole capacitor everywhere: whether the nets meet makes no difference
once_fixed : five (step (counted_by 4 4 4) pair_low) ≡ five (assigned pair_low)
unfolding operator_by table_value least_over greatest_over
once_fixed = refl

once_meets : five (step (counted_by 4 4 4) pair_high) ≡ five (assigned pair_low)
unfolding operator_by table_value least_over greatest_over
once_meets = refl

once_envelope : five (widest_operator (counted_by 4 4 4) (assigned pair_low)) ≡ five (assigned pair_low)
unfolding operator_by table_value least_over greatest_over
once_envelope = refl
