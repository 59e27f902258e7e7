use Rattle.std.proofs.Common.{◌≡◌, refl, ◌∙◌, ◌<◌, ◌≤◌, ◌-◌, List, [], ◌∷◌, length, take, drop, true, false, SFits, w64, to_z-of_z, arith, rules}
use Rattle.std.specs.Prelude.{ℤ, pos, int_lt, int_le}
use Rattle.std.proofs.lemmas.List.{take_rest}
use Rattle.std.specs.List.{slice_index_or}
use Rattle.liberty_tables.specs.Tables.{is_increasing}
use Rattle.liberty_tables.proofs.table.is_increasing.Goals as goal

less : (x y : ℤ) → int_le y x ≡ false → int_lt x y ≡ true
less x y e = search rules

not_less : (x y : ℤ) → int_le y x ≡ true → int_lt x y ≡ false
not_less x y e = search rules

-- what a number and the next say of a list
goes_on : (xs : List ℤ) → int_le (slice_index_or (drop 1 xs) 0 (pos 0)) (slice_index_or xs 0 (pos 0)) ≡ false
    → is_increasing (drop 1 xs) ≡ is_increasing xs
goes_on [] e = refl
goes_on (x ∷ []) e = refl
goes_on (x ∷ y ∷ more) e = rw (less x y e) refl

ends : (xs : List ℤ) → length (drop 1 xs) < 1 → is_increasing (drop 1 xs) ≡ is_increasing xs
ends [] h = refl
ends (x ∷ []) h = refl
ends (x ∷ y ∷ more) h = absurd (omega (arith, h))

falls : (xs : List ℤ) → 1 ≤ length (drop 1 xs) → int_le (slice_index_or (drop 1 xs) 0 (pos 0)) (slice_index_or xs 0 (pos 0)) ≡ true
    → false ≡ is_increasing xs
falls [] h e = absurd (omega (arith, h))
falls (x ∷ []) h e = absurd (omega (arith, h))
falls (x ∷ y ∷ more) h e = rw (not_less x y e) refl

none : (xs : List ℤ) → length xs < 1 → true ≡ is_increasing xs
none [] h = refl
none (x ∷ xs) h = absurd (omega (arith, h))

pub numbers-preserved : goal.numbers-preserved
numbers-preserved c =
    let rest : List ℤ = c.numbers.rest.now in
    let one : SFits w64 (slice_index_or rest 0 (pos 0)) = search rules in
    let next : SFits w64 (slice_index_or (take (length rest - 1) (drop 1 rest)) 0 (pos 0)) = search rules in
    let e : int_le (slice_index_or (take (length rest - 1) (drop 1 rest)) 0 (pos 0)) (slice_index_or rest 0 (pos 0)) ≡ false =
    rw (to_z-of_z one, to_z-of_z next) at c.if-one-next.false in
    let on : is_increasing (take (length rest - 1) (drop 1 rest)) ≡ is_increasing rest =
    rw (take_rest rest 1) (goes_on rest (rw (take_rest rest 1) at e)) in
    on ∙ c.numbers.invariant

pub numbers-preserved-in_default-more : goal.numbers-preserved-in_default-more
numbers-preserved-in_default-more c =
    let rest : List ℤ = c.numbers.rest.now in
    let on : is_increasing (take (length rest - 1) (drop 1 rest)) ≡ is_increasing rest =
    rw (take_rest rest 1) (ends rest (rw (take_rest rest 1) at c.in_default-more.len_below)) in
    on ∙ c.numbers.invariant

pub returns : goal.returns
returns c = none c.numbers.rest.now c.in_default.len_below ∙ c.numbers.invariant

pub returns-then-one-next : goal.returns-then-one-next
returns-then-one-next c =
    let rest : List ℤ = c.numbers.rest.now in
    let one : SFits w64 (slice_index_or rest 0 (pos 0)) = search rules in
    let next : SFits w64 (slice_index_or (take (length rest - 1) (drop 1 rest)) 0 (pos 0)) = search rules in
    let e : int_le (slice_index_or (take (length rest - 1) (drop 1 rest)) 0 (pos 0)) (slice_index_or rest 0 (pos 0)) ≡ true =
    rw (to_z-of_z one, to_z-of_z next) at c.if-one-next.true in
    falls rest (rw (take_rest rest 1) at c.in-len1-up-more.len_at_least) (rw (take_rest rest 1) at e) ∙ c.numbers.invariant
