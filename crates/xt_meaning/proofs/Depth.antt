-- No level is higher than the number of nets: below each net there is one on every lower level.
use Rattle.std.proofs.Common.{◌≡◌, ℕ, zero, suc, ◌+◌, ◌-◌, ◌<◌, ◌≤◌, ◌⊎◌, inl, inr, refl, List, [], ◌∷◌, length, map, get_or, arith}
use Rattle.std.specs.Prelude.{Option, Some, None, slice_index}
use Rattle.std.specs.List.{slice_get}
use Rattle.std.proofs.lemmas.Bool.{cases_lt}
use Rattle.std.proofs.lemmas.List.{get_or_past}
use Rattle.xt_model.specs.declared.net.TimingArc.{TimingArc}
use Rattle.xt_model.specs.declared.net.Net.{Net}
use Rattle.xt_model.specs.Levels.{greatest_of, AreLevels}
use Rattle.xt_meaning.proofs.Limits.{length_past}

-- how many of the numbers are at most `most`
count_to : ℕ → List ℕ → ℕ
count_to most [] = 0
count_to most (x ∷ more) = (1 - (x - most)) + count_to most more

count_short : (most : ℕ) (xs : List ℕ) → count_to most xs ≤ length xs
unfolding count_to
count_short most [] = omega arith
count_short most (x ∷ more) = let h = count_short most more in omega arith

count_rises : (l m : ℕ) (xs : List ℕ) → l ≤ m → count_to l xs ≤ count_to m xs
unfolding count_to
count_rises l m [] h = omega arith
count_rises l m (x ∷ more) h = let k = count_rises l m more h in omega arith

-- where m is one of the numbers, one more is at most m than is at most any lesser number
count_more : (l m : ℕ) (xs : List ℕ) (i : ℕ) → l < m → i < length xs → get_or xs i 0 ≡ m → count_to l xs + 1 ≤ count_to m xs
unfolding count_to
count_more l m [] i h b e = absurd (omega arith)
count_more l m (x ∷ more) zero h b e = let k = count_rises l m more (omega arith) in omega arith
count_more l m (x ∷ more) (suc i) h b e = let k = count_more l m more i h (omega arith) e in omega arith

-- the greatest level of the inputs is 0, or that of an input
reached : (ls : List ℕ) (arcs : List TimingArc)
    → (greatest_of (map (λ a. slice_index ls a.from.0) arcs) ≡ 0) ⊎ ((i : ℕ) × (slice_index ls i ≡ greatest_of (map (λ a. slice_index ls a.from.0) arcs)))
reached ls [] = inl refl
reached ls (a ∷ more) = elim (cases_lt (slice_index ls a.from.0) (greatest_of (map (λ b. slice_index ls b.from.0) more))) [
  | inl p ↦ elim (reached ls more) [
    | inl e ↦ absurd (omega arith)
    | inr r ↦ inr (r.0, omega (arith, r.1))
  ]
  | inr p ↦ inr (a.from.0, omega arith)
]

inside : (ls : List ℕ) (i : ℕ) → 0 < slice_index ls i → i < length ls
inside ls i h = elim (cases_lt i (length ls)) [ inl p ↦ p | inr p ↦ let e = get_or_past ls i 0 p in absurd (omega arith) ]

counted_at : (nets : List Net) (ls : List ℕ) (most i : ℕ) (o : Option Net) → AreLevels nets ls → slice_get nets i ≡ o → slice_index ls i ≤ suc most → 0 < slice_index ls i
    → ((j : ℕ) → slice_index ls j ≤ most → 0 < slice_index ls j → slice_index ls j ≤ count_to (slice_index ls j) ls)
    → slice_index ls i ≤ count_to (slice_index ls i) ls
counted_at nets ls most i None levels none h p ih =
    let k = length_past nets i none in
    let e = levels.count in
    let b = inside ls i p in
    absurd (omega arith)
counted_at nets ls most i (Some n) levels there h p ih =
    let l = levels.each i n there in
    let b = inside ls i p in
    elim (reached ls n.arcs) [
      | inl e ↦ let k = count_more 0 (slice_index ls i) ls i p b refl in omega arith
      | inr r ↦
          let below : slice_index ls r.0 < slice_index ls i = omega (arith, l, r.1) in
          let k = count_more (slice_index ls r.0) (slice_index ls i) ls i below b refl in
          elim (cases_lt 0 (slice_index ls r.0)) [
            | inl q ↦ let c = ih r.0 (omega arith) q in omega (arith, l, r.1, k, c)
            | inr q ↦ omega (arith, l, r.1, k, q)
          ]
    ]

level_counts : (nets : List Net) (ls : List ℕ) → AreLevels nets ls → (most i : ℕ) → slice_index ls i ≤ most → 0 < slice_index ls i → slice_index ls i ≤ count_to (slice_index ls i) ls
level_counts nets ls levels zero i h p = absurd (omega arith)
level_counts nets ls levels (suc most) i h p = counted_at nets ls most i (slice_get nets i) levels refl h p (λ j a b. level_counts nets ls levels most j a b)

-- no level is higher than the number of nets
pub levels_few : (nets : List Net) (ls : List ℕ) → AreLevels nets ls → (i : ℕ) → slice_index ls i ≤ length nets
levels_few nets ls levels i = elim (cases_lt 0 (slice_index ls i)) [
  | inl p ↦
      let c = level_counts nets ls levels (slice_index ls i) i (omega arith) p in
      let s = count_short (slice_index ls i) ls in
      omega (arith, levels.count)
  | inr p ↦ omega arith
]
