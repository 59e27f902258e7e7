-- The numbers of windows, net by net.
use Rattle.std.proofs.Common.{◌≡◌, ℕ, zero, suc, ◌+◌, ◌*◌, ◌<◌, ◌≤◌, refl, sym, ap, subst, ◌∙◌, List, [], ◌∷◌, ◌++◌, length, map, take, drop, get_or, set, arith, append_assoc}
use Rattle.std.proofs.Math.Seq.{take-add}
use Rattle.std.specs.List.{range_with_len}
use Rattle.std.proofs.lemmas.List.{take_all, take_more}
use Rattle.std.proofs.lemmas.List.FromFn.{map-range_with_len_more}
use Rattle.xt_model.specs.declared.quad.Quad.{Quad}
use Rattle.xt_model.specs.declared.quad.Pair.{Pair}
use Rattle.xt_meaning.specs.Words.{number_for, numbers_of, quad_numbers}
use Rattle.chaos_core.specs.Tasks.{bound_at}
use Rattle.chaos_core.specs.Memories.{pair_numbers}

numbers_push : (ps : List Pair) (p : Pair) → numbers_of (ps ++ p ∷ []) ≡ numbers_of ps ++ pair_numbers p
numbers_push [] p = refl
numbers_push (q ∷ ps) p = let h = numbers_push ps p in rw h refl

pub numbers_next : (ps : List Pair) (i : ℕ) (p : Pair) (before words after : List ℕ) → i < length ps → words ≡ before ++ numbers_of (take i ps) → after ≡ words ++ pair_numbers (get_or ps i p)
    → after ≡ before ++ numbers_of (take (i + 1) ps)
numbers_next ps i p before words after h is e =
    let m = take_more ps i p h in
    let n = numbers_push (take i ps) (get_or ps i p) in
    rw (m, n, e, is) (append_assoc before (numbers_of (take i ps)) (pair_numbers (get_or ps i p)))

-- the numbers of the first words of a net
abbrev pub first_numbers : Pair → ℕ → List ℕ
first_numbers p count = map (λ i. number_for (bound_at p i)) (range_with_len 0 count)

pub first_more : (p : Pair) (before words after : List ℕ) (place number : ℕ) → words ≡ before ++ first_numbers p place → number ≡ number_for (bound_at p place) → after ≡ words ++ number ∷ []
    → after ≡ before ++ first_numbers p (place + 1)
first_more p before words after place number so_far is pushed =
    let m = map-range_with_len_more (λ i. number_for (bound_at p i)) 0 place place (omega arith) in
    rw (m, pushed, so_far, is) (append_assoc before (first_numbers p place) (number_for (bound_at p place) ∷ []))

pub all_eight : (p : Pair) (before words : List ℕ) (place : ℕ) → 8 ≤ place → place ≤ 8 → words ≡ before ++ first_numbers p place → words ≡ before ++ pair_numbers p
all_eight p before words place low high h =
    let e : place ≡ 8 = omega arith in
    let P : ℕ → Type 0 = λ i. words ≡ before ++ first_numbers p i in
    subst P e h

-- ---- windows of words
shifted : (x : ℕ) (xs : List ℕ) (n k : ℕ) → get_or (x ∷ xs) (suc n + k) 0 ≡ get_or xs (n + k) 0
shifted x xs n k = let e : suc n + k ≡ suc (n + k) = omega arith in rw e refl

pub four_at : (xs : List ℕ) (n : ℕ) → n + 4 ≤ length xs → take 4 (drop n xs) ≡ get_or xs n 0 ∷ get_or xs (n + 1) 0 ∷ get_or xs (n + 2) 0 ∷ get_or xs (n + 3) 0 ∷ []
four_at [] n h = absurd (omega arith)
four_at (x ∷ []) zero h = absurd (omega arith)
four_at (x ∷ y ∷ []) zero h = absurd (omega arith)
four_at (x ∷ y ∷ z ∷ []) zero h = absurd (omega arith)
four_at (x ∷ y ∷ z ∷ u ∷ xs) zero h = refl
four_at (x ∷ xs) (suc n) h = rw (shifted x xs n 1, shifted x xs n 2, shifted x xs n 3) (four_at xs n (omega arith))

pub quad_of_four : (xs : List ℕ) (n : ℕ) (q : Quad) → n + 4 ≤ length xs → number_for q.tlo ≡ get_or xs n 0 → number_for q.thi ≡ get_or xs (n + 1) 0 → number_for q.slo ≡ get_or xs (n + 2) 0
    → number_for q.shi ≡ get_or xs (n + 3) 0 → quad_numbers q ≡ take 4 (drop n xs)
quad_of_four xs n q h a b c d = rw (a, b, c, d) (sym (four_at xs n h))

pub pairs_next : (words : List ℕ) (from : ℕ) (ps : List Pair) (p : Pair) (after : List Pair) → from + 8 ≤ length words → numbers_of ps ≡ take from words → quad_numbers p.rise ≡ take 4 (drop from words)
    → quad_numbers p.fall ≡ take 4 (drop (from + 4) words) → after ≡ ps ++ p ∷ [] → numbers_of after ≡ take (from + 8) words
pairs_next words from ps p after h so_far rise fall pushed =
    let n = numbers_push ps p in
    let e : from + 8 ≡ (from + 4) + 4 = omega arith in
    let a = take-add (from + 4) 4 words in
    let b = take-add from 4 words in
    let both : pair_numbers p ≡ take 4 (drop from words) ++ take 4 (drop (from + 4) words) = ap (λ xs. xs ++ quad_numbers p.fall) rise ∙ ap (λ xs. take 4 (drop from words) ++ xs) fall in
    rw (pushed, n, so_far, both, e, a, b) (sym (append_assoc (take from words) (take 4 (drop from words)) (take 4 (drop (from + 4) words))))

take_set : (ps : List Pair) (i : ℕ) (p : Pair) → i < length ps → take (suc i) (set ps i p) ≡ take i ps ++ p ∷ []
take_set [] i p h = absurd (omega arith)
take_set (q ∷ ps) zero p h = refl
take_set (q ∷ ps) (suc i) p h = ap (λ (more : List Pair). q ∷ more) (take_set ps i p (omega (arith, h)))

pub pairs_set : (words : List ℕ) (net : ℕ) (ps : List Pair) (p : Pair) (after : List Pair) → net < length ps → 8 * net + 8 ≤ length words → numbers_of (take net ps) ≡ take (8 * net) words
    → quad_numbers p.rise ≡ take 4 (drop (8 * net) words) → quad_numbers p.fall ≡ take 4 (drop (8 * net + 4) words) → after ≡ set ps net p → numbers_of (take (net + 1) after) ≡ take (8 * (net + 1)) words
pairs_set words net ps p after there h so_far rise fall is =
    let next : net + 1 ≡ suc net = omega arith in
    let pushed : take (net + 1) after ≡ take net ps ++ p ∷ [] = ap (λ n. take n after) next ∙ (ap (take (suc net)) is ∙ take_set ps net p there) in
    let e : 8 * net + 8 ≡ 8 * (net + 1) = omega arith in
    let P : ℕ → Type 0 = λ n. numbers_of (take (net + 1) after) ≡ take n words in
    subst P e (pairs_next words (8 * net) (take net ps) p (take (net + 1) after) h so_far rise fall pushed)

pub all_pairs : (words : List ℕ) (net : ℕ) (ps : List Pair) → length ps ≤ net → length words ≤ 8 * net → numbers_of (take net ps) ≡ take (8 * net) words → numbers_of ps ≡ words
all_pairs words net ps few end h = ap numbers_of (sym (take_all net ps few)) ∙ (h ∙ take_all (8 * net) words end)
