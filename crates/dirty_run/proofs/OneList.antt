-- The read lists of a design are one: each has the nets that the operator looks at, in order of number.
use Rattle.std.proofs.Common.{◌≡◌, ℕ, zero, suc, ◌<◌, refl, sym, ap, ◌∙◌, List, [], ◌∷◌, length, get_or, Contains, arith}
use Rattle.std.proofs.lemmas.List.{ext_get_or, get_or_default}
use Rattle.xt_model.specs.declared.net.NetId.{NetId}
use Rattle.xt_model.specs.Parts.{Parts}
use Rattle.net_eval.specs.ReadLists.{ids, reads_of, AreReadLists}
use Rattle.chaos_core.specs.Views.{Rises}
use Rattle.chaos_core.proofs.Places.{id_at, ids_count}

-- ---- numbers that rise are one list where they are the same numbers
later_more : (x : ℕ) (xs : List ℕ) → Rises (x ∷ xs) → (m : ℕ) → Contains xs m → x < m
later_more x xs up m (i, inside, at) =
    let h = up 0 (suc i) (omega arith) (omega (arith, inside)) in
    let e : get_or xs i 0 ≡ m = get_or_default xs i 0 m inside ∙ at in
    omega (arith, h, e)

rest_rises : (x : ℕ) (xs : List ℕ) → Rises (x ∷ xs) → Rises xs
rest_rises x xs up i j h lt = up (suc i) (suc j) (omega (arith, h)) (omega (arith, lt))

-- a number of a list of one more is the first or one of the rest
first_or_rest : (x : ℕ) (xs : List ℕ) (m : ℕ) → Contains (x ∷ xs) m → (x ≡ m → ⊥) → Contains xs m
first_or_rest x xs m (zero, inside, at) other = absurd (other at)
first_or_rest x xs m (suc i, inside, at) other = (i, omega (arith, inside), at)

in_rest : (x : ℕ) (xs : List ℕ) (m : ℕ) → Contains xs m → Contains (x ∷ xs) m
in_rest x xs m (i, inside, at) = (suc i, omega (arith, inside), at)

in_first : (x : ℕ) (xs : List ℕ) → Contains (x ∷ xs) x
in_first x xs = (zero, omega arith, refl)

-- the first of two lists is no less than the first of the other, which has it
first_least : (x y : ℕ) (xs ys : List ℕ) → Rises (y ∷ ys) → Contains (y ∷ ys) x → x < y → ⊥
first_least x y xs ys up has less =
    let h = later_more y ys up x (first_or_rest y ys x has (λ e. omega (arith, e, less))) in
    omega (arith, h, less)

pub one_rising : (xs ys : List ℕ) → Rises xs → Rises ys → ((m : ℕ) → Contains xs m → Contains ys m) → ((m : ℕ) → Contains ys m → Contains xs m) → xs ≡ ys
one_rising [] [] up also to from = refl
one_rising [] (y ∷ ys) up also to from = absurd (let k = (from y (in_first y ys)).1 in omega (arith, k))
one_rising (x ∷ xs) [] up also to from = absurd (let k = (to x (in_first x xs)).1 in omega (arith, k))
one_rising (x ∷ xs) (y ∷ ys) up also to from =
    let low = first_least x y xs ys also (to x (in_first x xs)) in
    let high = first_least y x ys xs up (from y (in_first y ys)) in
    let same : x ≡ y = first_is x y low high in
    ap (λ n. n ∷ xs) same ∙ ap (λ ns. y ∷ ns) (one_rising xs ys (rest_rises x xs up) (rest_rises y ys also)
    (λ m c. let h = later_more x xs up m c in first_or_rest y ys m (to m (in_rest x xs m c)) (λ e. omega (arith, h, e, same)))
    (λ m c. let h = later_more y ys also m c in first_or_rest x xs m (from m (in_rest y ys m c)) (λ e. omega (arith, h, e, same)))) where
      first_is : (x y : ℕ) → (x < y → ⊥) → (y < x → ⊥) → x ≡ y
      first_is x y low high = omega (arith, low, high)

-- ---- nets are one list where their numbers are
one_ids : (xs ys : List NetId) → ids xs ≡ ids ys → xs ≡ ys
one_ids xs ys e =
    let none : NetId = record { 0 = 0 } in
    let long : length xs ≡ length ys = let a = ids_count xs in let b = ids_count ys in let l = ap length e in omega (arith, a, b, l) in
    ext_get_or none xs ys long (λ i lt. ap (λ (n : ℕ). let net : NetId = record { 0 = n } in net)
    (sym (id_at xs i none lt) ∙ (ap (λ (ns : List ℕ). get_or ns i 0) e ∙ id_at ys i none (omega (arith, lt, long)))))

pub one_list : (d : Parts) (xs ys : List (List NetId)) → AreReadLists d xs → AreReadLists d ys → xs ≡ ys
one_list d xs ys one other =
    let a = one.count in
    let b = other.count in
    ext_get_or [] xs ys (a ∙ sym b) (λ n lt.
    let there : n < length d.nets = omega (arith, a, lt) in
    let l = one.each n there in
    let r = other.each n there in
    one_ids (reads_of xs n) (reads_of ys n) (one_rising (ids (reads_of xs n)) (ids (reads_of ys n)) l.rising r.rising (λ m c. (r.members m).1 ((l.members m).0 c)) (λ m c. (l.members m).1 ((r.members m).0 c))))
