-- Lists of nets: what is left out of them, and what they have.
use Rattle.std.proofs.Common.{◌≡◌, ◌≢◌, ◌⊎◌, ℕ, zero, suc, ◌<◌, ◌==◌, Bool, true, false, cond, not, ◌||◌, inl, inr, refl, sym, subst, List, [], ◌∷◌, length, get_or, filter, Contains, arith}
use Rattle.std.specs.List.{range_with_len}
use Rattle.std.proofs.lemmas.Bool.{cases_eq}
use Rattle.std.proofs.lemmas.Bool.Decides.{nat_tests}
use Rattle.std.proofs.lemmas.List.Elements.{Contains-append_right}
use Rattle.std.proofs.lemmas.List.FromFn.{length-range_with_len, get_or-range_with_len}
use Rattle.xt_model.specs.declared.net.NetId.{NetId}
use Rattle.chaos_core.specs.Tasks.{list_of}
use Rattle.dirty_words.specs.Views.{has, without, without_all, readers_of}

-- ---- what is among the elements of a list
pub none_there : (x : ℕ) → Contains [] x → ⊥
none_there x h = let k = h.1 in omega (arith, k)

among_at : (n x : ℕ) (xs : List ℕ) (k : ℕ) → k < length (n ∷ xs) → get_or (n ∷ xs) k x ≡ x → (n ≡ x) ⊎ Contains xs x
among_at n x xs zero h e = inl e
among_at n x xs (suc k) h e = inr (k, omega arith, e)

among : (n x : ℕ) (xs : List ℕ) → Contains (n ∷ xs) x → (n ≡ x) ⊎ Contains xs x
among n x xs h = among_at n x xs h.0 h.1 h.2

head_there : (n x : ℕ) (xs : List ℕ) → n ≡ x → Contains (n ∷ xs) x
head_there n x xs e = (0, omega arith, e)

tail_there : (n x : ℕ) (xs : List ℕ) → Contains xs x → Contains (n ∷ xs) x
tail_there n x xs h = Contains-append_right (n ∷ []) xs x h

pub cases_there : (xs : List ℕ) (x : ℕ) → Contains xs x ⊎ (Contains xs x → ⊥)
cases_there [] x = inr (none_there x)
cases_there (n ∷ xs) x = elim (cases_eq n x) [
  | inl e ↦ inl (head_there n x xs e)
  | inr ne ↦ elim (cases_there xs x) [
    | inl m ↦ inl (tail_there n x xs m)
    | inr lacks ↦ inr (λ h. elim (among n x xs h) [ inl e ↦ ne e | inr m ↦ lacks m ])
  ]
]

-- ---- filters
pub true_false : (b : Bool) → b ≡ true → b ≡ false → ⊥
true_false b h k = cc

keeps_one : (b : Bool) (n x : ℕ) (xs : List ℕ) → Contains xs x → Contains (cond b (n ∷ xs) xs) x
keeps_one true n x xs h = tail_there n x xs h
keeps_one false n x xs h = h

takes_one : (b : Bool) (n x : ℕ) (xs : List ℕ) → b ≡ true → n ≡ x → Contains (cond b (n ∷ xs) xs) x
takes_one true n x xs t e = head_there n x xs e
takes_one false n x xs t e = absurd (true_false false t refl)

has_one : (b : Bool) (n x : ℕ) (xs : List ℕ) → Contains (cond b (n ∷ xs) xs) x → ((b ≡ true) × (n ≡ x)) ⊎ Contains xs x
has_one true n x xs h = elim (among n x xs h) [ inl e ↦ inl (refl, e) | inr m ↦ inr m ]
has_one false n x xs h = inr h

pub filter_keeps : (p : ℕ → Bool) (xs : List ℕ) (x : ℕ) → Contains xs x → p x ≡ true → Contains (filter p xs) x
filter_keeps p [] x h t = absurd (none_there x h)
filter_keeps p (n ∷ xs) x h t = elim (among n x xs h) [
  | inl e ↦ takes_one (p n) n x (filter p xs) (subst (λ m. p m ≡ true) (sym e) t) e
  | inr m ↦ keeps_one (p n) n x (filter p xs) (filter_keeps p xs x m t)
]

pub filter_has : (p : ℕ → Bool) (xs : List ℕ) (x : ℕ) → Contains (filter p xs) x → Contains xs x × (p x ≡ true)
filter_has p [] x h = absurd (none_there x h)
filter_has p (n ∷ xs) x h = elim (has_one (p n) n x (filter p xs) h) [
  | inl q ↦ (head_there n x xs q.1, subst (λ m. p m ≡ true) q.1 q.0)
  | inr m ↦ let r = filter_has p xs x m in (tail_there n x xs r.0, r.1)
]

-- ---- all but one
other_test : (net m : ℕ) → m ≢ net → not (m == net) ≡ true
other_test net m ne = grind (arith, nat_tests)

test_other : (net m : ℕ) → not (m == net) ≡ true → m ≢ net
test_other net m t e = grind (arith, nat_tests)

pub stays : (net m : ℕ) (xs : List ℕ) → m ≢ net → Contains xs m → Contains (without net xs) m
stays net m xs ne h = filter_keeps (λ k. not (k == net)) xs m h (other_test net m ne)

pub stayed : (net m : ℕ) (xs : List ℕ) → Contains (without net xs) m → Contains xs m × (m ≢ net)
stayed net m xs h =
    let r = filter_has (λ k. not (k == net)) xs m h in
    (r.0, test_other net m r.1)

-- ---- all but several
pub has_there : (xs : List ℕ) (x : ℕ) → has xs x ≡ true → Contains xs x
has_there [] x h = absurd (true_false false h refl)
has_there (n ∷ xs) x h = elim (cases_eq n x) [
  | inl e ↦ head_there n x xs e
  | inr ne ↦ tail_there n x xs (has_there xs x (grind (arith, nat_tests)))
]

pub there_has : (xs : List ℕ) (x : ℕ) → Contains xs x → has xs x ≡ true
there_has [] x h = absurd (none_there x h)
there_has (n ∷ xs) x h = elim (among n x xs h) [
  | inl e ↦ grind (arith, nat_tests)
  | inr m ↦ let t = there_has xs x m in or_second (n == x) (has xs x) t
]
  where
    or_second : (a b : Bool) → b ≡ true → (a || b) ≡ true
    or_second true b h = refl
    or_second false b h = h

not_true : (b : Bool) → not b ≡ true → b ≡ true → ⊥
not_true true h k = true_false false h refl
not_true false h k = true_false false k refl

not_from : (b : Bool) → (b ≡ true → ⊥) → not b ≡ true
not_from true h = absurd (h refl)
not_from false h = refl

pub stays_all : (m : ℕ) (others xs : List ℕ) → (Contains others m → ⊥) → Contains xs m → Contains (without_all others xs) m
stays_all m others xs lacks h = filter_keeps (λ k. not (has others k)) xs m h (not_from (has others m) (λ t. lacks (has_there others m t)))

pub stayed_all : (m : ℕ) (others xs : List ℕ) → Contains (without_all others xs) m → Contains xs m × (Contains others m → ⊥)
stayed_all m others xs h =
    let r = filter_has (λ k. not (has others k)) xs m h in
    (r.0, λ c. not_true (has others m) r.1 (there_has others m c))

-- ---- ranges and readers
pub range_there : (n m : ℕ) → m < n → Contains (range_with_len 0 n) m
range_there n m h =
    let len = length-range_with_len 0 n in
    (m, omega (arith, len, h), (let e = get_or-range_with_len 0 n m m h in omega (arith, e)))

range_inside : (n m : ℕ) → Contains (range_with_len 0 n) m → m < n
range_inside n m h =
    let len = length-range_with_len 0 n in
    let lt = h.1 in
    let e = get_or-range_with_len 0 n h.0 m (omega (arith, len, lt)) in
    let at = h.2 in
    omega (arith, e, at, lt, len)

-- readers are among those that have a read list
pub reader_inside : (lists : List (List NetId)) (net reader : ℕ) → Contains (readers_of lists net) reader → reader < length lists
reader_inside lists net reader h = range_inside (length lists) reader (filter_has (λ m. has (list_of lists m) net) (range_with_len 0 (length lists)) reader h).0

pub reads_there : (lists : List (List NetId)) (net reader : ℕ) → reader < length lists → Contains (list_of lists reader) net → Contains (readers_of lists net) reader
reads_there lists net reader inside h =
    filter_keeps (λ m. has (list_of lists m) net) (range_with_len 0 (length lists)) reader (range_there (length lists) reader inside) (there_has (list_of lists reader) net h)
