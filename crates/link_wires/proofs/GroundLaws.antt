-- The capacitance to ground of each node, and all of it.
use Rattle.std.proofs.Common.{◌≡◌, ◌≢◌, ℕ, zero, suc, ◌+◌, ◌<◌, ◌≤◌, Bool, true, false, cond, eqb, List, [], ◌∷◌, length, map, drop, get_or, set, replicate, refl, sym, ap, ◌∙◌, arith, inl, inr}
use Rattle.std.specs.Prelude.{ℤ, pos, negsuc, ◌+ℤ◌, ◌≤ℤ◌}
use Rattle.std.proofs.lemmas.List.Elements.{All-drop}
use Rattle.std.proofs.Math.Numerals.{add-one}
use Rattle.std.specs.List.{All, sum_by}
use Rattle.std.specs.Int.RustNames.{unsigned_abs}
use Rattle.std.proofs.lemmas.Bool.{cases_eq, eq-eqb, ne_eqb}
use Rattle.std.proofs.lemmas.Int.{ints}
use Rattle.std.proofs.lemmas.List.{ext_get_or, get_or-map, length-map, get_or-set_same, get_or-set_other, length-set}
use Rattle.std.proofs.lemmas.List.Sums.{sum_by-cons}
use Rattle.std.proofs.Math.Seq.{drop-cons}
use Rattle.verilog_net.specs.Bits.{rising}
use Rattle.link_rules.specs.Wires.{Charge, sum_at}
use Rattle.link_wires.specs.Wires.{charge_sum, AreWithin, AreNatural}
use Rattle.link_wires.specs.Ground.{IsGathered}

-- ---- numbers in order
pub length-rising : (a n : ℕ) → length (rising a n) ≡ n
length-rising a zero = refl
length-rising a (suc n) = ap suc (length-rising (a + 1) n)

pub rising_at : (a n i d : ℕ) → i < n → get_or (rising a n) i d ≡ a + i
rising_at a zero i d lt = absurd (omega (arith, lt))
rising_at a (suc n) zero d lt = omega arith
rising_at a (suc n) (suc i) d lt = let rest = rising_at (a + 1) n i d (omega (arith, lt)) in omega (arith, rest)

-- ---- all of a list of lists
all_head : {X : Type 0} (P : X → Type 0) (x : X) (xs : List X) → All P (x ∷ xs) → P x
all_head P x xs all = all 0 x (omega arith)

all_tail : {X : Type 0} (P : X → Type 0) (x : X) (xs : List X) → All P (x ∷ xs) → All P xs
all_tail P x xs all = λ i d lt. all (suc i) d (omega (arith, lt))

-- ---- natural numbers
abs_add : (x y : ℤ) → pos 0 ≤ℤ x → pos 0 ≤ℤ y → unsigned_abs (x +ℤ y) ≡ unsigned_abs x + unsigned_abs y
abs_add (pos a) (pos b) h k = refl
abs_add (pos a) (negsuc b) h k = absurd (omega (arith, ints, k))
abs_add (negsuc a) y h k = absurd (omega (arith, ints, h))

natural_is : (x : ℤ) → pos 0 ≤ℤ x → x ≡ pos (unsigned_abs x)
natural_is (pos a) h = refl
natural_is (negsuc a) h = absurd (omega (arith, ints, h))

-- ---- one node
here_by : (b : Bool) (v s : ℤ) → b ≡ true → cond b (v +ℤ s) s ≡ v +ℤ s
here_by b v s e = ap (λ t. cond t (v +ℤ s) s) e

there_by : (b : Bool) (v s : ℤ) → b ≡ false → cond b (v +ℤ s) s ≡ s
there_by b v s e = ap (λ t. cond t (v +ℤ s) s) e

pub sum_here : (c : Charge) (cs : List Charge) (k : ℕ) → c.0 ≡ k → sum_at (c ∷ cs) k ≡ c.1 +ℤ sum_at cs k
sum_here c cs k e = here_by (eqb c.0 k) c.1 (sum_at cs k) (eq-eqb c.0 k e)

pub sum_there : (c : Charge) (cs : List Charge) (k : ℕ) → c.0 ≢ k → sum_at (c ∷ cs) k ≡ sum_at cs k
sum_there c cs k ne = there_by (eqb c.0 k) c.1 (sum_at cs k) (ne_eqb c.0 k ne)

natural_by : (x y z : ℤ) → x ≡ y +ℤ z → pos 0 ≤ℤ y → pos 0 ≤ℤ z → pos 0 ≤ℤ x
natural_by x y z e h k = omega (arith, ints, e, h, k)

most_by : (x y z : ℤ) (m n : ℕ) → x ≡ y +ℤ z → y ≡ pos m → z ≤ℤ pos n → x ≤ℤ pos (m + n)
most_by x y z m n e h k = omega (arith, ints, e, h, k)

more_by : (x z : ℤ) (m n : ℕ) → x ≡ z → z ≤ℤ pos n → x ≤ℤ pos (m + n)
more_by x z m n e k = omega (arith, ints, e, k)

pub sum_natural : (cs : List Charge) (k : ℕ) → AreNatural cs → pos 0 ≤ℤ sum_at cs k
sum_natural [] k all = omega (arith, ints)
sum_natural (c ∷ cs) k all =
    let rest : pos 0 ≤ℤ sum_at cs k = sum_natural cs k (all_tail (λ (x : Charge). pos 0 ≤ℤ x.1) c cs all) in
    let here : pos 0 ≤ℤ c.1 = all_head (λ (x : Charge). pos 0 ≤ℤ x.1) c cs all in
    elim (cases_eq c.0 k) [
      | inl e ↦ natural_by (sum_at (c ∷ cs) k) c.1 (sum_at cs k) (sum_here c cs k e) here rest
      | inr ne ↦ rw (sum_there c cs k ne) rest
    ]

pub sum_most : (cs : List Charge) (k : ℕ) → AreNatural cs → sum_at cs k ≤ℤ pos (charge_sum cs)
sum_most [] k all = omega (arith, ints)
sum_most (c ∷ cs) k all =
    let rest : sum_at cs k ≤ℤ pos (charge_sum cs) = sum_most cs k (all_tail (λ (x : Charge). pos 0 ≤ℤ x.1) c cs all) in
    let here : c.1 ≡ pos (unsigned_abs c.1) = natural_is c.1 (all_head (λ (x : Charge). pos 0 ≤ℤ x.1) c cs all) in
    let whole : charge_sum (c ∷ cs) ≡ unsigned_abs c.1 + charge_sum cs = sum_by-cons (λ (x : Charge). unsigned_abs x.1) c cs in
    rw whole
    (elim (cases_eq c.0 k) [
      | inl e ↦ most_by (sum_at (c ∷ cs) k) c.1 (sum_at cs k) (unsigned_abs c.1) (charge_sum cs) (sum_here c cs k e) here rest
      | inr ne ↦ more_by (sum_at (c ∷ cs) k) (sum_at cs k) (unsigned_abs c.1) (charge_sum cs) (sum_there c cs k ne) rest
    ])

-- ---- all nodes
abbrev pub over : (ℕ → ℤ) → ℕ → ℕ → ℕ
over f a n = sum_by unsigned_abs (map f (rising a n))

over-suc : (f : ℕ → ℤ) (a n : ℕ) → over f a (suc n) ≡ unsigned_abs (f a) + over f (a + 1) n
over-suc f a n = sum_by-cons unsigned_abs (f a) (map f (rising (a + 1) n))

over_same : (f g : ℕ → ℤ) (x a n : ℕ) → x < a → ((k : ℕ) → k ≢ x → f k ≡ g k) → over f a n ≡ over g a n
over_same f g x a zero lt same = refl
over_same f g x a (suc n) lt same =
    let rest : over f (a + 1) n ≡ over g (a + 1) n = over_same f g x (a + 1) n (omega (arith, lt)) same in
    let here : unsigned_abs (f a) ≡ unsigned_abs (g a) = ap unsigned_abs (same a (λ e. absurd (omega (arith, lt, e)))) in
    let one = over-suc f a n in
    let two = over-suc g a n in
    one ∙ (ap (λ m. m + over f (a + 1) n) here ∙ (ap (λ m. unsigned_abs (g a) + m) rest ∙ sym two))

plus_by : (w f r v g q z : ℕ) → w ≡ f + r → f ≡ v + g → r ≡ q → z ≡ g + q → w ≡ v + z
plus_by w f r v g q z a b c d = omega (arith, a, b, c, d)

over_by : (w f r v g q z : ℕ) → w ≡ f + r → f ≡ g → r ≡ v + q → z ≡ g + q → w ≡ v + z
over_by w f r v g q z a b c d = omega (arith, a, b, c, d)

over_bump : (f g : ℕ → ℤ) (x v a n : ℕ) → a ≤ x → x < a + n → ((k : ℕ) → k ≢ x → f k ≡ g k)
    → unsigned_abs (f x) ≡ v + unsigned_abs (g x) → over f a n ≡ v + over g a n
over_bump f g x v a zero le lt same bump = absurd (omega (arith, le, lt))
over_bump f g x v a (suc n) le lt same bump =
    elim (cases_eq a x) [
      | inl e ↦
          let rest = over_same f g x (a + 1) n (omega (arith, e)) same in
          let here : unsigned_abs (f a) ≡ v + unsigned_abs (g a) = rw e bump in
          plus_by (over f a (suc n)) (unsigned_abs (f a)) (over f (a + 1) n) v (unsigned_abs (g a)) (over g (a + 1) n) (over g a (suc n)) (over-suc f a n) here rest (over-suc g a n)
      | inr ne ↦
          let rest = over_bump f g x v (a + 1) n (omega (arith, le, ne)) (omega (arith, lt)) same bump in
          let here : unsigned_abs (f a) ≡ unsigned_abs (g a) = ap unsigned_abs (same a ne) in
          over_by (over f a (suc n)) (unsigned_abs (f a)) (over f (a + 1) n) v (unsigned_abs (g a)) (over g (a + 1) n) (over g a (suc n)) (over-suc f a n) here rest (over-suc g a n)
    ]

over_zero : (a n : ℕ) → over (sum_at []) a n ≡ 0
over_zero a zero = refl
over_zero a (suc n) =
    let one = over-suc (sum_at []) a n in
    let rest = over_zero (a + 1) n in
    let here : unsigned_abs (sum_at [] a) ≡ 0 = refl in
    omega (arith, one, rest, here)

total_by : (w v z t s : ℕ) → w ≡ v + z → z ≡ s → t ≡ v + s → w ≡ t
total_by w v z t s a b c = omega (arith, a, b, c)

-- the capacitance of all nodes is that of all charges
pub ground_total : (cs : List Charge) (n : ℕ) → AreWithin n cs → AreNatural cs → over (sum_at cs) 0 n ≡ charge_sum cs
ground_total [] n within natural = over_zero 0 n
ground_total (c ∷ cs) n within natural =
    let there : c.0 < n = all_head (λ (x : Charge). x.0 < n) c cs within in
    let more_within = all_tail (λ (x : Charge). x.0 < n) c cs within in
    let here : pos 0 ≤ℤ c.1 = all_head (λ (x : Charge). pos 0 ≤ℤ x.1) c cs natural in
    let more : AreNatural cs = all_tail (λ (x : Charge). pos 0 ≤ℤ x.1) c cs natural in
    let bump : unsigned_abs (sum_at (c ∷ cs) c.0) ≡ unsigned_abs c.1 + unsigned_abs (sum_at cs c.0) = ap unsigned_abs (sum_here c cs c.0 refl) ∙ abs_add c.1 (sum_at cs c.0) here (sum_natural cs c.0 more) in
    let one = over_bump (sum_at (c ∷ cs)) (sum_at cs) c.0 (unsigned_abs c.1) 0 n (omega arith) (omega (arith, there)) (λ k ne. sum_there c cs k (λ e. ne (sym e))) bump in
    total_by (over (sum_at (c ∷ cs)) 0 n) (unsigned_abs c.1) (over (sum_at cs) 0 n) (charge_sum (c ∷ cs)) (charge_sum cs) one (ground_total cs n more_within more) (sum_by-cons (λ (x : Charge). unsigned_abs x.1) c cs)

-- ---- the count charge by charge
zero_at : (n k : ℕ) → get_or (replicate n (pos 0)) k (pos 0) ≡ pos 0
zero_at zero k = refl
zero_at (suc n) zero = refl
zero_at (suc n) (suc k) = zero_at n k

length-zeros : (n : ℕ) → length (replicate n (pos 0)) ≡ n
length-zeros zero = refl
length-zeros (suc n) = ap suc (length-zeros n)

zero_natural : (x : ℤ) → x ≡ pos 0 → pos 0 ≤ℤ x
zero_natural x e = omega (arith, ints, e)

zero_plus : (x y : ℤ) → x ≡ pos 0 → x +ℤ y ≡ y
zero_plus x y e = omega (arith, ints, e)

pub gathered_first : (cs : List Charge) (n : ℕ) → IsGathered cs n 0 (replicate n (pos 0))
gathered_first cs n = record {
  count = length-zeros n;
  natural = λ k. zero_natural _ (zero_at n k);
  rest = λ k lt. zero_plus _ (sum_at cs k) (zero_at n k);
}

turn_here : (v g x old new whole : ℤ) → v ≡ g +ℤ x → g +ℤ old ≡ whole → old ≡ x +ℤ new → v +ℤ new ≡ whole
turn_here v g x old new whole a b c = omega (arith, ints, a, b, c)

module _ (cs : List Charge) (n i : ℕ) (c d : Charge) (ground : List ℤ) (lt : i < length cs) (is : c ≡ get_or cs i d)
    (within : AreWithin n cs) (natural : AreNatural cs) (g : IsGathered cs n i ground) where
  pub charge_there : c.0 < length ground
  charge_there = let count = g.count in let e : c.0 < n = rw is (within i d lt) in omega (arith, e, count)

  charge_natural : pos 0 ≤ℤ c.1
  charge_natural = rw is (natural i d lt)

  split : drop i cs ≡ c ∷ drop (i + 1) cs
  split = drop-cons cs i d lt ∙ (ap (λ x. x ∷ drop (suc i) cs) (sym is) ∙ ap (λ m. c ∷ drop m cs) (sym (add-one i)))

  split_here : (k : ℕ) → c.0 ≡ k → sum_at (drop i cs) k ≡ c.1 +ℤ sum_at (drop (i + 1) cs) k
  split_here k e = ap (λ xs. sum_at xs k) split ∙ sum_here c (drop (i + 1) cs) k e

  split_there : (k : ℕ) → c.0 ≢ k → sum_at (drop i cs) k ≡ sum_at (drop (i + 1) cs) k
  split_there k ne = ap (λ xs. sum_at xs k) split ∙ sum_there c (drop (i + 1) cs) k ne

  pub gathered_turn : (v : ℤ) → v ≡ get_or ground c.0 (pos 0) +ℤ c.1 → IsGathered cs n (i + 1) (set ground c.0 v)
  gathered_turn v e = record {
    count = length-set ground c.0 v ∙ g.count;
    natural = λ k. elim (cases_eq c.0 k) [
      | inl at ↦ rw (at_here k at) (natural_by v (get_or ground c.0 (pos 0)) c.1 e (g.natural c.0) charge_natural)
      | inr ne ↦ rw (at_there k ne) (g.natural k)
    ];
    rest = λ k in_range. elim (cases_eq c.0 k) [
      | inl at ↦ rw (at_here k at) (turn_here v (get_or ground c.0 (pos 0)) c.1 (sum_at (drop i cs) k) (sum_at (drop (i + 1) cs) k) (sum_at cs k) e (rw at (g.rest k in_range)) (split_here k at))
      | inr ne ↦ rw (at_there k ne) (ap (λ s. get_or ground k (pos 0) +ℤ s) (sym (split_there k ne)) ∙ g.rest k in_range)
    ];
  }
    where
      at_here : (k : ℕ) → c.0 ≡ k → get_or (set ground c.0 v) k (pos 0) ≡ v
      at_here k at = ap (λ m. get_or (set ground c.0 v) m (pos 0)) (sym at) ∙ get_or-set_same ground c.0 v (pos 0) charge_there

      at_there : (k : ℕ) → c.0 ≢ k → get_or (set ground c.0 v) k (pos 0) ≡ get_or ground k (pos 0)
      at_there k ne = get_or-set_other ground c.0 k v (pos 0) (λ same. ne (sym same))

  -- what is counted at a node fits
  pub gathered_fits : (get_or ground c.0 (pos 0) +ℤ c.1) ≤ℤ pos (charge_sum cs)
  gathered_fits =
      fits_by (get_or ground c.0 (pos 0)) c.1 (sum_at (drop i cs) c.0) (sum_at (drop (i + 1) cs) c.0) (sum_at cs c.0) (charge_sum cs)
      (g.rest c.0 (rw is (within i d lt))) (split_here c.0 refl) (sum_natural (drop (i + 1) cs) c.0 (later (i + 1) cs natural)) (sum_most cs c.0 natural)
    where
      fits_by : (a b old new whole : ℤ) (t : ℕ) → a +ℤ old ≡ whole → old ≡ b +ℤ new → pos 0 ≤ℤ new → whole ≤ℤ pos t → (a +ℤ b) ≤ℤ pos t
      fits_by a b old new whole t p q r s = omega (arith, ints, p, q, r, s)

      later : (m : ℕ) (xs : List Charge) → AreNatural xs → AreNatural (drop m xs)
      later m xs all = All-drop (λ (x : Charge). pos 0 ≤ℤ x.1) m xs all

  pub gathered_natural : pos 0 ≤ℤ (get_or ground c.0 (pos 0) +ℤ c.1)
  gathered_natural = natural_by _ (get_or ground c.0 (pos 0)) c.1 refl (g.natural c.0) charge_natural

drop_whole : {X : Type 0} (xs : List X) → drop (length xs) xs ≡ []
drop_whole [] = refl
drop_whole (x ∷ xs) = drop_whole xs

plus_zero : (x y : ℤ) → x +ℤ pos 0 ≡ y → x ≡ y
plus_zero x y e = omega (arith, ints, e)

pub gathered_last : (cs : List Charge) (n : ℕ) (ground : List ℤ) → IsGathered cs n (length cs) ground → ground ≡ map (sum_at cs) (rising 0 n)
gathered_last cs n ground g =
    ext_get_or (pos 0) ground (map (sum_at cs) (rising 0 n)) (g.count ∙ sym (length-map (rising 0 n) (sum_at cs) ∙ length-rising 0 n)) (λ k lt. at k lt)
  where
    at : (k : ℕ) → k < length ground → get_or ground k (pos 0) ≡ get_or (map (sum_at cs) (rising 0 n)) k (pos 0)
    at k lt =
        let in_range : k < n = let count = g.count in omega (arith, lt, count) in
        let len = length-rising 0 n in
        let mapped : get_or (map (sum_at cs) (rising 0 n)) k (pos 0) ≡ sum_at cs (get_or (rising 0 n) k 0) = get_or-map (sum_at cs) (rising 0 n) k 0 (pos 0) (omega (arith, in_range, len)) in
        let number : get_or (rising 0 n) k 0 ≡ k = let at_k = rising_at 0 n k 0 in_range in omega (arith, at_k) in
        let whole : get_or ground k (pos 0) +ℤ pos 0 ≡ sum_at cs k = ap (λ xs. get_or ground k (pos 0) +ℤ sum_at xs k) (sym (drop_whole cs)) ∙ g.rest k in_range in
        plus_zero _ _ whole ∙ sym (mapped ∙ ap (sum_at cs) number)
