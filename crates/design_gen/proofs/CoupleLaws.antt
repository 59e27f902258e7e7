-- Capacitors between nets, and the couplings that nets have of them.
use Rattle.std.proofs.Common.{◌≡◌, ℕ, zero, suc, ◌+◌, ◌*◌, ◌<◌, ◌≤◌, ◌⊎◌, inl, inr, refl, sym, ◌∙◌, subst, Bool, true, false, List, [], ◌∷◌, ◌++◌, length, append-nil, append_assoc, pos, ◌≤ℤ◌, arith}
use Rattle.std.specs.Prelude.{◌≢◌, ◌==◌, if◌then◌else◌}
use Rattle.std.specs.List.{All}
use Rattle.std.proofs.lemmas.Int.{ints}
use Rattle.std.proofs.lemmas.Bool.{ltb-true}
use Rattle.std.proofs.Math.Nat.{mod-lt}
use Rattle.std.proofs.lemmas.List.{length-append, length_push}
use Rattle.std.proofs.lemmas.List.Elements.{All-nil, All-cons, All-head, All-tail}
use Rattle.xt_model.specs.declared.net.Coupling.{Coupling}
use Rattle.xt_model.specs.Sound.{coupling_sum}
use Rattle.drawn_numbers.specs.Draws.{next, answer}
use Rattle.design_gen.specs.Couples.{Couple, coupling, coupling_of, couplings_of, has_room, with_couple, paired, coupled}
use Rattle.design_gen.proofs.Sums.{true_or_false, is_same, not_same, sum_to, sum_to_most, sum_to_two, sum_to_none, hit, sum_hit}

pub answer_below : (x k : ℕ) → 0 < k → answer x k < k
unfolding answer
answer_below x k h = mod-lt _ h

-- ---- lists of capacitors
pub couplings_append : (n : ℕ) (cs : List Couple) (c : Couple) → couplings_of n (cs ++ c ∷ []) ≡ couplings_of n cs ++ coupling_of n c
couplings_append n [] c = simp append-nil
couplings_append n (x ∷ cs) c = let h = couplings_append n cs c in rw h (simp append_assoc)

one_length : (a b : Bool) (x y : Coupling) → length (if a then x ∷ [] else if b then y ∷ [] else []) ≤ (if a then 1 else 0) + (if b then 1 else 0)
one_length true b x y = omega arith
one_length false true x y = omega arith
one_length false false x y = omega arith

coupling_length : (n : ℕ) (c : Couple) → length (coupling_of n c) ≤ hit c.first n + hit c.second n
unfolding hit
coupling_length n c = one_length (c.first == n) (c.second == n) (coupling c.second c.cap) (coupling c.first c.cap)

-- a capacitor is a coupling of two nets
pub couplings_in_all : (cs : List Couple) (nets : ℕ) → sum_to (λ n. length (couplings_of n cs)) nets ≤ 2 * length cs
couplings_in_all [] nets = let e = sum_to_none nets in omega (arith, e)
couplings_in_all (c ∷ cs) nets =
    let a = couplings_in_all cs nets in
    let b = sum_to_most (λ n. length (couplings_of n (c ∷ cs))) (λ n. (hit c.first n + hit c.second n) + length (couplings_of n cs)) nets
    (λ n h. let e = length-append (coupling_of n c) (couplings_of n cs) in let k = coupling_length n c in omega (arith, e, k)) in
    let d = sum_to_two (λ n. hit c.first n + hit c.second n) (λ n. length (couplings_of n cs)) nets in
    let f = sum_to_two (hit c.first) (hit c.second) nets in
    let g = sum_hit c.first nets in
    let i = sum_hit c.second nets in
    omega (arith, a, b, d, f, g, i)

-- ---- room
abbrev pub HaveFew : List Couple → Type 0
HaveFew cs = (n : ℕ) → length (couplings_of n cs) ≤ 16

more_few : (cs : List Couple) (c : Couple) → HaveFew cs → length (couplings_of c.first cs) < 16 → length (couplings_of c.second cs) < 16 → HaveFew (cs ++ c ∷ [])
more_few cs c few a b n =
    let P : List Coupling → Type 0 = λ ks. length ks ≤ 16 in
    subst P (sym (couplings_append n cs c)) (fits (true_or_false (c.first == n)) (true_or_false (c.second == n))) where
      l : length (couplings_of n cs ++ coupling_of n c) ≡ length (couplings_of n cs) + length (coupling_of n c)
      l = length-append (couplings_of n cs) (coupling_of n c)

      first : c.first ≡ n → length (couplings_of n cs) < 16
      first e = let Q : ℕ → Type 0 = λ i. length (couplings_of i cs) < 16 in subst Q e a

      second : c.second ≡ n → length (couplings_of n cs) < 16
      second e = let Q : ℕ → Type 0 = λ i. length (couplings_of i cs) < 16 in subst Q e b

      fits : ((c.first == n) ≡ true) ⊎ ((c.first == n) ≡ false) → ((c.second == n) ≡ true) ⊎ ((c.second == n) ≡ false) → length (couplings_of n cs ++ coupling_of n c) ≤ 16
      fits (inl e) s =
          let k = first (is_same c.first n e) in
          let m : length (coupling_of n c) ≡ 1 = rw e refl in
          omega (arith, l, k, m)
      fits (inr e) (inl s) =
          let k = second (is_same c.second n s) in
          let m : length (coupling_of n c) ≡ 1 = rw (e, s) refl in
          omega (arith, l, k, m)
      fits (inr e) (inr s) =
          let m : length (coupling_of n c) ≡ 0 = rw (e, s) refl in
          let k = few n in
          omega (arith, l, k, m)

-- ---- what is true of each capacitor
pub record IsCouple (nets : ℕ) (c : Couple) : Type 0 where
  pub first : c.first < nets
  pub second : c.second < nets
  pub differ : c.first ≢ c.second
  pub most : c.cap ≤ 999

-- what is true of the capacitors after i nets
pub record AreCouples (nets i : ℕ) (cs : List Couple) : Type 0 where
  pub each : All (IsCouple nets) cs
  pub few : HaveFew cs
  pub count : length cs ≤ i

all_push : (nets : ℕ) (cs : List Couple) (c : Couple) → All (IsCouple nets) cs → IsCouple nets c → All (IsCouple nets) (cs ++ c ∷ [])
all_push nets [] c h p = All-cons (IsCouple nets) c [] p (All-nil (IsCouple nets))
all_push nets (x ∷ cs) c h p = All-cons (IsCouple nets) x (cs ++ c ∷ []) (All-head (IsCouple nets) x cs h) (all_push nets cs c (All-tail (IsCouple nets) x cs h) p)

kept : (nets i : ℕ) (cs : List Couple) → AreCouples nets i cs → AreCouples nets (suc i) cs
kept nets i cs h = let k = h.count in record { each = h.each; few = h.few; count = omega (arith, k) }

room_here : (cs : List Couple) (n : ℕ) → has_room cs n ≡ true → length (couplings_of n cs) < 16
room_here cs n h = ltb-true (length (couplings_of n cs)) 16 h

with_more : (nets i a cap : ℕ) (cs : List Couple) → AreCouples nets i cs → i < nets → a < nets → a ≢ i → cap ≤ 999 → AreCouples nets (suc i) (with_couple cs i a cap)
with_more nets i a cap cs h p q differ most = chosen (true_or_false (has_room cs i)) (true_or_false (has_room cs a)) where
  chosen : (has_room cs i ≡ true) ⊎ (has_room cs i ≡ false) → (has_room cs a ≡ true) ⊎ (has_room cs a ≡ false) → AreCouples nets (suc i) (with_couple cs i a cap)
  chosen (inl e) (inl f) =
      let P : List Couple → Type 0 = λ r. AreCouples nets (suc i) r in
      let c : Couple = record { first = i; second = a; cap = cap } in
      let k : cs ++ c ∷ [] ≡ with_couple cs i a cap = rw (e, f) refl in
      let l = length_push cs c in
      let n = h.count in
      subst P k (record {
        each = all_push nets cs c h.each (record { first = p; second = q; differ = λ g. differ (sym g); most = most });
        few = more_few cs c h.few (room_here cs i e) (room_here cs a f);
        count = omega (arith, l, n);
      })
  chosen (inl e) (inr f) = let P : List Couple → Type 0 = λ r. AreCouples nets (suc i) r in let k : cs ≡ with_couple cs i a cap = rw (e, f) refl in subst P k (kept nets i cs h)
  chosen (inr e) f = let P : List Couple → Type 0 = λ r. AreCouples nets (suc i) r in let k : cs ≡ with_couple cs i a cap = rw e refl in subst P k (kept nets i cs h)

paired_more : (nets i a x : ℕ) (cs : List Couple) → AreCouples nets i cs → i < nets → a < nets → AreCouples nets (suc i) (paired i a x cs).couples
paired_more nets i a x cs h p q = chosen (true_or_false (a == i)) where
  P : List Couple → Type 0
  P r = AreCouples nets (suc i) r

  below : answer (next x) 800 < 800
  below = answer_below (next x) 800 (omega arith)

  chosen : ((a == i) ≡ true) ⊎ ((a == i) ≡ false) → AreCouples nets (suc i) (paired i a x cs).couples
  chosen (inl e) = let k : cs ≡ (paired i a x cs).couples = rw e refl in subst (AreCouples nets (suc i)) k (kept nets i cs h)
  chosen (inr e) =
      let k : with_couple cs i a (200 + answer (next x) 800) ≡ (paired i a x cs).couples = rw e refl in
      subst (AreCouples nets (suc i)) k (with_more nets i a (200 + answer (next x) 800) cs h p q (not_same a i e) (omega (arith, below)))

pub coupled_well : (nets x i : ℕ) → i ≤ nets → AreCouples nets i (coupled nets x i).couples
coupled_well nets x zero h = record { each = All-nil (IsCouple nets); few = λ n. omega arith; count = omega arith }
coupled_well nets x (suc i) h =
    let s = coupled nets x i in
    paired_more nets i (answer (next s.state) nets) (next s.state) s.couples (coupled_well nets x i (omega arith)) (omega arith) (answer_below (next s.state) nets (omega arith))

-- ---- the couplings of one net
-- a coupling of net n to another net below a number, of at most 999 aF
pub record IsCouplingOf (nets n : ℕ) (k : Coupling) : Type 0 where
  pub there : k.to.0 < nets
  pub other : k.to.0 ≢ n
  pub low : pos 0 ≤ℤ k.cap
  pub most : k.cap ≤ℤ pos 999

one_coupling : (nets n : ℕ) (c : Couple) (more : List Coupling) → IsCouple nets c → All (IsCouplingOf nets n) more → All (IsCouplingOf nets n) (coupling_of n c ++ more)
one_coupling nets n c more p h = chosen (true_or_false (c.first == n)) (true_or_false (c.second == n)) where
  chosen : ((c.first == n) ≡ true) ⊎ ((c.first == n) ≡ false) → ((c.second == n) ≡ true) ⊎ ((c.second == n) ≡ false) → All (IsCouplingOf nets n) (coupling_of n c ++ more)
  chosen (inl e) s =
      let k : coupling c.second c.cap ∷ more ≡ coupling_of n c ++ more = rw e refl in
      let at = is_same c.first n e in
      let m = p.most in
      subst (All (IsCouplingOf nets n)) k
      (All-cons (IsCouplingOf nets n) (coupling c.second c.cap) more (record {
        there = p.second;
        other = λ g. p.differ (at ∙ sym g);
        low = omega (arith, ints);
        most = omega (arith, ints, m);
      }) h)
  chosen (inr e) (inl s) =
      let k : coupling c.first c.cap ∷ more ≡ coupling_of n c ++ more = rw (e, s) refl in
      let m = p.most in
      subst (All (IsCouplingOf nets n)) k
      (All-cons (IsCouplingOf nets n) (coupling c.first c.cap) more (record {
        there = p.first;
        other = not_same c.first n e;
        low = omega (arith, ints);
        most = omega (arith, ints, m);
      }) h)
  chosen (inr e) (inr s) = let k : more ≡ coupling_of n c ++ more = rw (e, s) refl in subst (All (IsCouplingOf nets n)) k h

pub couplings_well : (nets n : ℕ) (cs : List Couple) → All (IsCouple nets) cs → All (IsCouplingOf nets n) (couplings_of n cs)
couplings_well nets n [] h = All-nil (IsCouplingOf nets n)
couplings_well nets n (c ∷ cs) h = one_coupling nets n c (couplings_of n cs) (All-head (IsCouple nets) c cs h) (couplings_well nets n cs (All-tail (IsCouple nets) c cs h))

pub sum_small : (nets n : ℕ) (ks : List Coupling) → All (IsCouplingOf nets n) ks → coupling_sum ks ≤ℤ pos (999 * length ks)
sum_small nets n [] h = omega (arith, ints)
sum_small nets n (k ∷ ks) h =
    let a = sum_small nets n ks (All-tail (IsCouplingOf nets n) k ks h) in
    let b = (All-head (IsCouplingOf nets n) k ks h).most in
    omega (arith, ints, a, b)
