-- A set of the names of the first nets: what it has, what one more name changes, and what follows from a name
-- that is there already.
use Rattle.std.proofs.Common.{◌≡◌, ◌≢◌, ℕ, ◌+◌, ◌<◌, ◌≤◌, Bool, true, false, cond, List, length, Some, inl, inr, refl, sym, ap, ◌∙◌, arith}
use Rattle.std.specs.List.{slice_get}
use Rattle.std.specs.Str.{bytes_eq}
use Rattle.std.proofs.lemmas.Bool.{cases_lt, false≢true}
use Rattle.std.proofs.lemmas.Option.{slice_get_within}
use Rattle.std.proofs.lemmas.Slice.Eq.{bytes_eq-Decides}
use Rattle.std.specs.Option.{unwrap_or}
use Rattle.xt_model.specs.declared.net.Net.{Net}
use Rattle.xt_model.specs.Sound.{HasOwnNames}

-- `has` is whether the bytes of a key, `now`, are the name of one of the first `count` nets
pub record IsSeen {K : Type 0} (now : K → List ℕ) (nets : List Net) (count : ℕ) (has : K → Bool) : Type 0 where
  pub every : (k : ℕ) (n : Net) (q : K) → k < count → slice_get nets k ≡ Some n → n.name ≡ now q → has q ≡ true
  pub only : (q : K) → has q ≡ true → (k : ℕ) × (n : Net) × (k < count) × (slice_get nets k ≡ Some n) × (n.name ≡ now q)

-- no two of the first `count` nets have the same name
pub record OwnBelow (nets : List Net) (count : ℕ) : Type 0 where
  pub differ : (i j : ℕ) (n m : Net) → i < j → j < count → slice_get nets i ≡ Some n → slice_get nets j ≡ Some m → n.name ≢ m.name

pub seen_none : {K : Type 0} (now : K → List ℕ) (nets : List Net) (has : K → Bool) → ((q : K) → has q ≡ false) → IsSeen now nets 0 has
seen_none now nets has none = record {
  every = λ k n q below there same. absurd (omega (arith, below));
  only = λ q found. absurd (false≢true (sym (none q) ∙ found));
}

cond_found : (test had : Bool) → had ≡ true → cond test true had ≡ true
cond_found true had h = refl
cond_found false had h = h

cond_passed : (test had : Bool) → test ≡ true → cond test true had ≡ true
cond_passed true had h = refl
cond_passed false had h = absurd (false≢true h)

cond_cases : {A : Type 0} (test had : Bool) → (test ≡ true → A) → (had ≡ true → A) → cond test true had ≡ true → A
cond_cases true had f g h = f refl
cond_cases false had f g h = g h

same_at : (nets : List Net) (i k : ℕ) (n m : Net) → i ≡ k → slice_get nets i ≡ Some n → slice_get nets k ≡ Some m → n ≡ m
same_at nets i k n m e at_i at_k = ap (λ o. unwrap_or o n) (sym at_i ∙ ap (slice_get nets) e ∙ at_k)

pub seen_more : {K : Type 0} (now : K → List ℕ) (nets : List Net) (i : ℕ) (n : Net) (key : K) (had has : K → Bool)
    → slice_get nets i ≡ Some n → now key ≡ n.name → ((q : K) → has q ≡ cond (bytes_eq (now key) (now q)) true (had q))
    → IsSeen now nets i had → IsSeen now nets (i + 1) has
seen_more {K} now nets i n key had has there is_name puts before = record {
  every = λ k m q below at_k same. puts q ∙ (elim (cases_lt k i) [
    | inl lt ↦ cond_found _ _ (before.every k m q lt at_k same)
    | inr ge ↦
        let e : n ≡ m = same_at nets i k n m (omega arith) there at_k in
        cond_passed _ _ ((bytes_eq-Decides (now key) (now q)).1 (is_name ∙ ap (λ x. x.name) e ∙ same))
  ]);
  only = λ q found.
      cond_cases {A = (k : ℕ) × (m : Net) × (k < i + 1) × (slice_get nets k ≡ Some m) × (m.name ≡ now q)} (bytes_eq (now key) (now q)) (had q)
      (λ t. (i, n, omega arith, there, sym is_name ∙ (bytes_eq-Decides (now key) (now q)).0 t))
      (λ t. let w = before.only q t in (w.0, w.1, omega (arith, w.2), w.3, w.4))
      (sym (puts q) ∙ found);
}

pub own_more : {K : Type 0} (now : K → List ℕ) (nets : List Net) (i : ℕ) (n : Net) (key : K) (had : K → Bool)
    → slice_get nets i ≡ Some n → now key ≡ n.name → had key ≡ false
    → IsSeen now nets i had → OwnBelow nets i → OwnBelow nets (i + 1)
own_more now nets i n key had there is_name new seen own = record {
  differ = λ a b m p lt below at_a at_b same. elim (cases_lt b i) [
    | inl h ↦ own.differ a b m p lt h at_a at_b same
    | inr h ↦
        let e : n ≡ p = same_at nets i b n p (omega arith) there at_b in
        false≢true (sym new ∙ seen.every a m key (omega arith) at_a (same ∙ sym (ap (λ x. x.name) e) ∙ sym is_name))
  ];
}

pub own_at_end : (nets : List Net) (count : ℕ) → length nets ≤ count → OwnBelow nets count → HasOwnNames nets
own_at_end nets count past own = record {
  differ = λ i j n m lt at_i at_j. own.differ i j n m lt (omega (arith, slice_get_within nets j m at_j)) at_i at_j;
}

pub not_own : {K : Type 0} (now : K → List ℕ) (nets : List Net) (i : ℕ) (n : Net) (key : K) (had : K → Bool)
    → slice_get nets i ≡ Some n → now key ≡ n.name → had key ≡ true
    → IsSeen now nets i had → HasOwnNames nets → ⊥
not_own now nets i n key had there is_name old seen own =
    let w = seen.only key old in
    own.differ w.0 i w.1 n w.2 w.3 there (w.4 ∙ is_name)
