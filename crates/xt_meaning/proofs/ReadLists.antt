-- The read list of a net: what holds of all that is read holds of its elements, and a net has one.
use Rattle.std.proofs.Common.{◌≡◌, ℕ, zero, suc, ◌<◌, ◌⊎◌, inl, inr, refl, sym, subst, List, [], ◌∷◌, length, get_or, arith}
use Rattle.std.specs.Prelude.{◌↔◌, Option, Some, IfSome, slice_index}
use Rattle.std.specs.List.{All, Contains, slice_get}
use Rattle.std.proofs.lemmas.List.Elements.{All-weaker, All-contains, All-contains_itself}
use Rattle.xt_model.specs.declared.net.TimingArc.{TimingArc}
use Rattle.xt_model.specs.declared.net.Net.{Net}
use Rattle.xt_model.specs.Levels.{CouplesTo}
use Rattle.xt_model.specs.Parts.{Parts}
use Rattle.xt_meaning.specs.Reads.{HoldsOfEnds, HoldsOfArcReads, HoldsOfReads, IsAround, LooksAt, IsReadList}
use Rattle.xt_meaning.proofs.Widest.{IfSome_there}

-- ---- what is looked at
-- R holds of what stands in the coupling list of net n
end_of : (R : ℕ → Type 0) (d : Parts) (n m : ℕ) → IfSome (slice_get d.nets n) (λ net. HoldsOfEnds R net.couplings) → CouplesTo d.nets n m → R m
end_of R d n m h c =
    let P : Option Net → Type 0 = λ o. IfSome o (λ net. HoldsOfEnds R net.couplings) in
    subst R c.4 (All-contains (λ k. R k.to.0) c.0.couplings c.1 (subst P c.2 h) c.3)

around_of : (R : ℕ → Type 0) (d : Parts) (n m : ℕ) → R n → IfSome (slice_get d.nets n) (λ net. HoldsOfEnds R net.couplings) → IsAround d.nets n m → R m
around_of R d n m own h (inl e) = subst R (sym e) own
around_of R d n m own h (inr c) = end_of R d n m h c

-- R holds of every net of the read list of n
pub holds_of_looked_at : (R : ℕ → Type 0) (d : Parts) (n m : ℕ) → HoldsOfReads R d n → LooksAt d n m → R m
holds_of_looked_at R d n m h l =
    let reads = l.1 in
    let net = reads.0 in
    let arc = reads.1 in
    let P : Option Net → Type 0 = λ o. IfSome o (λ k. All (HoldsOfArcReads R d n k) k.arcs) in
    let Q : Option Net → Type 0 = λ o. IfSome o (λ k. HoldsOfEnds R k.couplings) in
    let S : ℕ → Type 0 = λ i. IfSome (slice_get d.nets i) (λ k. HoldsOfEnds R k.couplings) in
    let g = All-contains (HoldsOfArcReads R d n net) net.arcs arc (subst P reads.2 h.arcs) reads.3 in
    let own = subst Q (sym reads.2) g.aggressors in
    elim l.2 [
      | inl a ↦ around_of R d n m g.own own a
      | inr a ↦ around_of R d l.0 m (subst R reads.4 g.from) (subst S reads.4 g.from_aggressors) a
    ]

ends_from : (R : ℕ → Type 0) (d : Parts) (n : ℕ) (net : Net) → slice_get d.nets n ≡ Some net → ((m : ℕ) → CouplesTo d.nets n m → R m) → HoldsOfEnds R net.couplings
ends_from R d n net there h = All-weaker (Contains net.couplings) (λ k. R k.to.0) (λ k has. h k.to.0 (net, k, there, has, refl)) net.couplings (All-contains_itself net.couplings)

arc_from : (R : ℕ → Type 0) (d : Parts) (n : ℕ) (net : Net) (a : TimingArc) → slice_get d.nets n ≡ Some net → Contains net.arcs a → ((m : ℕ) → LooksAt d n m → R m) → HoldsOfArcReads R d n net a
arc_from R d n net a there has h = record {
  own = h n (a.from.0, (net, a, there, has, refl), inl (inl refl));
  aggressors = ends_from R d n net there (λ m c. h m (a.from.0, (net, a, there, has, refl), inl (inr c)));
  from = h a.from.0 (a.from.0, (net, a, there, has, refl), inr (inl refl));
  from_aggressors = IfSome_there (λ k. HoldsOfEnds R k.couplings) (slice_get d.nets a.from.0)
      (λ k at. ends_from R d a.from.0 k at (λ m c. h m (a.from.0, (net, a, there, has, refl), inr (inr c))));
}

pub holds_from_looked_at : (R : ℕ → Type 0) (d : Parts) (n : ℕ) → ((m : ℕ) → LooksAt d n m → R m) → HoldsOfReads R d n
holds_from_looked_at R d n h = record {
  arcs = IfSome_there (λ net. All (HoldsOfArcReads R d n net) net.arcs) (slice_get d.nets n)
      (λ net there. All-weaker (Contains net.arcs) (HoldsOfArcReads R d n net) (λ a has. arc_from R d n net a there has h) net.arcs (All-contains_itself net.arcs));
}

-- ---- as a list
pub reads_of_list : (R : ℕ → Type 0) (d : Parts) (n : ℕ) (reads : List ℕ) → IsReadList d n reads → All R reads → HoldsOfReads R d n
reads_of_list R d n reads is all = holds_from_looked_at R d n (λ m l. All-contains R reads m all ((is.members m).1 l))

pub list_of_reads : (R : ℕ → Type 0) (d : Parts) (n : ℕ) (reads : List ℕ) → IsReadList d n reads → HoldsOfReads R d n → All R reads
list_of_reads R d n reads is h = All-weaker (Contains reads) R (λ m has. holds_of_looked_at R d n m h ((is.members m).0 has)) reads (All-contains_itself reads)

-- ---- one list
abbrev Rises : List ℕ → Type 0
Rises xs = (i j : ℕ) → i < j → j < length xs → slice_index xs i < slice_index xs j

rises_after : (x : ℕ) (xs : List ℕ) → Rises (x ∷ xs) → Rises xs
rises_after x xs h i j less within = h (suc i) (suc j) (omega arith) (omega arith)

contains_cases : (x m : ℕ) (xs : List ℕ) (i : ℕ) → i < length (x ∷ xs) → get_or (x ∷ xs) i m ≡ m → (x ≡ m) ⊎ Contains xs m
contains_cases x m xs zero h e = inl e
contains_cases x m xs (suc i) h e = inr (i, omega arith, e)

in_front_or_after : (x m : ℕ) (xs : List ℕ) → Contains (x ∷ xs) m → (x ≡ m) ⊎ Contains xs m
in_front_or_after x m xs h = contains_cases x m xs h.0 h.1 h.2

in_front : (x : ℕ) (xs : List ℕ) → Contains (x ∷ xs) x
in_front x xs = (0, omega arith, refl)

further_on : (x m : ℕ) (xs : List ℕ) → Contains xs m → Contains (x ∷ xs) m
further_on x m xs h = (suc h.0, (let k = h.1 in omega arith), h.2)

other_default : (xs : List ℕ) (i d e : ℕ) → i < length xs → get_or xs i d ≡ get_or xs i e
other_default [] i d e h = absurd (omega arith)
other_default (x ∷ xs) zero d e h = refl
other_default (x ∷ xs) (suc i) d e h = other_default xs i d e (omega arith)

front_is_least : (x m : ℕ) (xs : List ℕ) → Rises (x ∷ xs) → Contains xs m → x < m
front_is_least x m xs h has =
    let k : x < get_or xs has.0 0 = h 0 (suc has.0) (omega arith) (let b = has.1 in omega arith) in
    let e : get_or xs has.0 0 ≡ get_or xs has.0 m = other_default xs has.0 0 m has.1 in
    let f : get_or xs has.0 m ≡ m = has.2 in
    omega (arith, k, e, f)

same_front : (x y : ℕ) (xs ys : List ℕ) → Rises (x ∷ xs) → Rises (y ∷ ys) → ((m : ℕ) → Contains (x ∷ xs) m ↔ Contains (y ∷ ys) m) → x ≡ y
same_front x y xs ys h k same = elim (in_front_or_after y x ys ((same x).0 (in_front x xs))) [
  | inl e ↦ sym e
  | inr late ↦ elim (in_front_or_after x y xs ((same y).1 (in_front y ys))) [
    | inl e ↦ e
    | inr more ↦ let a = front_is_least y x ys k late in let b = front_is_least x y xs h more in absurd (omega (arith, a, b))
  ]
]

after_front : (x y : ℕ) (xs ys : List ℕ) → Rises (x ∷ xs) → x ≡ y → ((m : ℕ) → Contains (x ∷ xs) m → Contains (y ∷ ys) m) → (m : ℕ) → Contains xs m → Contains ys m
after_front x y xs ys h e same m has = elim (in_front_or_after y m ys (same m (further_on x m xs has))) [
  | inl f ↦ let a = front_is_least x m xs h has in absurd (omega (arith, a, e, f))
  | inr there ↦ there
]

same_members : (xs ys : List ℕ) → Rises xs → Rises ys → ((m : ℕ) → Contains xs m ↔ Contains ys m) → xs ≡ ys
same_members [] [] h k same = refl
same_members [] (y ∷ ys) h k same = let has = (same y).1 (in_front y ys) in absurd (let b = has.1 in omega arith)
same_members (x ∷ xs) [] h k same = let has = (same x).0 (in_front x xs) in absurd (let b = has.1 in omega arith)
same_members (x ∷ xs) (y ∷ ys) h k same =
    let e = same_front x y xs ys h k same in
    let more = same_members xs ys (rises_after x xs h) (rises_after y ys k)
    (λ m. (after_front x y xs ys h e (λ i c. (same i).0 c) m, after_front y x ys xs k (sym e) (λ i c. (same i).1 c) m)) in
    cc

pub read_list_unique : (d : Parts) (n : ℕ) (reads others : List ℕ) → IsReadList d n reads → IsReadList d n others → reads ≡ others
read_list_unique d n reads others a b =
    same_members reads others a.rising b.rising (λ m. (λ h. (b.members m).1 ((a.members m).0 h), λ h. (a.members m).1 ((b.members m).0 h)))
