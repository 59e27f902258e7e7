-- Places in read lists, and the words at them.
use Rattle.std.proofs.Common.{◌≡◌, ℕ, zero, suc, ◌+◌, ◌*◌, ◌/◌, ◌%◌, ◌<◌, ◌≤◌, ◌==◌, Bool, true, false, cond, inl, inr, refl, sym, subst, ◌∙◌, List, [], ◌∷◌, length, set, get_or, arith}
use Rattle.std.specs.Prelude.{slice_index, IsTrue}
use Rattle.std.specs.List.{All, Contains, slice_get}
use Rattle.std.proofs.lemmas.Bool.{cases_lt, cases_eq}
use Rattle.std.proofs.lemmas.Bool.Decides.{nat_tests}
use Rattle.std.proofs.lemmas.List.{get_or-map, length-map, get_or_default, get_or-set_same, get_or-set_other}
use Rattle.std.proofs.lemmas.List.Elements.{All-contains, All-contains_itself, Contains-get_or}
use Rattle.std.proofs.lemmas.Option.{slice_get_within}
use Rattle.xt_model.specs.declared.net.NetId.{NetId}
use Rattle.xt_model.specs.Parts.{Parts}
use Rattle.xt_model.specs.Levels.{IsOrder}
use Rattle.xt_model.specs.Sound.{IsSound, IsSoundNet, IsSoundArc, IsSoundCoupling}
use Rattle.xt_meaning.specs.Reads.{HoldsOfReads, IsAround, LooksAt, IsReadList}
use Rattle.xt_meaning.proofs.Words.{word_net}
use Rattle.xt_meaning.proofs.ReadLists.{reads_of_list, holds_from_looked_at}
use Rattle.miller_bits.specs.Views.{HasNet}
use Rattle.miller_bits.proofs.Sums.{found}
use Rattle.net_eval.specs.ReadLists.{ids}
use Rattle.net_eval.proofs.Steady.{has_sink}
use Rattle.chaos_core.specs.Tasks.{place_of, word_to_load}
use Rattle.chaos_core.specs.Views.{ArePlaces, Rises}

-- ---- places
contains_later : (x m : ℕ) (xs : List ℕ) (k : ℕ) → k < length (x ∷ xs) → get_or (x ∷ xs) k m ≡ m → (x ≡ m → ⊥) → Contains xs m
contains_later x m xs zero h e ne = absurd (ne e)
contains_later x m xs (suc k) h e ne = (k, omega arith, e)

-- the place of a net that is read
pub record IsPlaced (reads : List ℕ) (net : ℕ) (place : ℕ) : Type 0 where
  pub inside : place < length reads
  pub at : slice_index reads place ≡ net

pub placed : (reads : List ℕ) (net : ℕ) → Contains reads net → IsPlaced reads net (place_of reads net)
placed [] net h = absurd (let k = h.1 in omega arith)
placed (r ∷ reads) net h = elim (cases_eq r net) [
  | inl e ↦
      let t : (r == net) ≡ true = grind (arith, nat_tests) in
      rw t (record { inside = omega arith; at = e })
  | inr ne ↦
      let t : (r == net) ≡ false = grind (arith, nat_tests) in
      let more = placed reads net (contains_later r net reads h.0 h.1 h.2 ne) in
      rw t (record { inside = (let k = more.inside in omega (arith, k)); at = more.at })
]

-- a place of numbers that rise is at most the number there
pub rising_place : (reads : List ℕ) (i : ℕ) → Rises reads → i < length reads → i ≤ slice_index reads i
rising_place reads zero up h = omega arith
rising_place reads (suc i) up h =
    let before = rising_place reads i up (omega arith) in
    let less = up i (suc i) (omega arith) h in
    omega (arith, before, less)

-- one net more of a read list is given its place
pub places_turn : (reads places : List ℕ) (k net : ℕ) → Rises reads → net < length places → k < length reads → slice_index reads k ≡ net
    → ((i : ℕ) → i < k → slice_index places (slice_index reads i) ≡ i) → (i : ℕ) → i < k + 1 → slice_index (set places net k) (slice_index reads i) ≡ i
places_turn reads places k net up there within at before i h = elim (cases_lt i k) [
  | inl p ↦
      let less = up i k p within in
      get_or-set_other places net (slice_index reads i) k 0 (λ e. omega (arith, less, at, e)) ∙ before i p
  | inr p ↦
      let e : k ≡ i = omega (arith, p, h) in
      subst (λ j. slice_index (set places net k) (slice_index reads j) ≡ j) e (subst (λ m. slice_index (set places net k) m ≡ k) (sym at) (get_or-set_same places net k 0 there))
]

-- what is kept for a net that is read is its place
pub place_is : (reads places : List ℕ) (net : ℕ) → ArePlaces reads places → Contains reads net → slice_index places net ≡ place_of reads net
place_is reads places net are there =
    let p = placed reads net there in
    subst (λ m. slice_index places m ≡ place_of reads net) p.at (are.each (place_of reads net) p.inside)

pub id_at : (reads : List NetId) (place : ℕ) (x : NetId) → place < length reads → slice_index (ids reads) place ≡ (get_or reads place x).0
id_at reads place x h =
    let len : length (ids reads) ≡ length reads = length-map reads (λ n. n.0) in
    get_or_default (ids reads) place 0 x.0 (omega arith) ∙ get_or-map (λ n. n.0) reads place x x.0 h

pub ids_count : (reads : List NetId) → length (ids reads) ≡ length reads
ids_count reads = length-map reads (λ n. n.0)

-- nets below a count are below what is no less
pub nets_placed : (reads : List NetId) (count long : ℕ) → All (λ m. m < count) (ids reads) → count ≤ long → All (λ (n : NetId). n.0 < long) reads
nets_placed reads count long each few i x h =
    let c = ids_count reads in
    let at = id_at reads i x h in
    let lt = each i 0 (omega (arith, c, h)) in
    omega (arith, at, lt, few)

pub ids_below : (reads : List NetId) (long : ℕ) → All (λ (n : NetId). n.0 < long) reads → All (λ m. m < long) (ids reads)
ids_below reads long each i m h =
    let c = ids_count reads in
    let x : NetId = record { 0 = m } in
    let inside : i < length reads = omega (arith, c, h) in
    subst (λ k. k < long) (sym (get_or-map (λ (n : NetId). n.0) reads i x m inside)) (each i x inside)

-- ---- words
-- the word that is loaded at the place of a word
pub word_placed : (reads : List ℕ) (word : ℕ) → Contains reads (word / 8) → word_to_load reads (8 * place_of reads (word / 8) + word % 8) ≡ word
word_placed reads word there =
    let p = place_of reads (word / 8) in
    let at = placed reads (word / 8) there in
    let a : (8 * p + word % 8) / 8 ≡ p = omega arith in
    let b : (8 * p + word % 8) % 8 ≡ word % 8 = omega arith in
    let c : slice_index reads ((8 * p + word % 8) / 8) ≡ word / 8 = subst (λ i. slice_index reads i ≡ word / 8) (sym a) at.at in
    omega (arith, b, c)

-- ---- nets of a read list are there
around_there : (d : Parts) (n m : ℕ) → IsSound d → n < length d.nets → IsAround d.nets n m → m < length d.nets
around_there d n m s h (inl e) = omega (arith, e, h)
around_there d n m s h (inr c) =
    let sound = found (IsSoundNet d n) (slice_get d.nets n) c.0 c.2 (s.nets n) in
    let k = All-contains (IsSoundCoupling d n) c.0.couplings c.1 sound.couplings c.3 in
    subst (λ i. i < length d.nets) c.4 k.there

pub looked_there : (d : Parts) (n m : ℕ) → IsSound d → LooksAt d n m → m < length d.nets
looked_there d n m s l =
    let r = l.1 in
    let own : n < length d.nets = slice_get_within d.nets n r.0 r.2 in
    let sound = found (IsSoundNet d n) (slice_get d.nets n) r.0 r.2 (s.nets n) in
    let arc = All-contains (IsSoundArc d) r.0.arcs r.1 sound.arcs r.3 in
    let from : r.1.from.0 < length d.nets = has_sink d r.1.from.0 r.1.sink (slice_get d.nets r.1.from.0) refl arc.sink in
    let input : l.0 < length d.nets = subst (λ i. i < length d.nets) r.4 from in
    elim l.2 [
      | inl a ↦ around_there d n m s own a
      | inr a ↦ around_there d l.0 m s input a
    ]

pub read_there : (d : Parts) (net m : ℕ) (reads : List ℕ) → IsSound d → IsReadList d net reads → Contains reads m → m < length d.nets
read_there d net m reads s list h = looked_there d net m s ((list.members m).0 h)

-- each word to load is there
pub load_there : (d : Parts) (net place : ℕ) (reads : List ℕ) → IsSound d → IsReadList d net reads → place < 8 * length reads → word_to_load reads place < 8 * length d.nets
load_there d net place reads s list h =
    let m = slice_index reads (place / 8) in
    let k : m < length d.nets = read_there d net m reads s list (Contains-get_or reads (place / 8) 0 (omega arith)) in
    omega (arith, k)

-- the words of a read list are all that the operator reads
pub words_read : (d : Parts) (net : ℕ) (reads : List ℕ) → IsReadList d net reads → HoldsOfReads (HasNet (λ word. Contains reads (word / 8))) d net
words_read d net reads list = holds_from_looked_at (HasNet (λ word. Contains reads (word / 8))) d net has where
  has : (m : ℕ) → LooksAt d net m → HasNet (λ word. Contains reads (word / 8)) m
  has m l = λ e side h. subst (Contains reads) (sym (word_net m e side h)) ((list.members m).1 l)

pub nets_read : (d : Parts) (net : ℕ) (reads : List ℕ) → IsReadList d net reads → HoldsOfReads (Contains reads) d net
nets_read d net reads list = reads_of_list (Contains reads) d net reads list (All-contains_itself reads)

-- a place of the order holds a net
pub order_there : (d : Parts) (order : List ℕ) (number : ℕ) → IsOrder d.nets order → number < length d.nets → slice_index order number < length d.nets
order_there d order number o h =
    let k = o.2.count in
    (o.2.members (slice_index order number)).0 (Contains-get_or order number 0 (omega (arith, k, h)))

-- a test does not hold where it fails
pub no_lie : IsTrue false → ⊥
no_lie h = let P : Bool → Type 0 = λ b. cond b ⊥ (Unit {0}) in let e : false ≡ true = h in subst P e tt
