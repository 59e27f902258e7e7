-- Gathering what the operator looks at for a net.
use Rattle.std.proofs.Common.{◌≡◌, ℕ, zero, suc, ◌+◌, ◌<◌, ◌≤◌, inl, inr, refl, sym, ap, subst, ◌∙◌, List, [], ◌∷◌, ◌++◌, length, map, get_or, eqb, arith}
use Rattle.std.specs.Prelude.{Some}
use Rattle.std.specs.List.{All, Contains, slice_get, dedup}
use Rattle.std.specs.List.Sorted.{IsPermutation, IsSorted}
use Rattle.std.specs.Ordering.{nat_cmp}
use Rattle.std.proofs.lemmas.Bool.{cases_lt, cases_eq}
use Rattle.std.proofs.lemmas.List.{get_or-map, length-map}
use Rattle.std.proofs.lemmas.List.Elements.{All-append, All-map, All-contains, Contains-get_or, Contains-append_left, Contains-append_right}
use Rattle.std.proofs.lemmas.List.Kept.{Contains-dedup_nat, Contains-from_dedup}
use Rattle.std.proofs.lemmas.List.Sorted.{Contains-permutation, IsPermutation-sym}
use Rattle.std.proofs.lemmas.Map.Keys.{IsStrictlyIncreasing-dedup, sorted_from_strictly_increasing, below_from_sorted}
use Rattle.std.proofs.lemmas.Option.{same_Some, slice_get_within, slice_get-get_or, get_or_from_slice_get}
use Rattle.xt_model.specs.declared.net.NetId.{NetId}
use Rattle.xt_model.specs.declared.net.TimingArc.{TimingArc}
use Rattle.xt_model.specs.declared.net.Net.{Net}
use Rattle.xt_model.specs.Parts.{Parts}
use Rattle.xt_model.specs.Sound.{IsSound, IsSoundNet, IsSoundArc}
use Rattle.xt_model.specs.Levels.{AreOrdered}
use Rattle.xt_meaning.specs.Reads.{IsAround, LooksAt, IsReadList}
use Rattle.net_eval.specs.ReadLists.{ids, reads_of, AreReadLists, around, HasGained, HasLooked}
use Rattle.net_eval.proofs.Steady.{has_sink}

-- ---- around a net
in_front : (x : ℕ) (xs : List ℕ) → Contains (x ∷ xs) x
in_front x xs = (0, omega arith, refl)

further_on : (x m : ℕ) (xs : List ℕ) → Contains xs m → Contains (x ∷ xs) m
further_on x m xs h = (suc h.0, (let k = h.1 in omega arith), h.2)

contains_map : {X : Type 0} (f : X → ℕ) (xs : List X) (x : X) → Contains xs x → Contains (map f xs) (f x)
contains_map f xs x h =
    let within : h.0 < length xs = h.1 in
    let len : length (map f xs) ≡ length xs = length-map xs f in
    (h.0, omega arith, get_or-map f xs h.0 x (f x) within ∙ ap f h.2)

all_cons : (P : ℕ → Type 0) (x : ℕ) (xs : List ℕ) → P x → All P xs → All P (x ∷ xs)
all_cons P x xs p all zero d h = p
all_cons P x xs p all (suc k) d h = all k d (omega arith)

around_all : (nets : List Net) (n : ℕ) (net : Net) → slice_get nets n ≡ Some net → All (IsAround nets n) (around n net)
around_all nets n net there = all_cons (IsAround nets n) n (map (λ k. k.to.0) net.couplings) (inl refl)
    (All-map (IsAround nets n) (λ k. k.to.0) net.couplings (λ j k h. inr (net, get_or net.couplings j k, there, Contains-get_or net.couplings j k h, refl)))

around_has : (nets : List Net) (n m : ℕ) (net : Net) → slice_get nets n ≡ Some net → IsAround nets n m → Contains (around n net) m
around_has nets n m net there (inl e) = subst (Contains (around n net)) (sym e) (in_front n (map (λ k. k.to.0) net.couplings))
around_has nets n m net there (inr c) =
    let same : c.0 ≡ net = same_Some c.0 net (sym c.2 ∙ there) in
    let P : Net → Type 0 = λ x. Contains x.couplings c.1 in
    let held : Contains net.couplings c.1 = subst P same c.3 in
    let Q : ℕ → Type 0 = λ i. Contains (around n net) i in
    subst Q c.4 (further_on n c.1.to.0 (map (λ k. k.to.0) net.couplings) (contains_map (λ k. k.to.0) net.couplings c.1 held))

-- ---- what is gathered
all_weaker : (P Q : ℕ → Type 0) → ((m : ℕ) → P m → Q m) → (xs : List ℕ) → All P xs → All Q xs
all_weaker P Q h xs all k d w = h (get_or xs k d) (all k d w)

pub looks_none : (d : Parts) (n : ℕ) (net : Net) → length net.arcs ≡ 0 → HasLooked d n net [] (length net.arcs)
looks_none d n net none = record {
  looked = λ k x h. absurd (omega arith);
  own = λ m some at. absurd (omega arith);
  inputs = λ i m a lt at near. absurd (omega arith);
}

pub looks_own : (d : Parts) (n : ℕ) (net : Net) (numbers : List ℕ) → slice_get d.nets n ≡ Some net → 0 < length net.arcs → numbers ≡ [] ++ around n net → HasLooked d n net numbers 0
looks_own d n net numbers there some is =
    let arc : (a : TimingArc) × Contains net.arcs a = first net.arcs some in
    rw is (record {
      looked = all_weaker (IsAround d.nets n) (LooksAt d n) (λ m near. (arc.0.from.0, (net, arc.0, there, arc.1, refl), inl near)) (around n net) (around_all d.nets n net there);
      own = λ m h near. around_has d.nets n m net there near;
      inputs = λ i m a lt at near. absurd (omega arith);
    }) where
      first : (arcs : List TimingArc) → 0 < length arcs → (a : TimingArc) × Contains arcs a
      first [] h = absurd (omega arith)
      first (a ∷ more) h = (a, (0, omega arith, refl))

looks_on : (d : Parts) (n : ℕ) (net : Net) (numbers more : List ℕ) (turned : ℕ) (a : TimingArc) (input : Net) → slice_get d.nets n ≡ Some net → slice_get net.arcs turned ≡ Some a
    → slice_get d.nets a.from.0 ≡ Some input → more ≡ numbers ++ around a.from.0 input → HasLooked d n net numbers turned → HasLooked d n net more (turned + 1)
looks_on d n net numbers more turned a input there at from is h =
    let b = around a.from.0 input in
    let has : Contains net.arcs a = (turned, slice_get_within net.arcs turned a at, get_or_from_slice_get net.arcs turned a a at) in
    rw is (record {
      looked = All-append (LooksAt d n) numbers b h.looked
          (all_weaker (IsAround d.nets a.from.0) (LooksAt d n) (λ m near. (a.from.0, (net, a, there, has, refl), inr near)) b (around_all d.nets a.from.0 input from));
      own = λ m some near. Contains-append_left numbers b m (h.own m some near);
      inputs = λ i m c lt at_i near. elim (cases_eq i turned) [
        | inl e ↦
            let P : ℕ → Type 0 = λ j. slice_get net.arcs j ≡ Some c in
            let same : c ≡ a = same_Some c a (sym (subst P e at_i) ∙ at) in
            let Q : TimingArc → Type 0 = λ x. IsAround d.nets x.from.0 m in
            Contains-append_right numbers b m (around_has d.nets a.from.0 m input from (subst Q same near))
        | inr ne ↦ Contains-append_left numbers b m (h.inputs i m c (omega arith) at_i near)
      ];
    })

pub looks_more : (d : Parts) (n : ℕ) (net : Net) (arcs : List TimingArc) (numbers more : List ℕ) (turned : ℕ) (x : TimingArc) → slice_get d.nets n ≡ Some net → arcs ≡ net.arcs → turned < length arcs
    → HasGained d (get_or arcs turned x) numbers more → HasLooked d n net numbers turned → HasLooked d n net more (turned + 1)
looks_more d n net arcs numbers more turned x there same within gained h =
    looks_on d n net numbers more turned (get_or arcs turned x) gained.0 there (subst (λ xs. slice_get xs turned ≡ Some (get_or arcs turned x)) same (slice_get-get_or arcs turned x within)) gained.1 gained.2 h

-- an arc from a net around which all is there
pub looks_again : (d : Parts) (n : ℕ) (net : Net) (arcs : List TimingArc) (numbers : List ℕ) (turned last : ℕ) (x : TimingArc) → arcs ≡ net.arcs → turned < length arcs
    → (get_or arcs turned x).from.0 ≡ last → ((m : ℕ) → IsAround d.nets last m → Contains numbers m) → HasLooked d n net numbers turned → HasLooked d n net numbers (turned + 1)
looks_again d n net arcs numbers turned last x same within is all h = record {
  looked = h.looked;
  own = h.own;
  inputs = λ i m c lt at near. elim (cases_eq i turned) [
    | inl e ↦
        let P : ℕ → Type 0 = λ j. slice_get net.arcs j ≡ Some c in
        let here : slice_get net.arcs turned ≡ Some (get_or arcs turned x) = subst (λ xs. slice_get xs turned ≡ Some (get_or arcs turned x)) same (slice_get-get_or arcs turned x within) in
        let is_same : c ≡ get_or arcs turned x = same_Some c (get_or arcs turned x) (sym (subst P e at) ∙ here) in
        let Q : TimingArc → Type 0 = λ a. IsAround d.nets a.from.0 m in
        let R : ℕ → Type 0 = λ j. IsAround d.nets j m in
        all m (subst R is (subst Q is_same near))
    | inr ne ↦ h.inputs i m c (omega arith) at near
  ];
}

-- all around the input of the last arc turned
pub looks_last : (d : Parts) (n : ℕ) (net : Net) (arcs : List TimingArc) (numbers : List ℕ) (turned : ℕ) (x : TimingArc) → arcs ≡ net.arcs → turned < length arcs
    → HasLooked d n net numbers (turned + 1) → (m : ℕ) → IsAround d.nets (get_or arcs turned x).from.0 m → Contains numbers m
looks_last d n net arcs numbers turned x same within h m near =
    let here : slice_get net.arcs turned ≡ Some (get_or arcs turned x) = subst (λ xs. slice_get xs turned ≡ Some (get_or arcs turned x)) same (slice_get-get_or arcs turned x within) in
    h.inputs turned m (get_or arcs turned x) (omega arith) here near

-- with all arcs turned
pub looks_all : (d : Parts) (n : ℕ) (net : Net) (arcs : List TimingArc) (numbers : List ℕ) (turned : ℕ) → arcs ≡ net.arcs → length arcs ≤ turned → HasLooked d n net numbers turned
    → HasLooked d n net numbers (length net.arcs)
looks_all d n net arcs numbers turned same past h =
    let k : length net.arcs ≤ turned = subst (λ xs. length xs ≤ turned) same past in
    record { looked = h.looked; own = h.own; inputs = λ i m a lt at near. h.inputs i m a (omega arith) at near }

-- ---- the list
looked_has : (d : Parts) (n m : ℕ) (net : Net) (numbers : List ℕ) → slice_get d.nets n ≡ Some net → HasLooked d n net numbers (length net.arcs) → LooksAt d n m → Contains numbers m
looked_has d n m net numbers there h l =
    let reads = l.1 in
    let same : reads.0 ≡ net = same_Some reads.0 net (sym reads.2 ∙ there) in
    let P : Net → Type 0 = λ x. Contains x.arcs reads.1 in
    let held : Contains net.arcs reads.1 = subst P same reads.3 in
    let within : held.0 < length net.arcs = held.1 in
    let at : slice_get net.arcs held.0 ≡ Some reads.1 = slice_get-get_or net.arcs held.0 reads.1 within ∙ ap Some held.2 in
    elim l.2 [
      | inl near ↦ h.own m (omega arith) near
      | inr near ↦
          let Q : ℕ → Type 0 = λ i. IsAround d.nets i m in
          h.inputs held.0 m reads.1 within at (subst Q (sym reads.4) near)
    ]

pub list_is : (d : Parts) (n : ℕ) (net : Net) (numbers sorted reads : List ℕ) → slice_get d.nets n ≡ Some net → HasLooked d n net numbers (length net.arcs) → IsPermutation numbers sorted
    → IsSorted nat_cmp sorted → reads ≡ dedup eqb sorted → IsReadList d n reads
list_is d n net numbers sorted reads there h moved up is =
    let kept = dedup eqb sorted in
    let strict = sorted_from_strictly_increasing kept (IsStrictlyIncreasing-dedup sorted up) in
    rw is (record {
      members = λ m. (
        (λ has. All-contains (LooksAt d n) numbers m h.looked (Contains-permutation sorted numbers m (IsPermutation-sym numbers sorted moved) (Contains-from_dedup eqb sorted m has))),
        (λ l. Contains-dedup_nat sorted m (Contains-permutation numbers sorted m moved (looked_has d n m net numbers there h l))),
      );
      rising = λ i j lt within. below_from_sorted kept i j 0 strict lt within;
    })

-- the input of an arc is there
pub input_there : (d : Parts) (n : ℕ) (net : Net) (arcs : List TimingArc) (i : ℕ) (x : TimingArc) → IsSoundNet d n net → arcs ≡ net.arcs → i < length arcs
    → (get_or arcs i x).from.0 < length d.nets
input_there d n net arcs i x sound same h =
    let P : List TimingArc → Type 0 = λ xs. All (IsSoundArc d) xs in
    let all = subst P (sym same) sound.arcs in
    let a = get_or arcs i x in
    has_sink d a.from.0 a.sink (slice_get d.nets a.from.0) refl (all i x h).sink

-- ---- a list for each net
-- the lists of the nets before a number
pub record AreListsBefore (d : Parts) (lists : List (List NetId)) (own : ℕ) : Type 0 where
  pub count : length lists ≡ own
  pub each : (n : ℕ) → n < own → IsReadList d n (ids (reads_of lists n))

pub lists_none : (d : Parts) → AreListsBefore d [] 0
lists_none d = record { count = refl; each = λ n h. absurd (omega arith) }

at_left : (xs : List (List NetId)) (ys : List NetId) (i : ℕ) → i < length xs → get_or (xs ++ ys ∷ []) i [] ≡ get_or xs i []
at_left [] ys i h = absurd (omega arith)
at_left (x ∷ xs) ys zero h = refl
at_left (x ∷ xs) ys (suc i) h = at_left xs ys i (omega arith)

at_end : (xs : List (List NetId)) (ys : List NetId) (i : ℕ) → i ≡ length xs → get_or (xs ++ ys ∷ []) i [] ≡ ys
at_end [] ys zero h = refl
at_end [] ys (suc i) h = absurd (omega arith)
at_end (x ∷ xs) ys zero h = absurd (omega arith)
at_end (x ∷ xs) ys (suc i) h = at_end xs ys i (omega arith)

length_more : (xs : List (List NetId)) (ys : List NetId) → length (xs ++ ys ∷ []) ≡ length xs + 1
length_more [] ys = omega arith
length_more (x ∷ xs) ys = let h = length_more xs ys in omega (arith, h)

pub lists_more : (d : Parts) (lists more : List (List NetId)) (reads : List NetId) (own : ℕ) → IsReadList d own (ids reads) → more ≡ lists ++ reads ∷ [] → AreListsBefore d lists own → AreListsBefore d more (own + 1)
lists_more d lists more reads own is e h =
    let l = length_more lists reads in
    rw e (record {
      count = omega (arith, l, h.count);
      each = λ n lt. elim (cases_lt n own) [
        | inl p ↦ let k : n < length lists = omega (arith, p, h.count) in rw (at_left lists reads n k) (h.each n p)
        | inr p ↦
            let k : n ≡ length lists = omega (arith, p, lt, h.count) in
            let f : own ≡ n = omega (arith, p, lt) in
            rw (at_end lists reads n k) (subst (λ i. IsReadList d i (ids reads)) f is)
      ];
    })

pub lists_are : (d : Parts) (lists : List (List NetId)) (own : ℕ) → IsSound d → AreOrdered d.nets → length d.nets ≤ own → own ≤ length d.nets → AreListsBefore d lists own → AreReadLists d lists
lists_are d lists own sound ordered past most h = record {
  sound = sound;
  ordered = ordered;
  count = omega (arith, h.count);
  each = λ n lt. h.each n (omega arith);
}

-- ---- the longest list
-- no list before this place is longer
abbrev pub AreAtMost : List (List NetId) → ℕ → ℕ → Type 0
AreAtMost lists turned most = (n : ℕ) → n < turned → length (get_or lists n []) ≤ most

default_of : (lists : List (List NetId)) (n : ℕ) (x : List NetId) → n < length lists → get_or lists n x ≡ get_or lists n []
default_of [] n x h = absurd (omega arith)
default_of (l ∷ lists) zero x h = refl
default_of (l ∷ lists) (suc n) x h = default_of lists n x (omega arith)

pub past_none : (lists : List (List NetId)) (n : ℕ) → length lists ≤ n → length (get_or lists n []) ≡ 0
past_none [] n h = refl
past_none (l ∷ lists) zero h = absurd (omega arith)
past_none (l ∷ lists) (suc n) h = past_none lists n (omega arith)

pub most_next : (lists : List (List NetId)) (turned most more : ℕ) (x : List NetId) → turned < length lists → most ≤ more → length (get_or lists turned x) ≤ more → AreAtMost lists turned most → AreAtMost lists (turned + 1) more
most_next lists turned most more x within up here h n lt = elim (cases_lt n turned) [
  | inl p ↦ let k = h n p in omega (arith, k, up)
  | inr p ↦
      let e : turned ≡ n = omega (arith, p, lt) in
      let P : ℕ → Type 0 = λ i. length (get_or lists i []) ≤ more in
      subst P e (subst (λ l. length l ≤ more) (default_of lists turned x within) here)
]

pub most_all : (lists : List (List NetId)) (turned most : ℕ) → length lists ≤ turned → AreAtMost lists turned most → (n : ℕ) → length (get_or lists n []) ≤ most
most_all lists turned most past h n = elim (cases_lt n turned) [
  | inl p ↦ h n p
  | inr p ↦ let k = past_none lists n (omega (arith, p, past)) in omega (arith, k)
]
