-- Links between the places of a walk's order, and the row of a sink.
use Rattle.std.proofs.Common.{◌≡◌, ℕ, suc, ◌+◌, ◌<◌, ◌≤◌, ◌^◌, Bool, true, false, cond, eqb, List, [], ◌∷◌, length, take, get_or, set, replicate, Some, min, refl, sym, ap, ◌∙◌, subst, arith, inl, inr}
use Rattle.std.specs.List.{slice_get}
use Rattle.std.proofs.lemmas.Bool.{cases_lt, cases_eq, false≢true, or_cases}
use Rattle.std.proofs.lemmas.List.{get_or_read, get_or-set_same, get_or-set_other, get_or-replicate, get_or_past, length-set, length-replicate}
use Rattle.std.proofs.lemmas.List.Sums.{sum_by-cons}
use Rattle.std.proofs.lemmas.Option.{slice_get-get_or}
use Rattle.elmore_tree.specs.declared.walk.Step.{Step}
use Rattle.elmore_tree.specs.declared.order.Link.{Link}
use Rattle.elmore_tree.specs.declared.order.TapOrder.{TapOrder}
use Rattle.elmore_tree.specs.Trees.{TreeParts, IsSoundTree}
use Rattle.elmore_tree.specs.Paths.{is_in}
use Rattle.elmore_tree.specs.Sums.{shared, resistance}
use Rattle.elmore_tree.specs.Walks.{is_visited, IsGrown, IsPreorder, node_at, end_of, path_of}
use Rattle.elmore_tree.specs.Orders.{path_resistance, common, is_tapped, AreTapped, ArePlaces, AreResistances, no_link, link_at, IsLinkBack, IsLinkOn, AreLinkedBack, AreLinkedOn, IsTapOrder, IsRowFrom, IsRowOf}
use Rattle.elmore_tree.proofs.Bools.{not_both, eqb_is, eqb_apart}
use Rattle.elmore_tree.proofs.PathLaws.{take_whole, path_kept, visited_more, path_of_end, path_root}
use Rattle.elmore_tree.proofs.OrderLaws.{shared_self}
use Rattle.elmore_tree.proofs.GatherLaws.{joined_there, shared_fits}
use Rattle.elmore_tree.proofs.MeetLaws.{common_swaps, common_turn, common_self, common_next, common_three}

pub blank_at : {X : Type 0} (n k : ℕ) (x : X) → get_or (replicate n x) k x ≡ x
blank_at n k x = elim (cases_lt k n) [
  | inl lt ↦ get_or-replicate n k x x lt
  | inr past ↦ get_or_past (replicate n x) k x (let len : length (replicate n x) ≡ n = length-replicate n x in omega arith)
]

min_swaps : (a b : ℕ) → min a b ≡ min b a
min_swaps a b = omega arith

is_root : (t : TreeParts) (k : ℕ) → is_visited t [] k ≡ true → t.root ≡ k
is_root t k h = elim (or_cases (eqb t.root k) false h) [ inl same ↦ eqb_is t.root k same | inr never ↦ absurd (false≢true never) ]

module _ (t : TreeParts) (steps : List Step) (g : IsGrown t steps) (sound : IsSoundTree t) where
  pub places_begin : (places : List ℕ) → places ≡ replicate t.nodes 0 → ArePlaces t steps 0 places
  places_begin places e = record {
    count = rw e (length-replicate t.nodes 0);
    within = λ k. let none : get_or places k 0 ≡ 0 = ap (λ xs. get_or xs k 0) e ∙ blank_at t.nodes k 0 in omega (arith, none);
    each = λ k h.
        let none : get_or places k 0 ≡ 0 = ap (λ xs. get_or xs k 0) e ∙ blank_at t.nodes k 0 in
        ap (node_at t steps) none ∙ is_root t k h;
  }

  pub places_turn : (places : List ℕ) (i : ℕ) (d : Step) → i < length steps → ArePlaces t steps i places → ArePlaces t steps (i + 1) (set places (get_or steps i d).to (i + 1))
  places_turn places i d lt w =
      let s = get_or steps i d in
      let at : slice_get steps i ≡ Some s = slice_get-get_or steps i d lt in
      let there = joined_there t s.resistor s.from s.to sound (g.joins i s at) in
      let count : length places ≡ t.nodes = w.count in
      let next : i + 1 ≡ suc i = omega arith in
      rw next (record {
        count = length-set places s.to (suc i) ∙ count;
        within = λ k. elim (cases_eq k s.to) [
          | inl e ↦ rw e (let same = get_or-set_same places s.to (suc i) 0 (omega (arith, there.1)) in omega (arith, same))
          | inr ne ↦ let other = get_or-set_other places s.to k (suc i) 0 ne in let old = w.within k in omega (arith, other, old)
        ];
        each = λ k visited. elim (cases_eq k s.to) [
          | inl e ↦ rw e (ap (node_at t steps) (get_or-set_same places s.to (suc i) 0 (omega (arith, there.1))) ∙ ap (end_of t) at)
          | inr ne ↦
              let other : eqb s.to k ≡ false = eqb_apart s.to k (λ e. ne (sym e)) in
              let earlier : is_visited t (take i steps) k ≡ true = elim (or_cases (is_visited t (take i steps) k) (eqb s.to k) (sym (visited_more t steps g i s k at) ∙ visited)) [
                | inl old ↦ old
                | inr last ↦ not_both (eqb s.to k) last other
              ] in
              ap (node_at t steps) (get_or-set_other places s.to k (suc i) 0 ne) ∙ w.each k earlier
        ];
      })

  pub resistances_begin : (sums : List ℕ) → sums ≡ replicate t.nodes 0 → AreResistances t steps 0 sums
  resistances_begin sums e = record {
    count = rw e (length-replicate t.nodes 0);
    each = λ k h.
        let none : get_or sums k 0 ≡ 0 = ap (λ xs. get_or xs k 0) e ∙ blank_at t.nodes k 0 in
        let empty : path_of steps k ≡ [] = rw (← is_root t k h) (path_root t steps g (length steps) (omega arith)) in
        none ∙ sym (ap (path_resistance t) empty);
  }

  longer : (i : ℕ) (s : Step) → slice_get steps i ≡ Some s → path_resistance t (path_of steps s.to) ≡ path_resistance t (path_of steps s.from) + resistance t s.resistor
  longer i s at =
      let one = sum_by-cons (resistance t) s.resistor (path_of steps s.from) in
      let whole : path_resistance t (path_of steps s.to) ≡ path_resistance t (s.resistor ∷ path_of steps s.from) = ap (path_resistance t) (path_of_end t steps g i s at) in
      omega (arith, one, whole)

  pub resistances_turn : (sums : List ℕ) (i : ℕ) (d : Step) → i < length steps → AreResistances t steps i sums
      → AreResistances t steps (i + 1) (set sums (get_or steps i d).to (get_or sums (get_or steps i d).from 0 + resistance t (get_or steps i d).resistor))
  resistances_turn sums i d lt w =
      let s = get_or steps i d in
      let at : slice_get steps i ≡ Some s = slice_get-get_or steps i d lt in
      let there = joined_there t s.resistor s.from s.to sound (g.joins i s at) in
      let count : length sums ≡ t.nodes = w.count in
      let v : ℕ = get_or sums s.from 0 + resistance t s.resistor in
      let next : i + 1 ≡ suc i = omega arith in
      rw next (record {
        count = length-set sums s.to v ∙ count;
        each = λ k visited. elim (cases_eq k s.to) [
          | inl e ↦
              let from : get_or sums s.from 0 ≡ path_resistance t (path_of steps s.from) = w.each s.from (g.from i s at) in
              let whole : v ≡ path_resistance t (path_of steps s.to) = ap (λ n. n + resistance t s.resistor) from ∙ sym (longer i s at) in
              rw e (get_or-set_same sums s.to v 0 (omega (arith, there.1)) ∙ whole)
          | inr ne ↦
              let other : eqb s.to k ≡ false = eqb_apart s.to k (λ e. ne (sym e)) in
              let earlier : is_visited t (take i steps) k ≡ true = elim (or_cases (is_visited t (take i steps) k) (eqb s.to k) (sym (visited_more t steps g i s k at) ∙ visited)) [
                | inl old ↦ old
                | inr last ↦ not_both (eqb s.to k) last other
              ] in
              get_or-set_other sums s.to k v 0 ne ∙ w.each k earlier
        ];
      })

  pub resistance_fits : (sums : List ℕ) (i : ℕ) (d : Step) → i < length steps → length steps < 65536 → AreResistances t steps i sums
      → get_or sums (get_or steps i d).from 0 + resistance t (get_or steps i d).resistor ≤ 2 ^ 56
  resistance_fits sums i d lt few w =
      let s = get_or steps i d in
      let at : slice_get steps i ≡ Some s = slice_get-get_or steps i d lt in
      let from : get_or sums s.from 0 ≡ path_resistance t (path_of steps s.from) = w.each s.from (g.from i s at) in
      let whole = longer i s at in
      let self = shared_self t (path_of steps s.to) in
      let most = shared_fits t steps g sound few s.to (path_of steps s.to) in
      omega (arith, from, whole, self, most)

-- ---- links
abbrev pub further : Bool → ℕ → ℕ → Link → Link
further counts left r link = cond counts (record { place = left; common = r }) (record { place = link.place; common = min link.common r })

-- the node at a place is passed over only where it has no tap
abbrev pub Passes : TreeParts → List Step → Bool → ℕ → Type 0
Passes t steps counts i = counts ≡ false → (0 < i) × (is_tapped t (node_at t steps i) ≡ false)

module _ (t : TreeParts) (steps : List Step) (g : IsGrown t steps) (order : IsPreorder t steps) where
  pub back_begin : (links : List Link) → length links ≡ length steps + 1 → AreLinkedBack t steps 0 links
  back_begin links count = record {
    count = omega (arith, count);
    each = λ p lt le. absurd (omega arith);
  }

  -- what code reads for the start of a step
  pub start_at : (sums : List ℕ) (i : ℕ) (d : Step) → i < length steps → AreResistances t steps (length steps) sums → get_or sums (get_or steps i d).from 0 ≡ path_resistance t (path_of steps (get_or steps i d).from)
  start_at sums i d lt w =
      let s = get_or steps i d in
      w.each s.from (path_kept t steps g i (length steps) s.from (omega arith) (omega arith) (g.from i s (slice_get-get_or steps i d lt))).1

  further_back : (i : ℕ) (s : Step) (counts : Bool) (r : ℕ) (link : Link) → slice_get steps i ≡ Some s → r ≡ path_resistance t (path_of steps s.from) → Passes t steps counts i
      → (0 < i → IsLinkBack t steps i link) → IsLinkBack t steps (suc i) (further counts i r link)
  further_back i s true r link at is passes w = record {
    before = omega arith;
    nearest = λ m a b. absurd (omega arith);
    common = is ∙ sym (common_next t steps g order i s at);
  }
  further_back i s false r link at is passes w =
      let skipped = passes refl in
      let old = w skipped.0 in
      let before : link.place < i = old.before in
      record {
        before = omega arith;
        nearest = λ m a b. elim (cases_eq m i) [
          | inl e ↦ rw e skipped.1
          | inr ne ↦ old.nearest m a (omega arith)
        ];
        common = ap (min link.common) is ∙ (ap (λ n. min n (path_resistance t (path_of steps s.from))) old.common ∙ sym (common_turn t steps g order link.place i s at (omega arith)));
      }

  pub back_turn : (links : List Link) (i : ℕ) (d : Step) (counts : Bool) (r : ℕ) → i < length steps → r ≡ path_resistance t (path_of steps (get_or steps i d).from) → Passes t steps counts i
      → AreLinkedBack t steps i links → AreLinkedBack t steps (i + 1) (set links (i + 1) (further counts i r (link_at links i)))
  back_turn links i d counts r lt is passes w =
      let s = get_or steps i d in
      let at : slice_get steps i ≡ Some s = slice_get-get_or steps i d lt in
      let count : length links ≡ suc (length steps) = w.count in
      let v : Link = further counts i r (link_at links i) in
      let next : i + 1 ≡ suc i = omega arith in
      rw next (record {
        count = length-set links (suc i) v ∙ count;
        each = λ p low high. elim (cases_eq p (suc i)) [
          | inl e ↦
              let P : Link → Type 0 = λ x. IsLinkBack t steps (suc i) x in
              let Q : ℕ → Type 0 = λ q. IsLinkBack t steps q (link_at (set links (suc i) v) q) in
              subst Q (sym e) (subst P (sym (get_or-set_same links (suc i) v no_link (omega arith))) (further_back i s counts r (link_at links i) at is passes (λ more. w.each i more (omega arith))))
          | inr ne ↦
              let P : Link → Type 0 = λ x. IsLinkBack t steps p x in
              subst P (sym (get_or-set_other links (suc i) p v no_link ne)) (w.each p low (omega arith))
        ];
      })

  pub passes_turn : (marks : List Bool) (i : ℕ) (d : Step) (counts : Bool) → i < length steps → AreTapped t marks → counts ≡ is_in marks (get_or steps i d).to → Passes t steps counts (i + 1)
  passes_turn marks i d counts lt tapped is unmarked =
      let s = get_or steps i d in
      let at : slice_get steps i ≡ Some s = slice_get-get_or steps i d lt in
      let next : i + 1 ≡ suc i = omega arith in
      (omega arith, ap (λ n. is_tapped t (node_at t steps n)) next ∙ (ap (is_tapped t) (ap (end_of t) at) ∙ (sym (tapped.each s.to) ∙ (sym is ∙ unmarked))))

  pub on_begin : (links : List Link) (none : Link) → none.place ≡ length steps + 1 → links ≡ replicate (length steps + 1) none → AreLinkedOn t steps (length steps) links
  on_begin links none past e =
      let count : length links ≡ length steps + 1 = ap length e ∙ length-replicate (length steps + 1) none in
      record {
        count = omega (arith, count);
        each = λ p low high.
            let P : Link → Type 0 = λ x. IsLinkOn t steps p x in
            let is : link_at links p ≡ none = ap (λ xs. link_at xs p) e ∙ get_or-replicate (length steps + 1) p none no_link (omega arith) in
            subst P (sym is) (record {
              after = omega arith;
              nearest = λ m a b c. absurd (omega arith);
              common = λ le. absurd (omega arith);
            });
      }

  further_on : (i : ℕ) (s : Step) (counts : Bool) (r : ℕ) (link : Link) → slice_get steps i ≡ Some s → r ≡ path_resistance t (path_of steps s.from) → counts ≡ is_tapped t s.to
      → IsLinkOn t steps (suc i) link → IsLinkOn t steps i (further counts (suc i) r link)
  further_on i s true r link at is tapped w = record {
    after = omega arith;
    nearest = λ m a b c. absurd (omega arith);
    common = λ le. is ∙ sym (common_next t steps g order i s at);
  }
  further_on i s false r link at is tapped w =
      let after : suc i < link.place = w.after in
      record {
        after = omega arith;
        nearest = λ m a b c. elim (cases_eq m (suc i)) [
          | inl e ↦ rw e (ap (is_tapped t) (ap (end_of t) at) ∙ sym tapped)
          | inr ne ↦ w.nearest m (omega arith) b c
        ];
        common = λ le.
            ap (min link.common) (is ∙ sym (common_next t steps g order i s at)) ∙ (ap (λ n. min n (common t steps i (suc i))) (w.common le)
            ∙ (min_swaps (common t steps (suc i) link.place) (common t steps i (suc i)) ∙ sym (common_three t steps g order i (suc i) link.place (omega arith) (omega arith) le)));
      }

  pub on_turn : (links : List Link) (n i : ℕ) (d : Step) (marks : List Bool) (counts : Bool) (r : ℕ) → n ≡ suc i → n ≤ length steps → r ≡ path_resistance t (path_of steps (get_or steps i d).from)
      → AreTapped t marks → counts ≡ is_in marks (get_or steps i d).to → AreLinkedOn t steps n links → AreLinkedOn t steps i (set links i (further counts n r (link_at links n)))
  on_turn links n i d marks counts r e le is tapped is_mark w =
      let s = get_or steps i d in
      let at : slice_get steps i ≡ Some s = slice_get-get_or steps i d (omega arith) in
      let count : length links ≡ suc (length steps) = w.count in
      let v : Link = further counts n r (link_at links n) in
      let here : IsLinkOn t steps i v =
      let P : ℕ → Type 0 = λ q. IsLinkOn t steps i (further counts q r (link_at links q)) in
      let Q : ℕ → Type 0 = λ q. IsLinkOn t steps q (link_at links q) in
      subst P (sym e) (further_on i s counts r (link_at links (suc i)) at is (is_mark ∙ tapped.each s.to) (subst Q e (w.each n (omega arith) le))) in
      record {
        count = length-set links i v ∙ count;
        each = λ p low high. elim (cases_eq p i) [
          | inl same ↦
              let P : Link → Type 0 = λ x. IsLinkOn t steps i x in
              let Q : ℕ → Type 0 = λ q. IsLinkOn t steps q (link_at (set links i v) q) in
              subst Q (sym same) (subst P (sym (get_or-set_same links i v no_link (omega arith))) here)
          | inr ne ↦
              let P : Link → Type 0 = λ x. IsLinkOn t steps p x in
              subst P (sym (get_or-set_other links i p v no_link ne)) (w.each p (omega arith) high)
        ];
      }

  -- ---- the row of a place
  pub row_begin : (row : List ℕ) (p own : ℕ) → length row ≡ suc (length steps) → p ≤ length steps → own ≡ common t steps p p → IsRowFrom t steps p p p (set row p own)
  row_begin row p own count le is = record {
    count = length-set row p own ∙ count;
    each = λ m a b h.
        let e : m ≡ p = omega arith in
        rw e (get_or-set_same row p own 0 (omega arith) ∙ is);
  }

  pub row_back : (row : List ℕ) (p q own : ℕ) (link : Link) → 0 < q → q ≤ p → p ≤ length steps → own ≡ common t steps q p → IsLinkBack t steps q link → IsRowFrom t steps p q p row
      → (link.place ≤ p) × (min own link.common ≡ common t steps link.place p) × IsRowFrom t steps p link.place p (set row link.place (min own link.common))
  row_back row p q own link more le there is w r =
      let before : link.place < q = w.before in
      let count : length row ≡ suc (length steps) = r.count in
      let v : ℕ = min own link.common in
      let value : v ≡ common t steps link.place p = ap (λ n. min n link.common) is ∙ (ap (min (common t steps q p)) w.common ∙ (min_swaps (common t steps q p) (common t steps link.place q)
      ∙ sym (common_three t steps g order link.place q p (omega arith) le there))) in (
        omega arith,
        value,
        record {
          count = length-set row link.place v ∙ count;
          each = λ m a b h. elim (cases_eq m link.place) [
            | inl e ↦ rw e (get_or-set_same row link.place v 0 (omega arith) ∙ value)
            | inr ne ↦ elim (cases_lt m q) [
              | inl lt ↦ not_both (is_tapped t (node_at t steps m)) h (w.nearest m (omega arith) lt)
              | inr ge ↦ get_or-set_other row link.place m v 0 ne ∙ r.each m ge b h
            ]
          ];
        },
      )

  pub row_on : (row : List ℕ) (p q own : ℕ) (link : Link) → p ≤ q → link.place ≤ length steps → own ≡ common t steps p q → IsLinkOn t steps q link → IsRowFrom t steps p 0 q row
      → (p ≤ link.place) × (min own link.common ≡ common t steps p link.place) × IsRowFrom t steps p 0 link.place (set row link.place (min own link.common))
  row_on row p q own link le there is w r =
      let after : q < link.place = w.after in
      let count : length row ≡ suc (length steps) = r.count in
      let v : ℕ = min own link.common in
      let value : v ≡ common t steps p link.place = ap (λ n. min n link.common) is ∙ (ap (min (common t steps p q)) (w.common there) ∙ sym (common_three t steps g order p q link.place le (omega arith) there)) in (
        omega arith,
        value,
        record {
          count = length-set row link.place v ∙ count;
          each = λ m a b h. elim (cases_eq m link.place) [
            | inl e ↦ rw e (get_or-set_same row link.place v 0 (omega arith) ∙ (value ∙ common_swaps t steps g order p link.place))
            | inr ne ↦ elim (cases_lt q m) [
              | inl lt ↦ not_both (is_tapped t (node_at t steps m)) h (w.nearest m lt (omega arith) (omega arith))
              | inr ge ↦ get_or-set_other row link.place m v 0 ne ∙ r.each m a ge h
            ]
          ];
        },
      )

  pub row_ends : (row : List ℕ) (p q : ℕ) (link : Link) → length steps < link.place → IsLinkOn t steps q link → IsRowFrom t steps p 0 q row → IsRowFrom t steps p 0 (length steps) row
  row_ends row p q link past w r = record {
    count = r.count;
    each = λ m a b h. elim (cases_lt q m) [
      | inl lt ↦ not_both (is_tapped t (node_at t steps m)) h (w.nearest m lt (omega arith) b)
      | inr ge ↦ r.each m a ge h
    ];
  }

  whole_visited : (k : ℕ) → is_visited t steps k ≡ true → is_visited t (take (length steps) steps) k ≡ true
  whole_visited k h = ap (λ ss. is_visited t ss k) (take_whole steps) ∙ h

  place_is : (o : TapOrder) (sink p : ℕ) → IsTapOrder t steps o → sink < t.nodes → is_visited t steps sink ≡ true → p ≡ get_or o.places.items sink p → node_at t steps p ≡ sink
  place_is o sink p made lt visited is =
      let count : length o.places.items ≡ t.nodes = made.places.count in
      ap (node_at t steps) (get_or_read o.places.items sink p (omega arith) is 0) ∙ made.places.each sink (whole_visited sink visited)

  -- what a sink's path has in common with itself
  pub own_at : (o : TapOrder) (sink p own : ℕ) → IsTapOrder t steps o → sink < t.nodes → is_visited t steps sink ≡ true → p ≡ get_or o.places.items sink p → own ≡ get_or o.resistances.items sink own
      → own ≡ common t steps p p
  own_at o sink p own made lt visited is_place is_own =
      let count : length o.resistances.items ≡ t.nodes = made.resistances.count in
      let is_sink = place_is o sink p made lt visited is_place in
      get_or_read o.resistances.items sink own (omega arith) is_own 0 ∙ (made.resistances.each sink (whole_visited sink visited)
      ∙ (ap (λ k. path_resistance t (path_of steps k)) (sym is_sink) ∙ sym (common_self t steps g order p)))

  pub row_of_sink : (o : TapOrder) (row : List ℕ) (sink p : ℕ) → IsTapOrder t steps o → IsRowFrom t steps p 0 (length steps) row → sink < t.nodes → is_visited t steps sink ≡ true
      → p ≡ get_or o.places.items sink p → IsRowOf t steps o sink row
  row_of_sink o row sink p made r there visited is_place = record {
    count = r.count;
    each = λ k tap reached.
        let m : ℕ = get_or o.places.items k 0 in
        let is_node : node_at t steps m ≡ k = made.places.each k (whole_visited k reached) in
        let is_sink = place_is o sink p made there visited is_place in
        let le : m ≤ length steps = made.places.within k in
        let value : get_or row m 0 ≡ common t steps m p = r.each m (omega arith) le (ap (is_tapped t) is_node ∙ tap) in
        value ∙ (common_swaps t steps g order m p ∙ (ap (λ n. shared t (path_of steps n) (path_of steps (node_at t steps m))) is_sink ∙ ap (λ n. shared t (path_of steps sink) (path_of steps n)) is_node));
  }
