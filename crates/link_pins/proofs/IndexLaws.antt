-- The counts of the pins that a group is related to, and the places of its related pins.
use Rattle.std.proofs.Common.{◌≡◌, ◌≢◌, ℕ, zero, suc, ◌+◌, ◌<◌, Bool, true, false, cond, List, [], ◌∷◌, ◌++◌, length, map, set, take, get_or, Some, refl, ap, sym, ◌∙◌, subst, arith, inl, inr, eqb}
use Rattle.std.specs.Prelude.{Option, None, Result, Ok, Err, filter, filter_map, flat_map, is_some, option_map}
use Rattle.std.specs.List.{All, Contains, cons_option, slice_get, sum_by, dedup}
use Rattle.std.specs.List.Sorted.{IsBinarySearchResult, IsPermutation, IsSorted, IsStrictlyIncreasing}
use Rattle.std.specs.Option.{IsSomeAnd}
use Rattle.std.specs.Ordering.{nat_cmp}
use Rattle.std.specs.Result.{MatchResult}
use Rattle.std.proofs.lemmas.Bool.{cases_eq, cases_lt, false≢true}
use Rattle.std.proofs.lemmas.List.{get_or-set_same, get_or-set_other, length-set, map-append, take_more}
use Rattle.std.proofs.lemmas.List.Elements.{Contains-append_left, Contains-push, filter-append}
use Rattle.std.proofs.lemmas.List.Sorted.{searched}
use Rattle.std.proofs.lemmas.List.Sums.{sum_by-cons, sum_by_push}
use Rattle.std.proofs.lemmas.Map.Keys.{IsStrictlyIncreasing-dedup, below_from_sorted, non_decreasing_from_sorted, sorted_from_strictly_increasing}
use Rattle.std.proofs.lemmas.Option.{none-some, same_Some, slice_get_within, slice_get-get_or, slice_get-map, get_or_from_slice_get}
use Rattle.liberty_cells.specs.declared.pin.Role.{Role}
use Rattle.link_pins.specs.declared.arcs.Places.{Places}
use Rattle.link_pins.specs.declared.arcs.SinkAt.{SinkAt}
use Rattle.link_pins.specs.declared.related.PinCount.{PinCount}
use Rattle.link_pins.specs.declared.related.RelatedPin.{RelatedPin}
use Rattle.link_pins.specs.Places.{is_sink, AreListed, IsClear}
use Rattle.link_pins.specs.Related.{related_of, effect, counted, effects, is_sink_at, places_of, ArePinsOf, IsUncounted, HasPlace, ArePlaced, HaveCounts}
use Rattle.link_pins.specs.Timed.{TimedPlace}
use Rattle.link_pins.proofs.FoundLaws.{Has, to_has, from_has, has_at, has_place, has_left, has_right, has_either, from_flat, to_flat, sorted_once, PassesAt, all_places, place_at, place_has, filtered, places_mapped}
use Rattle.link_pins.proofs.KeptLaws.{count_more, pushed_at, to_some_and}
use Rattle.link_pins.proofs.PinLaws.{some_and}

-- ---- lists in which one element is another

put_same : {X : Type 0} (xs : List X) (i : ℕ) (x y : X) → slice_get xs i ≡ Some x → slice_get (set xs i y) i ≡ Some y
put_same xs i x y h =
    let lt = slice_get_within xs i x h in
    slice_get-get_or (set xs i y) i y (omega (arith, lt, length-set xs i y)) ∙ ap Some (get_or-set_same xs i y y lt)

put_other : {X : Type 0} (xs : List X) (i j : ℕ) (y z : X) → j ≢ i → slice_get xs j ≡ Some z → slice_get (set xs i y) j ≡ Some z
put_other xs i j y z other h =
    slice_get-get_or (set xs i y) j z (omega (arith, slice_get_within xs j z h, length-set xs i y))
    ∙ ap Some (get_or-set_other xs i j y z other ∙ get_or_from_slice_get xs j z z h)

map_put : {X Y : Type 0} (f : X → Y) (xs : List X) (i : ℕ) (x y : X) → slice_get xs i ≡ Some x → f y ≡ f x → map f (set xs i y) ≡ map f xs
map_put f [] i x y h same = absurd (omega (arith, slice_get_within [] i x h))
map_put f (z ∷ zs) zero x y h same = ap (λ w. w ∷ map f zs) (same ∙ ap f (sym (same_Some z x h)))
map_put f (z ∷ zs) (suc i) x y h same = ap (λ l. f z ∷ l) (map_put f zs i x y h same)

still_at : {X : Type 0} (xs : List X) (y x : X) (i : ℕ) → slice_get xs i ≡ Some x → slice_get (xs ++ y ∷ []) i ≡ Some x
still_at [] y x i h = absurd (omega (arith, slice_get_within [] i x h))
still_at (z ∷ zs) y x zero h = h
still_at (z ∷ zs) y x (suc i) h = still_at zs y x i h

last_at : {X : Type 0} (xs : List X) (y : X) → slice_get (xs ++ y ∷ []) (length xs) ≡ Some y
last_at [] y = refl
last_at (z ∷ zs) y = last_at zs y

-- ---- counting

uncounted : (g : ℕ → Bool) (cs : List PinCount) → ((k : ℕ) (u : PinCount) → slice_get cs k ≡ Some u → IsUncounted u) → counted g cs ≡ 0
uncounted g [] none = refl
uncounted g (u ∷ us) none =
    omega (arith, sum_by-cons (λ (v : PinCount). cond (g v.pin) v.count 0) u us, ap (λ n. cond (g u.pin) n 0) (none 0 u refl).0, by (g u.pin), uncounted g us (λ k. none (suc k)))
  where
    by : (b : Bool) → ◌≡◌ {A = ℕ} (cond b 0 0) 0
    by true = refl
    by false = refl

pub none_counted : (role : Role) (pins : List ℕ) (cs : List PinCount) → ArePinsOf cs pins → All IsUncounted cs → HaveCounts role [] pins cs
none_counted role pins cs are none =
    let each : (k : ℕ) (u : PinCount) → slice_get cs k ≡ Some u → IsUncounted u = λ k u h.
    subst IsUncounted (get_or_from_slice_get cs k u u h) (none k u (slice_get_within cs k u h)) in
    record {
      sums = λ g. uncounted g cs each;
      placed = record {
        same = are;
        places = λ i r h. absurd (omega (arith, slice_get_within [] i r h));
        none = λ k i u h c. absurd (to_has [] i (subst (λ l. Contains l i) (each k u h).1 c));
      };
    }

module _ (role : Role) (old new : List TimedPlace) (r : TimedPlace) (push : new ≡ old ++ r ∷ []) (pins : List ℕ) (before after : List PinCount) (at : ℕ) (u y : PinCount)
    (there : slice_get before at ≡ Some u) (own : u.pin ≡ r.1) (put : after ≡ set before at y) (pin : y.pin ≡ u.pin) (count : y.count ≡ u.count + effect role r.0)
    (places : y.places ≡ u.places ++ length old ∷ []) where
  here : slice_get after at ≡ Some y
  here = ap (λ l. slice_get l at) put ∙ put_same before at u y there

  elsewhere : (k : ℕ) (v : PinCount) → k ≢ at → slice_get before k ≡ Some v → slice_get after k ≡ Some v
  elsewhere k v other h = ap (λ l. slice_get l k) put ∙ put_other before at k y v other h

  carried : (k i : ℕ) → HasPlace before k i → HasPlace after k i
  carried k i p = elim (cases_eq p.at at) [
    | inl same ↦
        let one : u ≡ p.count = same_Some u p.count (sym there ∙ (ap (slice_get before) (sym same) ∙ p.there)) in
        record {
          at = at;
          count = y;
          there = here;
          same = pin ∙ (ap (λ (x : PinCount). x.pin) one ∙ p.same);
          place =
              subst (λ l. Contains l i) (sym places)
              (from_has (u.places ++ length old ∷ []) i
              (has_left u.places (length old ∷ []) i (to_has u.places i (subst (λ (x : PinCount). Contains x.places i) (sym one) p.place))));
        }
    | inr other ↦ record { at = p.at; count = p.count; there = elsewhere p.at p.count other p.there; same = p.same; place = p.place }
  ]

  own_place : HasPlace after r.1 (length old)
  own_place = record {
    at = at;
    count = y;
    there = here;
    same = pin ∙ own;
    place =
        subst (λ l. Contains l (length old)) (sym places)
        (from_has (u.places ++ length old ∷ []) (length old) (has_right u.places (length old ∷ []) (length old) (inl refl)));
  }

  -- a related pin that was there is there
  kept_pin : (i : ℕ) (v : PinCount) → IsSomeAnd (slice_get old i) (λ (q : TimedPlace). q.1 ≡ v.pin) → IsSomeAnd (slice_get new i) (λ (q : TimedPlace). q.1 ≡ v.pin)
  kept_pin i v h =
      let q = some_and (slice_get old i) (λ (x : TimedPlace). x.1 ≡ v.pin) h in
      to_some_and (slice_get new i) (λ (x : TimedPlace). x.1 ≡ v.pin) q.0 (ap (λ l. slice_get l i) push ∙ still_at old r q.0 i q.1) q.2

  module _ (have : HaveCounts role old pins before) where
    all_sums : (g : ℕ → Bool) → counted g after ≡ effects g role new
    all_sums g =
        let f : TimedPlace → ℕ = λ s. cond (g s.1) (effect role s.0) 0 in
        omega (
          arith,
          ap (counted g) put,
          count_more g before at u y (effect role r.0) there (sym pin) count,
          have.sums g,
          ap (sum_by f) push,
          sum_by_push f old r,
          ap (λ n. cond (g n) (effect role r.0) 0) (pin ∙ own),
        )

    none_other : (k i : ℕ) (v : PinCount) → slice_get after k ≡ Some v → Contains v.places i → IsSomeAnd (slice_get new i) (λ (q : TimedPlace). q.1 ≡ v.pin)
    none_other k i v h c = elim (cases_eq k at) [
      | inl same ↦
          let one : y ≡ v = same_Some y v (sym here ∙ (ap (slice_get after) (sym same) ∙ h)) in
          let held : Has (u.places ++ length old ∷ []) i =
          to_has (u.places ++ length old ∷ []) i (subst (λ l. Contains l i) places (subst (λ (x : PinCount). Contains x.places i) (sym one) c)) in
          let of_pin : IsSomeAnd (slice_get new i) (λ (q : TimedPlace). q.1 ≡ u.pin) = elim (has_either u.places (length old ∷ []) i held) [
            | inl early ↦ kept_pin i u (have.placed.none at i u there (from_has u.places i early))
            | inr late ↦ at_last i late
          ] in
          subst (λ n. IsSomeAnd (slice_get new i) (λ (q : TimedPlace). q.1 ≡ n)) (sym pin ∙ ap (λ (x : PinCount). x.pin) one) of_pin
      | inr other ↦
          let was : slice_get before k ≡ Some v = back k v other h in
          kept_pin i v (have.placed.none k i v was c)
    ]
      where
        at_last : (i : ℕ) → Has (length old ∷ []) i → IsSomeAnd (slice_get new i) (λ (q : TimedPlace). q.1 ≡ u.pin)
        at_last i (inl e) = to_some_and (slice_get new i) (λ (q : TimedPlace). q.1 ≡ u.pin) r (ap (λ l. slice_get l i) push ∙ (ap (slice_get (old ++ r ∷ [])) (sym e) ∙ last_at old r)) (sym own)
        at_last i (inr h) = absurd h

        back : (k : ℕ) (v : PinCount) → k ≢ at → slice_get after k ≡ Some v → slice_get before k ≡ Some v
        back k v other h =
            let got = ap (λ l. slice_get l k) (sym put) ∙ h in
            let lt = slice_get_within (set before at y) k v got in
            slice_get-get_or before k v (omega (arith, lt, length-set before at y))
            ∙ ap Some (sym (get_or-set_other before at k y v other) ∙ get_or_from_slice_get (set before at y) k v v got)

    -- a related pin more, counted with its place
    pub count_next : HaveCounts role new pins after
    count_next = record {
      sums = all_sums;
      placed = record {
        same = ap (map (λ (x : PinCount). x.pin)) put ∙ (map_put (λ (x : PinCount). x.pin) before at u y there pin ∙ have.placed.same);
        places = λ i q h. elim (pushed_at old r q i (ap (λ l. slice_get l i) (sym push) ∙ h)) [
          | inl e ↦ carried q.1 i (have.placed.places i q e.1)
          | inr e ↦ subst (λ n. HasPlace after q.1 n) (sym e.0) (subst (λ (x : TimedPlace). HasPlace after x.1 (length old)) e.1 own_place)
        ];
        none = none_other;
      };
    }

-- the count of a pin
pub own_count : (pins : List ℕ) (cs : List PinCount) → ArePinsOf cs pins → (j k : ℕ) → slice_get pins j ≡ Some k → (u : PinCount) × (slice_get cs j ≡ Some u) × (u.pin ≡ k)
own_count pins cs are j k h = by (slice_get cs j) refl (sym (slice_get-map (λ (u : PinCount). u.pin) cs j) ∙ (ap (λ l. slice_get l j) are ∙ h))
  where
    by : (o : Option PinCount) → slice_get cs j ≡ o → option_map (λ (u : PinCount). u.pin) o ≡ Some k → (u : PinCount) × (slice_get cs j ≡ Some u) × (u.pin ≡ k)
    by None e is = absurd (none-some k is)
    by (Some u) e is = (u, e, same_Some u.pin k is)

-- ---- pins in order

pub sorted_rising : (sorted ys : List ℕ) → IsSorted nat_cmp sorted → ys ≡ dedup eqb sorted → IsStrictlyIncreasing ys
sorted_rising sorted ys up is = subst IsStrictlyIncreasing (sym is) (IsStrictlyIncreasing-dedup sorted up)

-- the place in the cell of a related pin more
pub pin_next : (rs : List TimedPlace) (i : ℕ) (r : TimedPlace) (cur new : List ℕ) → slice_get rs i ≡ Some r → cur ≡ map (λ (s : TimedPlace). s.1) (take i rs) → new ≡ cur ++ r.1 ∷ []
    → new ≡ map (λ (s : TimedPlace). s.1) (take (i + 1) rs)
pin_next rs i r cur new there so_far step =
    let f : TimedPlace → ℕ = λ s. s.1 in
    step
    ∙ (ap (λ l. l ++ r.1 ∷ []) so_far
    ∙ (sym (map-append f (take i rs) (r ∷ []))
    ∙ ap (map f) (ap (λ x. take i rs ++ x ∷ []) (sym (get_or_from_slice_get rs i r r there)) ∙ sym (take_more rs i r (slice_get_within rs i r there)))))

-- the places of related pins in the cell, sorted, each once
pub pins_sorted : (rs : List TimedPlace) (pins sorted ys : List ℕ) → pins ≡ map (λ (r : TimedPlace). r.1) rs → IsPermutation pins sorted → IsSorted nat_cmp sorted → ys ≡ dedup eqb sorted
    → All (λ (r : TimedPlace). Contains ys r.1) rs
pins_sorted rs pins sorted ys are moved up is k d lt =
    let one = get_or rs k d in
    let there : slice_get pins k ≡ Some one.1 =
    ap (λ l. slice_get l k) are ∙ (slice_get-map (λ (r : TimedPlace). r.1) rs k ∙ ap (option_map (λ (r : TimedPlace). r.1)) (slice_get-get_or rs k d lt)) in
    from_has ys one.1 ((sorted_once pins sorted ys moved up is).kept one.1 (has_at pins k one.1 there))

-- ---- what is entered, listed

sink_put : (xs : List (Option SinkAt)) (k : ℕ) (sink : SinkAt) → k < length xs → is_sink (set xs k (Some sink)) k ≡ true
sink_put xs k sink lt = ap is_some (get_or-set_same xs k (Some sink) None lt)

sink_other : (xs : List (Option SinkAt)) (k j : ℕ) (sink : SinkAt) → j ≢ k → is_sink (set xs k (Some sink)) j ≡ is_sink xs j
sink_other xs k j sink other = ap is_some (get_or-set_other xs k j (Some sink) None other)

pub none_listed : (p : Places) → IsClear p.at.items → p.pins.items ≡ [] → AreListed p
none_listed p clear none = record {
  each = λ i k h. absurd (omega (arith, slice_get_within [] i k (ap (λ l. slice_get l i) (sym none) ∙ h)));
  all = λ k h. absurd (false≢true (sym (ap is_some (clear k)) ∙ h));
}

pub put_listed : (old new : Places) (pin : ℕ) (sink : SinkAt) → pin < length old.at.items → new.at.items ≡ set old.at.items pin (Some sink) → new.pins.items ≡ old.pins.items ++ pin ∷ []
    → AreListed old → AreListed new
put_listed old new pin sink lt at pins are = record {
  each = λ i k h. elim (pushed_at old.pins.items pin k i (ap (λ l. slice_get l i) (sym pins) ∙ h)) [
    | inl e ↦ entered k (are.each i k e.1)
    | inr e ↦ ap (λ l. is_sink l k) at ∙ (ap (is_sink (set old.at.items pin (Some sink))) (sym e.1) ∙ sink_put old.at.items pin sink lt)
  ];
  all = λ k h. elim (cases_eq k pin) [
    | inl same ↦ subst (λ l. Contains l k) (sym pins) (subst (Contains (old.pins.items ++ pin ∷ [])) (sym same) (Contains-push old.pins.items pin))
    | inr other ↦
        subst (λ l. Contains l k) (sym pins)
        (Contains-append_left old.pins.items (pin ∷ []) k (are.all k (sym (sink_other old.at.items pin k sink other) ∙ (sym (ap (λ l. is_sink l k) at) ∙ h))))
  ];
}
  where
    entered : (k : ℕ) → is_sink old.at.items k ≡ true → is_sink new.at.items k ≡ true
    entered k h = elim (cases_eq k pin) [
      | inl same ↦ ap (λ l. is_sink l k) at ∙ (ap (is_sink (set old.at.items pin (Some sink))) same ∙ sink_put old.at.items pin sink lt)
      | inr other ↦ ap (λ l. is_sink l k) at ∙ (sink_other old.at.items pin k sink other ∙ h)
    ]

-- what is found by these sinks, one after another
pub record AreHits (pins : List ℕ) (at : List (Option SinkAt)) (listed found : List ℕ) : Type 0 where
  pub hits : (m : ℕ) → Has found m → PassesAt (is_sink at) pins m
  pub all : (i k m : ℕ) → slice_get listed i ≡ Some k → slice_get pins m ≡ Some k → Has found m

module _ (pins : List ℕ) (up : IsStrictlyIncreasing pins) where
  -- a pin is at one place
  one_place : (i j k : ℕ) → slice_get pins i ≡ Some k → slice_get pins j ≡ Some k → i ≡ j
  one_place i j k a b = elim (cases_lt i j) [
    | inl less ↦ absurd (below i j less a b)
    | inr more ↦
        elim (cases_lt j i) [
          | inl less ↦ absurd (below j i less b a)
          | inr most ↦ omega (arith, more, most)
        ]
  ]
    where
      below : (i j : ℕ) → i < j → slice_get pins i ≡ Some k → slice_get pins j ≡ Some k → ⊥
      below i j less a b =
          omega (
            arith,
            below_from_sorted pins i j 0 (sorted_from_strictly_increasing pins up) less (slice_get_within pins j k b),
            get_or_from_slice_get pins i k 0 a,
            get_or_from_slice_get pins j k 0 b,
          )

  -- where a search finds a pin, and where it does not
  pub search_is : (k : ℕ) (r : Result ℕ ℕ) → IsBinarySearchResult (λ y. nat_cmp y k) pins r
      → MatchResult r (λ j. slice_get pins j ≡ Some k) (λ j. (m : ℕ) → slice_get pins m ≡ Some k → ⊥)
  search_is k (Ok j) h =
      let s = searched pins k (Ok j) h (λ a b. non_decreasing_from_sorted pins (sorted_from_strictly_increasing pins up) a b 0) in
      slice_get-get_or pins j 0 s.0 ∙ ap Some s.1
  search_is k (Err i) h = λ m at.
      let s = searched pins k (Err i) h (λ a b. non_decreasing_from_sorted pins (sorted_from_strictly_increasing pins up) a b 0) in
      let is = get_or_from_slice_get pins m k 0 at in
      elim (cases_lt m i) [
        | inl less ↦ absurd (omega (arith, s.1 m less, is))
        | inr more ↦ absurd (omega (arith, s.2 m more (slice_get_within pins m k at), is))
      ]

  module _ (at : List (Option SinkAt)) where
    pub no_hits : (found : List ℕ) → found ≡ [] → AreHits pins at [] found
    no_hits found none =
        subst (AreHits pins at []) (sym none) (record {
          hits = λ m h. absurd h;
          all = λ i k m h g. absurd (omega (arith, slice_get_within [] i k h));
        })

    pub hit_more : (old new : List ℕ) (k j : ℕ) (found more : List ℕ) → new ≡ old ++ k ∷ [] → more ≡ found ++ j ∷ [] → slice_get pins j ≡ Some k → is_sink at k ≡ true
        → AreHits pins at old found → AreHits pins at new more
    hit_more old new k j found more push hit there sink are =
        subst (AreHits pins at new) (sym hit) (record {
          hits = λ m h. elim (has_either found (j ∷ []) m h) [
            | inl early ↦ are.hits m early
            | inr late ↦ last m late
          ];
          all = λ i n m h g. elim (pushed_at old k n i (ap (λ l. slice_get l i) (sym push) ∙ h)) [
            | inl e ↦ has_left found (j ∷ []) m (are.all i n m e.1 g)
            | inr e ↦ has_right found (j ∷ []) m (inl (one_place j m n (there ∙ ap Some e.1) g))
          ];
        })
      where
        last : (m : ℕ) → Has (j ∷ []) m → PassesAt (is_sink at) pins m
        last m (inl e) = record { item = k; at = ap (slice_get pins) (sym e) ∙ there; passes = sink }
        last m (inr h) = absurd h

    pub hit_none : (old new : List ℕ) (k : ℕ) (found : List ℕ) → new ≡ old ++ k ∷ [] → ((m : ℕ) → slice_get pins m ≡ Some k → ⊥) → AreHits pins at old found → AreHits pins at new found
    hit_none old new k found push none are = record {
      hits = are.hits;
      all = λ i n m h g. elim (pushed_at old k n i (ap (λ l. slice_get l i) (sym push) ∙ h)) [
        | inl e ↦ are.all i n m e.1 g
        | inr e ↦ absurd (none m (g ∙ ap Some (sym e.1)))
      ];
    }

    -- they are those of the pins that are sinks
    pub all_hits : (listed found sorted ys : List ℕ) → ((k : ℕ) → is_sink at k ≡ true → Contains listed k) → AreHits pins at listed found → IsPermutation found sorted → IsSorted nat_cmp sorted
        → ys ≡ dedup eqb sorted → ys ≡ places_of (is_sink at) 0 pins
    all_hits listed found sorted ys known are moved rise is =
        let s = sorted_once found sorted ys moved rise is in
        all_places (is_sink at) pins ys s.rises
        (λ m h. are.hits m (s.from m h))
        (λ m k there sink.
        let p = has_place listed k (to_has listed k (known k sink)) in
        s.kept m (are.all p.0 k m p.1 there))

-- ---- what is found among the counts

-- the count at a place, and the places that are counted there
abbrev pub count_of : Option PinCount → ℕ
count_of None = 0
count_of (Some u) = u.count

abbrev pub places_by : Option PinCount → List ℕ
places_by None = []
places_by (Some u) = u.places

-- the next count
pub next_count : (cs : List PinCount) (js : List ℕ) (i m new : ℕ) (u : PinCount) → i < length js → m ≡ sum_by (λ j. count_of (slice_get cs j)) (take i js)
    → slice_get cs (get_or js i 0) ≡ Some u → new ≡ m + u.count → new ≡ sum_by (λ j. count_of (slice_get cs j)) (take (i + 1) js)
next_count cs js i m new u lt so_far there step =
    let f : ℕ → ℕ = λ j. count_of (slice_get cs j) in
    omega (arith, step, so_far, ap (sum_by f) (take_more js i 0 lt), sum_by_push f (take i js) (get_or js i 0), ap count_of there)

counts_by : (cs : List PinCount) (js : List ℕ) → sum_by (λ j. count_of (slice_get cs j)) js ≡ sum_by (λ (u : PinCount). u.count) (filter_map (slice_get cs) js)
counts_by cs [] = refl
counts_by cs (j ∷ js) = omega (arith, sum_by-cons (λ j. count_of (slice_get cs j)) j js, by (slice_get cs j), counts_by cs js)
  where
    by : (o : Option PinCount) → sum_by (λ (u : PinCount). u.count) (cons_option o (filter_map (slice_get cs) js)) ≡ count_of o + sum_by (λ (u : PinCount). u.count) (filter_map (slice_get cs) js)
    by None = omega arith
    by (Some u) = sum_by-cons (λ (x : PinCount). x.count) u (filter_map (slice_get cs) js)

filter_sum : (g : ℕ → Bool) (cs : List PinCount) → sum_by (λ (u : PinCount). u.count) (filter (λ (u : PinCount). g u.pin) cs) ≡ counted g cs
filter_sum g [] = refl
filter_sum g (u ∷ us) = by (g u.pin) (filter_sum g us) (sum_by-cons (λ (v : PinCount). cond (g v.pin) v.count 0) u us)
  where
    by : (b : Bool) → sum_by (λ (x : PinCount). x.count) (filter (λ (x : PinCount). g x.pin) us) ≡ counted g us → counted g (u ∷ us) ≡ cond b u.count 0 + counted g us
        → sum_by (λ (x : PinCount). x.count) (cond b (u ∷ filter (λ (x : PinCount). g x.pin) us) (filter (λ (x : PinCount). g x.pin) us)) ≡ counted g (u ∷ us)
    by true rest whole = omega (arith, sum_by-cons (λ (x : PinCount). x.count) u (filter (λ (x : PinCount). g x.pin) us), rest, whole)
    by false rest whole = omega (arith, rest, whole)

module _ (g : ℕ → Bool) (rs : List TimedPlace) (pins : List ℕ) (cs : List PinCount) (placed : ArePlaced rs pins cs) where
  pub found_within : (m : ℕ) → Has (places_of g 0 pins) m → m < length cs
  found_within m h =
      let p = place_at g pins m h in
      let u = own_count pins cs placed.same m p.item p.at in
      slice_get_within cs m u.0 u.1

  -- the counts at the places that are found are those of the pins that pass
  pub counts_found : sum_by (λ j. count_of (slice_get cs j)) (places_of g 0 pins) ≡ counted g cs
  counts_found =
      ap (λ l. sum_by (λ j. count_of (slice_get cs j)) (places_of g 0 l)) (sym placed.same)
      ∙ (ap (sum_by (λ j. count_of (slice_get cs j))) (places_mapped g (λ (u : PinCount). u.pin) 0 cs)
      ∙ (counts_by cs (places_of (λ (u : PinCount). g u.pin) 0 cs)
      ∙ (ap (sum_by (λ (u : PinCount). u.count)) (filtered (λ (u : PinCount). g u.pin) cs) ∙ filter_sum g cs)))

  -- the places that are counted there are those of the related pins that pass
  pub order_found : (order sorted ys : List ℕ) → order ≡ flat_map (λ j. places_by (slice_get cs j)) (places_of g 0 pins) → IsPermutation order sorted → IsSorted nat_cmp sorted
      → ys ≡ dedup eqb sorted → ys ≡ places_of (λ (r : TimedPlace). g r.1) 0 rs
  order_found order sorted ys are moved rise is =
      let s = sorted_once order sorted ys moved rise is in
      let f : ℕ → List ℕ = λ j. places_by (slice_get cs j) in
      all_places (λ (r : TimedPlace). g r.1) rs ys s.rises
      (λ m h.
      let w = from_flat f (places_of g 0 pins) m (subst (λ l. Has l m) are (s.from m h)) in
      let p = place_at g pins w.from w.is in
      let u = own_count pins cs placed.same w.from p.item p.at in
      let held : Has u.0.places m = subst (λ o. Has (places_by o) m) u.1 w.has in
      let r = some_and (slice_get rs m) (λ (x : TimedPlace). x.1 ≡ u.0.pin) (placed.none w.from m u.0 u.1 (from_has u.0.places m held)) in
      record { item = r.0; at = r.1; passes = ap g (r.2 ∙ u.2) ∙ p.passes })
      (λ m r there sink.
      let p = placed.places m r there in
      let pin : slice_get pins p.at ≡ Some r.1 =
      ap (λ l. slice_get l p.at) (sym placed.same) ∙ (slice_get-map (λ (u : PinCount). u.pin) cs p.at ∙ (ap (option_map (λ (u : PinCount). u.pin)) p.there ∙ ap Some p.same)) in
      let held : Has (f p.at) m = subst (λ o. Has (places_by o) m) (sym p.there) (to_has p.count.places m p.place) in
      s.kept m (subst (λ l. Has l m) (sym are) (to_flat f (places_of g 0 pins) p.at m (place_has g pins p.at r.1 pin sink) held)))

  pub order_within : (m : ℕ) → Has (places_of (λ (r : TimedPlace). g r.1) 0 rs) m → m < length rs
  order_within m h =
      let p = place_at (λ (r : TimedPlace). g r.1) rs m h in
      slice_get_within rs m p.item p.at

-- a count more, where its pin passes
pub counted_next : (g : ℕ → Bool) (cs : List PinCount) (i m new : ℕ) (u : PinCount) → i < length cs → u ≡ get_or cs i u → m ≡ counted g (take i cs)
    → new ≡ m + cond (g u.pin) u.count 0 → new ≡ counted g (take (i + 1) cs)
counted_next g cs i m new u lt is so_far step =
    let f : PinCount → ℕ = λ v. cond (g v.pin) v.count 0 in
    omega (arith, step, so_far, ap (sum_by f) (take_more cs i u lt), sum_by_push f (take i cs) (get_or cs i u), ap f is)

-- a related pin more, where it is a sink
pub sinks_next : (at : List (Option SinkAt)) (rs : List TimedPlace) (i : ℕ) (r : RelatedPin) (cur new : List RelatedPin) → slice_get rs i ≡ Some (related_of r)
    → map related_of cur ≡ filter (is_sink_at at) (take i rs) → new ≡ cur ++ cond (is_sink at r.pin) (r ∷ []) []
    → map related_of new ≡ filter (is_sink_at at) (take (i + 1) rs)
sinks_next at rs i r cur new there so_far step =
    let t = is_sink_at at in
    let s = related_of r in
    let before = take i rs in
    let lt = slice_get_within rs i s there in
    let push : before ++ s ∷ [] ≡ take (i + 1) rs = ap (λ x. before ++ x ∷ []) (sym (get_or_from_slice_get rs i s s there)) ∙ sym (take_more rs i s lt) in
    ap (map related_of) step
    ∙ (map-append related_of cur (cond (is_sink at r.pin) (r ∷ []) [])
    ∙ (ap (λ l. l ++ map related_of (cond (is_sink at r.pin) (r ∷ []) [])) so_far
    ∙ (ap (λ l. filter t before ++ l) (by (is_sink at r.pin)) ∙ (sym (filter-append t before (s ∷ [])) ∙ ap (filter t) push))))
  where
    by : (b : Bool) → map related_of (cond b (r ∷ []) []) ≡ cond b (related_of r ∷ []) []
    by true = refl
    by false = refl
