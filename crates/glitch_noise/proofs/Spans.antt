-- What the changes of one range add up to at a moment: its capacitance where the range meets the moment, else nothing.
use Rattle.std.proofs.Common.{◌≡◌, ℕ, ◌+◌, ◌^◌, ◌<◌, ◌⊎◌, inl, inr, refl, sym, ap, subst, ◌∙◌, Bool, true, false, ◌&&◌, List, [], ◌∷◌, ◌++◌, length, take, get_or, ℤ, pos, negsuc, neg_ℤ, ◌+ℤ◌, ◌-ℤ◌, ◌*ℤ◌, ◌≤ℤ◌, arith}
use Rattle.std.specs.Prelude.{Result, OnOk, Option, Some, None, if◌then◌else◌, int_le, int_lt}
use Rattle.std.specs.Int.{int_rem_euclid}
use Rattle.std.specs.List.{All}
use Rattle.std.proofs.lemmas.Int.{ints}
use Rattle.std.proofs.lemmas.List.{flat_map_more, take_more}
use Rattle.std.proofs.lemmas.List.Elements.{All-nil, All-cons, All-append}
use Rattle.xt_model.specs.declared.edge.Edge.{Edge}
use Rattle.xt_model.specs.declared.quad.Quad.{Quad}
use Rattle.xt_model.specs.declared.net.Coupling.{Coupling}
use Rattle.xt_model.specs.Quads.{is_live, IsInRange}
use Rattle.xt_model.specs.Assign.{Assignment}
use Rattle.xt_meaning.specs.Overlap.{MeetMoved, Meet, ranges_meet, IsRealPeriod, half_up, active_from, active_to, overlaps}
use Rattle.xt_meaning.proofs.Order.{test_from_le, true_both, half_up_mono}
use Rattle.xt_meaning.proofs.Meeting.{meet_decides}
use Rattle.glitch_noise.specs.declared.change.Change.{Change}
use Rattle.glitch_noise.specs.Shares.{is_under_way, share_of}
use Rattle.glitch_noise.specs.Peaks.{IsMoment}
use Rattle.glitch_noise.specs.Changes.{sum_to, change, until_end, in_period, periodic_changes, range_changes, window_changes, coupling_changes, changes_of}
use Rattle.glitch_noise.proofs.Tests.{le_or_gt, lt_or_ge, apart, true_or_false}
use Rattle.glitch_noise.proofs.Sums.{sum_to-append, sum_to-past, sum_to-later}
use Rattle.glitch_noise.proofs.Periods.{IsSplit, split_of, times_less, times_suc, by_meeting, whole_period}

-- ---- from one moment until before another
module _ (m from end cap : ℤ) where
  until_in : from ≤ℤ m → (m +ℤ pos 1) ≤ℤ end → sum_to m (until_end from end cap) ≡ cap
  until_in a b =
      let x = sum_to-past m (change from cap) (change end (neg_ℤ cap) ∷ []) a in
      let y = sum_to-later m (change end (neg_ℤ cap)) [] b in
      omega (arith, ints, x, y)

  until_before : (m +ℤ pos 1) ≤ℤ from → (m +ℤ pos 1) ≤ℤ end → sum_to m (until_end from end cap) ≡ pos 0
  until_before a b =
      let x = sum_to-later m (change from cap) (change end (neg_ℤ cap) ∷ []) a in
      let y = sum_to-later m (change end (neg_ℤ cap)) [] b in
      omega (arith, ints, x, y)

  until_after : from ≤ℤ m → end ≤ℤ m → sum_to m (until_end from end cap) ≡ pos 0
  until_after a b =
      let x = sum_to-past m (change from cap) (change end (neg_ℤ cap) ∷ []) a in
      let y = sum_to-past m (change end (neg_ℤ cap)) [] b in
      omega (arith, ints, x, y)

  -- in a range that goes round
  round : List Change
  round = change (pos 0) cap ∷ change end (neg_ℤ cap) ∷ change from cap ∷ []

-- ---- without a period
pub none_sum : (m from to cap : ℤ) → from ≤ℤ to → sum_to m (until_end from (to +ℤ pos 1) cap) ≡ (if ranges_meet None from to m m then cap else pos 0)
none_sum m from to cap order = by_meeting None from to m (sum_to m (until_end from (to +ℤ pos 1) cap)) cap tt inside outside
  where
    inside : Meet None from to m m → sum_to m (until_end from (to +ℤ pos 1) cap) ≡ cap
    inside h = let a = h.starts in let b = h.ends in until_in m from (to +ℤ pos 1) cap (omega (arith, ints, a)) (omega (arith, ints, b))

    outside : (Meet None from to m m → ⊥) → sum_to m (until_end from (to +ℤ pos 1) cap) ≡ pos 0
    outside apart_here = elim (le_or_gt from m) [
      | inr x ↦ (let y = x.1 in until_before m from (to +ℤ pos 1) cap y (omega (arith, ints, y, order)))
      | inl x ↦ elim (le_or_gt (to +ℤ pos 1) m) [
        | inl y ↦ until_after m from (to +ℤ pos 1) cap x.1 y.1
        | inr y ↦ absurd (apart_here (let a = x.1 in let b = y.1 in record { starts = omega (arith, ints, a); ends = omega (arith, ints, b) }))
      ]
    ]

-- ---- with a period
module _ (d : ℕ) (m from to cap q r s e : ℤ) (m_low : pos 0 ≤ℤ m) (m_high : (m +ℤ pos 1) ≤ℤ pos d) (order : from ≤ℤ to)
    (short : (((to +ℤ pos 1) -ℤ from) +ℤ pos 1) ≤ℤ pos d) (start : IsSplit d from q s) (stop : IsSplit d (to +ℤ pos 1) r e) where
  -- the end lies in the same period
  straight : (s +ℤ pos 1) ≤ℤ e → sum_to m (until_end s e cap) ≡ (if ranges_meet (Some (pos d)) from to m m then cap else pos 0)
  straight less = by_meeting (Some (pos d)) from to m (sum_to m (until_end s e cap)) cap (omega (arith, ints, m_low, m_high)) inside outside
    where
      same : (q *ℤ pos d) ≡ (r *ℤ pos d)
      same = elim (apart q r) [
        | inl h ↦ absurd (let t = times_less q r d h in let a = start.is in let b = stop.is in omega (arith, ints, t, a, b, short, less))
        | inr h ↦ elim h [
          | inl g ↦ ap (λ z. z *ℤ pos d) g
          | inr g ↦ absurd (let t = times_less r q d g in let a = start.is in let b = stop.is in let x = start.low in let y = stop.high in omega (arith, ints, t, a, b, order, x, y))
        ]
      ]

      inside : Meet (Some (pos d)) from to m m → sum_to m (until_end s e cap) ≡ cap
      inside h =
          let a = start.is in let b = stop.is in let x = start.low in let y = stop.high in let u = h.1.starts in let v = h.1.ends in
          elim (apart h.0 q) [
            | inl g ↦ absurd (let t = times_less h.0 q d g in omega (arith, ints, t, a, x, u, m_high))
            | inr g ↦ elim g [
              | inl i ↦ (let k : (h.0 *ℤ pos d) ≡ (q *ℤ pos d) = ap (λ z. z *ℤ pos d) i in until_in m s e cap (omega (arith, ints, k, a, u)) (omega (arith, ints, k, b, v, same)))
              | inr i ↦ absurd (let t = times_less q h.0 d i in omega (arith, ints, t, b, y, v, m_low, same))
            ]
          ]

      outside : (Meet (Some (pos d)) from to m m → ⊥) → sum_to m (until_end s e cap) ≡ pos 0
      outside apart_here = elim (le_or_gt s m) [
        | inr x ↦ (let y = x.1 in until_before m s e cap y (omega (arith, ints, y, less)))
        | inl x ↦ elim (le_or_gt e m) [
          | inl y ↦ until_after m s e cap x.1 y.1
          | inr y ↦ absurd (apart_here (let f = x.1 in let g = y.1 in let a = start.is in let b = stop.is in
              (q, record { starts = omega (arith, ints, f, a); ends = omega (arith, ints, g, b, same) })))
        ]
      ]

  -- it lies in the next one
  round_sum : e ≤ℤ s → sum_to m (round m s e cap) ≡ (if ranges_meet (Some (pos d)) from to m m then cap else pos 0)
  unfolding round
  round_sum less = by_meeting (Some (pos d)) from to m (sum_to m (change (pos 0) cap ∷ change e (neg_ℤ cap) ∷ change s cap ∷ [])) cap (omega (arith, ints, m_low, m_high)) inside outside
    where
      next : (r *ℤ pos d) ≡ (q *ℤ pos d) +ℤ pos d
      next = elim (apart r (q +ℤ pos 1)) [
        | inl h ↦ absurd (let t = times_less r (q +ℤ pos 1) d h in let u = times_suc q d in let a = start.is in let b = stop.is in omega (arith, ints, t, u, a, b, less, order))
        | inr h ↦ elim h [
          | inl g ↦ ap (λ z. z *ℤ pos d) g ∙ times_suc q d
          | inr g ↦ absurd (let t = times_less (q +ℤ pos 1) r d g in let u = times_suc q d in let a = start.is in let b = stop.is in
              let x = start.high in let y = stop.low in omega (arith, ints, t, u, a, b, short, x, y))
        ]
      ]

      zero_on : sum_to m (change (pos 0) cap ∷ change e (neg_ℤ cap) ∷ change s cap ∷ []) ≡ cap +ℤ sum_to m (change e (neg_ℤ cap) ∷ change s cap ∷ [])
      zero_on = sum_to-past m (change (pos 0) cap) (change e (neg_ℤ cap) ∷ change s cap ∷ []) m_low

      at_end : (m +ℤ pos 1) ≤ℤ e → sum_to m (change (pos 0) cap ∷ change e (neg_ℤ cap) ∷ change s cap ∷ []) ≡ cap
      at_end h =
          let x = sum_to-later m (change e (neg_ℤ cap)) (change s cap ∷ []) h in
          let y = sum_to-later m (change s cap) [] (omega (arith, ints, h, less)) in
          omega (arith, ints, zero_on, x, y)

      at_start : s ≤ℤ m → sum_to m (change (pos 0) cap ∷ change e (neg_ℤ cap) ∷ change s cap ∷ []) ≡ cap
      at_start h =
          let x = sum_to-past m (change e (neg_ℤ cap)) (change s cap ∷ []) (omega (arith, ints, h, less)) in
          let y = sum_to-past m (change s cap) [] h in
          omega (arith, ints, zero_on, x, y)

      between : e ≤ℤ m → (m +ℤ pos 1) ≤ℤ s → sum_to m (change (pos 0) cap ∷ change e (neg_ℤ cap) ∷ change s cap ∷ []) ≡ pos 0
      between g h =
          let x = sum_to-past m (change e (neg_ℤ cap)) (change s cap ∷ []) g in
          let y = sum_to-later m (change s cap) [] h in
          omega (arith, ints, zero_on, x, y)

      inside : Meet (Some (pos d)) from to m m → sum_to m (change (pos 0) cap ∷ change e (neg_ℤ cap) ∷ change s cap ∷ []) ≡ cap
      inside h =
          let a = start.is in let b = stop.is in let u = h.1.starts in let v = h.1.ends in let w = times_suc q d in
          elim (apart h.0 q) [
            | inl g ↦ absurd (let t = times_less h.0 q d g in let x = start.low in omega (arith, ints, t, a, x, u, m_high))
            | inr g ↦ elim g [
              | inl i ↦ (let k : (h.0 *ℤ pos d) ≡ (q *ℤ pos d) = ap (λ z. z *ℤ pos d) i in at_start (omega (arith, ints, k, a, u)))
              | inr i ↦ elim (apart (q +ℤ pos 1) h.0) [
                | inl j ↦ absurd (let t = times_less (q +ℤ pos 1) h.0 d j in let y = stop.high in omega (arith, ints, t, b, y, v, w, m_low, next))
                | inr j ↦ elim j [
                  | inl l ↦ (let k : ((q +ℤ pos 1) *ℤ pos d) ≡ (h.0 *ℤ pos d) = ap (λ z. z *ℤ pos d) l in at_end (omega (arith, ints, k, w, b, v, next)))
                  | inr l ↦ absurd (omega (arith, ints, i, l))
                ]
              ]
            ]
          ]

      outside : (Meet (Some (pos d)) from to m m → ⊥) → sum_to m (change (pos 0) cap ∷ change e (neg_ℤ cap) ∷ change s cap ∷ []) ≡ pos 0
      outside apart_here =
          let a = start.is in let b = stop.is in let w = times_suc q d in
          elim (le_or_gt e m) [
            | inr x ↦ absurd (apart_here (let g = x.1 in let y = start.high in
                (q +ℤ pos 1, record { starts = omega (arith, ints, w, a, y, m_low); ends = omega (arith, ints, w, b, g, next) })))
            | inl x ↦ elim (le_or_gt s m) [
              | inr y ↦ between x.1 y.1
              | inl y ↦ absurd (apart_here (let g = y.1 in let z = stop.low in
                  (q, record { starts = omega (arith, ints, a, g); ends = omega (arith, ints, b, z, m_high, next) })))
            ]
          ]

some_sum : (d : ℕ) (m from to cap : ℤ) → 0 < d → pos 0 ≤ℤ m → (m +ℤ pos 1) ≤ℤ pos d → from ≤ℤ to
    → sum_to m (range_changes (Some (pos d)) from to cap) ≡ (if ranges_meet (Some (pos d)) from to m m then cap else pos 0)
unfolding round
some_sum d m from to cap p low high order = elim (le_or_gt (pos d) ((to +ℤ pos 1) -ℤ from)) [
  | inl h ↦ rw h.0 (by_meeting (Some (pos d)) from to m (sum_to m (change (pos 0) cap ∷ [])) cap (omega (arith, ints))
      (λ k. (let x = sum_to-past m (change (pos 0) cap) [] low in omega (arith, ints, x)))
      (λ away. absurd (away (whole_period d from to m p h.1))))
  | inr h ↦ rw h.0 (cycle h.1)
]
  where
    cycle : (((to +ℤ pos 1) -ℤ from) +ℤ pos 1) ≤ℤ pos d → sum_to m (in_period (int_rem_euclid from (pos d)) (int_rem_euclid (to +ℤ pos 1) (pos d)) cap) ≡ (if ranges_meet (Some (pos d)) from to m m then cap else pos 0)
    cycle short = elim (lt_or_ge (int_rem_euclid from (pos d)) (int_rem_euclid (to +ℤ pos 1) (pos d))) [
      | inl k ↦ rw k.0 (straight d m from to cap (split_of from d p).0 (split_of (to +ℤ pos 1) d p).0 (int_rem_euclid from (pos d)) (int_rem_euclid (to +ℤ pos 1) (pos d)) low high order short (split_of from d p).1 (split_of (to +ℤ pos 1) d p).1 k.1)
      | inr k ↦ rw k.0 (round_sum d m from to cap (split_of from d p).0 (split_of (to +ℤ pos 1) d p).0 (int_rem_euclid from (pos d)) (int_rem_euclid (to +ℤ pos 1) (pos d)) low high order short (split_of from d p).1 (split_of (to +ℤ pos 1) d p).1 k.1)
    ]

range_sum : (period : Option ℤ) (m from to cap : ℤ) → IsRealPeriod period → IsMoment period m → from ≤ℤ to
    → sum_to m (range_changes period from to cap) ≡ (if ranges_meet period from to m m then cap else pos 0)
range_sum None m from to cap real counts order = none_sum m from to cap order
range_sum (Some (pos d)) m from to cap real counts order = some_sum d m from to cap (omega (arith, ints, real)) counts.0 counts.1 order
range_sum (Some (negsuc d)) m from to cap real counts order = absurd (omega (arith, ints, real))

-- a range that ends before it starts meets nothing
no_meeting : (period : Option ℤ) (from to m : ℤ) → IsRealPeriod period → (to +ℤ pos 1) ≤ℤ from → ranges_meet period from to m m ≡ false
no_meeting period from to m real empty = elim (true_or_false (ranges_meet period from to m m)) [
  | inr e ↦ e
  | inl e ↦ absurd (never period ((meet_decides period from to m m real).0 e))
]
  where
    apart_moved : (move : ℤ) → MeetMoved from to m m move → ⊥
    apart_moved move h = let a = h.starts in let b = h.ends in absurd (omega (arith, ints, a, b, empty))

    never : (o : Option ℤ) → Meet o from to m m → ⊥
    never None h = apart_moved (pos 0) h
    never (Some t) h = apart_moved (h.0 *ℤ t) h.1

-- ---- windows, and all couplings of a net
window_sum : (period : Option ℤ) (q : Quad) (cap m : ℤ) → IsRealPeriod period → IsMoment period m → sum_to m (window_changes period q cap) ≡ (if is_under_way period q m then cap else pos 0)
window_sum period q cap m real counts = by_live (is_live q) (le_or_gt (active_from q) (active_to q))
  where
    by_live : (t : Bool) → ((int_le (active_from q) (active_to q) ≡ true) × (active_from q ≤ℤ active_to q)) ⊎ ((int_le (active_from q) (active_to q) ≡ false) × ((active_to q +ℤ pos 1) ≤ℤ active_from q))
        → sum_to m (if t && int_le (active_from q) (active_to q) then range_changes period (active_from q) (active_to q) cap else []) ≡ (if t && ranges_meet period (active_from q) (active_to q) m m then cap else pos 0)
    by_live false h = refl
    by_live true (inl h) = rw h.0 (range_sum period m (active_from q) (active_to q) cap real counts h.1)
    by_live true (inr h) = rw (h.0, no_meeting period (active_from q) (active_to q) m real h.1) refl

pub changes_sum : (period : Option ℤ) (W : Assignment) (e : Edge) (ks : List Coupling) (m : ℤ) → IsRealPeriod period → IsMoment period m
    → sum_to m (changes_of period W e ks) ≡ share_of period W e m ks
changes_sum period W e [] m real counts = refl
changes_sum period W e (k ∷ ks) m real counts =
    let a = sum_to-append m (coupling_changes period W e k) (changes_of period W e ks) in
    let b = window_sum period (W k.to.0 e) k.cap m real counts in
    let c = changes_sum period W e ks m real counts in
    omega (arith, ints, a, b, c)

-- ---- with a period, all changes lie in the first one from 0 on
abbrev pub IsInside : ℕ → Change → Type 0
IsInside d c = (pos 0 ≤ℤ c.at) × ((c.at +ℤ pos 1) ≤ℤ pos d)

range_inside : (d : ℕ) (from to cap : ℤ) → 0 < d → All (IsInside d) (range_changes (Some (pos d)) from to cap)
range_inside d from to cap p = elim (true_or_false (int_le (pos d) ((to +ℤ pos 1) -ℤ from))) [
  | inl t ↦ rw t (one (pos 0) cap [] zero_in (All-nil (IsInside d)))
  | inr t ↦ rw t (elim (true_or_false (int_lt (int_rem_euclid from (pos d)) (int_rem_euclid (to +ℤ pos 1) (pos d)))) [
    | inl f ↦ rw f (one s cap (change e (neg_ℤ cap) ∷ []) from_in (one e (neg_ℤ cap) [] end_in (All-nil (IsInside d))))
    | inr f ↦ rw f (one (pos 0) cap (change e (neg_ℤ cap) ∷ change s cap ∷ []) zero_in (one e (neg_ℤ cap) (change s cap ∷ []) end_in (one s cap [] from_in (All-nil (IsInside d)))))
  ])
]
  where
    s : ℤ
    s = int_rem_euclid from (pos d)

    e : ℤ
    e = int_rem_euclid (to +ℤ pos 1) (pos d)

    one : (at by : ℤ) (cs : List Change) → IsInside d (change at by) → All (IsInside d) cs → All (IsInside d) (change at by ∷ cs)
    one at by cs h k = All-cons (IsInside d) (change at by) cs h k

    zero_in : (pos 0 ≤ℤ pos 0) × ((pos 0 +ℤ pos 1) ≤ℤ pos d)
    zero_in = (omega (arith, ints), omega (arith, ints))

    from_in : (pos 0 ≤ℤ int_rem_euclid from (pos d)) × ((int_rem_euclid from (pos d) +ℤ pos 1) ≤ℤ pos d)
    from_in = let s = (split_of from d p).1 in (s.low, s.high)

    end_in : (pos 0 ≤ℤ int_rem_euclid (to +ℤ pos 1) (pos d)) × ((int_rem_euclid (to +ℤ pos 1) (pos d) +ℤ pos 1) ≤ℤ pos d)
    end_in = let s = (split_of (to +ℤ pos 1) d p).1 in (s.low, s.high)

window_inside : (d : ℕ) (q : Quad) (cap : ℤ) → 0 < d → All (IsInside d) (window_changes (Some (pos d)) q cap)
window_inside d q cap p = by_test (is_live q && int_le (active_from q) (active_to q))
  where
    by_test : (t : Bool) → All (IsInside d) (if t then range_changes (Some (pos d)) (active_from q) (active_to q) cap else [])
    by_test true = range_inside d (active_from q) (active_to q) cap p
    by_test false = All-nil (IsInside d)

pub changes_inside : (d : ℕ) (W : Assignment) (e : Edge) (ks : List Coupling) → 0 < d → All (IsInside d) (changes_of (Some (pos d)) W e ks)
changes_inside d W e [] p = All-nil (IsInside d)
changes_inside d W e (k ∷ ks) p =
    All-append (IsInside d) (coupling_changes (Some (pos d)) W e k) (changes_of (Some (pos d)) W e ks) (window_inside d (W k.to.0 e) k.cap p) (changes_inside d W e ks p)

-- ---- a moment as a window without slew
pub at_once : (period : Option ℤ) (q : Quad) (m : ℤ) → overlaps period q (record { tlo = m; thi = m; slo = pos 0; shi = pos 0 }) ≡ is_under_way period q m
at_once period q m =
    let live : is_live (record { tlo = m; thi = m; slo = pos 0; shi = pos 0 }) ≡ true = true_both (int_le m m) (int_le (pos 0) (pos 0)) (test_from_le m m (omega (arith, ints))) refl in
    let from : active_from (record { tlo = m; thi = m; slo = pos 0; shi = pos 0 }) ≡ m = omega (arith, ints) in
    rw (live, from) refl

-- the end of an active range leaves room
half_most : (q : Quad) → IsInRange q → half_up q.shi ≤ℤ pos (2 ^ 61)
half_most q ok = let h : half_up q.shi ≤ℤ half_up (pos (2 ^ 62)) = half_up_mono q.shi (pos (2 ^ 62)) ok.shi.high in h

pub active_to_most : (q : Quad) → IsInRange q → active_to q ≤ℤ pos (2 ^ 62 + 2 ^ 61)
active_to_most q ok = let h = half_most q ok in let t = ok.thi.high in omega (arith, ints, h, t)

-- ---- the loop over couplings
pub fill_turn : (period : Option ℤ) (W : Assignment) (e : Edge) (ks : List Coupling) (i : ℕ) (k : Coupling) (q : Quad) (cap : ℤ) (old new : List Change)
    → i < length ks → q ≡ W (get_or ks i k).to.0 e → cap ≡ (get_or ks i k).cap → new ≡ old ++ window_changes period q cap
    → old ≡ changes_of period W e (take i ks) → new ≡ changes_of period W e (take (i + 1) ks)
fill_turn period W e ks i k q cap old new within is_window is_cap appended h =
    let x = get_or ks i k in
    let f = coupling_changes period W e in
    let own : window_changes period q cap ≡ f x = rw (is_window, is_cap) refl in
    let more = flat_map_more f [] (take i ks) x in
    let same : changes_of period W e (take i ks ++ x ∷ []) ≡ changes_of period W e (take (i + 1) ks) = ap (changes_of period W e) (sym (take_more ks i k within)) in
    appended ∙ (rw (h, own) (more ∙ same))

-- the changes of a range in a design with a period, as they were appended
pub periodic_is : {T E : Type 0} (r : Result T E) (new old : List Change) (o : Option ℤ) (period from to cap p f end c : ℤ) → o ≡ Some period → p ≡ period → f ≡ from → end ≡ to +ℤ pos 1 → c ≡ cap
    → OnOk r (new ≡ old ++ periodic_changes p f end c) → OnOk r (new ≡ old ++ range_changes o from to cap)
periodic_is r new old o period from to cap p f end c is_some is_period is_from is_end is_cap h =
    let same : periodic_changes p f end c ≡ range_changes o from to cap = rw (is_some, is_period, is_from, is_end, is_cap) refl in
    let P : List Change → Type 0 = λ cs. OnOk r (new ≡ old ++ cs) in
    subst P same h
