-- How many pairs of nets are coupled after an edit: as many as before, and one fewer where the couplings are taken out.
use Rattle.std.proofs.Common.{◌≡◌, ℕ, zero, suc, ◌-◌, ◌<◌, ◌≤◌, ◌==◌, ◌⊎◌, Bool, true, false, inl, inr, refl, sym, ap, subst, ◌∙◌, List, [], ◌∷◌, length, get_or, arith}
use Rattle.std.specs.Prelude.{if◌then◌else◌, Option, Some, None}
use Rattle.std.specs.Option.{option_map}
use Rattle.std.specs.List.{slice_get, Contains}
use Rattle.std.proofs.lemmas.Bool.{cases_eq, cases_lt, eqb-true, eqb-false}
use Rattle.std.proofs.lemmas.Option.{slice_get-get_or, slice_get_within, get_or_from_slice_get}
use Rattle.xt_model.specs.declared.net.Coupling.{Coupling}
use Rattle.xt_model.specs.declared.net.Net.{Net}
use Rattle.xt_model.specs.Levels.{CouplesTo, ArePairs, IsPairCount}
use Rattle.eco_warm.specs.declared.edit.Move.{Move}
use Rattle.eco_warm.specs.declared.edit.Move.TheVariants.{Whole, ToGround, FromGround}
use Rattle.eco_warm.specs.Edits.{coupling_before, couplings_left, net_left, at_net, nets_left, pairs_left}
use Rattle.eco_warm.proofs.Nets.{at_same, at_other}

-- the move takes couplings out
abbrev pub IsWhole : Move → Type 0
IsWhole Whole = Unit {0}
IsWhole (ToGround by) = ⊥
IsWhole (FromGround by) = ⊥

-- ---- the nets to which couplings lead
abbrev LeadTo : List Coupling → ℕ → Type 0
LeadTo [] t = ⊥
LeadTo (k ∷ ks) t = (k.to.0 ≡ t) ⊎ LeadTo ks t

lead_at : (ks : List Coupling) (i : ℕ) (k : Coupling) → i < length ks → get_or ks i k ≡ k → LeadTo ks k.to.0
lead_at [] i k h e = absurd (omega (arith, h))
lead_at (x ∷ ks) zero k h e = inl (ap (λ (y : Coupling). y.to.0) e)
lead_at (x ∷ ks) (suc i) k h e = inr (lead_at ks i k (omega (arith, h)) e)

lead_by : (ks : List Coupling) (t : ℕ) → LeadTo ks t → (k : Coupling) × Contains ks k × (k.to.0 ≡ t)
lead_by [] t h = absurd h
lead_by (x ∷ ks) t (inl e) = (x, (0, omega arith, refl), e)
lead_by (x ∷ ks) t (inr r) =
    let p = lead_by ks t r in
    let within = p.1.1 in
    (p.0, (suc p.1.0, omega (arith, within), p.1.2), p.2)

kept_step : (b : Bool) (m : Move) (other t : ℕ) (k : Coupling) (ks ks' : List Coupling) → (k.to.0 == other) ≡ b → (t ≡ other → IsWhole m → ⊥) → (LeadTo ks t → LeadTo ks' t)
    → (k.to.0 ≡ t) ⊎ LeadTo ks t → LeadTo (if b then coupling_before m k ks' else k ∷ ks') t
kept_step false m other t k ks ks' is stays more (inl e) = inl e
kept_step false m other t k ks ks' is stays more (inr r) = inr (more r)
kept_step true Whole other t k ks ks' is stays more (inl e) = absurd (stays (sym e ∙ eqb-true k.to.0 other is) tt)
kept_step true Whole other t k ks ks' is stays more (inr r) = more r
kept_step true (ToGround by) other t k ks ks' is stays more (inl e) = inl e
kept_step true (ToGround by) other t k ks ks' is stays more (inr r) = inr (more r)
kept_step true (FromGround by) other t k ks ks' is stays more (inl e) = inl e
kept_step true (FromGround by) other t k ks ks' is stays more (inr r) = inr (more r)

kept : (m : Move) (other t : ℕ) (ks : List Coupling) → (t ≡ other → IsWhole m → ⊥) → LeadTo ks t → LeadTo (couplings_left m other ks) t
kept m other t [] stays h = absurd h
kept m other t (k ∷ ks) stays h = kept_step (k.to.0 == other) m other t k ks (couplings_left m other ks) refl stays (kept m other t ks stays) h

back_step : (b : Bool) (m : Move) (t : ℕ) (k : Coupling) (ks ks' : List Coupling) → (LeadTo ks' t → LeadTo ks t) → LeadTo (if b then coupling_before m k ks' else k ∷ ks') t
    → (k.to.0 ≡ t) ⊎ LeadTo ks t
back_step false m t k ks ks' more (inl e) = inl e
back_step false m t k ks ks' more (inr r) = inr (more r)
back_step true Whole t k ks ks' more h = inr (more h)
back_step true (ToGround by) t k ks ks' more (inl e) = inl e
back_step true (ToGround by) t k ks ks' more (inr r) = inr (more r)
back_step true (FromGround by) t k ks ks' more (inl e) = inl e
back_step true (FromGround by) t k ks ks' more (inr r) = inr (more r)

back : (m : Move) (other t : ℕ) (ks : List Coupling) → LeadTo (couplings_left m other ks) t → LeadTo ks t
back m other t [] h = h
back m other t (k ∷ ks) h = back_step (k.to.0 == other) m t k ks (couplings_left m other ks) (back m other t ks) h

gone_step : (b : Bool) (other : ℕ) (k : Coupling) (ks' : List Coupling) → (k.to.0 == other) ≡ b → (LeadTo ks' other → ⊥) → LeadTo (if b then coupling_before Whole k ks' else k ∷ ks') other → ⊥
gone_step false other k ks' is never (inl e) = eqb-false k.to.0 other is e
gone_step false other k ks' is never (inr r) = never r
gone_step true other k ks' is never h = never h

gone : (other : ℕ) (ks : List Coupling) → LeadTo (couplings_left Whole other ks) other → ⊥
gone other [] h = h
gone other (k ∷ ks) h = gone_step (k.to.0 == other) other k (couplings_left Whole other ks) refl (gone other ks) h

-- ---- the nets to which a net is coupled
abbrev Leads : Option Net → ℕ → Type 0
Leads None t = ⊥
Leads (Some n) t = LeadTo n.couplings t

leads_from : (nets : List Net) (x y : ℕ) → CouplesTo nets x y → Leads (slice_get nets x) y
leads_from nets x y c =
    let P : Option Net → Type 0 = λ o. Leads o y in
    let Q : ℕ → Type 0 = λ t. LeadTo c.0.couplings t in
    subst P (sym c.2) (subst Q c.4 (lead_at c.0.couplings c.3.0 c.1 c.3.1 c.3.2))

leads_to : (nets : List Net) (x y : ℕ) (o : Option Net) → slice_get nets x ≡ o → Leads o y → CouplesTo nets x y
leads_to nets x y None at h = absurd h
leads_to nets x y (Some n) at h = let p = lead_by n.couplings y h in (n, p.0, at, p.1, p.2)

leads_kept : (m : Move) (other y : ℕ) (o : Option Net) → (y ≡ other → IsWhole m → ⊥) → Leads o y → Leads (option_map (net_left m other) o) y
leads_kept m other y None stays h = h
leads_kept m other y (Some n) stays h = kept m other y n.couplings stays h

leads_back : (m : Move) (other y : ℕ) (o : Option Net) → Leads (option_map (net_left m other) o) y → Leads o y
leads_back m other y None h = h
leads_back m other y (Some n) h = back m other y n.couplings h

leads_gone : (other : ℕ) (o : Option Net) → Leads (option_map (net_left Whole other) o) other → ⊥
leads_gone other None h = h
leads_gone other (Some n) h = gone other n.couplings h

module _ (m : Move) (a b : ℕ) (apart : b ≡ a → ⊥) (nets : List Net) where
  first_after : slice_get (nets_left m a b nets) a ≡ option_map (net_left m b) (slice_get nets a)
  first_after = at_other b (net_left m a) (at_net a (net_left m b) nets) a (λ e. apart (sym e)) ∙ at_same a (net_left m b) nets

  second_after : slice_get (nets_left m a b nets) b ≡ option_map (net_left m a) (slice_get nets b)
  second_after = at_same b (net_left m a) (at_net a (net_left m b) nets) ∙ ap (option_map (net_left m a)) (at_other a (net_left m b) nets b apart)

  pub other_after : (x : ℕ) → (x ≡ a → ⊥) → (x ≡ b → ⊥) → slice_get (nets_left m a b nets) x ≡ slice_get nets x
  other_after x h k = at_other b (net_left m a) (at_net a (net_left m b) nets) x k ∙ at_other a (net_left m b) nets x h

  -- the couplings of the one net to the other
  abbrev IsBetween : ℕ → ℕ → Type 0
  IsBetween x y = ((x ≡ a) × (y ≡ b)) ⊎ ((x ≡ b) × (y ≡ a))

  couples_after : (x y : ℕ) → (IsBetween x y → IsWhole m → ⊥) → CouplesTo nets x y → CouplesTo (nets_left m a b nets) x y
  couples_after x y stays c = leads_to (nets_left m a b nets) x y (slice_get (nets_left m a b nets) x) refl (elim (cases_eq x a) [
    | inl e ↦
        let P : ℕ → Type 0 = λ i. Leads (slice_get (nets_left m a b nets) i) y in
        let Q : Option Net → Type 0 = λ o. Leads o y in
        let R : ℕ → Type 0 = λ i. Leads (slice_get nets i) y in
        subst P (sym e) (subst Q (sym first_after) (leads_kept m b y (slice_get nets a) (λ k w. stays (inl (e, k)) w) (subst R e (leads_from nets x y c))))
    | inr h ↦ elim (cases_eq x b) [
      | inl e ↦
          let P : ℕ → Type 0 = λ i. Leads (slice_get (nets_left m a b nets) i) y in
          let Q : Option Net → Type 0 = λ o. Leads o y in
          let R : ℕ → Type 0 = λ i. Leads (slice_get nets i) y in
          subst P (sym e) (subst Q (sym second_after) (leads_kept m a y (slice_get nets b) (λ k w. stays (inr (e, k)) w) (subst R e (leads_from nets x y c))))
      | inr k ↦ let Q : Option Net → Type 0 = λ o. Leads o y in subst Q (sym (other_after x h k)) (leads_from nets x y c)
    ]
  ])

  couples_before : (x y : ℕ) → CouplesTo (nets_left m a b nets) x y → CouplesTo nets x y
  couples_before x y c = leads_to nets x y (slice_get nets x) refl (elim (cases_eq x a) [
    | inl e ↦
        let P : ℕ → Type 0 = λ i. Leads (slice_get (nets_left m a b nets) i) y in
        let Q : Option Net → Type 0 = λ o. Leads o y in
        let R : ℕ → Type 0 = λ i. Leads (slice_get nets i) y in
        subst R (sym e) (leads_back m b y (slice_get nets a) (subst Q first_after (subst P e (leads_from (nets_left m a b nets) x y c))))
    | inr h ↦ elim (cases_eq x b) [
      | inl e ↦
          let P : ℕ → Type 0 = λ i. Leads (slice_get (nets_left m a b nets) i) y in
          let Q : Option Net → Type 0 = λ o. Leads o y in
          let R : ℕ → Type 0 = λ i. Leads (slice_get nets i) y in
          subst R (sym e) (leads_back m a y (slice_get nets b) (subst Q second_after (subst P e (leads_from (nets_left m a b nets) x y c))))
      | inr k ↦ let Q : Option Net → Type 0 = λ o. Leads o y in subst Q (other_after x h k) (leads_from (nets_left m a b nets) x y c)
    ]
  ])

-- a shield leaves no coupling between the two
module _ (a b : ℕ) (apart : b ≡ a → ⊥) (nets : List Net) where
  none_first : CouplesTo (nets_left Whole a b nets) a b → ⊥
  none_first c =
      let Q : Option Net → Type 0 = λ o. Leads o b in
      leads_gone b (slice_get nets a) (subst Q (first_after Whole a b apart nets) (leads_from (nets_left Whole a b nets) a b c))

  none_second : CouplesTo (nets_left Whole a b nets) b a → ⊥
  none_second c =
      let Q : Option Net → Type 0 = λ o. Leads o a in
      leads_gone a (slice_get nets b) (subst Q (second_after Whole a b apart nets) (leads_from (nets_left Whole a b nets) b a c))

-- ---- a list without one of its elements
abbrev without : {X : Type 0} → ℕ → List X → List X
without k [] = []
without zero (x ∷ xs) = xs
without (suc k) (x ∷ xs) = x ∷ without k xs

-- where an element of the rest is in the whole
abbrev place : ℕ → ℕ → ℕ
place zero i = suc i
place (suc k) zero = zero
place (suc k) (suc i) = suc (place k i)

get_without : {X : Type 0} (k i : ℕ) (xs : List X) → slice_get (without k xs) i ≡ slice_get xs (place k i)
get_without k i [] = refl
get_without zero i (x ∷ xs) = refl
get_without (suc k) zero (x ∷ xs) = refl
get_without (suc k) (suc i) (x ∷ xs) = get_without k i xs

length_without : {X : Type 0} (k : ℕ) (xs : List X) → k < length xs → suc (length (without k xs)) ≡ length xs
length_without k [] h = absurd (omega (arith, h))
length_without zero (x ∷ xs) h = refl
length_without (suc k) (x ∷ xs) h = ap suc (length_without k xs (omega (arith, h)))

place_mono : (k i j : ℕ) → i < j → place k i < place k j
place_mono zero i j h = omega (arith, h)
place_mono (suc k) i zero h = absurd (omega (arith, h))
place_mono (suc k) zero (suc j) h = omega arith
place_mono (suc k) (suc i) (suc j) h = let r = place_mono k i j (omega (arith, h)) in omega (arith, r)

place_other : (k i : ℕ) → place k i ≡ k → ⊥
place_other zero i e = omega (arith, e)
place_other (suc k) zero e = omega (arith, e)
place_other (suc k) (suc i) e = place_other k i (omega (arith, e))

-- each other place of the whole is one of the rest
place_back : (k j : ℕ) → (j ≡ k → ⊥) → (i : ℕ) × (place k i ≡ j)
place_back zero zero h = absurd (h refl)
place_back zero (suc j) h = (j, refl)
place_back (suc k) zero h = (zero, refl)
place_back (suc k) (suc j) h = let p = place_back k j (λ e. h (ap suc e)) in (suc p.0, ap suc p.1)

-- ---- the pairs
at_place : {X : Type 0} (xs : List X) (x : X) → (c : Contains xs x) → slice_get xs c.0 ≡ Some x
at_place xs x c = slice_get-get_or xs c.0 x c.1 ∙ ap Some c.2

by_place : {X : Type 0} (xs : List X) (x : X) (i : ℕ) → slice_get xs i ≡ Some x → Contains xs x
by_place xs x i e = (i, slice_get_within xs i x e, get_or_from_slice_get xs i x x e)

-- where no coupling is taken out
pairs_kept : (m : Move) (a b : ℕ) → (b ≡ a → ⊥) → (nets : List Net) (pairs : List (ℕ × ℕ)) → (IsWhole m → ⊥) → ArePairs nets pairs → ArePairs (nets_left m a b nets) pairs
pairs_kept m a b apart nets pairs never are = record {
  once = are.once;
  members = λ x y. (
    (λ h. let c = (are.members x y).0 h in (
      c.0,
      elim c.1 [
        | inl k ↦ inl (couples_after m a b apart nets x y (λ t w. never w) k)
        | inr k ↦ inr (couples_after m a b apart nets y x (λ t w. never w) k)
      ],
    )),
    (λ c. (are.members x y).1 (
      c.0,
      elim c.1 [
        | inl k ↦ inl (couples_before m a b apart nets x y k)
        | inr k ↦ inr (couples_before m a b apart nets y x k)
      ],
    )),
  );
}

abbrev first_or : Option (ℕ × ℕ) → ℕ
first_or None = 0
first_or (Some q) = q.0

abbrev second_or : Option (ℕ × ℕ) → ℕ
second_or None = 0
second_or (Some q) = q.1

-- where those between two nets are taken out, of which one is coupled to the other, this being their pair
module _ (a b : ℕ) (apart : b ≡ a → ⊥) (nets : List Net) (pairs : List (ℕ × ℕ)) (are : ArePairs nets pairs) (x y : ℕ) (is : ((x ≡ a) × (y ≡ b)) ⊎ ((x ≡ b) × (y ≡ a))) (less : x < y)
    (at : Contains pairs (x, y)) where
  abbrev left_out : List (ℕ × ℕ)
  left_out = without at.0 pairs

  -- the pair of the two is that of no other two nets
  is_the_pair : (u v : ℕ) → u < v → ((u ≡ a) × (v ≡ b)) ⊎ ((u ≡ b) × (v ≡ a)) → (u ≡ x) × (v ≡ y)
  is_the_pair u v h (inl p) = elim is [
    | inl q ↦ (p.0 ∙ sym q.0, p.1 ∙ sym q.1)
    | inr q ↦ absurd (omega (arith, h, less, p.0, p.1, q.0, q.1))
  ]
  is_the_pair u v h (inr p) = elim is [
    | inl q ↦ absurd (omega (arith, h, less, p.0, p.1, q.0, q.1))
    | inr q ↦ (p.0 ∙ sym q.0, p.1 ∙ sym q.1)
  ]

  turned_between : (u v : ℕ) → ((v ≡ a) × (u ≡ b)) ⊎ ((v ≡ b) × (u ≡ a)) → ((u ≡ a) × (v ≡ b)) ⊎ ((u ≡ b) × (v ≡ a))
  turned_between u v (inl p) = inr (p.1, p.0)
  turned_between u v (inr p) = inl (p.1, p.0)

  -- it is coupled no more
  never : (u v : ℕ) → (u ≡ x) × (v ≡ y) → CouplesTo (nets_left Whole a b nets) u v ⊎ CouplesTo (nets_left Whole a b nets) v u → ⊥
  never u v same (inl c) = elim is [
    | inl q ↦
        let P : ℕ → Type 0 = λ i. CouplesTo (nets_left Whole a b nets) i v in
        let Q : ℕ → Type 0 = λ i. CouplesTo (nets_left Whole a b nets) a i in
        none_first a b apart nets (subst Q (same.1 ∙ q.1) (subst P (same.0 ∙ q.0) c))
    | inr q ↦
        let P : ℕ → Type 0 = λ i. CouplesTo (nets_left Whole a b nets) i v in
        let Q : ℕ → Type 0 = λ i. CouplesTo (nets_left Whole a b nets) b i in
        none_second a b apart nets (subst Q (same.1 ∙ q.1) (subst P (same.0 ∙ q.0) c))
  ]
  never u v same (inr c) = elim is [
    | inl q ↦
        let P : ℕ → Type 0 = λ i. CouplesTo (nets_left Whole a b nets) i u in
        let Q : ℕ → Type 0 = λ i. CouplesTo (nets_left Whole a b nets) b i in
        none_second a b apart nets (subst Q (same.0 ∙ q.0) (subst P (same.1 ∙ q.1) c))
    | inr q ↦
        let P : ℕ → Type 0 = λ i. CouplesTo (nets_left Whole a b nets) i u in
        let Q : ℕ → Type 0 = λ i. CouplesTo (nets_left Whole a b nets) a i in
        none_first a b apart nets (subst Q (same.0 ∙ q.0) (subst P (same.1 ∙ q.1) c))
  ]

  one_place : (i : ℕ) (p : ℕ × ℕ) → slice_get pairs i ≡ Some p → p ≡ (x, y) → i ≡ at.0
  one_place i p e same =
      let there = at_place pairs (x, y) at in
      elim (cases_lt i at.0) [
        | inl before ↦ absurd (are.once i at.0 p (x, y) before e there same)
        | inr past ↦ elim (cases_lt at.0 i) [
          | inl after ↦ absurd (are.once at.0 i (x, y) p after there e (sym same))
          | inr most ↦ omega (arith, past, most)
        ]
      ]

  there_before : (u v : ℕ) → Contains left_out (u, v) → Contains pairs (u, v) × ((u ≡ x) × (v ≡ y) → ⊥)
  there_before u v c =
      let e : slice_get pairs (place at.0 c.0) ≡ Some (u, v) = sym (get_without at.0 c.0 pairs) ∙ at_place left_out (u, v) c in (
        by_place pairs (u, v) (place at.0 c.0) e,
        λ same. place_other at.0 c.0 (one_place (place at.0 c.0) (u, v) e (let f = same.0 in let g = same.1 in rw (f, g) refl)),
      )

  there_after : (u v : ℕ) → Contains pairs (u, v) → ((u ≡ x) × (v ≡ y) → ⊥) → Contains left_out (u, v)
  there_after u v c other =
      let here = at_place pairs (u, v) c in
      let p = place_back at.0 c.0 (λ e.
      let same : Some (u, v) ≡ Some (x, y) = sym here ∙ (ap (slice_get pairs) e ∙ at_place pairs (x, y) at) in
      other (ap (λ o. first_or o) same, ap (λ o. second_or o) same)) in
      by_place left_out (u, v) p.0 (get_without at.0 p.0 pairs ∙ (ap (slice_get pairs) p.1 ∙ here))

  fewer_pairs : ArePairs (nets_left Whole a b nets) left_out
  fewer_pairs = record {
    once = λ i j p q before at_i at_j same.
        are.once (place at.0 i) (place at.0 j) p q (place_mono at.0 i j before) (sym (get_without at.0 i pairs) ∙ at_i) (sym (get_without at.0 j pairs) ∙ at_j) same;
    members = λ u v. (
      (λ h.
          let k = there_before u v h in
          let c = (are.members u v).0 k.0 in (
            c.0,
            elim c.1 [
              | inl l ↦ inl (couples_after Whole a b apart nets u v (λ t w. k.1 (is_the_pair u v c.0 t)) l)
              | inr l ↦ inr (couples_after Whole a b apart nets v u (λ t w. k.1 (is_the_pair u v c.0 (turned_between u v t))) l)
            ],
          )),
      (λ c. there_after u v ((are.members u v).1 (
        c.0,
        elim c.1 [
          | inl l ↦ inl (couples_before Whole a b apart nets u v l)
          | inr l ↦ inr (couples_before Whole a b apart nets v u l)
        ],
      )) (λ same. never u v same c.1)),
    );
  }

-- ---- the count
the_pair : (nets : List Net) (pairs : List (ℕ × ℕ)) (a b : ℕ) → (b ≡ a → ⊥) → ArePairs nets pairs → CouplesTo nets a b ⊎ CouplesTo nets b a
    → (x : ℕ) × (y : ℕ) × (((x ≡ a) × (y ≡ b)) ⊎ ((x ≡ b) × (y ≡ a))) × (x < y) × Contains pairs (x, y)
the_pair nets pairs a b apart are c = elim (cases_lt a b) [
  | inl less ↦ (a, b, inl (refl, refl), less, (are.members a b).1 (less, c))
  | inr most ↦
      let less : b < a = elim (cases_eq b a) [
        | inl e ↦ absurd (apart e)
        | inr ne ↦ below a b most ne
      ] in
      (b, a, inr (refl, refl), less, (are.members b a).1 (less, turned c))
]
  where
    turned : CouplesTo nets a b ⊎ CouplesTo nets b a → CouplesTo nets b a ⊎ CouplesTo nets a b
    turned (inl k) = inr k
    turned (inr k) = inl k

    below : (i j : ℕ) → j ≤ i → (j ≡ i → ⊥) → j < i
    below i j h ne = elim (cases_lt j i) [
      | inl less ↦ less
      | inr most ↦ let e : j ≡ i = omega (arith, h, most) in absurd (ne e)
    ]

pub some_pair : (nets : List Net) (a b count : ℕ) → (b ≡ a → ⊥) → CouplesTo nets a b ⊎ CouplesTo nets b a → IsPairCount nets count → 0 < count
some_pair nets a b count apart c h =
    let p = the_pair nets h.0 a b apart h.1 c in
    let within = p.4.1 in
    omega (arith, within, h.2)

pub fewer_left : (m : Move) (count : ℕ) → pairs_left m count ≤ count
fewer_left Whole count = omega arith
fewer_left (ToGround by) count = omega arith
fewer_left (FromGround by) count = omega arith

pub count_after : (m : Move) (a b : ℕ) → (b ≡ a → ⊥) → (nets : List Net) (count : ℕ) → CouplesTo nets a b ⊎ CouplesTo nets b a → IsPairCount nets count
    → IsPairCount (nets_left m a b nets) (pairs_left m count)
count_after Whole a b apart nets count c h =
    let p = the_pair nets h.0 a b apart h.1 c in
    let n = length_without p.4.0 h.0 p.4.1 in
    (without p.4.0 h.0, fewer_pairs a b apart nets h.0 h.1 p.0 p.1 p.2 p.3 p.4, omega (arith, n, h.2))
count_after (ToGround by) a b apart nets count c h =
    (h.0, pairs_kept (ToGround by) a b apart nets h.0 (λ w. w) h.1, h.2)
count_after (FromGround by) a b apart nets count c h =
    (h.0, pairs_kept (FromGround by) a b apart nets h.0 (λ w. w) h.1, h.2)
