-- A plain round: each net in turn gets what the operator makes of it.
use Rattle.std.proofs.Common.{◌≡◌, ◌≢◌, ℕ, zero, suc, ◌<◌, ◌≤◌, inl, inr, ⊎_elim, ◌⊎◌, refl, sym, ap, subst, ◌∙◌, List, [], ◌∷◌, length, set, ℤ, ◌≤ℤ◌, arith}
use Rattle.std.proofs.lemmas.Int.{ints}
use Rattle.std.specs.Prelude.{Some}
use Rattle.std.specs.List.{slice_get}
use Rattle.std.proofs.lemmas.Bool.{cases_lt, cases_eq}
use Rattle.std.proofs.lemmas.List.{length-set}
use Rattle.std.proofs.lemmas.List.Elements.{All-set}
use Rattle.std.proofs.lemmas.Option.{slice_get_past}
use Rattle.xt_model.specs.declared.direction.Direction.{Direction}
use Rattle.xt_model.specs.declared.edge.Edge.{Edge}
use Rattle.xt_model.specs.declared.quad.Quad.{Quad}
use Rattle.xt_model.specs.declared.quad.Pair.{Pair}
use Rattle.xt_model.specs.Quads.{bottom, IsWithin, IsInRange, IsPairInRange, quad_at}
use Rattle.xt_model.specs.Parts.{Parts}
use Rattle.xt_model.specs.Sound.{IsSound}
use Rattle.xt_model.specs.Assign.{quad_of_pair, assigned}
use Rattle.xt_meaning.specs.Overlap.{overlap_answers}
use Rattle.xt_meaning.specs.Operator.{step}
use Rattle.xt_meaning.specs.Fixpoint.{IsWindows}
use Rattle.xt_meaning.specs.Barrier.{IsNoFurther, NoFurther, IsWithinEnvelope, IsFittingStart}
use Rattle.xt_meaning.specs.Laws.{IsStep}
use Rattle.xt_meaning.proofs.Growth.{wired}
use Rattle.xt_meaning.proofs.Monotone.{operator_mono, contained_trans}
use Rattle.xt_meaning.proofs.Steps.{no_further_same, further_refl, further_trans, further_mono}
use Rattle.xt_meaning.proofs.Widest.{envelope_closed}
use Rattle.xt_meaning.proofs.Starts.{bottom_within_operator, windows_in_range}
use Rattle.xt_meaning.proofs.Existence.{past_bottom}
use Rattle.xt_meaning.proofs.Runs.{step_fits}

-- ---- one place of a list
pub slice_get-set_same : {X : Type 0} (xs : List X) (i : ℕ) (x : X) → i < length xs → slice_get (set xs i x) i ≡ Some x
slice_get-set_same [] i x h = absurd (omega arith)
slice_get-set_same (y ∷ ys) zero x h = refl
slice_get-set_same (y ∷ ys) (suc i) x h = slice_get-set_same ys i x (omega arith)

pub slice_get-set_other : {X : Type 0} (xs : List X) (i j : ℕ) (x : X) → j ≢ i → slice_get (set xs i x) j ≡ slice_get xs j
slice_get-set_other [] i j x h = refl
slice_get-set_other (y ∷ ys) zero zero x h = absurd (h refl)
slice_get-set_other (y ∷ ys) zero (suc j) x h = refl
slice_get-set_other (y ∷ ys) (suc i) zero x h = refl
slice_get-set_other (y ∷ ys) (suc i) (suc j) x h = slice_get-set_other ys i j x (λ e. h (omega arith))

pub assigned-set_same : (v : List Pair) (n : ℕ) (p : Pair) (e : Edge) → n < length v → assigned (set v n p) n e ≡ quad_at p e
assigned-set_same v n p e h = ap (λ o. quad_of_pair o e) (slice_get-set_same v n p h)

pub assigned-set_other : (v : List Pair) (n m : ℕ) (p : Pair) (e : Edge) → m ≢ n → assigned (set v n p) m e ≡ assigned v m e
assigned-set_other v n m p e h = ap (λ o. quad_of_pair o e) (slice_get-set_other v n m p h)

pub set_is_windows : (d : Parts) (v : List Pair) (n : ℕ) (p : Pair) → IsWindows d v → IsPairInRange p → IsWindows d (set v n p)
set_is_windows d v n p w h = record { count = length-set v n p ∙ w.count; in_range = All-set IsPairInRange v n p h w.in_range }

-- ---- one net
-- p is at or past the windows of net n, and no further than what the operator makes of them
pub record IsMove (way : Direction) (d : Parts) (v : List Pair) (n : ℕ) (p : Pair) : Type 0 where
  pub onward : (e : Edge) → IsNoFurther way (assigned v n e) (quad_at p e)
  pub no_further : (e : Edge) → IsNoFurther way (quad_at p e) (step d v n e)

pub move_onward : (way : Direction) (d : Parts) (v : List Pair) (n : ℕ) (p : Pair) → n < length v → IsMove way d v n p → NoFurther way (assigned v) (assigned (set v n p))
move_onward way d v n p h m = record {
  each = λ i e. elim (cases_eq i n) [
    | inl same ↦
        let P : ℕ → Type 0 = λ j. IsNoFurther way (assigned v j e) (assigned (set v n p) j e) in
        let Q : Quad → Type 0 = λ q. IsNoFurther way (assigned v n e) q in
        subst P (sym same) (subst Q (sym (assigned-set_same v n p e h)) (m.onward e))
    | inr other ↦ no_further_same way (assigned v i e) (assigned (set v n p) i e) (sym (assigned-set_other v n i p e other))
  ];
}

move_behind : (way : Direction) (d : Parts) (v : List Pair) (n : ℕ) (p : Pair) → NoFurther way (assigned v) (step d v) → n < length v → IsMove way d v n p
    → NoFurther way (assigned (set v n p)) (step d v)
move_behind way d v n p fits h m = record {
  each = λ i e. elim (cases_eq i n) [
    | inl same ↦
        let P : ℕ → Type 0 = λ j. IsNoFurther way (assigned (set v n p) j e) (step d v j e) in
        let Q : Quad → Type 0 = λ q. IsNoFurther way q (step d v n e) in
        subst P (sym same) (subst Q (sym (assigned-set_same v n p e h)) (m.no_further e))
    | inr other ↦
        let Q : Quad → Type 0 = λ q. IsNoFurther way q (step d v i e) in
        subst Q (sym (assigned-set_other v n i p e other)) (fits.each i e)
  ];
}

-- a move of one net is a step
pub move_is_step : (way : Direction) (d : Parts) (v : List Pair) (n : ℕ) (p : Pair) → NoFurther way (assigned v) (step d v) → n < length v → IsMove way d v n p
    → IsStep way d (assigned v) (assigned (set v n p))
move_is_step way d v n p fits h m = record { onward = move_onward way d v n p h m; no_further = move_behind way d v n p fits h m }

-- ---- what words can hold
within_in_range : (q r : Quad) → IsWithin bottom q → IsWithin q r → IsInRange r → IsInRange q
within_in_range q r a b h = record {
  tlo = record { low = no_lower _ _ _ h.tlo.low b.tlo; high = a.tlo };
  thi = record { low = a.thi; high = no_lower _ _ _ b.thi h.thi.high };
  slo = record { low = no_lower _ _ _ h.slo.low b.slo; high = a.slo };
  shi = record { low = a.shi; high = no_lower _ _ _ b.shi h.shi.high };
} where
  no_lower : (x y z : ℤ) → x ≤ℤ y → y ≤ℤ z → x ≤ℤ z
  no_lower x y z k m = omega (arith, ints)

-- words can hold what the operator makes of windows within an accepted envelope
pub step_in_range : (d : Parts) (v : List Pair) (n : ℕ) (e : Edge) → IsSound d → IsWithinEnvelope d v → IsInRange (step d v n e)
step_in_range d v n e s w =
    let ws = wired d s in
    let c = contained_trans (step d v) (step d w.top) (assigned w.top) (operator_mono d (assigned v) (assigned w.top) ws w.contained) (envelope_closed d w.top ws w.envelope.widest) in
    within_in_range (step d v n e) (assigned w.top n e) (bottom_within_operator d (overlap_answers d.period (assigned v)) (assigned v) n e s) (c.each n e)
    (windows_in_range d w.top w.envelope.windows n e)

-- ---- a round
-- after those nets have had their turn of which P holds
pub record IsRound (way : Direction) (d : Parts) (start now : List Pair) (P : ℕ → Type 0) : Type 0 where
  pub fitting : IsFittingStart way d now
  pub onward : NoFurther way (assigned start) (assigned now)
  pub past : (n : ℕ) (e : Edge) → P n → IsNoFurther way (step d start n e) (assigned now n e)

pub round_begins : (way : Direction) (d : Parts) (v : List Pair) (P : ℕ → Type 0) → ((n : ℕ) → P n → ⊥) → IsFittingStart way d v → IsRound way d v v P
round_begins way d v P none f = record { fitting = f; onward = further_refl way (assigned v); past = λ n e h. absurd (none n h) }

-- net number i has its turn
pub round_turn : (way : Direction) (d : Parts) (start now : List Pair) (P Q : ℕ → Type 0) (i : ℕ) (p : Pair) → IsSound d → IsRound way d start now P → i < length now
    → ((n : ℕ) → Q n → P n ⊎ (n ≡ i)) → ((e : Edge) → quad_at p e ≡ step d now i e) → IsPairInRange p → IsRound way d start (set now i p) Q
round_turn way d start now P Q i p s r h split value range =
    let fits = r.fitting.fits in
    let move : IsMove way d now i p = record {
      onward = λ e. let R : Quad → Type 0 = λ q. IsNoFurther way (assigned now i e) q in subst R (sym (value e)) (fits.each i e);
      no_further = λ e. no_further_same way (quad_at p e) (step d now i e) (value e);
    } in
    let t = move_is_step way d now i p fits h move in
    let mono = further_mono way d (assigned start) (assigned now) (wired d s) r.onward in
    record {
      fitting = step_fits way d now (set now i p) s r.fitting (set_is_windows d now i p r.fitting.windows range) t;
      onward = further_trans way (assigned start) (assigned now) (assigned (set now i p)) r.onward t.onward;
      past = λ n e b.
          let here : IsNoFurther way (step d start i e) (assigned (set now i p) i e) =
          let R : Quad → Type 0 = λ q. IsNoFurther way (step d start i e) q in
          subst R (sym (assigned-set_same now i p e h ∙ value e)) (mono.each i e) in
          elim (cases_eq n i) [
            | inl same ↦
                let S : ℕ → Type 0 = λ j. IsNoFurther way (step d start j e) (assigned (set now i p) j e) in
                subst S (sym same) here
            | inr other ↦
                let R : Quad → Type 0 = λ q. IsNoFurther way (step d start n e) q in
                let before : P n = ⊎_elim (λ (k : P n). k) (λ (k : n ≡ i). absurd (other k)) (split n b) in
                subst R (sym (assigned-set_other now i n p e other)) (r.past n e before)
          ];
    }

-- a whole round carries the windows at least as far as the operator does
pub round_past : (way : Direction) (d : Parts) (start now : List Pair) (P : ℕ → Type 0) → ((n : ℕ) → n < length d.nets → P n) → IsRound way d start now P
    → NoFurther way (step d start) (assigned now)
round_past way d start now P all r = record {
  each = λ n e. elim (cases_lt n (length d.nets)) [
    | inl p ↦ r.past n e (all n p)
    | inr p ↦
        let a = past_bottom d (overlap_answers d.period (assigned start)) (assigned start) n e p in
        let b : assigned now n e ≡ bottom = ap (λ o. quad_of_pair o e) (slice_get_past now n (beyond (length now) (length d.nets) n r.fitting.windows.count p)) in
        no_further_same way (step d start n e) (assigned now n e) (a ∙ sym b)
  ];
} where
  beyond : (a b n : ℕ) → a ≡ b → b ≤ n → a ≤ n
  beyond a b n h k = omega arith
