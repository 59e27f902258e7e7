-- Old windows as starts of new runs: where each operator lies within the other, on every assignment.
use Rattle.std.proofs.Common.{◌≡◌, ℕ, zero, suc, refl, sym, subst, ◌∙◌, List, [], ◌∷◌, length, arith}
use Rattle.std.specs.List.{All}
use Rattle.std.proofs.lemmas.Int.{ints, clamps}
use Rattle.std.proofs.lemmas.List.Elements.{All-nil, All-cons, All-head, All-tail}
use Rattle.xt_model.specs.declared.direction.Direction.TheVariants.{Widen, Narrow}
use Rattle.xt_model.specs.declared.edge.Edge.{Edge}
use Rattle.xt_model.specs.declared.edge.Edge.TheVariants.{Rise, Fall}
use Rattle.xt_model.specs.declared.quad.Quad.{Quad}
use Rattle.xt_model.specs.declared.quad.Pair.{Pair}
use Rattle.xt_model.specs.Quads.{bottom, meet_of, IsWithin, IsInRange, IsPairInRange}
use Rattle.xt_model.specs.Levels.{AreLevels}
use Rattle.xt_model.specs.Parts.{Parts}
use Rattle.xt_model.specs.Sound.{IsSound}
use Rattle.xt_model.specs.Assign.{Assignment, assigned}
use Rattle.xt_meaning.specs.Operator.{operator, step}
use Rattle.xt_meaning.specs.Fixpoint.{IsWindows, IsContained, IsLeastFixpoint, IsGreatestFixpoint}
use Rattle.xt_meaning.specs.Envelope.{IsEnvelope, IsAccepted}
use Rattle.xt_meaning.specs.Barrier.{IsFittingStart}
use Rattle.xt_meaning.proofs.Order.{within_refl}
use Rattle.xt_meaning.proofs.Growth.{wired}
use Rattle.xt_meaning.proofs.Monotone.{contained_trans, operator_mono}
use Rattle.xt_meaning.proofs.Steps.{respects_apart, narrow_contained, contained_narrow, widen_contained, contained_widen}
use Rattle.xt_meaning.proofs.Widest.{envelope_contains, envelope_closed}
use Rattle.eco_warm.specs.Starts.{met}

-- ---- what lies within both
meet_left : (q r : Quad) → IsWithin (meet_of q r) q
meet_left q r = record { tlo = omega (arith, ints, clamps); thi = omega (arith, ints, clamps); slo = omega (arith, ints, clamps); shi = omega (arith, ints, clamps) }

meet_right : (q r : Quad) → IsWithin (meet_of q r) r
meet_right q r = record { tlo = omega (arith, ints, clamps); thi = omega (arith, ints, clamps); slo = omega (arith, ints, clamps); shi = omega (arith, ints, clamps) }

meet_most : (p q r : Quad) → IsWithin p q → IsWithin p r → IsWithin p (meet_of q r)
meet_most p q r h k = record {
  tlo = omega (arith, ints, clamps, h.tlo, k.tlo);
  thi = omega (arith, ints, clamps, h.thi, k.thi);
  slo = omega (arith, ints, clamps, h.slo, k.slo);
  shi = omega (arith, ints, clamps, h.shi, k.shi);
}

pub meet_in_range : (q r : Quad) → IsInRange q → IsInRange r → IsInRange (meet_of q r)
meet_in_range q r h k = record {
  tlo = record { low = omega (arith, ints, clamps, h.tlo.low, k.tlo.low); high = omega (arith, ints, clamps, h.tlo.high, k.tlo.high) };
  thi = record { low = omega (arith, ints, clamps, h.thi.low, k.thi.low); high = omega (arith, ints, clamps, h.thi.high, k.thi.high) };
  slo = record { low = omega (arith, ints, clamps, h.slo.low, k.slo.low); high = omega (arith, ints, clamps, h.slo.high, k.slo.high) };
  shi = record { low = omega (arith, ints, clamps, h.shi.low, k.shi.low); high = omega (arith, ints, clamps, h.shi.high, k.shi.high) };
}

pub met_in_range : (ps qs : List Pair) → All IsPairInRange ps → All IsPairInRange qs → All IsPairInRange (met ps qs)
met_in_range [] qs h k = All-nil IsPairInRange
met_in_range (p ∷ ps) [] h k = All-nil IsPairInRange
met_in_range (p ∷ ps) (q ∷ qs) h k =
    let a = All-head IsPairInRange p ps h in
    let b = All-head IsPairInRange q qs k in
    All-cons IsPairInRange (record { rise = meet_of p.rise q.rise; fall = meet_of p.fall q.fall }) (met ps qs)
    (record { rise = meet_in_range p.rise q.rise a.rise b.rise; fall = meet_in_range p.fall q.fall a.fall b.fall })
    (met_in_range ps qs (All-tail IsPairInRange p ps h) (All-tail IsPairInRange q qs k))

pub length-met : (ps qs : List Pair) → length ps ≡ length qs → length (met ps qs) ≡ length qs
length-met [] [] h = refl
length-met [] (q ∷ qs) h = absurd (omega (arith, h))
length-met (p ∷ ps) [] h = absurd (omega (arith, h))
length-met (p ∷ ps) (q ∷ qs) h = let e = length-met ps qs (omega (arith, h)) in omega (arith, e)

met_left : (ps qs : List Pair) → length ps ≡ length qs → (n : ℕ) (e : Edge) → IsWithin (assigned (met ps qs) n e) (assigned ps n e)
met_left [] [] h n e = within_refl bottom
met_left [] (q ∷ qs) h n e = absurd (omega (arith, h))
met_left (p ∷ ps) [] h n e = absurd (omega (arith, h))
met_left (p ∷ ps) (q ∷ qs) h zero Rise = meet_left p.rise q.rise
met_left (p ∷ ps) (q ∷ qs) h zero Fall = meet_left p.fall q.fall
met_left (p ∷ ps) (q ∷ qs) h (suc n) e = met_left ps qs (omega (arith, h)) n e

met_right : (ps qs : List Pair) → length ps ≡ length qs → (n : ℕ) (e : Edge) → IsWithin (assigned (met ps qs) n e) (assigned qs n e)
met_right [] [] h n e = within_refl bottom
met_right [] (q ∷ qs) h n e = absurd (omega (arith, h))
met_right (p ∷ ps) [] h n e = absurd (omega (arith, h))
met_right (p ∷ ps) (q ∷ qs) h zero Rise = meet_right p.rise q.rise
met_right (p ∷ ps) (q ∷ qs) h zero Fall = meet_right p.fall q.fall
met_right (p ∷ ps) (q ∷ qs) h (suc n) e = met_right ps qs (omega (arith, h)) n e

met_most : (W : Assignment) (ps qs : List Pair) → length ps ≡ length qs → (n : ℕ) (e : Edge) → IsWithin (W n e) (assigned ps n e) → IsWithin (W n e) (assigned qs n e)
    → IsWithin (W n e) (assigned (met ps qs) n e)
met_most W ps qs h n e a b = at ps qs h n e (W n e) a b
  where
    at : (ps qs : List Pair) → length ps ≡ length qs → (n : ℕ) (e : Edge) (p : Quad) → IsWithin p (assigned ps n e) → IsWithin p (assigned qs n e) → IsWithin p (assigned (met ps qs) n e)
    at [] [] h n e p a b = a
    at [] (q ∷ qs) h n e p a b = absurd (omega (arith, h))
    at (x ∷ ps) [] h n e p a b = absurd (omega (arith, h))
    at (x ∷ ps) (q ∷ qs) h zero Rise p a b = meet_most p x.rise q.rise a b
    at (x ∷ ps) (q ∷ qs) h zero Fall p a b = meet_most p x.fall q.fall a b
    at (x ∷ ps) (q ∷ qs) h (suc n) e p a b = at ps qs (omega (arith, h)) n e p a b

-- ---- narrowing from the old greatest windows within the new envelope
module _ (d new : Parts) (ls : List ℕ) (high top : List Pair) (sound : IsSound new) (levels : AreLevels new.nets ls) (count : length new.nets ≡ length d.nets)
    (within : (W : Assignment) → IsContained (operator new W) (operator d W)) (greatest : IsGreatestFixpoint d high) (env : IsEnvelope new top) (acc : IsAccepted new top) where
  same_length : length high ≡ length top
  same_length = greatest.fixpoint.windows.count ∙ (sym count ∙ sym env.windows.count)

  in_high : IsContained (assigned (met high top)) (assigned high)
  in_high = record { each = met_left high top same_length }

  in_top : IsContained (assigned (met high top)) (assigned top)
  in_top = record { each = met_right high top same_length }

  barriers_within : (v : List Pair) → IsWindows new v → IsContained (assigned v) (step new v) → IsContained (assigned v) (assigned (met high top))
  barriers_within v w c =
      let a = greatest.greatest v (record { count = w.count ∙ count; in_range = w.in_range }) (contained_trans (assigned v) (step new v) (step d v) c (within (assigned v))) in
      let b = envelope_contains new ls (assigned v) top (wired new sound) levels env.widest c in
      record { each = λ n e. met_most (assigned v) high top same_length n e (a.each n e) (b.each n e) }

  fixed_high : IsContained (step d high) (assigned high)
  fixed_high = record { each = λ n e. let P : Quad → Type 0 = λ q. IsWithin (step d high n e) q in subst P (greatest.fixpoint.fixed n e) (within_refl (step d high n e)) }

  made_within : IsContained (step new (met high top)) (assigned (met high top))
  made_within =
      let s = assigned (met high top) in
      let a = contained_trans (operator new s) (step new high) (assigned high) (operator_mono new s (assigned high) (wired new sound) in_high)
      (contained_trans (step new high) (step d high) (assigned high) (within (assigned high)) fixed_high) in
      let b = contained_trans (operator new s) (step new top) (assigned top) (operator_mono new s (assigned top) (wired new sound) in_top)
      (envelope_closed new top (wired new sound) env.widest) in
      record { each = λ n e. met_most (operator new s) high top same_length n e (a.each n e) (b.each n e) }

  pub met_fits : IsFittingStart Narrow new (met high top)
  met_fits = record {
    windows = record {
      count = length-met high top same_length ∙ env.windows.count;
      in_range = met_in_range high top greatest.fixpoint.windows.in_range env.windows.in_range;
    };
    respects = respects_apart Narrow new (assigned (met high top)) (record {
      each = λ v b. narrow_contained (assigned (met high top)) (assigned v) (barriers_within v b.windows (contained_narrow (step new v) (assigned v) b.closed));
    });
    fits = narrow_contained (assigned (met high top)) (step new (met high top)) made_within;
    within = record { top = top; envelope = env; accepted = acc; contained = in_top };
  }

-- ---- widening from the old least windows
module _ (d new : Parts) (ls : List ℕ) (low top : List Pair) (sound : IsSound new) (levels : AreLevels new.nets ls) (count : length new.nets ≡ length d.nets)
    (within : (W : Assignment) → IsContained (operator d W) (operator new W)) (least : IsLeastFixpoint d low) (env : IsEnvelope new top) (acc : IsAccepted new top) where
  before_barriers : (v : List Pair) → IsWindows new v → IsContained (step new v) (assigned v) → IsContained (assigned low) (assigned v)
  before_barriers v w c = least.least v (record { count = w.count ∙ count; in_range = w.in_range }) (contained_trans (step d v) (step new v) (assigned v) (within (assigned v)) c)

  fixed_low : IsContained (assigned low) (step d low)
  fixed_low = record { each = λ n e. let P : Quad → Type 0 = λ q. IsWithin q (step d low n e) in subst P (least.fixpoint.fixed n e) (within_refl (step d low n e)) }

  low_onward : IsContained (assigned low) (step new low)
  low_onward = contained_trans (assigned low) (step d low) (step new low) fixed_low (within (assigned low))

  pub low_fits : IsFittingStart Widen new low
  low_fits = record {
    windows = record { count = least.fixpoint.windows.count ∙ sym count; in_range = least.fixpoint.windows.in_range };
    respects = respects_apart Widen new (assigned low) (record {
      each = λ v b. widen_contained (assigned low) (assigned v) (before_barriers v b.windows (contained_widen (step new v) (assigned v) b.closed));
    });
    fits = widen_contained (assigned low) (step new low) low_onward;
    within = record { top = top; envelope = env; accepted = acc; contained = envelope_contains new ls (assigned low) top (wired new sound) levels env.widest low_onward };
  }
