-- The two starts of an edited design fit.
use Rattle.std.proofs.Common.{◌≡◌, ℕ, refl, sym, ap, subst, ◌∙◌, List, [], ◌∷◌, length, drop, get_or, ◌++◌, ◌+◌, ◌≤◌, zero, suc, append_assoc, arith}
use Rattle.std.specs.Prelude.{Some}
use Rattle.std.specs.List.{slice_get}
use Rattle.std.proofs.lemmas.List.{at_drop_more}
use Rattle.std.proofs.lemmas.Option.{get_or_from_slice_get, slice_get_within}
use Rattle.xt_model.specs.declared.direction.Direction.TheVariants.{Widen, Narrow}
use Rattle.xt_model.specs.declared.quad.Pair.{Pair}
use Rattle.xt_model.specs.Quads.{meet_of, IsPairInRange}
use Rattle.xt_model.specs.Assign.{Assignment}
use Rattle.xt_model.specs.Levels.{AreLevelled}
use Rattle.xt_model.specs.Parts.{Parts}
use Rattle.xt_model.specs.Sound.{IsSound}
use Rattle.xt_meaning.specs.Operator.{operator}
use Rattle.xt_meaning.specs.Fixpoint.{IsContained, IsLeastFixpoint, IsGreatestFixpoint}
use Rattle.xt_meaning.specs.Envelope.{IsEnvelope, IsAccepted}
use Rattle.xt_meaning.specs.Barrier.{IsFittingStart}
use Rattle.xt_meaning.proofs.Starts.{quiet_fits, envelope_fits}
use Rattle.eco_warm.specs.declared.edit.Change.{Change}
use Rattle.eco_warm.specs.declared.edit.Change.TheVariants.{Shrinks, Grows, Neither}
use Rattle.eco_warm.specs.Edits.{move_of, first_of, second_of}
use Rattle.eco_warm.specs.Starts.{IsAfterEdit, met, low_start, high_start}
use Rattle.eco_warm.proofs.Nets.{length-nets_left}
use Rattle.eco_warm.proofs.Shrinking.{shrinks, grows}
use Rattle.eco_warm.proofs.Fits.{meet_in_range, met_fits, low_fits}

pub same_count : (d new : Parts) (change : Change) → IsAfterEdit d new change → length new.nets ≡ length d.nets
same_count d new change h =
    let e = h.edit in
    ap (λ (x : Parts). length x.nets) h.made ∙ length-nets_left (move_of e) (first_of e) (second_of e) d.nets

pub low_start_fits : (d new : Parts) (change : Change) (low top : List Pair) → IsAfterEdit d new change → IsSound new → AreLevelled new.nets → IsLeastFixpoint d low
    → IsEnvelope new top → IsAccepted new top → IsFittingStart Widen new (low_start change new low)
low_start_fits d new Shrinks low top h s levels least env acc = quiet_fits new top s env acc
low_start_fits d new Neither low top h s levels least env acc = quiet_fits new top s env acc
low_start_fits d new Grows low top h s levels least env acc =
    let w : (W : Assignment) → IsContained (operator d W) (operator new W) =
    λ W. let P : Parts → Type 0 = λ x. IsContained (operator d W) (operator x W) in subst P (sym h.made) (grows d h.edit h.sound h.between (sym h.changed) W) in
    low_fits d new levels.0 low top s levels.1 (same_count d new Grows h) w least env acc

pub high_start_fits : (d new : Parts) (change : Change) (high top : List Pair) → IsAfterEdit d new change → IsSound new → AreLevelled new.nets → IsGreatestFixpoint d high
    → IsEnvelope new top → IsAccepted new top → IsFittingStart Narrow new (high_start change high top)
high_start_fits d new Grows high top h s levels greatest env acc = envelope_fits new levels.0 top s levels.1 env acc
high_start_fits d new Neither high top h s levels greatest env acc = envelope_fits new levels.0 top s levels.1 env acc
high_start_fits d new Shrinks high top h s levels greatest env acc =
    let w : (W : Assignment) → IsContained (operator new W) (operator d W) =
    λ W.
    let P : Parts → Type 0 = λ x. IsContained (operator x W) (operator d W) in
    subst P (sym h.made) (shrinks d h.edit h.sound (subst IsSound h.made s) h.between (sym h.changed) W) in
    met_fits d new levels.0 high top s levels.1 (same_count d new Shrinks h) w greatest env acc

pub same_length : (d new : Parts) (change : Change) (high top : List Pair) → IsAfterEdit d new change → IsGreatestFixpoint d high → IsEnvelope new top → length high ≡ length top
same_length d new change high top h greatest env = greatest.fixpoint.windows.count ∙ (sym (same_count d new change h) ∙ sym env.windows.count)

at_place : {X : Type 0} (xs : List X) (i : ℕ) (x : X) → slice_get xs i ≡ Some x → drop i xs ≡ x ∷ drop (i + 1) xs
at_place xs i x a =
    let e : drop i xs ≡ get_or xs i x ∷ drop (i + 1) xs = at_drop_more (λ ys. ys) xs i x (slice_get_within xs i x a) in
    e ∙ ap (λ y. y ∷ drop (i + 1) xs) (get_or_from_slice_get xs i x x a)

-- one more pair that lies within both, before the rest
pub met_turn : (done new ps qs whole : List Pair) (i : ℕ) (p q r : Pair) → slice_get ps i ≡ Some p → slice_get qs i ≡ Some q
    → r ≡ record { rise = meet_of p.rise q.rise; fall = meet_of p.fall q.fall } → new ≡ (done ++ r ∷ [])
    → (done ++ met (drop i ps) (drop i qs)) ≡ whole → (new ++ met (drop (i + 1) ps) (drop (i + 1) qs)) ≡ whole
met_turn done new ps qs whole i p q r a b is n h =
    let x : drop i ps ≡ p ∷ drop (i + 1) ps = at_place ps i p a in
    let y : drop i qs ≡ q ∷ drop (i + 1) qs = at_place qs i q b in
    let rest = met (drop (i + 1) ps) (drop (i + 1) qs) in
    let before : (done ++ (record { rise = meet_of p.rise q.rise; fall = meet_of p.fall q.fall } ∷ rest)) ≡ whole = rw (x, y) at h in
    ap (λ z. z ++ rest) n ∙ (append_assoc done (r ∷ []) rest ∙ (ap (λ z. done ++ z ∷ rest) is ∙ before))

pub met_ended : (done ps qs whole : List Pair) (i : ℕ) → length ps ≤ i → (done ++ met (drop i ps) (drop i qs)) ≡ whole → done ≡ whole
met_ended done ps qs whole i h e =
    let x : drop i ps ≡ [] = drop_all ps i h in
    let y : (done ++ met [] (drop i qs)) ≡ whole = rw x at e in
    sym (append_nil done) ∙ y
  where
    drop_all : {X : Type 0} (xs : List X) (i : ℕ) → length xs ≤ i → drop i xs ≡ []
    drop_all [] zero h = refl
    drop_all [] (suc i) h = refl
    drop_all (x ∷ xs) zero h = absurd (omega (arith, h))
    drop_all (x ∷ xs) (suc i) h = drop_all xs i (omega (arith, h))

    append_nil : {X : Type 0} (xs : List X) → (xs ++ []) ≡ xs
    append_nil [] = refl
    append_nil (x ∷ xs) = ap (λ ys. x ∷ ys) (append_nil xs)

pub pair_met : (p q r : Pair) → IsPairInRange p → IsPairInRange q → r ≡ record { rise = meet_of p.rise q.rise; fall = meet_of p.fall q.fall } → IsPairInRange r
pair_met p q r a b is =
    let P : Pair → Type 0 = IsPairInRange in
    subst P (sym is) (record { rise = meet_in_range p.rise q.rise a.rise b.rise; fall = meet_in_range p.fall q.fall a.fall b.fall })
