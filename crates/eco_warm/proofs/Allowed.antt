-- The design after an edit that it allows: it is sound, and its nets have the levels that they had.
use Rattle.std.proofs.Common.{◌≡◌, ℕ, zero, suc, ◌<◌, inl, inr, refl, sym, ap, subst, ◌∙◌, List, [], ◌∷◌, length, set, ◌≤ℤ◌, arith}
use Rattle.std.specs.Prelude.{Option, Some, None, IfSome}
use Rattle.std.specs.Option.{option_map}
use Rattle.std.specs.List.{slice_get}
use Rattle.std.proofs.lemmas.Bool.{cases_eq}
use Rattle.std.proofs.lemmas.List.Elements.{All-weaker}
use Rattle.xt_model.specs.declared.net.Net.{Net}
use Rattle.xt_model.specs.Levels.{AreLevels}
use Rattle.xt_model.specs.Limits.{most_cap}
use Rattle.xt_model.specs.Parts.{Parts}
use Rattle.xt_model.specs.Sound.{IsSound, IsSoundNet, IsSoundCoupling, IsCap}
use Rattle.xt_meaning.proofs.Limits.{sound_at}
use Rattle.xt_meaning.proofs.Sums.{few_couplings}
use Rattle.eco_warm.specs.declared.edit.Edit.{Edit}
use Rattle.eco_warm.specs.declared.edit.Move.{Move}
use Rattle.eco_warm.specs.Edits.{net_left, at_net, nets_left, move_of, first_of, second_of, edited}
use Rattle.eco_warm.specs.Possible.{IsPossible, IsAllowed, IsEditOf, IsInBounds, load_after}
use Rattle.eco_warm.proofs.Portions.{IsNaturalMove}
use Rattle.eco_warm.proofs.Nets.{AreRelated, at_same, at_other, length-nets_left, nets_related}
use Rattle.eco_warm.proofs.Kept.{IsAlike, alike_refl, alike_left, net_sound, design_sound, levels_kept}
use Rattle.eco_warm.proofs.Shrinking.{natural_move, nets_apart}

-- ---- what holds of each net after an edit
held : (P : Net → Type 0) (f : Net → Net) (o : Option Net) → IfSome o (λ n. P (f n)) → IfSome (option_map f o) P
held P f None h = tt
held P f (Some n) h = h

module _ (P : ℕ → Net → Type 0) (m : Move) (a b : ℕ) (apart : b ≡ a → ⊥) (nets : List Net) (before : (i : ℕ) → IfSome (slice_get nets i) (P i))
    (first : IfSome (slice_get nets a) (λ n. P a (net_left m b n))) (second : IfSome (slice_get nets b) (λ n. P b (net_left m a n))) where
  holds_second : IfSome (slice_get (nets_left m a b nets) b) (P b)
  holds_second =
      let e : slice_get (nets_left m a b nets) b ≡ option_map (net_left m a) (slice_get nets b) =
      at_same b (net_left m a) (at_net a (net_left m b) nets) ∙ ap (option_map (net_left m a)) (at_other a (net_left m b) nets b apart) in
      let Q : Option Net → Type 0 = λ o. IfSome o (P b) in
      subst Q (sym e) (held (P b) (net_left m a) (slice_get nets b) second)

  holds_first : IfSome (slice_get (nets_left m a b nets) a) (P a)
  holds_first =
      let e : slice_get (nets_left m a b nets) a ≡ option_map (net_left m b) (slice_get nets a) =
      at_other b (net_left m a) (at_net a (net_left m b) nets) a (λ e. apart (sym e)) ∙ at_same a (net_left m b) nets in
      let Q : Option Net → Type 0 = λ o. IfSome o (P a) in
      subst Q (sym e) (held (P a) (net_left m b) (slice_get nets a) first)

  holds_elsewhere : (j : ℕ) → (j ≡ a → ⊥) → (j ≡ b → ⊥) → IfSome (slice_get (nets_left m a b nets) j) (P j)
  holds_elsewhere j x y =
      let e : slice_get (nets_left m a b nets) j ≡ slice_get nets j =
      at_other b (net_left m a) (at_net a (net_left m b) nets) j y ∙ at_other a (net_left m b) nets j x in
      let Q : Option Net → Type 0 = λ o. IfSome o (P j) in
      subst Q (sym e) (before j)

  nets_hold : (j : ℕ) → IfSome (slice_get (nets_left m a b nets) j) (P j)
  nets_hold j = elim (cases_eq j b) [
    | inl e ↦ let Q : ℕ → Type 0 = λ i. IfSome (slice_get (nets_left m a b nets) i) (P i) in subst Q (sym e) holds_second
    | inr y ↦ elim (cases_eq j a) [
      | inl e ↦ let Q : ℕ → Type 0 = λ i. IfSome (slice_get (nets_left m a b nets) i) (P i) in subst Q (sym e) holds_first
      | inr x ↦ holds_elsewhere j x y
    ]
  ]

-- ---- one net
-- of a net that is there, two facts at once
both_of : (P Q R : Net → Type 0) (o : Option Net) → IfSome o P → IfSome o Q → ((n : Net) → o ≡ Some n → P n → Q n → R n) → IfSome o R
both_of P Q R None p q h = tt
both_of P Q R (Some n) p q h = h n refl p q

net_allowed : (d : Parts) (m : Move) (i other : ℕ) → IsSound d → IsNaturalMove m → IfSome (slice_get d.nets i) (IsPossible m other) → IfSome (slice_get d.nets i) (λ n. load_after m other n ≤ℤ most_cap)
    → IfSome (slice_get d.nets i) (λ n. IsSoundNet d i (net_left m other n))
net_allowed d m i other s a p l =
    both_of (IsPossible m other) (λ n. load_after m other n ≤ℤ most_cap) (λ n. IsSoundNet d i (net_left m other n)) (slice_get d.nets i) p l
    (λ n at x y. net_sound d i m other n (sound_at d i n s at) a x y)

of_each : (P : Net → Type 0) (o : Option Net) → ((n : Net) → P n) → IfSome o P
of_each P None h = tt
of_each P (Some n) h = h n

-- ---- the design
alike_nets : (d : Parts) (e : Edit) → IsSound d → IsEditOf d.nets e → AreRelated IsAlike (edited e d).nets d.nets
alike_nets d e s h =
    nets_related IsAlike alike_refl (move_of e) (first_of e) (second_of e) (nets_apart d e s h) d.nets
    (of_each (λ n. IsAlike (net_left (move_of e) (second_of e) n) n) (slice_get d.nets (first_of e)) (λ n. alike_left (move_of e) (second_of e) n))
    (of_each (λ n. IsAlike (net_left (move_of e) (first_of e) n) n) (slice_get d.nets (second_of e)) (λ n. alike_left (move_of e) (first_of e) n))

pub edited_sound : (d : Parts) (e : Edit) → IsSound d → IsEditOf d.nets e → IsAllowed e d.nets → IsSound (edited e d)
edited_sound d e s h allowed =
    let a = natural_move e h.amount in
    let m = move_of e in
    let i = first_of e in
    let j = second_of e in
    design_sound d (nets_left m i j d.nets) (alike_nets d e s h) (length-nets_left m i j d.nets) s
    (nets_hold (IsSoundNet d) m i j (nets_apart d e s h) d.nets s.nets
    (net_allowed d m i j s a allowed.possible.first allowed.first_load) (net_allowed d m j i s a allowed.possible.second allowed.second_load))

pub edited_levels : (d : Parts) (e : Edit) (levels : List ℕ) → IsSound d → IsEditOf d.nets e → AreLevels d.nets levels → AreLevels (edited e d).nets levels
edited_levels d e levels s h k =
    levels_kept (nets_left (move_of e) (first_of e) (second_of e) d.nets) d.nets levels (alike_nets d e s h) (length-nets_left (move_of e) (first_of e) (second_of e) d.nets) k

-- a net of a sound design is in the bounds that its sums ask for
pub in_bounds : (d : Parts) (i : ℕ) (n : Net) → IsSound d → slice_get d.nets i ≡ Some n → IsInBounds n
in_bounds d i n s at =
    let k = sound_at d i n s at in
    record {
      couplings = record { caps = All-weaker (IsSoundCoupling d i) (λ k. IsCap k.cap) (λ k h. h.cap) n.couplings k.couplings; few = few_couplings d i n s at };
      sinks = k.sinks;
      load = k.load;
      most_load = k.most_load;
    }

-- ---- nets put in their places
set_at : (i : ℕ) (f : Net → Net) (nets : List Net) (n after : Net) → slice_get nets i ≡ Some n → after ≡ f n → set nets i after ≡ at_net i f nets
set_at i f [] n after at is = refl
set_at zero f (x ∷ nets) n after at is = let same : x ≡ n = cc in rw (is, same) refl
set_at (suc i) f (x ∷ nets) n after at is = ap (λ ns. x ∷ ns) (set_at i f nets n after at is)

pub both_set : (m : Move) (a b : ℕ) (nets : List Net) (first second after_first after_second : Net) → (b ≡ a → ⊥) → slice_get nets a ≡ Some first → slice_get nets b ≡ Some second
    → after_first ≡ net_left m b first → after_second ≡ net_left m a second → set (set nets a after_first) b after_second ≡ nets_left m a b nets
both_set m a b nets first second after_first after_second apart at_a at_b is_first is_second =
    let e : set nets a after_first ≡ at_net a (net_left m b) nets = set_at a (net_left m b) nets first after_first at_a is_first in
    let there : slice_get (at_net a (net_left m b) nets) b ≡ Some second = at_other a (net_left m b) nets b apart ∙ at_b in
    ap (λ ns. set ns b after_second) e ∙ set_at b (net_left m a) (at_net a (net_left m b) nets) second after_second there is_second

-- a net within the list
pub there : (nets : List Net) (i : ℕ) → i < length nets → (n : Net) × (slice_get nets i ≡ Some n)
there [] i h = absurd (omega (arith, h))
there (n ∷ nets) zero h = (n, refl)
there (n ∷ nets) (suc i) h = there nets i (omega (arith, h))

-- the parts that are made of those of a design and of both nets after an edit
pub parts_made : (d p : Parts) (e : Edit) (a b : ℕ) (items before : List Net) (first second : Net) → p ≡ d → a ≡ first_of e → b ≡ second_of e → before ≡ p.nets → items ≡ set (set before a first) b second
    → IsSound d → IsEditOf d.nets e → IfSome (slice_get d.nets (first_of e)) (λ old. first ≡ net_left (move_of e) (second_of e) old)
    → IfSome (slice_get d.nets (second_of e)) (λ old. second ≡ net_left (move_of e) (first_of e) old)
    → ◌≡◌ {A = Parts} (record { period = p.period; tables = p.tables; nets = items; checks = p.checks; miller = p.miller }) (edited e d)
parts_made d p e a b items before first second is is_a is_b from made s h f g =
    let x = there d.nets (first_of e) h.first in
    let y = there d.nets (second_of e) h.second in
    let P : Option Net → Type 0 = λ o. IfSome o (λ old. first ≡ net_left (move_of e) (second_of e) old) in
    let Q : Option Net → Type 0 = λ o. IfSome o (λ old. second ≡ net_left (move_of e) (first_of e) old) in
    let placed : set (set d.nets (first_of e) first) (second_of e) second ≡ nets_left (move_of e) (first_of e) (second_of e) d.nets =
    both_set (move_of e) (first_of e) (second_of e) d.nets x.0 y.0 first second (nets_apart d e s h) x.1 y.1 (subst P x.1 f) (subst Q y.1 g) in
    let same : before ≡ d.nets = from ∙ ap (λ (z : Parts). z.nets) is in
    let all : items ≡ nets_left (move_of e) (first_of e) (second_of e) d.nets = made ∙ (rw (same, is_a, is_b) placed) in
    let whole : ◌≡◌ {A = Parts} (record { period = p.period; tables = p.tables; nets = items; checks = p.checks; miller = p.miller }) (edited e d) = rw (is, all) refl in
    whole
