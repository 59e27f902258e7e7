-- Why a design does not allow an edit, from what its two nets say.
use Rattle.std.proofs.Common.{◌≡◌, ℕ, ◌⊎◌, inl, inr, subst, pos, ◌≤ℤ◌, ◌<ℤ◌, List}
use Rattle.std.specs.Prelude.{Option, Some, None, IfSome}
use Rattle.std.specs.List.{slice_get}
use Rattle.xt_model.specs.declared.net.Net.{Net}
use Rattle.xt_model.specs.Limits.{most_cap}
use Rattle.xt_model.specs.Sound.{greatest_load}
use Rattle.eco_warm.specs.declared.edit.Edit.{Edit}
use Rattle.eco_warm.specs.declared.edit.EditFault.{EditFault}
use Rattle.eco_warm.specs.declared.edit.EditFault.TheVariants as faults
use Rattle.eco_warm.specs.declared.edit.Move.{Move}
use Rattle.eco_warm.specs.Edits.{net_left, move_of, first_of, second_of}
use Rattle.eco_warm.specs.Possible.{IsPossible, IsAllowed, IsHeavy, IsImpossible, IsLoadOf, IsRefusalOf, load_after}

pub first_impossible : (e : Edit) (nets : List Net) (f : EditFault) → IsImpossible (IfSome (slice_get nets (first_of e)) (IsPossible (move_of e) (second_of e)) → ⊥) f → IsRefusalOf e nets f
first_impossible e nets faults.E1 h = h
first_impossible e nets faults.E2 h = h
first_impossible e nets faults.E3 h = h
first_impossible e nets faults.E4 h = λ p. h p.first
first_impossible e nets (faults.Load net value) h = absurd h
first_impossible e nets faults.NoMemory h = h

pub second_impossible : (e : Edit) (nets : List Net) (f : EditFault) → IsImpossible (IfSome (slice_get nets (second_of e)) (IsPossible (move_of e) (first_of e)) → ⊥) f → IsRefusalOf e nets f
second_impossible e nets faults.E1 h = h
second_impossible e nets faults.E2 h = h
second_impossible e nets faults.E3 h = h
second_impossible e nets faults.E4 h = λ p. h p.second
second_impossible e nets (faults.Load net value) h = absurd h
second_impossible e nets faults.NoMemory h = h

-- the load of the net after the edit, by the net that was made
light : (m : Move) (other : ℕ) (o : Option Net) (after : Net) → IfSome o (λ n. after ≡ net_left m other n) → greatest_load after ≤ℤ most_cap → IfSome o (λ n. load_after m other n ≤ℤ most_cap)
light m other None after h k = tt
light m other (Some n) after h k = let P : Net → Type 0 = λ x. greatest_load x ≤ℤ most_cap in subst P h k

heavy : (m : Move) (own other number value : ℕ) (o : Option Net) (after : Net) → IfSome o (λ n. after ≡ net_left m other n) → number ≡ own → pos value ≡ greatest_load after → most_cap <ℤ pos value
    → IfSome o (IsHeavy m own other number value)
heavy m own other number value None after h is load over = tt
heavy m own other number value (Some n) after h is load over =
    let P : Net → Type 0 = λ x. pos value ≡ greatest_load x in
    record { is = is; load = subst P h load; over = over }

pub allowed : (e : Edit) (nets : List Net) (first second : Net)
    → IfSome (slice_get nets (first_of e)) (λ n. first ≡ net_left (move_of e) (second_of e) n) → IfSome (slice_get nets (second_of e)) (λ n. second ≡ net_left (move_of e) (first_of e) n)
    → IfSome (slice_get nets (first_of e)) (IsPossible (move_of e) (second_of e)) → IfSome (slice_get nets (second_of e)) (IsPossible (move_of e) (first_of e))
    → greatest_load first ≤ℤ most_cap → greatest_load second ≤ℤ most_cap → IsAllowed e nets
allowed e nets first second is_first is_second p q l k = record {
  possible = record { first = p; second = q };
  first_load = light (move_of e) (second_of e) (slice_get nets (first_of e)) first is_first l;
  second_load = light (move_of e) (first_of e) (slice_get nets (second_of e)) second is_second k;
}

first_heavy : (e : Edit) (nets : List Net) (first : Net) (f : EditFault)
    → IfSome (slice_get nets (first_of e)) (λ n. first ≡ net_left (move_of e) (second_of e) n)
    → IfSome (slice_get nets (first_of e)) (IsPossible (move_of e) (second_of e)) → IfSome (slice_get nets (second_of e)) (IsPossible (move_of e) (first_of e))
    → IsLoadOf (first_of e) first f → IsRefusalOf e nets f
first_heavy e nets first faults.E1 is p q h = h
first_heavy e nets first faults.E2 is p q h = h
first_heavy e nets first faults.E3 is p q h = h
first_heavy e nets first faults.E4 is p q h = absurd h
first_heavy e nets first faults.NoMemory is p q h = absurd h
first_heavy e nets first (faults.Load net value) is p q h = record {
  possible = record { first = p; second = q };
  heavy = inl (heavy (move_of e) (first_of e) (second_of e) net.0 value (slice_get nets (first_of e)) first is h.0 h.1 h.2);
}

second_heavy : (e : Edit) (nets : List Net) (first second : Net) (f : EditFault)
    → IfSome (slice_get nets (first_of e)) (λ n. first ≡ net_left (move_of e) (second_of e) n) → IfSome (slice_get nets (second_of e)) (λ n. second ≡ net_left (move_of e) (first_of e) n)
    → IfSome (slice_get nets (first_of e)) (IsPossible (move_of e) (second_of e)) → IfSome (slice_get nets (second_of e)) (IsPossible (move_of e) (first_of e))
    → greatest_load first ≤ℤ most_cap → IsLoadOf (second_of e) second f → IsRefusalOf e nets f
second_heavy e nets first second faults.E1 is_first is p q l h = h
second_heavy e nets first second faults.E2 is_first is p q l h = h
second_heavy e nets first second faults.E3 is_first is p q l h = h
second_heavy e nets first second faults.E4 is_first is p q l h = absurd h
second_heavy e nets first second faults.NoMemory is_first is p q l h = absurd h
second_heavy e nets first second (faults.Load net value) is_first is p q l h = record {
  possible = record { first = p; second = q };
  heavy = inr (
    light (move_of e) (second_of e) (slice_get nets (first_of e)) first is_first l,
    heavy (move_of e) (second_of e) (first_of e) net.0 value (slice_get nets (second_of e)) second is h.0 h.1 h.2,
  );
}

-- the load of one of the nets is too great
pub one_heavy : (e : Edit) (nets : List Net) (first second : Net) (f : EditFault)
    → IfSome (slice_get nets (first_of e)) (λ n. first ≡ net_left (move_of e) (second_of e) n) → IfSome (slice_get nets (second_of e)) (λ n. second ≡ net_left (move_of e) (first_of e) n)
    → IfSome (slice_get nets (first_of e)) (IsPossible (move_of e) (second_of e)) → IfSome (slice_get nets (second_of e)) (IsPossible (move_of e) (first_of e))
    → IsLoadOf (first_of e) first f ⊎ ((greatest_load first ≤ℤ most_cap) × IsLoadOf (second_of e) second f) → IsRefusalOf e nets f
one_heavy e nets first second f is_first is p q (inl h) = first_heavy e nets first f is_first p q h
one_heavy e nets first second f is_first is p q (inr h) = second_heavy e nets first second f is_first is p q h.0 h.1
