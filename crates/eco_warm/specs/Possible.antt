-- Which edits a design allows.
use Rattle.std.specs.Prelude.{◌≡◌, ◌≢◌, ℕ, ◌<◌, ◌≤◌, ◌⊎◌, ℤ, pos, ◌≤ℤ◌, ◌<ℤ◌, List, length, IfSome}
use Rattle.std.specs.List.{All, slice_get}
use Rattle.xt_model.specs.declared.net.Coupling.{Coupling}
use Rattle.xt_model.specs.declared.net.SinkPin.{SinkPin}
use Rattle.xt_model.specs.declared.net.Net.{Net}
use Rattle.xt_model.specs.Levels.{CouplesTo}
use Rattle.xt_model.specs.Limits.{most_cap, most_couplings}
use Rattle.xt_model.specs.Sound.{IsBetween, IsCap, IsProduct, IsSoundSink, greatest_load}
use Rattle.eco_warm.specs.declared.edit.Edit.{Edit}
use Rattle.eco_warm.specs.declared.edit.EditFault.{EditFault}
use Rattle.eco_warm.specs.declared.edit.EditFault.TheVariants as faults
use Rattle.eco_warm.specs.declared.edit.Move.{Move}
use Rattle.eco_warm.specs.declared.edit.Move.TheVariants.{Whole, ToGround, FromGround}
use Rattle.eco_warm.specs.Edits.{net_left, move_of, first_of, second_of}

-- a coupling without capacitance has no proportion in which it could grow
abbrev pub CanMove : Move → Coupling → Type 0
CanMove Whole k = Unit {0}
CanMove (ToGround by) k = Unit {0}
CanMove (FromGround by) k = k.cap ≢ pos 0

-- a base and coefficients in the range of products
pub record HasProducts (s : SinkPin) : Type 0 where
  pub base : IsProduct s.base
  pub coefs : All IsProduct s.coefs

-- the couplings of the net to the net number `other` can be moved: no load or base falls below 0, and no base or
-- coefficient passes 2^102
pub record IsPossible (m : Move) (other : ℕ) (n : Net) : Type 0 where
  pub couplings : All (λ k. k.to.0 ≡ other → CanMove m k) n.couplings
  pub load : pos 0 ≤ℤ (net_left m other n).load
  pub sinks : All HasProducts (net_left m other n).sinks

-- the same of both nets of an edit
pub record ArePossible (e : Edit) (nets : List Net) : Type 0 where
  pub first : IfSome (slice_get nets (first_of e)) (IsPossible (move_of e) (second_of e))
  pub second : IfSome (slice_get nets (second_of e)) (IsPossible (move_of e) (first_of e))

-- the load of the net after the edit, with every coupling counted twice
abbrev pub load_after : Move → ℕ → Net → ℤ
load_after m other n = greatest_load (net_left m other n)

-- both nets can be moved, and neither has too great a load after it
pub record IsAllowed (e : Edit) (nets : List Net) : Type 0 where
  pub possible : ArePossible e nets
  pub first_load : IfSome (slice_get nets (first_of e)) (λ n. load_after (move_of e) (second_of e) n ≤ℤ most_cap)
  pub second_load : IfSome (slice_get nets (second_of e)) (λ n. load_after (move_of e) (first_of e) n ≤ℤ most_cap)

-- the net number `own` is the one of this number, and its load after the edit is this value, which is too great
pub record IsHeavy (m : Move) (own other number value : ℕ) (n : Net) : Type 0 where
  pub is : number ≡ own
  pub load : pos value ≡ load_after m other n
  pub over : most_cap <ℤ pos value

-- both nets can be moved; the first one has too great a load after it, or it has not and the second one has
pub record IsOverloaded (e : Edit) (nets : List Net) (number value : ℕ) : Type 0 where
  pub possible : ArePossible e nets
  pub heavy : IfSome (slice_get nets (first_of e)) (IsHeavy (move_of e) (first_of e) (second_of e) number value)
      ⊎ (IfSome (slice_get nets (first_of e)) (λ n. load_after (move_of e) (second_of e) n ≤ℤ most_cap)
      × IfSome (slice_get nets (second_of e)) (IsHeavy (move_of e) (second_of e) (first_of e) number value))

-- an amount in aF, from 1 to 2^40
abbrev pub IsAmount : ℤ → Type 0
IsAmount by = IsBetween (pos 1) (pos 1099511627776) by

abbrev pub IsMove : Move → Type 0
IsMove Whole = Unit {0}
IsMove (ToGround by) = IsAmount by
IsMove (FromGround by) = IsAmount by

-- the edit is between two nets of the design, one of which has a coupling to the other
pub record IsEditOf (nets : List Net) (e : Edit) : Type 0 where
  pub first : first_of e < length nets
  pub second : second_of e < length nets
  pub couples : CouplesTo nets (first_of e) (second_of e) ⊎ CouplesTo nets (second_of e) (first_of e)
  pub amount : IsMove (move_of e)

-- the couplings of a net, as far as their sums ask for it: capacitances in their range, and not too many
pub record AreInBounds (ks : List Coupling) : Type 0 where
  pub caps : All (λ k. IsCap k.cap) ks
  pub few : length ks ≤ most_couplings

-- a net of a sound design, as far as its sums ask for it
pub record IsInBounds (n : Net) : Type 0 where
  pub couplings : AreInBounds n.couplings
  pub sinks : All (IsSoundSink (length n.couplings)) n.sinks
  pub load : IsCap n.load
  pub most_load : greatest_load n ≤ℤ most_cap

-- why a design does not allow an edit between two of its nets
abbrev pub IsRefusalOf : Edit → List Net → EditFault → Type 0
IsRefusalOf e nets faults.E4 = ArePossible e nets → ⊥
IsRefusalOf e nets (faults.Load net value) = IsOverloaded e nets net.0 value
IsRefusalOf e nets faults.NoMemory = Unit {0}
IsRefusalOf e nets faults.E1 = ⊥
IsRefusalOf e nets faults.E2 = ⊥
IsRefusalOf e nets faults.E3 = ⊥

-- the fault is the load of this net, which has this number, and is too great with every coupling counted twice
abbrev pub IsLoadOf : ℕ → Net → EditFault → Type 0
IsLoadOf number n (faults.Load net value) = (net.0 ≡ number) × (pos value ≡ greatest_load n) × (most_cap <ℤ pos value)
IsLoadOf number n faults.E1 = ⊥
IsLoadOf number n faults.E2 = ⊥
IsLoadOf number n faults.E3 = ⊥
IsLoadOf number n faults.E4 = ⊥
IsLoadOf number n faults.NoMemory = ⊥

-- the edit cannot be made, where that is so; or there was no memory
abbrev pub IsImpossible : Type 0 → EditFault → Type 0
IsImpossible Never faults.E4 = Never
IsImpossible Never faults.NoMemory = Unit {0}
IsImpossible Never faults.E1 = ⊥
IsImpossible Never faults.E2 = ⊥
IsImpossible Never faults.E3 = ⊥
IsImpossible Never (faults.Load net value) = ⊥
