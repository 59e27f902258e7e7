-- Sums that change at moments.
use Rattle.std.specs.Prelude.{◌≡◌, Bool, true, if◌then◌else◌, ◌&&◌, List, [], ◌∷◌, Option, Some, None}
use Rattle.std.specs.Prelude.{ℤ, pos, neg_ℤ, ◌+ℤ◌, ◌-ℤ◌, ◌≤ℤ◌, int_le, int_lt}
use Rattle.std.specs.Int.{int_rem_euclid}
use Rattle.std.specs.List.{flat_map}
use Rattle.xt_model.specs.declared.edge.Edge.{Edge}
use Rattle.xt_model.specs.declared.quad.Quad.{Quad}
use Rattle.xt_model.specs.declared.net.Coupling.{Coupling}
use Rattle.xt_model.specs.Quads.{is_live}
use Rattle.xt_model.specs.Assign.{Assignment}
use Rattle.xt_meaning.specs.Overlap.{active_from, active_to}
use Rattle.glitch_noise.specs.declared.change.Change.{Change}

-- the sum of the changes up to a moment, that one included
abbrev pub sum_to : ℤ → List Change → ℤ
sum_to moment [] = pos 0
sum_to moment (c ∷ more) = (if int_le c.at moment then c.by else pos 0) +ℤ sum_to moment more

-- `most` is the greatest sum over all moments, and where it is above 0, `moment` is the first that has it
pub record IsBest (cs : List Change) (most moment : ℤ) : Type 0 where
  pub natural : pos 0 ≤ℤ most
  pub bound : (m : ℤ) → sum_to m cs ≤ℤ most
  pub reached : pos 1 ≤ℤ most → sum_to moment cs ≡ most
  pub first : pos 1 ≤ℤ most → (m : ℤ) → sum_to m cs ≡ most → moment ≤ℤ m

-- the first of the changes, where there is one, comes at this moment or later
abbrev pub IsFrom : ℤ → List Change → Type 0
IsFrom moment [] = Unit {0}
IsFrom moment (c ∷ more) = moment ≤ℤ c.at

-- the moments of changes do not fall
abbrev pub Ascend : List Change → Type 0
Ascend [] = Unit {0}
Ascend (c ∷ more) = IsFrom c.at more × Ascend more

-- whether the next change, where there is one, comes later
abbrev pub is_later : ℤ → Option Change → Bool
is_later moment None = true
is_later moment (Some c) = int_lt moment c.at

abbrev pub change : ℤ → ℤ → Change
change at by = record { at = at; by = by }

-- a capacitance that counts from one moment until before another
abbrev pub until_end : ℤ → ℤ → ℤ → List Change
until_end from end cap = change from cap ∷ change end (neg_ℤ cap) ∷ []

-- the same within one period, where the second can be meant in the next one
abbrev pub in_period : ℤ → ℤ → ℤ → List Change
in_period from end cap =
    if int_lt from end
    then until_end from end cap
    else change (pos 0) cap ∷ change end (neg_ℤ cap) ∷ change from cap ∷ []

-- the same again in every period
abbrev pub periodic_changes : ℤ → ℤ → ℤ → ℤ → List Change
periodic_changes period from end cap =
    if int_le period (end -ℤ from)
    then change (pos 0) cap ∷ []
    else in_period (int_rem_euclid from period) (int_rem_euclid end period) cap

-- one that counts from one moment to another, both included, in a design with a clock period in every period
abbrev pub range_changes : Option ℤ → ℤ → ℤ → ℤ → List Change
range_changes None from to cap = until_end from (to +ℤ pos 1) cap
range_changes (Some period) from to cap = periodic_changes period from (to +ℤ pos 1) cap

-- one that counts while a transition of the window can be under way
abbrev pub window_changes : Option ℤ → Quad → ℤ → List Change
window_changes period q cap =
    if is_live q && int_le (active_from q) (active_to q)
    then range_changes period (active_from q) (active_to q) cap
    else []

-- the capacitance of a coupling, while the edge e of its aggressor can be under way
abbrev pub coupling_changes : Option ℤ → Assignment → Edge → Coupling → List Change
coupling_changes period W e k = window_changes period (W k.to.0 e) k.cap

-- those of several couplings
abbrev pub changes_of : Option ℤ → Assignment → Edge → List Coupling → List Change
changes_of period W e ks = flat_map (coupling_changes period W e) ks
