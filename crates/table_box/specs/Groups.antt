-- Groups of tables.
use Rattle.std.specs.Prelude.{◌≡◌, ℕ, ◌-◌, ◌<◌, List, Some, slice_index}
use Rattle.std.specs.List.{slice_get}
use Rattle.xt_model.specs.Tables.{TableParts}
use Rattle.table_box.specs.Monotone.{AreMonotone, IsMonotone}

-- a monotone table, with the axes of the table with which its group begins: that has the number before the group's
pub record IsInGroup (tables : List TableParts) (t : TableParts) (group : ℕ) : Type 0 where
  pub monotone : IsMonotone t
  pub head : TableParts
  pub there : slice_get tables (group - 1) ≡ Some head
  pub slews : t.slews ≡ head.slews
  pub loads : t.loads ≡ head.loads

-- table number n has no group, or is in this one
abbrev pub IsGrouped : List TableParts → ℕ → ℕ → Type 0
IsGrouped tables n group = (t : TableParts) → slice_get tables n ≡ Some t → 0 < group → IsInGroup tables t group

-- a number of a group for each table, 0 for none: two tables of one group are monotone and have the same axes
pub record AreGroups (tables : List TableParts) (groups : List ℕ) : Type 0 where
  pub each : (i j : ℕ) (t u : TableParts) → slice_get tables i ≡ Some t → slice_get tables j ≡ Some u
      → 0 < slice_index groups i → slice_index groups i ≡ slice_index groups j → AreMonotone t u
