-- Two tables at one range of loads.
use Rattle.std.specs.Prelude.{◌≡◌, Bool, IsTrue, ℤ}
use Rattle.xt_model.specs.Tables.{TableParts, IsTable}
use Rattle.xt_meaning.specs.Lookup.{Box}
use Rattle.table_box.specs.declared.stretch.Stretch.{Stretch}
use Rattle.table_box.specs.Monotone.{AreMonotone}
use Rattle.table_box.specs.Stretches.{IsStretch}

-- two tables, and the loads from c0 to c1
pub record TablesAtLoads : Type 0 where
  pub first : TableParts
  pub second : TableParts
  pub c0 : ℤ
  pub c1 : ℤ

-- these loads, with the slews from s0 to s1
abbrev pub box_at : TablesAtLoads → ℤ → ℤ → Box
box_at p s0 s1 = record { s0 = s0; s1 = s1; c0 = p.c0; c1 = p.c1 }

-- the loads on the axis of the first table; where the tables are said to be alike, they have the same axes, and where
-- they are known to be monotone, they are
pub record IsTablePair (t u : TableParts) (loads : Stretch) (alike known : Bool) : Type 0 where
  pub first : IsTable t
  pub second : IsTable u
  pub on_axis : IsStretch t.loads loads
  pub slews_same : IsTrue alike → t.slews ≡ u.slews
  pub loads_same : IsTrue alike → t.loads ≡ u.loads
  pub monotone : IsTrue known → AreMonotone t u
