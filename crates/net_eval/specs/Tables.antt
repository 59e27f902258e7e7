-- Tables of arcs, at the load of the net that they drive.
use Rattle.std.specs.Prelude.{◌≡◌, ℕ, Some}
use Rattle.std.specs.List.{slice_get}
use Rattle.xt_model.specs.declared.net.TimingArc.{TimingArc}
use Rattle.xt_model.specs.Parts.{Parts}
use Rattle.xt_meaning.specs.Operator.{Range}
use Rattle.table_box.specs.Groups.{AreGroups}
use Rattle.table_box.specs.TablePairs.{TablesAtLoads}
use Rattle.net_eval.specs.declared.tables.EdgeTables.{EdgeTables}

-- the loads of two tables
abbrev pub loads_at : TablesAtLoads → Range
loads_at p = record { least = p.c0; most = p.c1 }

-- the delay and the slew table of these numbers in a design
pub record AreNumbered (d : Parts) (i j : ℕ) (p : TablesAtLoads) : Type 0 where
  pub delay : slice_get d.tables i ≡ Some p.first
  pub slew : slice_get d.tables j ≡ Some p.second

-- the tables of their numbers, at loads of this range, and groups of all tables
pub record AreTables (d : Parts) (r : Range) (t : EdgeTables) : Type 0 where
  pub groups : AreGroups d.tables t.groups.now
  pub numbered : AreNumbered d t.delay t.slew t.pair
  pub load : loads_at t.pair ≡ r

-- those that an arc names
pub record AreTablesOf (d : Parts) (a : TimingArc) (r : Range) (t : EdgeTables) : Type 0 where
  pub tables : AreTables d r t
  pub named : AreNumbered d a.delay a.slew t.pair
