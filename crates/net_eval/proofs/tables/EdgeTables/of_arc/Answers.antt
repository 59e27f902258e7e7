-- Both tables are those of the arc's numbers.
use Rattle.std.proofs.Common.{◌≡◌, refl, to_z, of_z, w64, arith}
use Rattle.std.specs.Prelude.{Some}
use Rattle.std.specs.List.{slice_get}
use Rattle.std.proofs.lemmas.Int.{ints}
use Rattle.net_eval.proofs.Contributions.{table_at, tables_numbered}
use Rattle.net_eval.proofs.tables.EdgeTables.of_arc.Goals as goal

pub returns : goal.returns
returns c =
    let t : slice_get c.args.design.now.tables c.args.arc.now.delay ≡ Some c.index-tables-arc.result = table_at _ _ _ _ c.tables-tables.ensures.value c.requires.sound.delay c.index-tables-arc.is in
    let u : slice_get c.args.design.now.tables c.args.arc.now.slew ≡ Some c.index-tables-arc-2.result = table_at _ _ _ _ c.tables-tables.ensures.value c.requires.sound.slew c.index-tables-arc-2.is in
    let l0 : to_z w64 (of_z w64 c.args.load.0) ≡ c.args.load.0 = omega (arith, ints) in
    let l1 : to_z w64 (of_z w64 c.args.load.1) ≡ c.args.load.1 = omega (arith, ints) in
    let numbered = tables_numbered _ _ _ _ _ _ _ _ t u c.known.ensures in
    record {
      tables = record { groups = c.requires.groups; numbered = numbered; load = rw (c.known.ensures, l0, l1) refl };
      named = numbered;
    }

pub known-requires-clause-monotone : goal.known-requires-clause-monotone
known-requires-clause-monotone c = λ t.
    let both = c.are_grouped.ensures t in
    c.requires.groups.each _ _ _ _
    (table_at _ _ _ _ c.tables-tables.ensures.value c.requires.sound.delay c.index-tables-arc.is)
    (table_at _ _ _ _ c.tables-tables.ensures.value c.requires.sound.slew c.index-tables-arc-2.is) both.0 both.1
