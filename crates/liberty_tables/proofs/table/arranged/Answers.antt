use Rattle.std.proofs.Common.{◌≡◌, ap, ◌∙◌, length, ◌*◌}
use Rattle.liberty_tables.proofs.TableLaws.{made, turned_length}
use Rattle.liberty_tables.proofs.table.arranged.Goals as goal

pub new-requires : goal.new-requires
new-requires c =
    let count : length c.in_ok-values.values ≡ length c.args.inner * length c.args.outer =
    ap length c.in_ok-values.ensures ∙ rw (c.as_slice.ensures, c.as_slice-then-turned.ensures) (turned_length (length c.args.outer) (length c.args.inner) c.args.values) in
    made c.args.inner c.args.outer c.in_ok-values.values c.requires.inner c.requires.outer count
    c.into_row.ensures.bounds c.into_row-then-turned.ensures.bounds c.into_row-then-turned-2.ensures.bounds
    _ _ _ c.into_row.ensures.value c.into_row-then-turned.ensures.value c.into_row-then-turned-2.ensures.value

pub new-requires-else-turned : goal.new-requires-else-turned
new-requires-else-turned c =
    made c.args.outer c.args.inner c.args.values c.requires.outer c.requires.inner c.requires.count
    c.into_row-else-turned.ensures.bounds c.into_row-else-turned-2.ensures.bounds c.into_row-else-turned-3.ensures.bounds
    _ _ _ c.into_row-else-turned.ensures.value c.into_row-else-turned-2.ensures.value c.into_row-else-turned-3.ensures.value
