use Rattle.linked_text.proofs.TableLaws.{made_table}
use Rattle.linked_text.proofs.tables.TableReaderFrontReader.read_front.Goals as goal

pub new-table-requires : goal.new-table-requires
new-table-requires c =
    rw c.from_vec.ensures
    (made_table c.args.bytes.now c.in_ok-row_count.rest.now c.in_ok-slews.rest.now c.in_ok-loads.rest.now c.in_ok-values.rest.now
    c.in_ok-row_count.row_count c.in_ok-row_count.column_count c.in_ok-slews.slews c.in_ok-loads.loads c.in_ok-values.values.items
    c.in_ok-row_count.ensures c.in_ok-slews.ensures c.in_ok-loads.ensures c.in_ok-values.ensures)
