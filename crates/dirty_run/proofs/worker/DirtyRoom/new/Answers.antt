use Rattle.std.proofs.Common.{arith, ◌∙◌, ap, subst, List, length}
use Rattle.std.proofs.lemmas.List.{length-replicate}
use Rattle.xt_model.specs.declared.table.Table.{Table}
use Rattle.xt_meaning.specs.Laws.{quiet_pair}
use Rattle.table_box.specs.Groups.{AreGroups}
use Rattle.dirty_run.proofs.worker.DirtyRoom.new.Goals as goal

pub returns-clause-count : goal.returns-clause-count
returns-clause-count c = c.in_ok-workers.ensures.count

pub returns-clause-room : goal.returns-clause-room
returns-clause-room c =
    let d = c.args.design.now in
    record {
      idle = c.in_ok-workers.ensures.idle;
      groups = subst (λ (tables : List Table). AreGroups tables c.in_ok-groups.groups.items) c.tables.ensures.value c.in_ok-groups.ensures;
      count = ap length c.in_ok-windows.ensures.quiet ∙ length-replicate (length d.nets) quiet_pair;
      words = let same = ap length c.nets.ensures.value in let room = c.in_ok-words.ensures.capacity in omega (arith, same, room);
    }
