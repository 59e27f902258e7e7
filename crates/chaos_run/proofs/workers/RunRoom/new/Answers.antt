use Rattle.std.proofs.Common.{◌∙◌, ap, subst, List, length, arith}
use Rattle.std.proofs.lemmas.List.{length-replicate}
use Rattle.xt_model.specs.declared.table.Table.{Table}
use Rattle.table_box.specs.Groups.{AreGroups}
use Rattle.xt_meaning.specs.Laws.{quiet_pair}
use Rattle.chaos_run.proofs.workers.RunRoom.new.Goals as goal

pub returns-clause-count : goal.returns-clause-count
returns-clause-count c = c.in_ok-workers.ensures.count

pub returns-clause-room : goal.returns-clause-room
returns-clause-room c =
    let d = c.args.design.now in
    let nets = length d.nets in
    record {
      idle = c.in_ok-workers.ensures.idle;
      before = ap length c.in_ok-before.ensures.quiet ∙ length-replicate nets quiet_pair;
      count = ap length c.in_ok-windows.ensures.quiet ∙ length-replicate nets quiet_pair;
      unmoved = let same = ap length c.nets.ensures.value in let long = c.in_ok-unmoved.ensures.len in let ok = c.in_ok-unmoved.unmoved.ok.0 in omega (arith, same, long, ok);
      marks = let same = ap length c.nets-2.ensures.value in let long = c.in_ok-marks.ensures.len in let ok = c.in_ok-marks.marks.ok.0 in omega (arith, same, long, ok);
      groups = subst (λ (tables : List Table). AreGroups tables c.in_ok-groups.groups.items) c.tables.ensures.value c.in_ok-groups.ensures;
    }
