use Rattle.linked_text.specs.Fields.{fields_of}
use Rattle.eco_warm.specs.Reading.{edit_in}
use Rattle.call_meaning.specs.Outcome.{LimitsMean}
use Rattle.call_meaning.proofs.EditSteps.{both_ok, each_err, line_fault, line_refused, line_stops, read_stops}
use Rattle.xtalk_top.proofs.edits.after_line.Goals as goal

pub stop_of-stop-requires : goal.stop_of-stop-requires
stop_of-stop-requires c = line_fault c.args.design c.in-Err.fault c.in-Err.ensures.fault

pub returns-in-Err-clause-stop : goal.returns-in-Err-clause-stop
returns-in-Err-clause-stop c =
    let read = edit_in c.args.design.nets (fields_of c.args.line.now) in
    line_refused c.args.file.now c.args.number c.args.design read (λ after o. LimitsMean after ⊥ o) c.stop_of-stop.result
    (read_stops c.args.file.now c.args.number c.args.design read c.in-Err.fault c.stop_of-stop.result c.in-Err.ensures.value c.stop_of-stop.ensures)

pub returns-in-Ok-clause-after : goal.returns-in-Ok-clause-after
returns-in-Ok-clause-after c =
    both_ok c.after_edit.result _ _ _ (λ s made allowed. record { edit = c.in-Ok.edit; said = c.in-Ok.ensures.value; allowed = allowed; made = made })
    c.after_edit.ensures.design c.after_edit.ensures.allowed

pub returns-in-Ok-clause-top : goal.returns-in-Ok-clause-top
returns-in-Ok-clause-top c = c.after_edit.ensures.top

pub returns-in-Ok-clause-stop : goal.returns-in-Ok-clause-stop
returns-in-Ok-clause-stop c =
    each_err c.after_edit.result _ _ (λ s h. line_stops c.args.file.now c.args.number c.args.design (edit_in c.args.design.nets (fields_of c.args.line.now)) c.in-Ok.edit (λ after o. LimitsMean after ⊥ o) s
    c.in-Ok.ensures.value h) c.after_edit.ensures.stop
