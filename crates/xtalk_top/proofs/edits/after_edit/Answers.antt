use Rattle.eco_warm.specs.Edits.{first_of, second_of}
use Rattle.eco_warm.proofs.Renewing.{renews, still_there}
use Rattle.call_meaning.specs.Outcome.{LimitsMean}
use Rattle.call_meaning.proofs.EditSteps.{edit_fault, edit_passes, edit_refused, edit_stops}
use Rattle.xtalk_top.proofs.edits.after_edit.Goals as goal

pub stop_of-stop-requires : goal.stop_of-stop-requires
stop_of-stop-requires c = edit_fault c.args.design c.args.edit.now c.requires.between c.in-Err.fault c.in-Err.ensures.refusal

pub returns-in-Err-clause-stop : goal.returns-in-Err-clause-stop
returns-in-Err-clause-stop c =
    edit_refused c.args.file.now c.args.number c.args.design c.args.edit.now (λ after o. LimitsMean after ⊥ o) c.stop_of-stop.result
    (edit_stops c.args.file.now c.args.number c.args.design c.args.edit.now c.in-Err.fault c.stop_of-stop.result c.in-Err.ensures.refusal c.stop_of-stop.ensures)

pub envelope_renewed-requires-clause-first : goal.envelope_renewed-requires-clause-first
envelope_renewed-requires-clause-first c =
    still_there c.args.design c.design_after-after.result.design c.args.edit.now c.nets.result.0.0 (first_of c.args.edit.now) c.design_after-after.ensures.design c.nets.ensures.first c.requires.between.first

pub envelope_renewed-requires-clause-second : goal.envelope_renewed-requires-clause-second
envelope_renewed-requires-clause-second c =
    still_there c.args.design c.design_after-after.result.design c.args.edit.now c.nets.result.1.0 (second_of c.args.edit.now) c.design_after-after.ensures.design c.nets.ensures.second c.requires.between.second

pub envelope_renewed-requires-clause-old : goal.envelope_renewed-requires-clause-old
envelope_renewed-requires-clause-old c =
    renews c.args.design c.design_after-after.result.design c.args.edit.now c.nets.result.0.0 c.nets.result.1.0 c.args.top c.requires.sound c.requires.between c.design_after-after.ensures.design
    c.nets.ensures.first c.nets.ensures.second c.requires.top.envelope c.requires.top.accepted

pub returns-in-Err-envelope_renewed-clause-stop : goal.returns-in-Err-envelope_renewed-clause-stop
returns-in-Err-envelope_renewed-clause-stop c =
    edit_passes c.args.file.now c.args.number c.args.design c.args.edit.now c.design_after-after.result.design c.in-Err-envelope_renewed.stop c.in-Ok.ensures.allowed
    c.design_after-after.ensures.design c.in-Err-envelope_renewed.ensures.stop
