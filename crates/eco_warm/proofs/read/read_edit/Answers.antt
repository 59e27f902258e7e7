use Rattle.std.proofs.Common.{sym, subst, Result}
use Rattle.linked_text.specs.Fields.{fields_of}
use Rattle.eco_warm.specs.declared.edit.Edit.{Edit}
use Rattle.eco_warm.specs.declared.edit.EditFault.{EditFault}
use Rattle.eco_warm.specs.Reading.{Reads}
use Rattle.eco_warm.proofs.Named.{of_three, of_four, read_between}
use Rattle.eco_warm.proofs.read.read_edit.Goals as goal

pub returns-in-Some-clause-value : goal.returns-in-Some-clause-value
returns-in-Some-clause-value c =
    let P : Result Edit EditFault → Type 0 = λ r. Reads (λ e. e) c.shield_in.result r in
    subst P (sym (of_three c.args.design.now.nets (fields_of c.args.line.now) _ _ _ c.in-Some.ensures)) c.shield_in.ensures.value

pub returns-in-Some-clause-between : goal.returns-in-Some-clause-between
returns-in-Some-clause-between c = read_between c.args.design.now.nets c.shield_in.result (fields_of c.args.line.now) (returns-in-Some-clause-value c)

pub returns-in-Some-four-clause-value : goal.returns-in-Some-four-clause-value
returns-in-Some-four-clause-value c =
    let P : Result Edit EditFault → Type 0 = λ r. Reads (λ e. e) c.move_in.result r in
    subst P (sym (of_four c.args.design.now.nets (fields_of c.args.line.now) _ _ _ _ c.in-Some-four.ensures)) c.move_in.ensures.value

pub returns-in-Some-four-clause-between : goal.returns-in-Some-four-clause-between
returns-in-Some-four-clause-between c = read_between c.args.design.now.nets c.move_in.result (fields_of c.args.line.now) (returns-in-Some-four-clause-value c)
