use Rattle.std.proofs.Common.{sym, subst}
use Rattle.std.proofs.lemmas.List.Elements.{All-set}
use Rattle.dirty_run.specs.declared.notes.Notes.{Notes}
use Rattle.dirty_run.specs.Notes.{AreNotes}
use Rattle.dirty_run.proofs.Noting.{none_noted}
use Rattle.dirty_run.proofs.notes.Before.take.Goals as goal

pub returns-clause-notes : goal.returns-clause-notes
returns-clause-notes c = λ d lists own all.
    let P : Notes → Type 0 = AreNotes d lists in
    let taken : P c.swap.new.x = subst P (sym c.swap.ensures.x_after) own in
    (none_noted d lists c.clear.new.self c.clear.ensures, All-set P c.args.self.now.notes.items c.args.worker c.swap.new.x taken all)
