use Rattle.dirty_run.proofs.visit.evaluate_loaded.Goals as goal

pub returns-clause-notes : goal.returns-clause-notes
returns-clause-notes g c = c.note.ensures c.args.run.now.design.now c.args.run.now.lists.now c.requires.notes c.requires.loaded c.evaluate_recalled-pair.ensures.value
