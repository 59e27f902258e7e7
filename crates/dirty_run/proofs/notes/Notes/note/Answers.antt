use Rattle.std.proofs.Common.{◌≡◌, rules, length}
use Rattle.dirty_run.specs.declared.notes.Note.{Note}
use Rattle.dirty_run.specs.declared.notes.Notes.{Notes}
use Rattle.dirty_run.proofs.Noting.{notes_more}
use Rattle.dirty_run.proofs.notes.Notes.note.Goals as goal

pub returns : goal.returns
returns c = λ d lists notes whole value.
    let v = c.args.self.now in
    let e : Note = record { net = c.args.net; from = c.len-from.result; pair = c.args.pair.now } in
    let w : Notes = record { numbers = c.extend_from_slice.new.self; entries = c.push_reserved.new.self } in
    let from : c.len-from.result ≡ length v.numbers.items = search rules in
    notes_more d lists v w e c.args.loaded.now c.in-Ok.ensures.items c.push_reserved.ensures.items from whole value c.requires.range notes
