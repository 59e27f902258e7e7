use Rattle.command_line.specs.Words.{bytes_of}
use Rattle.xtalk_edge.specs.Run.{IsCallOf, Outside}
use Rattle.xtalk_edge.proofs.Statuses.{other_status}
use Rattle.xtalk_edge.proofs.status.Goals as goal

pub returns-in-Some : goal.returns-in-Some
returns-in-Some g c =
    let e = c.xtalk.ensures in
    let before : Outside g.row.O.Denot g.row.E.Denot = record { content = g.D.Directory.content c.args.files.now.directory; faults = c.args.files.now.faults; out = c.args.out.now; err = c.args.err.now } in
    let after : Outside g.row.O.Denot g.row.E.Denot = record { content = g.D.Directory.content c.xtalk.new.files.directory; faults = c.xtalk.new.files.faults; out = c.xtalk.new.out; err = c.xtalk.new.err } in
    let call : IsCallOf (bytes_of c.deref.result.now) before after c.xtalk.result =
    record { printed = e.printed; failed = λ bad. let f = e.failed bad in (f.0, f.1, f.2, f.3, tt); kept = e.kept; refused = e.refused; complete = e.complete; only = e.only } in
    rw c.in-Some.is (other_status c.xtalk.result (λ n. let h = e.failed n in (h.0, h.1)), rw c.deref.ensures.value at call, e.content)
