use Rattle.std.proofs.Common.{◌∙◌, arith}
use Rattle.std.proofs.lemmas.Int.{ints}
use Rattle.sink_windows.proofs.Windows.{behind_is, kept_mag, kept_time, kept_slew, kept_wire}
use Rattle.sink_windows.proofs.sink.behind.Goals as goal

pub returns : goal.returns
returns c =
    let f = c.requires in
    let q = c.args.window.now in
    let w0 = kept_wire c.args.wire.0 f.low (omega (arith, ints, f.ordered, f.high)) in
    let w1 = kept_wire c.args.wire.1 (omega (arith, ints, f.ordered, f.low)) f.high in
    behind_is q _ _ _ _ f
    (kept_mag _ c.slew_behind.type_inv ∙ (rw (kept_slew q.slo f.driver.slo, w0) at c.slew_behind.ensures))
    (kept_mag _ c.slew_behind-2.type_inv ∙ (rw (kept_slew q.shi f.driver.shi, w1) at c.slew_behind-2.ensures))
