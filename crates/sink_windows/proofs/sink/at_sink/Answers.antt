use Rattle.std.proofs.Common.{◌≡◌, sym, subst, ◌∙◌}
use Rattle.xt_model.specs.declared.quad.Quad.{Quad}
use Rattle.xt_model.specs.Quads.{IsLive}
use Rattle.xt_model.specs.Assign.{assigned}
use Rattle.xt_meaning.specs.Operator.{Range}
use Rattle.net_eval.specs.Room.{FitsWire}
use Rattle.sink_windows.proofs.Victims.{victim_there, sink_net}
use Rattle.sink_windows.proofs.Windows.{victim_at, fits_at, fits_parts, limits_at, none_at, some_at, same_stored}
use Rattle.sink_windows.proofs.sink.at_sink.Goals as goal

pub new-victim-requires-clause-words : goal.new-victim-requires-clause-words
new-victim-requires-clause-words c =
    let d = c.args.design.now in
    victim_there d c.args.windows.now c.args.net.0 c.args.edge c.requires.count c.nets.ensures.sound (sink_net d c.args.net.0 c.args.sink c.requires.sink)

pub returns-then-not-live-clause-value : goal.returns-then-not-live-clause-value
returns-then-not-live-clause-value c =
    let d = c.args.design.now in
    let v = c.args.windows.now in
    none_at d (assigned v) c.args.net.0 c.args.edge c.args.sink c.new-victim.result c.window-window.result (victim_at d v c.args.net.0 c.args.edge c.args.sink c.new-victim.result c.requires.sink c.new-victim.ensures)
    (sym c.live.ensures ∙ c.if-not-live.true) c.window-window.ensures.value

pub wire-wire-requires-clause-fits : goal.wire-wire-requires-clause-fits
wire-wire-requires-clause-fits c =
    let d = c.args.design.now in
    let v = c.args.windows.now in
    fits_at d v c.args.net.0 c.args.edge c.args.sink c.new-victim.result c.nets.ensures.sound c.requires.within (victim_at d v c.args.net.0 c.args.edge c.args.sink c.new-victim.result c.requires.sink c.new-victim.ensures)
    (subst IsLive c.window-window.ensures.value (sym c.live.ensures ∙ c.if-not-live.false))

pub behind-requires : goal.behind-requires
behind-requires c =
    let d = c.args.design.now in
    let v = c.args.windows.now in
    fits_parts d v c.args.net.0 c.args.edge c.args.sink c.new-victim.result c.window-window.result (record { least = c.wire-wire.result.0; most = c.wire-wire.result.1 }) c.nets.ensures.sound c.requires.within
    (victim_at d v c.args.net.0 c.args.edge c.args.sink c.new-victim.result c.requires.sink c.new-victim.ensures) (sym c.live.ensures ∙ c.if-not-live.false) c.window-window.ensures.value c.wire-wire.ensures

pub returns-clause-value : goal.returns-clause-value
returns-clause-value c =
    let d = c.args.design.now in
    let v = c.args.windows.now in
    let w : Range = record { least = c.wire-wire.result.0; most = c.wire-wire.result.1 } in
    let h = victim_at d v c.args.net.0 c.args.edge c.args.sink c.new-victim.result c.requires.sink c.new-victim.ensures in
    let live : IsLive c.window-window.result = sym c.live.ensures ∙ c.if-not-live.false in
    let fits = fits_parts d v c.args.net.0 c.args.edge c.args.sink c.new-victim.result c.window-window.result w c.nets.ensures.sound c.requires.within h live c.window-window.ensures.value c.wire-wire.ensures in
    some_at d (assigned v) c.args.net.0 c.args.edge c.args.sink c.new-victim.result c.window-window.result w _ h live c.window-window.ensures.value c.wire-wire.ensures
    (same_stored c.window-window.result c.behind.result c.wire-wire.result.0 c.wire-wire.result.1 c.behind.ensures fits)

pub returns-clause-limits : goal.returns-clause-limits
returns-clause-limits c =
    let d = c.args.design.now in
    let v = c.args.windows.now in
    let w : Range = record { least = c.wire-wire.result.0; most = c.wire-wire.result.1 } in
    let h = victim_at d v c.args.net.0 c.args.edge c.args.sink c.new-victim.result c.requires.sink c.new-victim.ensures in
    limits_at d v c.args.net.0 c.args.edge c.args.sink c.new-victim.result c.window-window.result c.behind.result w c.nets.ensures.sound c.requires.within h
    (sym c.live.ensures ∙ c.if-not-live.false) c.window-window.ensures.value c.wire-wire.ensures c.behind.ensures
