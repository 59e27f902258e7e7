use Rattle.std.proofs.Common.{ℕ, ◌<◌, length, sym, subst, rules}
use Rattle.std.proofs.lemmas.Int.{to_z-of_z}
use Rattle.xt_model.specs.declared.net.NetId.{NetId}
use Rattle.xt_model.specs.Assign.{assigned}
use Rattle.xt_model.specs.Quads.{IsLive}
use Rattle.xt_model.specs.Sound.{HasSink}
use Rattle.slack_report.specs.Points.{data_number}
use Rattle.report_text.proofs.CheckLines.{data_has_sink, data_within, data_switches, worst_from}
use Rattle.report_text.proofs.worst.with_path.Goals as goal

pub worst_path-requires : goal.worst_path-requires
worst_path-requires c =
    let d = c.args.design.now in
    let p = c.point_of-point.result.now in
    let at = sym c.data_sink-at.ensures.net in
    record {
      net = subst (λ (n : NetId). n.0 < length d.nets) at (data_within d p c.point_of-point.ensures.sound);
      count = c.requires.count;
      within = c.requires.within;
      closed = c.requires.closed;
      live = subst (λ (n : NetId). IsLive (assigned c.args.windows.now n.0 c.args.slack.edge)) at
          (data_switches d (assigned c.args.windows.now) c.args.slack p c.requires.placed c.point_of-point.ensures.there c.requires.active);
    }

pub wire_to-wire-requires : goal.wire_to-wire-requires
wire_to-wire-requires c =
    let d = c.args.design.now in
    let p = c.point_of-point.result.now in
    let at = sym c.data_sink-at.ensures.net in
    record {
      count = c.requires.count;
      within = c.requires.within;
      sink = subst (λ (k : ℕ). HasSink d c.data_sink-at.result.net.0 k) (sym c.data_sink-at.ensures.sink)
          (subst (λ (n : NetId). HasSink d n.0 (data_number p)) at (data_has_sink d p c.point_of-point.ensures.sound));
      live = subst (λ (n : NetId). IsLive (assigned c.args.windows.now n.0 c.args.slack.edge)) at
          (data_switches d (assigned c.args.windows.now) c.args.slack p c.requires.placed c.point_of-point.ensures.there c.requires.active);
    }

pub returns : goal.returns
returns c =
    λ all i w. worst_from c.args.design.now (assigned c.args.windows.now) c.args.hold all i c.args.slack c.point_of-point.result.now c.data_sink-at.result.net c.data_sink-at.result.sink
    _ _ c.wire_to-wire.result c.point_of-point.ensures.there c.data_sink-at.ensures.net c.data_sink-at.ensures.sink c.in_ok-path.ensures.path c.wire_to-wire.ensures (search (rules, to_z-of_z)) w
