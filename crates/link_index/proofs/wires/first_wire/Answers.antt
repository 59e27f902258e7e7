use Rattle.std.proofs.Common.{sym, ◌∙◌, ap}
use Rattle.std.specs.Str.{bytes_eq}
use Rattle.link_index.proofs.FirstLaws.{value_past}
use Rattle.link_index.proofs.wires.first_wire.Goals as goal

pub pins-preserved : goal.pins-preserved
pins-preserved c =
    value_past c.args.name.now c.pins.rest.now _ c.pin-item.result _ c.in-len1-up.len_at_least c.pin-item.is
    (ap (bytes_eq c.args.name.now) (sym c.bytes.ensures) ∙ (sym c.eq.ensures ∙ c.if-eq.false)) c.pins.invariant
