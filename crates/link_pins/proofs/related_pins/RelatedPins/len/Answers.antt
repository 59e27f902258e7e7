use Rattle.std.proofs.Common.{◌≡◌, length, sym, subst, arith}
use Rattle.link_pins.specs.Timed.{TimedPins}
use Rattle.link_pins.proofs.TimedLaws.{numbered_length}
use Rattle.link_pins.proofs.related_pins.RelatedPins.len.Goals as goal

pub returns : goal.returns
returns c =
    let s = c.self.inside in
    let P : TimedPins → Type 0 = λ v. c.len.result ≡ length v.items in
    subst P c.self.view_is (omega (arith, c.len.ensures, numbered_length s.timings.now s.pins.items c.self.invariant))
