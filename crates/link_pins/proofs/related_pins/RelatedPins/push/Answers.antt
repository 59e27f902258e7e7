use Rattle.std.proofs.Common.{rules, ◌≡◌, ◌++◌, ◌∷◌, [], ◌∙◌, Some, sym, ap, subst}
use Rattle.std.specs.Prelude.{filter_map}
use Rattle.std.specs.List.{slice_get}
use Rattle.link_pins.specs.declared.related_pins.NumberedPin.{NumberedPin}
use Rattle.link_pins.specs.Timed.{TimedPins, timed_pin, with_timing}
use Rattle.link_pins.proofs.TimedLaws.{numbered_more}
use Rattle.link_pins.proofs.related_pins.RelatedPins.push.Goals as goal

pub returns-clause-items : goal.returns-clause-items
returns-clause-items c = λ t at.
    let s = c.self.inside in
    let ts = s.timings.now in
    let here : slice_get ts c.args.timing ≡ Some t = subst (λ (v : TimedPins). slice_get v.timings c.args.timing ≡ Some t) (sym c.self.view_is) at in
    let p : NumberedPin = record { timing = c.in-Ok.timing; pin = c.in-Ok-try_from.pin } in
    let number : c.in-Ok.timing ≡ c.args.timing = search rules in
    let place : c.in-Ok-try_from.pin ≡ c.args.pin = search rules in
    let P : TimedPins → Type 0 = λ v. filter_map (timed_pin ts) c.push.new.self.items ≡ v.items ++ with_timing t c.args.pin ∷ [] in
    subst P c.self.view_is (ap (filter_map (timed_pin ts)) c.in_ok-push.ensures.items ∙ numbered_more ts s.pins.items p t c.args.pin (ap (slice_get ts) number ∙ here) place)
