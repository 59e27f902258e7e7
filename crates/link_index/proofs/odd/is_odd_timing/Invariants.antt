use Rattle.std.proofs.Common.{◌≡◌, length}
use Rattle.std.specs.List.{list_any}
use Rattle.link_rules.specs.Pins.{pin_named}
use Rattle.link_rules.specs.Refusals.{is_no_input}
use Rattle.link_index.proofs.odd.is_odd_timing.Given as goal

abbrev pub invariant-related : goal.invariant-related
invariant-related l = list_any (λ related. is_no_input (pin_named l.cell related)) l.rest
    ≡ list_any (λ related. is_no_input (pin_named l.cell related)) l.timing.related

abbrev pub decreases-related : goal.decreases-related
decreases-related l = length l.rest
