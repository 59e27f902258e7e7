use Rattle.std.proofs.Common.{◌≡◌, length, map}
use Rattle.std.specs.List.{list_all}
use Rattle.sdc_forms.specs.Arranged.{given_fits}
use Rattle.sdc_forms.specs.View.{given_text}
use Rattle.sdc_forms.proofs.arranged.all_given_fit.Given as goal

abbrev pub invariant-given : goal.invariant-given
invariant-given l = list_all given_fits (map given_text l.rest) ≡ list_all given_fits (map given_text l.given)

abbrev pub decreases-given : goal.decreases-given
decreases-given l = length l.rest
