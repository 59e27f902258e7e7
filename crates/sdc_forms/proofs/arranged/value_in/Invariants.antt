use Rattle.std.proofs.Common.{◌≡◌, length, map}
use Rattle.sdc_forms.specs.Arranged.{value_of}
use Rattle.sdc_forms.specs.View.{given_text}
use Rattle.sdc_forms.proofs.arranged.value_in.Given as goal

abbrev pub invariant-given : goal.invariant-given
invariant-given l = value_of l.option (map given_text l.rest) ≡ value_of l.option (map given_text l.given)

abbrev pub decreases-given : goal.decreases-given
decreases-given l = length l.rest
