use Rattle.std.proofs.Common.{◌≡◌, length, map}
use Rattle.sdc_forms.specs.Arranged.{is_given}
use Rattle.sdc_forms.specs.View.{given_text}
use Rattle.sdc_forms.proofs.arranged.is_given.Given as goal

abbrev pub invariant-given : goal.invariant-given
invariant-given l = is_given l.option (map given_text l.rest) ≡ is_given l.option (map given_text l.given)

abbrev pub decreases-given : goal.decreases-given
decreases-given l = length l.rest
