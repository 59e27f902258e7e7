-- Thousandths printed by hand, computed by the definition.
use Rattle.std.specs.Prelude.{◌≡◌, refl, [], ◌∷◌, codes, pos, negsuc}
use Rattle.std.specs.Fmt.{digits}
use Rattle.xt_number.specs.Thousandths.{thousandths}

printed : (thousandths (pos 1234) ∷ thousandths (negsuc 499) ∷ thousandths (negsuc 0) ∷ thousandths (pos 0) ∷ []) ≡ (codes "1.234" ∷ codes "-0.500" ∷ codes "-0.001" ∷ codes "0.000" ∷ [])
unfolding thousandths digits
printed = refl
