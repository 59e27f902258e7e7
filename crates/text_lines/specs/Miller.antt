-- The line of the Miller numbers.
use Rattle.std.specs.Prelude.{if◌then◌else◌, List, [], ◌∷◌, codes}
use Rattle.std.specs.Fmt.{decimal}
use Rattle.xt_model.specs.Miller.{MillerNumbers, is_classical}
use Rattle.text_lines.specs.Lines.{Line}

-- the Miller numbers in quarters; the classical ones have no line
abbrev pub miller_lines : MillerNumbers → List Line
miller_lines m =
    if is_classical m then [] else (codes "miller" ∷ decimal m.low ∷ decimal m.mid ∷ decimal m.high ∷ []) ∷ []
