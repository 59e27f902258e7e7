-- Names of the name map.
use Rattle.std.proofs.Common.{◌≡◌, ℕ, ◌++◌, ap}
use Rattle.std.specs.Prelude.{false, Option, Some, None, option_map}
use Rattle.std.proofs.lemmas.Option.{same_Some, none-some}
use Rattle.spef_read.specs.declared.marks.Marks.{Marks}
use Rattle.spef_read.specs.Words.{Text}
use Rattle.spef_read.specs.Names.{unescaped, sized, mapped}

-- what is meant where a number has this name
pub mapped_by : (m : Marks) (behind name : Text) (o : Option (ℕ × Text)) → option_map (λ e. e.1) o ≡ Some name
    → mapped m behind o ≡ sized (name ++ unescaped m false behind)
mapped_by m behind name None e = absurd (none-some name e)
mapped_by m behind name (Some entry) e = ap (λ n. sized (n ++ unescaped m false behind)) (same_Some entry.1 name e)
