-- The names of nets.
use Rattle.std.specs.Prelude.{ℕ, List, [], Option, Some, None}
use Rattle.std.specs.List.{slice_get}
use Rattle.xt_model.specs.declared.net.Net.{Net}
use Rattle.xt_model.specs.Parts.{Parts}

abbrev pub name_or_nothing : Option Net → List ℕ
name_or_nothing None = []
name_or_nothing (Some n) = n.name

-- the name of the net of this number
abbrev pub name_at : Parts → ℕ → List ℕ
name_at d n = name_or_nothing (slice_get d.nets n)
