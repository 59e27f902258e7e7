-- Names in the order in which they were first seen. A name is the list of its bytes.
use Rattle.std.specs.Prelude.{ℕ, Bool, List, [], ◌∷◌, ◌++◌, map, position, if◌then◌else◌}
use Rattle.std.specs.Prelude.{Option, Some, None}
use Rattle.std.specs.List.{list_any, position_or_len, slice_get}
use Rattle.std.specs.Str.{bytes_eq}
use Rattle.xt_model.specs.Options.{◌>>=◌}

abbrev pub Text : Type 0
Text = List ℕ

-- whether the name was seen
abbrev pub has_name : Text → List Text → Bool
has_name name names = list_any (bytes_eq name) names

-- the number of a name: where it stands, and for a new one how many names there are
abbrev pub number_of : Text → List Text → ℕ
number_of name names = position_or_len (bytes_eq name) names

-- the names once this one has been seen: a new one goes last
abbrev pub with_name : Text → List Text → List Text
with_name name names = if has_name name names then names else names ++ name ∷ []

module _ {V : Type 0} where
  -- the number and the value of a name: the first place where it stands, and what stands there
  abbrev pub found : Text → List (Text × V) → Option (ℕ × V)
  found name named = do
    i ← position (bytes_eq name) (map (λ e. e.0) named)
    e ← slice_get named i
    Some (i, e.1)

  -- the names with their values once this name has the value: a name that is there keeps its place, a new one goes last
  abbrev pub with_value : Text → V → List (Text × V) → List (Text × V)
  with_value name v [] = (name, v) ∷ []
  with_value name v (e ∷ more) = if bytes_eq name e.0 then (e.0, v) ∷ more else e ∷ with_value name v more

  -- the value of a name, where it has one
  abbrev pub value_of : Text → List (Text × V) → Option V
  value_of name [] = None
  value_of name (e ∷ more) = if bytes_eq name e.0 then Some e.1 else value_of name more
