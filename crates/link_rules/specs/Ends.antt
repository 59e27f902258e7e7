-- What a net leads from and to: pins of instances, and ports.
use Rattle.std.specs.Prelude.{◌≡◌, ℕ, ◌+◌, ◌∷◌, ◌++◌, take, drop, Option, Some, None, IfSome}
use Rattle.std.specs.List.{slice_get}
use Rattle.name_numbers.specs.Names.{Text}

-- a pin of an instance, by the names of both, or a port by its name
pub data NetEnd : Type 0 where
  Pin : Text → Text → NetEnd
  Port : Text → NetEnd

-- the name of an end, with this byte between instance and pin
abbrev pub end_name : ℕ → NetEnd → Text
end_name joint (Pin instance pin) = instance ++ joint ∷ pin
end_name joint (Port name) = name

-- in a design `/` stands before the pin
abbrev pub sink_name : NetEnd → Text
sink_name end = end_name 47 end

-- the end of this name, in which the pin begins behind this place
abbrev pub end_by : Text → Option ℕ → NetEnd
end_by name None = Port name
end_by name (Some joint) = Pin (take joint name) (drop (joint + 1) name)

-- `/` stands at this place of the name
abbrev pub IsJoint : Text → Option ℕ → Type 0
IsJoint name joint = IfSome joint (λ j. slice_get name j ≡ Some 47)
