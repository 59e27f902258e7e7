-- The places that a list of them is.
use Rattle.std.specs.Prelude.{ℕ, List, [], ◌∷◌}
use Rattle.link_pins.specs.declared.place_list.Kept.{Kept}
use Rattle.link_pins.specs.declared.place_list.Kept.TheVariants as lists

-- none, one, or all of a list
abbrev pub kept_places : Kept → List ℕ
kept_places lists.None = []
kept_places (lists.One place) = place ∷ []
kept_places (lists.Many places) = places.value.items
