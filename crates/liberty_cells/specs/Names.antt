-- The names of a group or in a string, of which there is one at least.
use Rattle.std.specs.Prelude.{ℕ, List, [], ◌∷◌, Ok, if◌then◌else◌}
use Rattle.std.specs.List.{list_all}
use Rattle.name_numbers.specs.Names.{Text}
use Rattle.xt_model.specs.declared.code.Code.TheVariants.{L1}
use Rattle.text_forms.specs.Refusals.{Meant, refuse}
use Rattle.text_forms.specs.Names.{is_name}

-- some names, or a refusal at this line
abbrev pub some_names : ℕ → List Text → Meant (List Text)
some_names line [] = refuse line L1
some_names line (name ∷ names) = if list_all is_name (name ∷ names) then Ok (name ∷ names) else refuse line L1
