-- What a line of a text of edits says of a design.
use Rattle.std.specs.Prelude.{◌≡◌, ℕ, ◌==◌, Bool, false, ◌||◌, if◌then◌else◌, ℤ, pos, List, [], ◌∷◌, codes, position}
use Rattle.std.specs.Prelude.{Option, Some, None, Result, Ok, Err}
use Rattle.std.specs.List.{slice_get, list_any}
use Rattle.std.specs.Str.{bytes_eq}
use Rattle.xt_model.specs.declared.net.Net.{Net}
use Rattle.xt_model.specs.Results.{◌>>=◌}
use Rattle.text_lines.specs.Lines.{Line}
use Rattle.linked_text.specs.Fields.{between}
use Rattle.eco_warm.specs.declared.edit.Edit.{Edit}
use Rattle.eco_warm.specs.declared.edit.Edit.TheVariants.{Shield, Apart, Near}
use Rattle.eco_warm.specs.declared.edit.EditFault.{EditFault}
use Rattle.eco_warm.specs.declared.edit.EditFault.TheVariants.{E1, E2, E3, E4, Load, NoMemory}

-- ---- names and amounts

-- the number of the net of this name
abbrev pub net_named : List Net → List ℕ → Option ℕ
net_named nets name = position (λ n. bytes_eq n.name name) nets

-- the net has a coupling to the net number `to`
abbrev pub has_coupling : Option Net → ℕ → Bool
has_coupling None to = false
has_coupling (Some n) to = list_any (λ k. k.to.0 == to) n.couplings

-- one of the two has a coupling to the other
abbrev pub are_coupled : List Net → ℕ → ℕ → Bool
are_coupled nets a b = has_coupling (slice_get nets a) b || has_coupling (slice_get nets b) a

-- two nets that are there, with a coupling between them
abbrev pub coupled : List Net → Option ℕ → Option ℕ → Result (ℕ × ℕ) EditFault
coupled nets (Some a) (Some b) = if are_coupled nets a b then Ok (a, b) else Err E3
coupled nets o p = Err E3

-- the nets of these names
abbrev pub nets_in : List Net → List ℕ → List ℕ → Result (ℕ × ℕ) EditFault
nets_in nets a b = coupled nets (net_named nets a) (net_named nets b)

abbrev pub or_e2 : Option ℤ → Result ℤ EditFault
or_e2 None = Err E2
or_e2 (Some by) = Ok by

-- an amount in aF, from 1 to 2^40
abbrev pub amount_in : List ℕ → Result ℤ EditFault
amount_in f = or_e2 (between (pos 1) (pos 1099511627776) f)

-- ---- lines

abbrev pub shield_of : ℕ × ℕ → Edit
shield_of p = Shield (record { 0 = p.0 }) (record { 0 = p.1 })

abbrev pub apart_of : ℤ → ℕ × ℕ → Edit
apart_of by p = Apart (record { 0 = p.0 }) (record { 0 = p.1 }) by

abbrev pub near_of : ℤ → ℕ × ℕ → Edit
near_of by p = Near (record { 0 = p.0 }) (record { 0 = p.1 }) by

-- the words that have an amount: it is tested before the names
abbrev pub moved_in : (ℤ → ℕ × ℕ → Edit) → List Net → List ℕ → List ℕ → List ℕ → Result Edit EditFault
moved_in of nets a b by = amount_in by >>= λ d. nets_in nets a b >>= λ p. Ok (of d p)

-- `shield A B`
abbrev pub shield_in : List Net → List ℕ → List ℕ → List ℕ → Result Edit EditFault
shield_in nets word a b =
    if bytes_eq word (codes "shield") then nets_in nets a b >>= (λ p. Ok (shield_of p)) else Err E1

-- `apart A B D` or `near A B D`
abbrev pub move_in : List Net → List ℕ → List ℕ → List ℕ → List ℕ → Result Edit EditFault
move_in nets word a b by =
    if bytes_eq word (codes "apart") then moved_in apart_of nets a b by
    else (if bytes_eq word (codes "near") then moved_in near_of nets a b by else Err E1)

-- the fields of a line: the edit, or its first refusal
abbrev pub edit_in : List Net → Line → Result Edit EditFault
edit_in nets (word ∷ a ∷ b ∷ []) = shield_in nets word a b
edit_in nets (word ∷ a ∷ b ∷ by ∷ []) = move_in nets word a b by
edit_in nets fields = Err E1

-- ---- what a function returned against the definition

-- the value, seen by view, or its refusal
abbrev pub Reads : {X Y : Type 0} → (X → Y) → Result X EditFault → Result Y EditFault → Type 0
Reads view (Ok x) read = read ≡ Ok (view x)
Reads view (Err fault) read = read ≡ Err fault

-- a line is refused for its words, for its amount or for its names; or there was no memory
abbrev pub IsLineFault : EditFault → Type 0
IsLineFault E1 = Unit {0}
IsLineFault E2 = Unit {0}
IsLineFault E3 = Unit {0}
IsLineFault NoMemory = Unit {0}
IsLineFault E4 = ⊥
IsLineFault (Load net value) = ⊥
