-- Bytes that may be a name are one.
use Rattle.std.proofs.Common.{◌≡◌, ℕ, ◌<◌, ◌≤◌, List, [], ◌∷◌, length, arith}
use Rattle.std.proofs.lemmas.Bool.{and_parts}
use Rattle.std.proofs.lemmas.Bool.Decides.{nat_tests}
use Rattle.std.specs.Prelude.{true, not, ◌&&◌, nat_le, ◌==◌}
use Rattle.std.specs.Char.{is_ascii_graphic}
use Rattle.std.specs.List.{list_all}
use Rattle.xt_model.specs.Names.{IsName}
use Rattle.text_forms.specs.Names.{is_name, IsShortName}
use Rattle.text_forms.proofs.Bytes.{AreGraphic, name_is}

graphic : (bytes : List ℕ) → list_all is_ascii_graphic bytes ≡ true → AreGraphic bytes
graphic [] e = tt
graphic (b ∷ more) e = let parts = and_parts (is_ascii_graphic b) (list_all is_ascii_graphic more) e in (parts.0, graphic more parts.1)

pub short_name : (name : List ℕ) → is_name name ≡ true → IsShortName name
short_name name e =
    let first = and_parts (not (length name == 0)) (nat_le (length name) 1024 && list_all is_ascii_graphic name) e in
    let second = and_parts (nat_le (length name) 1024) (list_all is_ascii_graphic name) first.1 in
    let full = first.0 in
    let fits = second.0 in
    let some : 0 < length name = grind (arith, nat_tests, full) in
    let short : length name ≤ 1024 = grind (arith, nat_tests, fits) in
    record { name = name_is name some (omega (arith, short)) (graphic name second.1); short = short }

pub is_name_sound : (name : List ℕ) → is_name name ≡ true → IsName name
is_name_sound name e = (short_name name e).name
