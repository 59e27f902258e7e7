-- Files in memory that are found by name.
use Rattle.std.proofs.Common.{◌≡◌, ℕ, List, [], ◌∷◌, get_or, Some, string_bytes, sym, ap, ◌∙◌}
use Rattle.std.specs.Option.{option_map_or}
use Rattle.std.specs.Str.{bytes_eq}
use Rattle.std.proofs.lemmas.List.Quantifiers.{position-Some}
use Rattle.std.proofs.lemmas.Option.{slice_get-get_or}
use Rattle.std.proofs.lemmas.Slice.Eq.{bytes_eq-Decides}
use Rattle.xt_io.specs.Memory.{File, position_of, name_at}

-- the first file of a name has that name
pub name_at-first : (files : List File) (name : List ℕ) (i : ℕ) → Some i ≡ position_of files name
    → name_at files i ≡ name
name_at-first [] name i first = cc
name_at-first (f ∷ files) name i first =
    let found = position-Some (λ g. bytes_eq (string_bytes g.0) name) (f ∷ files) i f (sym first) in
    ap (λ o. option_map_or (λ g. string_bytes g.0) o []) (slice_get-get_or (f ∷ files) i f found.0)
    ∙ (bytes_eq-Decides (string_bytes (get_or (f ∷ files) i f).0) name).0 found.1

-- the first file of a name is the first of its own name
pub first-name_at : (files : List File) (name : List ℕ) (i : ℕ) → Some i ≡ position_of files name
    → position_of files (name_at files i) ≡ Some i
first-name_at files name i first =
    ap (λ n. position_of files n) (name_at-first files name i first) ∙ sym first
