-- Which bytes of a text may be a name.
use Rattle.std.specs.Prelude.{ℕ, ◌≤◌, Bool, not, ◌&&◌, ◌==◌, nat_le, List, length}
use Rattle.std.specs.Char.{is_ascii_graphic}
use Rattle.std.specs.List.{list_all}
use Rattle.xt_model.specs.Limits.{most_text_name}
use Rattle.xt_model.specs.Names.{IsName}

-- a name has 1 to 1,024 bytes, each a printable one other than a space
abbrev pub is_name : List ℕ → Bool
is_name name = not (length name == 0) && (nat_le (length name) most_text_name && list_all is_ascii_graphic name)

-- a name of at most 1,024 bytes, so that those of an instance and a pin make a name together
pub record IsShortName (bytes : List ℕ) : Type 0 where
  pub name : IsName bytes
  pub short : length bytes ≤ most_text_name
