-- Names of nets, sinks and checks.
use Rattle.std.specs.Prelude.{ℕ, ◌<◌, ◌≤◌, List, length}
use Rattle.std.specs.List.{All}
use Rattle.xt_model.specs.Limits.{most_name}

-- 1 to 2,049 bytes, each a printable one other than a space
pub record IsName (bytes : List ℕ) : Type 0 where
  pub some : 0 < length bytes
  pub short : length bytes ≤ most_name
  pub printable : All (λ b. (33 ≤ b) × (b ≤ 126)) bytes
