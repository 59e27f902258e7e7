-- How far a piece reaches. Each of these counts the bytes at the front of a list.
use Rattle.std.specs.Prelude.{ℕ, ◌+◌, Bool, ◌&&◌, List, [], ◌∷◌, Option, Some, None, ◌==◌, if◌then◌else◌}
use Rattle.xt_lex.specs.Bytes.{begins}

-- so many more, where there is a number
abbrev pub further : ℕ → Option ℕ → Option ℕ
further k (Some n) = Some (k + n)
further k None = None

-- up to and with the first byte `a`
abbrev pub past_byte : ℕ → List ℕ → Option ℕ
past_byte a [] = None
past_byte a (b ∷ more) = if b == a then Some 1 else further 1 (past_byte a more)

-- this byte is `a` and those behind it begin with `z`
abbrev pub is_pair : ℕ → ℕ → ℕ → List ℕ → Bool
is_pair a z b more = b == a && begins z more

-- up to and with the first `a` that has a `z` behind it, and that `z`
abbrev pub past_pair : ℕ → ℕ → List ℕ → Option ℕ
past_pair a z [] = None
past_pair a z (b ∷ more) = if is_pair a z b more then Some 2 else further 1 (past_pair a z more)
