-- Lists by place.
use Rattle.std.specs.Prelude.{ℕ, zero, suc, List, [], ◌∷◌, ◌++◌}

-- what f gives for each number below n, in order
abbrev pub each_below : {X : Type 0} → (ℕ → X) → ℕ → List X
each_below {X} f zero = []
each_below {X} f (suc n) = each_below f n ++ f n ∷ []
