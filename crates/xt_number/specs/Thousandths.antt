-- How thousandths are printed.
use Rattle.std.specs.Prelude.{ℕ, ◌/◌, ◌%◌, List, [], ◌∷◌, ◌++◌, ℤ, pos, negsuc, unsigned_abs}
use Rattle.std.specs.Fmt.{decimal}

-- the sign in front, which a number from 0 on has not
abbrev pub minus_of : ℤ → List ℕ
minus_of (pos n) = []
minus_of (negsuc n) = 45 ∷ []

-- three digits, for a number below a thousand
abbrev pub three_digits : ℕ → List ℕ
three_digits n = decimal (n / 100) ++ (decimal (n / 10 % 10) ++ decimal (n % 10))

-- so many thousandths as a decimal number with three digits behind the point
abbrev pub size_text : ℕ → List ℕ
size_text n = decimal (n / 1000) ++ (46 ∷ three_digits (n % 1000))

-- a count of thousandths as such a number, with its sign in front
unfoldable pub thousandths : ℤ → List ℕ
thousandths z = minus_of z ++ size_text (unsigned_abs z)
