-- What follows where a reader gave something.
use Rattle.std.proofs.Common.{◌≡◌, ℕ, ◌<◌, Bool, true, false, cond, ◌&&◌, Option, Some, None, refl}
use Rattle.xt_model.specs.Options.{◌>>=◌}

-- the value of the first of two steps that both gave something
pub first_step : {A B : Type 0} {o : Option A} {f : A → Option B} {y : B} → (o >>= f) ≡ Some y → (x : A) × (o ≡ Some x) × (f x ≡ Some y)
first_step {o = Some x} e = (x, refl, e)
first_step {o = None} e = absurd cc

-- a test that was passed
pub passed : {A : Type 0} (b : Bool) (x y : A) → cond b (Some x) None ≡ Some y → (b ≡ true) × (x ≡ y)
passed true x y e = (refl, cc)
passed false x y e = absurd cc

-- nothing was given, as whatever is given is refuted
pub is_none : {A : Type 0} (o : Option A) → ((x : A) → o ≡ Some x → ⊥) → o ≡ None
is_none None f = refl
is_none (Some x) f = absurd (f x refl)

pub both_true : (a b : Bool) → (a && b) ≡ true → (a ≡ true) × (b ≡ true)
both_true true true e = (refl, refl)
both_true true false e = absurd cc
both_true false b e = absurd cc

abbrev some : {A : Type 0} → A → Option A
some x = Some x

pub some_is : {A : Type 0} (x y : A) → some x ≡ some y → x ≡ y
some_is x y e = cc

-- a number that is another one is below what that one is below
pub also_below : (limit m n : ℕ) → m ≡ n → n < limit → m < limit
also_below limit m n e lt = rw e lt
