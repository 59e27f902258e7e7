-- What a worker has done when it is done.
use Rattle.std.specs.Prelude.{◌≡◌, ℕ, ◌+◌, ◌*◌, ◌%◌, ◌<◌, ◌≤◌, nat_lt, List, [], ◌∷◌, slice_index}
use Rattle.std.specs.Prelude.{if◌then◌else◌}
use Rattle.std.specs.List.{Contains}
use Rattle.xt_meaning.specs.Barrier.{IsBoundNoFurther}
use Rattle.xt_meaning.specs.Words.{bounds_in, onward, AreNoFurther}
use Rattle.chaos_core.specs.Boards.{nets_of, Knowledge, counted}
use Rattle.chaos_core.specs.Tasks.{Task, idle, loading, publishing, done}

abbrev pub IsDone : Task → Type 0
IsDone idle = ⊥
IsDone (loading net numbers) = ⊥
IsDone (publishing net pair place) = ⊥
IsDone done = Unit {0}

-- how many of several numbers are below a bound
abbrev pub count_below : ℕ → List ℕ → ℕ
count_below bound [] = 0
count_below bound (n ∷ more) = (if nat_lt n bound then 1 else 0) + count_below bound more

-- what is seen in l at the first `most` words of a net is at or past what the operator makes of what is seen in k
abbrev pub HasPassed : Knowledge → Knowledge → ℕ → ℕ → Type 0
HasPassed k l net most = (i : ℕ) → i < most
    → IsBoundNoFurther k.setting.way (i % 2) (onward k.setting.design (bounds_in k.seen) (8 * net + i))
    (bounds_in l.seen (8 * net + i))

-- from k to l a worker evaluated the net at each place of the order that it drew, published it at least as far as the
-- operator makes it of what was seen in k, by eight publications, and then drew a number at or past the net count
pub record Ran (order : List ℕ) (k l : Knowledge) : Type 0 where
  pub setting : l.setting ≡ k.setting
  pub home : l.home ≡ k.home
  pub alone : l.alone ≡ k.alone
  pub onward : AreNoFurther k.setting.way (bounds_in k.seen) (bounds_in l.seen)
  pub last : (n : ℕ) × Contains l.drawn n × (nets_of k.setting ≤ n)
  pub passed : (n : ℕ) → Contains l.drawn n → n < nets_of k.setting → HasPassed k l (slice_index order n) 8
  pub made : l.made ≡ k.made + counted k.alone (8 * count_below (nets_of k.setting) l.drawn)
