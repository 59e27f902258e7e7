-- The first limit that is passed.
use Rattle.std.specs.Prelude.{◌≡◌, ℕ, ℤ, ◌+ℤ◌, List, [], ◌∷◌, ◌++◌, map, Option, Some, None, Result, Ok, Err}
use Rattle.xt_model.specs.declared.quad.Quad.{Quad}
use Rattle.xt_model.specs.declared.quad.Pair.{Pair}
use Rattle.xt_model.specs.declared.net.Net.{Net}
use Rattle.xt_model.specs.Miller.{MillerNumbers}
use Rattle.xt_model.specs.Parts.{Parts}
use Rattle.xt_model.specs.Levels.{IsOrder}
use Rattle.xt_meaning.specs.Wires.{slew_growth}
use Rattle.xt_meaning.specs.Envelope.{IsWidest, Test, TimeAt, SlewAt, quad_tests, first_passed}
use Rattle.miller_bits.specs.Victims.{VictimEdge}
use Rattle.envelope.specs.declared.fault.What.{What}
use Rattle.envelope.specs.declared.fault.What.TheVariants.{Time, Slew}
use Rattle.envelope.specs.declared.fault.Excess.{Excess}
use Rattle.envelope.specs.declared.fault.EnvelopeFault.{EnvelopeFault}
use Rattle.envelope.specs.declared.fault.EnvelopeFault.TheVariants.{Limit, NoMemory}

-- the quantity of net number n that has a limit
abbrev pub test_of : ℕ → What → ℤ → Test
test_of n Time value = TimeAt n value
test_of n Slew value = SlewAt n value

abbrev pub excess_test : Excess → Test
excess_test x = test_of x.net.0 x.what x.value

-- the quantity that a result names as past its limit, if it names one
abbrev pub passed_test : Result (Unit {0}) Excess → Option Test
passed_test (Ok u) = None
passed_test (Err x) = Some (excess_test x)

-- what has a limit in a live window at the driver of net number n
abbrev pub driver_tests : ℕ → Quad → List Test
driver_tests n q = TimeAt n q.tlo ∷ TimeAt n q.thi ∷ SlewAt n q.shi ∷ []

-- what has a limit in a live window of net number n behind a wire of this delay in fs: the latest arrival, and the
-- greatest slew
abbrev pub wire_tests : ℕ → Quad → ℤ → List Test
wire_tests n q wire = TimeAt n (q.thi +ℤ wire) ∷ SlewAt n (q.shi +ℤ slew_growth wire) ∷ []

-- what has a limit in the windows of net number n, where there is such a net
abbrev pub pair_tests : MillerNumbers → ℕ → Option Net → Pair → List Test
pair_tests m n None p = []
pair_tests m n (Some net) p = quad_tests m n net p.rise ++ quad_tests m n net p.fall

-- this quantity of net number n is the first that passes its limit, with the nets in order of level, in the
-- windows that the operator gives back where everything overlaps
pub record IsFirstPassed (d : Parts) (n : ℕ) (what : What) (value : ℤ) : Type 0 where
  pub top : List Pair
  pub order : List ℕ
  pub widest : IsWidest d top
  pub ordered : IsOrder d.nets order
  pub first : first_passed d top order ≡ Some (test_of n what value)

-- the fault is true of the design; want of memory is always free
abbrev pub IsFaultOfEnvelope : Parts → EnvelopeFault → Type 0
IsFaultOfEnvelope d (Limit net what value) = IsFirstPassed d net.0 what value
IsFaultOfEnvelope d NoMemory = Unit {0}

-- every coupling of a net counts by the highest factor at most
abbrev pub AreHighest : VictimEdge → Type 0
AreHighest v = v.greatest ≡ map (λ k. v.miller.high) v.net.couplings
