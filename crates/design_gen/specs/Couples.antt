-- Which nets of a generated design are coupled.
use Rattle.std.specs.Prelude.{ℕ, ◌+◌, zero, suc, Bool, ◌==◌, nat_lt, ◌&&◌, if◌then◌else◌}
use Rattle.std.specs.Prelude.{pos, List, [], ◌∷◌, ◌++◌, length}
use Rattle.xt_model.specs.declared.net.Coupling.{Coupling}
use Rattle.drawn_numbers.specs.Draws.{next, answer}

-- a capacitor between two nets, in aF
pub record Couple : Type 0 where
  pub first : ℕ
  pub second : ℕ
  pub cap : ℕ

abbrev pub coupling : ℕ → ℕ → Coupling
coupling to cap = record { to = record { 0 = to }; cap = pos cap }

-- the couplings that net n has of a capacitor
abbrev pub coupling_of : ℕ → Couple → List Coupling
coupling_of n c =
    if c.first == n then coupling c.second c.cap ∷ [] else if c.second == n then coupling c.first c.cap ∷ [] else []

-- and of all capacitors, in their order
abbrev pub couplings_of : ℕ → List Couple → List Coupling
couplings_of n [] = []
couplings_of n (c ∷ more) = coupling_of n c ++ couplings_of n more

-- a net has room for another coupling while it has less than 16
abbrev pub has_room : List Couple → ℕ → Bool
has_room cs n = nat_lt (length (couplings_of n cs)) 16

-- the state of the source of numbers, and the capacitors so far
pub record Coupled : Type 0 where
  pub state : ℕ
  pub couples : List Couple

-- a capacitor between nets i and a, where both have room for it
abbrev pub with_couple : List Couple → ℕ → ℕ → ℕ → List Couple
with_couple cs i a cap =
    if has_room cs i && has_room cs a then cs ++ record { first = i; second = a; cap = cap } ∷ [] else cs

-- net i is paired with net a, whose number was drawn: another net draws a capacitance of 200 to 999
abbrev pub paired : ℕ → ℕ → ℕ → List Couple → Coupled
paired i a x cs =
    if a == i then record { state = x; couples = cs }
    else record { state = next x; couples = with_couple cs i a (200 + answer (next x) 800) }

-- net i is paired with a drawn net
abbrev pub pair_net : ℕ → ℕ → Coupled → Coupled
pair_net nets i s = paired i (answer (next s.state) nets) (next s.state) s.couples

-- the nets below a number are paired, from this state of the source on
abbrev pub coupled : ℕ → ℕ → ℕ → Coupled
coupled nets x zero = record { state = x; couples = [] }
coupled nets x (suc i) = pair_net nets i (coupled nets x i)
