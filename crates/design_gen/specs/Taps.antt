-- Which net each input pin of a generated design is tied to. Driven nets follow the sources and have two input pins
-- each, so input pins are numbered net by net, pin A before pin B.
use Rattle.std.specs.Prelude.{ℕ, ◌+◌, ◌*◌, ◌-◌, ◌/◌, zero, suc, min, max, ◌==◌, if◌then◌else◌, List, [], ◌∷◌, ◌++◌}
use Rattle.std.specs.Prelude.{length}
use Rattle.drawn_numbers.specs.Draws.{drawn}

-- a tenth of the nets are sources, and at least one
abbrev pub sources : ℕ → ℕ
sources nets = max 1 (nets / 10)

-- how many input pins there are
abbrev pub pins : ℕ → ℕ
pins nets = 2 * (nets - sources nets)

-- the net that an input pin belongs to
abbrev pub net_of_pin : ℕ → ℕ → ℕ
net_of_pin nets pin = sources nets + pin / 2

-- the net that it is tied to: one of the thousand before its own; each source took one draw, and each earlier pin one
unfoldable pub driver_of : ℕ → ℕ → ℕ → ℕ
driver_of number nets pin =
    net_of_pin nets pin - 1 - drawn number (sources nets + pin) (min (net_of_pin nets pin) 1000)

-- the pins below a number that are tied to net n, where `driver` says to which each is
abbrev pub pins_on : (ℕ → ℕ) → ℕ → ℕ → List ℕ
pins_on driver n zero = []
pins_on driver n (suc pin) = if driver pin == n then pins_on driver n pin ++ pin ∷ [] else pins_on driver n pin

-- the place of a pin among the sinks of its driver
abbrev pub place_of : (ℕ → ℕ) → ℕ → ℕ
place_of driver pin = length (pins_on driver (driver pin) pin)
