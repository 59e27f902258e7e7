-- Rows that hold the couplings, and the sinks, of each net.
use Rattle.std.specs.Prelude.{◌≡◌, ℕ, ◌<◌, List, [], length, get_or}
use Rattle.xt_model.specs.declared.net.Coupling.{Coupling}
use Rattle.design_gen.specs.Couples.{Couple, couplings_of, Coupled}
use Rattle.xt_model.specs.declared.quad.Quad.{Quad}
use Rattle.drawn_numbers.specs.Draws.{drawn}
use Rattle.design_gen.specs.Lists.{each_below}
use Rattle.design_gen.specs.Taps.{sources, pins, driver_of, pins_on, place_of}
use Rattle.design_gen.specs.Generated.{window_by, couples_of}
use Rattle.design_gen.specs.Laws.{IsCount}

-- row n has the couplings of net n
pub record HoldCouplings (rows : List (List Coupling)) (cs : List Couple) : Type 0 where
  pub each : (n : ℕ) → n < length rows → get_or rows n [] ≡ couplings_of n cs

-- the source and the rows are those of c
pub record IsCoupledAt (nets now : ℕ) (rows : List (List Coupling)) (c : Coupled) : Type 0 where
  pub state : now ≡ c.state
  pub hold : HoldCouplings rows c.couples
  pub count : length rows ≡ nets

-- row n has the pins below `count` that are tied to net n
pub record HoldPins (rows : List (List ℕ)) (driver : ℕ → ℕ) (count : ℕ) : Type 0 where
  pub each : (n : ℕ) → n < length rows → get_or rows n [] ≡ pins_on driver n count

-- the number of a generated design, and its count of nets
pub record Seed : Type 0 where
  pub number : ℕ
  pub nets : ℕ

-- what is drawn for the sources and the input pins of a design: the windows of its sources, the driver of each pin,
-- the pins on each net and the place of each pin there
pub record AreSourcesAndPins (number nets : ℕ) (windows : List Quad) (drivers : List ℕ) (sinks : List (List ℕ))
    (places : List ℕ) : Type 0 where
  pub count : IsCount nets
  pub are_windows : windows ≡ each_below (λ n. window_by (drawn number n 2000)) (sources nets)
  pub are_drivers : drivers ≡ each_below (driver_of number nets) (pins nets)
  pub are_sinks : HoldPins sinks (driver_of number nets) (pins nets)
  pub sink_rows : length sinks ≡ nets
  pub are_places : places ≡ each_below (place_of (driver_of number nets)) (pins nets)

-- what is drawn for a design: that, and the couplings of each net
pub record AreDrawn (number nets : ℕ) (windows : List Quad) (drivers : List ℕ) (sinks : List (List ℕ))
    (places : List ℕ) (couplings : List (List Coupling)) : Type 0 where
  pub parts : AreSourcesAndPins number nets windows drivers sinks places
  pub are_couplings : HoldCouplings couplings (couples_of number nets)
  pub coupling_rows : length couplings ≡ nets
