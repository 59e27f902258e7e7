-- The parts that the code keeps, without where they lie in memory.
use Rattle.xt_number.specs.declared.numeral.Numeral.{Numeral as Split}
use Rattle.xt_number.specs.Numeral.{Numeral}

-- the parts as lists
abbrev pub view : Split → Numeral
view n = record {
  negative = n.negative;
  whole = n.whole.now;
  fraction = n.fraction.now;
  exponent_negative = n.exponent_negative;
  exponent = n.exponent.now;
}
