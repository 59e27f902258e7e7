use Rattle.std.proofs.Common.{refl}
use Rattle.net_eval.proofs.Nets.{input_pin}
use Rattle.net_eval.proofs.pin.Pin.move_to.Goals as goal

pub returns-then-is_input_of : goal.returns-then-is_input_of
returns-then-is_input_of g c = let same = c.if-is_input_of.ensures refl in input_pin _ _ _ c.requires.pin same.0 same.1

pub of-requires-clause-sink : goal.of-requires-clause-sink
of-requires-clause-sink g c = c.requires.ready.sound.sink

pub of-requires-clause-words : goal.of-requires-clause-words
of-requires-clause-words g c = c.requires.ready.words

pub returns : goal.returns
returns g c = input_pin _ _ _ c.of.ensures.pin c.of.ensures.net c.of.ensures.sink
