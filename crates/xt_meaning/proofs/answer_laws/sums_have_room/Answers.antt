use Rattle.xt_meaning.proofs.Sums.{wires_have_room, caps_have_room, loads_have_room}
use Rattle.xt_meaning.proofs.answer_laws.sums_have_room.Goals as goal

pub returns : goal.returns
returns c = record {
  wires = λ d n net p ms s there has h. wires_have_room d n net p ms s there has h;
  caps = λ d n net ms s there h. caps_have_room d n net ms s there h;
  loads = λ d n net ms s there h. loads_have_room d n net ms s there h;
}
