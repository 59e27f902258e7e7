use Rattle.std.proofs.Common.{map}
use Rattle.xt_model.proofs.LevelLaws.{no_loop}
use Rattle.xt_model.proofs.LoopLaws.{first_is_loop}
use Rattle.linked_text.proofs.WholeLaws.{few_reads, sound_parts, means_loop}
use Rattle.linked_text.proofs.design.read.Goals as goal

pub end-requires : goal.end-requires
end-requires c = few_reads c.args.bytes.items c.in_ok-parts.parts c.in_ok-parts.behind.items c.in_ok-parts.ensures

pub from_parts-requires : goal.from_parts-requires
from_parts-requires c = record {
  sound =
      sound_parts c.args.bytes.items c.in_ok-parts.parts c.in_ok-parts.behind.items _ _ c.in_ok-parts.ensures
      (rw c.as_slice-last.ensures.value at c.in_ok-rest.ensures);
}

pub returns-in-Err-Loop : goal.returns-in-Err-Loop
returns-in-Err-Loop c =
    rw (c.refused-in-Err-Loop.ensures, c.as_slice-last.ensures.value) (means_loop c.args.bytes.items c.in_ok-parts.parts c.in_ok-parts.behind.items _ _
    c.in_ok-parts.ensures (rw c.as_slice-last.ensures.value at c.in_ok-rest.ensures)
    (λ levelled. no_loop c.in_ok-parts.parts.nets levelled.0 (map (λ n. n.0) c.in-Err-Loop.field-0-0) levelled.1
    (first_is_loop c.in_ok-parts.parts.nets (map (λ n. n.0) c.in-Err-Loop.field-0-0) (rw c.in-Err-Loop.field-0-is at c.in-Err-Loop.ensures.loops))))
