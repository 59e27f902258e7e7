use Rattle.std.proofs.Common.{◌≡◌, ◌-◌, [], ◌∷◌, suc, arith}
use Rattle.linked_text.specs.Meaning.{heads_at}
use Rattle.linked_text.proofs.Loop.{goes_on, heads_next}
use Rattle.linked_text.proofs.heads.heads.Goals as goal

pub loop-left-preserved : goal.loop-left-preserved
loop-left-preserved c =
    let more : c.loop-left.left ≡ suc (c.loop-left.left - 1) = omega (arith, c.loop-left-test.true) in record {
      read =
          rw c.in_ok-push.ensures.items (goes_on c.loop-left.heads.items (c.in_ok-head.head ∷ [])
          (heads_at c.loop-left.left c.loop-left.names c.loop-left.sums c.loop-left.rest.now) _ _
          (heads_next c.loop-left.left _ c.loop-left.names _ c.loop-left.sums _ c.loop-left.rest.now _ _ more
          c.in_ok-head.ensures.value c.in_ok-head.ensures.entered c.in_ok-head.ensures.sums) c.loop-left.invariant.read);
      few = c.in_ok-head.ensures.few;
    }
