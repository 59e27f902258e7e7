-- Both windows are live, and the answer is that of their active ranges.
use Rattle.std.proofs.Common.{◌∙◌}
use Rattle.miller_bits.proofs.Actives.{live_ranges}
use Rattle.miller_bits.proofs.active.Active.overlaps.Goals.{then-self, else-self}
use Rattle.miller_bits.proofs.active.Active.overlaps.Goals as goal

pub returns-then-live : goal.returns-then-live
returns-then-live c = elim c.if-self.branch [
  | then-self w ↦
      live_ranges c.args.self.now c.args.other.now c.args.period _ _ _ _ c.requires.active c.requires.second c.active_from.ensures c.active_to.ensures
      w.if-self.true c.if-live.true (w.value-is ∙ w.live.ensures) c.ranges_meet.ensures
  | else-self w ↦ absurd (let e = w.if-self.false in let f = w.value-is in let h = c.if-live.true in cc)
]
