use Rattle.std.proofs.Common.{arith, ◌∙◌}
use Rattle.dirty_run.proofs.settling.settle_dirty.Goals as goal

pub settle_dirty_in-requires-clause-room : goal.settle_dirty_in-requires-clause-room
settle_dirty_in-requires-clause-room g c = λ _ _. c.in_ok-room.ensures.room

pub settle_dirty_in-requires-clause-some : goal.settle_dirty_in-requires-clause-some
settle_dirty_in-requires-clause-some g c = λ _ _. let count = c.in_ok-room.ensures.count in let some = c.requires.some in omega (arith, count, some)

pub settle_dirty_in-requires-clause-few : goal.settle_dirty_in-requires-clause-few
settle_dirty_in-requires-clause-few g c = λ _ _. let count = c.in_ok-room.ensures.count in let few = c.requires.few in omega (arith, count, few)

pub settle_dirty_in-requires-clause-own : goal.settle_dirty_in-requires-clause-own
settle_dirty_in-requires-clause-own g c = λ _ _. c.requires.own

pub settle_dirty_in-requires-clause-alone : goal.settle_dirty_in-requires-clause-alone
settle_dirty_in-requires-clause-alone g c = λ _ _. c.requires.alone

pub settle_dirty_in-requires-clause-free : goal.settle_dirty_in-requires-clause-free
settle_dirty_in-requires-clause-free g c = λ _ _. c.requires.free

pub settle_dirty_in-requires-clause-design : goal.settle_dirty_in-requires-clause-design
settle_dirty_in-requires-clause-design g c = λ _ _. c.requires.design

pub settle_dirty_in-requires-clause-direction : goal.settle_dirty_in-requires-clause-direction
settle_dirty_in-requires-clause-direction g c = λ _ _. c.requires.direction

pub settle_dirty_in-requires-clause-lists : goal.settle_dirty_in-requires-clause-lists
settle_dirty_in-requires-clause-lists g c = λ _ _. c.requires.lists

pub settle_dirty_in-requires-clause-readers : goal.settle_dirty_in-requires-clause-readers
settle_dirty_in-requires-clause-readers g c = λ _ _. c.requires.readers

pub returns-clause-own : goal.returns-clause-own
returns-clause-own g c = c.settle_dirty_in.ensures.own

pub returns-clause-alone : goal.returns-clause-alone
returns-clause-alone g c = c.settle_dirty_in.ensures.alone

pub returns-clause-free : goal.returns-clause-free
returns-clause-free g c = c.settle_dirty_in.ensures.free

pub returns-clause-clear : goal.returns-clause-clear
returns-clause-clear g c = c.settle_dirty_in.ensures.clear

pub returns-clause-extreme : goal.returns-clause-extreme
returns-clause-extreme g c = c.settle_dirty_in.ensures.extreme

pub returns-clause-seen : goal.returns-clause-seen
returns-clause-seen g c = c.settle_dirty_in.ensures.seen

pub returns-clause-few : goal.returns-clause-few
returns-clause-few g c = c.settle_dirty_in.ensures.few

pub returns-clause-made : goal.returns-clause-made
returns-clause-made g c = c.settle_dirty_in.ensures.made

pub returns-clause-turns : goal.returns-clause-turns
returns-clause-turns g c = c.settle_dirty_in.ensures.turns

pub returns-clause-consistent : goal.returns-clause-consistent
returns-clause-consistent g c = c.settle_dirty_in.ensures.consistent

pub returns-clause-split : goal.returns-clause-split
returns-clause-split g c = λ some. c.settle_dirty_in.ensures.split some ∙ c.in_ok-room.ensures.count
