use Rattle.std.proofs.Common.{◌<◌, subst, ◌∙◌, length, false, arith}
use Rattle.std.specs.Prelude.{Bool, IsTrue}
use Rattle.xt_model.specs.Assign.{assigned}
use Rattle.chaos_core.specs.Alike.{AreDecidedAlike}
use Rattle.chaos_run.proofs.Marked.{marked_there}
use Rattle.chaos_run.proofs.marks.mark_from_alike.Goals as goal

pub for_each_mut-requires-clause-accepts : goal.for_each_mut-requires-clause-accepts
for_each_mut-requires-clause-accepts g c = λ _ _ i p inside _.
    let r = c.requires in
    (r.sound, r.alike, r.before, r.after, r.count, let many = r.marks in omega (arith, inside, many))

pub for_each_mut-requires-clause-threads : goal.for_each_mut-requires-clause-threads
for_each_mut-requires-clause-threads g c = λ _ _. c.requires.some

pub returns : goal.returns
returns g c = record {
  count = c.for_each_mut.auto.s ∙ c.requires.marks;
  alike = λ net marked.
      let there = marked_there c.for_each_mut.new.s net marked in
      let below : net < length c.args.marks.now = let same = c.for_each_mut.auto.s in omega (arith, same, there) in
      let at = (c.for_each_mut.ensures net false below).1 in
      subst (λ (b : Bool). IsTrue b → AreDecidedAlike c.args.design.now (assigned c.args.before.now) (assigned c.args.after.now) net) at.left at.call marked;
}
