use Rattle.std.proofs.Common.{◌≡◌, ◌⊎◌, ℕ, ap, subst, sym, ℤ, arith}
use Rattle.std.specs.Prelude.{slice_index, Option}
use Rattle.std.specs.List.{Contains}
use Rattle.net_eval.specs.ReadLists.{ids}
use Rattle.xt_model.specs.declared.edge.Edge.{Edge}
use Rattle.xt_model.specs.declared.quad.Pair.{Pair}
use Rattle.xt_model.specs.declared.quad.Quad.{Quad}
use Rattle.xt_model.specs.Assign.{assigned, quad_of_pair}
use Rattle.xt_model.specs.Quads.{quad_at}
use Rattle.xt_meaning.specs.Barrier.{IsNoFurther}
use Rattle.chaos_core.specs.TurnMarks.{AreTold, IsMetAlike, MeetAlike, Marks}
use Rattle.chaos_core.proofs.Telling.{met_from, told_all}
use Rattle.chaos_core.proofs.answers.tell.Goals as goal

pub pair-before-requires : goal.pair-before-requires
pair-before-requires c = let n = c.requires.windows.count in let h = c.requires.net in omega (arith, n, h)

pub move_of-moved-requires-clause-further : goal.move_of-moved-requires-clause-further
move_of-moved-requires-clause-further c = λ e.
    let at : assigned c.args.windows.now c.args.net.0 e ≡ quad_at c.pair-before.result e = ap (λ (o : Option Pair). quad_of_pair o e) c.pair-before.ensures.value in
    subst (λ (q : Quad). IsNoFurther c.args.direction q (quad_at c.args.pair.now e)) at (c.requires.further e)

pub returns-clause-told : goal.returns-clause-told
returns-clause-told c =
    let d = c.args.design.now in
    let first = c.tell_own.ensures in
    let second = c.tell_others.ensures in
    let turn = c.args.marks.now.turn in
    let later = c.tell_own.new.marks in
    let end = c.tell_others.new.marks in
    let net = c.args.net.0 in
    let pair = c.args.pair.now in
    let before = c.pair-before.result in
    let moved = c.move_of-moved.result in
    let W = assigned c.args.windows.now in
    let same : later.turn ≡ turn = ap (λ (m : Marks). m.turn) first.rest in
    let at : (e : Edge) → quad_at before e ≡ W net e = λ e. sym (ap (λ (o : Option Pair). quad_of_pair o e) c.pair-before.ensures.value) in
    let Alike : ℕ → Type 0 = λ m. MeetAlike moved.period moved.inner.now moved.outer.now W m in
    let alike : (m : ℕ) → Alike m → IsMetAlike d.period W net pair m = λ m h.
    met_from d.period W net before pair m at (subst (λ (p : Option ℤ). MeetAlike p before pair W m) c.period.ensures.value (c.move_of-moved.ensures.alike W m h)) in
    told_all d W net pair turn c.args.listed.now c.args.marks.now.answers later.answers end.answers c.of.result.now Alike alike c.requires.listed c.of.ensures first.each first.own
    (subst (λ t. AreTold t later.answers end.answers) same second.each)
    (subst (λ (t : ℕ). (j : ℕ) → Contains (ids c.of.result.now) j → Alike j ⊎ (slice_index end.answers j ≡ t)) same second.others)
