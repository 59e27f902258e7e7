use Rattle.std.proofs.Common.{◌≡◌, sym, ap, subst, ◌∙◌, arith, refl, length}
use Rattle.std.proofs.lemmas.List.{length-take-le, take_all}
use Rattle.chaos_core.specs.Boards.{nets_of}
use Rattle.dirty_words.specs.declared.view.DirtyView.{DirtyView}
use Rattle.dirty_words.specs.Boards.{DirtyId, IsAlone}
use Rattle.dirty_words.specs.Steps.{Saw}
use Rattle.dirty_words.specs.Views.{Run}
use Rattle.dirty_words.proofs.Holding.{saw_next, saw_rested}
use Rattle.dirty_words.proofs.board.DirtyBoard.load_words.Goals as goal

pub loop-word-preserved : goal.loop-word-preserved
loop-word-preserved c =
    let word = c.loop-word.word in
    let inv = c.loop-word.invariant in
    let first : DirtyView = c.args.first.now.view in
    let after : DirtyView = c.word.new.first.view in
    let step : Saw first word c.word.result after = subst (λ (v : DirtyView). Saw v word c.word.result after) inv.view c.word.ensures.saw in
    let count : c.self.inside.nets ≡ nets_of first.base.setting = c.self.invariant.1 ∙ (ap (λ (b : DirtyId). nets_of b.run.setting) c.self.view_is ∙ sym (ap (λ (r : Run). nets_of r.setting) c.requires.own.run)) in
    let below = c.loop-word-test.true in
    let many = c.respects.ensures.count in
    let room = inv.room in
    let kept = c.push_reserved.ensures.capacity in
    record {
      own = c.word.ensures.own;
      view = step.same;
      room = omega (arith, room, kept);
      rested = λ some. saw_rested first after word c.word.result c.respects.ensures step;
      words = c.push_reserved.ensures.items ∙ saw_next first after word c.word.result c.loop-word.words.items step (omega (arith, below, count, many)) inv.words;
    }

pub returns-clause-words : goal.returns-clause-words
returns-clause-words c =
    let first : DirtyView = c.args.first.now.view in
    let count : c.self.inside.nets ≡ nets_of first.base.setting = c.self.invariant.1 ∙ (ap (λ (b : DirtyId). nets_of b.run.setting) c.self.view_is ∙ sym (ap (λ (r : Run). nets_of r.setting) c.requires.own.run)) in
    let past = c.loop-word-test.false in
    let many = c.respects.ensures.count in
    c.loop-word.invariant.words ∙ take_all c.loop-word.word first.base.seen (omega (arith, past, count, many))

pub returns-clause-rested : goal.returns-clause-rested
returns-clause-rested c = λ some.
    let first : DirtyView = c.args.first.now.view in
    let count : c.self.inside.nets ≡ nets_of first.base.setting = c.self.invariant.1 ∙ (ap (λ (b : DirtyId). nets_of b.run.setting) c.self.view_is ∙ sym (ap (λ (r : Run). nets_of r.setting) c.requires.own.run)) in
    let past = c.loop-word-test.false in
    c.loop-word.invariant.rested (omega (arith, past, count, some))

pub loop-word-init : goal.loop-word-init
loop-word-init c =
    let same = c.clear.ensures.capacity in
    let room = c.requires.room in
    record {
      own = c.requires.own;
      view = refl;
      room = omega (arith, same, room);
      rested = λ h. absurd (omega (arith, h));
      words = c.clear.ensures.items;
    }

pub push_reserved-requires : goal.push_reserved-requires
push_reserved-requires c =
    let first : DirtyView = c.args.first.now.view in
    let count : c.self.inside.nets ≡ nets_of first.base.setting = c.self.invariant.1 ∙ (ap (λ (b : DirtyId). nets_of b.run.setting) c.self.view_is ∙ sym (ap (λ (r : Run). nets_of r.setting) c.requires.own.run)) in
    let below = c.loop-word-test.true in
    let many = c.respects.ensures.count in
    let room = c.loop-word.invariant.room in
    let ok = c.loop-word.words.ok.0 in
    let long = ap length c.loop-word.invariant.words ∙ length-take-le c.loop-word.word first.base.seen (omega (arith, below, count, many)) in
    omega (arith, long, ok, below, count, room)

pub word-requires-clause-own : goal.word-requires-clause-own
word-requires-clause-own c = c.loop-word.invariant.own

pub word-requires-clause-alone : goal.word-requires-clause-alone
word-requires-clause-alone c = subst IsAlone (sym c.loop-word.invariant.view) c.requires.alone

pub word-requires-clause-word : goal.word-requires-clause-word
word-requires-clause-word c =
    let first : DirtyView = c.args.first.now.view in
    let count : c.self.inside.nets ≡ nets_of first.base.setting = c.self.invariant.1 ∙ (ap (λ (b : DirtyId). nets_of b.run.setting) c.self.view_is ∙ sym (ap (λ (r : Run). nets_of r.setting) c.requires.own.run)) in
    let below = c.loop-word-test.true in
    let same = ap (λ (v : DirtyView). nets_of v.base.setting) c.loop-word.invariant.view in
    omega (arith, below, count, same)

pub returns-clause-own : goal.returns-clause-own
returns-clause-own c = c.loop-word.invariant.own

pub returns-clause-view : goal.returns-clause-view
returns-clause-view c = c.loop-word.invariant.view
