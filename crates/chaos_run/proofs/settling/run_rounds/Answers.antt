use Rattle.std.proofs.Common.{◌↔◌, refl, ◌+◌, sym, ap, subst, ◌∙◌, length, List, ℕ, arith}
use Rattle.std.specs.Prelude.{IsTrue}
use Rattle.std.proofs.lemmas.Bool.{both_ways}
use Rattle.xt_model.specs.declared.direction.Direction.{Direction}
use Rattle.xt_meaning.specs.Barrier.{IsFittingStart}
use Rattle.chaos_core.specs.Memories.{AreKept}
use Rattle.chaos_core.specs.Rounds.{AreClosed, AreTurns, HasCarried}
use Rattle.chaos_core.proofs.NoNets.{some_nets}
use Rattle.chaos_core.proofs.Settling.{closed_from, closed_extreme, run_nearer}
use Rattle.window_words.specs.declared.view.View.{View}
use Rattle.window_words.specs.Boards.{IsAlone}
use Rattle.chaos_run.proofs.Turned.{turn_carries, turn_made, turn_more, made_more, turns_few, turns_fewer, none_made}
use Rattle.chaos_run.proofs.settling.run_rounds.Goals as goal

pub prove-unreachable-requires : goal.prove-unreachable-requires
prove-unreachable-requires g c =
    let a = c.args.run.now.board.now.setting in
    let d = c.args.run.now.design.now in
    let inv = c.rounds.invariant in
    let few = turns_fewer a d c.rounds.rounds c.bound.result c.args.first.now.view.seen c.rounds.first.view.seen c.requires.run.design c.look-done.ensures.kept inv.steps
    (λ k. both_ways c.rounds.done c.rounds-test.true (inv.closed.1 k)) c.bound.ensures.value in
    omega (arith, few, c.if-prove.true)

pub look_again-done-requires-clause-fits : goal.look_again-done-requires-clause-fits
look_again-done-requires-clause-fits g c = λ _ _. subst (λ (x : Direction). IsFittingStart x c.args.run.now.design.now c.rounds.windows) (sym c.requires.run.way) c.rounds.invariant.fits

pub look_again-done-requires-clause-carried : goal.look_again-done-requires-clause-carried
look_again-done-requires-clause-carried g c = λ _ _ rest.
    let run = c.requires.run in
    let a = c.args.run.now.board.now.setting in
    let d = c.args.run.now.design.now in
    let inv = c.rounds.invariant in
    let order = run.whole.ordered.0 in
    let o = run.whole.ordered.1 in
    subst (λ (words : List ℕ). HasCarried a words c.round.new.first.view.seen) (sym inv.numbers) (turn_carries a d order c.rounds.first c.round.new.first inv.own.setting run.design o (c.round.ensures.ran order o) rest)

pub rounds-smaller : goal.rounds-smaller
rounds-smaller g c =
    let run = c.requires.run in
    let a = c.args.run.now.board.now.setting in
    let d = c.args.run.now.design.now in
    let way = c.args.run.now.direction in
    let inv = c.rounds.invariant in
    let words = c.rounds.first.view.seen in
    let open_words : AreClosed d words → ⊥ = λ k. both_ways c.rounds.done c.rounds-test.true (inv.closed.1 k) in
    let rest = c.look_again-done.ensures.rested (some_nets a d words run.design inv.kept open_words) in
    let order = run.whole.ordered.0 in
    let o = run.whole.ordered.1 in
    let carry = turn_carries a d order c.rounds.first c.round.new.first inv.own.setting run.design o (c.round.ensures.ran order o) rest in
    let after = subst (λ (x : Direction). IsFittingStart x d c.look_again-done.new.windows) run.way c.look_again-done.ensures.fits in
    run_nearer a d way c.rounds.windows c.look_again-done.new.windows words c.round.new.first.view.seen run.design run.way inv.fits after inv.numbers c.look_again-done.ensures.numbers carry
    (λ s. open_words (closed_from d words c.rounds.windows inv.fits.windows.in_range inv.numbers s))

pub rounds-preserved : goal.rounds-preserved
rounds-preserved g c =
    let run = c.requires.run in
    let a = c.args.run.now.board.now.setting in
    let d = c.args.run.now.design.now in
    let inv = c.rounds.invariant in
    let look = c.look_again-done.ensures in
    let begin = c.args.first.now.view in
    let words = c.rounds.first.view.seen in
    let later = c.round.new.first.view.seen in
    let open_words : AreClosed d words → ⊥ = λ k. both_ways c.rounds.done c.rounds-test.true (inv.closed.1 k) in
    let rest = look.rested (some_nets a d words run.design inv.kept open_words) in
    let order = run.whole.ordered.0 in
    let o = run.whole.ordered.1 in
    let ran = c.round.ensures.ran order o in
    let carry = turn_carries a d order c.rounds.first c.round.new.first inv.own.setting run.design o ran rest in
    let made = turn_made a d order c.rounds.first c.round.new.first inv.own.setting run.design o ran rest in
    let more = made_more begin.made c.rounds.first.view.made c.round.new.first.view.made (length d.nets) c.rounds.rounds inv.made made in
    let same = ap (λ (v : View). v.seen) look.view in
    let published = ap (λ (v : View). v.made) look.view in
    record {
      own = look.own;
      alone = subst IsAlone (sym look.view) c.round.ensures.alone;
      idle = c.round.ensures.idle;
      count = c.round.ensures.count ∙ inv.count;
      fits = subst (λ (x : Direction). IsFittingStart x d c.look_again-done.new.windows) run.way look.fits;
      numbers = look.numbers ∙ sym same;
      look = look.look;
      before = look.before ∙ inv.before;
      unmoved = look.unmoved ∙ inv.unmoved;
      kept = subst (AreKept a) (sym same) look.kept;
      closed = subst (λ (ws : List ℕ). IsTrue c.look_again-done.result ↔ AreClosed d ws) (sym same) look.closed;
      steps = subst (λ (ws : List ℕ). AreTurns a (c.rounds.rounds + 1) begin.seen ws) (sym same) (turn_more a d c.rounds.rounds begin.seen words later run.design inv.steps open_words carry);
      split = λ some. ap (λ (v : View). v.split) look.view ∙ (c.round.ensures.split ∙ inv.count);
      made = omega (arith, published, more);
    }

pub returns-clause-extreme : goal.returns-clause-extreme
returns-clause-extreme g c =
    let inv = c.rounds.invariant in
    closed_extreme c.args.run.now.direction c.args.run.now.design.now c.rounds.first.view.seen c.rounds.windows inv.fits inv.numbers (inv.closed.0 c.rounds-test.false)

pub returns-clause-closed : goal.returns-clause-closed
returns-clause-closed g c =
    let inv = c.rounds.invariant in
    none_made c.args.run.now.board.now.setting c.args.run.now.design.now c.rounds.rounds c.args.first.now.view.seen c.rounds.first.view.seen c.requires.run.design inv.steps (inv.closed.0 c.rounds-test.false)

pub returns-clause-few : goal.returns-clause-few
returns-clause-few g c = λ bound b.
    turns_few c.args.run.now.board.now.setting c.args.run.now.design.now c.rounds.rounds bound c.args.first.now.view.seen c.rounds.first.view.seen c.requires.run.design c.look-done.ensures.kept c.rounds.invariant.steps b

pub returns-clause-turns : goal.returns-clause-turns
returns-clause-turns g c = c.rounds.invariant.steps

pub overflow_cast-shares : goal.overflow_cast-shares
overflow_cast-shares g c = let same = ap length c.as_slice.ensures.value in let few = c.requires.few in omega (arith, same, few)

pub look-done-requires-clause-own : goal.look-done-requires-clause-own
look-done-requires-clause-own g c = λ _ _. c.requires.own

pub look-done-requires-clause-alone : goal.look-done-requires-clause-alone
look-done-requires-clause-alone g c = λ _ _. c.requires.alone

pub look-done-requires-clause-design : goal.look-done-requires-clause-design
look-done-requires-clause-design g c = λ _ _. c.requires.run.design

pub look-done-requires-clause-groups : goal.look-done-requires-clause-groups
look-done-requires-clause-groups g c = λ _ _. c.requires.groups

pub look-done-requires-clause-count : goal.look-done-requires-clause-count
look-done-requires-clause-count g c = λ _ _. c.requires.count

pub look-done-requires-clause-before : goal.look-done-requires-clause-before
look-done-requires-clause-before g c = λ _ _. c.requires.before

pub look-done-requires-clause-unmoved : goal.look-done-requires-clause-unmoved
look-done-requires-clause-unmoved g c = λ _ _. c.requires.unmoved

pub look-done-requires-clause-marks : goal.look-done-requires-clause-marks
look-done-requires-clause-marks g c = λ _ _. c.requires.marks

pub overflow_add-rounds : goal.overflow_add-rounds
overflow_add-rounds g c = let below = c.if-prove.false in let fits = c.bound.type_inv in omega (arith, below, fits)

pub round-requires-clause-groups : goal.round-requires-clause-groups
round-requires-clause-groups g c = λ _ _. c.requires.groups

pub round-requires-clause-run : goal.round-requires-clause-run
round-requires-clause-run g c = λ _ _. c.requires.run

pub round-requires-clause-own : goal.round-requires-clause-own
round-requires-clause-own g c = λ _ _. c.rounds.invariant.own

pub round-requires-clause-alone : goal.round-requires-clause-alone
round-requires-clause-alone g c = λ _ _. c.rounds.invariant.alone

pub round-requires-clause-look : goal.round-requires-clause-look
round-requires-clause-look g c = λ _ _. c.rounds.invariant.look

pub round-requires-clause-idle : goal.round-requires-clause-idle
round-requires-clause-idle g c = λ _ _. c.rounds.invariant.idle

pub round-requires-clause-some : goal.round-requires-clause-some
round-requires-clause-some g c = λ _ _. let same = c.rounds.invariant.count in let some = c.requires.some in omega (arith, same, some)

pub round-requires-clause-few : goal.round-requires-clause-few
round-requires-clause-few g c = λ _ _. let same = c.rounds.invariant.count in let few = c.requires.few in omega (arith, same, few)

pub look_again-done-requires-clause-own : goal.look_again-done-requires-clause-own
look_again-done-requires-clause-own g c = λ _ _. c.round.ensures.own

pub look_again-done-requires-clause-alone : goal.look_again-done-requires-clause-alone
look_again-done-requires-clause-alone g c = λ _ _. c.round.ensures.alone

pub look_again-done-requires-clause-design : goal.look_again-done-requires-clause-design
look_again-done-requires-clause-design g c = λ _ _. c.requires.run.design

pub look_again-done-requires-clause-groups : goal.look_again-done-requires-clause-groups
look_again-done-requires-clause-groups g c = λ _ _. c.requires.groups

pub look_again-done-requires-clause-before : goal.look_again-done-requires-clause-before
look_again-done-requires-clause-before g c = λ _ _. c.rounds.invariant.before

pub look_again-done-requires-clause-unmoved : goal.look_again-done-requires-clause-unmoved
look_again-done-requires-clause-unmoved g c = λ _ _. c.rounds.invariant.unmoved

pub look_again-done-requires-clause-marks : goal.look_again-done-requires-clause-marks
look_again-done-requires-clause-marks g c = λ _ _. c.rounds.invariant.look.count

pub rounds-init : goal.rounds-init
rounds-init g c =
    let a = c.args.run.now.board.now.setting in
    let d = c.args.run.now.design.now in
    let look = c.look-done.ensures in
    let begin = c.args.first.now.view in
    let same = ap (λ (v : View). v.seen) look.view in
    let published = ap (λ (v : View). v.made) look.view in
    record {
      own = look.own;
      alone = subst IsAlone (sym look.view) c.requires.alone;
      idle = c.requires.idle;
      count = refl;
      fits = subst (λ (x : Direction). IsFittingStart x d c.look-done.new.windows) c.requires.run.way look.fits;
      numbers = look.numbers ∙ sym same;
      look = look.look;
      before = c.requires.before;
      unmoved = look.unmoved ∙ c.requires.unmoved;
      kept = subst (AreKept a) (sym same) look.kept;
      closed = subst (λ (ws : List ℕ). IsTrue c.look-done.result ↔ AreClosed d ws) (sym same) look.closed;
      steps = same;
      split = λ some. absurd (omega (arith, some));
      made = omega (arith, published);
    }

pub returns-clause-own : goal.returns-clause-own
returns-clause-own g c = c.rounds.invariant.own

pub returns-clause-alone : goal.returns-clause-alone
returns-clause-alone g c = c.rounds.invariant.alone

pub returns-clause-fits : goal.returns-clause-fits
returns-clause-fits g c = c.rounds.invariant.fits

pub returns-clause-seen : goal.returns-clause-seen
returns-clause-seen g c = sym c.rounds.invariant.numbers

pub returns-clause-split : goal.returns-clause-split
returns-clause-split g c = c.rounds.invariant.split

pub returns-clause-made : goal.returns-clause-made
returns-clause-made g c = c.rounds.invariant.made
