use Rattle.std.proofs.Common.{◌≡◌, suc, refl, subst, ◌∙◌, ap, length, arith}
use Rattle.chaos_core.specs.declared.setting.Setting.{Setting}
use Rattle.chaos_core.specs.Memories.{Memory, knowledge_of, IsKept}
use Rattle.chaos_core.specs.Machine.{state_of}
use Rattle.chaos_core.specs.Rounds.{IsPick, begun, play_at}
use Rattle.chaos_core.proofs.Workers.{idle_fits, idle_few, idle_play, pick_nearer}
use Rattle.chaos_core.proofs.round.round.Goals as goal

pub picks-init : goal.picks-init
picks-init c =
    let b = c.restart.new.self in
    let ws = c.reset_all.new.workers in
    let n = length c.args.workers.now in
    let source = c.args.source.now.state in
    let idles = c.reset_all.ensures.idle in
    let next : b.next ≡ 0 = ap (λ (m : Memory). m.next) c.restart.ensures.anew in
    let play : play_at source b ws ≡ record { source = source; state = begun n c.args.board.now.words } =
    subst (λ xs. play_at source b ws ≡ record { source = source; state = begun n xs }) (ap (λ (m : Memory). m.words) c.restart.ensures.anew) (idle_play ws n idles source b next) in
    record {
      count = c.reset_all.auto.workers;
      setting = ap (λ (m : Memory). m.setting) c.restart.ensures.anew;
      path = λ order o. (0, play);
      fits = idle_fits ws n idles (knowledge_of b) c.args.lists.now (c.reset_all.ensures.rooms c.args.lists.now c.requires.rooms);
      late = idle_few ws n idles (knowledge_of b) (omega (arith, next, c.requires.few));
    }

pub picks-smaller : goal.picks-smaller
picks-smaller c =
    let a = c.args.board.now.setting in
    let order = c.requires.lists.ordered.0 in
    let o = c.requires.lists.ordered.1 in
    let inv = c.picks.invariant in
    let path = inv.path order o in
    let p = play_at c.picks.source.state c.picks.board c.picks.workers in
    let q = play_at c.pick.new.source.state c.pick.new.board c.pick.new.workers in
    let kept = (subst IsKept c.restart.ensures.anew c.restart.ensures.kept).words in
    let pick : IsPick a c.args.lists.now order p q = subst (λ (x : Setting). IsPick x c.args.lists.now order p q) inv.setting (c.pick.ensures.pick order o) in
    pick_nearer a c.args.design.now c.args.lists.now order c.args.board.now.words (length c.args.workers.now) c.args.source.now.state p c.requires.design c.requires.lists o kept path.0 path.1 q pick

pub picks-preserved : goal.picks-preserved
picks-preserved c =
    let a = c.args.board.now.setting in
    let inv = c.picks.invariant in
    let p = play_at c.picks.source.state c.picks.board c.picks.workers in
    let q = play_at c.pick.new.source.state c.pick.new.board c.pick.new.workers in
    record {
      count = c.pick.ensures.count ∙ inv.count;
      setting = c.pick.ensures.setting ∙ inv.setting;
      path = λ order o.
          let path = inv.path order o in
          (suc path.0, (p, path.1, subst (λ (x : Setting). IsPick x c.args.lists.now order p q) inv.setting (c.pick.ensures.pick order o)));
      fits = c.pick.ensures.fits;
      late = c.pick.ensures.late;
    }

pub returns-clause-round : goal.returns-clause-round
returns-clause-round c = λ order o.
    let path = c.picks.invariant.path order o in
    record {
      count = path.0;
      last = state_of c.picks.board c.picks.workers;
      picks = path.1;
      all_done = c.any_open.ensures.done c.picks-test.false;
      words = refl;
    }
