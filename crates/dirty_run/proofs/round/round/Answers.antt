use Rattle.std.proofs.Common.{◌++◌, List, length, take, drop, sym, ap, subst, ◌∙◌, arith}
use Rattle.std.specs.List.{All, AllZip}
use Rattle.std.proofs.lemmas.Slice.Zip.{AllZip-long}
use Rattle.window_words.proofs.Slices.{slice_back}
use Rattle.dirty_words.specs.declared.view.DirtyView.{DirtyView}
use Rattle.dirty_words.specs.Views.{with_anew}
use Rattle.dirty_run.specs.declared.worker.SeatedWorker.{SeatedWorker}
use Rattle.dirty_run.specs.Turns.{with_out, HasGathered}
use Rattle.dirty_run.specs.Rounds.{HasWorked, IsBack, IsSent, IsReady}
use Rattle.dirty_run.proofs.Parts.{all_back, sent_later, all_ready}
use Rattle.dirty_run.proofs.round.round.Goals as goal

pub take_back-requires-clause-back : goal.take_back-requires-clause-back
take_back-requires-clause-back g c =
    let board = c.args.run.now.board.now in
    let d = c.args.run.now.design.now in
    let lists = c.args.run.now.lists.now in
    let xs = c.send_out.new.workers.seated.items in
    let ys = c.work_all.new.seated in
    let ran : AllZip (HasWorked board d lists) xs ys = subst (λ (zs : List SeatedWorker). AllZip (HasWorked board d lists) zs ys) c.as_mut_slice.ensures.value c.work_all.ensures in
    let sent : All (IsSent d lists c.send_out.new.first) xs =
    sent_later d lists c.restart.new.first c.send_out.new.first (length c.args.workers.now.idle.items) xs (c.send_out.ensures.own.table ∙ sym c.restart.ensures.own.table) c.send_out.ensures.view c.send_out.ensures.sent in
    let back = all_back board d lists c.send_out.new.first xs ys sent ran in
    subst (All (IsBack board d lists c.send_out.new.first)) (sym (slice_back c.send_out.new.workers.seated.len xs ys c.send_out.new.workers.seated.ok.0 (AllZip-long (HasWorked board d lists) xs ys ran))) back

pub returns-clause-gathered : goal.returns-clause-gathered
returns-clause-gathered g c = λ order o.
    let board = c.args.run.now.board.now in
    let d = c.args.run.now.design.now in
    let lists = c.args.run.now.lists.now in
    let xs = c.send_out.new.workers.seated.items in
    let ys = c.work_all.new.seated in
    let count = length c.args.workers.now.idle.items in
    let later = c.take_back.new.first.view in
    let ran : AllZip (HasWorked board d lists) xs ys = subst (λ (zs : List SeatedWorker). AllZip (HasWorked board d lists) zs ys) c.as_mut_slice.ensures.value c.work_all.ensures in
    let long = AllZip-long (HasWorked board d lists) xs ys ran in
    let all = ap length (slice_back c.send_out.new.workers.seated.len xs ys c.send_out.new.workers.seated.ok.0 long) ∙ (long ∙ c.send_out.ensures.count) in
    let view = c.send_out.ensures.view ∙ ap (λ (x : DirtyView). with_out x count) c.restart.ensures.view in
    subst (λ n. HasGathered order n (with_out (with_anew c.args.first.now.view) count) later) all (subst (λ (x : DirtyView). HasGathered order (length (take c.send_out.new.workers.seated.len (ys ++ drop (length ys) xs))) x later) view (c.take_back.ensures.gathered order o))

pub restart-requires-clause-own : goal.restart-requires-clause-own
restart-requires-clause-own g c = c.requires.own

pub restart-requires-clause-alone : goal.restart-requires-clause-alone
restart-requires-clause-alone g c = c.requires.alone

pub send_out-requires-clause-own : goal.send_out-requires-clause-own
send_out-requires-clause-own g c = c.restart.ensures.own

pub send_out-requires-clause-first : goal.send_out-requires-clause-first
send_out-requires-clause-first g c = ap (λ (v : DirtyView). v.base.role) c.restart.ensures.view ∙ c.requires.alone.0

pub send_out-requires-clause-free : goal.send_out-requires-clause-free
send_out-requires-clause-free g c = record {
  flight = ap (λ (v : DirtyView). v.flight) c.restart.ensures.view ∙ c.requires.free.flight;
  owed = ap (λ (v : DirtyView). v.owed) c.restart.ensures.view ∙ c.requires.free.owed;
}

pub send_out-requires-clause-few : goal.send_out-requires-clause-few
send_out-requires-clause-few g c = let none = ap (λ (v : DirtyView). v.base.split) c.restart.ensures.view in let few = c.requires.few in omega (arith, none, few)

pub send_out-requires-clause-idle : goal.send_out-requires-clause-idle
send_out-requires-clause-idle g c = c.requires.idle

pub send_out-requires-clause-some : goal.send_out-requires-clause-some
send_out-requires-clause-some g c = c.requires.some

pub work_all-requires-clause-run : goal.work_all-requires-clause-run
work_all-requires-clause-run g c = λ _ _. c.requires.run

pub work_all-requires-clause-before : goal.work_all-requires-clause-before
work_all-requires-clause-before g c = λ _ _. c.send_out.ensures.roomy.before

pub work_all-requires-clause-some : goal.work_all-requires-clause-some
work_all-requires-clause-some g c = λ _ _. let same = ap length c.as_mut_slice.ensures.value in let count = c.send_out.ensures.count in let some = c.requires.some in omega (arith, same, count, some)

pub work_all-requires-clause-few : goal.work_all-requires-clause-few
work_all-requires-clause-few g c = λ _ _. let same = ap length c.as_mut_slice.ensures.value in let count = c.send_out.ensures.count in let few = c.requires.few in omega (arith, same, count, few)

pub work_all-requires-clause-ready : goal.work_all-requires-clause-ready
work_all-requires-clause-ready g c = λ _ _.
    let board = c.args.run.now.board.now in
    let d = c.args.run.now.design.now in
    let lists = c.args.run.now.lists.now in
    subst (All (IsReady board d lists)) (sym c.as_mut_slice.ensures.value)
    (all_ready board d lists c.restart.new.first c.send_out.new.workers.seated.items c.restart.ensures.own c.send_out.ensures.sent)

pub take_back-requires-clause-run : goal.take_back-requires-clause-run
take_back-requires-clause-run g c = c.requires.run

pub take_back-requires-clause-own : goal.take_back-requires-clause-own
take_back-requires-clause-own g c = c.send_out.ensures.own

pub take_back-requires-clause-first : goal.take_back-requires-clause-first
take_back-requires-clause-first g c = ap (λ (v : DirtyView). v.base.role) c.send_out.ensures.view ∙ (ap (λ (v : DirtyView). v.base.role) c.restart.ensures.view ∙ c.requires.alone.0)

pub take_back-requires-clause-free : goal.take_back-requires-clause-free
take_back-requires-clause-free g c = record {
  flight = ap (λ (v : DirtyView). v.flight) c.send_out.ensures.view ∙ (ap (λ (v : DirtyView). v.flight) c.restart.ensures.view ∙ c.requires.free.flight);
  owed = ap (λ (v : DirtyView). v.owed) c.send_out.ensures.view ∙ (ap (λ (v : DirtyView). v.owed) c.restart.ensures.view ∙ c.requires.free.owed);
}

pub take_back-requires-clause-fresh : goal.take_back-requires-clause-fresh
take_back-requires-clause-fresh g c = ap (λ (v : DirtyView). v.base.drawn) c.send_out.ensures.view ∙ ap (λ (v : DirtyView). v.base.drawn) c.restart.ensures.view

pub take_back-requires-clause-out : goal.take_back-requires-clause-out
take_back-requires-clause-out g c =
    let out = ap (λ (v : DirtyView). v.base.out) c.send_out.ensures.view in
    let alone = ap (λ (v : DirtyView). v.base.out) c.restart.ensures.view in
    let none = c.requires.alone.1 in
    let count = c.send_out.ensures.count in
    let same = c.work_all.auto.seated ∙ ap length c.as_mut_slice.ensures.value in
    let back = ap length (slice_back c.send_out.new.workers.seated.len c.send_out.new.workers.seated.items c.work_all.new.seated c.send_out.new.workers.seated.ok.0 same) in
    omega (arith, out, alone, none, count, back, same)

pub take_back-requires-clause-some : goal.take_back-requires-clause-some
take_back-requires-clause-some g c =
    let some = c.requires.some in
    let count = c.send_out.ensures.count in
    let same = c.work_all.auto.seated ∙ ap length c.as_mut_slice.ensures.value in
    let back = ap length (slice_back c.send_out.new.workers.seated.len c.send_out.new.workers.seated.items c.work_all.new.seated c.send_out.new.workers.seated.ok.0 same) in
    omega (arith, some, count, back, same)

pub take_back-requires-clause-none : goal.take_back-requires-clause-none
take_back-requires-clause-none g c = c.send_out.ensures.none

pub take_back-requires-clause-roomy : goal.take_back-requires-clause-roomy
take_back-requires-clause-roomy g c =
    let roomy = c.send_out.ensures.roomy in
    let same = c.work_all.auto.seated ∙ ap length c.as_mut_slice.ensures.value in
    let back = ap length (slice_back c.send_out.new.workers.seated.len c.send_out.new.workers.seated.items c.work_all.new.seated c.send_out.new.workers.seated.ok.0 same) in
    record {
      all = let all = roomy.all in omega (arith, all, back, same);
      passes = let passes = roomy.passes in omega (arith, passes, back, same);
      rooms = roomy.rooms;
      before = roomy.before;
      count = let count = roomy.count in omega (arith, count, back, same);
    }

pub returns-clause-own : goal.returns-clause-own
returns-clause-own g c = c.take_back.ensures.own

pub returns-clause-alone : goal.returns-clause-alone
returns-clause-alone g c = c.take_back.ensures.alone

pub returns-clause-free : goal.returns-clause-free
returns-clause-free g c = c.take_back.ensures.free

pub returns-clause-idle : goal.returns-clause-idle
returns-clause-idle g c = c.leave_notes.ensures.idle

pub returns-clause-count : goal.returns-clause-count
returns-clause-count g c =
    let same = c.work_all.auto.seated ∙ ap length c.as_mut_slice.ensures.value in
    let back = ap length (slice_back c.send_out.new.workers.seated.len c.send_out.new.workers.seated.items c.work_all.new.seated c.send_out.new.workers.seated.ok.0 same) in
    c.leave_notes.ensures.count ∙ (c.take_back.ensures.count ∙ (back ∙ (same ∙ c.send_out.ensures.count)))
