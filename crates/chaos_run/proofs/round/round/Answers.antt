use Rattle.std.proofs.Common.{List, length, refl, sym, ap, subst, ◌∙◌, arith}
use Rattle.std.specs.List.{All, AllZip}
use Rattle.std.proofs.lemmas.Slice.Zip.{AllZip-long}
use Rattle.xt_model.specs.declared.net.NetId.{NetId}
use Rattle.window_words.specs.declared.view.View.{View}
use Rattle.window_words.specs.Boards.{BoardId, Holding, IsOf}
use Rattle.chaos_run.specs.declared.workers.SeatedWorker.{SeatedWorker}
use Rattle.chaos_run.specs.Rounds.{with_out, sent_of, HasRun, IsBack, IsReady, IsSent}
use Rattle.window_words.proofs.Slices.{slice_back}
use Rattle.chaos_run.proofs.Parts.{all_back, sent_later, ran_from}
use Rattle.chaos_run.proofs.round.round.Goals as goal

pub take_back-requires-clause-back : goal.take_back-requires-clause-back
take_back-requires-clause-back g c =
    let board = c.args.run.now.board.now in
    let d = c.args.run.now.design.now in
    let lists = c.args.run.now.lists.now in
    let xs = c.send_out.new.workers.seated.items in
    let ys = c.work_all.new.seated in
    let ran : AllZip (HasRun board d lists) xs ys = subst (λ (zs : List SeatedWorker). AllZip (HasRun board d lists) zs ys) c.as_mut_slice.ensures.value c.work_all.ensures in
    let sent : All (IsSent lists c.send_out.new.first) xs =
    sent_later lists c.restart.new.first c.send_out.new.first (length c.args.workers.now.idle.items) xs (c.send_out.ensures.own.table ∙ sym c.restart.ensures.own.table) c.send_out.ensures.view c.send_out.ensures.sent in
    let back = all_back board d lists c.send_out.new.first xs ys sent ran in
    subst (All (IsBack board d lists c.send_out.new.first)) (sym (slice_back c.send_out.new.workers.seated.len xs ys c.send_out.new.workers.seated.ok.0 (AllZip-long (HasRun board d lists) xs ys ran))) back

pub returns-clause-ran : goal.returns-clause-ran
returns-clause-ran g c = λ order o.
    let before = c.args.first.now in
    let out = c.send_out.new.first in
    let count = length c.args.workers.now.idle.items in
    let view = c.send_out.ensures.view ∙ ap (λ (v : View). with_out v count) c.restart.ensures.view in
    ran_from order before out c.take_back.new.first count (c.send_out.ensures.own.table ∙ sym c.requires.own.table) view (c.take_back.ensures.ran order o)

pub restart-requires-clause-own : goal.restart-requires-clause-own
restart-requires-clause-own g c = c.requires.own

pub restart-requires-clause-alone : goal.restart-requires-clause-alone
restart-requires-clause-alone g c = c.requires.alone

pub send_out-requires-clause-own : goal.send_out-requires-clause-own
send_out-requires-clause-own g c = c.restart.ensures.own

pub send_out-requires-clause-first : goal.send_out-requires-clause-first
send_out-requires-clause-first g c = ap (λ (v : View). v.role) c.restart.ensures.view ∙ c.requires.alone.0

pub send_out-requires-clause-few : goal.send_out-requires-clause-few
send_out-requires-clause-few g c = let none = ap (λ (v : View). v.split) c.restart.ensures.view in let few = c.requires.few in omega (arith, none, few)

pub send_out-requires-clause-idle : goal.send_out-requires-clause-idle
send_out-requires-clause-idle g c = c.requires.idle

pub work_all-requires-clause-groups : goal.work_all-requires-clause-groups
work_all-requires-clause-groups g c = λ _ _. c.requires.groups

pub work_all-requires-clause-run : goal.work_all-requires-clause-run
work_all-requires-clause-run g c = λ _ _. c.requires.run

pub work_all-requires-clause-look : goal.work_all-requires-clause-look
work_all-requires-clause-look g c = λ _ _. c.requires.look

pub work_all-requires-clause-some : goal.work_all-requires-clause-some
work_all-requires-clause-some g c = λ _ _. let same = ap length c.as_mut_slice.ensures.value in let count = c.send_out.ensures.count in let some = c.requires.some in omega (arith, same, count, some)

pub work_all-requires-clause-few : goal.work_all-requires-clause-few
work_all-requires-clause-few g c = λ _ _. let same = ap length c.as_mut_slice.ensures.value in let count = c.send_out.ensures.count in let few = c.requires.few in omega (arith, same, count, few)

-- passes that were just sent out
all_ready : (board : BoardId) (lists : List (List NetId)) (first : Holding) (xs : List SeatedWorker) → IsOf board first → All (IsSent lists first) xs → All (IsReady board lists) xs
all_ready board lists first xs own sent k d h =
    record {
      pass = sent_of first;
      there = (sent k d h).pass;
      own = record { table = own.table; setting = own.setting };
      fresh = refl;
      room = (sent k d h).room;
    }

pub work_all-requires-clause-ready : goal.work_all-requires-clause-ready
work_all-requires-clause-ready g c = λ _ _. subst (All (IsReady c.args.run.now.board.now c.args.run.now.lists.now)) (sym c.as_mut_slice.ensures.value)
    (all_ready c.args.run.now.board.now c.args.run.now.lists.now c.restart.new.first c.send_out.new.workers.seated.items c.restart.ensures.own c.send_out.ensures.sent)

pub take_back-requires-clause-own : goal.take_back-requires-clause-own
take_back-requires-clause-own g c = c.send_out.ensures.own

pub take_back-requires-clause-first : goal.take_back-requires-clause-first
take_back-requires-clause-first g c = ap (λ (v : View). v.role) c.send_out.ensures.view ∙ (ap (λ (v : View). v.role) c.restart.ensures.view ∙ c.requires.alone.0)

pub take_back-requires-clause-fresh : goal.take_back-requires-clause-fresh
take_back-requires-clause-fresh g c = ap (λ (v : View). v.drawn) c.send_out.ensures.view ∙ ap (λ (v : View). v.drawn) c.restart.ensures.view

pub take_back-requires-clause-out : goal.take_back-requires-clause-out
take_back-requires-clause-out g c =
    let out = ap (λ (v : View). v.out) c.send_out.ensures.view in
    let alone = ap (λ (v : View). v.out) c.restart.ensures.view in
    let none = c.requires.alone.1 in
    let count = c.send_out.ensures.count in
    let same = c.work_all.auto.seated ∙ ap length c.as_mut_slice.ensures.value in
    let back = ap length (slice_back c.send_out.new.workers.seated.len c.send_out.new.workers.seated.items c.work_all.new.seated c.send_out.new.workers.seated.ok.0 same) in
    omega (arith, out, alone, none, count, back, same)

pub take_back-requires-clause-some : goal.take_back-requires-clause-some
take_back-requires-clause-some g c =
    let some = c.requires.some in
    let count = c.send_out.ensures.count in
    let same = c.work_all.auto.seated ∙ ap length c.as_mut_slice.ensures.value in
    let back = ap length (slice_back c.send_out.new.workers.seated.len c.send_out.new.workers.seated.items c.work_all.new.seated c.send_out.new.workers.seated.ok.0 same) in
    omega (arith, some, count, back, same)

pub take_back-requires-clause-none : goal.take_back-requires-clause-none
take_back-requires-clause-none g c = c.send_out.ensures.none

pub take_back-requires-clause-roomy : goal.take_back-requires-clause-roomy
take_back-requires-clause-roomy g c =
    let roomy = c.send_out.ensures.roomy in
    let same = c.work_all.auto.seated ∙ ap length c.as_mut_slice.ensures.value in
    let back = ap length (slice_back c.send_out.new.workers.seated.len c.send_out.new.workers.seated.items c.work_all.new.seated c.send_out.new.workers.seated.ok.0 same) in
    record {
      all = let all = roomy.all in omega (arith, all, back, same);
      passes = let passes = roomy.passes in omega (arith, passes, back, same);
      rooms = roomy.rooms;
    }

pub returns-clause-own : goal.returns-clause-own
returns-clause-own g c = c.take_back.ensures.own

pub returns-clause-alone : goal.returns-clause-alone
returns-clause-alone g c = c.take_back.ensures.alone

pub returns-clause-split : goal.returns-clause-split
returns-clause-split g c = let sent = ap (λ (v : View). v.split) c.send_out.ensures.view in let none = ap (λ (v : View). v.split) c.restart.ensures.view in let same = c.take_back.ensures.split in omega (arith, sent, none, same)

pub returns-clause-idle : goal.returns-clause-idle
returns-clause-idle g c = c.take_back.ensures.idle

pub returns-clause-count : goal.returns-clause-count
returns-clause-count g c =
    let same = c.work_all.auto.seated ∙ ap length c.as_mut_slice.ensures.value in
    let back = ap length (slice_back c.send_out.new.workers.seated.len c.send_out.new.workers.seated.items c.work_all.new.seated c.send_out.new.workers.seated.ok.0 same) in
    c.take_back.ensures.count ∙ (back ∙ (same ∙ c.send_out.ensures.count))
