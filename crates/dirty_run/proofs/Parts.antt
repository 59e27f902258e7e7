-- The parts of a round, joined: passes that were sent out, by which workers ran, and that come back.
use Rattle.std.proofs.Common.{◌≡◌, ℕ, ◌+◌, ◌<◌, refl, sym, ap, subst, ◌∙◌, List, [], ◌∷◌, ◌++◌, inl, inr, length, get_or, vec_capacity, arith}
use Rattle.std.specs.List.{All, AllZip}
use Rattle.std.proofs.lemmas.Bool.{cases_lt}
use Rattle.std.proofs.lemmas.List.Elements.{All-push, AllZip-get_or}
use Rattle.std.proofs.lemmas.Slice.Zip.{AllZip-long}
use Rattle.std.proofs.lemmas.List.{length-append}
use Rattle.xt_model.specs.declared.net.NetId.{NetId}
use Rattle.xt_model.specs.Limits.{most_workers}
use Rattle.xt_model.specs.Parts.{Parts}
use Rattle.dirty_words.specs.declared.view.DirtyView.{DirtyView}
use Rattle.dirty_words.specs.Views.{pass_sent, run_of, with_pass_out}
use Rattle.dirty_words.specs.Boards.{DirtyId, DirtyHolding, IsFirst, IsFree, IsOf}
use Rattle.dirty_run.specs.declared.notes.Before.{Before}
use Rattle.dirty_run.specs.declared.worker.Worker.{Worker}
use Rattle.dirty_run.specs.declared.worker.SeatedWorker.{SeatedWorker}
use Rattle.dirty_run.specs.declared.worker.Workers.{Workers}
use Rattle.dirty_run.specs.Notes.{AreNotes}
use Rattle.dirty_run.specs.Visits.{HasRoom}
use Rattle.dirty_run.specs.Turns.{with_out, HasRun}
use Rattle.dirty_run.specs.Rounds.{AreRoomy, IsReady, IsSent, HasWorked, IsBack}

-- ---- passes sent out
-- from v to w, this many passes were split off: nothing moved yet, or all of these are out
pub record IsSending (v : DirtyView) (count : ℕ) (w : DirtyView) : Type 0 where
  pub none : count ≡ 0 → w ≡ v
  pub some : 0 < count → w ≡ with_out v count

pub none_sent : (v : DirtyView) → IsSending v 0 v
none_sent v = record { none = λ e. refl; some = λ lie. absurd (omega (arith, lie)) }

out_more : (v w x : DirtyView) (count : ℕ) → w ≡ with_out v count → x ≡ with_pass_out w → x ≡ with_out v (count + 1)
out_more v w x count is step =
    let e : v.base.out + count + 1 ≡ v.base.out + (count + 1) = omega arith in
    let f : v.base.split + count + 1 ≡ v.base.split + (count + 1) = omega arith in
    step ∙ (ap with_pass_out is ∙ (λ i. record v { base = record (v.base) { out = e i; split = f i }; clear = [] }))

module _ (v w : DirtyView) (count : ℕ) (sending : IsSending v count w) where
  -- the first keeps its role and is free
  each_way : (P : DirtyView → Type 0) → P v → P (with_out v count) → P w
  each_way P here there = elim (cases_lt 0 count) [
    | inl some ↦ subst P (sym (sending.some some)) there
    | inr few ↦ subst P (sym (sending.none (omega (arith, few)))) here
  ]

  pub sending_first : IsFirst v → IsFirst w
  sending_first first = each_way IsFirst first first

  pub sending_free : IsFree v → IsFree w
  sending_free free = each_way IsFree free (record { flight = free.flight; owed = free.owed })

  pub sending_few : v.base.split + count < most_workers → w.base.split < most_workers
  sending_few h = each_way (λ (x : DirtyView). x.base.split < most_workers) (omega (arith, h)) h

  pub sends_next : pass_sent w ≡ pass_sent v
  sends_next = each_way (λ (x : DirtyView). pass_sent x ≡ pass_sent v) refl refl

  pub sending_more : (x : DirtyView) → x ≡ with_pass_out w → IsSending v (count + 1) x
  sending_more x step = record {
    none = λ lie. absurd (omega (arith, lie));
    some = λ _. elim (cases_lt 0 count) [
      | inl some ↦ out_more v w x count (sending.some some) step
      | inr few ↦
          let zero : count ≡ 0 = omega (arith, few) in
          let one : x ≡ with_out v 1 = step ∙ ap with_pass_out (sending.none zero) in
          let e : 1 ≡ count + 1 = omega (arith, zero) in
          one ∙ ap (with_out v) e
    ];
  }

-- what is sent by the first is the same, however many are out
sent_same : (v w : DirtyView) (count : ℕ) → w ≡ with_out v count → pass_sent w ≡ pass_sent v
sent_same v w count is = ap pass_sent is

pub sent_later : (d : Parts) (lists : List (List NetId)) (first later : DirtyHolding) (count : ℕ) (xs : List SeatedWorker) → later.table ≡ first.table → later.view ≡ with_out first.view count → All (IsSent d lists first) xs → All (IsSent d lists later) xs
sent_later d lists first later count xs table view sent k e h =
    let s = sent k e h in
    record { table = s.table ∙ sym table; view = s.view ∙ sym (sent_same first.view later.view count view); room = s.room }

pub all_back : (board : DirtyId) (d : Parts) (lists : List (List NetId)) (first : DirtyHolding) (xs ys : List SeatedWorker) → All (IsSent d lists first) xs → AllZip (HasWorked board d lists) xs ys
    → All (IsBack board d lists first) ys
all_back board d lists first xs ys sent ran k e h =
    let long = AllZip-long (HasWorked board d lists) xs ys ran in
    let inside : k < length xs = omega (arith, long, h) in
    let own = sent k e inside in
    let part = AllZip-get_or (HasWorked board d lists) xs ys k e e ran inside in
    record {
      own = part.own;
      ran = λ order o. subst (λ (v : DirtyView). HasRun order v (get_or ys k e).pass.view) own.view (part.ran order o);
      room = part.room;
    }

-- a worker that goes out leaves its room
pub roomy_out : (d : Parts) (lists : List (List NetId)) (v w : Workers) → w.before ≡ v.before → length v.idle.items ≡ length w.idle.items + 1 → length w.seated.items ≡ length v.seated.items + 1
    → vec_capacity w.idle ≡ vec_capacity v.idle → vec_capacity w.seated ≡ vec_capacity v.seated → All (HasRoom d lists) w.idle.items → AreRoomy d lists v → AreRoomy d lists w
roomy_out d lists v w before popped pushed idle seated rooms roomy =
    let all = roomy.all in
    let passes = roomy.passes in
    let count = roomy.count in
    let same : length w.before.notes.items ≡ length v.before.notes.items = ap (λ (b : Before). length b.notes.items) before in
    record {
      all = omega (arith, popped, pushed, idle, all);
      passes = omega (arith, popped, pushed, seated, passes);
      rooms = rooms;
      before = subst (λ (b : Before). All (AreNotes d lists) b.notes.items) (sym before) roomy.before;
      count = omega (arith, popped, pushed, same, count);
    }

-- a worker that comes back leaves its room
pub roomy_back : (d : Parts) (lists : List (List NetId)) (v w : Workers) (worker : Worker) (x : SeatedWorker) → w.before ≡ v.before → w.idle.items ≡ v.idle.items ++ worker ∷ [] → v.seated.items ≡ w.seated.items ++ x ∷ []
    → vec_capacity w.idle ≡ vec_capacity v.idle → vec_capacity w.seated ≡ vec_capacity v.seated → HasRoom d lists worker → AreRoomy d lists v → AreRoomy d lists w
roomy_back d lists v w worker x before pushed popped idle seated room roomy =
    let a = ap length pushed ∙ length-append v.idle.items (worker ∷ []) in
    let b = ap length popped ∙ length-append w.seated.items (x ∷ []) in
    let all = roomy.all in
    let passes = roomy.passes in
    let count = roomy.count in
    let same : length w.before.notes.items ≡ length v.before.notes.items = ap (λ (b : Before). length b.notes.items) before in
    record {
      all = omega (arith, a, b, idle, all);
      passes = omega (arith, a, b, seated, passes);
      rooms = subst (All (HasRoom d lists)) (sym pushed) (All-push (HasRoom d lists) v.idle.items worker roomy.rooms room);
      before = subst (λ (b : Before). All (AreNotes d lists) b.notes.items) (sym before) roomy.before;
      count = omega (arith, a, b, same, count);
    }

-- ---- passes that were just sent out
pub all_ready : (board : DirtyId) (d : Parts) (lists : List (List NetId)) (first : DirtyHolding) (xs : List SeatedWorker) → IsOf board first → All (IsSent d lists first) xs → All (IsReady board d lists) xs
all_ready board d lists first xs own sent k e h =
    let s = sent k e h in
    record {
      own = record { table = s.table ∙ own.table; run = ap run_of s.view ∙ own.run };
      other = ap (λ (v : DirtyView). v.base.role) s.view;
      fresh = ap (λ (v : DirtyView). v.base.drawn) s.view;
      none = ap (λ (v : DirtyView). v.taken) s.view;
      free = record { flight = ap (λ (v : DirtyView). v.flight) s.view; owed = ap (λ (v : DirtyView). v.owed) s.view };
      room = s.room;
    }

-- ---- where none is left
pub no_items : {A : Type 0} (xs : List A) → length xs ≡ 0 → xs ≡ []
no_items [] e = refl
no_items (x ∷ xs) e = absurd (omega (arith, e))
