-- The parts of a round, joined: passes that were sent out, that workers ran by, and that come back.
use Rattle.std.proofs.Common.{◌≡◌, ℕ, ◌<◌, refl, sym, ap, subst, ◌∙◌, List, [], ◌∷◌, ◌++◌, length, vec_capacity, arith}
use Rattle.std.specs.Prelude.{Some, option_map}
use Rattle.std.specs.List.{All, AllZip}
use Rattle.std.proofs.lemmas.List.Elements.{All-push, AllZip-get_or}
use Rattle.std.proofs.lemmas.Slice.Zip.{AllZip-long}
use Rattle.std.proofs.lemmas.List.{length-append}
use Rattle.std.proofs.lemmas.Option.{same_Some}
use Rattle.xt_model.specs.declared.net.NetId.{NetId}
use Rattle.xt_model.specs.Parts.{Parts}
use Rattle.chaos_core.specs.declared.worker.Worker.{Worker}
use Rattle.chaos_core.specs.Tasks.{room_of, places_of}
use Rattle.chaos_core.specs.Runs.{Ran}
use Rattle.chaos_core.specs.Rounds.{HasRoom}
use Rattle.window_words.specs.declared.seated.Seated.{Seated}
use Rattle.window_words.specs.Views.{begun_anew, sent_out}
use Rattle.window_words.specs.Boards.{BoardId, Holding, IsOf, knowledge_of}
use Rattle.window_words.proofs.Holding.{home_is}
use Rattle.chaos_run.specs.declared.workers.SeatedWorker.{SeatedWorker}
use Rattle.chaos_run.specs.declared.workers.Workers.{Workers}
use Rattle.chaos_run.specs.Rounds.{AreRoomy, with_out, sent_of, pass_of, IsSent, HasRun, IsBack}

-- ---- a worker's pass
pub pass_found : (w : SeatedWorker) (s : Seated) (p : Holding) → w.seated ≡ Some s → pass_of w ≡ Some p → s.pass ≡ p
pass_found w s p is there = same_Some s.pass p (sym (ap (option_map (λ (x : Seated). x.pass)) is) ∙ there)

-- ---- one worker's part
pub comes_back : (board : BoardId) (pass later : Holding) (order : List ℕ) → IsOf board pass → Ran order (knowledge_of pass) (knowledge_of later) → IsOf board later
comes_back board pass later order own ran = record { table = home_is later.table pass.table ran.home ∙ own.table; setting = ran.setting ∙ own.setting }

pub room_for : (lists : List (List NetId)) (before after : Worker) → room_of after ≡ room_of before → places_of after ≡ places_of before → HasRoom lists before
    → HasRoom lists after
room_for lists before after same long has = record {
  room = λ net. let r = has.room net in omega (arith, same, r);
  places = let p = has.places in omega (arith, long, p);
}

-- ---- all parts
pub all_back : (board : BoardId) (d : Parts) (lists : List (List NetId)) (first : Holding) (xs ys : List SeatedWorker) → All (IsSent lists first) xs → AllZip (HasRun board d lists) xs ys
    → All (IsBack board d lists first) ys
all_back board d lists first xs ys sent ran k e h =
    let long = AllZip-long (HasRun board d lists) xs ys ran in
    let inside : k < length xs = omega (arith, long, h) in
    let own = sent k e inside in
    let part = AllZip-get_or (HasRun board d lists) xs ys k e e ran inside in
    let same : part.before ≡ sent_of first = same_Some part.before (sent_of first) (sym part.had ∙ own.pass) in
    record {
      pass = part.after;
      there = part.there;
      own = part.own;
      ran = λ order o. subst (λ (p : Holding). Ran order (knowledge_of p) (knowledge_of part.after)) same (part.ran order o);
      room = part.room;
    }

-- ---- from the beginning of the round
ran_as : (order : List ℕ) (h g : Holding) (count : ℕ) → Ran order (knowledge_of (record { table = h.table; view = with_out (begun_anew h.view) count })) (knowledge_of g)
    → Ran order (knowledge_of h) (knowledge_of g)
ran_as order h g count r = record {
  setting = r.setting;
  home = r.home;
  alone = r.alone;
  onward = r.onward;
  last = r.last;
  passed = r.passed;
  made = r.made;
}

pub ran_from : (order : List ℕ) (h out g : Holding) (count : ℕ) → out.table ≡ h.table → out.view ≡ with_out (begun_anew h.view) count → Ran order (knowledge_of out) (knowledge_of g)
    → Ran order (knowledge_of h) (knowledge_of g)
ran_from order h out g count table view r =
    let is : out ≡ record { table = h.table; view = with_out (begun_anew h.view) count } = λ i. record { table = table i; view = view i } in
    ran_as order h g count (subst (λ (x : Holding). Ran order (knowledge_of x) (knowledge_of g)) is r)

-- ---- passes that were sent out, seen from the first after it sent them all out
pub sent_later : (lists : List (List NetId)) (first later : Holding) (count : ℕ) (xs : List SeatedWorker) → later.table ≡ first.table → later.view ≡ with_out first.view count → All (IsSent lists first) xs
    → All (IsSent lists later) xs
sent_later lists first later count xs table view sent k d h =
    let s = sent k d h in
    let same : sent_of first ≡ sent_of later = λ i. record { table = sym table i; view = sent_out (sym view i) } in
    record { pass = s.pass ∙ ap Some same; room = s.room }

-- ---- a worker that comes back leaves its room
pub roomy_back : (lists : List (List NetId)) (v w : Workers) (worker : Worker) (x : SeatedWorker) → w.idle.items ≡ v.idle.items ++ worker ∷ [] → v.seated.items ≡ w.seated.items ++ x ∷ []
    → vec_capacity w.idle ≡ vec_capacity v.idle → vec_capacity w.seated ≡ vec_capacity v.seated → HasRoom lists worker → AreRoomy lists v → AreRoomy lists w
roomy_back lists v w worker x pushed popped idle seated room roomy =
    let a = ap length pushed ∙ length-append v.idle.items (worker ∷ []) in
    let b = ap length popped ∙ length-append w.seated.items (x ∷ []) in
    let all = roomy.all in
    let passes = roomy.passes in
    record {
      all = omega (arith, a, b, idle, all);
      passes = omega (arith, a, b, seated, passes);
      rooms = subst (All (HasRoom lists)) (sym pushed) (All-push (HasRoom lists) v.idle.items worker roomy.rooms room);
    }

-- ---- where none is left
pub no_items : {A : Type 0} (xs : List A) → length xs ≡ 0 → xs ≡ []
no_items [] e = refl
no_items (x ∷ xs) e = absurd (omega (arith, e))
