use Rattle.std.proofs.Common.{◌≡◌, ◌*◌, ℕ, List, sym, ap, subst, ◌∙◌, ◌++◌, length, take, drop, arith}
use Rattle.std.proofs.Math.Seq.{take-length}
use Rattle.std.proofs.lemmas.List.{length-take-le, take-append-le}
use Rattle.xt_model.specs.declared.net.NetId.{NetId}
use Rattle.net_eval.specs.ReadLists.{reads_of, AreReadLists}
use Rattle.chaos_core.specs.Tasks.{evaluated, list_of}
use Rattle.chaos_core.specs.Views.{IsLoaded}
use Rattle.chaos_core.proofs.Places.{ids_count}
use Rattle.dirty_run.specs.Visits.{first_words}
use Rattle.dirty_run.proofs.Paying.{own_design, own_inside, own_lists, loaded_whole}
use Rattle.xt_model.specs.Parts.{Parts}
use Rattle.dirty_run.proofs.visit.evaluate.Goals as goal

-- numbers that were written over all of some are then read
written_all : (len : ℕ) (numbers before : List ℕ) → len ≡ length numbers → take len (numbers ++ drop (length numbers) before) ≡ numbers
written_all len numbers before e = take-append-le len numbers (drop (length numbers) before) (omega (arith, e)) ∙ (ap (λ n. take n numbers) e ∙ take-length numbers)

-- what is read of numbers that were written over all of some, for the read list of a net
read_back : (lists : List (List NetId)) (net len : ℕ) (reads : List NetId) (numbers before read : List ℕ) → reads ≡ reads_of lists net → len ≡ length numbers → read ≡ take len (numbers ++ drop (length numbers) before)
    → take (8 * length reads) read ≡ first_words lists net numbers
read_back lists net len reads numbers before read list all is =
    let n = ids_count (reads_of lists net) in
    let k = ap length list in
    let count : 8 * length reads ≡ 8 * length (list_of lists net) = omega (arith, n, k) in
    let back = is ∙ written_all len numbers before all in
    (λ i. take (count i) (back i))

pub evaluate_loaded-requires-clause-loaded : goal.evaluate_loaded-requires-clause-loaded
evaluate_loaded-requires-clause-loaded g c =
    let run = c.requires.run in
    let r = c.args.run.now.board.now.run in
    let d = c.args.run.now.design.now in
    let lists = c.args.run.now.lists.now in
    let net = c.args.net.0 in
    let u = c.args.pass.now.view in
    let w = c.load_all.new.pass.view in
    let now = c.load_all.new.loaded in
    let had = c.args.worker.now.loaded in
    let all : had.len ≡ length now = had.ok.0 ∙ sym (c.load_all.ensures.room ∙ ap length c.as_mut_slice.ensures.value) in
    let given = read_back lists net had.len c.of.result.now now had.items c.as_slice.result.now c.of.ensures all c.as_slice.ensures.value in
    let design = own_design r u c.requires.own.run d lists run.design run.own run.whole in
    let own = own_lists r u c.requires.own.run d lists run.design run.own run.whole in
    subst (IsLoaded d (list_of lists net) net) (sym given) (loaded_whole u net (first_words lists net now) w d lists c.load_all.ensures.loaded design own run.whole c.requires.there)

pub returns-clause-evaluated : goal.returns-clause-evaluated
returns-clause-evaluated g c =
    let d = c.args.run.now.design.now in
    let lists = c.args.run.now.lists.now in
    let net = c.args.net.0 in
    let now = c.load_all.new.loaded in
    let had = c.args.worker.now.loaded in
    let all : had.len ≡ length now = had.ok.0 ∙ sym (c.load_all.ensures.room ∙ ap length c.as_mut_slice.ensures.value) in
    let given = read_back lists net had.len c.of.result.now now had.items c.as_slice.result.now c.of.ensures all c.as_slice.ensures.value in
    record {
      numbers = first_words lists net now;
      loaded = c.load_all.ensures.loaded;
      value = c.evaluate_loaded.ensures.value ∙ ap (λ (ns : List ℕ). evaluated d (list_of lists net) ns net) given;
    }

pub load_all-requires-clause-own : goal.load_all-requires-clause-own
load_all-requires-clause-own g c = c.requires.own

pub load_all-requires-clause-fresh : goal.load_all-requires-clause-fresh
load_all-requires-clause-fresh g c = c.requires.fresh

pub load_all-requires-clause-there : goal.load_all-requires-clause-there
load_all-requires-clause-there g c = c.requires.there

pub load_all-requires-clause-lists : goal.load_all-requires-clause-lists
load_all-requires-clause-lists g c =
    let run = c.requires.run in
    let r = c.args.run.now.board.now.run in
    let u = c.args.pass.now.view in
    let lists = c.args.run.now.lists.now in
    own_lists r u c.requires.own.run c.args.run.now.design.now lists run.design run.own run.whole

pub load_all-requires-clause-whole : goal.load_all-requires-clause-whole
load_all-requires-clause-whole g c =
    let run = c.requires.run in
    let r = c.args.run.now.board.now.run in
    let u = c.args.pass.now.view in
    let lists = c.args.run.now.lists.now in
    subst (λ (x : Parts). AreReadLists x lists) (sym (own_design r u c.requires.own.run c.args.run.now.design.now lists run.design run.own run.whole)) run.whole

pub load_all-requires-clause-room : goal.load_all-requires-clause-room
load_all-requires-clause-room g c = let room = c.requires.room.room c.args.net.0 in let same = ap length c.as_mut_slice.ensures.value in omega (arith, room, same)

pub slice_bounds-loaded-end : goal.slice_bounds-loaded-end
slice_bounds-loaded-end g c =
    let now = c.load_all.new.loaded in
    let had = c.args.worker.now.loaded in
    let same = c.load_all.ensures.room ∙ ap length c.as_mut_slice.ensures.value in
    let back = ap length (c.as_slice.ensures.value ∙ written_all had.len now had.items (had.ok.0 ∙ sym same)) in
    let room = c.requires.room.room c.args.net.0 in
    let n = ids_count (reads_of c.args.run.now.lists.now c.args.net.0) in
    let k = ap length c.of.ensures in
    sym (length-take-le (8 * length c.of.result.now) c.as_slice.result.now (omega (arith, back, same, room, n, k)))

pub evaluate_loaded-requires-clause-groups : goal.evaluate_loaded-requires-clause-groups
evaluate_loaded-requires-clause-groups g c = c.requires.run.grouped

pub evaluate_loaded-requires-clause-before : goal.evaluate_loaded-requires-clause-before
evaluate_loaded-requires-clause-before g c = c.requires.before

pub evaluate_loaded-requires-clause-notes : goal.evaluate_loaded-requires-clause-notes
evaluate_loaded-requires-clause-notes g c = c.requires.room.notes

pub evaluate_loaded-requires-clause-there : goal.evaluate_loaded-requires-clause-there
evaluate_loaded-requires-clause-there g c =
    let run = c.requires.run in
    let r = c.args.run.now.board.now.run in
    let u = c.args.pass.now.view in
    let lists = c.args.run.now.lists.now in
    own_inside r u c.requires.own.run c.args.run.now.design.now lists run.design run.own run.whole c.args.net.0 c.requires.there

pub evaluate_loaded-requires-clause-places : goal.evaluate_loaded-requires-clause-places
evaluate_loaded-requires-clause-places g c = let places = c.requires.room.places in let count = c.requires.run.whole.count in let same = ap length c.as_mut_slice-places.ensures.value in omega (arith, places, count, same)

pub returns-clause-own : goal.returns-clause-own
returns-clause-own g c = c.load_all.ensures.own

pub returns-clause-range : goal.returns-clause-range
returns-clause-range g c = c.evaluate_loaded.ensures.range

pub returns-clause-room : goal.returns-clause-room
returns-clause-room g c =
    let had = c.args.worker.now.loaded in
    let same = c.load_all.ensures.room ∙ ap length c.as_mut_slice.ensures.value in
    let back = ap length (written_all had.len c.load_all.new.loaded had.items (had.ok.0 ∙ sym same)) in
    let were = c.args.worker.now.places in
    let kept = c.evaluate_loaded.ensures.count ∙ ap length c.as_mut_slice-places.ensures.value in
    let left = ap length (written_all were.len c.evaluate_loaded.new.places were.items (were.ok.0 ∙ sym kept)) in
    record {
      room = λ net. let room = c.requires.room.room net in omega (arith, room, back, same);
      notes = c.evaluate_loaded.ensures.notes;
      places = let places = c.requires.room.places in omega (arith, places, left, kept);
    }
