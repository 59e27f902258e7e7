-- Eight words of each net, one step each.
use Rattle.std.proofs.Common.{◌≡◌, ℕ, suc, ◌+◌, ◌*◌, ◌/◌, ◌%◌, ◌<◌, get_or, refl, ◌∙◌, sym, ap, subst, List, [], ◌∷◌, length, length-append, arith}
use Rattle.std.specs.List.{All}
use Rattle.std.proofs.lemmas.List.Elements.{Contains-get_or}
use Rattle.xt_model.specs.declared.net.NetId.{NetId}
use Rattle.xt_model.specs.Parts.{Parts}
use Rattle.net_eval.specs.ReadLists.{ids, reads_of}
use Rattle.chaos_core.specs.Boards.{nets_of, Knowledge}
use Rattle.chaos_core.specs.Tasks.{Task, evaluated, list_of, loaded_of, loading, places_of, publishing, room_of, task_of, with_loaded, word_to_load}
use Rattle.chaos_core.specs.Steps.{AreLoaded, AreSteps, Fits}
use Rattle.chaos_core.proofs.Listing.{rows_back}
use Rattle.chaos_core.proofs.Places.{ids_count, nets_placed, read_there}
use Rattle.chaos_core.proofs.Stages.{load_word, loads_there, places_stay, room_stays}
use Rattle.chaos_core.proofs.Several.{all_now, inside_now, loaded_then, none_more, publishes_now, some_steps, steps_then, whole_now}
use Rattle.chaos_core.proofs.run.load_rest.Goals as goal

-- a word of a net of a read list
side_of : (lists : List (List NetId)) (net : ℕ) (reads : List NetId) (items : List ℕ) (x : NetId) (place side : ℕ) → reads ≡ reads_of lists net → 8 * place + side ≡ length items → side < 8
    → length items < 8 * length (list_of lists net) → 8 * (get_or reads place x).0 + side ≡ word_to_load (list_of lists net) (length items)
side_of lists net reads items x place side same at low more =
    let a : length items / 8 ≡ place = omega (arith, at, low) in
    let b : length items % 8 ≡ side = omega (arith, at, low) in
    let P : ℕ → ℕ → Type 0 = λ p s. 8 * (get_or reads p x).0 + s ≡ word_to_load (list_of lists net) (length items) in
    subst (λ p. P p side) a (subst (λ s. P (length items / 8) s) b (load_word lists net items reads items x same refl more))

more_of : (lists : List (List NetId)) (net : ℕ) (reads : List NetId) (items before : List ℕ) (place side : ℕ) → reads ≡ reads_of lists net → 8 * place ≡ length before → length before + side ≡ length items → side < 8
    → place < length reads → length items < 8 * length (list_of lists net)
more_of lists net reads items before place side same at more low within =
    let size : length reads ≡ length (list_of lists net) = ap length same ∙ sym (ids_count (reads_of lists net)) in
    omega (arith, size, at, more, low, within)

pub touch_words-requires : goal.touch_words-requires
touch_words-requires g c =
    let k = g.B.Board.knows c.args.board.now in
    let d = c.args.design.now in
    let lists = c.args.lists.now in
    let net = c.args.net.0 in
    let fits = subst (Fits k lists) c.requires.loading c.requires.fits.task in
    let count : length d.nets ≡ nets_of k.setting = ap (λ (x : Parts). length x.nets) (sym c.requires.design) in
    let there : net < length d.nets = let low = fits.there in omega (arith, count, low) in
    let each : All (λ m. m < nets_of k.setting) (ids (reads_of lists net)) =
    λ i m h. subst (λ n. get_or (ids (reads_of lists net)) i m < n) count (read_there d net _ _ c.requires.lists.sound (c.requires.lists.each net there) (Contains-get_or (ids (reads_of lists net)) i m h)) in
    record { nets = rw c.of-reads.ensures (nets_placed (reads_of lists net) (nets_of k.setting) (nets_of k.setting) each (omega arith)) }

pub loop-place-init : goal.loop-place-init
loop-place-init g c =
    let k = g.B.Board.knows c.args.board.now in
    let lists = c.args.lists.now in
    let net = c.args.net.0 in
    let numbers = loaded_of (task_of c.args.worker.now) in
    let fits = subst (Fits k lists) c.requires.loading c.requires.fits.task in
    let same : numbers ≡ c.worker.inside.loaded.items = ap loaded_of (loads_there c.worker.inside.stage c.worker.inside.loaded.items net _ (ap task_of c.worker.view_is) c.requires.loading) in
    rw c.replace-loaded.ensures.value (record {
      setting = refl;
      seen = fits.seen;
      loaded = subst (AreLoaded k.setting k.seen (list_of lists net)) same fits.loaded;
      steps = λ order.
          let P : List ℕ → Type 0 = λ items. AreSteps c.args.design.now lists order 0 k (loading net numbers) k (with_loaded c.args.design.now (list_of lists net) net items) in
          (0, subst P same (none_more c.args.design.now lists order k net numbers fits.more));
      room = ap room_of c.worker.view_is;
      places = ap places_of c.worker.view_is;
      at = let whole = c.requires.whole in let e = ap length same in let f = rw c.replace-loaded.ensures.value at (ap length c.as_slice.ensures.value) in omega (arith, whole, e, f);
    })

pub loop-side-init : goal.loop-side-init
loop-side-init g c =
    let inv = c.loop-place.invariant in
    record { setting = inv.setting; seen = inv.seen; loaded = inv.loaded; steps = inv.steps; room = inv.room; places = inv.places; at = omega arith }

pub load-number-requires : goal.load-number-requires
load-number-requires g c =
    let k = g.B.Board.knows c.args.board.now in
    let l = g.B.Board.knows c.loop-side.board in
    let lists = c.args.lists.now in
    let net = c.args.net.0 in
    let numbers = loaded_of (task_of c.args.worker.now) in
    let items = c.loop-side.loaded.items in
    let d = c.args.design.now in
    let inv = c.loop-side.invariant in
    let outer = c.loop-place.invariant in
    let fits = subst (Fits k lists) c.requires.loading c.requires.fits.task in
    let more = more_of lists net c.of-reads.result.now items c.loop-place.loaded.items c.loop-place.place c.loop-side.side c.of-reads.ensures outer.at inv.at c.loop-side-test.true c.loop-place-test.true in
    let at : 8 * c.loop-place.place + c.loop-side.side ≡ length items = let a = outer.at in let b = inv.at in omega (arith, a, b) in
    let is = side_of lists net c.of-reads.result.now items (record { 0 = 0 }) c.loop-place.place c.loop-side.side c.of-reads.ensures at c.loop-side-test.true more in
    record { word = inside_now k l lists net numbers items d c.requires.design c.requires.lists fits inv.setting inv.seen inv.loaded _ is more }

pub loop-side-preserved : goal.loop-side-preserved
loop-side-preserved g c =
    let k = g.B.Board.knows c.args.board.now in
    let l = g.B.Board.knows c.loop-side.board in
    let m = g.B.Board.knows c.load-number.new.self in
    let lists = c.args.lists.now in
    let net = c.args.net.0 in
    let numbers = loaded_of (task_of c.args.worker.now) in
    let items = c.loop-side.loaded.items in
    let later = c.push_reserved.new.self.items in
    let d = c.args.design.now in
    let inv = c.loop-side.invariant in
    let outer = c.loop-place.invariant in
    let fits = subst (Fits k lists) c.requires.loading c.requires.fits.task in
    let more = more_of lists net c.of-reads.result.now items c.loop-place.loaded.items c.loop-place.place c.loop-side.side c.of-reads.ensures outer.at inv.at c.loop-side-test.true c.loop-place-test.true in
    let at : 8 * c.loop-place.place + c.loop-side.side ≡ length items = let a = outer.at in let b = inv.at in omega (arith, a, b) in
    let is = side_of lists net c.of-reads.result.now items (record { 0 = 0 }) c.loop-place.place c.loop-side.side c.of-reads.ensures at c.loop-side-test.true more in
    record {
      setting = ap (λ (x : Knowledge). x.setting) c.load-number.ensures.loads.after ∙ inv.setting;
      seen = c.load-number.ensures.seen;
      loaded = loaded_then k l lists net numbers items d c.requires.design c.requires.lists fits inv.setting inv.seen inv.loaded _ is more m c.load-number.result later c.load-number.ensures.loads c.load-number.ensures.seen
          c.push_reserved.ensures.items;
      steps = λ order.
          let s = inv.steps order in (
            suc s.0,
            steps_then k l lists net numbers items d c.requires.design c.requires.lists fits inv.setting inv.seen inv.loaded _ is more m c.load-number.result later order s.0 c.load-number.ensures.loads
                c.push_reserved.ensures.items s.1,
          );
      room = c.push_reserved.ensures.capacity ∙ inv.room;
      places = inv.places;
      at = let a = inv.at in let b = ap length c.push_reserved.ensures.items in let e = length-append items (c.load-number.result ∷ []) in omega (arith, a, b, e);
    }

pub loop-place-preserved : goal.loop-place-preserved
loop-place-preserved g c =
    let inv = c.loop-side.invariant in
    record {
      setting = inv.setting;
      seen = inv.seen;
      loaded = inv.loaded;
      steps = inv.steps;
      room = inv.room;
      places = inv.places;
      at = let a = inv.at in let b = c.loop-place.invariant.at in let done = c.loop-side-test.false in let end = c.loop-side.auto.side-end in omega (arith, a, b, done, end);
    }

pub evaluate_by-pair-requires-clause-loaded : goal.evaluate_by-pair-requires-clause-loaded
evaluate_by-pair-requires-clause-loaded g c =
    let k = g.B.Board.knows c.args.board.now in
    let l = g.B.Board.knows c.loop-place.board in
    let lists = c.args.lists.now in
    let net = c.args.net.0 in
    let inv = c.loop-place.invariant in
    let fits = subst (Fits k lists) c.requires.loading c.requires.fits.task in
    let long = ap length c.as_slice-2.ensures.value in
    whole_now k l lists net (loaded_of (task_of c.args.worker.now)) c.loop-place.loaded.items c.args.design.now c.requires.design c.requires.lists fits inv.setting inv.seen inv.loaded (reads_of lists net) c.as_slice-2.result.now
    refl c.as_slice-2.ensures.value (let reads = ap length c.of-reads.ensures in let at = inv.at in let done = c.loop-place-test.false in omega (arith, long, reads, at, done))

pub returns-clause-fits : goal.returns-clause-fits
returns-clause-fits g c =
    let k = g.B.Board.knows c.args.board.now in
    let l = g.B.Board.knows c.loop-place.board in
    let lists = c.args.lists.now in
    let net = c.args.net.0 in
    let inv = c.loop-place.invariant in
    let fits = subst (Fits k lists) c.requires.loading c.requires.fits.task in
    let long = ap length c.as_slice-2.ensures.value in
    let few = c.requires.fits.places in
    let kept = inv.places in
    record {
      room = room_stays lists _ _ inv.room c.requires.fits.room;
      places = places_stay (length lists) c.worker.inside.places.len c.worker.inside.places.items c.evaluate_by-pair.new.places c.worker.inside.places.ok.0
          (c.evaluate_by-pair.ensures.count ∙ ap length c.as_mut_slice.ensures.value) (omega (arith, few, kept));
      task = publishes_now k l lists net (loaded_of (task_of c.args.worker.now)) c.loop-place.loaded.items c.args.design.now c.requires.design c.requires.lists fits inv.setting inv.seen inv.loaded (reads_of lists net)
          c.as_slice-2.result.now c.evaluate_by-pair.result refl c.as_slice-2.ensures.value (let reads = ap length c.of-reads.ensures in let at = inv.at in let done = c.loop-place-test.false in omega (arith, long, reads, at, done))
          c.evaluate_by-pair.ensures.value c.evaluate_by-pair.ensures.range;
    }

pub returns-clause-steps : goal.returns-clause-steps
returns-clause-steps g c = λ order.
    let k = g.B.Board.knows c.args.board.now in
    let l = g.B.Board.knows c.loop-place.board in
    let lists = c.args.lists.now in
    let net = c.args.net.0 in
    let numbers = loaded_of (task_of c.args.worker.now) in
    let items = c.loop-place.loaded.items in
    let d = c.args.design.now in
    let inv = c.loop-place.invariant in
    let fits = subst (Fits k lists) c.requires.loading c.requires.fits.task in
    let long = ap length c.as_slice-2.ensures.value in
    let whole = all_now k l lists net numbers items d c.requires.design c.requires.lists fits inv.setting inv.seen inv.loaded c.of-reads.result.now c.as_slice-2.result.now c.of-reads.ensures c.as_slice-2.ensures.value
    (let at = inv.at in let done = c.loop-place-test.false in omega (arith, long, at, done)) in
    let is : c.evaluate_by-pair.result ≡ evaluated d (list_of lists net) items net = rw c.as_slice-2.ensures.value at c.evaluate_by-pair.ensures.value in
    let s = inv.steps order in
    let P : Task → Type 0 = λ t. (more : ℕ) × AreSteps d lists order (suc more) k t l (publishing net c.evaluate_by-pair.result 0) in
    subst P (sym c.requires.loading) (some_steps d lists order s.0 k l net numbers items c.evaluate_by-pair.result whole is s.1)

pub bounds-reads-place : goal.bounds-reads-place
bounds-reads-place g c = c.loop-place-test.true

pub evaluate_by-pair-requires-clause-groups : goal.evaluate_by-pair-requires-clause-groups
evaluate_by-pair-requires-clause-groups g c = c.requires.groups

pub evaluate_by-pair-requires-clause-lists : goal.evaluate_by-pair-requires-clause-lists
evaluate_by-pair-requires-clause-lists g c = c.requires.lists

pub evaluate_by-pair-requires-clause-look : goal.evaluate_by-pair-requires-clause-look
evaluate_by-pair-requires-clause-look g c = c.requires.look

pub evaluate_by-pair-requires-clause-places : goal.evaluate_by-pair-requires-clause-places
evaluate_by-pair-requires-clause-places g c =
    let few = c.requires.fits.places in
    let kept = c.loop-place.invariant.places in
    let same = ap length c.as_mut_slice.ensures.value in
    let count = c.requires.lists.count in
    omega (arith, few, kept, same, count)

pub push_reserved-requires : goal.push_reserved-requires
push_reserved-requires g c =
    let lists = c.args.lists.now in
    let net = c.args.net.0 in
    let items = c.loop-side.loaded.items in
    let outer = c.loop-place.invariant in
    let inv = c.loop-side.invariant in
    let more = more_of lists net c.of-reads.result.now items c.loop-place.loaded.items c.loop-place.place c.loop-side.side c.of-reads.ensures outer.at inv.at c.loop-side-test.true c.loop-place-test.true in
    let room = c.requires.fits.room net in
    let kept = inv.room in
    let long = c.loop-side.loaded.ok.0 in
    omega (arith, more, room, kept, long)

pub returns-clause-places : goal.returns-clause-places
returns-clause-places g c =
    let own = c.worker.inside.places in
    let same = c.evaluate_by-pair.ensures.count ∙ ap length c.as_mut_slice.ensures.value in
    ap length (rows_back own.len own.items c.evaluate_by-pair.new.places own.ok.0 same) ∙ (same ∙ c.loop-place.invariant.places)

pub returns-clause-room : goal.returns-clause-room
returns-clause-room g c = c.loop-place.invariant.room
