-- Actions of the machine keep its state good.
use Rattle.std.proofs.Common.{◌≡◌, ℕ, zero, suc, ◌+◌, ◌*◌, ◌%◌, ◌<◌, inl, inr, refl, sym, ap, subst, List, [], ◌∷◌, ◌++◌, length, set, get_or, arith}
use Rattle.std.specs.Prelude.{slice_index}
use Rattle.std.specs.List.{Contains}
use Rattle.std.proofs.lemmas.Int.{ints}
use Rattle.std.proofs.lemmas.Bool.{cases_lt}
use Rattle.std.proofs.lemmas.List.{set-get_or}
use Rattle.xt_model.specs.declared.direction.Direction.TheVariants.{Widen}
use Rattle.xt_model.specs.declared.edge.Edge.{Edge}
use Rattle.xt_model.specs.declared.edge.Edge.TheVariants.{Rise, Fall}
use Rattle.xt_model.specs.declared.net.NetId.{NetId}
use Rattle.xt_model.specs.declared.quad.Quad.{Quad}
use Rattle.xt_model.specs.Quads.{bottom, IsWithin, IsInRange, IsPairInRange}
use Rattle.xt_model.specs.Levels.{IsOrder}
use Rattle.xt_model.specs.Assign.{assigned, quads_of}
use Rattle.xt_meaning.specs.Overlap.{overlap_answers}
use Rattle.xt_meaning.specs.Operator.{operator}
use Rattle.xt_meaning.specs.Reads.{IsReadList, IsContainedAt}
use Rattle.xt_meaning.specs.Barrier.{IsBoundNoFurther}
use Rattle.xt_meaning.specs.Words.{quiet_number, number_for, number_at, bounds_in, onward, AreNoFurther, further}
use Rattle.xt_meaning.proofs.Growth.{wired}
use Rattle.xt_meaning.proofs.Monotone.{operator_mono_at}
use Rattle.xt_meaning.proofs.Order.{within_trans}
use Rattle.xt_meaning.proofs.Words.{quad_from_words}
use Rattle.xt_meaning.proofs.Steps.{bound_trans}
use Rattle.xt_meaning.proofs.Widest.{envelope_closed}
use Rattle.xt_meaning.proofs.Starts.{bottom_within_operator, windows_in_range}
use Rattle.net_eval.specs.ReadLists.{AreReadLists}
use Rattle.chaos_core.specs.declared.setting.Setting.{Setting}
use Rattle.chaos_core.specs.Boards.{nets_of, Knowledge, IsSeen, Loads, HasPublished}
use Rattle.chaos_core.specs.Tasks.{Task, idle, loading, publishing, done, list_of, word_to_load, loaded_bounds, evaluated, bound_at, with_loaded, moved_on}
use Rattle.chaos_core.specs.Steps.{AreLoaded, Fits}
use Rattle.chaos_core.specs.Machine.{State, task_in, act, acted, scheduled, known_in, IsGood, IsReached}
use Rattle.chaos_core.proofs.Places.{nets_read, order_there}
use Rattle.chaos_core.proofs.Sight.{are_refl, are_trans, onward_mono}
use Rattle.chaos_core.proofs.Loads.{none_loaded, loaded_later, loaded_within}
use Rattle.chaos_core.proofs.Moves.{below, not_below, with_loaded_fits, load_loaded, publish_onward, publish_fits}
use Rattle.chaos_core.proofs.Stages.{can_publish}
use Rattle.chaos_core.proofs.Kept.{moved_kept}

-- ---- what the operator makes of loaded words fits words
within_in_range : (q top : Quad) → IsWithin bottom q → IsWithin q top → IsInRange top → IsInRange q
within_in_range q top low high t = record {
  tlo = record { low = (let a = high.tlo in let b = t.tlo.low in omega (arith, ints, a, b)); high = low.tlo };
  thi = record { low = low.thi; high = (let a = high.thi in let b = t.thi.high in omega (arith, ints, a, b)) };
  slo = record { low = (let a = high.slo in let b = t.slo.low in omega (arith, ints, a, b)); high = low.slo };
  shi = record { low = low.shi; high = (let a = high.shi in let b = t.shi.high in omega (arith, ints, a, b)) };
}

module _ (a : Setting) (seen reads numbers : List ℕ) (net : ℕ) (sees : IsSeen a seen) (there : net < nets_of a) (list : IsReadList a.design net reads)
    (whole : length numbers ≡ 8 * length reads) (loaded : AreLoaded a seen reads numbers) where
  evaluated_within : (e : Edge) → IsInRange (operator a.design (quads_of (loaded_bounds reads numbers)) net e)
  evaluated_within e =
      let d = a.design in
      let w = sees.start.within in
      let W = quads_of (loaded_bounds reads numbers) in
      let T = assigned w.top in
      let R = Contains reads in
      let at : IsContainedAt R W T = record {
        each = λ m f has. quad_from_words Widen (loaded_bounds reads numbers) T m f (λ word is. loaded_within a seen reads numbers net sees there list whole loaded word (subst R (sym is) has));
      } in
      let one = operator_mono_at R d W T net e (wired d sees.sound) (nets_read d net reads list) at in
      let two = (envelope_closed d w.top (wired d sees.sound) w.envelope.widest).each net e in
      within_in_range (operator d W net e) (T net e) (bottom_within_operator d (overlap_answers d.period W) W net e sees.sound)
      (within_trans (operator d W net e) (operator d T net e) (T net e) one two) (windows_in_range d w.top w.envelope.windows net e)

  pub evaluated_range : IsPairInRange (evaluated a.design reads numbers net)
  evaluated_range = record { rise = evaluated_within Rise; fall = evaluated_within Fall }

pub loaded_fits : (l : Knowledge) (lists : List (List NetId)) (net : ℕ) (numbers : List ℕ) → IsSeen l.setting l.seen → net < nets_of l.setting → IsReadList l.setting.design net (list_of lists net)
    → AreLoaded l.setting l.seen (list_of lists net) numbers → Fits l lists (with_loaded l.setting.design (list_of lists net) net numbers)
loaded_fits l lists net numbers seen there list loaded =
    let reads = list_of lists net in
    with_loaded_fits l lists net numbers seen there list loaded
    (λ h. let c = loaded.count in evaluated_range l.setting l.seen reads numbers net seen there list (omega (arith, c, h)) loaded)

-- ---- the other workers
-- what fits the words fits them as they move on
pub fits_later : (k l : Knowledge) (lists : List (List NetId)) (t : Task) → l.setting ≡ k.setting → IsSeen l.setting l.seen → AreNoFurther k.setting.way (bounds_in k.seen) (bounds_in l.seen) → Fits k lists t → Fits l lists t
fits_later k l lists idle e seen on f = tt
fits_later k l lists (loading net numbers) e seen on f = record {
  seen = seen;
  there = subst (λ (a : Setting). net < nets_of a) (sym e) f.there;
  more = f.more;
  loaded = subst (λ (a : Setting). AreLoaded a l.seen (list_of lists net) numbers) (sym e) (loaded_later k.setting k.seen l.seen (list_of lists net) numbers on f.loaded);
}
fits_later k l lists (publishing net pair place) e seen on f =
    let d = k.setting.design in
    let way = k.setting.way in
    let far = onward_mono way d (bounds_in k.seen) (bounds_in l.seen) f.seen.sound on in
    let P : Setting → Type 0 = λ a. (i : ℕ) → i < 8 → IsBoundNoFurther a.way (i % 2) (bound_at pair i) (onward a.design (bounds_in l.seen) (8 * net + i)) in
    record {
      seen = seen;
      there = subst (λ (a : Setting). net < nets_of a) (sym e) f.there;
      more = f.more;
      range = f.range;
      fits = subst P (sym e) (λ i lt.
          let w = 8 * net + i in
          let par : w % 2 ≡ i % 2 = omega arith in
          let up = subst (λ s. IsBoundNoFurther way s (onward d (bounds_in k.seen) w) (onward d (bounds_in l.seen) w)) par (far w) in
          bound_trans way (i % 2) (bound_at pair i) (onward d (bounds_in k.seen) w) (onward d (bounds_in l.seen) w) (f.fits i lt) up);
    }
fits_later k l lists done e seen on f = tt

-- a task is set, and all others are as they were
pub each_task : (P : Task → Type 0) (tasks : List Task) (worker : ℕ) (t : Task) → P t → P done → ((w : ℕ) → P (get_or tasks w done)) → (w : ℕ) → P (get_or (set tasks worker t) w done)
each_task P [] worker t own last others w = last
each_task P (x ∷ tasks) zero t own last others zero = own
each_task P (x ∷ tasks) zero t own last others (suc w) = others (suc w)
each_task P (x ∷ tasks) (suc worker) t own last others zero = others zero
each_task P (x ∷ tasks) (suc worker) t own last others (suc w) = each_task P tasks worker t own last (λ v. others (suc v)) w

-- ---- one action
module _ (a : Setting) (lists : List (List NetId)) (order : List ℕ) (s : State) (worker : ℕ) (are : AreReadLists a.design lists) (o : IsOrder a.design.nets order) (good : IsGood a lists s) where
  -- with the words as they were
  stayed : (next : ℕ) (t : Task) → Fits (known_in a (record { words = s.words; next = next; tasks = [] })) lists t
      → IsReached a lists s (record { words = s.words; next = next; tasks = set s.tasks worker t })
  stayed next t own =
      let l = known_in a (record { words = s.words; next = next; tasks = [] }) in
      record {
        good = record {
          words = good.words;
          tasks = each_task (Fits l lists) s.tasks worker t own tt
              (λ w. fits_later (known_in a s) l lists (get_or s.tasks w done) refl good.words.seen (are_refl a.way (bounds_in s.words)) (good.tasks w));
        };
        onward = are_refl a.way (bounds_in s.words);
      }

  drawn_task : (next : ℕ) → Fits (known_in a (record { words = s.words; next = next; tasks = [] })) lists (moved_on a.design lists order idle s.next)
  drawn_task next =
      let l = known_in a (record { words = s.words; next = next; tasks = [] }) in
      let nets = nets_of a in
      let net = slice_index order s.next in
      elim (cases_lt s.next nets) [
        | inl p ↦
            let there = order_there a.design order s.next o p in
            rw (below s.next nets p) (loaded_fits l lists net [] good.words.seen there (are.each net there) (none_loaded a s.words (list_of lists net)))
        | inr p ↦ rw (not_below s.next nets p) tt
      ]

  pub act_reached : (t : Task) → Fits (known_in a s) lists t → IsReached a lists s (act a lists order s worker t)
  act_reached idle f = stayed (s.next + 1) (moved_on a.design lists order idle s.next) (drawn_task (s.next + 1))
  act_reached (loading net numbers) f =
      let l = known_in a (record { words = s.words; next = s.next; tasks = [] }) in
      let reads = list_of lists net in
      let word = word_to_load reads (length numbers) in
      let n = number_at s.words word in
      let loads : Loads l word n l = record {
        found = record { respects = good.words.seen.respects word; past = are_refl a.way (bounds_in s.words) word; alone = λ h. refl };
        after = sym (ap (λ ws. record l { seen = ws }) (set-get_or s.words word (quiet_number (word % 2))));
      } in
      let loaded = load_loaded l l lists net numbers word n are f refl loads good.words.seen in
      stayed s.next (moved_on a.design lists order (loading net numbers) n) (loaded_fits l lists net (numbers ++ n ∷ []) good.words.seen f.there (are.each net f.there) loaded)
  act_reached (publishing net pair place) f =
      let word = 8 * net + place in
      let value = number_for (bound_at pair place) in
      let n = number_at s.words word in
      let left = further a.way (word % 2) n value in
      let there = f.there in
      let more = f.more in
      let inside : word < length s.words = let c = good.words.seen.count in omega (arith, c, there, more) in
      let before = known_in a s in
      let later = known_in a (record { words = set s.words word left; next = s.next; tasks = [] }) in
      let can = can_publish before net pair place value f refl in
      let kept = moved_kept a s.words word value good.words inside can in
      let published : HasPublished before word value later = (
        n,
        record {
          found = record { respects = good.words.seen.respects word; past = are_refl a.way (bounds_in s.words) word; alone = λ h. refl };
          after = refl;
        },
      ) in
      let on = publish_onward before later word value inside published in
      let own : Fits later lists (moved_on a.design lists order (publishing net pair place) n) = elim (cases_lt (place + 1) 8) [
        | inl p ↦ rw (below (place + 1) 8 p) (publish_fits before later lists net pair place value f published kept.seen p)
        | inr p ↦ rw (not_below (place + 1) 8 p) tt
      ] in
      record {
        good = record {
          words = kept;
          tasks = each_task (Fits later lists) s.tasks worker (moved_on a.design lists order (publishing net pair place) n) own tt
              (λ w. fits_later before later lists (get_or s.tasks w done) refl kept.seen on (good.tasks w));
        };
        onward = on;
      }
  act_reached done f = record { good = good; onward = are_refl a.way (bounds_in s.words) }

pub schedule_reached : (a : Setting) (lists : List (List NetId)) (order : List ℕ) (s : State) (picks : List ℕ) → AreReadLists a.design lists → IsOrder a.design.nets order → IsGood a lists s
    → IsReached a lists s (scheduled a lists order s picks)
schedule_reached a lists order s [] are o good = record { good = good; onward = are_refl a.way (bounds_in s.words) }
schedule_reached a lists order s (pick ∷ more) are o good =
    let one = act_reached a lists order s pick are o good (task_in s pick) (good.tasks pick) in
    let t = acted a lists order s pick in
    let rest = schedule_reached a lists order t more are o one.good in
    record { good = rest.good; onward = are_trans a.way (bounds_in s.words) (bounds_in t.words) (bounds_in (scheduled a lists order t more).words) one.onward rest.onward }
