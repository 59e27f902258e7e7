-- What the workers of a round have passed, action by action.
use Rattle.std.proofs.Common.{◌≡◌, ◌≢◌, ℕ, ◌+◌, ◌*◌, ◌%◌, ◌<◌, ◌≤◌, ◌⊎◌, inl, inr, refl, sym, ap, subst, ◌∙◌, List, [], ◌∷◌, ◌++◌, length, set, arith}
use Rattle.std.specs.Prelude.{slice_index}
use Rattle.std.proofs.lemmas.Bool.{cases_lt, cases_eq}
use Rattle.std.proofs.lemmas.List.{set-get_or, get_or-set_same, get_or-set_other, length-set, length-append}
use Rattle.xt_model.specs.declared.net.NetId.{NetId}
use Rattle.xt_model.specs.declared.quad.Pair.{Pair}
use Rattle.xt_model.specs.Levels.{IsOrder}
use Rattle.xt_meaning.specs.Words.{quiet_number, number_for, number_at, bounds_in, onward, AreNoFurther, further}
use Rattle.xt_meaning.specs.Barrier.{IsBoundNoFurther}
use Rattle.net_eval.specs.ReadLists.{AreReadLists}
use Rattle.chaos_core.specs.declared.setting.Setting.{Setting}
use Rattle.chaos_core.specs.Boards.{nets_of, Loads, Publishes}
use Rattle.chaos_core.specs.Tasks.{Task, idle, loading, publishing, done, list_of, word_to_load, bound_at, with_loaded, moved_on}
use Rattle.chaos_core.specs.Steps.{Fits}
use Rattle.chaos_core.specs.Runs.{IsDone, HasPassed}
use Rattle.chaos_core.specs.Machine.{State, task_in, act, known_in, IsGood, IsReached}
use Rattle.chaos_core.proofs.Places.{order_there}
use Rattle.chaos_core.proofs.Sight.{are_refl, are_trans}
use Rattle.chaos_core.proofs.Moves.{below, not_below}
use Rattle.chaos_core.proofs.Running.{IsAt, ArePast, IsPast, IsBusy, HasBegun, begun, passed_later, past_more, published_word}
use Rattle.chaos_core.proofs.Actions.{each_task, act_reached}

-- from `before` to `now` the net at each place that was drawn is passed, or some worker is at it
pub record HasGone (a : Setting) (lists : List (List NetId)) (order : List ℕ) (before now : State) : Type 0 where
  pub good : IsGood a lists now
  pub count : length now.tasks ≡ length before.tasks
  pub onward : AreNoFurther a.way (bounds_in before.words) (bounds_in now.words)
  pub places : (n : ℕ) → n < now.next → n < nets_of a
      → ((w : ℕ) × IsAt (task_in now w) (slice_index order n)) ⊎ HasPassed (known_in a before) (known_in a now) (slice_index order n) 8
  pub busy : (w : ℕ) → IsBusy lists (known_in a before) (known_in a now) (task_in now w)
  pub ended : (w : ℕ) → w < length now.tasks → IsDone (task_in now w) → nets_of a ≤ now.next

-- what a worker is at after its action, and what it leaves
record HasMoved (a : Setting) (lists : List (List NetId)) (order : List ℕ) (before now later : State) (t u : Task) : Type 0 where
  good : IsGood a lists later
  on : AreNoFurther a.way (bounds_in now.words) (bounds_in later.words)
  nexts : now.next ≤ later.next
  fresh : (n : ℕ) → n < later.next → n < nets_of a → (n < now.next) ⊎ IsAt u (slice_index order n)
  kept : (net : ℕ) → IsAt t net → IsAt u net ⊎ HasPassed (known_in a before) (known_in a later) net 8
  busy : IsBusy lists (known_in a before) (known_in a later) u
  ended : IsDone u → nets_of a ≤ later.next

module _ (a : Setting) (lists : List (List NetId)) (order : List ℕ) (before now : State) (are : AreReadLists a.design lists) (o : IsOrder a.design.nets order) (gone : HasGone a lists order before now)
    (pick : ℕ) (inside : pick < length now.tasks) where
  still_passed : (later : State) → AreNoFurther a.way (bounds_in now.words) (bounds_in later.words) → (net most : ℕ) → HasPassed (known_in a before) (known_in a now) net most
      → HasPassed (known_in a before) (known_in a later) net most
  still_passed later on net most h = passed_later lists order (known_in a before) (known_in a now) (known_in a later) gone.good.words.seen.sound are o on net most h

  still_busy : (later : State) → AreNoFurther a.way (bounds_in now.words) (bounds_in later.words) → (t : Task) → IsBusy lists (known_in a before) (known_in a now) t
      → IsBusy lists (known_in a before) (known_in a later) t
  still_busy later on idle h = tt
  still_busy later on (loading net numbers) h = h
  still_busy later on (publishing net pair place) h = (h.0, still_passed later on net place h.1)
  still_busy later on done h = tt

  module _ (words : List ℕ) (next : ℕ) (t u : Task) (at : task_in now pick ≡ t) where
    abbrev pub after : State
    after = record { words = words; next = next; tasks = set now.tasks pick u }

    task_here : task_in after pick ≡ u
    task_here = get_or-set_same now.tasks pick u done inside

    task_else : (w : ℕ) → w ≢ pick → task_in after w ≡ task_in now w
    task_else w ne = get_or-set_other now.tasks pick w u done ne

    place_gone : HasMoved a lists order before now after t u → (n : ℕ) → n < next → n < nets_of a
        → ((w : ℕ) × IsAt (task_in after w) (slice_index order n)) ⊎ HasPassed (known_in a before) (known_in a after) (slice_index order n) 8
    place_gone m n lt in_nets =
        let net = slice_index order n in
        elim (m.fresh n lt in_nets) [
          | inl old ↦ elim (gone.places n old in_nets) [
            | inl p ↦ elim (cases_eq p.0 pick) [
              | inl e ↦
                  let mine : IsAt t net = subst (λ v. IsAt v net) at (subst (λ w. IsAt (task_in now w) net) e p.1) in
                  elim (m.kept net mine) [ inl x ↦ inl (pick, subst (λ v. IsAt v net) (sym task_here) x) | inr x ↦ inr x ]
              | inr ne ↦ inl (p.0, subst (λ v. IsAt v net) (sym (task_else p.0 ne)) p.1)
            ]
            | inr p ↦ inr (still_passed after m.on net 8 p)
          ]
          | inr here ↦ inl (pick, subst (λ v. IsAt v net) (sym task_here) here)
        ]

    worker_ended : HasMoved a lists order before now after t u → (w : ℕ) → w < length after.tasks → IsDone (task_in after w) → nets_of a ≤ next
    worker_ended m w there dn = elim (cases_eq w pick) [
      | inl e ↦ m.ended (subst IsDone (ap (λ v. task_in after v) e ∙ task_here) dn)
      | inr ne ↦
          let c : length after.tasks ≡ length now.tasks = length-set now.tasks pick u in
          let k = gone.ended w (omega (arith, c, there)) (subst IsDone (task_else w ne) dn) in
          let x = m.nexts in
          omega (arith, k, x)
    ]

    gone_after : HasMoved a lists order before now after t u → HasGone a lists order before after
    gone_after m = record {
      good = m.good;
      count = length-set now.tasks pick u ∙ gone.count;
      onward = are_trans a.way (bounds_in before.words) (bounds_in now.words) (bounds_in words) gone.onward m.on;
      places = place_gone m;
      busy = each_task (IsBusy lists (known_in a before) (known_in a after)) now.tasks pick u m.busy tt (λ w. still_busy after m.on (task_in now w) (gone.busy w));
      ended = worker_ended m;
    }

  reached : (t : Task) → task_in now pick ≡ t → IsReached a lists now (act a lists order now pick t)
  reached t at = act_reached a lists order now pick are o gone.good t (subst (Fits (known_in a now) lists) at (gone.good.tasks pick))

  -- ---- a draw
  drew : task_in now pick ≡ idle → HasGone a lists order before (act a lists order now pick idle)
  drew at =
      let k = known_in a before in
      let n = now.next in
      let net = slice_index order n in
      let u = moved_on a.design lists order idle n in
      let later = act a lists order now pick idle in
      let good = (reached idle at).good in
      let on = are_refl a.way (bounds_in now.words) in
      let m : HasMoved a lists order before now later idle u = elim (cases_lt n (nets_of a)) [
        | inl p ↦
            let there = order_there a.design order n o p in
            let b = begun lists k (known_in a later) net [] gone.good.words.seen.sound (are.each net there) (omega arith) (λ i h. absurd (omega arith)) in
            let e : u ≡ with_loaded a.design (list_of lists net) net [] = rw (below n (nets_of a) p) refl in
            let c : HasBegun lists k (known_in a later) net u = subst (HasBegun lists k (known_in a later) net) (sym e) b in
            record {
              good = good;
              on = on;
              nexts = omega arith;
              fresh = λ i lt in_nets. elim (cases_lt i n) [
                | inl old ↦ inl old
                | inr new ↦ let same : n ≡ i = omega (arith, lt, new) in inr (subst (λ j. IsAt u (slice_index order j)) same c.here)
              ];
              kept = λ own h. absurd h;
              busy = c.busy;
              ended = λ dn. absurd (c.more dn);
            }
        | inr p ↦
            let e : u ≡ done = rw (not_below n (nets_of a) p) refl in
            record {
              good = good;
              on = on;
              nexts = omega arith;
              fresh = λ i lt in_nets. inl (omega (arith, p, in_nets));
              kept = λ own h. absurd h;
              busy = subst (IsBusy lists k (known_in a later)) (sym e) tt;
              ended = λ dn. omega (arith, p);
            }
      ] in
      gone_after now.words (n + 1) idle u at m

  -- ---- a load
  loaded : (net : ℕ) (numbers : List ℕ) → task_in now pick ≡ loading net numbers → HasGone a lists order before (act a lists order now pick (loading net numbers))
  loaded net numbers at =
      let k = known_in a before in
      let l = known_in a now in
      let reads = list_of lists net in
      let word = word_to_load reads (length numbers) in
      let n = number_at now.words word in
      let u = moved_on a.design lists order (loading net numbers) n in
      let later = act a lists order now pick (loading net numbers) in
      let good = (reached (loading net numbers) at).good in
      let f = subst (Fits l lists) at (gone.good.tasks pick) in
      let was : ArePast k reads numbers = subst (IsBusy lists k l) at (gone.busy pick) in
      let loads : Loads l word n l = record {
        found = record { respects = gone.good.words.seen.respects word; past = are_refl a.way (bounds_in now.words) word; alone = λ h. refl };
        after = sym (ap (λ ws. record l { seen = ws }) (set-get_or now.words word (quiet_number (word % 2))));
      } in
      let past = past_more lists order k l l gone.good.words.seen.sound are o reads numbers n refl gone.onward loads was in
      let len : length (numbers ++ n ∷ []) ≡ length numbers + 1 = length-append numbers (n ∷ []) in
      let few = f.more in
      let c : HasBegun lists k (known_in a later) net u = begun lists k (known_in a later) net (numbers ++ n ∷ []) gone.good.words.seen.sound (are.each net f.there) (omega (arith, len, few)) past in
      gone_after now.words now.next (loading net numbers) u at (record {
        good = good;
        on = are_refl a.way (bounds_in now.words);
        nexts = omega arith;
        fresh = λ i lt in_nets. inl lt;
        kept = λ own h. inl (subst (IsAt u) h c.here);
        busy = c.busy;
        ended = λ dn. absurd (c.more dn);
      })

  -- ---- a publication
  published : (net : ℕ) (pair : Pair) (place : ℕ) → task_in now pick ≡ publishing net pair place → HasGone a lists order before (act a lists order now pick (publishing net pair place))
  published net pair place at =
      let k = known_in a before in
      let l = known_in a now in
      let word = 8 * net + place in
      let n = number_at now.words word in
      let left = further a.way (word % 2) n (number_for (bound_at pair place)) in
      let u = moved_on a.design lists order (publishing net pair place) n in
      let later = act a lists order now pick (publishing net pair place) in
      let m = known_in a later in
      let r = reached (publishing net pair place) at in
      let f = subst (Fits l lists) at (gone.good.tasks pick) in
      let was : IsPast k net pair × HasPassed k l net place = subst (IsBusy lists k l) at (gone.busy pick) in
      let h : Publishes l word n left m = record {
        found = record { respects = gone.good.words.seen.respects word; past = are_refl a.way (bounds_in now.words) word; alone = λ h. refl };
        after = refl;
      } in
      let sound = gone.good.words.seen.sound in
      let passed : HasPassed k m net (place + 1) = λ i lt. elim (cases_lt i place) [
        | inl p ↦ still_passed later r.onward net place was.1 i p
        | inr p ↦
            let e : place ≡ i = omega (arith, p, lt) in
            subst (λ j. IsBoundNoFurther a.way (j % 2) (onward a.design (bounds_in before.words) (8 * net + j)) (bounds_in later.words (8 * net + j))) e
            (published_word lists order k l m sound are o net place pair n f refl was.0 h)
      ] in
      let moved : HasMoved a lists order before now later (publishing net pair place) u = elim (cases_lt (place + 1) 8) [
        | inl p ↦
            let e : u ≡ publishing net pair (place + 1) = rw (below (place + 1) 8 p) refl in
            record {
              good = r.good;
              on = r.onward;
              nexts = omega arith;
              fresh = λ i lt in_nets. inl lt;
              kept = λ own same. inl (subst (λ v. IsAt v own) (sym e) same);
              busy = subst (IsBusy lists k m) (sym e) (was.0, passed);
              ended = λ dn. absurd (subst IsDone e dn);
            }
        | inr p ↦
            let e : u ≡ idle = rw (not_below (place + 1) 8 p) refl in
            record {
              good = r.good;
              on = r.onward;
              nexts = omega arith;
              fresh = λ i lt in_nets. inl lt;
              kept = λ own same. inr (subst (λ v. HasPassed k m v 8) same (λ j lt. passed j (omega (arith, lt, p))));
              busy = subst (IsBusy lists k m) (sym e) tt;
              ended = λ dn. absurd (subst IsDone e dn);
            }
      ] in
      gone_after (set now.words word left) now.next (publishing net pair place) u at moved

  -- one action
  acted_at : (t : Task) → task_in now pick ≡ t → HasGone a lists order before (act a lists order now pick t)
  acted_at idle at = drew at
  acted_at (loading net numbers) at = loaded net numbers at
  acted_at (publishing net pair place) at = published net pair place at
  acted_at done at = gone

  pub gone_on : HasGone a lists order before (act a lists order now pick (task_in now pick))
  gone_on = acted_at (task_in now pick) refl
