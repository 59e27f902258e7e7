-- Several steps of a worker, one after another.
use Rattle.std.proofs.Common.{◌≡◌, ℕ, zero, suc, ◌+◌, ◌*◌, ◌%◌, ◌<◌, ◌≤◌, nat_lt, if◌then◌else◌, ◌⊎◌, inl, inr, refl, sym, ap, subst, ◌∙◌, List, [], ◌∷◌, ◌++◌, length, arith}
use Rattle.xt_model.specs.declared.net.NetId.{NetId}
use Rattle.xt_model.specs.declared.quad.Pair.{Pair}
use Rattle.xt_model.specs.Quads.{IsPairInRange}
use Rattle.xt_model.specs.Parts.{Parts}
use Rattle.xt_model.specs.Sound.{IsSound}
use Rattle.xt_model.specs.Levels.{IsOrder}
use Rattle.xt_meaning.specs.Reads.{IsReadList}
use Rattle.xt_meaning.specs.Words.{number_for, further}
use Rattle.net_eval.specs.ReadLists.{AreReadLists, ids, reads_of}
use Rattle.chaos_core.specs.declared.setting.Setting.{Setting}
use Rattle.chaos_core.specs.declared.worker.Moved.{Moved}
use Rattle.chaos_core.specs.declared.worker.Moved.TheVariants.{Loaded, Published}
use Rattle.chaos_core.specs.Boards.{nets_of, Knowledge, HasPublished, IsSeen, Loads, Publishes}
use Rattle.chaos_core.specs.Tasks.{Task, idle, loading, publishing, done, list_of, word_to_load, bound_at, evaluated, with_loaded}
use Rattle.chaos_core.specs.Steps.{AreLoaded, FitsLoading, FitsPublishing, Fits, Steps, AreSteps}
use Rattle.chaos_core.specs.Runs.{IsDone}
use Rattle.chaos_core.specs.Views.{IsLoaded}
use Rattle.chaos_core.proofs.Places.{ids_count}
use Rattle.chaos_core.proofs.Moves.{below, not_below, load_inside, load_loaded, with_loaded_fits}
use Rattle.chaos_core.proofs.Stages.{stage_whole}
use Rattle.chaos_core.proofs.Running.{Running}
use Rattle.chaos_core.proofs.Ends.{ahead, runs_on, nearer_on}

is_done_or : (t : Task) → IsDone t ⊎ (IsDone t → ⊥)
is_done_or idle = inr (λ h. h)
is_done_or (loading net numbers) = inr (λ h. h)
is_done_or (publishing net pair place) = inr (λ h. h)
is_done_or done = inl tt

-- steps after steps
pub steps_on : (d : Parts) (lists : List (List NetId)) (order : List ℕ) (m n : ℕ) (k l p : Knowledge) (t u v : Task) → AreSteps d lists order m k t l u → AreSteps d lists order n l u p v
    → (count : ℕ) × AreSteps d lists order count k t p v
steps_on d lists order m zero k l p t u v s r = (m, subst (λ w. AreSteps d lists order m k t p w) (sym r.1) (subst (λ x. AreSteps d lists order m k t x u) (sym r.0) s))
steps_on d lists order m (suc n) k l p t u v s r =
    let before = steps_on d lists order m n k l r.0 t u r.1 s r.3 in
    (suc before.0, (r.0, r.1, r.2, before.1, r.4, r.5))

module _ (lists : List (List NetId)) (d : Parts) (order : List ℕ) (k : Knowledge) (own : k.setting.design ≡ d) (sound : IsSound d) (are : AreReadLists d lists) (o : IsOrder d.nets order) where
  pub run_over : (n : ℕ) (l m : Knowledge) (t u : Task) → AreSteps d lists order n l t m u → Running lists order k l t → Running lists order k m u
  run_over zero l m t u s r = subst (λ v. Running lists order k m v) (sym s.1) (subst (λ x. Running lists order k x t) (sym s.0) r)
  run_over (suc n) l m t u s r =
      let before = run_over n l s.0 t s.1 s.3 r in
      runs_on lists d order k s.0 m s.1 u s.2 own s.4 s.5 before sound are o

  -- a worker that is done stays where it is
  done_stays : (l m : Knowledge) (t u : Task) (moved : Moved) (room : ℕ) → IsDone t → Steps d lists order l t moved m u → ahead room (length d.nets) m.drawn u ≤ ahead room (length d.nets) l.drawn t
  done_stays l m idle u moved room h s = absurd h
  done_stays l m (loading net numbers) u moved room h s = absurd h
  done_stays l m (publishing net pair place) u moved room h s = absurd h
  done_stays l m done u moved room h s =
      let P : Task → Type 0 = λ v. ahead room (length d.nets) m.drawn v ≤ ahead room (length d.nets) l.drawn done in
      let Q : Knowledge → Type 0 = λ x. ahead room (length d.nets) x.drawn done ≤ ahead room (length d.nets) l.drawn done in
      subst P (sym s.next) (subst Q (sym s.acts) (omega arith))

  no_further : (l m : Knowledge) (t u : Task) (moved : Moved) (room : ℕ) → ((net : ℕ) → 8 * length (list_of lists net) ≤ room) → Fits l lists t → Steps d lists order l t moved m u → Running lists order k l t
      → ahead room (length d.nets) m.drawn u ≤ ahead room (length d.nets) l.drawn t
  no_further l m t u moved room fit fits s r = elim (is_done_or t) [
    | inl h ↦ done_stays l m t u moved room h s
    | inr go ↦ let less = nearer_on lists d order k l m t u moved own fits s r room room refl fit go in omega (arith, less)
  ]

  -- one step or more of a worker that is not done leave fewer to come
  pub some_nearer : (n : ℕ) (l m : Knowledge) (t u : Task) (room : ℕ) → ((net : ℕ) → 8 * length (list_of lists net) ≤ room) → (IsDone t → ⊥) → AreSteps d lists order (suc n) l t m u → Running lists order k l t
      → ahead room (length d.nets) m.drawn u < ahead room (length d.nets) l.drawn t
  some_nearer zero l m t u room fit go s r =
      let P : Knowledge → Task → Type 0 = λ x v. Fits x lists v → Steps d lists order x v s.2 m u → ahead room (length d.nets) m.drawn u < ahead room (length d.nets) l.drawn t in
      let first : P l t = λ f st. nearer_on lists d order k l m t u s.2 own f st r room room refl fit go in
      subst (λ v. P s.0 v) (sym s.3.1) (subst (λ x. P x t) (sym s.3.0) first) s.4 s.5
  some_nearer (suc n) l m t u room fit go s r =
      let before = some_nearer n l s.0 t s.1 room fit go s.3 r in
      let last = no_further s.0 m s.1 u s.2 room fit s.4 s.5 (run_over (suc n) l s.0 t s.1 s.3 r) in
      omega (arith, before, last)

-- ---- the rest of a read list is loaded
abbrev IsLoading : Task → Type 0
IsLoading idle = ⊥
IsLoading (loading net numbers) = Unit {0}
IsLoading (publishing net pair place) = ⊥
IsLoading done = ⊥

pub none_more : (d : Parts) (lists : List (List NetId)) (order : List ℕ) (k : Knowledge) (net : ℕ) (numbers : List ℕ) → length numbers < 8 * length (list_of lists net)
    → AreSteps d lists order 0 k (loading net numbers) k (with_loaded d (list_of lists net) net numbers)
none_more d lists order k net numbers more = (refl, rw (below (length numbers) (8 * length (list_of lists net)) more) refl)

pub one_more : (d : Parts) (lists : List (List NetId)) (order : List ℕ) (n : ℕ) (k l m : Knowledge) (t : Task) (net : ℕ) (items later : List ℕ) (word number : ℕ) → FitsLoading l lists net items
    → word ≡ word_to_load (list_of lists net) (length items) → Loads l word number m → later ≡ items ++ number ∷ [] → AreSteps d lists order n k t l (with_loaded d (list_of lists net) net items)
    → AreSteps d lists order (suc n) k t m (with_loaded d (list_of lists net) net later)
one_more d lists order n k l m t net items later word number fits is loads pushed before =
    let b = below (length items) (8 * length (list_of lists net)) fits.more in
    let at : AreSteps d lists order n k t l (loading net items) = rw b at before in
    rw pushed (
      l,
      loading net items,
      Loaded (word_to_load (list_of lists net) (length items)),
      at,
      fits,
      record {
        answer = number;
        acts = subst (λ w. Loads l w number m) is loads;
        next = refl;
        move = refl;
      },
    )

pub some_steps : (d : Parts) (lists : List (List NetId)) (order : List ℕ) (n : ℕ) (k l : Knowledge) (net : ℕ) (numbers items : List ℕ) (pair : Pair) → 8 * length (list_of lists net) ≤ length items
    → pair ≡ evaluated d (list_of lists net) items net → AreSteps d lists order n k (loading net numbers) l (with_loaded d (list_of lists net) net items)
    → (more : ℕ) × AreSteps d lists order (suc more) k (loading net numbers) l (publishing net pair 0)
some_steps d lists order zero k l net numbers items pair whole is s =
    let e : publishing net (evaluated d (list_of lists net) items net) 0 ≡ loading net numbers = rw (not_below (length items) (8 * length (list_of lists net)) whole) at s.1 in
    absurd (subst IsLoading (sym e) tt)
some_steps d lists order (suc n) k l net numbers items pair whole is s =
    let P : Task → Type 0 = λ v. AreSteps d lists order (suc n) k (loading net numbers) l v in
    let ended : P (publishing net (evaluated d (list_of lists net) items net) 0) = rw (not_below (length items) (8 * length (list_of lists net)) whole) at s in
    (n, subst (λ p. P (publishing net p 0)) (sym is) ended)

module _ (k l : Knowledge) (lists : List (List NetId)) (net : ℕ) (numbers items : List ℕ) (d : Parts) (own : k.setting.design ≡ d) (are : AreReadLists d lists) (fits : FitsLoading k lists net numbers)
    (same : l.setting ≡ k.setting) (seen : IsSeen l.setting l.seen) (loaded : AreLoaded l.setting l.seen (list_of lists net) items) where
  pub own_now : l.setting.design ≡ d
  own_now = ap (λ (a : Setting). a.design) same ∙ own

  there_now : net < nets_of l.setting
  there_now = subst (λ (a : Setting). net < nets_of a) (sym same) fits.there

  pub lists_now : AreReadLists l.setting.design lists
  lists_now = subst (λ x. AreReadLists x lists) (sym own_now) are

  list_now : IsReadList l.setting.design net (list_of lists net)
  list_now = lists_now.each net there_now

  pub fits_now : length items < 8 * length (list_of lists net) → FitsLoading l lists net items
  fits_now more = record { seen = seen; there = there_now; more = more; loaded = loaded }

  pub more_now : (reads : List NetId) (given : List ℕ) → reads ≡ reads_of lists net → given ≡ items → length given < 8 * length reads → length items < 8 * length (list_of lists net)
  more_now reads given is sized more =
      let c = ids_count (reads_of lists net) in
      let long = ap length is in
      let g = ap length sized in
      omega (arith, c, long, g, more)

  pub all_now : (reads : List NetId) (given : List ℕ) → reads ≡ reads_of lists net → given ≡ items → 8 * length reads ≤ length given → 8 * length (list_of lists net) ≤ length items
  all_now reads given is sized whole =
      let c = ids_count (reads_of lists net) in
      let long = ap length is in
      let g = ap length sized in
      omega (arith, c, long, g, whole)

  pub whole_now : (reads : List NetId) (given : List ℕ) → reads ≡ reads_of lists net → given ≡ items → 8 * length reads ≤ length given → IsLoaded d (ids reads) net given
  whole_now reads given is sized whole =
      let c = ids_count (reads_of lists net) in
      let n = loaded.count in
      let long = ap length is in
      let g = ap length sized in
      stage_whole l lists net d reads given items own_now is sized seen there_now list_now loaded (omega (arith, c, n, long, g, whole))

  pub publishes_now : (reads : List NetId) (given : List ℕ) (pair : Pair) → reads ≡ reads_of lists net → given ≡ items → 8 * length reads ≤ length given → pair ≡ evaluated d (ids reads) given net → IsPairInRange pair
      → FitsPublishing l net pair 0
  publishes_now reads given pair is sized whole value range =
      let w = all_now reads given is sized whole in
      let e : pair ≡ evaluated l.setting.design (list_of lists net) items net = rw (own_now, ← is, ← sized) value in
      let r : IsPairInRange (evaluated l.setting.design (list_of lists net) items net) = subst IsPairInRange e range in
      let f = with_loaded_fits l lists net items seen there_now list_now loaded (λ h. r) in
      let p : FitsPublishing l net (evaluated l.setting.design (list_of lists net) items net) 0 = rw (not_below (length items) (8 * length (list_of lists net)) w) at f in
      subst (λ x. FitsPublishing l net x 0) (sym e) p

  -- one word more
  module _ (word : ℕ) (is : word ≡ word_to_load (list_of lists net) (length items)) (more : length items < 8 * length (list_of lists net)) where
    pub inside_now : word < 8 * nets_of l.setting
    inside_now = load_inside l l lists net items word 0 lists_now (fits_now more) is

    pub loaded_then : (m : Knowledge) (number : ℕ) (later : List ℕ) → Loads l word number m → IsSeen m.setting m.seen → later ≡ items ++ number ∷ [] → AreLoaded m.setting m.seen (list_of lists net) later
    loaded_then m number later loads now pushed = rw pushed (load_loaded l m lists net items word number lists_now (fits_now more) is loads now)

    pub steps_then : (m : Knowledge) (number : ℕ) (later : List ℕ) (order : List ℕ) (n : ℕ) → Loads l word number m → later ≡ items ++ number ∷ []
        → AreSteps d lists order n k (loading net numbers) l (with_loaded d (list_of lists net) net items) → AreSteps d lists order (suc n) k (loading net numbers) m (with_loaded d (list_of lists net) net later)
    steps_then m number later order n loads pushed before = one_more d lists order n k l m (loading net numbers) net items later word number (fits_now more) is loads pushed before

-- ---- the rest of a net's words is published
-- a worker that has published this many words of its net
abbrev pub published_to : ℕ → Pair → ℕ → Task
published_to net pair place = if nat_lt place 8 then publishing net pair place else idle

pub publish_none : (d : Parts) (lists : List (List NetId)) (order : List ℕ) (k : Knowledge) (net place : ℕ) (pair : Pair) → place < 8
    → AreSteps d lists order 0 k (publishing net pair place) k (published_to net pair place)
publish_none d lists order k net place pair more = (refl, rw (below place 8 more) refl)

pub publish_more : (d : Parts) (lists : List (List NetId)) (order : List ℕ) (n : ℕ) (k l m : Knowledge) (t : Task) (net : ℕ) (pair : Pair) (place value : ℕ) → FitsPublishing l net pair place
    → value ≡ number_for (bound_at pair place) → HasPublished l (8 * net + place) value m → AreSteps d lists order n k t l (published_to net pair place)
    → AreSteps d lists order (suc n) k t m (published_to net pair (place + 1))
publish_more d lists order n k l m t net pair place value fits is h before =
    let b = below place 8 fits.more in
    let at : AreSteps d lists order n k t l (publishing net pair place) = rw b at before in (
      l,
      publishing net pair place,
      Published (8 * net + place),
      at,
      fits,
      record {
        answer = h.0;
        acts = subst (λ v. Publishes l (8 * net + place) h.0 (further l.setting.way ((8 * net + place) % 2) h.0 v) m) is h.1;
        next = refl;
        move = refl;
      },
    )

-- two steps more
pub two_on : (d : Parts) (lists : List (List NetId)) (order : List ℕ) (n : ℕ) (k l p : Knowledge) (t u v : Task) → AreSteps d lists order n k t l u → AreSteps d lists order 2 l u p v
    → AreSteps d lists order (suc (suc n)) k t p v
two_on d lists order n k l p t u v before r =
    let s = r.3 in
    let from = subst (λ w. AreSteps d lists order n k t s.0 w) (sym s.3.1) (subst (λ x. AreSteps d lists order n k t x u) (sym s.3.0) before) in
    (r.0, r.1, r.2, (s.0, s.1, s.2, from, s.4, s.5), r.4, r.5)
