-- What each call asks of the rule.
use Rattle.std.proofs.Common.{◌≡◌, ℕ, ◌+◌, ◌-◌, ◌*◌, ◌%◌, ◌<◌, inl, inr, refl, sym, ap, subst, ◌∙◌, [], ◌∷◌, ◌++◌, length, set, get_or, Some, Contains, arith}
use Rattle.std.specs.Prelude.{min, max, slice_index, bit_or}
use Rattle.std.proofs.lemmas.List.{set-get_or, get_or_default}
use Rattle.std.proofs.lemmas.Option.{same_Some}
use mathlib.Core.Option.{none}
use Rattle.atomic_table.proofs.Lists.{set_again}
use Rattle.atomic_table.specs.Table.{State, Me, Act, keeps, Valid, carried_after, stepped, step, Allows, Splits, Joins}
use Rattle.xt_meaning.specs.Words.{quiet_number, number_at, MovesDown, MovesUp, further}
use Rattle.chaos_core.specs.Boards.{nets_of}
use Rattle.chaos_core.proofs.Sight.{further_down, further_up}
use Rattle.window_words.specs.declared.view.Role.TheVariants.{First, Other}
use Rattle.window_words.specs.Views.{count_from}
use Rattle.dirty_words.specs.declared.view.Flight.{Flight}
use Rattle.dirty_words.specs.declared.view.DirtyView.{DirtyView}
use Rattle.dirty_words.specs.Views.{Run, run_of, with_taken, with_missed, with_loaded, with_published, with_noted, with_found, with_clear, with_drawn, with_anew, with_pass_out, pass_sent, with_joined, spent_pass}
use Rattle.dirty_words.specs.Rule.{IsThere, IsLive, mark_at, KeptAt, KeptMarked}
use Rattle.dirty_words.specs.Boards.{IsAlone, IsFree}
use Rattle.dirty_words.specs.Steps.{CanTake, Took, IsNextToLoad, Loaded, Saw, IsNextToPublish, Published, Looked, took, loaded, saw, lowered, raised, noted, looked, drawn_next, restarted}
use Rattle.dirty_words.proofs.Below.{words_kept, base_run, next_few, number_found, whole_here, below_greater}
use Rattle.dirty_words.proofs.Marks.{zero_or_one, not_both, set_bit, bound_at_word, set_bound, mark_at_word, set_mark, draw_at_word, set_draw}
use Rattle.dirty_words.proofs.Taking.{found_marked, clear_unmarked, taken_kept, missed_kept}
use Rattle.dirty_words.proofs.Noting.{noted_kept}
use Rattle.dirty_words.proofs.Looking.{found_kept, clear_kept, tells_found, tells_clear}
use Rattle.dirty_words.proofs.Turning.{drew_kept, anew_kept}
use Rattle.dirty_words.proofs.Flying.{load_kept, load_told, publish_kept, publish_told}
use Rattle.dirty_words.proofs.Parting.{parted_kept, joined_kept}

-- what a step owes where it finds a number in a word and leaves another
abbrev Owes : Run → State (Unit {0}) DirtyView → ℕ → ℕ → Me (Unit {0}) DirtyView → (ℕ → Me (Unit {0}) DirtyView → Type 0) → ℕ → ℕ → Type 0
Owes r s id i me then number left =
    (w : DirtyView) × (act : Act (Unit {0})) × Valid s.homes me.1 act × KeptMarked r (stepped s i left id me.1 w act) × then number (w, carried_after me.1 act)

-- the rule speaks of the run of the board, and so does what a pass knows
run_is : (r : Run) (s : State (Unit {0}) DirtyView) (id : ℕ) (v : DirtyView) → KeptMarked r s → IsThere s.views id v → IsLive v → run_of v ≡ r
run_is r s id v k there live =
    let one = base_run r.setting k.now k.next s.views k.rest.below id v there live in
    let two = k.rest.known id v there live in
    λ i. record { setting = one i; lists = two i }

module _ (slots id : ℕ) (me : Me (Unit {0}) DirtyView) (live : IsLive me.0) (s : State (Unit {0}) DirtyView) (k : KeptMarked (run_of me.0) s) (there : IsThere s.views id me.0) where
  abbrev v' : DirtyView
  v' = me.0

  abbrev nets' : ℕ
  nets' = nets_of me.0.base.setting

  wide : length k.now ≡ 8 * nets'
  wide = (words_kept me.0.base.setting k.now k.next s.views k.rest.below).seen.count

  long : length k.marks ≡ nets'
  long = k.rest.fits.count

  -- ---- steps on the words of the bounds
  module _ (i : ℕ) (inside : i < 8 * nets') where
    at_word : slice_index s.words i ≡ number_at k.now i
    at_word =
        let w = wide in
        ap (λ ws. get_or ws i 0) k.words ∙ (bound_at_word k.now k.marks k.next nets' wide long i inside ∙ get_or_default k.now i 0 (quiet_number (i % 2)) (omega (arith, w, inside)))

    word_set : (x : ℕ) → set s.words i x ≡ set k.now i x ++ (k.marks ++ k.next ∷ [])
    word_set x = ap (λ ws. set ws i x) k.words ∙ set_bound k.now k.marks k.next nets' wide long i x inside

    same_words : set k.now i (number_at k.now i) ≡ k.now
    same_words = set-get_or k.now i (quiet_number (i % 2))

    pub loads_own : (f : Flight) → IsNextToLoad v' i f → Owes (run_of v') s id i me (loaded (step slots i 0 0 none) me) (slice_index s.words i) (slice_index s.words i)
    loads_own f own =
        let n = number_at k.now i in
        let w = with_loaded v' f i n in
        let kept : KeptMarked (run_of v') (stepped s i n id me.1 w keeps) = record {
          now = k.now;
          marks = k.marks;
          next = k.next;
          words = word_set n ∙ ap (λ ws. ws ++ (k.marks ++ k.next ∷ [])) same_words;
          rest = load_kept v' k.now k.marks k.next s.views k.rest id there live i inside f own;
        } in
        let told : (g : Flight) → v'.flight ≡ Some g → Loaded v' g i n w = λ g e.
        let same : f ≡ g = same_Some f g (sym own.flight ∙ e) in
        subst (λ x. Loaded v' x i n w) same (load_told v' k.now k.marks k.next s.views k.rest id there live i inside f own) in
        let P : ℕ → Type 0 = λ m. Owes (run_of v') s id i me (loaded (step slots i 0 0 none) me) m m in
        subst P (sym at_word) (w, keeps, tt, kept, (told, refl))

    pub sees_own : IsAlone v' → Owes (run_of v') s id i me (saw (step slots i 0 0 none) me) (slice_index s.words i) (slice_index s.words i)
    sees_own alone =
        let n = number_at k.now i in
        let a = v'.base.setting in
        let views : set s.views id v' ≡ s.views = set_again s.views id v' there in
        let kept : KeptMarked (run_of v') (stepped s i n id me.1 v' keeps) = record {
          now = k.now;
          marks = k.marks;
          next = k.next;
          words = word_set n ∙ ap (λ ws. ws ++ (k.marks ++ k.next ∷ [])) same_words;
          rest = subst (KeptAt (run_of v') k.now k.marks k.next) (sym views) k.rest;
        } in
        let told : Saw v' i n v' = record {
          found = number_found a k.now k.next s.views k.rest.below id v' there live i;
          whole = whole_here a k.now k.next s.views k.rest.below id v' there alone.0 alone.1 i refl;
          same = refl;
        } in
        let P : ℕ → Type 0 = λ m. Owes (run_of v') s id i me (saw (step slots i 0 0 none) me) m m in
        subst P (sym at_word) (v', keeps, tt, kept, (told, refl))

    module _ (value : ℕ) (f : Flight) (own : IsNextToPublish v' i value f) (left : ℕ) (is : further v'.base.setting.way (i % 2) (number_at k.now i) value ≡ left) where
      published_kept : KeptMarked (run_of v') (stepped s i left id me.1 (with_published v' f (number_at k.now i) left) keeps)
      published_kept = record {
        now = set k.now i left;
        marks = k.marks;
        next = k.next;
        words = word_set left;
        rest = publish_kept v' k.now k.marks k.next s.views k.rest id there live i value inside f own left is;
      }

      published_told : (g : Flight) → v'.flight ≡ Some g → Published v' g i (number_at k.now i) left (with_published v' f (number_at k.now i) left)
      published_told g e =
          let same : f ≡ g = same_Some f g (sym own.flight ∙ e) in
          subst (λ x. Published v' x i (number_at k.now i) left (with_published v' f (number_at k.now i) left)) same
          (publish_told v' k.now k.marks k.next s.views k.rest id there live i value inside f own left is)

    pub lowers_own : (value : ℕ) (f : Flight) → IsNextToPublish v' i value f → MovesDown v'.base.setting.way (i % 2)
        → Owes (run_of v') s id i me (lowered (step slots i value 0 none) me) (slice_index s.words i) (min (slice_index s.words i) value)
    lowers_own value f own side =
        let n = number_at k.now i in
        let is = further_down v'.base.setting.way (i % 2) n value side in
        let P : ℕ → Type 0 = λ m. Owes (run_of v') s id i me (lowered (step slots i value 0 none) me) m (min m value) in
        subst P (sym at_word) (with_published v' f n (min n value), keeps, tt, published_kept value f own (min n value) is, (published_told value f own (min n value) is, refl))

    pub raises_own : (value : ℕ) (f : Flight) → IsNextToPublish v' i value f → MovesUp v'.base.setting.way (i % 2)
        → Owes (run_of v') s id i me (raised (step slots i value 0 none) me) (slice_index s.words i) (max (slice_index s.words i) value)
    raises_own value f own side =
        let n = number_at k.now i in
        let is = further_up v'.base.setting.way (i % 2) n value side in
        let P : ℕ → Type 0 = λ m. Owes (run_of v') s id i me (raised (step slots i value 0 none) me) m (max m value) in
        subst P (sym at_word) (with_published v' f n (max n value), keeps, tt, published_kept value f own (max n value) is, (published_told value f own (max n value) is, refl))

  -- ---- steps on a mark
  module _ (word net : ℕ) (inside : net < nets') (is : word ≡ 8 * nets' + net) where
    at_mark : slice_index s.words word ≡ mark_at k.marks net
    at_mark = ap (λ ws. get_or ws word 0) k.words ∙ (ap (λ i. get_or (k.now ++ (k.marks ++ k.next ∷ [])) i 0) is ∙ mark_at_word k.now k.marks k.next nets' wide long net inside)

    mark_set : (x : ℕ) → set s.words word x ≡ k.now ++ (set k.marks net x ++ k.next ∷ [])
    mark_set x = ap (λ ws. set ws word x) k.words ∙ (ap (λ i. set (k.now ++ (k.marks ++ k.next ∷ [])) i x) is ∙ set_mark k.now k.marks k.next nets' wide long net x inside)

    the_net : net ≡ word - 8 * nets'
    the_net = omega (arith, is)

    mark_kept : (w : DirtyView) (x : ℕ) → KeptAt (run_of v') k.now (set k.marks net x) k.next (set s.views id w) → KeptMarked (run_of v') (stepped s word x id me.1 w keeps)
    mark_kept w x rest = record { now = k.now; marks = set k.marks net x; next = k.next; words = mark_set x; rest = rest }

    pub takes_own : CanTake v' net → Owes (run_of v') s id word me (took (step slots word 0 0 none) me) (slice_index s.words word) 0
    takes_own can =
        let n = mark_at k.marks net in
        let found : Contains v'.found net → n ≡ 1 = found_marked v' k.now k.marks k.next s.views k.rest id there live net can in
        let clear : IsAlone v' → Contains v'.clear net → n ≡ 0 = clear_unmarked v' k.now k.marks k.next s.views k.rest id there live net can in
        let tell : (w : DirtyView) → Took v' net n w → took (step slots word 0 0 none) me n (w, me.1) = λ w t. (subst (λ m. Took v' m n w) the_net t, refl) in
        let P : ℕ → Type 0 = λ m. Owes (run_of v') s id word me (took (step slots word 0 0 none) me) m 0 in
        subst P (sym at_mark) (elim (zero_or_one n (k.rest.fits.each net)) [
          | inl zero ↦
              let w = with_missed v' net in (
                w,
                keeps,
                tt,
                mark_kept w 0 (missed_kept v' k.now k.marks k.next s.views k.rest id there live net can zero),
                tell w (record { two = inl zero; taken = λ e. absurd (not_both n zero e); missed = λ e. refl; found = found; clear = clear }),
              )
          | inr one ↦
              let w = with_taken v' net in (
                w,
                keeps,
                tt,
                mark_kept w 0 (taken_kept v' k.now k.marks k.next s.views k.rest id there live net can),
                tell w (record { two = inr one; taken = λ e. refl; missed = λ e. absurd (not_both n e one); found = found; clear = clear }),
              )
        ])

    pub notes_own : Contains v'.owed net → Owes (run_of v') s id word me (noted (step slots word 1 0 none) me) (slice_index s.words word) (bit_or (slice_index s.words word) 1)
    notes_own owed =
        let n = mark_at k.marks net in
        let w = with_noted v' net in
        let P : ℕ → Type 0 = λ m. Owes (run_of v') s id word me (noted (step slots word 1 0 none) me) m (bit_or m 1) in
        let Q : ℕ → Type 0 = λ x. KeptMarked (run_of v') (stepped s word x id me.1 w keeps) in
        let kept = subst Q (sym (set_bit n (k.rest.fits.each net))) (mark_kept w 1 (noted_kept v' k.now k.marks k.next s.views k.rest id there live net inside owed)) in
        subst P (sym at_mark) (w, keeps, tt, kept, (ap (with_noted v') the_net, refl))

    pub looks_own : IsAlone v' → Owes (run_of v') s id word me (looked (step slots word 0 0 none) me) (slice_index s.words word) (slice_index s.words word)
    looks_own alone =
        let n = mark_at k.marks net in
        let same : set k.marks net n ≡ k.marks = set-get_or k.marks net 0 in
        let stays : (w : DirtyView) → KeptAt (run_of v') k.now k.marks k.next (set s.views id w) → KeptMarked (run_of v') (stepped s word n id me.1 w keeps) =
        λ w rest. mark_kept w n (subst (λ ms. KeptAt (run_of v') k.now ms k.next (set s.views id w)) (sym same) rest) in
        let tell : (w : DirtyView) → Looked v' net n w → looked (step slots word 0 0 none) me n (w, me.1) = λ w t. (subst (λ m. Looked v' m n w) the_net t, refl) in
        let P : ℕ → Type 0 = λ m. Owes (run_of v') s id word me (looked (step slots word 0 0 none) me) m m in
        subst P (sym at_mark) (elim (zero_or_one n (k.rest.fits.each net)) [
          | inl zero ↦
              let w = with_clear v' net in
              (w, keeps, tt, stays w (clear_kept v' k.now k.marks k.next s.views k.rest id there alone net inside zero), tell w (tells_clear v' k.now k.marks k.next s.views k.rest id there alone net inside zero))
          | inr one ↦
              let w = with_found v' net in
              (w, keeps, tt, stays w (found_kept v' k.now k.marks k.next s.views k.rest id there alone net inside one), tell w (tells_found v' k.now k.marks k.next s.views k.rest id there alone net inside one))
        ])

  -- ---- steps on the draw word
  module _ (word : ℕ) (is : word ≡ 9 * nets') where
    at_draw : slice_index s.words word ≡ k.next
    at_draw = ap (λ ws. get_or ws word 0) k.words ∙ (ap (λ i. get_or (k.now ++ (k.marks ++ k.next ∷ [])) i 0) is ∙ draw_at_word k.now k.marks k.next nets' wide long)

    draw_set : (x : ℕ) → set s.words word x ≡ k.now ++ (k.marks ++ x ∷ [])
    draw_set x = ap (λ ws. set ws word x) k.words ∙ (ap (λ i. set (k.now ++ (k.marks ++ k.next ∷ [])) i x) is ∙ set_draw k.now k.marks k.next nets' wide long x)

    pub draws_own : count_from nets' v'.base.drawn ≡ 0 → 9 * nets' + 1 < 18446744073709551616
        → Owes (run_of v') s id word me (drawn_next (step slots word 1 0 none) me) (slice_index s.words word) ((slice_index s.words word + 1) % 18446744073709551616)
    draws_own fresh room =
        let n = k.next in
        let w = with_drawn v' n in
        let few = next_few v'.base.setting k.now k.next s.views k.rest.below in
        let whole : (n + 1) % 18446744073709551616 ≡ n + 1 = no_wrap n nets' few room in
        let P : ℕ → Type 0 = λ m. Owes (run_of v') s id word me (drawn_next (step slots word 1 0 none) me) m ((m + 1) % 18446744073709551616) in
        let Q : ℕ → Type 0 = λ x. KeptMarked (run_of v') (stepped s word x id me.1 w keeps) in
        let kept : Q (n + 1) = record { now = k.now; marks = k.marks; next = n + 1; words = draw_set (n + 1); rest = drew_kept v' k.now k.marks k.next s.views k.rest id there live fresh } in
        subst P (sym at_draw) (w, keeps, tt, subst Q (sym whole) kept, (record { greater = below_greater v'.base.setting k.now k.next s.views k.rest.below id v' there live; after = refl }, refl))
      where
        no_wrap : (next nets : ℕ) → next < nets + 66 → 9 * nets + 1 < 18446744073709551616 → (next + 1) % 18446744073709551616 ≡ next + 1
        no_wrap next nets few room = let lt : next + 1 < 18446744073709551616 = omega (arith, room, few) in omega (arith, lt)

    pub restarts_own : IsAlone v' → Owes (run_of v') s id word me (λ _. restarted (step slots word 0 0 none) me 0) (slice_index s.words word) 0
    restarts_own alone =
        let w = with_anew v' in
        let kept : KeptMarked (run_of v') (stepped s word 0 id me.1 w keeps) = record { now = k.now; marks = k.marks; next = 0; words = draw_set 0; rest = anew_kept v' k.now k.marks k.next s.views k.rest id there alone } in
        (w, keeps, tt, kept, (refl, refl))

kept_own : (r : Run) (s : State (Unit {0}) DirtyView) (id : ℕ) (v : DirtyView) → KeptMarked r s → IsThere s.views id v → IsLive v → KeptMarked (run_of v) s
kept_own r s id v k there live = subst (λ b. KeptMarked b s) (sym (run_is r s id v k there live)) k

module _ (r : Run) (slots id : ℕ) (me : Me (Unit {0}) DirtyView) (live : IsLive me.0) where
  -- what is owed under the run that the pass knows is owed under that of the board
  owes : (s : State (Unit {0}) DirtyView) (i : ℕ) (then : ℕ → Me (Unit {0}) DirtyView → Type 0) (number left : ℕ) → KeptMarked r s → IsThere s.views id me.0 → Owes (run_of me.0) s id i me then number left → Owes r s id i me then number left
  owes s i then number left k there h = subst (λ b. Owes b s id i me then number left) (run_is r s id me.0 k there live) h

  pub loads : (i : ℕ) → i < 8 * nets_of me.0.base.setting → (f : Flight) → IsNextToLoad me.0 i f → Allows (KeptMarked r) slots id me i (λ n. n) (loaded (step slots i 0 0 none) me)
  loads i inside f own s k homes there fits =
      owes s i (loaded (step slots i 0 0 none) me) (slice_index s.words i) (slice_index s.words i) k there (loads_own slots id me live s (kept_own r s id me.0 k there live) there i inside f own)

  pub sees : (i : ℕ) → i < 8 * nets_of me.0.base.setting → IsAlone me.0 → Allows (KeptMarked r) slots id me i (λ n. n) (saw (step slots i 0 0 none) me)
  sees i inside alone s k homes there fits =
      owes s i (saw (step slots i 0 0 none) me) (slice_index s.words i) (slice_index s.words i) k there (sees_own slots id me live s (kept_own r s id me.0 k there live) there i inside alone)

  pub lowers : (i : ℕ) → i < 8 * nets_of me.0.base.setting → (value : ℕ) (f : Flight) → IsNextToPublish me.0 i value f → MovesDown me.0.base.setting.way (i % 2)
      → Allows (KeptMarked r) slots id me i (λ n. min n value) (lowered (step slots i value 0 none) me)
  lowers i inside value f own side s k homes there fits =
      owes s i (lowered (step slots i value 0 none) me) (slice_index s.words i) (min (slice_index s.words i) value) k there (lowers_own slots id me live s (kept_own r s id me.0 k there live) there i inside value f own side)

  pub raises : (i : ℕ) → i < 8 * nets_of me.0.base.setting → (value : ℕ) (f : Flight) → IsNextToPublish me.0 i value f → MovesUp me.0.base.setting.way (i % 2)
      → Allows (KeptMarked r) slots id me i (λ n. max n value) (raised (step slots i value 0 none) me)
  raises i inside value f own side s k homes there fits =
      owes s i (raised (step slots i value 0 none) me) (slice_index s.words i) (max (slice_index s.words i) value) k there (raises_own slots id me live s (kept_own r s id me.0 k there live) there i inside value f own side)

  pub takes : (word net : ℕ) → word ≡ 8 * nets_of me.0.base.setting + net → CanTake me.0 net → Allows (KeptMarked r) slots id me word (λ _. 0) (took (step slots word 0 0 none) me)
  takes word net is can s k homes there fits =
      owes s word (took (step slots word 0 0 none) me) (slice_index s.words word) 0 k there (takes_own slots id me live s (kept_own r s id me.0 k there live) there word net can.there is can)

  pub notes : (word net : ℕ) → word ≡ 8 * nets_of me.0.base.setting + net → net < nets_of me.0.base.setting → Contains me.0.owed net → Allows (KeptMarked r) slots id me word (λ n. bit_or n 1) (noted (step slots word 1 0 none) me)
  notes word net is inside owed s k homes there fits =
      owes s word (noted (step slots word 1 0 none) me) (slice_index s.words word) (bit_or (slice_index s.words word) 1) k there (notes_own slots id me live s (kept_own r s id me.0 k there live) there word net inside is owed)

  pub looks : (word net : ℕ) → word ≡ 8 * nets_of me.0.base.setting + net → net < nets_of me.0.base.setting → IsAlone me.0 → Allows (KeptMarked r) slots id me word (λ n. n) (looked (step slots word 0 0 none) me)
  looks word net is inside alone s k homes there fits =
      owes s word (looked (step slots word 0 0 none) me) (slice_index s.words word) (slice_index s.words word) k there (looks_own slots id me live s (kept_own r s id me.0 k there live) there word net inside is alone)

  pub draws : (word : ℕ) → word ≡ 9 * nets_of me.0.base.setting → count_from (nets_of me.0.base.setting) me.0.base.drawn ≡ 0 → 9 * nets_of me.0.base.setting + 1 < 18446744073709551616
      → Allows (KeptMarked r) slots id me word (λ n. (n + 1) % 18446744073709551616) (drawn_next (step slots word 1 0 none) me)
  draws word is fresh room s k homes there fits =
      owes s word (drawn_next (step slots word 1 0 none) me) (slice_index s.words word) ((slice_index s.words word + 1) % 18446744073709551616) k there
      (draws_own slots id me live s (kept_own r s id me.0 k there live) there word is fresh room)

  pub restarts : (word : ℕ) → word ≡ 9 * nets_of me.0.base.setting → IsAlone me.0 → Allows (KeptMarked r) slots id me word (λ _. 0) (λ _. restarted (step slots word 0 0 none) me 0)
  restarts word is alone s k homes there fits =
      owes s word (λ _. restarted (step slots word 0 0 none) me 0) (slice_index s.words word) 0 k there (restarts_own slots id me live s (kept_own r s id me.0 k there live) there word is alone)

-- ---- passes
pub splits : (r : Run) (id : ℕ) (v : DirtyView) → IsLive v → v.base.role ≡ First → v.base.split < 64 → Splits (KeptMarked r) id v (with_pass_out v) (pass_sent v)
splits r id v live first few s k there =
    let own = kept_own r s id v k there live in
    let kept : KeptMarked (run_of v) (record { words = s.words; homes = s.homes; views = set s.views id (with_pass_out v) ++ pass_sent v ∷ [] }) =
    record { now = own.now; marks = own.marks; next = own.next; words = own.words; rest = parted_kept v own.now own.marks own.next s.views own.rest id there first few } in
    subst (λ b. KeptMarked b (record { words = s.words; homes = s.homes; views = set s.views id (with_pass_out v) ++ pass_sent v ∷ [] })) (run_is r s id v k there live) kept

pub joins : (r : Run) (id : ℕ) (v : DirtyView) (other : ℕ) (w : DirtyView) → IsLive v → v.base.role ≡ First → w.base.role ≡ Other → IsFree v → IsFree w → Joins (KeptMarked r) id v other w (with_joined v w) spent_pass
joins r id v other w live first second free loose s k there ne at =
    let own = kept_own r s id v k there live in
    let views = set (set s.views id (with_joined v w)) other spent_pass in
    let kept : KeptMarked (run_of v) (record { words = s.words; homes = s.homes; views = views }) =
    record { now = own.now; marks = own.marks; next = own.next; words = own.words; rest = joined_kept v own.now own.marks own.next s.views own.rest id there first other w ne at second free loose } in
    subst (λ b. KeptMarked b (record { words = s.words; homes = s.homes; views = views })) (run_is r s id v k there live) kept
