-- What each call asks of the rule.
use Rattle.std.proofs.Common.{◌≡◌, ℕ, ◌+◌, ◌*◌, ◌%◌, ◌<◌, ◌≤◌, refl, sym, ap, subst, ◌∙◌, [], ◌∷◌, ◌++◌, length, set, get_or, arith}
use Rattle.std.specs.Prelude.{min, max, slice_index}
use Rattle.std.proofs.lemmas.List.{set-get_or, get_or_default, get_or_append_left}
use Rattle.std.proofs.Math.Seq.{get_or-append_seam}
use mathlib.Core.Option.{none}
use Rattle.atomic_table.specs.Table.{State, Me, Act, keeps, Valid, carried_after, stepped, step, Allows, Splits, Joins}
use Rattle.xt_meaning.specs.Barrier.{IsBoundNoFurther}
use Rattle.xt_meaning.specs.Words.{bound_in, quiet_number, number_at, bounds_in, onward, MovesDown, MovesUp, further}
use Rattle.xt_meaning.proofs.Steps.{bound_refl, bound_trans}
use Rattle.xt_meaning.proofs.Numbers.{further_first}
use Rattle.chaos_core.specs.declared.setting.Setting.{Setting}
use Rattle.chaos_core.specs.Boards.{nets_of, IsSeen}
use Rattle.chaos_core.specs.Memories.{AreKept}
use Rattle.chaos_core.proofs.Sight.{onward_mono, further_down, further_up}
use Rattle.chaos_core.proofs.Kept.{moved_kept}
use Rattle.window_words.specs.declared.view.Role.TheVariants.{First, Other}
use Rattle.window_words.specs.declared.view.View.{View}
use Rattle.window_words.specs.Views.{IsUnspent, count_from, with_seen, begun_anew, with_one_out, sent_out, with_both, spent_view}
use Rattle.window_words.specs.Rule.{IsThere, Kept}
use Rattle.window_words.specs.Boards.{IsAlone}
use Rattle.window_words.specs.Steps.{IsFound, IsWhole, Published, loaded, lowered, raised, drawn_next, restarted}
use Rattle.window_words.proofs.Alone.{few_drawn, whole_alone}
use Rattle.window_words.proofs.Moving.{moved, seen_after}
use Rattle.window_words.proofs.Drawing.{draws_greater, drew, began}
use Rattle.window_words.proofs.Parting.{parted, joined}

-- what a step owes where it finds a number in a word and leaves another
abbrev Owes : Setting → State (Unit {0}) View → ℕ → ℕ → Me (Unit {0}) View → (ℕ → Me (Unit {0}) View → Type 0) → ℕ → ℕ → Type 0
Owes a s id i me then number left =
    (w : View) × (act : Act (Unit {0})) × Valid s.homes me.1 act × Kept a (stepped s i left id me.1 w act) × then number (w, carried_after me.1 act)

-- ---- steps on the words of the bounds
module _ (slots id i : ℕ) (me : Me (Unit {0}) View) (live : IsUnspent me.0.role) (inside : i < 8 * nets_of me.0.setting)
    (s : State (Unit {0}) View) (k : Kept me.0.setting s) (there : IsThere s.views id me.0) where
  here : i < length k.now
  here = let c = k.bounded.seen.count in let h = inside in omega (arith, c, h)

  at_word : slice_index s.words i ≡ number_at k.now i
  at_word = ap (λ ws. get_or ws i 0) k.words ∙ (get_or_append_left k.now (k.next ∷ []) 0 i here ∙ get_or_default k.now i 0 (quiet_number (i % 2)) here)

  found : IsFound me.0 i (number_at k.now i)
  found = record { respects = k.bounded.seen.respects i; past = (k.seen.behind id me.0 there live).behind i }

  same_words : AreKept me.0.setting (set k.now i (number_at k.now i))
  same_words = subst (AreKept me.0.setting) (sym (set-get_or k.now i (quiet_number (i % 2)))) k.bounded

  whole : IsAlone me.0 → IsWhole me.0 i (number_at k.now i)
  whole alone = whole_alone me.0.setting s k id me.0 there alone.0 alone.1 i refl

  loads_here : Owes me.0.setting s id i me (loaded (step slots i 0 0 none) me) (number_at k.now i) (number_at k.now i)
  loads_here =
      let a = me.0.setting in
      let n = number_at k.now i in
      let on = bound_refl a.way (i % 2) (bounds_in k.now i) in (
        with_seen me.0 i n me.0.made,
        keeps,
        tt,
        moved a s k id me.0 there live i here n me.0.made same_words on,
        (record { found = found; whole = whole; after = refl; seen = seen_after a s k id me.0 there live i here n me.0.made same_words on }, refl),
      )

  pub loads_own : Owes me.0.setting s id i me (loaded (step slots i 0 0 none) me) (slice_index s.words i) (slice_index s.words i)
  loads_own =
      let P : ℕ → Type 0 = λ n. Owes me.0.setting s id i me (loaded (step slots i 0 0 none) me) n n in
      subst P (sym at_word) loads_here

  module _ (value : ℕ) (can : IsBoundNoFurther me.0.setting.way (i % 2) (bound_in value) (onward me.0.setting.design (bounds_in me.0.seen) i)) where
    can_now : IsBoundNoFurther me.0.setting.way (i % 2) (bound_in value) (onward me.0.setting.design (bounds_in k.now) i)
    can_now =
        let a = me.0.setting in
        let far = onward_mono a.way a.design (bounds_in me.0.seen) (bounds_in k.now) k.bounded.seen.sound (k.seen.behind id me.0 there live).behind i in
        bound_trans a.way (i % 2) (bound_in value) (onward a.design (bounds_in me.0.seen) i) (onward a.design (bounds_in k.now) i) can far

    module _ (left : ℕ) (is : further me.0.setting.way (i % 2) (number_at k.now i) value ≡ left) where
      left_kept : AreKept me.0.setting (set k.now i left)
      left_kept =
          let P : ℕ → Type 0 = λ n. AreKept me.0.setting (set k.now i n) in
          subst P is (moved_kept me.0.setting k.now i value k.bounded here can_now)

      left_on : IsBoundNoFurther me.0.setting.way (i % 2) (bounds_in k.now i) (bound_in left)
      left_on =
          let P : ℕ → Type 0 = λ n. IsBoundNoFurther me.0.setting.way (i % 2) (bounds_in k.now i) (bound_in n) in
          subst P is (further_first me.0.setting.way (i % 2) (number_at k.now i) value)

      left_rule : Kept me.0.setting (record { words = set s.words i left; homes = s.homes; views = set s.views id (with_seen me.0 i left (me.0.made + 1)) })
      left_rule = moved me.0.setting s k id me.0 there live i here left (me.0.made + 1) left_kept left_on

      left_is : Published me.0 i (number_at k.now i) left (with_seen me.0 i left (me.0.made + 1))
      left_is = record { found = found; after = refl; seen = seen_after me.0.setting s k id me.0 there live i here left (me.0.made + 1) left_kept left_on }

    pub lowers_own : MovesDown me.0.setting.way (i % 2) → Owes me.0.setting s id i me (lowered (step slots i value 0 none) me) (slice_index s.words i) (min (slice_index s.words i) value)
    lowers_own side =
        let n = number_at k.now i in
        let is = further_down me.0.setting.way (i % 2) n value side in
        let P : ℕ → Type 0 = λ m. Owes me.0.setting s id i me (lowered (step slots i value 0 none) me) m (min m value) in
        subst P (sym at_word) (with_seen me.0 i (min n value) (me.0.made + 1), keeps, tt, left_rule (min n value) is, (left_is (min n value) is, refl))

    pub raises_own : MovesUp me.0.setting.way (i % 2) → Owes me.0.setting s id i me (raised (step slots i value 0 none) me) (slice_index s.words i) (max (slice_index s.words i) value)
    raises_own side =
        let n = number_at k.now i in
        let is = further_up me.0.setting.way (i % 2) n value side in
        let P : ℕ → Type 0 = λ m. Owes me.0.setting s id i me (raised (step slots i value 0 none) me) m (max m value) in
        subst P (sym at_word) (with_seen me.0 i (max n value) (me.0.made + 1), keeps, tt, left_rule (max n value) is, (left_is (max n value) is, refl))

-- the rule speaks of the run of the board, and so does what a pass knows
kept_own : (a : Setting) (s : State (Unit {0}) View) (id : ℕ) (v : View) → Kept a s → IsThere s.views id v → IsUnspent v.role → Kept v.setting s
kept_own a s id v k there live = subst (λ b. Kept b s) (sym (k.run id v there live)) k

pub loads : (a : Setting) (slots id i : ℕ) (me : Me (Unit {0}) View) → IsUnspent me.0.role → i < 8 * nets_of me.0.setting → Allows (Kept a) slots id me i (λ n. n) (loaded (step slots i 0 0 none) me)
loads a slots id i me live inside s k homes there fits =
    subst (λ b. Owes b s id i me (loaded (step slots i 0 0 none) me) (slice_index s.words i) (slice_index s.words i)) (k.run id me.0 there live)
    (loads_own slots id i me live inside s (kept_own a s id me.0 k there live) there)

pub lowers : (a : Setting) (slots id i : ℕ) (me : Me (Unit {0}) View) (value : ℕ) → IsUnspent me.0.role → i < 8 * nets_of me.0.setting → MovesDown me.0.setting.way (i % 2)
    → IsBoundNoFurther me.0.setting.way (i % 2) (bound_in value) (onward me.0.setting.design (bounds_in me.0.seen) i)
    → Allows (Kept a) slots id me i (λ n. min n value) (lowered (step slots i value 0 none) me)
lowers a slots id i me value live inside side can s k homes there fits =
    subst (λ b. Owes b s id i me (lowered (step slots i value 0 none) me) (slice_index s.words i) (min (slice_index s.words i) value)) (k.run id me.0 there live)
    (lowers_own slots id i me live inside s (kept_own a s id me.0 k there live) there value can side)

pub raises : (a : Setting) (slots id i : ℕ) (me : Me (Unit {0}) View) (value : ℕ) → IsUnspent me.0.role → i < 8 * nets_of me.0.setting → MovesUp me.0.setting.way (i % 2)
    → IsBoundNoFurther me.0.setting.way (i % 2) (bound_in value) (onward me.0.setting.design (bounds_in me.0.seen) i)
    → Allows (Kept a) slots id me i (λ n. max n value) (raised (step slots i value 0 none) me)
raises a slots id i me value live inside side can s k homes there fits =
    subst (λ b. Owes b s id i me (raised (step slots i value 0 none) me) (slice_index s.words i) (max (slice_index s.words i) value)) (k.run id me.0 there live)
    (raises_own slots id i me live inside s (kept_own a s id me.0 k there live) there value can side)

-- ---- steps on the draw word
no_wrap : (next nets : ℕ) → next ≤ nets + 65 → 8 * nets + 1 < 18446744073709551616 → (next + 1) % 18446744073709551616 ≡ next + 1
no_wrap next nets h few = let lt : next + 1 < 18446744073709551616 = omega (arith, h, few) in omega (arith, lt)

module _ (a : Setting) (s : State (Unit {0}) View) (k : Kept a s) (word : ℕ) (is : word ≡ 8 * nets_of a) where
  word_is : word ≡ length k.now
  word_is = is ∙ sym k.bounded.seen.count

  at_draw : slice_index s.words word ≡ k.next
  at_draw = ap (λ ws. get_or ws word 0) k.words ∙ (ap (λ i. get_or (k.now ++ k.next ∷ []) i 0) word_is ∙ get_or-append_seam k.now k.next [] 0)

  pub draws_own : (slots id : ℕ) (me : Me (Unit {0}) View) → IsThere s.views id me.0 → IsUnspent me.0.role → IsSeen me.0.setting me.0.seen → count_from (nets_of a) me.0.drawn ≡ 0
      → 8 * nets_of a + 1 < 18446744073709551616
      → Owes a s id word me (drawn_next (step slots word 1 0 none) me) (slice_index s.words word) ((slice_index s.words word + 1) % 18446744073709551616)
  draws_own slots id me there live seen fresh few =
      let n = k.next in
      let w : View = record me.0 { drawn = me.0.drawn ++ n ∷ [] } in
      let P : ℕ → Type 0 = λ m. Owes a s id word me (drawn_next (step slots word 1 0 none) me) m ((m + 1) % 18446744073709551616) in
      let Q : ℕ → Type 0 = λ x. Kept a (record { words = set s.words word x; homes = s.homes; views = set s.views id w }) in
      let R : ℕ → Type 0 = λ i. Kept a (record { words = set s.words i (n + 1); homes = s.homes; views = set s.views id w }) in
      let kept = subst R (sym word_is) (drew a s k id me.0 there live fresh) in
      let whole : (n + 1) % 18446744073709551616 ≡ n + 1 = no_wrap n (nets_of a) (few_drawn a s k) few in
      subst P (sym at_draw) (w, keeps, tt, subst Q (sym whole) kept, (record { greater = draws_greater a s k id me.0 there live; after = refl; seen = seen }, refl))

  pub restarts_own : (slots id : ℕ) (me : Me (Unit {0}) View) → IsThere s.views id me.0 → IsUnspent me.0.role → IsAlone me.0
      → Owes a s id word me (λ _. restarted (step slots word 0 0 none) me 0) (slice_index s.words word) 0
  restarts_own slots id me there live alone =
      let R : ℕ → Type 0 = λ i. Kept a (record { words = set s.words i 0; homes = s.homes; views = set s.views id (begun_anew me.0) }) in
      (begun_anew me.0, keeps, tt, subst R (sym word_is) (began a s k id me.0 there live alone.0 alone.1), (refl, refl))

pub draws : (a : Setting) (slots id word : ℕ) (me : Me (Unit {0}) View) → IsUnspent me.0.role → IsSeen me.0.setting me.0.seen → word ≡ 8 * nets_of me.0.setting → count_from (nets_of me.0.setting) me.0.drawn ≡ 0
    → 8 * nets_of me.0.setting + 1 < 18446744073709551616
    → Allows (Kept a) slots id me word (λ n. (n + 1) % 18446744073709551616) (drawn_next (step slots word 1 0 none) me)
draws a slots id word me live seen is fresh few s k homes there fits =
    subst (λ b. Owes b s id word me (drawn_next (step slots word 1 0 none) me) (slice_index s.words word) ((slice_index s.words word + 1) % 18446744073709551616)) (k.run id me.0 there live)
    (draws_own me.0.setting s (kept_own a s id me.0 k there live) word is slots id me there live seen fresh few)

pub restarts : (a : Setting) (slots id word : ℕ) (me : Me (Unit {0}) View) → IsUnspent me.0.role → word ≡ 8 * nets_of me.0.setting → IsAlone me.0
    → Allows (Kept a) slots id me word (λ _. 0) (λ _. restarted (step slots word 0 0 none) me 0)
restarts a slots id word me live is alone s k homes there fits =
    subst (λ b. Owes b s id word me (λ _. restarted (step slots word 0 0 none) me 0) (slice_index s.words word) 0) (k.run id me.0 there live)
    (restarts_own me.0.setting s (kept_own a s id me.0 k there live) word is slots id me there live alone)

-- ---- passes
pub splits : (a : Setting) (id : ℕ) (v : View) → v.role ≡ First → v.split < 64 → Splits (Kept a) id v (with_one_out v) (sent_out v)
splits a id v first few s k there = parted a s k id v there first few

pub joins : (a : Setting) (id : ℕ) (v : View) (other : ℕ) (w : View) → v.role ≡ First → w.role ≡ Other → Joins (Kept a) id v other w (with_both v w) spent_view
joins a id v other w first second s k there ne at = joined a s k id v there first other w ne at second
