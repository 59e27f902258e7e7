-- Passes by which workers ran are joined, one after another.
use Rattle.std.proofs.Common.{◌≡◌, ℕ, ◌+◌, ◌-◌, ◌*◌, ◌%◌, inl, inr, refl, sym, ap, subst, ◌∙◌, List, [], ◌++◌, length, Contains, arith}
use Rattle.std.specs.Prelude.{slice_index}
use Rattle.std.proofs.lemmas.List.{append-nil}
use Rattle.std.proofs.lemmas.List.Elements.{Contains-append_left, Contains-append_right, Contains-append_cases}
use Rattle.xt_meaning.specs.Barrier.{IsBoundNoFurther}
use Rattle.xt_meaning.specs.Words.{bounds_in, onward, AreNoFurther, furthest}
use Rattle.xt_meaning.proofs.Steps.{bound_trans}
use Rattle.chaos_core.specs.Boards.{nets_of, IsSeen}
use Rattle.chaos_core.proofs.Sight.{are_refl, are_trans}
use Rattle.window_words.proofs.Drawn.{count_both}
use Rattle.window_words.proofs.Parting.{both_first, both_second, seen_both}
use Rattle.dirty_words.specs.declared.view.DirtyView.{DirtyView}
use Rattle.dirty_words.specs.Views.{pass_sent, with_joined}
use Rattle.dirty_words.specs.Boards.{IsFree, IsSplitOff}
use Rattle.dirty_run.specs.Visits.{HasPassed}
use Rattle.dirty_run.specs.Turns.{HasTurned, HasRun, HasGathered}
use Rattle.dirty_run.proofs.Visiting.{moved_on}

-- nothing is joined yet, and nothing drawn
pub none_gathered : (order : List ℕ) (v : DirtyView) → IsSeen v.base.setting v.base.seen → v.base.drawn ≡ [] → HasGathered order 0 v v
none_gathered order v seen none = record {
  seen = v.base.seen;
  drawn = v.base.drawn;
  made = v.base.made;
  taken = v.taken;
  noted = v.noted;
  after = let e : v.base.out ≡ v.base.out - 0 = omega arith in λ i. record v { base = record (v.base) { out = e i } };
  sound = seen;
  onward = are_refl v.base.setting.way (bounds_in v.base.seen);
  visited = λ n c lt. absurd (let k = (subst (λ xs. Contains xs n) none c).1 in omega (arith, k));
  why = inl refl;
  rose = omega arith;
  most = omega arith;
  last = λ lie. absurd (omega (arith, lie));
}

module _ (order : List ℕ) (joined : ℕ) (v w u : DirtyView) (t : HasGathered order joined v w) (run : HasRun order (pass_sent v) u) where
  abbrev r' : HasTurned order (pass_sent v) u
  r' = run.turned

  abbrev seen' : List ℕ
  seen' = furthest v.base.setting.way t.seen r'.seen

  counts : length t.seen ≡ length r'.seen
  counts = t.sound.count ∙ sym r'.sound.count

  on_first : AreNoFurther v.base.setting.way (bounds_in t.seen) (bounds_in seen')
  on_first = both_first v.base.setting.way t.seen r'.seen counts

  on_second : AreNoFurther v.base.setting.way (bounds_in r'.seen) (bounds_in seen')
  on_second = both_second v.base.setting.way t.seen r'.seen counts

  passed_later : (xs : List ℕ) (net : ℕ) → AreNoFurther v.base.setting.way (bounds_in xs) (bounds_in seen') → HasPassed v xs net → HasPassed v seen' net
  passed_later xs net on h i lt =
      let a = v.base.setting in
      let x = 8 * net + i in
      let par : x % 2 ≡ i % 2 = omega arith in
      bound_trans a.way (i % 2) (onward a.design (bounds_in v.base.seen) x) (bounds_in xs x) (bounds_in seen' x) (h i lt) (subst (λ s. IsBoundNoFurther a.way s (bounds_in xs x) (bounds_in seen' x)) par (on x))

  pub gathered_more : (later : DirtyView) → later ≡ with_joined w u → HasGathered order (joined + 1) v later
  gathered_more later is =
      let a = v.base.setting in
      let count = count_both (nets_of a) t.drawn r'.drawn in
      let had = t.most in
      let most = r'.most in
      let rose = t.rose in
      let out : v.base.out - joined - 1 ≡ v.base.out - (joined + 1) = omega arith in
      let both = is ∙ (ap (λ (x : DirtyView). with_joined x u) t.after ∙ ap (λ (x : DirtyView). with_joined (record v { base = record (v.base) { seen = t.seen; drawn = t.drawn; made = t.made; out = v.base.out - joined }; taken = t.taken; noted = t.noted }) x) r'.after) in
      record {
        seen = seen';
        drawn = t.drawn ++ r'.drawn;
        made = t.made + r'.made;
        taken = t.taken ++ r'.taken;
        noted = t.noted ++ r'.noted;
        after = both ∙ (λ i. record v { base = record (v.base) { seen = seen'; drawn = t.drawn ++ r'.drawn; made = t.made + r'.made; out = out i }; taken = t.taken ++ r'.taken; noted = t.noted ++ r'.noted });
        sound = seen_both a t.seen r'.seen t.sound r'.sound;
        onward = are_trans a.way (bounds_in v.base.seen) (bounds_in t.seen) (bounds_in seen') t.onward on_first;
        visited = λ n c lt. elim (Contains-append_cases t.drawn r'.drawn n c) [
          | inl old ↦
              let h = t.visited n old lt in
              (Contains-append_left t.taken r'.taken (slice_index order n) h.0, λ f. passed_later t.seen (slice_index order n) on_first (h.1 f))
          | inr new ↦
              let h = r'.visited n new lt in
              (Contains-append_right t.taken r'.taken (slice_index order n) h.0, λ f. passed_later r'.seen (slice_index order n) on_second (h.1 f))
        ];
        why = elim r'.why [
          | inl none ↦ elim t.why [
            | inl old ↦ inl (ap (λ xs. t.noted ++ xs) none ∙ (append-nil t.noted ∙ old))
            | inr m ↦ inr (moved_on a.way v.base.seen t.seen seen' t.onward on_first m)
          ]
          | inr m ↦ inr (moved_on a.way v.base.seen r'.seen seen' r'.onward on_second m)
        ];
        rose = omega (arith, rose);
        most = omega (arith, count, had, most);
        last = λ _. (run.last.0, Contains-append_right t.drawn r'.drawn run.last.0 (subst (λ xs. Contains xs run.last.0) (ap (λ (x : DirtyView). x.base.drawn) r'.after) run.last.1), run.last.2);
      }

-- ---- a pass by which a worker ran
pub ran_other : (order : List ℕ) (v u : DirtyView) → HasRun order (pass_sent v) u → IsSplitOff u
ran_other order v u run = ap (λ (x : DirtyView). x.base.role) run.turned.after

pub ran_free : (order : List ℕ) (v u : DirtyView) → HasRun order (pass_sent v) u → IsFree u
ran_free order v u run = record { flight = ap (λ (x : DirtyView). x.flight) run.turned.after; owed = ap (λ (x : DirtyView). x.owed) run.turned.after }

pub joined_free : (w u x : DirtyView) → x ≡ with_joined w u → IsFree w → IsFree x
joined_free w u x is free = subst IsFree (sym is) (record { flight = free.flight; owed = free.owed })
