-- Passes that workers ran by are joined, one after another: the first knows as if one worker had done all.
use Rattle.std.proofs.Common.{◌≡◌, ℕ, ◌+◌, ◌*◌, ◌%◌, ◌<◌, ◌≤◌, inl, inr, refl, sym, ap, subst, ◌∙◌, List, [], length, arith}
use Rattle.std.specs.Prelude.{slice_index}
use Rattle.std.specs.List.{Contains}
use Rattle.std.proofs.lemmas.List.Elements.{Contains-append_right, Contains-append_cases}
use Rattle.xt_model.specs.declared.direction.Direction.{Direction}
use Rattle.xt_meaning.specs.Barrier.{IsBoundNoFurther}
use Rattle.xt_meaning.specs.Words.{bounds_in, onward, AreNoFurther}
use Rattle.xt_meaning.proofs.Steps.{bound_trans}
use Rattle.chaos_core.specs.declared.setting.Setting.{Setting}
use Rattle.chaos_core.specs.Boards.{nets_of, Knowledge, IsSeen, counted}
use Rattle.chaos_core.specs.Runs.{count_below, HasPassed, Ran}
use Rattle.chaos_core.proofs.Sight.{are_refl, are_trans}
use Rattle.window_words.specs.declared.view.View.{View}
use Rattle.window_words.specs.Views.{with_both}
use Rattle.window_words.specs.Boards.{Holding, knowledge_of}
use Rattle.window_words.proofs.Drawn.{count_both}
use Rattle.window_words.proofs.Parting.{both_first, both_second}
use Rattle.chaos_run.specs.Rounds.{sent_of}

-- from k to l some passes were joined, by each of which a worker ran from what was seen in k
pub record HasTaken (order : List ℕ) (joined : ℕ) (k l : Knowledge) : Type 0 where
  pub setting : l.setting ≡ k.setting
  pub home : l.home ≡ k.home
  pub alone : l.alone ≡ k.alone
  pub onward : AreNoFurther k.setting.way (bounds_in k.seen) (bounds_in l.seen)
  pub last : 0 < joined → (n : ℕ) × Contains l.drawn n × (nets_of k.setting ≤ n)
  pub passed : (n : ℕ) → Contains l.drawn n → n < nets_of k.setting → HasPassed k l (slice_index order n) 8
  pub made : l.made ≡ k.made + counted k.alone (8 * count_below (nets_of k.setting) l.drawn)

pub all_taken : (order : List ℕ) (joined : ℕ) (k l : Knowledge) → 0 < joined → HasTaken order joined k l → Ran order k l
all_taken order joined k l some t = record {
  setting = t.setting;
  home = t.home;
  alone = t.alone;
  onward = t.onward;
  last = t.last some;
  passed = t.passed;
  made = t.made;
}

-- ---- one pass more
module _ (order : List ℕ) (joined : ℕ) (h now other : Holding) (t : HasTaken order joined (knowledge_of h) (knowledge_of now)) (r : Ran order (knowledge_of (sent_of h)) (knowledge_of other))
    (own_seen : IsSeen now.view.setting now.view.seen) (other_seen : IsSeen other.view.setting other.view.seen) where
  abbrev pub a' : Setting
  a' = h.view.setting

  abbrev pub both' : View
  both' = with_both now.view other.view

  same_count : length now.view.seen ≡ length other.view.seen
  same_count =
      let own = ap (λ (b : Setting). 8 * nets_of b) t.setting in
      let there = ap (λ (b : Setting). 8 * nets_of b) r.setting in
      own_seen.count ∙ (own ∙ (sym there ∙ sym other_seen.count))

  same_way : now.view.setting.way ≡ a'.way
  same_way = ap (λ (b : Setting). b.way) t.setting

  past_own : AreNoFurther a'.way (bounds_in now.view.seen) (bounds_in both'.seen)
  past_own =
      let P : Direction → Type 0 = λ way. AreNoFurther way (bounds_in now.view.seen) (bounds_in both'.seen) in
      subst P same_way (both_first now.view.setting.way now.view.seen other.view.seen same_count)

  past_other : AreNoFurther a'.way (bounds_in other.view.seen) (bounds_in both'.seen)
  past_other =
      let P : Direction → Type 0 = λ way. AreNoFurther way (bounds_in other.view.seen) (bounds_in both'.seen) in
      subst P same_way (both_second now.view.setting.way now.view.seen other.view.seen same_count)

  passed_on : (seen : List ℕ) (net : ℕ) → AreNoFurther a'.way (bounds_in seen) (bounds_in both'.seen)
      → ((i : ℕ) → i < 8 → IsBoundNoFurther a'.way (i % 2) (onward a'.design (bounds_in h.view.seen) (8 * net + i)) (bounds_in seen (8 * net + i)))
      → (i : ℕ) → i < 8 → IsBoundNoFurther a'.way (i % 2) (onward a'.design (bounds_in h.view.seen) (8 * net + i)) (bounds_in both'.seen (8 * net + i))
  passed_on seen net on passed i lt =
      let w = 8 * net + i in
      let side : w % 2 ≡ i % 2 = omega arith in
      let step = subst (λ s. IsBoundNoFurther a'.way s (bounds_in seen w) (bounds_in both'.seen w)) side (on w) in
      bound_trans a'.way (i % 2) (onward a'.design (bounds_in h.view.seen) w) (bounds_in seen w) (bounds_in both'.seen w) (passed i lt) step

  taken_both : HasTaken order (joined + 1) (knowledge_of h) (knowledge_of (record { table = now.table; view = both' }))
  taken_both = record {
    setting = t.setting;
    home = t.home;
    alone = refl;
    onward = are_trans a'.way (bounds_in h.view.seen) (bounds_in now.view.seen) (bounds_in both'.seen) t.onward past_own;
    last = λ _. (r.last.0, Contains-append_right now.view.drawn other.view.drawn r.last.0 r.last.1, r.last.2);
    passed = λ n has lt. elim (Contains-append_cases now.view.drawn other.view.drawn n has) [
      | inl old ↦ passed_on now.view.seen (slice_index order n) past_own (t.passed n old lt)
      | inr new ↦ passed_on other.view.seen (slice_index order n) past_other (r.passed n new lt)
    ];
    made =
        let count = count_both (nets_of a') now.view.drawn other.view.drawn in
        let own : now.view.made ≡ h.view.made + 8 * count_below (nets_of a') now.view.drawn = t.made in
        let there : other.view.made ≡ 0 + 8 * count_below (nets_of a') other.view.drawn = r.made in
        omega (arith, count, own, there);
  }

  pub taken_more : (later : Holding) → later.table ≡ now.table → later.view ≡ both' → HasTaken order (joined + 1) (knowledge_of h) (knowledge_of later)
  taken_more later table view =
      let P : Holding → Type 0 = λ x. HasTaken order (joined + 1) (knowledge_of h) (knowledge_of x) in
      let is : record { table = now.table; view = both' } ≡ later = λ i. record { table = sym table i; view = sym view i } in
      subst P is taken_both

-- nothing is joined yet, and nothing drawn
pub none_taken : (order : List ℕ) (h : Holding) → h.view.drawn ≡ [] → HasTaken order 0 (knowledge_of h) (knowledge_of h)
none_taken order h none = record {
  setting = refl;
  home = refl;
  alone = refl;
  onward = are_refl h.view.setting.way (bounds_in h.view.seen);
  last = λ lie. absurd (omega arith);
  passed = λ n has lt. absurd (not_there n (subst (λ xs. Contains xs n) none has));
  made = let c = ap (count_below (nets_of h.view.setting)) none in omega (arith, c);
}
  where
    not_there : (n : ℕ) → Contains [] n → ⊥
    not_there n c = let lie = c.1 in omega (arith, lie)
