-- One step of a worker keeps it fitting.
use Rattle.std.proofs.Common.{◌≡◌, ℕ, ◌+◌, ◌*◌, ◌%◌, ◌<◌, ◌≤◌, nat_lt, true, false, inl, inr, sym, ap, subst, List, [], ◌∷◌, ◌++◌, length, arith}
use Rattle.std.proofs.lemmas.Bool.{cases_lt}
use Rattle.std.proofs.lemmas.Bool.Decides.{nat_tests}
use Rattle.xt_model.specs.declared.net.NetId.{NetId}
use Rattle.xt_model.specs.declared.quad.Pair.{Pair}
use Rattle.xt_model.specs.Quads.{IsPairInRange}
use Rattle.xt_meaning.specs.Reads.{IsReadList}
use Rattle.xt_meaning.specs.Barrier.{IsBoundNoFurther}
use Rattle.xt_meaning.specs.Words.{bound_in, bounds_in, onward, AreNoFurther, further}
use Rattle.xt_meaning.proofs.Steps.{bound_trans}
use Rattle.xt_meaning.proofs.Numbers.{further_first}
use Rattle.net_eval.specs.ReadLists.{AreReadLists}
use Rattle.chaos_core.specs.declared.setting.Setting.{Setting}
use Rattle.chaos_core.specs.Boards.{nets_of, Knowledge, IsSeen, Loads, HasPublished}
use Rattle.chaos_core.specs.Tasks.{list_of, word_to_load, evaluated, bound_at, with_loaded}
use Rattle.chaos_core.specs.Steps.{AreLoaded, FitsLoading, FitsPublishing, Fits}
use Rattle.chaos_core.specs.Views.{IsLoaded}
use Rattle.chaos_core.proofs.Places.{load_there}
use Rattle.chaos_core.proofs.Sight.{seen_onward, onward_mono}
use Rattle.chaos_core.proofs.Loads.{loaded_more, all_loaded, evaluated_behind}

pub below : (m n : ℕ) → m < n → nat_lt m n ≡ true
below m n h = grind (arith, nat_tests)

pub not_below : (m n : ℕ) → n ≤ m → nat_lt m n ≡ false
not_below m n h = grind (arith, nat_tests)

-- ---- what a worker is at after it loaded
pub with_loaded_fits : (l : Knowledge) (lists : List (List NetId)) (net : ℕ) (numbers : List ℕ) → IsSeen l.setting l.seen → net < nets_of l.setting → IsReadList l.setting.design net (list_of lists net)
    → AreLoaded l.setting l.seen (list_of lists net) numbers
    → (8 * length (list_of lists net) ≤ length numbers → IsPairInRange (evaluated l.setting.design (list_of lists net) numbers net))
    → Fits l lists (with_loaded l.setting.design (list_of lists net) net numbers)
with_loaded_fits l lists net numbers seen there list loaded range =
    let reads = list_of lists net in
    elim (cases_lt (length numbers) (8 * length reads)) [
      | inl p ↦ rw (below (length numbers) (8 * length reads) p) (record { seen = seen; there = there; more = p; loaded = loaded })
      | inr p ↦
          let whole : length numbers ≡ 8 * length reads = let k = loaded.count in omega (arith, p, k) in
          rw (not_below (length numbers) (8 * length reads) p) (record {
            seen = seen;
            there = there;
            more = omega arith;
            range = range p;
            fits = λ i h. evaluated_behind l.setting l.seen reads numbers net seen there list whole loaded i h;
          })
    ]

pub with_loaded_whole : (l : Knowledge) (lists : List (List NetId)) (net : ℕ) (numbers : List ℕ) → IsSeen l.setting l.seen → net < nets_of l.setting → IsReadList l.setting.design net (list_of lists net)
    → AreLoaded l.setting l.seen (list_of lists net) numbers → length numbers ≡ 8 * length (list_of lists net) → IsLoaded l.setting.design (list_of lists net) net numbers
with_loaded_whole l lists net numbers seen there list loaded whole = all_loaded l.setting l.seen (list_of lists net) numbers net seen there list whole loaded

-- ---- a load
module _ (k l : Knowledge) (lists : List (List NetId)) (net : ℕ) (numbers : List ℕ) (word number : ℕ) (are : AreReadLists k.setting.design lists) (fits : FitsLoading k lists net numbers)
    (is : word ≡ word_to_load (list_of lists net) (length numbers)) where
  pub load_inside : word < 8 * nets_of k.setting
  load_inside = let h = load_there k.setting.design net (length numbers) (list_of lists net) fits.seen.sound (are.each net fits.there) fits.more in omega (arith, h, is)

  pub load_loaded : Loads k word number l → IsSeen l.setting l.seen → AreLoaded l.setting l.seen (list_of lists net) (numbers ++ number ∷ [])
  load_loaded h seen =
      let inside : word < length k.seen = let c = fits.seen.count in let i = load_inside in omega (arith, c, i) in
      let P : Knowledge → Type 0 = λ x. IsSeen x.setting x.seen → AreLoaded x.setting x.seen (list_of lists net) (numbers ++ number ∷ []) in
      subst P (sym h.after) (λ now. loaded_more k.setting k.seen (list_of lists net) numbers word number is fits.more fits.loaded inside h.found.past now) seen

-- ---- moving on
pub load_onward : (k l : Knowledge) (word number : ℕ) → word < length k.seen → Loads k word number l → AreNoFurther k.setting.way (bounds_in k.seen) (bounds_in l.seen)
load_onward k l word number inside h =
    let P : Knowledge → Type 0 = λ x. AreNoFurther k.setting.way (bounds_in k.seen) (bounds_in x.seen) in
    subst P (sym h.after) (seen_onward k.setting.way k.seen word number inside h.found.past)

left_past : (k : Knowledge) (word number value : ℕ) → IsBoundNoFurther k.setting.way (word % 2) (bounds_in k.seen word) (bound_in number)
    → IsBoundNoFurther k.setting.way (word % 2) (bounds_in k.seen word) (bound_in (further k.setting.way (word % 2) number value))
left_past k word number value h =
    let way = k.setting.way in
    let side = word % 2 in
    bound_trans way side (bounds_in k.seen word) (bound_in number) (bound_in (further way side number value)) h (further_first way side number value)

pub publish_onward : (k l : Knowledge) (word value : ℕ) → word < length k.seen → HasPublished k word value l → AreNoFurther k.setting.way (bounds_in k.seen) (bounds_in l.seen)
publish_onward k l word value inside h =
    let left = further k.setting.way (word % 2) h.0 value in
    let P : Knowledge → Type 0 = λ x. AreNoFurther k.setting.way (bounds_in k.seen) (bounds_in x.seen) in
    subst P (sym h.1.after) (seen_onward k.setting.way k.seen word left inside (left_past k word h.0 value h.1.found.past))

-- ---- a publication
pub publish_fits : (k l : Knowledge) (lists : List (List NetId)) (net : ℕ) (pair : Pair) (place value : ℕ) → FitsPublishing k net pair place → HasPublished k (8 * net + place) value l → IsSeen l.setting l.seen
    → place + 1 < 8 → FitsPublishing l net pair (place + 1)
publish_fits k l lists net pair place value fits h seen more =
    let word = 8 * net + place in
    let there = fits.there in
    let most = fits.more in
    let inside : word < length k.seen = let c = fits.seen.count in omega (arith, c, there, most) in
    let on = publish_onward k l word value inside h in
    let far = onward_mono k.setting.way k.setting.design (bounds_in k.seen) (bounds_in l.seen) fits.seen.sound on in
    let same : l.setting ≡ k.setting = ap (λ (x : Knowledge). x.setting) h.1.after in
    let P : Setting → Type 0 = λ a. (i : ℕ) → i < 8 → IsBoundNoFurther a.way (i % 2) (bound_at pair i) (onward a.design (bounds_in l.seen) (8 * net + i)) in
    record {
      seen = seen;
      there = subst (λ a. net < nets_of a) (sym same) there;
      more = more;
      range = fits.range;
      fits = subst P (sym same) (λ i lt.
          let w = 8 * net + i in
          let par : w % 2 ≡ i % 2 = omega arith in
          let step = subst (λ s. IsBoundNoFurther k.setting.way s (onward k.setting.design (bounds_in k.seen) w) (onward k.setting.design (bounds_in l.seen) w)) par (far w) in
          bound_trans k.setting.way (i % 2) (bound_at pair i) (onward k.setting.design (bounds_in k.seen) w) (onward k.setting.design (bounds_in l.seen) w) (fits.fits i lt) step);
    }
