-- Debts are paid one after another; and the parts of a visit together.
use Rattle.std.proofs.Common.{◌≡◌, ◌≢◌, ◌↔◌, ℕ, zero, suc, ◌+◌, ◌*◌, ◌%◌, ◌<◌, Bool, true, inl, inr, refl, sym, ap, subst, ◌∙◌, List, [], ◌∷◌, ◌++◌, length, drop, get_or, Contains, arith}
use Rattle.std.specs.Prelude.{IsTrue, IsFalse}
use Rattle.std.specs.List.{range_with_len}
use Rattle.std.specs.List.Sorted.{IsStrictlyIncreasing}
use Rattle.std.proofs.lemmas.List.{at_drop_more, get_or-drop, length-drop, get_or_default}
use Rattle.std.proofs.lemmas.List.FromFn.{length-range_with_len, get_or-range_with_len}
use Rattle.std.proofs.lemmas.List.Kept.{AllPairs-from_increasing, IsStrictlyIncreasing-filter}
use Rattle.std.proofs.lemmas.List.Elements.{Contains-append_right, Contains-append_cases}
use Rattle.xt_model.specs.declared.net.NetId.{NetId}
use Rattle.xt_model.specs.declared.quad.Pair.{Pair}
use Rattle.xt_model.specs.Parts.{Parts}
use Rattle.xt_meaning.specs.Reads.{IsReadList}
use Rattle.xt_meaning.specs.Barrier.{IsBoundNoFurther}
use Rattle.xt_meaning.specs.Words.{bounds_in, onward, AreNoFurther}
use Rattle.xt_meaning.proofs.Steps.{bound_trans}
use Rattle.net_eval.specs.ReadLists.{AreReadLists}
use Rattle.chaos_core.specs.Boards.{nets_of, IsSeen}
use Rattle.chaos_core.specs.Tasks.{list_of, evaluated, bound_at}
use Rattle.chaos_core.specs.Views.{IsLoaded}
use Rattle.chaos_core.proofs.Loads.{all_loaded}
use Rattle.chaos_core.proofs.Sight.{are_refl, are_trans}
use Rattle.dirty_words.specs.declared.view.Flight.{Flight}
use Rattle.dirty_words.specs.declared.view.DirtyView.{DirtyView}
use Rattle.dirty_words.specs.Views.{Run, run_of, has, readers_of, without, with_noted, with_taken, with_missed}
use Rattle.dirty_words.specs.Readers.{AreReaders}
use Rattle.dirty_words.specs.Steps.{CanTake, Took}
use Rattle.dirty_words.proofs.Nets.{stays, stayed}
use Rattle.dirty_run.specs.Visits.{with_base, with_numbers, with_words, HasLoaded, IsReady, IsPublishing, HasPaid, HasMoved, HasPassed, HasVisited}
use Rattle.dirty_run.proofs.Visiting.{evaluated_past, moved_before}

-- ---- paying
-- from u to w, the first of several nets were marked, and the others are owed
pub record IsPaying (u : DirtyView) (readers : List ℕ) (i : ℕ) (w : DirtyView) : Type 0 where
  pub owed : List ℕ
  pub noted : List ℕ
  pub clear : List ℕ
  pub after : w ≡ record u { owed = owed; noted = noted; clear = clear }
  pub debts : (m : ℕ) → Contains owed m ↔ Contains (drop i readers) m

pub none_paid : (u : DirtyView) (readers : List ℕ) → ((m : ℕ) → Contains u.owed m ↔ Contains readers m) → IsPaying u readers 0 u
none_paid u readers debts = record { owed = u.owed; noted = u.noted; clear = u.clear; after = refl; debts = debts }

pub paid_more : (u : DirtyView) (readers : List ℕ) (i : ℕ) (w x : DirtyView) (net : ℕ) → IsStrictlyIncreasing readers → i < length readers → net ≡ get_or readers i 0 → IsPaying u readers i w → x ≡ with_noted w net → IsPaying u readers (i + 1) x
paid_more u readers i w x net up inside is at step =
    let here : drop i readers ≡ net ∷ drop (i + 1) readers = at_drop_more (λ ys. ys) readers i 0 inside ∙ ap (λ n. n ∷ drop (i + 1) readers) (sym is) in
    record {
      owed = without net at.owed;
      noted = at.noted ++ net ∷ [];
      clear = without net at.clear;
      after = step ∙ ap (λ (y : DirtyView). with_noted y net) at.after;
      debts = λ m. (
        λ c.
            let old = stayed net m at.owed c in
            first_not net m (drop (i + 1) readers) (subst (λ xs. Contains xs m) here ((at.debts m).0 old.0)) old.1,
        λ c.
            let ne : m ≢ net = λ e. later net m i readers up inside is c (sym e) in
            stays net m at.owed ne ((at.debts m).1 (subst (λ xs. Contains xs m) (sym here) (Contains-append_right (net ∷ []) (drop (i + 1) readers) m c))),
      );
    }
  where
    first_not : (n m : ℕ) (xs : List ℕ) → Contains (n ∷ xs) m → m ≢ n → Contains xs m
    first_not n m xs c ne = elim (Contains-append_cases (n ∷ []) xs m c) [
      | inl one ↦ absurd (ne (only n m one))
      | inr more ↦ more
    ]
      where
        only : (n m : ℕ) → Contains (n ∷ []) m → m ≡ n
        only n m c = at_zero n m c.0 c.1 c.2
          where
            at_zero : (n m k : ℕ) → k < length (n ∷ []) → get_or (n ∷ []) k m ≡ m → m ≡ n
            at_zero n m zero h e = sym e
            at_zero n m (suc k) h e = absurd (omega (arith, h))

    later : (net m i : ℕ) (readers : List ℕ) → IsStrictlyIncreasing readers → i < length readers → net ≡ get_or readers i 0 → Contains (drop (i + 1) readers) m → net ≡ m → ⊥
    later net m i readers up inside is c e =
        let k = c.0 in
        let long = length-drop (i + 1) readers in
        let low = c.1 in
        let j : i < i + 1 + k = omega arith in
        let far : i + 1 + k < length readers = omega (arith, long, low) in
        let at : get_or readers (i + 1 + k) m ≡ m = sym (get_or-drop (i + 1) readers k m) ∙ c.2 in
        let up' = AllPairs-from_increasing readers up i (i + 1 + k) m j far in
        let own : get_or readers i m ≡ net = sym (get_or_default readers i 0 m inside) ∙ sym is in
        omega (arith, at, up', own, e)

-- the next of them is owed
pub pays_next : (u : DirtyView) (readers : List ℕ) (i : ℕ) (w : DirtyView) (net : ℕ) → i < length readers → net ≡ get_or readers i 0 → IsPaying u readers i w → Contains w.owed net
pays_next u readers i w net inside is at =
    let here : drop i readers ≡ net ∷ drop (i + 1) readers = at_drop_more (λ ys. ys) readers i 0 inside ∙ ap (λ n. n ∷ drop (i + 1) readers) (sym is) in
    let first : Contains (net ∷ drop (i + 1) readers) net = (0, omega arith, refl) in
    let owed : w.owed ≡ at.owed = ap (λ (x : DirtyView). x.owed) at.after in
    subst (λ xs. Contains xs net) (sym owed) ((at.debts net).1 (subst (λ xs. Contains xs net) (sym here) first))

none_is : (xs : List ℕ) → ((m : ℕ) → Contains xs m → ⊥) → xs ≡ []
none_is [] h = refl
none_is (x ∷ xs) h = absurd (h x (0, omega arith, refl))

pub all_paid : (u : DirtyView) (readers : List ℕ) (i : ℕ) (w : DirtyView) → drop i readers ≡ [] → IsPaying u readers i w → HasPaid u w
all_paid u readers i w end at =
    let none : at.owed ≡ [] = none_is at.owed (λ m c. let k = (subst (λ xs. Contains xs m) end ((at.debts m).0 c)).1 in omega (arith, k)) in
    record { noted = at.noted; clear = at.clear; after = at.after ∙ (λ i. record u { owed = none i; noted = at.noted; clear = at.clear }) }

-- ---- a visit
-- the mark was not set
pub visited_missed : (v : DirtyView) (net : ℕ) (w : DirtyView) → IsSeen v.base.setting v.base.seen → (Contains v.found net → ⊥) → w ≡ with_missed v net → HasVisited v net w
visited_missed v net w seen lacks is = record {
  seen = v.base.seen;
  made = v.base.made;
  clear = v.clear;
  noted = v.noted;
  missed = v.missed ++ net ∷ [];
  after = is;
  sound = seen;
  onward = are_refl v.base.setting.way (bounds_in v.base.seen);
  passed = λ c. absurd (lacks c);
  rose = omega arith;
  most = omega arith;
  why = inl refl;
}

module _ (v : DirtyView) (net : ℕ) (can : CanTake v net) (whole : AreReadLists v.base.setting.design v.lists) (u : DirtyView) (taken : u ≡ with_taken v net) (numbers : List ℕ) (w : DirtyView) (loaded : HasLoaded u net numbers w) (pair : Pair)
    (pair_is : pair ≡ evaluated v.base.setting.design (list_of v.lists net) numbers net) (moved : Bool) (x : DirtyView)
    (published : IsPublishing w net pair (record { net = net; numbers = numbers; published = 0 }) 8 moved x) where
  abbrev f' : Flight
  f' = record { net = net; numbers = numbers; published = 0 }

  -- the view while the net is in flight, over the view before the visit
  w_is : w ≡ with_numbers (with_taken v net) net numbers loaded.loading.seen
  w_is = loaded.loading.after ∙ ap (λ (y : DirtyView). with_numbers y net numbers loaded.loading.seen) taken

  x_is : x ≡ with_words (with_numbers (with_taken v net) net numbers loaded.loading.seen) f' 8 published.seen published.made published.owed
  x_is = published.after ∙ ap (λ (y : DirtyView). with_words y f' 8 published.seen published.made published.owed) w_is

  first_on : AreNoFurther v.base.setting.way (bounds_in v.base.seen) (bounds_in loaded.loading.seen)
  first_on = subst (λ (y : DirtyView). AreNoFurther y.base.setting.way (bounds_in y.base.seen) (bounds_in loaded.loading.seen)) taken loaded.loading.from.onward

  then_on : AreNoFurther v.base.setting.way (bounds_in loaded.loading.seen) (bounds_in published.seen)
  then_on = subst (λ (y : DirtyView). AreNoFurther y.base.setting.way (bounds_in y.base.seen) (bounds_in published.seen)) w_is published.onward

  all_on : AreNoFurther v.base.setting.way (bounds_in v.base.seen) (bounds_in published.seen)
  all_on = are_trans v.base.setting.way (bounds_in v.base.seen) (bounds_in loaded.loading.seen) (bounds_in published.seen) first_on then_on

  passes : HasPassed v published.seen net
  passes i lt =
      let a = v.base.setting in
      let P : DirtyView → Type 0 = λ y. IsBoundNoFurther y.base.setting.way (i % 2) (onward y.base.setting.design (bounds_in y.base.seen) (8 * net + i)) (bound_at (evaluated y.base.setting.design (list_of y.lists net) numbers net) i) in
      let whole_u : AreReadLists u.base.setting.design u.lists = subst (λ (y : DirtyView). AreReadLists y.base.setting.design y.lists) (sym taken) whole in
      let there_u : net < nets_of u.base.setting = subst (λ (y : DirtyView). net < nets_of y.base.setting) (sym taken) can.there in
      let far = subst P taken (evaluated_past u net loaded.loading.seen numbers whole_u there_u loaded.whole loaded.loading.from i lt) in
      let out : IsBoundNoFurther a.way (i % 2) (bound_at pair i) (bounds_in published.seen (8 * net + i)) = subst (λ (y : DirtyView). IsBoundNoFurther y.base.setting.way (i % 2) (bound_at pair i) (bounds_in published.seen (8 * net + i))) w_is (published.past i lt) in
      let one = subst (λ p. IsBoundNoFurther a.way (i % 2) (onward a.design (bounds_in v.base.seen) (8 * net + i)) (bound_at p i)) (sym pair_is) far in
      bound_trans a.way (i % 2) (onward a.design (bounds_in v.base.seen) (8 * net + i)) (bound_at pair i) (bounds_in published.seen (8 * net + i)) one out

  made_is : published.made ≡ v.base.made + 8
  made_is = let c = published.count in let m = ap (λ (y : DirtyView). y.base.made) w_is in omega (arith, c, m)

  sound : IsSeen v.base.setting published.seen
  sound = subst (λ (y : DirtyView). IsSeen y.base.setting published.seen) w_is published.sound

  -- no word moved: nothing is owed
  pub visited_still : IsFalse moved → HasVisited v net x
  visited_still still =
      let owed : published.owed ≡ v.owed = published.none still ∙ ap (λ (y : DirtyView). y.owed) w_is in
      let made = made_is in
      record {
        seen = published.seen;
        made = published.made;
        clear = v.clear;
        noted = v.noted;
        missed = v.missed;
        after = x_is ∙ (λ i. record v { base = with_base v published.seen published.made; flight = (sym can.free.flight) i; owed = owed i; taken = v.taken ++ net ∷ [] });
        sound = sound;
        onward = all_on;
        passed = λ _. passes;
        rose = omega (arith, made);
        most = omega (arith, made);
        why = inl refl;
      }

  -- a word moved, and all that is owed was paid
  pub visited_moved : IsTrue moved → (y : DirtyView) → HasPaid x y → HasVisited v net y
  visited_moved did y paid =
      let made = made_is in
      let has = (published.debts did).moved in
      let begun : HasMoved loaded.loading.seen published.seen = subst (λ (z : DirtyView). HasMoved z.base.seen published.seen) w_is has in
      record {
        seen = published.seen;
        made = published.made;
        clear = paid.clear;
        noted = paid.noted;
        missed = v.missed;
        after = paid.after ∙ (ap (λ (z : DirtyView). record z { owed = []; noted = paid.noted; clear = paid.clear }) x_is
            ∙ (λ i. record v { base = with_base v published.seen published.made; flight = (sym can.free.flight) i; owed = (sym can.free.owed) i; clear = paid.clear; taken = v.taken ++ net ∷ []; noted = paid.noted }));
        sound = sound;
        onward = all_on;
        passed = λ _. passes;
        rose = omega (arith, made);
        most = omega (arith, made);
        why = inr (moved_before v.base.setting.way v.base.seen loaded.loading.seen published.seen first_on then_on begun);
      }

-- ---- what the parts of a visit ask
module _ (r : Run) (v : DirtyView) (own : run_of v ≡ r) (d : Parts) (lists : List (List NetId)) (design : r.setting.design ≡ d) (same : r.lists ≡ lists) (whole : AreReadLists d lists) where
  pub own_lists : v.lists ≡ lists
  own_lists = ap (λ (x : Run). x.lists) own ∙ same

  pub own_design : v.base.setting.design ≡ d
  own_design = ap (λ (x : Run). x.setting.design) own ∙ design

  pub own_whole : AreReadLists v.base.setting.design lists
  own_whole = subst (λ (x : Parts). AreReadLists x lists) (sym own_design) whole

  pub whole_here : AreReadLists v.base.setting.design v.lists
  whole_here = subst (AreReadLists v.base.setting.design) (sym own_lists) own_whole

  pub own_inside : (net : ℕ) → net < nets_of v.base.setting → net < length lists
  own_inside net lt =
      let e : nets_of v.base.setting ≡ length d.nets = ap (λ (x : Parts). length x.nets) own_design in
      let count = whole.count in
      omega (arith, lt, e, count)

  pub own_pair : (net : ℕ) (numbers : List ℕ) (pair : Pair) → pair ≡ evaluated d (list_of lists net) numbers net → pair ≡ evaluated v.base.setting.design (list_of v.lists net) numbers net
  own_pair net numbers pair is =
      is ∙ (ap (λ (x : Parts). evaluated x (list_of lists net) numbers net) (sym own_design) ∙ ap (λ (ls : List (List NetId)). evaluated v.base.setting.design (list_of ls net) numbers net) (sym own_lists))

-- where no mark was taken, the net was not found marked
pub lacks_found : (v : DirtyView) (net : ℕ) (w : DirtyView) → Took v net 0 w → Contains v.found net → ⊥
lacks_found v net w step c = let e = step.found c in omega (arith, e)

pub took_nets : (v : DirtyView) (net : ℕ) (w : DirtyView) → Took v net 1 w → net < nets_of v.base.setting → net < nets_of w.base.setting
took_nets v net w step lt = subst (λ (x : DirtyView). net < nets_of x.base.setting) (sym (step.taken refl)) lt

-- the operator can evaluate the net on what was loaded
pub loaded_whole : (u : DirtyView) (net : ℕ) (numbers : List ℕ) (w : DirtyView) (d : Parts) (lists : List (List NetId)) → HasLoaded u net numbers w → u.base.setting.design ≡ d → u.lists ≡ lists → AreReadLists d lists → net < nets_of u.base.setting
    → IsLoaded d (list_of lists net) net numbers
loaded_whole u net numbers w d lists loaded design same whole there =
    let from = loaded.loading.from in
    let P : Parts → List (List NetId) → Type 0 = λ x ls. IsLoaded x (list_of ls net) net numbers in
    let list : IsReadList u.base.setting.design net (list_of u.lists net) =
    subst (λ (x : Parts). IsReadList x net (list_of u.lists net)) (sym design) (subst (λ (ls : List (List NetId)). IsReadList d net (list_of ls net)) (sym same) (whole.each net (subst (λ (x : Parts). net < length x.nets) design there))) in
    subst (P d) same (subst (λ (x : Parts). P x u.lists) design (all_loaded u.base.setting loaded.loading.seen (list_of u.lists net) numbers net from.sound there list loaded.whole from.loaded))

-- what was loaded is ready to be published, once the net is evaluated
pub ready_now : (u : DirtyView) (net : ℕ) (numbers : List ℕ) (w : DirtyView) (pair : Pair) → HasLoaded u net numbers w → pair ≡ evaluated u.base.setting.design (list_of u.lists net) numbers net
    → IsReady w net pair (record { net = net; numbers = numbers; published = 0 })
ready_now u net numbers w pair loaded own =
    let after = loaded.loading.after in
    let P : DirtyView → Type 0 = λ x. pair ≡ evaluated x.base.setting.design (list_of x.lists net) numbers net in
    let Q : DirtyView → Type 0 = λ x. length numbers ≡ 8 * length (list_of x.lists net) in
    record {
      flight = ap (λ (x : DirtyView). x.flight) after;
      own = refl;
      none = refl;
      whole = subst Q (sym after) loaded.whole;
      value = subst P (sym after) own;
    }

-- what is owed are the readers of the net
pub owes_now : (u : DirtyView) (net : ℕ) (pair : Pair) (f : Flight) (w : DirtyView) (lists readers : List (List NetId)) → IsPublishing u net pair f 8 true w → u.lists ≡ lists → AreReaders lists readers → net < length lists → (m : ℕ) → Contains w.owed m ↔ Contains (list_of readers net) m
owes_now u net pair f w lists readers published same are inside m =
    let debts = (published.debts refl).debts m in
    let owed : w.owed ≡ published.owed = ap (λ (x : DirtyView). x.owed) published.after in
    let list : list_of readers net ≡ readers_of u.lists net = are.each net inside ∙ ap (λ (ls : List (List NetId)). readers_of ls net) (sym same) in (
      λ c. subst (λ xs. Contains xs m) (sym list) (debts.0 (subst (λ xs. Contains xs m) owed c)),
      λ c. subst (λ xs. Contains xs m) (sym owed) (debts.1 (subst (λ xs. Contains xs m) list c)),
    )

-- readers rise
rising : (n : ℕ) → IsStrictlyIncreasing (range_with_len 0 n)
rising n k h =
    let len = length-range_with_len 0 n in
    let a = get_or-range_with_len 0 n k 0 (omega (arith, len, h)) in
    let b = get_or-range_with_len 0 n (k + 1) 0 (omega (arith, len, h)) in
    omega (arith, a, b)

pub readers_rise : (lists readers : List (List NetId)) (net : ℕ) → AreReaders lists readers → net < length lists → IsStrictlyIncreasing (list_of readers net)
readers_rise lists readers net are inside =
    subst IsStrictlyIncreasing (sym (are.each net inside)) (IsStrictlyIncreasing-filter (λ reader. has (list_of lists reader) net) (range_with_len 0 (length lists)) (rising (length lists)))
