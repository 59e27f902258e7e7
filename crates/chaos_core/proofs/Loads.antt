-- Words loaded for a read list.
use Rattle.std.proofs.Common.{◌≡◌, ℕ, zero, suc, ◌+◌, ◌*◌, ◌/◌, ◌%◌, ◌<◌, ◌≤◌, inl, inr, refl, sym, ap, subst, ◌∙◌, List, [], ◌∷◌, ◌++◌, length, set, get_or, ℤ, arith, length-append}
use Rattle.std.specs.Prelude.{slice_index}
use Rattle.std.specs.List.{All, Contains, slice_get}
use Rattle.std.proofs.lemmas.Bool.{cases_lt}
use Rattle.std.proofs.lemmas.List.{get_or_append_left, get_or_default}
use Rattle.std.proofs.lemmas.List.Elements.{Contains-get_or}
use Rattle.xt_model.specs.declared.direction.Direction.TheVariants.{Widen}
use Rattle.xt_model.specs.declared.edge.Edge.{Edge}
use Rattle.xt_model.specs.declared.edge.Edge.TheVariants.{Rise, Fall}
use Rattle.xt_model.specs.declared.quad.Quad.{Quad}
use Rattle.xt_model.specs.Quads.{IsWithin, quad_at}
use Rattle.xt_model.specs.Parts.{Parts}
use Rattle.xt_model.specs.Assign.{assigned, edge_of, side_of, words_of, quads_of}
use Rattle.xt_meaning.specs.Operator.{operator}
use Rattle.xt_meaning.specs.Reads.{HoldsOfReads, IsReadList}
use Rattle.xt_meaning.specs.Barrier.{IsBoundNoFurther}
use Rattle.xt_meaning.specs.Words.{bound_in, top_number, number_at, bounds_in, onward, AreNoFurther}
use Rattle.xt_meaning.proofs.Growth.{wired}
use Rattle.xt_meaning.proofs.Words.{quad_from_words}
use Rattle.xt_meaning.proofs.Steps.{bound_refl, bound_trans, respects_before}
use Rattle.xt_meaning.proofs.Numbers.{onward_mono_at}
use Rattle.xt_meaning.proofs.Widest.{IfSome_there}
use Rattle.net_eval.specs.Room.{ReadsWithinEnvelope}
use Rattle.chaos_core.specs.declared.setting.Setting.{Setting}
use Rattle.chaos_core.specs.Boards.{nets_of, started, IsSeen}
use Rattle.chaos_core.specs.Tasks.{place_of, word_to_load, loaded_bounds, evaluated, bound_at}
use Rattle.chaos_core.specs.Steps.{IsLoadedAt, AreLoaded}
use Rattle.chaos_core.specs.Views.{IsLoaded}
use Rattle.chaos_core.proofs.Places.{placed, word_placed, nets_read, read_there}
use Rattle.chaos_core.proofs.Sight.{within_top, seen_range, number_here, seen_onward}

-- ---- one word more
pub none_loaded : (a : Setting) (seen reads : List ℕ) → AreLoaded a seen reads []
none_loaded a seen reads = record { count = omega arith; each = λ i h. absurd (omega arith) }

-- what was loaded stays behind what is seen, however that moves on
pub loaded_later : (a : Setting) (seen later reads numbers : List ℕ) → AreNoFurther a.way (bounds_in seen) (bounds_in later) → AreLoaded a seen reads numbers → AreLoaded a later reads numbers
loaded_later a seen later reads numbers h loaded = record {
  count = loaded.count;
  each = λ i k.
      let w = word_to_load reads i in
      let one = loaded.each i k in
      record { started = one.started; behind = bound_trans a.way (w % 2) (bound_in (slice_index numbers i)) (bounds_in seen w) (bounds_in later w) one.behind (h w); range = one.range };
}

pub last_at : (numbers : List ℕ) (number i : ℕ) → length numbers ≡ i → slice_index (numbers ++ number ∷ []) i ≡ number
last_at [] number zero e = refl
last_at [] number (suc i) e = absurd (omega arith)
last_at (n ∷ numbers) number zero e = absurd (omega arith)
last_at (n ∷ numbers) number (suc i) e = last_at numbers number i (omega arith)

pub loaded_more : (a : Setting) (seen reads numbers : List ℕ) (word number : ℕ) → word ≡ word_to_load reads (length numbers) → length numbers < 8 * length reads → AreLoaded a seen reads numbers
    → word < length seen → IsBoundNoFurther a.way (word % 2) (bounds_in seen word) (bound_in number) → IsSeen a (set seen word number)
    → AreLoaded a (set seen word number) reads (numbers ++ number ∷ [])
loaded_more a seen reads numbers word number is more loaded inside past now =
    let later = set seen word number in
    let len : length (numbers ++ number ∷ []) ≡ length numbers + 1 = length-append numbers (number ∷ []) in
    let before = loaded_later a seen later reads numbers (seen_onward a.way seen word number inside past) loaded in
    let here : number_at later word ≡ number = number_here seen word number inside in
    let own : IsLoadedAt a later word number = record {
      started = subst (λ n. IsBoundNoFurther a.way (word % 2) (started a word) (bound_in n)) here (now.started word);
      behind = subst (λ n. IsBoundNoFurther a.way (word % 2) (bound_in number) (bound_in n)) (sym here) (bound_refl a.way (word % 2) (bound_in number));
      range = subst (λ n. n ≤ 9223372036854775808) here (seen_range a later word now);
    } in
    record {
      count = omega (arith, len, more);
      each = λ i h. elim (cases_lt i (length numbers)) [
        | inl p ↦ subst (IsLoadedAt a later (word_to_load reads i)) (sym (get_or_append_left numbers (number ∷ []) 0 i p)) (before.each i p)
        | inr p ↦
            let e : length numbers ≡ i = omega (arith, len, h, p) in
            let at : slice_index (numbers ++ number ∷ []) i ≡ number = last_at numbers number i e in
            subst (IsLoadedAt a later (word_to_load reads i)) (sym at) (subst (λ j. IsLoadedAt a later (word_to_load reads j) number) e (subst (λ w. IsLoadedAt a later w number) is own))
      ];
    }

-- ---- all words
-- the bounds of a pair of windows, by the words of its net
pub edge_at : (W : ℕ → Edge → Quad) (net : ℕ) (e : Edge) → quad_at (record { rise = W net Rise; fall = W net Fall }) e ≡ W net e
edge_at W net Rise = refl
edge_at W net Fall = refl

pub bound_onward : (d : Parts) (f : ℕ → ℤ) (net i : ℕ) → i < 8
    → bound_at (record { rise = operator d (quads_of f) net Rise; fall = operator d (quads_of f) net Fall }) i ≡ onward d f (8 * net + i)
bound_onward d f net i h =
    let W = operator d (quads_of f) in
    let word = 8 * net + i in
    let a : word / 8 ≡ net = omega arith in
    let b : word / 4 % 2 ≡ i / 4 = omega arith in
    let c : word % 4 ≡ i % 4 = omega arith in
    let e = edge_of (i / 4) in
    ap (λ q. side_of q (i % 4)) (edge_at W net e) ∙ sym (ap (λ x. side_of (W (word / 8) (edge_of (word / 4 % 2))) x) c ∙ (ap (λ x. side_of (W x (edge_of (word / 4 % 2))) (i % 4)) a ∙ ap (λ x. side_of (W net (edge_of x)) (i % 4)) b))

module _ (a : Setting) (seen reads numbers : List ℕ) (net : ℕ) (sees : IsSeen a seen) (there : net < nets_of a) (list : IsReadList a.design net reads)
    (whole : length numbers ≡ 8 * length reads) (loaded : AreLoaded a seen reads numbers) where
  pub loaded_at : (word : ℕ) → Contains reads (word / 8) → IsLoadedAt a seen word (slice_index numbers (8 * place_of reads (word / 8) + word % 8))
  loaded_at word h =
      let p = place_of reads (word / 8) in
      let at = placed reads (word / 8) h in
      let k = at.inside in
      subst (λ w. IsLoadedAt a seen w (slice_index numbers (8 * p + word % 8))) (word_placed reads word h) (loaded.each (8 * p + word % 8) (omega (arith, k, whole)))

  pub loaded_within : (word : ℕ) → Contains reads (word / 8) → IsBoundNoFurther Widen (word % 2) (loaded_bounds reads numbers word) (words_of (assigned sees.start.within.top) word)
  loaded_within word h =
      let one = loaded_at word h in
      let b = loaded_bounds reads numbers word in
      let w = sees.start.within in
      within_top a.way a.design a.start w.top word b sees.sound w.envelope w.contained (respects_before a.way a.design word b (bounds_in seen word) one.behind (sees.respects word)) one.started

  loaded_reads : ReadsWithinEnvelope a.design (quads_of (loaded_bounds reads numbers)) net
  loaded_reads =
      let w = sees.start.within in
      let W = quads_of (loaded_bounds reads numbers) in
      record {
        top = w.top;
        envelope = w.envelope;
        accepted = w.accepted;
        inputs = IfSome_there (λ n. All (λ x. IsWithin (W x.from.0 x.input) (assigned w.top x.from.0 x.input)) n.arcs) (slice_get a.design.nets net)
            (λ n at. λ i x h.
            let arc = get_or n.arcs i x in
            let read : Contains reads arc.from.0 = (list.members arc.from.0).1 (arc.from.0, (n, arc, at, Contains-get_or n.arcs i x h, refl), inr (inl refl)) in
            quad_from_words Widen (loaded_bounds reads numbers) (assigned w.top) arc.from.0 arc.input (λ word is. loaded_within word (subst (Contains reads) (sym is) read)));
      }

  pub all_loaded : IsLoaded a.design reads net numbers
  all_loaded = record {
    there = there;
    list = list;
    nets = λ i x h. read_there a.design net (get_or reads i x) reads sees.sound list (Contains-get_or reads i x h);
    whole = whole;
    range = λ i x h. subst (λ n. n ≤ top_number) (get_or_default numbers i 0 x h) ((loaded.each i h).range);
    within = loaded_reads;
  }

  -- what the operator makes of loaded words is no further than what it makes of what is seen
  pub evaluated_behind : (i : ℕ) → i < 8 → IsBoundNoFurther a.way (i % 2) (bound_at (evaluated a.design reads numbers net) i) (onward a.design (bounds_in seen) (8 * net + i))
  evaluated_behind i h =
      let word = 8 * net + i in
      let f = loaded_bounds reads numbers in
      let n : word / 8 ≡ net = omega arith in
      let par : word % 2 ≡ i % 2 = omega arith in
      let R = Contains reads in
      let hold = subst (λ m. HoldsOfReads R a.design m) (sym n) (nets_read a.design net reads list) in
      let k = onward_mono_at R a.way a.design f (bounds_in seen) word (wired a.design sees.sound) hold (λ w r. (loaded_at w r).behind) in
      let same = bound_onward a.design f net i h in
      subst (λ b. IsBoundNoFurther a.way (i % 2) b (onward a.design (bounds_in seen) word)) (sym same)
      (subst (λ s. IsBoundNoFurther a.way s (onward a.design f word) (onward a.design (bounds_in seen) word)) par k)
