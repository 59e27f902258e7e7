-- What a look found is what an evaluation of the same numbers would give.
use Rattle.std.proofs.Common.{◌≡◌, ℕ, ◌+◌, ◌*◌, ◌/◌, ◌%◌, ◌<◌, inl, inr, sym, ap, subst, ◌∙◌, List, length, arith}
use Rattle.std.specs.Prelude.{Option, Some, slice_index}
use Rattle.std.specs.List.{Contains, slice_get}
use Rattle.std.proofs.lemmas.Bool.{cases_lt}
use Rattle.xt_model.specs.declared.edge.Edge.{Edge}
use Rattle.xt_model.specs.declared.edge.Edge.TheVariants.{Rise, Fall}
use Rattle.xt_model.specs.declared.quad.Pair.{Pair}
use Rattle.xt_model.specs.Quads.{IsPairInRange}
use Rattle.xt_model.specs.Parts.{Parts}
use Rattle.xt_model.specs.Sound.{IsSound}
use Rattle.xt_model.specs.Assign.{assigned, edge_of, quad_of_pair, quads_of, side_of, word_number, words_of}
use Rattle.xt_meaning.specs.Operator.{operator, step}
use Rattle.xt_meaning.specs.Reads.{IsReadList}
use Rattle.xt_meaning.specs.Words.{bound_in, number_for}
use Rattle.xt_meaning.proofs.Extremes.{same_pair}
use Rattle.xt_meaning.proofs.Growth.{wired}
use Rattle.xt_meaning.proofs.Monotone.{operator_same_at, contained_from_same}
use Rattle.xt_meaning.proofs.Numbers.{bound_there}
use Rattle.xt_meaning.proofs.Order.{same_quad}
use Rattle.xt_meaning.proofs.Words.{quads_of_words, word_net}
use Rattle.net_eval.specs.Closing.{IsSteadyAt}
use Rattle.chaos_core.specs.Tasks.{bound_at, evaluated, loaded_bounds, place_of, word_to_load}
use Rattle.chaos_core.specs.Looks.{AreNumbersOf}
use Rattle.chaos_core.proofs.Places.{nets_read, placed, word_placed}
use Rattle.chaos_core.proofs.Stages.{bound_in_range}

-- the bound of a net in its words
bound_of_net : (v : List Pair) (n i word : ℕ) (pair : Pair) → word ≡ 8 * n + i → i < 8 → slice_get v n ≡ Some pair → words_of (assigned v) word ≡ bound_at pair i
bound_of_net v n i word pair is h at =
    let a : word / 8 ≡ n = omega (arith, is, h) in
    let b : word / 4 % 2 ≡ i / 4 = omega (arith, is, h) in
    let c : word % 4 ≡ i % 4 = omega (arith, is, h) in
    let e = edge_of (i / 4) in
    ap (λ x. side_of (assigned v (word / 8) (edge_of (word / 4 % 2))) x) c
    ∙ (ap (λ x. side_of (assigned v x (edge_of (word / 4 % 2))) (i % 4)) a
    ∙ (ap (λ x. side_of (assigned v n (edge_of x)) (i % 4)) b ∙ ap (λ (o : Option Pair). side_of (quad_of_pair o e) (i % 4)) at))

-- the numbers of one net more
pub numbers_more : (v : List Pair) (reads numbers : List ℕ) (place net : ℕ) (pair : Pair) → slice_index reads place ≡ net → slice_get v net ≡ Some pair → IsPairInRange pair
    → ((i : ℕ) → i < 8 → slice_index numbers (8 * place + i) ≡ number_for (bound_at pair i))
    → ((i : ℕ) → i < 8 * place → bound_in (slice_index numbers i) ≡ words_of (assigned v) (word_to_load reads i))
    → (i : ℕ) → i < 8 * (place + 1) → bound_in (slice_index numbers i) ≡ words_of (assigned v) (word_to_load reads i)
numbers_more v reads numbers place net pair is at range own before i h = elim (cases_lt i (8 * place)) [
  | inl old ↦ before i old
  | inr new ↦
      let j = i % 8 in
      let small : j < 8 = omega arith in
      let a : i / 8 ≡ place = omega (arith, h, new) in
      let e : 8 * place + j ≡ i = omega (arith, h, new) in
      let word : word_to_load reads i ≡ 8 * net + j = ap (λ p. 8 * slice_index reads p + j) a ∙ ap (λ n. 8 * n + j) is in
      ap bound_in (sym (ap (slice_index numbers) e)) ∙ (ap bound_in (own j small) ∙ ((bound_there (bound_at pair j) (bound_in_range pair j range)).0
      ∙ sym (bound_of_net v net j (word_to_load reads i) pair word small at)))
]

module _ (d : Parts) (reads numbers : List ℕ) (net : ℕ) (v : List Pair) (sound : IsSound d) (list : IsReadList d net reads) (whole : length numbers ≡ 8 * length reads) (same : AreNumbersOf v reads numbers) where
  bound_loaded : (word : ℕ) → Contains reads (word / 8) → loaded_bounds reads numbers word ≡ words_of (assigned v) word
  bound_loaded word h =
      let p = place_of reads (word / 8) in
      let inside = (placed reads (word / 8) h).inside in
      let i = 8 * p + word % 8 in
      subst (λ w. bound_in (slice_index numbers i) ≡ words_of (assigned v) w) (word_placed reads word h) (same i (omega (arith, inside, whole)))

  quad_loaded : (m : ℕ) (f : Edge) → Contains reads m → quads_of (loaded_bounds reads numbers) m f ≡ assigned v m f
  quad_loaded m f h =
      let at : (side : ℕ) → side < 4 → loaded_bounds reads numbers (word_number m f side) ≡ words_of (assigned v) (word_number m f side) =
      λ side lt. bound_loaded (word_number m f side) (subst (Contains reads) (sym (word_net m f side lt)) h) in
      same_quad _ _ (at 0 (omega arith)) (at 1 (omega arith)) (at 2 (omega arith)) (at 3 (omega arith)) ∙ quads_of_words (assigned v) m f

  pub recalled : (pair : Pair) → IsSteadyAt d v net → slice_get v net ≡ Some pair → pair ≡ evaluated d reads numbers net
  recalled pair steady at = same_pair pair (evaluated d reads numbers net) (each Rise) (each Fall) where
    each : (e : Edge) → quad_of_pair (Some pair) e ≡ operator d (quads_of (loaded_bounds reads numbers)) net e
    each e =
        let R = Contains reads in
        let W = quads_of (loaded_bounds reads numbers) in
        let made : operator d W net e ≡ step d v net e = operator_same_at R d W (assigned v) net e (wired d sound) (nets_read d net reads list)
        (contained_from_same R W (assigned v) (λ m f h. quad_loaded m f h)) (contained_from_same R (assigned v) W (λ m f h. sym (quad_loaded m f h))) in
        sym (ap (λ (o : Option Pair). quad_of_pair o e) at) ∙ (sym (steady.fixed e) ∙ sym made)
