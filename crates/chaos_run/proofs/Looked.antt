-- What the first pass finds while none is out: the windows that stand in the words.
use Rattle.std.proofs.Common.{◌≡◌, ℕ, ◌+◌, ◌*◌, ◌/◌, ◌%◌, ◌<◌, ◌≤◌, inl, inr, sym, ap, subst, ◌∙◌, List, length, get_or, set, ℤ, ◌≤ℤ◌, arith}
use Rattle.std.specs.List.{All}
use Rattle.std.proofs.lemmas.Bool.{cases_lt}
use Rattle.std.proofs.lemmas.Grind.{get_or_default_zero, same_number_lists}
use Rattle.xt_model.specs.declared.edge.Edge.{Edge}
use Rattle.xt_model.specs.declared.edge.Edge.TheVariants.{Rise, Fall}
use Rattle.xt_model.specs.declared.quad.Quad.{Quad}
use Rattle.xt_model.specs.declared.quad.Pair.{Pair}
use Rattle.xt_model.specs.Quads.{IsBound, IsPairInRange, quad_at}
use Rattle.xt_model.specs.Assign.{assigned, word_number, edge_of, side_of, quads_of}
use Rattle.xt_meaning.specs.Words.{bound_in, quiet_number, number_at, bounds_in, numbers_of}
use Rattle.xt_meaning.proofs.Order.{same_quad}
use Rattle.xt_meaning.proofs.Numbers.{words_of_quads, numbers_order, number_back, numbers_count, numbers_each}
use Rattle.xt_meaning.proofs.Rounds.{assigned-set_same, assigned-set_other}
use Rattle.chaos_core.proofs.Sight.{seen_range}
use Rattle.window_words.specs.declared.view.View.{View}
use Rattle.window_words.specs.Boards.{IsAlone}
use Rattle.window_words.specs.Steps.{Loaded}
use Rattle.window_words.proofs.Holding.{rested}
use Rattle.chaos_run.specs.Looks.{quad_from}

-- ---- one word
-- a number that is loaded stands for a bound, which is the one seen in the word
pub number_low : (v w : View) (word number : ℕ) → IsAlone v → Loaded v word number w → number ≤ 9223372036854775808
number_low v w word number alone step =
    let low = seen_range v.setting v.seen word (rested v w word number alone step).kept.seen in
    subst (λ n. n ≤ 9223372036854775808) (sym (step.whole alone).exact) low

pub bound_found : (v w : View) (word number : ℕ) → IsAlone v → Loaded v word number w → bound_in number ≡ bounds_in v.seen word
bound_found v w word number alone step = ap bound_in (step.whole alone).exact

pub bound_ranges : (v w : View) (word number : ℕ) → IsAlone v → Loaded v word number w → IsBound (bound_in number)
bound_ranges v w word number alone step = (number_back number (number_low v w word number alone step)).0

-- ---- four words, and eight
pub quad_found : (v v1 v2 v3 : View) (from : ℕ) (q : Quad) → v1 ≡ v → v2 ≡ v1 → v3 ≡ v2 → q.tlo ≡ bounds_in v.seen from → q.thi ≡ bounds_in v1.seen (from + 1) → q.slo ≡ bounds_in v2.seen (from + 2)
    → q.shi ≡ bounds_in v3.seen (from + 3) → q ≡ quad_from (bounds_in v.seen) from
quad_found v v1 v2 v3 from q a b c tlo thi slo shi =
    same_quad q (quad_from (bounds_in v.seen) from) tlo (thi ∙ ap (λ (x : View). bounds_in x.seen (from + 1)) a) (slo ∙ ap (λ (x : View). bounds_in x.seen (from + 2)) (b ∙ a))
    (shi ∙ ap (λ (x : View). bounds_in x.seen (from + 3)) (c ∙ (b ∙ a)))

quad_words : (f : ℕ → ℤ) (net : ℕ) (e : Edge) (from : ℕ) → from ≡ word_number net e 0 → quad_from f from ≡ quads_of f net e
quad_words f net e from is =
    same_quad (quad_from f from) (quads_of f net e) (ap f is) (ap f (let k : from + 1 ≡ word_number net e 1 = omega (arith, is) in k)) (ap f (let k : from + 2 ≡ word_number net e 2 = omega (arith, is) in k))
    (ap f (let k : from + 3 ≡ word_number net e 3 = omega (arith, is) in k))

pub pair_found : (f : ℕ → ℤ) (net : ℕ) (p : Pair) → p.rise ≡ quad_from f (8 * net) → p.fall ≡ quad_from f (8 * net + 4) → (e : Edge) → quad_at p e ≡ quads_of f net e
pair_found f net p rise fall Rise = rise ∙ quad_words f net Rise (8 * net) (omega arith)
pair_found f net p rise fall Fall = fall ∙ quad_words f net Fall (8 * net + 4) (omega arith)

-- ---- all words
pub windows_more : (f : ℕ → ℤ) (v : List Pair) (net : ℕ) (p : Pair) → net < length v → ((n : ℕ) (e : Edge) → n < net → assigned v n e ≡ quads_of f n e) → ((e : Edge) → quad_at p e ≡ quads_of f net e)
    → (n : ℕ) (e : Edge) → n < net + 1 → assigned (set v net p) n e ≡ quads_of f n e
windows_more f v net p inside before here n e h = elim (cases_lt n net) [
  | inl old ↦ assigned-set_other v net n p e (λ same. absurd (omega (arith, old, same))) ∙ before n e old
  | inr new ↦
      let is : net ≡ n = omega (arith, h, new) in
      subst (λ m. assigned (set v net p) m e ≡ quads_of f m e) is (assigned-set_same v net p e inside ∙ here e)
]

bound_once : (m n : ℕ) → bound_in m ≡ bound_in n → m ≡ n
bound_once m n e =
    let P : ℤ → Type 0 = λ b. bound_in m ≤ℤ b in
    let Q : ℤ → Type 0 = λ b. b ≤ℤ bound_in m in
    let low : m ≤ m = omega arith in
    let a = (numbers_order m n).0 (subst P e ((numbers_order m m).1 low)) in
    let b = (numbers_order n m).0 (subst Q e ((numbers_order m m).1 low)) in
    omega (arith, a, b)

pub numbers_found : (v : List Pair) (words : List ℕ) → length words ≡ 8 * length v → All IsPairInRange v → ((n : ℕ) (e : Edge) → n < length v → assigned v n e ≡ quads_of (bounds_in words) n e) → numbers_of v ≡ words
numbers_found v words count range there =
    let many = numbers_count v in
    same_number_lists (numbers_of v) words (omega (arith, count, many)) (λ word inside.
    let x = quiet_number (word % 2) in
    let net : word / 8 < length v = omega (arith, inside, many) in
    let bound = numbers_each v word range ∙ (ap (λ (q : Quad). side_of q (word % 4)) (there (word / 8) (edge_of (word / 4 % 2)) net) ∙ words_of_quads (bounds_in words) word) in
    let same : get_or (numbers_of v) word x ≡ get_or words word x = bound_once (number_at (numbers_of v) word) (number_at words word) bound in
    sym (get_or_default_zero (numbers_of v) word x inside) ∙ (same ∙ get_or_default_zero words word x (omega (arith, inside, many, count))))
