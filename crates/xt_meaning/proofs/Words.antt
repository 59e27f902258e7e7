-- Bounds by words and windows by quads: what is said of each word of an assignment is said of its quads.
use Rattle.std.proofs.Common.{◌≡◌, ℕ, zero, suc, ◌/◌, ◌%◌, ◌<◌, refl, sym, subst, ℤ, arith}
use Rattle.xt_model.specs.declared.direction.Direction.{Direction}
use Rattle.xt_model.specs.declared.direction.Direction.TheVariants.{Widen, Narrow}
use Rattle.xt_model.specs.declared.edge.Edge.{Edge}
use Rattle.xt_model.specs.declared.edge.Edge.TheVariants.{Rise, Fall}
use Rattle.xt_model.specs.declared.quad.Quad.{Quad}
use Rattle.xt_model.specs.Assign.{Assignment, edge_number, word_number, edge_of, side_of, words_of, quads_of}
use Rattle.xt_meaning.specs.Barrier.{IsNoFurther, NoFurther, IsBoundNoFurther}
use Rattle.xt_meaning.proofs.Order.{same_quad}

-- ---- numbers of words
pub edge_of_number : (e : Edge) → edge_of (edge_number e) ≡ e
edge_of_number Rise = refl
edge_of_number Fall = refl

edge_small : (e : Edge) → edge_number e < 2
edge_small Rise = omega arith
edge_small Fall = omega arith

pub word_net : (n : ℕ) (e : Edge) (s : ℕ) → s < 4 → word_number n e s / 8 ≡ n
word_net n e s h = let b = edge_small e in omega arith

pub word_edge_number : (n : ℕ) (e : Edge) (s : ℕ) → s < 4 → word_number n e s / 4 % 2 ≡ edge_number e
word_edge_number n e s h = let b = edge_small e in omega arith

pub word_edge : (n : ℕ) (e : Edge) (s : ℕ) → s < 4 → edge_of (word_number n e s / 4 % 2) ≡ e
word_edge n e s h = let k = word_edge_number n e s h in let i = edge_of_number e in let P : ℕ → Type 0 = λ m. edge_of m ≡ e in subst P (sym k) i

pub word_side : (n : ℕ) (e : Edge) (s : ℕ) → s < 4 → word_number n e s % 4 ≡ s
word_side n e s h = let b = edge_small e in omega arith

pub word_parity : (n : ℕ) (e : Edge) (s : ℕ) → s < 4 → word_number n e s % 2 ≡ s % 2
word_parity n e s h = let b = edge_small e in omega arith

pub word_at_side : (W : Assignment) (n : ℕ) (e : Edge) (s : ℕ) → s < 4 → words_of W (word_number n e s) ≡ side_of (W n e) s
word_at_side W n e s h = let a = word_net n e s h in let b = word_edge n e s h in let c = word_side n e s h in cc

-- ---- one quad
-- each bound of q is no further than that of r
pub record SidesNoFurther (way : Direction) (q r : Quad) : Type 0 where
  pub tlo : IsBoundNoFurther way 0 q.tlo r.tlo
  pub thi : IsBoundNoFurther way 1 q.thi r.thi
  pub slo : IsBoundNoFurther way 0 q.slo r.slo
  pub shi : IsBoundNoFurther way 1 q.shi r.shi

pub quad_from_sides : (way : Direction) (q r : Quad) → SidesNoFurther way q r → IsNoFurther way q r
quad_from_sides Widen q r h = record { tlo = h.tlo; thi = h.thi; slo = h.slo; shi = h.shi }
quad_from_sides Narrow q r h = record { tlo = h.tlo; thi = h.thi; slo = h.slo; shi = h.shi }

pub sides_from_quad : (way : Direction) (q r : Quad) → IsNoFurther way q r → SidesNoFurther way q r
sides_from_quad Widen q r h = record { tlo = h.tlo; thi = h.thi; slo = h.slo; shi = h.shi }
sides_from_quad Narrow q r h = record { tlo = h.tlo; thi = h.thi; slo = h.slo; shi = h.shi }

side_from_sides : (way : Direction) (q r : Quad) (s : ℕ) → s < 4 → SidesNoFurther way q r → IsBoundNoFurther way (s % 2) (side_of q s) (side_of r s)
side_from_sides way q r zero h k = k.tlo
side_from_sides way q r (suc zero) h k = k.thi
side_from_sides way q r (suc (suc zero)) h k = k.slo
side_from_sides way q r (suc (suc (suc zero))) h k = k.shi
side_from_sides way q r (suc (suc (suc (suc n)))) h k = absurd (omega arith)

-- ---- assignments
-- a bound of a word is no further than another's, by the words of both
pub word_from_quads : (way : Direction) (W V : Assignment) (word : ℕ) → IsNoFurther way (W (word / 8) (edge_of (word / 4 % 2))) (V (word / 8) (edge_of (word / 4 % 2)))
    → IsBoundNoFurther way (word % 2) (words_of W word) (words_of V word)
word_from_quads way W V word h =
    let q = W (word / 8) (edge_of (word / 4 % 2)) in
    let r = V (word / 8) (edge_of (word / 4 % 2)) in
    let k = side_from_sides way q r (word % 4) (omega arith) (sides_from_quad way q r h) in
    let e : word % 4 % 2 ≡ word % 2 = omega arith in
    let P : ℕ → Type 0 = λ m. IsBoundNoFurther way m (side_of q (word % 4)) (side_of r (word % 4)) in
    subst P e k

pub words_from_quads : (way : Direction) (W V : Assignment) → NoFurther way W V → (word : ℕ) → IsBoundNoFurther way (word % 2) (words_of W word) (words_of V word)
words_from_quads way W V h word = word_from_quads way W V word (h.each (word / 8) (edge_of (word / 4 % 2)))

-- the bound of a side of a quad, from what is said of its word
side_from_word : (way : Direction) (f : ℕ → ℤ) (V : Assignment) (n : ℕ) (e : Edge) (s : ℕ) → s < 4
    → IsBoundNoFurther way (word_number n e s % 2) (f (word_number n e s)) (words_of V (word_number n e s))
    → IsBoundNoFurther way (s % 2) (f (word_number n e s)) (side_of (V n e) s)
side_from_word way f V n e s h k =
    let P : ℕ → Type 0 = λ m. IsBoundNoFurther way m (f (word_number n e s)) (words_of V (word_number n e s)) in
    let Q : ℤ → Type 0 = λ b. IsBoundNoFurther way (s % 2) (f (word_number n e s)) b in
    subst Q (word_at_side V n e s h) (subst P (word_parity n e s h) k)

-- a quad made of words is no further, where its four words are
pub quad_from_words : (way : Direction) (f : ℕ → ℤ) (V : Assignment) (n : ℕ) (e : Edge)
    → ((word : ℕ) → word / 8 ≡ n → IsBoundNoFurther way (word % 2) (f word) (words_of V word))
    → IsNoFurther way (quads_of f n e) (V n e)
quad_from_words way f V n e h = quad_from_sides way (quads_of f n e) (V n e) (record {
  tlo = side_from_word way f V n e 0 (omega arith) (h (word_number n e 0) (word_net n e 0 (omega arith)));
  thi = side_from_word way f V n e 1 (omega arith) (h (word_number n e 1) (word_net n e 1 (omega arith)));
  slo = side_from_word way f V n e 2 (omega arith) (h (word_number n e 2) (word_net n e 2 (omega arith)));
  shi = side_from_word way f V n e 3 (omega arith) (h (word_number n e 3) (word_net n e 3 (omega arith)));
})

-- the quad of an assignment's words is the assignment's
pub quads_of_words : (W : Assignment) (n : ℕ) (e : Edge) → quads_of (words_of W) n e ≡ W n e
quads_of_words W n e =
    let a = word_at_side W n e 0 (omega arith) in
    let b = word_at_side W n e 1 (omega arith) in
    let c = word_at_side W n e 2 (omega arith) in
    let d = word_at_side W n e 3 (omega arith) in
    same_quad (quads_of (words_of W) n e) (W n e) a b c d
