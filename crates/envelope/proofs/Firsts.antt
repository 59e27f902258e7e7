-- The first of a list of quantities that passes its limit.
use Rattle.std.proofs.Common.{◌≡◌, ℕ, zero, suc, ◌+◌, ◌<◌, Bool, true, inl, inr, refl, sym, subst, ◌∙◌, List, [], ◌∷◌, ◌++◌, length, ◌^◌, ap, ℤ, pos, ◌+ℤ◌, ◌≤ℤ◌, to_z, of_z, w64, arith}
use Rattle.std.specs.Prelude.{Option, Some, None, Result, Ok, Err, not, cond, slice_index}
use Rattle.std.specs.Int.{w128}
use Rattle.std.specs.Option.{option_or}
use Rattle.std.specs.Result.{is_ok}
use Rattle.std.specs.List.{AllPass, flat_map}
use Rattle.std.proofs.lemmas.Int.{ints}
use Rattle.std.proofs.lemmas.Bool.{cases_lt, cases_Bool}
use Rattle.std.proofs.lemmas.Option.{none-some}
use Rattle.std.proofs.lemmas.List.Elements.{All-nil, All-cons, All-head, All-tail}
use Rattle.std.proofs.lemmas.List.Folds.{find-append}
use Rattle.xt_model.specs.declared.quad.Quad.{Quad}
use Rattle.xt_model.specs.declared.quad.Pair.{Pair}
use Rattle.xt_model.specs.declared.net.Net.{Net}
use Rattle.xt_model.specs.Miller.{MillerNumbers}
use Rattle.xt_model.specs.Quads.{IsBound}
use Rattle.xt_meaning.specs.Wires.{slew_growth}
use Rattle.xt_meaning.specs.Envelope.{Test, TimeAt, SlewAt, keeps, sink_tests, all_sink_tests, quad_tests, first_over}
use Rattle.envelope.specs.declared.fault.Excess.{Excess}
use Rattle.envelope.specs.Firsts.{passed_test, driver_tests, wire_tests, pair_tests}

abbrev Kept : Test → Type 0
Kept t = keeps t ≡ true

-- ---- one list after another
over_both : (xs ys : List Test) → first_over (xs ++ ys) ≡ option_or (first_over xs) (first_over ys)
over_both xs ys = find-append (λ t. not (keeps t)) xs ys

-- where the first list keeps the limits
pub over_on : (xs ys : List Test) → None ≡ first_over xs → first_over ys ≡ first_over (xs ++ ys)
over_on xs ys h = let P : Option Test → Type 0 = λ o. first_over (xs ++ ys) ≡ option_or o (first_over ys) in sym (subst P (sym h) (over_both xs ys))

-- where the first list passes one
pub over_at : (xs ys : List Test) (t : Test) → Some t ≡ first_over xs → Some t ≡ first_over (xs ++ ys)
over_at xs ys t h = let P : Option Test → Type 0 = λ o. first_over (xs ++ ys) ≡ option_or o (first_over ys) in sym (subst P (sym h) (over_both xs ys))

-- ---- none passes its limit
pub all_passed : (ts : List Test) → None ≡ first_over ts → AllPass keeps ts
all_passed [] h = All-nil Kept
all_passed (t ∷ ts) h =
    let P : Bool → Type 0 = λ b. None ≡ cond (not b) (Some t) (first_over ts) in
    elim (cases_Bool (keeps t)) [
      | inl kept ↦ All-cons Kept t ts kept (all_passed ts (subst P kept h))
      | inr over ↦ absurd (none-some t (subst P over h))
    ]

pub none_over : (ts : List Test) → AllPass keeps ts → None ≡ first_over ts
none_over [] h = refl
none_over (t ∷ ts) h =
    let P : Bool → Type 0 = λ b. None ≡ cond (not b) (Some t) (first_over ts) in
    subst P (sym (All-head Kept t ts h)) (none_over ts (All-tail Kept t ts h))

-- where a result is good, no quantity is past its limit
pub none_passed : (r : Result (Unit {0}) Excess) (o : Option Test) → true ≡ is_ok r → passed_test r ≡ o → None ≡ o
none_passed (Ok u) o good e = e
none_passed (Err x) o good e = absurd (cc)

-- ---- lists of many nets
pub first_of_nets : (f : ℕ → List Test) (ns : List ℕ) (i : ℕ) (t : Test) → i < length ns → ((k : ℕ) → k < i → AllPass keeps (f (slice_index ns k))) → Some t ≡ first_over (f (slice_index ns i))
    → Some t ≡ first_over (flat_map f ns)
first_of_nets f [] i t h before here = absurd (omega arith)
first_of_nets f (n ∷ ns) zero t h before here = over_at (f n) (flat_map f ns) t here
first_of_nets f (n ∷ ns) (suc i) t h before here =
    first_of_nets f ns i t (omega arith) (λ k below. before (suc k) (omega arith)) here
    ∙ over_on (f n) (flat_map f ns) (none_over (f n) (before 0 (omega arith)))

pub none_of_nets : (f : ℕ → List Test) (ns : List ℕ) → ((n : ℕ) → AllPass keeps (f n)) → None ≡ first_over (flat_map f ns)
none_of_nets f [] h = refl
none_of_nets f (n ∷ ns) h = none_of_nets f ns h ∙ over_on (f n) (flat_map f ns) (none_over (f n) (h n))

-- ---- the sinks of a net
pub sinks_on : (m : MillerNumbers) (n : ℕ) (net : Net) (q : Quad) (i : ℕ) → None ≡ first_over (all_sink_tests m n net q i) → None ≡ first_over (sink_tests m n net q i) → None ≡ first_over (all_sink_tests m n net q (i + 1))
sinks_on m n net q i h k =
    let e : suc i ≡ i + 1 = omega arith in
    let P : ℕ → Type 0 = λ j. None ≡ first_over (all_sink_tests m n net q j) in
    subst P e (k ∙ over_on (all_sink_tests m n net q i) (sink_tests m n net q i) h)

pub sinks_at : (m : MillerNumbers) (n : ℕ) (net : Net) (q : Quad) (i count : ℕ) (t : Test) → i < count → None ≡ first_over (all_sink_tests m n net q i) → Some t ≡ first_over (sink_tests m n net q i)
    → Some t ≡ first_over (all_sink_tests m n net q count)
sinks_at m n net q i zero t h before here = absurd (omega arith)
sinks_at m n net q i (suc count) t h before here = elim (cases_lt i count) [
  | inl p ↦ over_at (all_sink_tests m n net q count) (sink_tests m n net q count) t (sinks_at m n net q i count t p before here)
  | inr p ↦
      let e : i ≡ count = omega arith in
      let P : ℕ → Type 0 = λ j. Some t ≡ first_over (all_sink_tests m n net q j ++ sink_tests m n net q j) in
      subst P e (here ∙ over_on (all_sink_tests m n net q i) (sink_tests m n net q i) before)
]

-- ---- the tests of a driver, a sink and a net
pub driver_tested : (n : ℕ) (q : Quad) (a b c : ℤ) (r : Result (Unit {0}) Excess) → a ≡ q.tlo → b ≡ q.thi → c ≡ q.shi
    → None ≡ first_over (TimeAt n a ∷ []) → None ≡ first_over (TimeAt n b ∷ []) → passed_test r ≡ first_over (SlewAt n c ∷ []) → passed_test r ≡ first_over (driver_tests n q)
driver_tested n q a b c r is_a is_b is_c first second last =
    let two = last ∙ over_on (TimeAt n b ∷ []) (SlewAt n c ∷ []) second in
    let three : passed_test r ≡ first_over (TimeAt n a ∷ TimeAt n b ∷ SlewAt n c ∷ []) = two ∙ over_on (TimeAt n a ∷ []) (TimeAt n b ∷ SlewAt n c ∷ []) first in
    let P : ℤ → Type 0 = λ x. passed_test r ≡ first_over (TimeAt n x ∷ TimeAt n b ∷ SlewAt n c ∷ []) in
    let Q : ℤ → Type 0 = λ x. passed_test r ≡ first_over (TimeAt n q.tlo ∷ TimeAt n x ∷ SlewAt n c ∷ []) in
    let R : ℤ → Type 0 = λ x. passed_test r ≡ first_over (TimeAt n q.tlo ∷ TimeAt n q.thi ∷ SlewAt n x ∷ []) in
    subst R is_c (subst Q is_b (subst P is_a three))

pub driver_stopped : (n : ℕ) (q : Quad) (a b : ℤ) (t : Test) → a ≡ q.tlo → b ≡ q.thi → None ≡ first_over (TimeAt n a ∷ []) → Some t ≡ first_over (TimeAt n b ∷ []) → Some t ≡ first_over (driver_tests n q)
driver_stopped n q a b t is_a is_b first second =
    let last = SlewAt n q.shi ∷ [] in
    let three = over_at (TimeAt n b ∷ []) last t second ∙ over_on (TimeAt n a ∷ []) (TimeAt n b ∷ last) first in
    let P : ℤ → Type 0 = λ x. Some t ≡ first_over (TimeAt n x ∷ TimeAt n b ∷ last) in
    let Q : ℤ → Type 0 = λ x. Some t ≡ first_over (TimeAt n q.tlo ∷ TimeAt n x ∷ last) in
    subst Q is_b (subst P is_a three)

pub wire_tested : (n : ℕ) (q : Quad) (w a b : ℤ) (r : Result (Unit {0}) Excess) → a ≡ q.thi +ℤ w → b ≡ q.shi +ℤ slew_growth w
    → None ≡ first_over (TimeAt n a ∷ []) → passed_test r ≡ first_over (SlewAt n b ∷ []) → passed_test r ≡ first_over (wire_tests n q w)
wire_tested n q w a b r is_a is_b first last =
    let two : passed_test r ≡ first_over (TimeAt n a ∷ SlewAt n b ∷ []) = last ∙ over_on (TimeAt n a ∷ []) (SlewAt n b ∷ []) first in
    let P : ℤ → Type 0 = λ x. passed_test r ≡ first_over (TimeAt n x ∷ SlewAt n b ∷ []) in
    let Q : ℤ → Type 0 = λ x. passed_test r ≡ first_over (TimeAt n (q.thi +ℤ w) ∷ SlewAt n x ∷ []) in
    subst Q is_b (subst P is_a two)

pub wire_stopped : (n : ℕ) (q : Quad) (w a : ℤ) (t : Test) → a ≡ q.thi +ℤ w → Some t ≡ first_over (TimeAt n a ∷ []) → Some t ≡ first_over (wire_tests n q w)
wire_stopped n q w a t is_a first =
    let last = SlewAt n (q.shi +ℤ slew_growth w) ∷ [] in
    let P : ℤ → Type 0 = λ x. Some t ≡ first_over (TimeAt n x ∷ last) in
    subst P is_a (over_at (TimeAt n a ∷ []) last t first)

pub pair_tested : (m : MillerNumbers) (n : ℕ) (net : Net) (o : Option Net) (p : Pair) (r : Result (Unit {0}) Excess) → o ≡ Some net
    → None ≡ first_over (quad_tests m n net p.rise) → passed_test r ≡ first_over (quad_tests m n net p.fall) → passed_test r ≡ first_over (pair_tests m n o p)
pair_tested m n net o p r there rise fall =
    let P : Option Net → Type 0 = λ x. passed_test r ≡ first_over (pair_tests m n x p) in
    subst P (sym there) (fall ∙ over_on (quad_tests m n net p.rise) (quad_tests m n net p.fall) rise)

pub pair_stopped : (m : MillerNumbers) (n : ℕ) (net : Net) (o : Option Net) (p : Pair) (t : Test) → o ≡ Some net → Some t ≡ first_over (quad_tests m n net p.rise) → Some t ≡ first_over (pair_tests m n o p)
pair_stopped m n net o p t there rise =
    let P : Option Net → Type 0 = λ x. Some t ≡ first_over (pair_tests m n x p) in
    subst P (sym there) (over_at (quad_tests m n net p.rise) (quad_tests m n net p.fall) t rise)

-- ---- numbers as they are stored
pub kept : (x y : ℤ) → IsBound x → y ≡ to_z w64 (of_z w64 x) → to_z w128 (of_z w128 y) ≡ x
kept x y h e = omega (arith, ints, h.low, h.high, e)

pub wire_kept : (wire : ℤ) → pos 0 ≤ℤ wire → wire ≤ℤ pos (2 ^ 105) → to_z w128 (of_z w128 wire) ≡ wire
wire_kept wire low high = omega (arith, ints, low, high)

pub arrival_kept : (x y wire : ℤ) → IsBound x → y ≡ to_z w64 (of_z w64 x) → pos 0 ≤ℤ wire → wire ≤ℤ pos (2 ^ 105) → to_z w128 (of_z w128 (to_z w128 (of_z w128 y) +ℤ to_z w128 (of_z w128 wire))) ≡ x +ℤ wire
arrival_kept x y wire h e low high = omega (arith, ints, h.low, h.high, e, low, high)

pub slew_kept : (x y wire more : ℤ) → IsBound x → y ≡ to_z w64 (of_z w64 x) → pos 0 ≤ℤ wire → wire ≤ℤ pos (2 ^ 105)
    → pos 0 ≤ℤ more → more ≤ℤ pos (2 ^ 107) → more ≡ slew_growth (to_z w128 (of_z w128 wire)) → to_z w128 (of_z w128 (to_z w128 (of_z w128 y) +ℤ to_z w128 (of_z w128 more))) ≡ x +ℤ slew_growth wire
slew_kept x y wire more h e low high more_low more_high more_is =
    let g : more ≡ slew_growth wire = more_is ∙ ap (λ z. slew_growth z) (wire_kept wire low high) in
    omega (arith, ints, h.low, h.high, e, more_low, more_high, g)
