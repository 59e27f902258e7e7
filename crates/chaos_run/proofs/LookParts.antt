-- Looks at parts of the nets: one is cut in two, and two that lie side by side are joined.
use Rattle.std.proofs.Common.{◌≡◌, ℕ, ◌+◌, ◌-◌, ◌/◌, ◌<◌, ◌≤◌, inl, inr, refl, sym, subst, List, ◌++◌, length, length-set, get_or, set, Bool, false, arith}
use Rattle.std.specs.Prelude.{IsTrue}
use Rattle.std.proofs.lemmas.Bool.{cases_lt}
use Rattle.std.proofs.lemmas.List.{get_or_append_left, get_or-append-add, get_or-append_right, length-append}
use Rattle.xt_model.specs.declared.quad.Pair.{Pair}
use Rattle.xt_model.specs.Parts.{Parts}
use Rattle.net_eval.specs.Closing.{IsSteadyAt}
use Rattle.chaos_core.specs.Looks.{IsLook}
use Rattle.chaos_core.proofs.LookLaws.{marks_put}
use Rattle.chaos_run.specs.Looks.{IsLookBetween}
use Rattle.chaos_run.proofs.Marked.{marked_there}

-- ---- a part of a look
pub look_front : (d : Parts) (v : List Pair) (from middle to : ℕ) (marks left right : List Bool) → IsLookBetween d v from to marks → marks ≡ left ++ right → from + length left ≡ middle → IsLookBetween d v from middle left
look_front d v from middle to marks left right look is count = record {
  windows = look.windows;
  count = count;
  steady = λ place t.
      let there = marked_there left place t in
      look.steady place (subst (λ ms. IsTrue (get_or ms place false)) (sym is) (subst IsTrue (sym (get_or_append_left left right false place there)) t));
}

pub look_back : (d : Parts) (v : List Pair) (from middle to : ℕ) (marks left right : List Bool) → IsLookBetween d v from to marks → marks ≡ left ++ right → from + length left ≡ middle → IsLookBetween d v middle to right
look_back d v from middle to marks left right look is count = record {
  windows = look.windows;
  count =
      let whole = look.count in
      let many = subst (λ ms. length ms ≡ length left + length right) (sym is) (length-append left right) in
      omega (arith, whole, many, count);
  steady = λ place t.
      let at : from + (length left + place) ≡ middle + place = omega (arith, count) in
      subst (IsSteadyAt d v) at (look.steady (length left + place) (subst (λ ms. IsTrue (get_or ms (length left + place) false)) (sym is) (subst IsTrue (sym (get_or-append-add left right place false)) t)));
}

-- ---- two looks side by side
pub look_joined : (d : Parts) (v : List Pair) (from middle to : ℕ) (left right : List Bool) → IsLookBetween d v from middle left → IsLookBetween d v middle to right → IsLookBetween d v from to (left ++ right)
look_joined d v from middle to left right front back = record {
  windows = front.windows;
  count =
      let a = front.count in
      let b = back.count in
      let many = length-append left right in
      omega (arith, a, b, many);
  steady = λ place t. elim (cases_lt place (length left)) [
    | inl below ↦ front.steady place (subst IsTrue (get_or_append_left left right false place below) t)
    | inr past ↦
        let a = front.count in
        let at : middle + (place - length left) ≡ from + place = omega (arith, a, past) in
        subst (IsSteadyAt d v) at (back.steady (place - length left) (subst IsTrue (get_or-append_right left right (length left) place false refl past) t))
  ];
}

-- ---- all nets
look_whole : (d : Parts) (v : List Pair) (nets : ℕ) (marks : List Bool) → nets ≡ length d.nets → IsLook d v marks → IsLookBetween d v 0 nets marks
look_whole d v nets marks all look = record {
  windows = look.windows;
  count = let many = look.count in omega (arith, many, all);
  steady = λ place t.
      let there = marked_there marks place t in
      let at : place ≡ 0 + place = omega arith in
      subst (IsSteadyAt d v) at (look.steady place (let many = look.count in omega (arith, there, many)) t);
}

-- a look at all nets is one at the first eighth of them, one at those between, and one at the last eighth
pub look_in_three : (d : Parts) (v : List Pair) (nets : ℕ) (marks before rest between after : List Bool) → nets ≡ length d.nets → IsLook d v marks → marks ≡ before ++ rest → length before ≡ nets / 8
    → rest ≡ between ++ after → length between ≡ (nets - nets / 8) - nets / 8
    → IsLookBetween d v 0 (nets / 8) before × IsLookBetween d v (nets / 8) (nets - nets / 8) between × IsLookBetween d v (nets - nets / 8) nets after
look_in_three d v nets marks before rest between after all look cut size again middle =
    let first = nets / 8 in
    let last = nets - nets / 8 in
    let whole = look_whole d v nets marks all look in
    let here : 0 + length before ≡ first = omega (arith, size) in
    let there : first + length between ≡ last = omega (arith, middle) in
    let others = look_back d v 0 first nets marks before rest whole cut here in
    (look_front d v 0 first nets marks before rest whole cut here, look_front d v first last nets rest between after others again there, look_back d v first last nets rest between after others again there)

-- looks at the first nets, at those between and at the last are one at all nets
pub look_of_three : (d : Parts) (v : List Pair) (first last nets : ℕ) (before between after : List Bool) → nets ≡ length d.nets → IsLookBetween d v 0 first before → IsLookBetween d v first last between
    → IsLookBetween d v last nets after → IsLook d v (before ++ (between ++ after))
look_of_three d v first last nets before between after all a b c =
    let whole = look_joined d v 0 first nets before (between ++ after) a (look_joined d v first last nets between after b c) in
    record {
      windows = whole.windows;
      count = let many = whole.count in omega (arith, many, all);
      steady = λ net there t. let at : 0 + net ≡ net = omega arith in subst (IsSteadyAt d v) at (whole.steady net t);
    }

-- ---- one mark
-- the mark of a net is put anew: where it is set, the operator gives the windows of that net back
pub look_put : (d : Parts) (v : List Pair) (from to net : ℕ) (marks : List Bool) (mark : Bool) → IsLookBetween d v from to marks → from ≤ net → net < to → (IsTrue mark → IsSteadyAt d v net) → IsLookBetween d v from to (set marks (net - from) mark)
look_put d v from to net marks mark look low high h = record {
  windows = look.windows;
  count = let many = look.count in let same = length-set marks (net - from) mark in omega (arith, many, same);
  steady = λ place t.
      let at : net ≡ from + (net - from) = omega (arith, low) in
      let many = look.count in
      let inside : net - from < length marks = omega (arith, many, low, high) in
      marks_put (λ i. IsSteadyAt d v (from + i)) marks (net - from) mark inside look.steady (λ u. subst (IsSteadyAt d v) at (h u)) place t;
}
