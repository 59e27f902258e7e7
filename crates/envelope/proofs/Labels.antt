-- Which net a test is of.
use Rattle.std.proofs.Common.{◌≡◌, ℕ, zero, suc, ◌<◌, ℤ, ◌+ℤ◌, Bool, true, false, inl, inr, sym, subst, List, [], ◌∷◌, length}
use Rattle.std.specs.Prelude.{Option, Some, not, cond, if◌then◌else◌}
use Rattle.std.specs.List.{All, flat_map}
use Rattle.std.proofs.lemmas.Bool.{cases_Bool}
use Rattle.std.proofs.lemmas.Option.{none-some, slice_get_cases}
use Rattle.std.proofs.lemmas.List.Elements.{All-nil, All-cons, All-head, All-tail, All-append}
use Rattle.xt_model.specs.declared.edge.Edge.TheVariants.{Rise, Fall}
use Rattle.xt_model.specs.declared.quad.Quad.{Quad}
use Rattle.xt_model.specs.declared.quad.Pair.{Pair}
use Rattle.xt_model.specs.declared.net.Net.{Net}
use Rattle.xt_model.specs.Quads.{is_live}
use Rattle.xt_model.specs.Parts.{Parts}
use Rattle.xt_model.specs.Assign.{assigned}
use Rattle.xt_meaning.specs.Wires.{slew_growth}
use Rattle.xt_meaning.specs.Envelope.{Test, TimeAt, SlewAt, keeps, greatest_wire, sink_tests, all_sink_tests, quad_tests, tests_of, net_tests, first_over}
use Rattle.envelope.specs.declared.fault.What.{What}
use Rattle.envelope.specs.declared.fault.What.TheVariants.{Time, Slew}
use Rattle.envelope.specs.Firsts.{test_of, IsFirstPassed}

-- the test is of a net of the design
abbrev IsInside : Parts → Test → Type 0
IsInside d (TimeAt n t) = n < length d.nets
IsInside d (SlewAt n s) = n < length d.nets

-- what holds of each test holds of the first that does not pass
first_holds : (P : Test → Type 0) (ts : List Test) (t : Test) → All P ts → first_over ts ≡ Some t → P t
first_holds P [] t h e = absurd (none-some t e)
first_holds P (u ∷ ts) t h e =
    let Q : Bool → Type 0 = λ b. cond (not b) (Some u) (first_over ts) ≡ Some t in
    elim (cases_Bool (keeps u)) [
      | inl kept ↦ first_holds P ts t (All-tail P u ts h) (subst Q kept e)
      | inr over ↦
          let s : Some u ≡ Some t = subst Q over e in
          let same : u ≡ t = cc in
          subst P same (All-head P u ts h)
    ]

module _ (d : Parts) (n : ℕ) (there : n < length d.nets) where
  sinks_inside : (net : Net) (q : Quad) (count : ℕ) → All (IsInside d) (all_sink_tests d.miller n net q count)
  sinks_inside net q zero = All-nil (IsInside d)
  sinks_inside net q (suc count) =
      All-append (IsInside d) (all_sink_tests d.miller n net q count) (sink_tests d.miller n net q count) (sinks_inside net q count)
      (All-cons (IsInside d) (TimeAt n (q.thi +ℤ greatest_wire d.miller net count)) (SlewAt n (q.shi +ℤ slew_growth (greatest_wire d.miller net count)) ∷ []) there
      (All-cons (IsInside d) (SlewAt n (q.shi +ℤ slew_growth (greatest_wire d.miller net count))) [] there (All-nil (IsInside d))))

  chosen_inside : (b : Bool) (ts : List Test) → All (IsInside d) ts → All (IsInside d) (if b then ts else [])
  chosen_inside true ts h = h
  chosen_inside false ts h = All-nil (IsInside d)

  quad_inside : (net : Net) (q : Quad) → All (IsInside d) (quad_tests d.miller n net q)
  quad_inside net q =
      let sinks = all_sink_tests d.miller n net q (length net.sinks) in
      chosen_inside (is_live q) (TimeAt n q.tlo ∷ TimeAt n q.thi ∷ SlewAt n q.shi ∷ sinks)
      (All-cons (IsInside d) (TimeAt n q.tlo) (TimeAt n q.thi ∷ SlewAt n q.shi ∷ sinks) there
      (All-cons (IsInside d) (TimeAt n q.thi) (SlewAt n q.shi ∷ sinks) there
      (All-cons (IsInside d) (SlewAt n q.shi) sinks there (sinks_inside net q (length net.sinks)))))

net_inside : (d : Parts) (w : List Pair) (n : ℕ) → All (IsInside d) (net_tests d w n)
net_inside d w n =
    let P : Option Net → Type 0 = λ o. All (IsInside d) (tests_of d.miller w n o) in
    elim (slice_get_cases d.nets n).1 [
      | inl p ↦
          subst P (sym p.2) (All-append (IsInside d) (quad_tests d.miller n p.0 (assigned w n Rise)) (quad_tests d.miller n p.0 (assigned w n Fall))
          (quad_inside d n p.1 p.0 (assigned w n Rise)) (quad_inside d n p.1 p.0 (assigned w n Fall)))
      | inr p ↦ subst P (sym p.1) (All-nil (IsInside d))
    ]

all_inside : (d : Parts) (w : List Pair) (order : List ℕ) → All (IsInside d) (flat_map (net_tests d w) order)
all_inside d w [] = All-nil (IsInside d)
all_inside d w (n ∷ order) = All-append (IsInside d) (net_tests d w n) (flat_map (net_tests d w) order) (net_inside d w n) (all_inside d w order)

labelled : (d : Parts) (n : ℕ) (what : What) (value : ℤ) → IsInside d (test_of n what value) → n < length d.nets
labelled d n Time value h = h
labelled d n Slew value h = h

-- the net that passes a limit first is one of the design's
pub passed_there : (d : Parts) (n : ℕ) (what : What) (value : ℤ) → IsFirstPassed d n what value → n < length d.nets
passed_there d n what value f = labelled d n what value (first_holds (IsInside d) (flat_map (net_tests d f.top) f.order) (test_of n what value) (all_inside d f.top f.order) f.first)
