-- The bound of a window is given by one of the arcs of its net.
use Rattle.std.proofs.Common.{◌≡◌, ℕ, suc, ◌<◌, inl, inr, ◌⊎◌, refl, sym, ap, subst, ◌∙◌, Bool, true, false, List, [], ◌∷◌, length, ℤ, ◌+ℤ◌, arith}
use Rattle.std.specs.Prelude.{Some, IsTrue, int_le, if◌then◌else◌}
use Rattle.std.specs.Int.{int_min, int_max}
use Rattle.std.specs.List.{slice_get, fold}
use Rattle.std.proofs.lemmas.Int.{ints, clamps}
use Rattle.xt_model.specs.declared.edge.Edge.{Edge}
use Rattle.xt_model.specs.declared.quad.Quad.{Quad}
use Rattle.xt_model.specs.declared.net.Net.{Net}
use Rattle.xt_model.specs.declared.net.TimingArc.{TimingArc}
use Rattle.xt_model.specs.Quads.{bottom, join_of}
use Rattle.xt_model.specs.Parts.{Parts}
use Rattle.xt_model.specs.Sound.{IsConstraint}
use Rattle.xt_model.specs.Assign.{Assignment}
use Rattle.xt_meaning.specs.Overlap.{overlap_answers}
use Rattle.xt_meaning.specs.Operator.{operator, operator_by, arcs_quad, with_arc, contribution, contributes}
use Rattle.aggressor_report.specs.Passages.{bound_of}
use Rattle.aggressor_report.specs.Paths.{arc_wire, arc_delay, IsGiven}

le_of_test : (a b : ℤ) → int_le a b ≡ true → int_max a b ≡ b
le_of_test a b h = grind (arith, ints, clamps)

gt_of_test : (a b : ℤ) → int_le a b ≡ false → int_max a b ≡ a
gt_of_test a b h = grind (arith, ints, clamps)

low_of_test : (a b : ℤ) → int_le a b ≡ true → int_min a b ≡ a
low_of_test a b h = grind (arith, ints, clamps)

high_of_test : (a b : ℤ) → int_le a b ≡ false → int_min a b ≡ b
high_of_test a b h = grind (arith, ints, clamps)

max_either : (a b : ℤ) (t : Bool) → int_le a b ≡ t → (int_max a b ≡ a) ⊎ (int_max a b ≡ b)
max_either a b true e = inr (le_of_test a b e)
max_either a b false e = inl (gt_of_test a b e)

min_either : (a b : ℤ) (t : Bool) → int_le a b ≡ t → (int_min a b ≡ a) ⊎ (int_min a b ≡ b)
min_either a b true e = inl (low_of_test a b e)
min_either a b false e = inr (high_of_test a b e)

-- the bound of a join is that of one of the two
join_bound : (late : Bool) (q r : Quad) → (bound_of late (join_of q r) ≡ bound_of late q) ⊎ (bound_of late (join_of q r) ≡ bound_of late r)
join_bound true q r = max_either q.thi r.thi (int_le q.thi r.thi) refl
join_bound false q r = min_either q.tlo r.tlo (int_le q.tlo r.tlo) refl

-- what an arc contributes has the sum of the three as its bound
pub contributed_bound : (late : Bool) (d : Parts) (W : Assignment) (n : ℕ) (net : Net) (e : Edge) (a : TimingArc)
    → bound_of late (contribution d (overlap_answers d.period W) W n net e a) ≡ (bound_of late (W a.from.0 a.input) +ℤ arc_wire late d W a) +ℤ arc_delay late d W n e net a
contributed_bound true d W n net e a = refl
contributed_bound false d W n net e a = refl

-- one of these arcs contributes to the edge, and what it contributes has this bound
pub record IsAttained (late : Bool) (d : Parts) (W : Assignment) (n : ℕ) (net : Net) (e : Edge) (arcs : List TimingArc) (bound : ℤ) : Type 0 where
  pub number : ℕ
  pub arc : TimingArc
  pub arc_at : slice_get arcs number ≡ Some arc
  pub drives : IsTrue (contributes W e arc)
  pub bound_is : bound_of late (contribution d (overlap_answers d.period W) W n net e arc) ≡ bound

module _ (late : Bool) (d : Parts) (W : Assignment) (n : ℕ) (net : Net) (e : Edge) where
  joined_bound : (q : Quad) (a : TimingArc) (t : Bool) → contributes W e a ≡ t
      → (bound_of late (if t then join_of q (contribution d (overlap_answers d.period W) W n net e a) else q) ≡ bound_of late q)
      ⊎ (IsTrue (contributes W e a) × (bound_of late (if t then join_of q (contribution d (overlap_answers d.period W) W n net e a) else q) ≡ bound_of late (contribution d (overlap_answers d.period W) W n net e a)))
  joined_bound q a true c = elim (join_bound late q (contribution d (overlap_answers d.period W) W n net e a)) [
    | inl p ↦ inl p
    | inr p ↦ inr (c, p)
  ]
  joined_bound q a false c = inl refl

  -- the bound of a join over arcs is that of its start, or one of the arcs has it
  attained : (arcs : List TimingArc) (q : Quad)
      → (bound_of late (fold (with_arc d (overlap_answers d.period W) W n net e) q arcs) ≡ bound_of late q)
      ⊎ IsAttained late d W n net e arcs (bound_of late (fold (with_arc d (overlap_answers d.period W) W n net e) q arcs))
  attained [] q = inl refl
  attained (a ∷ more) q = elim (attained more (with_arc d (overlap_answers d.period W) W n net e q a)) [
    | inl p ↦ elim (joined_bound q a (contributes W e a) refl) [
      | inl r ↦ inl (p ∙ r)
      | inr r ↦ inr (record { number = 0; arc = a; arc_at = refl; drives = r.0; bound_is = sym r.1 ∙ sym p })
    ]
    | inr h ↦ inr (record { number = suc h.number; arc = h.arc; arc_at = h.arc_at; drives = h.drives; bound_is = h.bound_is })
  ]

  not_bottom : IsConstraint (W n e) → bound_of late (W n e) ≡ bound_of late bottom → ⊥
  not_bottom h p = far late p where
    far : (l : Bool) → bound_of l (W n e) ≡ bound_of l bottom → ⊥
    far true p = absurd (omega (arith, ints, h.thi.least, p))
    far false p = absurd (omega (arith, ints, h.tlo.most, p))

  from_arcs : (arcs : List TimingArc) → 0 < length arcs → arcs_quad d (overlap_answers d.period W) W n net e arcs ≡ W n e → IsConstraint (W n e) → IsAttained late d W n net e arcs (bound_of late (W n e))
  from_arcs [] some is room = absurd (omega arith)
  from_arcs (a ∷ more) some is room = elim (attained (a ∷ more) bottom) [
    | inl p ↦ absurd (not_bottom room (ap (bound_of late) (sym is) ∙ p))
    | inr h ↦ let P : ℤ → Type 0 = λ b. IsAttained late d W n net e (a ∷ more) b in subst P (ap (bound_of late) is) h
  ]

-- in windows that the operator gives back, some arc of a net that has arcs gives the bound of a live window of it
pub given_at : (late : Bool) (d : Parts) (W : Assignment) (n : ℕ) (e : Edge) (net : Net) → slice_get d.nets n ≡ Some net → 0 < length net.arcs → operator d W n e ≡ W n e → IsConstraint (W n e)
    → IsGiven late d W n e
unfolding operator_by
given_at late d W n e net there some closed room =
    let is : arcs_quad d (overlap_answers d.period W) W n net e net.arcs ≡ W n e = rw there at closed in
    let h = from_arcs late d W n net e net.arcs some is room in
    record {
      net = net;
      arc = h.arc;
      number = h.number;
      there = there;
      arc_at = h.arc_at;
      gives = record { drives = h.drives; sum = sym (contributed_bound late d W n net e h.arc) ∙ h.bound_is };
    }
