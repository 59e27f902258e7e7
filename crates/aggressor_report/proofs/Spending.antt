-- What is spent on an arc, and whether it gives the bound.
use Rattle.std.proofs.Common.{◌≡◌, ℕ, refl, sym, ap, ◌∙◌, Bool, true, false, ℤ, ◌+ℤ◌}
use Rattle.std.specs.Prelude.{Option, Some, None, IsTrue, ◌&&◌, if◌then◌else◌}
use Rattle.std.specs.Ordering.{int_eq}
use Rattle.std.specs.Option.{option_and_then}
use Rattle.std.proofs.lemmas.Bool.Decides.{Decides-int_eq}
use Rattle.std.proofs.lemmas.Option.{same_Some, none-some}
use Rattle.xt_model.specs.declared.edge.Edge.{Edge}
use Rattle.xt_model.specs.declared.net.Net.{Net}
use Rattle.xt_model.specs.declared.net.TimingArc.{TimingArc}
use Rattle.xt_model.specs.Quads.{is_live, same_edge}
use Rattle.xt_model.specs.Parts.{Parts}
use Rattle.xt_model.specs.Assign.{Assignment}
use Rattle.aggressor_report.specs.declared.passage.Passage.{Passage}
use Rattle.aggressor_report.specs.Passages.{bound_of, leading_to, passage_by, passage_to}
use Rattle.aggressor_report.specs.Paths.{arc_wire, arc_delay, loads_in, Gives}

-- what is spent on an arc whose input can switch
abbrev pub spent_on : Bool → Parts → Assignment → ℕ → Edge → Net → TimingArc → Passage
spent_on late d W n e net a = record {
  wire = arc_wire late d W a;
  delay = arc_delay late d W n e net a;
  time = (bound_of late (W a.from.0 a.input) +ℤ arc_wire late d W a) +ℤ arc_delay late d W n e net a;
}

-- the pieces are those of the definition of a path
spent_is : (late : Bool) (d : Parts) (W : Assignment) (n : ℕ) (e : Edge) (net : Net) (a : TimingArc) → is_live (W a.from.0 a.input) ≡ true
    → passage_by late d W (loads_in d W n e net) a ≡ Some (spent_on late d W n e net a)
spent_is true d W n e net a live = rw live refl
spent_is false d W n e net a live = rw live refl

unspent_is : (late : Bool) (d : Parts) (W : Assignment) (n : ℕ) (e : Edge) (net : Net) (a : TimingArc) → is_live (W a.from.0 a.input) ≡ false
    → passage_by late d W (loads_in d W n e net) a ≡ None
unspent_is late d W n e net a dead = rw dead refl

both_true : (s t : Bool) → s ≡ true → t ≡ true → IsTrue (s && t)
both_true s t p q = rw (p, q) refl

first_true : (s t : Bool) → IsTrue (s && t) → s ≡ true
first_true true t h = refl
first_true false t h = cc

pub second_true : (s t : Bool) → IsTrue (s && t) → t ≡ true
second_true true t h = h
second_true false t h = cc

-- the test of an arc, from the pieces
abbrev picked : Bool → ℤ → Option Passage → Option Passage
picked t bound o = if t then option_and_then (leading_to bound) o else None

picked_some : (t : Bool) (bound : ℤ) (o : Option Passage) (s : Passage) → t ≡ true → o ≡ Some s → int_eq s.time bound ≡ true → picked t bound o ≡ Some s
picked_some t bound o s p q r = rw (p, q, r) refl

picked_late : (t : Bool) (bound : ℤ) (o : Option Passage) (s : Passage) → t ≡ true → o ≡ Some s → int_eq s.time bound ≡ false → picked t bound o ≡ None
picked_late t bound o s p q r = rw (p, q, r) refl

picked_dead : (t : Bool) (bound : ℤ) (o : Option Passage) → t ≡ true → o ≡ None → picked t bound o ≡ None
picked_dead t bound o p q = rw (p, q) refl

picked_other : (t : Bool) (bound : ℤ) (o : Option Passage) → t ≡ false → picked t bound o ≡ None
picked_other t bound o p = rw p refl

module _ (late : Bool) (d : Parts) (W : Assignment) (n : ℕ) (e : Edge) (net : Net) (a : TimingArc) where
  abbrev pub IsFound : Passage → Type 0
  IsFound p = Gives late d W n e net a × (p.wire ≡ arc_wire late d W a) × (p.delay ≡ arc_delay late d W n e net a)

  gives_it : (p : Passage) → same_edge a.output e ≡ true → is_live (W a.from.0 a.input) ≡ true → int_eq (spent_on late d W n e net a).time (bound_of late (W n e)) ≡ true → p ≡ spent_on late d W n e net a → IsFound p
  gives_it p drives live same is = (
    record {
      drives = both_true (same_edge a.output e) (is_live (W a.from.0 a.input)) drives live;
      sum = (Decides-int_eq (spent_on late d W n e net a).time (bound_of late (W n e))).0 same;
    },
    ap (λ x. x.wire) is,
    ap (λ x. x.delay) is,
  )

  found_by : (t u v : Bool) (p : Passage) → same_edge a.output e ≡ t → is_live (W a.from.0 a.input) ≡ u → int_eq (spent_on late d W n e net a).time (bound_of late (W n e)) ≡ v
      → picked (same_edge a.output e) (bound_of late (W n e)) (passage_by late d W (loads_in d W n e net) a) ≡ Some p → IsFound p
  found_by true true true p te ue ve h = gives_it p te ue ve (same_Some p (spent_on late d W n e net a) (sym h ∙ picked_some _ _ _ (spent_on late d W n e net a) te (spent_is late d W n e net a ue) ve))
  found_by true true false p te ue ve h = absurd (none-some p (sym (picked_late _ _ _ (spent_on late d W n e net a) te (spent_is late d W n e net a ue) ve) ∙ h))
  found_by true false v p te ue ve h = absurd (none-some p (sym (picked_dead _ (bound_of late (W n e)) _ te (unspent_is late d W n e net a ue)) ∙ h))
  found_by false u v p te ue ve h = absurd (none-some p (sym (picked_other _ (bound_of late (W n e)) (passage_by late d W (loads_in d W n e net) a) te) ∙ h))

  -- an arc that is found gives the bound
  pub passage_found : (p : Passage) → passage_to late d W (loads_in d W n e net) e (bound_of late (W n e)) a ≡ Some p → IsFound p
  passage_found p h = found_by (same_edge a.output e) (is_live (W a.from.0 a.input)) (int_eq (spent_on late d W n e net a).time (bound_of late (W n e))) p refl refl refl h

  -- an arc that gives the bound is found
  pub passage_missed : passage_to late d W (loads_in d W n e net) e (bound_of late (W n e)) a ≡ None → Gives late d W n e net a → ⊥
  passage_missed h g =
      let te = first_true (same_edge a.output e) (is_live (W a.from.0 a.input)) g.drives in
      let ue = second_true (same_edge a.output e) (is_live (W a.from.0 a.input)) g.drives in
      let ve = (Decides-int_eq (spent_on late d W n e net a).time (bound_of late (W n e))).1 g.sum in
      absurd (none-some (spent_on late d W n e net a) (sym h ∙ picked_some _ _ _ (spent_on late d W n e net a) te (spent_is late d W n e net a ue) ve))
