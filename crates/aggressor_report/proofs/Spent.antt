-- What is spent on an arc, from its pieces as they are stored.
use Rattle.std.proofs.Common.{◌≡◌, ℕ, ◌<◌, refl, sym, ap, ◌∙◌, Bool, true, false, List, length, get_or, to_z, of_z, w64, ℤ, ◌+ℤ◌, ◌≤ℤ◌, arith}
use Rattle.std.specs.Prelude.{Option, Some, None}
use Rattle.std.specs.List.{slice_get}
use Rattle.std.specs.Option.{option_and_then}
use Rattle.std.specs.Ordering.{int_eq}
use Rattle.std.proofs.lemmas.Bool.Decides.{Decides-int_eq}
use Rattle.std.proofs.lemmas.Int.{ints}
use Rattle.std.proofs.lemmas.Option.{slice_get_read}
use Rattle.xt_model.specs.declared.edge.Edge.{Edge}
use Rattle.xt_model.specs.declared.quad.Quad.{Quad}
use Rattle.xt_model.specs.declared.net.TimingArc.{TimingArc}
use Rattle.xt_model.specs.Quads.{same_edge}
use Rattle.xt_model.specs.Tables.{TableParts, IsTableNumber}
use Rattle.xt_model.specs.Parts.{Parts}
use Rattle.xt_model.specs.Sound.{IsConstraint, IsTime, IsSlew}
use Rattle.xt_model.specs.Assign.{Assignment}
use Rattle.xt_meaning.specs.Lookup.{table_value, least_over, greatest_over}
use Rattle.xt_meaning.specs.Operator.{Range, delay_range}
use Rattle.xt_meaning.proofs.Order.{ordered_from_live}
use Rattle.sink_windows.specs.declared.sink.SinkWindow.{SinkWindow}
use Rattle.sink_windows.specs.Sinks.{sink_window}
use Rattle.aggressor_report.specs.declared.passage.Passage.{Passage}
use Rattle.aggressor_report.specs.Passages.{spent, pin_box, leading_to, passage_by, passage_to}

-- ---- numbers as they are stored
pub kept_number : (x : ℤ) → IsTableNumber x → to_z w64 (of_z w64 x) ≡ x
kept_number x h = omega (arith, ints, h.low, h.high)

pub kept_slew : (x : ℤ) → IsSlew x → to_z w64 (of_z w64 x) ≡ x
kept_slew x h = omega (arith, ints, h.least, h.most)

pub kept_later : (t x : ℤ) → IsTime t → IsTableNumber x → to_z w64 (of_z w64 (to_z w64 (of_z w64 t) +ℤ to_z w64 (of_z w64 x))) ≡ t +ℤ x
kept_later t x h k =
    let e : to_z w64 (of_z w64 t) ≡ t = omega (arith, ints, h.least, h.most) in
    let f = kept_number x k in
    rw (e, f) (omega (arith, ints, h.least, h.most, k.low, k.high))

pub slews_ordered : (q : Quad) → IsConstraint q → to_z w64 (of_z w64 q.slo) ≤ℤ to_z w64 (of_z w64 q.shi)
slews_ordered q h = rw (kept_slew q.slo h.slo, kept_slew q.shi h.shi) (ordered_from_live q h.live).slews

-- ---- one passage
pub spent_late : (late : Bool) (s : SinkWindow) (r : Range) (w x t : ℤ) → late ≡ true → w ≡ s.greatest_wire → x ≡ r.most → t ≡ s.window.thi +ℤ r.most
    → ◌≡◌ {A = Passage} (record { wire = w; delay = x; time = t }) (spent late s r)
spent_late late s r w x t is e f g = rw (is, e, f, g) refl

pub spent_early : (late : Bool) (s : SinkWindow) (r : Range) (w x t : ℤ) → late ≡ false → w ≡ s.least_wire → x ≡ r.least → t ≡ s.window.tlo +ℤ r.least
    → ◌≡◌ {A = Passage} (record { wire = w; delay = x; time = t }) (spent late s r)
spent_early late s r w x t is e f g = rw (is, e, f, g) refl

-- a table that is read is there
pub table_there : {X : Type 0} (xs read : List X) (i : ℕ) (x : X) → read ≡ xs → i < length xs → x ≡ get_or read i x → slice_get xs i ≡ Some x
table_there xs read i x same within is =
    let count : length read ≡ length xs = ap length same in
    ap (λ ys. slice_get ys i) (sym same) ∙ slice_get_read read (length read) i x refl (omega (arith, count, within)) is

-- the delays of an arc over the slews of a window at its input
pub delays_are : (d : Parts) (a : TimingArc) (t : TableParts) (q : Quad) (load : Range) (s0 s1 c0 c1 x y : ℤ) → slice_get d.tables a.delay ≡ Some t
    → s0 ≡ q.slo → s1 ≡ q.shi → c0 ≡ load.least → c1 ≡ load.most
    → x ≡ least_over (table_value t) (record { s0 = s0; s1 = s1; c0 = c0; c1 = c1 })
    → y ≡ greatest_over (table_value t) (record { s0 = s0; s1 = s1; c0 = c0; c1 = c1 })
    → ◌≡◌ {A = Range} (record { least = x; most = y }) (delay_range (slice_get d.tables a.delay) (pin_box q load))
delays_are d a t q load s0 s1 c0 c1 x y there e f k l g h = rw (there, g, h, e, f, k, l) refl

pub passage_is : (late : Bool) (d : Parts) (W : Assignment) (load : Range) (a : TimingArc) (input : SinkWindow) (delays : Range) (p : Passage)
    → Some input ≡ sink_window d W a.from.0 a.input a.sink → delays ≡ delay_range (slice_get d.tables a.delay) (pin_box input.window load) → p ≡ spent late input delays
    → Some p ≡ passage_by late d W load a
passage_is late d W load a input delays p e f g =
    let F : SinkWindow → Option Passage = λ s. Some (spent late s (delay_range (slice_get d.tables a.delay) (pin_box s.window load))) in
    let h : Some p ≡ F input = ap (λ x. Some x) (g ∙ ap (spent late input) f) in
    h ∙ ap (option_and_then F) e

-- ---- whether it leads to the bound
unequal : (x y : ℤ) (t : Bool) → int_eq x y ≡ t → (x ≡ y → ⊥) → int_eq x y ≡ false
unequal x y true is differ = absurd (differ ((Decides-int_eq x y).0 is))
unequal x y false is differ = is

module _ (late : Bool) (d : Parts) (W : Assignment) (load : Range) (e : Edge) (bound : ℤ) (a : TimingArc) where
  leads : (p : Passage) → same_edge a.output e ≡ true → Some p ≡ passage_by late d W load a → leading_to bound p ≡ passage_to late d W load e bound a
  leads p drives is = rw drives (ap (option_and_then (leading_to bound)) is)

  pub leads_on : (p : Passage) → same_edge a.output e ≡ true → Some p ≡ passage_by late d W load a → p.time ≡ bound → Some p ≡ passage_to late d W load e bound a
  leads_on p drives is same =
      let t : int_eq p.time bound ≡ true = (Decides-int_eq p.time bound).1 same in
      let h : Some p ≡ leading_to bound p = rw t refl in
      h ∙ leads p drives is

  pub leads_off : (p : Passage) → same_edge a.output e ≡ true → Some p ≡ passage_by late d W load a → (p.time ≡ bound → ⊥) → None ≡ passage_to late d W load e bound a
  leads_off p drives is differ =
      let t : int_eq p.time bound ≡ false = unequal p.time bound (int_eq p.time bound) refl differ in
      let h : None ≡ leading_to bound p = rw t refl in
      h ∙ leads p drives is
