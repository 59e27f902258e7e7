-- What an arc contributes, from its pieces.
use Rattle.std.proofs.Common.{◌≡◌, ℕ, ◌^◌, ◌<◌, refl, sym, ap, ◌∙◌, List, length, take, take_all, get_or, ◌≤◌, to_z, of_z, w64, ℤ, pos, neg_ℤ, ◌+ℤ◌, ◌≤ℤ◌, arith}
use Rattle.std.specs.Prelude.{Some}
use Rattle.std.specs.Int.{int_max}
use Rattle.std.specs.Int.Signed.{mag}
use Rattle.std.specs.List.{slice_get, fold}
use Rattle.std.proofs.lemmas.Int.{ints}
use Rattle.std.proofs.lemmas.Option.{slice_get_read}
use Rattle.std.proofs.lemmas.List.Elements.{All-weaker}
use Rattle.xt_model.specs.declared.edge.Edge.{Edge}
use Rattle.xt_model.specs.declared.quad.Quad.{Quad}
use Rattle.xt_model.specs.declared.net.Net.{Net}
use Rattle.xt_model.specs.declared.net.TimingArc.{TimingArc}
use Rattle.xt_model.specs.Quads.{bottom}
use Rattle.xt_model.specs.Tables.{TableParts, IsTableNumber}
use Rattle.xt_model.specs.Parts.{Parts}
use Rattle.xt_model.specs.Miller.{IsMiller}
use Rattle.xt_model.specs.Sound.{IsSoundNet, IsSoundCoupling, IsSoundSink, IsProduct, IsSlew, IsTime}
use Rattle.xt_meaning.specs.Lookup.{Box, table_value, slew_value, least_over, greatest_over}
use Rattle.xt_meaning.specs.Wires.{load_of, slew_growth}
use Rattle.miller_bits.specs.declared.overlaps.Overlaps.{Overlaps}
use Rattle.miller_bits.specs.Victims.{VictimEdge, victim_of}
use Rattle.miller_bits.specs.Views.{answers_by}
use Rattle.xt_meaning.specs.Overlap.{Answers}
use Rattle.xt_meaning.specs.Operator.{Range, contribution_by, load_range}
use Rattle.xt_meaning.proofs.Ranges.{least_over-slew_value, greatest_over-slew_value}
use Rattle.net_eval.specs.Arcs.{with_arc_at}
use Rattle.net_eval.specs.Scenes.{Scene}
use Rattle.net_eval.specs.Tables.{AreNumbered}
use Rattle.table_box.specs.TablePairs.{TablesAtLoads}
use Rattle.xt_meaning.proofs.Growth.{IsWired, IsNatural, HasNaturalCap, HasNaturalCoefs, slew_growth_mono, load_range_ordered}

pub slew_least : (t : TableParts) (b : Box) (stored x read low : ℤ) → stored ≡ x → x ≡ int_max (pos 0) read → read ≡ low → low ≡ least_over (table_value t) b → stored ≡ least_over (slew_value t) b
slew_least t b stored x read low e f g h = rw (e, f, g, h) (sym (least_over-slew_value t b))

pub slew_greatest : (t : TableParts) (b : Box) (stored x read high : ℤ) → stored ≡ x → x ≡ int_max (pos 0) read → read ≡ high → high ≡ greatest_over (table_value t) b → stored ≡ greatest_over (slew_value t) b
slew_greatest t b stored x read high e f g h = rw (e, f, g, h) (sym (greatest_over-slew_value t b))

-- slews behind a wire keep their order
pub slews_ordered : (s0 s1 w0 w1 x0 x1 : ℤ) → x0 ≡ s0 +ℤ slew_growth w0 → x1 ≡ s1 +ℤ slew_growth w1 → s0 ≤ℤ s1 → w0 ≤ℤ w1 → x0 ≤ℤ x1
slews_ordered s0 s1 w0 w1 x0 x1 e f h k = let g = slew_growth_mono w0 w1 k in omega (arith, ints, e, f, g)

-- slews and loads at an arc's pin
abbrev box_at : ℤ → ℤ → Range → Box
box_at s0 s1 l = record { s0 = s0; s1 = s1; c0 = l.least; c1 = l.most }

pub contribution_is : (d : Parts) (a : TimingArc) (q : Quad) (w l : Range) (t u : TableParts) (s0 s1 d0 d1 tlo thi slo shi : ℤ)
    → slice_get d.tables a.delay ≡ Some t → slice_get d.tables a.slew ≡ Some u
    → s0 ≡ q.slo +ℤ slew_growth w.least → s1 ≡ q.shi +ℤ slew_growth w.most
    → d0 ≡ least_over (table_value t) (box_at s0 s1 l) → d1 ≡ greatest_over (table_value t) (box_at s0 s1 l)
    → slo ≡ least_over (slew_value u) (box_at s0 s1 l) → shi ≡ greatest_over (slew_value u) (box_at s0 s1 l)
    → tlo ≡ (q.tlo +ℤ w.least) +ℤ d0 → thi ≡ (q.thi +ℤ w.most) +ℤ d1
    → ◌≡◌ {A = Quad} (record { tlo = tlo; thi = thi; slo = slo; shi = shi }) (contribution_by d a q w l)
contribution_is d a q w l t u s0 s1 d0 d1 tlo thi slo shi t_is u_is s0_is s1_is d0_is d1_is slo_is shi_is tlo_is thi_is =
    rw (t_is, u_is, tlo_is, thi_is, slo_is, shi_is, d0_is, d1_is, s0_is, s1_is) refl

-- the couplings of a sound net take nothing away
pub sound_wired : (d : Parts) (own : ℕ) (n : Net) → IsSoundNet d own n → IsWired n
sound_wired d own n s = record {
  caps = All-weaker (IsSoundCoupling d own) HasNaturalCap (λ k h. h.cap.least) n.couplings s.couplings;
  coefs = All-weaker (IsSoundSink (length n.couplings)) HasNaturalCoefs (λ p h. All-weaker IsProduct IsNatural (λ c g. g.least) p.coefs h.coefs) n.sinks s.sinks;
}

pub loads_ordered : (d : Parts) (own : ℕ) (n : Net) (b : Answers) (e : Edge) (c0 c1 : ℤ) → IsMiller d.miller → IsSoundNet d own n → c0 ≡ (load_range d.miller b own e n).least
    → c1 ≡ (load_range d.miller b own e n).most → c0 ≤ℤ c1
loads_ordered d own n b e c0 c1 m s h k = rw (h, k) ((load_range_ordered d.miller b own e n m (sound_wired d own n s)).ordered)

-- so they are as the loads of the victim
pub loads_of_victim : (d : Parts) (own : ℕ) (n : Net) (o : Overlaps) (f : ℕ → ℤ) (e : Edge) (v : VictimEdge) (c0 c1 : ℤ) → IsMiller d.miller → IsSoundNet d own n → v ≡ victim_of o d f own e n
    → c0 ≡ load_of v.least v.net → c1 ≡ load_of v.greatest v.net → c0 ≤ℤ c1
loads_of_victim d own n o f e v c0 c1 m s is h k =
    loads_ordered d own n (answers_by o d f) e c0 c1 m s (h ∙ ap (λ v. load_of v.least v.net) is) (k ∙ ap (λ v. load_of v.greatest v.net) is)

-- ---- numbers as they are stored
pub kept : (x : ℤ) → neg_ℤ (pos (2 ^ 62)) ≤ℤ x → x ≤ℤ pos (2 ^ 62) → to_z w64 (of_z w64 x) ≡ x
kept x h k = omega (arith, ints)

pub kept_mag : (x : ℤ) → mag x < 9223372036854775808 → to_z w64 (of_z w64 x) ≡ x
kept_mag x h = omega (arith, ints, h)

pub kept_time : (x : ℤ) → IsTime x → to_z w64 (of_z w64 x) ≡ x
kept_time x h = omega (arith, ints, h.least, h.most)

pub kept_slew : (x : ℤ) → IsSlew x → to_z w64 (of_z w64 x) ≡ x
kept_slew x h = omega (arith, ints, h.least, h.most)

pub kept_number : (x : ℤ) → IsTableNumber x → to_z w64 (of_z w64 x) ≡ x
kept_number x h = omega (arith, ints, h.low, h.high)

pub kept_wire : (x : ℤ) → pos 0 ≤ℤ x → x ≤ℤ pos (2 ^ 47) → to_z w64 (of_z w64 x) ≡ x
kept_wire x h k = omega (arith, ints, h, k)

pub table_at : (xs ts : List TableParts) (i : ℕ) (x : TableParts) → xs ≡ ts → i < length ts → x ≡ get_or xs i x → slice_get ts i ≡ Some x
table_at xs ts i x same i_in is = slice_get_read ts (length ts) i x refl i_in (rw same at is)

-- the join over all arcs, with the range of the load
pub join_is : (s : Scene) (e : Edge) (l : Range) (c0 c1 : ℤ) (xs arcs : List TimingArc) (i : ℕ) (q : Quad) → c0 ≡ l.least → c1 ≡ l.most → xs ≡ arcs → length xs ≤ i
    → q ≡ fold (with_arc_at s e (record { least = c0; most = c1 })) bottom (take i xs) → q ≡ fold (with_arc_at s e l) bottom arcs
join_is s e l c0 c1 xs arcs i q h k same past is =
    let all : take i xs ≡ xs = take_all i xs past in
    let r : ◌≡◌ {A = Range} (record { least = c0; most = c1 }) l = rw (h, k) refl in
    rw (all, same, r) at is

-- two tables at loads, by their numbers
pub tables_numbered : (d : Parts) (delay slew : ℕ) (t u : TableParts) (c0 c1 : ℤ) (p : TablesAtLoads) → slice_get d.tables delay ≡ Some t → slice_get d.tables slew ≡ Some u
    → p ≡ record { first = t; second = u; c0 = c0; c1 = c1 } → AreNumbered d delay slew p
tables_numbered d delay slew t u c0 c1 p first second is = rw is (record { delay = first; slew = second })
