-- Live windows within an accepted envelope have room.
use Rattle.std.proofs.Common.{◌≡◌, ℕ, ◌≤◌, inl, inr, sym, subst, ◌∙◌, List, length, map, pos, ◌≤ℤ◌, arith}
use Rattle.std.specs.Prelude.{Option, Some, None, IfSome}
use Rattle.std.specs.List.{AllPass, slice_get}
use Rattle.std.proofs.lemmas.Int.{ints}
use Rattle.std.proofs.lemmas.Option.{slice_get_cases, none-some}
use Rattle.xt_model.specs.declared.direction.Direction.TheVariants.{Widen}
use Rattle.xt_model.specs.declared.edge.Edge.{Edge}
use Rattle.xt_model.specs.declared.quad.Quad.{Quad}
use Rattle.xt_model.specs.declared.quad.Pair.{Pair}
use Rattle.xt_model.specs.declared.net.Net.{Net}
use Rattle.xt_model.specs.Quads.{IsLive, IsWithin}
use Rattle.xt_model.specs.Miller.{MillerNumbers}
use Rattle.xt_model.specs.Parts.{Parts}
use Rattle.xt_model.specs.Sound.{IsSound, IsSoundNet, IsConstraint}
use Rattle.xt_model.specs.Assign.{Assignment, assigned}
use Rattle.xt_meaning.specs.Fixpoint.{IsContained}
use Rattle.xt_meaning.specs.Envelope.{IsWidest, IsEnvelope, IsAccepted, keeps, greatest_wire, quad_tests}
use Rattle.xt_meaning.specs.Barrier.{Respects}
use Rattle.xt_meaning.specs.Laws.{HasRoom}
use Rattle.xt_meaning.proofs.Order.{ordered_from_live, live_mono}
use Rattle.xt_meaning.proofs.Growth.{wired}
use Rattle.xt_meaning.proofs.Steps.{respects_together, contained_widen}
use Rattle.xt_meaning.proofs.Widest.{envelope_barrier}
use Rattle.xt_meaning.proofs.Room.{widest_slew, wire_delay_natural, slew_growth_natural, IsAcceptedQuad, quad_passed, accepted_quad}

-- in widening, windows that cross no barrier lie within the envelope
pub respecting_within : (d : Parts) (top : List Pair) (W : Assignment) → IsSound d → IsEnvelope d top → Respects Widen d W → IsContained W (assigned top)
respecting_within d top W s env r = contained_widen W (assigned top) ((respects_together Widen d W r).each top (envelope_barrier d top (wired d s) env))

pub sound_at : (d : Parts) (n : ℕ) (net : Net) → IsSound d → slice_get d.nets n ≡ Some net → IsSoundNet d n net
sound_at d n net s there = let P : Option Net → Type 0 = λ o. IfSome o (IsSoundNet d n) in subst P there (s.nets n)

constraint_under : (m : MillerNumbers) (net : Net) (q r : Quad) → IsWithin q r → IsLive q → IsAcceptedQuad m net r → pos 0 ≤ℤ r.slo → IsConstraint q
constraint_under m net q r w live a slo =
    let o = ordered_from_live q live in
    record {
      live = live;
      tlo = record { least = omega (arith, ints, w.tlo, a.tlo.least); most = omega (arith, ints, o.times, w.thi, a.thi.most) };
      thi = record { least = omega (arith, ints, o.times, w.tlo, a.tlo.least); most = omega (arith, ints, w.thi, a.thi.most) };
      slo = record { least = omega (arith, ints, w.slo, slo); most = omega (arith, ints, o.slews, w.shi, a.shi) };
      shi = record { least = omega (arith, ints, o.slews, w.slo, slo); most = omega (arith, ints, w.shi, a.shi) };
    }

-- what is added to a live window under an accepted one
room_under : (d : Parts) (own : ℕ) (net : Net) (q r : Quad) → IsSoundNet d own net → IsWithin q r → IsConstraint q → IsAcceptedQuad d.miller net r → HasRoom d.miller net q
room_under d own net q r s w c a = record {
  driver = c;
  arrivals = λ sink p.
      let g = greatest_wire d.miller net sink in
      let z = wire_delay_natural d own net (map (λ k. d.miller.high) net.couplings) sink s in
      let m = a.pin_times sink p in
      record { least = omega (arith, ints, c.thi.least, z); most = omega (arith, ints, w.thi, m) };
  slews = λ sink p.
      let g = greatest_wire d.miller net sink in
      let z = slew_growth_natural g (wire_delay_natural d own net (map (λ k. d.miller.high) net.couplings) sink s) in
      let m = a.pin_slews sink p in
      record { least = omega (arith, ints, c.shi.least, z); most = omega (arith, ints, w.shi, m) };
}

-- a live window has room under a window of its net whose tests pass
pub room_tested : (d : Parts) (n : ℕ) (net : Net) (q r : Quad) → IsSound d → slice_get d.nets n ≡ Some net → AllPass keeps (quad_tests d.miller n net r) → pos 0 ≤ℤ r.slo → IsWithin q r → IsLive q → HasRoom d.miller net q
room_tested d n net q r s there tests slo w live =
    let a = accepted_quad d.miller n net r (live_mono q r w live) tests in
    room_under d n net q r (sound_at d n net s there) w (constraint_under d.miller net q r w live a slo) a

pub room_at : (d : Parts) (top : List Pair) (n : ℕ) (e : Edge) (net : Net) (q : Quad) → IsSound d → IsWidest d top → IsAccepted d top → slice_get d.nets n ≡ Some net
    → IsWithin q (assigned top n e) → IsLive q → HasRoom d.miller net q
room_at d top n e net q s h acc there w live = room_tested d n net q (assigned top n e) s there (quad_passed d top n net e acc there) (widest_slew d top n e s h) w live

pub length_past : {X : Type 0} (xs : List X) (i : ℕ) → slice_get xs i ≡ None → length xs ≤ i
length_past xs i h = elim (slice_get_cases xs i).1 [ inl p ↦ absurd (none-some p.0 (sym h ∙ p.2)) | inr p ↦ p.0 ]

pub room_of : (d : Parts) (top : List Pair) (W : Assignment) (n : ℕ) (e : Edge) (net : Net) → IsSound d → IsWidest d top → IsAccepted d top → IsContained W (assigned top)
    → slice_get d.nets n ≡ Some net → IsLive (W n e) → HasRoom d.miller net (W n e)
room_of d top W n e net s h acc c there live = room_at d top n e net (W n e) s h acc there (c.each n e) live
