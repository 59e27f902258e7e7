-- Windows from which a run can start: nothing switches, in widening; the envelope, in narrowing.
use Rattle.std.proofs.Common.{◌≡◌, ℕ, zero, suc, inl, inr, refl, sym, subst, List, [], ◌∷◌, length, replicate, arith}
use Rattle.std.specs.Prelude.{Bool, true, false, if◌then◌else◌, Option, Some, None, IfSome}
use Rattle.std.specs.List.{slice_get, fold}
use Rattle.std.proofs.lemmas.Int.{ints, clamps}
use Rattle.std.proofs.lemmas.List.{length-replicate}
use Rattle.std.proofs.lemmas.List.Elements.{All-replicate}
use Rattle.xt_model.specs.declared.direction.Direction.TheVariants.{Widen, Narrow}
use Rattle.xt_model.specs.declared.edge.Edge.{Edge}
use Rattle.xt_model.specs.declared.edge.Edge.TheVariants.{Rise, Fall}
use Rattle.xt_model.specs.declared.quad.Quad.{Quad}
use Rattle.xt_model.specs.declared.quad.Pair.{Pair}
use Rattle.xt_model.specs.declared.net.TimingArc.{TimingArc}
use Rattle.xt_model.specs.declared.net.Net.{Net}
use Rattle.xt_model.specs.Quads.{bottom, IsWithin, IsInRange, IsPairInRange, join_of, quad_at}
use Rattle.xt_model.specs.Parts.{Parts}
use Rattle.xt_model.specs.Sound.{IsSound, IsSoundNet, IsGiven}
use Rattle.xt_model.specs.Levels.{AreLevels}
use Rattle.xt_model.specs.Assign.{Assignment, quad_of_pair, assigned}
use Rattle.xt_meaning.specs.Overlap.{Answers, overlap_answers}
use Rattle.xt_meaning.specs.Operator.{contribution, contributes, with_arc, arcs_quad, net_quad, operator_by, step}
use Rattle.xt_meaning.specs.Fixpoint.{IsWindows, IsContained}
use Rattle.xt_meaning.specs.Envelope.{IsEnvelope, IsAccepted}
use Rattle.xt_meaning.specs.Barrier.{IsFittingStart}
use Rattle.xt_meaning.specs.Laws.{quiet_pair, quiet_windows}
use Rattle.xt_meaning.proofs.Order.{within_refl, within_trans, join_left}
use Rattle.xt_meaning.proofs.Growth.{IfSome_from_All, wired}
use Rattle.xt_meaning.proofs.Monotone.{contained_refl}
use Rattle.xt_meaning.proofs.Steps.{RespectsAll, respects_apart, narrow_contained, contained_narrow}
use Rattle.xt_meaning.proofs.Widest.{envelope_contains, envelope_closed}

-- ---- windows that words can hold
pub bottom_in_range : IsInRange bottom
bottom_in_range = record {
  tlo = record { low = omega (arith, ints); high = omega (arith, ints) };
  thi = record { low = omega (arith, ints); high = omega (arith, ints) };
  slo = record { low = omega (arith, ints); high = omega (arith, ints) };
  shi = record { low = omega (arith, ints); high = omega (arith, ints) };
}

pub join_in_range : (q r : Quad) → IsInRange q → IsInRange r → IsInRange (join_of q r)
join_in_range q r h k = record {
  tlo = record { low = omega (arith, ints, clamps, h.tlo.low, k.tlo.low); high = omega (arith, ints, clamps, h.tlo.high, k.tlo.high) };
  thi = record { low = omega (arith, ints, clamps, h.thi.low, k.thi.low); high = omega (arith, ints, clamps, h.thi.high, k.thi.high) };
  slo = record { low = omega (arith, ints, clamps, h.slo.low, k.slo.low); high = omega (arith, ints, clamps, h.slo.high, k.slo.high) };
  shi = record { low = omega (arith, ints, clamps, h.shi.low, k.shi.low); high = omega (arith, ints, clamps, h.shi.high, k.shi.high) };
}

-- bottom lies within every window that words can hold
pub bottom_least : (q : Quad) → IsInRange q → IsWithin bottom q
bottom_least q r = record { tlo = r.tlo.high; thi = r.thi.low; slo = r.slo.high; shi = r.shi.low }

in_range_of_pair : (o : Option Pair) (e : Edge) → IfSome o IsPairInRange → IsInRange (quad_of_pair o e)
in_range_of_pair None e h = bottom_in_range
in_range_of_pair (Some p) Rise h = h.rise
in_range_of_pair (Some p) Fall h = h.fall

pub windows_in_range : (d : Parts) (v : List Pair) → IsWindows d v → (n : ℕ) (e : Edge) → IsInRange (assigned v n e)
windows_in_range d v w n e = in_range_of_pair (slice_get v n) e (IfSome_from_All IsPairInRange v w.in_range n)

pub quiet_is_bottom : (count n : ℕ) (e : Edge) → assigned (replicate count quiet_pair) n e ≡ bottom
quiet_is_bottom zero n e = refl
quiet_is_bottom (suc count) zero Rise = refl
quiet_is_bottom (suc count) zero Fall = refl
quiet_is_bottom (suc count) (suc n) e = quiet_is_bottom count n e

pub quiet_within : (count : ℕ) (V : Assignment) → ((n : ℕ) (e : Edge) → IsWithin bottom (V n e)) → IsContained (assigned (replicate count quiet_pair)) V
quiet_within count V h = record { each = λ n e. let P : Quad → Type 0 = λ q. IsWithin q (V n e) in subst P (sym (quiet_is_bottom count n e)) (h n e) }

-- ---- what the operator makes contains bottom
given_above : (q : Quad) → IsGiven q → IsWithin bottom q
given_above q (inl e) = let P : Quad → Type 0 = λ r. IsWithin bottom r in subst P (sym e) (within_refl bottom)
given_above q (inr c) = record {
  tlo = omega (arith, ints, c.tlo.most);
  thi = omega (arith, ints, c.thi.least);
  slo = omega (arith, ints, c.slo.most);
  shi = omega (arith, ints, c.shi.least);
}

given_at_above : (d : Parts) (own : ℕ) (net : Net) (e : Edge) → IsSoundNet d own net → IsWithin bottom (quad_at net.given e)
given_at_above d own net Rise s = given_above net.given.rise s.rise
given_at_above d own net Fall s = given_above net.given.fall s.fall

grown_if : (b : Bool) (q r : Quad) → IsWithin q (if b then join_of q r else q)
grown_if true q r = join_left q r
grown_if false q r = within_refl q

-- arcs only add to a window
pub fold_from : (d : Parts) (b : Answers) (W : Assignment) (n : ℕ) (net : Net) (e : Edge) (q : Quad) (arcs : List TimingArc) → IsWithin q (fold (with_arc d b W n net e) q arcs)
fold_from d b W n net e q [] = within_refl q
fold_from d b W n net e q (a ∷ more) =
    within_trans q (with_arc d b W n net e q a) (fold (with_arc d b W n net e) (with_arc d b W n net e q a) more)
    (grown_if (contributes W e a) q (contribution d b W n net e a))
    (fold_from d b W n net e (with_arc d b W n net e q a) more)

arcs_above : (d : Parts) (b : Answers) (W : Assignment) (n : ℕ) (net : Net) (e : Edge) (arcs : List TimingArc) → IsSoundNet d n net → IsWithin bottom (arcs_quad d b W n net e arcs)
arcs_above d b W n net e [] s = given_at_above d n net e s
arcs_above d b W n net e (a ∷ more) s = fold_from d b W n net e bottom (a ∷ more)

net_above : (d : Parts) (b : Answers) (W : Assignment) (n : ℕ) (e : Edge) (o : Option Net) → IfSome o (IsSoundNet d n) → IsWithin bottom (net_quad d b W n e o)
net_above d b W n e None s = within_refl bottom
net_above d b W n e (Some net) s = arcs_above d b W n net e net.arcs s

pub bottom_within_operator : (d : Parts) (b : Answers) (W : Assignment) (n : ℕ) (e : Edge) → IsSound d → IsWithin bottom (operator_by d b W n e)
unfolding operator_by
bottom_within_operator d b W n e s = net_above d b W n e (slice_get d.nets n) (s.nets n)

-- ---- widening
pub quiet_is_windows : (d : Parts) → IsWindows d (quiet_windows d)
quiet_is_windows d = record {
  count = length-replicate (length d.nets) quiet_pair;
  in_range = All-replicate IsPairInRange (length d.nets) quiet_pair (record { rise = bottom_in_range; fall = bottom_in_range });
}

quiet_before_barriers : (d : Parts) → RespectsAll Widen d (assigned (quiet_windows d))
quiet_before_barriers d = record {
  each = λ v b. record {
    each = (quiet_within (length d.nets) (assigned v) (λ n e. bottom_least (assigned v n e) (windows_in_range d v b.windows n e))).each;
  };
}

pub quiet_fits : (d : Parts) (top : List Pair) → IsSound d → IsEnvelope d top → IsAccepted d top → IsFittingStart Widen d (quiet_windows d)
quiet_fits d top s env acc = record {
  windows = quiet_is_windows d;
  respects = respects_apart Widen d (assigned (quiet_windows d)) (quiet_before_barriers d);
  fits = record {
    each = (quiet_within (length d.nets) (step d (quiet_windows d))
        (λ n e. bottom_within_operator d (overlap_answers d.period (assigned (quiet_windows d))) (assigned (quiet_windows d)) n e s)).each;
  };
  within = record {
    top = top;
    envelope = env;
    accepted = acc;
    contained = quiet_within (length d.nets) (assigned top) (λ n e. bottom_least (assigned top n e) (windows_in_range d top env.windows n e));
  };
}

-- ---- narrowing
pub envelope_fits : (d : Parts) (ls : List ℕ) (top : List Pair) → IsSound d → AreLevels d.nets ls → IsEnvelope d top → IsAccepted d top → IsFittingStart Narrow d top
envelope_fits d ls top s levels env acc = record {
  windows = env.windows;
  respects = respects_apart Narrow d (assigned top) (record {
    each = λ v b.
        narrow_contained (assigned top) (assigned v)
        (envelope_contains d ls (assigned v) top (wired d s) levels env.widest (contained_narrow (step d v) (assigned v) b.closed));
  });
  fits = narrow_contained (assigned top) (step d top) (envelope_closed d top (wired d s) env.widest);
  within = record { top = top; envelope = env; accepted = acc; contained = contained_refl (assigned top) };
}
