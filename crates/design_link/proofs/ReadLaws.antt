-- Turns of the loops that count what evaluations look at.
use Rattle.std.specs.Prelude.{◌≡◌, refl, ℕ, zero, suc, ◌+◌, ◌*◌, ◌^◌, ◌<◌, ◌≤◌, List, [], ◌∷◌, length, take, option_map, unwrap_or}
use Rattle.std.specs.List.{slice_get, sum_by}
use Rattle.std.proofs.Common.{arith, sym, ap, ◌∙◌, get_or}
use Rattle.std.proofs.lemmas.List.Sums.{sum_by_more, sum_by-cons}
use Rattle.xt_model.specs.declared.net.TimingArc.{TimingArc}
use Rattle.xt_model.specs.declared.net.Net.{Net}
use Rattle.xt_model.specs.Parts.{Parts}
use Rattle.xt_model.specs.Sound.{couplings_at, reads_by, reads_of}
use Rattle.link_rules.specs.declared.circuit.NetPins.{NetPins}
use Rattle.link_wires.specs.declared.wire.NetWire.{NetWire}
use Rattle.design_link.specs.Sizes.{plain_net, plain_nets, couplings_in, couplings_sum, arcs_sum}
use Rattle.design_link.proofs.CoefficientLaws.{length-plain, plain_at}

-- how many nets and couplings arcs lead to
abbrev pub looked_at : List NetWire → List TimingArc → ℕ
looked_at ws arcs = sum_by (λ (b : TimingArc). 1 + couplings_in ws b.from.0) arcs

-- ---- the arcs of a net
pub arcs_turn : (ws : List NetWire) (arcs : List TimingArc) (i own total n : ℕ) (d : TimingArc) → i < length arcs → n ≡ couplings_in ws (get_or arcs i d).from.0 → n < 2 ^ 64
    → total ≡ 1 + own + looked_at ws (take i arcs) → total ≤ (1 + i) * 2 ^ 64
    → (total + (1 + n) ≡ 1 + own + looked_at ws (take (i + 1) arcs)) × (total + (1 + n) ≤ (1 + (i + 1)) * 2 ^ 64)
arcs_turn ws arcs i own total n d lt is small value most =
    let more = sum_by_more (λ (b : TimingArc). 1 + couplings_in ws b.from.0) arcs i d lt in
    (value_by (looked_at ws (take i arcs)) (looked_at ws (take (i + 1) arcs)) (couplings_in ws (get_or arcs i d).from.0) own total n value more is, omega (arith, most, small))
  where
    value_by : (before after one own total n : ℕ) → total ≡ 1 + own + before → after ≡ before + (1 + one) → n ≡ one → total + (1 + n) ≡ 1 + own + after
    value_by before after one own total n a b c = omega (arith, a, b, c)

module _ (d : Parts) (ws : List NetWire) (same : (k : ℕ) → couplings_at d k ≡ couplings_in ws k) where
  looked_same : (arcs : List TimingArc) → sum_by (λ (b : TimingArc). 1 + couplings_at d b.from.0) arcs ≡ looked_at ws arcs
  looked_same [] = refl
  looked_same (a ∷ arcs) =
      let one = same a.from.0 in
      let rest = looked_same arcs in
      let x = sum_by-cons (λ (b : TimingArc). 1 + couplings_at d b.from.0) a arcs in
      let y = sum_by-cons (λ (b : TimingArc). 1 + couplings_in ws b.from.0) a arcs in
      omega (arith, one, rest, x, y)

  pub reads_are : (own total : ℕ) (arcs : List TimingArc) → 0 < length arcs → total ≡ 1 + own + looked_at ws arcs → total ≡ reads_by d own arcs
  reads_are own total [] lt e = absurd (omega (arith, lt))
  reads_are own total (a ∷ arcs) lt e = e ∙ ap (λ s. 1 + own + s) (sym (looked_same (a ∷ arcs)))

pub no_reads : (d : Parts) (own : ℕ) (arcs : List TimingArc) → length arcs ≡ 0 → 0 ≡ reads_by d own arcs
no_reads d own [] e = refl
no_reads d own (a ∷ arcs) e = absurd (omega (arith, e))

-- ---- all nets
pub couplings_plain : (ps : List NetPins) (ws : List NetWire) (k : ℕ) → length ws ≡ length ps
    → unwrap_or (option_map (λ (n : Net). length n.couplings) (slice_get (plain_nets ps ws) k)) 0 ≡ couplings_in ws k
couplings_plain [] [] k a = refl
couplings_plain [] (w ∷ ws) k a = absurd (omega (arith, a))
couplings_plain (p ∷ ps) [] k a = absurd (omega (arith, a))
couplings_plain (p ∷ ps) (w ∷ ws) zero a = refl
couplings_plain (p ∷ ps) (w ∷ ws) (suc k) a = couplings_plain ps ws k (omega (arith, a))

pub reads_turn : (d : Parts) (ps : List NetPins) (ws : List NetWire) (i total n : ℕ) (p : NetPins) (w : NetWire) → length ws ≡ length ps → i < length ps
    → p ≡ get_or ps i p → w ≡ get_or ws i w → d.nets ≡ plain_nets ps ws
    → ((e : Parts) → ((k : ℕ) → couplings_at e k ≡ couplings_in ws k) → n ≡ reads_by e (length w.couplings) p.arcs)
    → total ≡ sum_by (reads_of d) (take i (plain_nets ps ws)) → total + n ≡ sum_by (reads_of d) (take (i + 1) (plain_nets ps ws))
reads_turn d ps ws i total n p w a lt at_p at_w is given value =
    let size = length-plain ps ws a in
    let more = sum_by_more (reads_of d) (plain_nets ps ws) i (plain_net p w) (omega (arith, size, lt)) in
    let here : get_or (plain_nets ps ws) i (plain_net p w) ≡ plain_net p w =
    plain_at ps ws i p w a lt ∙ (ap (λ q. plain_net q (get_or ws i w)) (sym at_p) ∙ ap (plain_net p) (sym at_w)) in
    let couplings : (k : ℕ) → couplings_at d k ≡ couplings_in ws k = λ k. ap (λ ns. unwrap_or (option_map (λ (m : Net). length m.couplings) (slice_get ns k)) 0) is ∙ couplings_plain ps ws k a in
    let term : reads_of d (get_or (plain_nets ps ws) i (plain_net p w)) ≡ n = ap (reads_of d) here ∙ sym (given d couplings) in
    value_by (sum_by (reads_of d) (take i (plain_nets ps ws))) (sum_by (reads_of d) (take (i + 1) (plain_nets ps ws))) (reads_of d (get_or (plain_nets ps ws) i (plain_net p w))) total n value more term
  where
    value_by : (before after one total n : ℕ) → total ≡ before → after ≡ before + one → one ≡ n → total + n ≡ after
    value_by before after one total n a b c = omega (arith, a, b, c)

pub most_turn : (ps : List NetPins) (i total n : ℕ) (p : NetPins) → i < length ps → p ≡ get_or ps i p → total ≤ arcs_sum (take i ps) * 2 ^ 65 → n ≤ length p.arcs * 2 ^ 65
    → total + n ≤ arcs_sum (take (i + 1) ps) * 2 ^ 65
most_turn ps i total n p lt at most one =
    let more = sum_by_more (λ (q : NetPins). length q.arcs) ps i p lt in
    let here : length (get_or ps i p).arcs ≡ length p.arcs = ap (λ (q : NetPins). length q.arcs) (sym at) in
    most_by (arcs_sum (take i ps)) (arcs_sum (take (i + 1) ps)) (length (get_or ps i p).arcs) (length p.arcs) total n more here most one
  where
    most_by : (before after one m total n : ℕ) → after ≡ before + one → one ≡ m → total ≤ before * 2 ^ 65 → n ≤ m * 2 ^ 65 → total + n ≤ after * 2 ^ 65
    most_by before after one m total n a b c d = omega (arith, a, b, c, d)

-- ---- sums by pins and wires
pub couplings_same : (ps : List NetPins) (ws : List NetWire) → length ws ≡ length ps → couplings_sum ws ≡ sum_by (λ (n : Net). length n.couplings) (plain_nets ps ws)
couplings_same [] [] a = refl
couplings_same [] (w ∷ ws) a = absurd (omega (arith, a))
couplings_same (p ∷ ps) [] a = absurd (omega (arith, a))
couplings_same (p ∷ ps) (w ∷ ws) a =
    let rest = couplings_same ps ws (omega (arith, a)) in
    let x = sum_by-cons (λ (v : NetWire). length v.couplings) w ws in
    let y = sum_by-cons (λ (n : Net). length n.couplings) (plain_net p w) (plain_nets ps ws) in
    omega (arith, rest, x, y)

pub arcs_same : (ps : List NetPins) (ws : List NetWire) → length ws ≡ length ps → arcs_sum ps ≡ sum_by (λ (n : Net). length n.arcs) (plain_nets ps ws)
arcs_same [] [] a = refl
arcs_same [] (w ∷ ws) a = absurd (omega (arith, a))
arcs_same (p ∷ ps) [] a = absurd (omega (arith, a))
arcs_same (p ∷ ps) (w ∷ ws) a =
    let rest = arcs_same ps ws (omega (arith, a)) in
    let x = sum_by-cons (λ (q : NetPins). length q.arcs) p ps in
    let y = sum_by-cons (λ (n : Net). length n.arcs) (plain_net p w) (plain_nets ps ws) in
    omega (arith, rest, x, y)
