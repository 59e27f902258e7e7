-- Turns of the loop that counts wire coefficients.
use Rattle.std.specs.Prelude.{◌≡◌, refl, ℕ, zero, suc, ◌+◌, ◌*◌, ◌^◌, ◌<◌, ◌≤◌, List, [], ◌∷◌, length, take}
use Rattle.std.specs.List.{sum_by}
use Rattle.std.proofs.Common.{arith, sym, ap, ◌∙◌, get_or}
use Rattle.std.proofs.lemmas.List.Sums.{sum_by_more}
use Rattle.std.proofs.lemmas.Nat.{mul-le}
use Rattle.xt_model.specs.Sound.{coefficients_of}
use Rattle.link_rules.specs.declared.circuit.NetPins.{NetPins}
use Rattle.link_wires.specs.declared.wire.NetWire.{NetWire}
use Rattle.design_link.specs.Nets.{plain_sink}
use Rattle.design_link.specs.Sizes.{plain_net, plain_nets, couplings_sum}
use Rattle.design_link.proofs.Lists.{length-mapped}

pub length-plain : (ps : List NetPins) (ws : List NetWire) → length ws ≡ length ps → length (plain_nets ps ws) ≡ length ps
length-plain [] ws a = refl
length-plain (p ∷ ps) [] a = absurd (omega (arith, a))
length-plain (p ∷ ps) (w ∷ ws) a = ap suc (length-plain ps ws (omega (arith, a)))

pub plain_at : (ps : List NetPins) (ws : List NetWire) (i : ℕ) (p : NetPins) (w : NetWire) → length ws ≡ length ps → i < length ps
    → get_or (plain_nets ps ws) i (plain_net p w) ≡ plain_net (get_or ps i p) (get_or ws i w)
plain_at [] ws i p w a lt = absurd (omega (arith, lt))
plain_at (q ∷ ps) [] i p w a lt = absurd (omega (arith, a))
plain_at (q ∷ ps) (v ∷ ws) zero p w a lt = refl
plain_at (q ∷ ps) (v ∷ ws) (suc i) p w a lt = plain_at ps ws i p w (omega (arith, a)) (omega (arith, lt))

plain_count : (p : NetPins) (w : NetWire) → coefficients_of (plain_net p w) ≡ length p.sinks * length w.couplings
plain_count p w = ap (λ n. n * length w.couplings) (length-mapped plain_sink p.sinks)

pub coefficients_turn : (ps : List NetPins) (ws : List NetWire) (i total s m : ℕ) (p : NetPins) (w : NetWire) → length ws ≡ length ps → i < length ps
    → p ≡ get_or ps i p → w ≡ get_or ws i w → s ≡ length p.sinks → m ≡ length w.couplings → s < 2 ^ 64
    → total ≡ sum_by coefficients_of (take i (plain_nets ps ws)) → total ≤ 2 ^ 64 * couplings_sum (take i ws)
    → (total + s * m ≡ sum_by coefficients_of (take (i + 1) (plain_nets ps ws))) × (total + s * m ≤ 2 ^ 64 * couplings_sum (take (i + 1) ws))
coefficients_turn ps ws i total s m p w a lt at_p at_w is_s is_m small value most =
    let size = length-plain ps ws a in
    let more = sum_by_more coefficients_of (plain_nets ps ws) i (plain_net p w) (omega (arith, size, lt)) in
    let here : get_or (plain_nets ps ws) i (plain_net p w) ≡ plain_net p w =
    plain_at ps ws i p w a lt ∙ (ap (λ q. plain_net q (get_or ws i w)) (sym at_p) ∙ ap (plain_net p) (sym at_w)) in
    let term : coefficients_of (get_or (plain_nets ps ws) i (plain_net p w)) ≡ s * m =
    ap coefficients_of here ∙ (plain_count p w ∙ (ap (λ n. n * length w.couplings) (sym is_s) ∙ ap (λ n. s * n) (sym is_m))) in
    let wires = sum_by_more (λ (v : NetWire). length v.couplings) ws i w (omega (arith, a, lt)) in
    let count : length (get_or ws i w).couplings ≡ m = ap (λ (v : NetWire). length v.couplings) (sym at_w) ∙ sym is_m in
    let bound : s * m ≤ 2 ^ 64 * m = mul-le s m (2 ^ 64) m (omega (arith, small)) (omega arith) in (
      value_by (sum_by coefficients_of (take i (plain_nets ps ws))) (sum_by coefficients_of (take (i + 1) (plain_nets ps ws))) (coefficients_of (get_or (plain_nets ps ws) i (plain_net p w))) total (s * m) value more term,
      most_by (couplings_sum (take i ws)) (couplings_sum (take (i + 1) ws)) (length (get_or ws i w).couplings) total (s * m) m most wires count bound,
    )
  where
    value_by : (before after one total term : ℕ) → total ≡ before → after ≡ before + one → one ≡ term → total + term ≡ after
    value_by before after one total term a b c = omega (arith, a, b, c)

    most_by : (before after one total term m : ℕ) → total ≤ 2 ^ 64 * before → after ≡ before + one → one ≡ m → term ≤ 2 ^ 64 * m → total + term ≤ 2 ^ 64 * after
    most_by before after one total term m a b c d = omega (arith, a, b, c, d)
