-- The greatest wire delay of some nets, one sink and one net after another.
use Rattle.std.proofs.Common.{◌≡◌, ℕ, ◌+◌, ◌<◌, ◌^◌, inl, inr, sym, subst, ℤ, pos, ◌≤ℤ◌, length, to_z, of_z, arith}
use Rattle.std.specs.Prelude.{Option, Some, None, IfSome}
use Rattle.std.specs.Int.{int_max, w128}
use Rattle.std.specs.List.{slice_get}
use Rattle.std.proofs.lemmas.Bool.{cases_lt}
use Rattle.std.proofs.lemmas.Int.{ints, clamps}
use Rattle.std.proofs.lemmas.Option.{slice_get_cases}
use Rattle.xt_model.specs.declared.net.Net.{Net}
use Rattle.xt_model.specs.Miller.{MillerNumbers}
use Rattle.xt_model.specs.Parts.{Parts}
use Rattle.xt_meaning.specs.Envelope.{greatest_wire}
use Rattle.miller_bits.proofs.Sums.{found}
use Rattle.envelope.proofs.Firsts.{wire_kept}
use Rattle.envelope.specs.Greatest.{IsWireDelay, AreWiresToSinksAtMost, AreWiresOfNetsAtMost}

-- the greater of two delays
record IsGreater (a b most : ℤ) : Type 0 where
  pub delay : IsWireDelay most
  pub first : a ≤ℤ most
  pub second : b ≤ℤ most

pub delay_kept : (a : ℤ) → IsWireDelay a → to_z w128 (of_z w128 a) ≡ a
delay_kept a h = wire_kept a h.low h.high

greater : (a b most : ℤ) → IsWireDelay a → IsWireDelay b → most ≡ int_max a b → IsGreater a b (to_z w128 (of_z w128 most))
greater a b most h k is =
    let low : pos 0 ≤ℤ most = omega (arith, ints, clamps, is, h.low, k.low) in
    let high : most ≤ℤ pos (2 ^ 105) = omega (arith, ints, clamps, is, h.high, k.high) in
    let P : ℤ → Type 0 = λ z. IsGreater a b z in
    subst P (sym (wire_kept most low high)) (record { delay = record { low = low; high = high }; first = omega (arith, ints, clamps, is); second = omega (arith, ints, clamps, is) })

sinks_wider : (m : MillerNumbers) (net : Net) (sinks : ℕ) (a b : ℤ) → a ≤ℤ b → IsWireDelay b → AreWiresToSinksAtMost m net sinks a → AreWiresToSinksAtMost m net sinks b
sinks_wider m net sinks a b most delay before = record { delay = delay; each = λ k p. let h = before.each k p in omega (arith, ints, h, most) }

net_wider : (m : MillerNumbers) (o : Option Net) (a b : ℤ) → a ≤ℤ b → IsWireDelay b → IfSome o (λ net. AreWiresToSinksAtMost m net (length net.sinks) a)
    → IfSome o (λ net. AreWiresToSinksAtMost m net (length net.sinks) b)
net_wider m None a b most delay before = tt
net_wider m (Some net) a b most delay before = sinks_wider m net (length net.sinks) a b most delay before

pub sinks_more : (m : MillerNumbers) (net : Net) (sink : ℕ) (wire greatest most : ℤ) → wire ≡ greatest_wire m net sink → IsWireDelay wire → AreWiresToSinksAtMost m net sink greatest
    → most ≡ int_max wire greatest → AreWiresToSinksAtMost m net (sink + 1) (to_z w128 (of_z w128 most))
sinks_more m net sink wire greatest most is delay before e =
    let l = greater wire greatest most delay before.delay e in
    record {
      delay = l.delay;
      each = λ k p. elim (cases_lt k sink) [
        | inl below ↦ let h = before.each k below in let g = l.second in omega (arith, ints, h, g)
        | inr past ↦
            let same : sink ≡ k = omega (arith, p, past) in
            let P : ℕ → Type 0 = λ j. greatest_wire m net j ≤ℤ to_z w128 (of_z w128 most) in
            let g = l.first in
            subst P same (omega (arith, ints, is, g))
      ];
    }

-- the nets of one range after another
pub nets_joined : (d : Parts) (from middle to : ℕ) (a b most : ℤ) → AreWiresOfNetsAtMost d from middle a → AreWiresOfNetsAtMost d middle to b
    → most ≡ int_max a b → AreWiresOfNetsAtMost d from to (to_z w128 (of_z w128 most))
nets_joined d from middle to a b most left right e =
    let l = greater a b most left.delay right.delay e in
    record {
      delay = l.delay;
      each = λ n low high. elim (cases_lt n middle) [
        | inl below ↦ net_wider d.miller (slice_get d.nets n) a (to_z w128 (of_z w128 most)) l.first l.delay (left.each n low below)
        | inr past ↦ net_wider d.miller (slice_get d.nets n) b (to_z w128 (of_z w128 most)) l.second l.delay (right.each n past high)
      ];
    }

pub one_net : (d : Parts) (n : ℕ) (own : ℤ) → n < length d.nets → IfSome (slice_get d.nets n) (λ net. AreWiresToSinksAtMost d.miller net (length net.sinks) own) → AreWiresOfNetsAtMost d n (n + 1) own
one_net d n own inside here = record {
  delay = elim (slice_get_cases d.nets n).1 [
    | inl e ↦ (found (λ net. AreWiresToSinksAtMost d.miller net (length net.sinks) own) (slice_get d.nets n) e.0 e.2 here).delay
    | inr e ↦ let past = e.0 in absurd (omega (arith, inside, past))
  ];
  each = λ k low high.
      let same : n ≡ k = omega (arith, low, high) in
      let P : ℕ → Type 0 = λ j. IfSome (slice_get d.nets j) (λ net. AreWiresToSinksAtMost d.miller net (length net.sinks) own) in
      subst P same here;
}
