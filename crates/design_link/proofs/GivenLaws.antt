-- What constraints give the nets of input ports is a live window in its ranges, or none.
use Rattle.std.specs.Prelude.{◌≡◌, refl, ℕ, ◌^◌, ◌&&◌, ◌==◌, Bool, true, false, ℤ, pos, neg_ℤ, ◌≤ℤ◌, int_le, unwrap_or, Option, Some, None, IfSome, List, [], ◌∷◌, if◌then◌else◌}
use Rattle.std.specs.List.{AllByRecursion}
use Rattle.std.proofs.Common.{arith, inl, inr}
use Rattle.std.proofs.lemmas.Bool.{and_from}
use Rattle.std.proofs.lemmas.Int.{ints, clamps}
use Rattle.xt_model.specs.declared.quad.Pair.{Pair}
use Rattle.xt_model.specs.Sound.{IsGiven}
use Rattle.verilog_net.specs.declared.netlist.PortRole.{PortRole}
use Rattle.verilog_net.specs.declared.netlist.PortRole.TheVariants as roles
use Rattle.sdc_read.specs.declared.constraints.Clock.{Clock}
use Rattle.sdc_read.specs.declared.constraints.Constraints.{Constraints}
use Rattle.sdc_read.specs.declared.ports.Sides.{Sides}
use Rattle.sdc_read.specs.declared.ports.PortSet.{PortSet}
use Rattle.sdc_read.specs.Ports.{port_at, no_sides, IsSize, AreTimes, AreSizes, IsInRange}
use Rattle.verilog_net.specs.Bits.{Bit}
use Rattle.link_rules.specs.Given.{span_of, slews_of, window_of, windows_of, clock_at, input_windows, set_windows, quiet_pair, given_by, given_of}
use Rattle.sdc_read.specs.Sound.{IsSoundClock, AreSoundConstraints}

-- a lesser and a greater number within bounds
record IsSpan (low high : ℤ) (s : ℤ × ℤ) : Type 0 where
  order : s.0 ≤ℤ s.1
  least : low ≤ℤ s.0
  most : s.1 ≤ℤ high

abbrev IsBetweenIfSome : ℤ → ℤ → Option ℤ → Type 0
IsBetweenIfSome low high o = IfSome o (λ x. (low ≤ℤ x) × (x ≤ℤ high))

span_is : (low high : ℤ) (a b : Option ℤ) → IsBetweenIfSome low high a → IsBetweenIfSome low high b → IfSome (span_of a b) (IsSpan low high)
span_is low high None None h k = tt
span_is low high (Some a) None h k = record { order = omega (arith, ints); least = h.0; most = h.1 }
span_is low high None (Some b) h k = record { order = omega (arith, ints); least = k.0; most = k.1 }
span_is low high (Some a) (Some b) h k =
    let p = h.0 in
    let q = h.1 in
    let r = k.0 in
    let s = k.1 in
    record {
      order = omega (arith, ints, clamps);
      least = omega (arith, ints, clamps, p, r);
      most = omega (arith, ints, clamps, q, s);
    }

slews_are : (a b : Option ℤ) → IsSize a → IsSize b → IsSpan (pos 0) (pos (2 ^ 40)) (slews_of a b)
slews_are a b h k = by (span_of a b) (span_is (pos 0) (pos (2 ^ 40)) a b h k)
  where
    by : (o : Option (ℤ × ℤ)) → IfSome o (IsSpan (pos 0) (pos (2 ^ 40))) → IsSpan (pos 0) (pos (2 ^ 40)) (unwrap_or o (pos 0, pos 0))
    by None h = record { order = omega arith; least = omega arith; most = omega arith }
    by (Some s) h = h

le_true : (a b : ℤ) → a ≤ℤ b → int_le a b ≡ true
le_true a b h = grind (arith, ints)

abbrev IsTimes : Option (ℤ × ℤ) → Type 0
IsTimes o = IfSome o (IsSpan (neg_ℤ (pos (2 ^ 40))) (pos (2 ^ 40)))

window_given : (times : Option (ℤ × ℤ)) (slews : ℤ × ℤ) → IsTimes times → IsSpan (pos 0) (pos (2 ^ 40)) slews → IsGiven (window_of times slews)
window_given None slews h k = inl refl
window_given (Some t) slews h k =
    let a = h.order in
    let b = h.least in
    let c = h.most in
    let d = k.order in
    let e = k.least in
    let f = k.most in
    inr (record {
      live = and_from (int_le t.0 t.1) (int_le slews.0 slews.1) (le_true t.0 t.1 a) (le_true slews.0 slews.1 d);
      tlo = record { least = omega (arith, ints, a, b, c); most = omega (arith, ints, a, b, c) };
      thi = record { least = omega (arith, ints, a, b, c); most = omega (arith, ints, a, b, c) };
      slo = record { least = e; most = omega (arith, ints, d, e, f) };
      shi = record { least = omega (arith, ints, d, e, f); most = f };
    })

-- both edges of what is given
pub record AreGiven (p : Pair) : Type 0 where
  pub rise : IsGiven p.rise
  pub fall : IsGiven p.fall

windows_given : (rise fall : Option (ℤ × ℤ)) (slew : Sides) → IsTimes rise → IsTimes fall → AreSizes slew → AreGiven (windows_of rise fall slew)
windows_given rise fall slew r f s = record {
  rise = window_given rise (slews_of slew.rise_min slew.rise_max) r (slews_are slew.rise_min slew.rise_max s.0 s.1);
  fall = window_given fall (slews_of slew.fall_min slew.fall_max) f (slews_are slew.fall_min slew.fall_max s.2 s.3);
}

input_given : (clock : Option Clock) (input slew : Sides) → IfSome clock IsSoundClock → AreTimes input → AreSizes slew → AreGiven (input_windows clock input slew)
input_given (Some c) input slew h t s =
    let a = h.fall.least in
    let b = h.fall.most in
    windows_given (Some (pos 0, pos 0)) (Some (c.fall, c.fall)) slew
    (record { order = omega arith; least = omega arith; most = omega arith })
    (record { order = omega (arith, ints); least = omega (arith, ints, a); most = b }) s
input_given None input slew h t s =
    windows_given (span_of input.rise_min input.rise_max) (span_of input.fall_min input.fall_max) slew
    (span_is (neg_ℤ (pos (2 ^ 40))) (pos (2 ^ 40)) input.rise_min input.rise_max t.0 t.1)
    (span_is (neg_ℤ (pos (2 ^ 40))) (pos (2 ^ 40)) input.fall_min input.fall_max t.2 t.3) s

set_given : (clock : Option Clock) (set : Option PortSet) → IfSome clock IsSoundClock → IfSome set IsInRange → AreGiven (set_windows clock set)
set_given clock None c h = input_given clock no_sides no_sides c (tt, tt, tt, tt) (tt, tt, tt, tt)
set_given clock (Some set) c h = input_given clock set.input set.slew c h.input h.slew

clock_kept : (decl bit : ℕ) (o : Option Clock) → IfSome o IsSoundClock → IfSome (clock_at decl bit o) IsSoundClock
clock_kept decl bit None h = tt
clock_kept decl bit (Some clock) h = by (clock.decl == decl && clock.bit == bit)
  where
    by : (b : Bool) → IfSome (if b then Some clock else None) IsSoundClock
    by true = h
    by false = tt

pub port_in_range : (decl bit : ℕ) (ports : List PortSet) → AllByRecursion IsInRange ports → IfSome (port_at decl bit ports) IsInRange
port_in_range decl bit [] h = tt
port_in_range decl bit (p ∷ ps) h = by (decl == p.decl && bit == p.bit) (port_in_range decl bit ps h.1)
  where
    by : (b : Bool) → IfSome (port_at decl bit ps) IsInRange → IfSome (if b then Some p else port_at decl bit ps) IsInRange
    by true rest = h.0
    by false rest = rest

quiet_given : AreGiven quiet_pair
quiet_given = record { rise = inl refl; fall = inl refl }

given_role : (c : Constraints) (b : Bit) (role : PortRole) → IfSome c.clock IsSoundClock → AllByRecursion IsInRange c.ports → AreGiven (given_by c b role)
given_role c b roles.Input h k =
    set_given (clock_at b.decl b.bit c.clock) (port_at b.decl b.bit c.ports) (clock_kept b.decl b.bit c.clock h) (port_in_range b.decl b.bit c.ports k)
given_role c b roles.Output h k = quiet_given
given_role c b roles.Inner h k = quiet_given

pub all_given : (c : Constraints) (b : Bit) → AreSoundConstraints c → AllByRecursion IsInRange c.ports → AreGiven (given_of c b)
unfolding given_of
all_given c b h k = given_role c b b.role h.clock k
