-- What the checks of a sound design lead to.
use Rattle.std.proofs.Common.{◌≡◌, ℕ, ◌<◌, sym, subst, Bool, List, length, get_or, ℤ}
use Rattle.std.specs.Prelude.{Option, Some, None}
use Rattle.std.specs.Option.{option_map}
use Rattle.std.specs.List.{All}
use Rattle.std.proofs.lemmas.Option.{same_Some}
use Rattle.xt_model.specs.declared.edge.Edge.{Edge}
use Rattle.xt_model.specs.declared.edge.Edge.TheVariants.{Rise, Fall}
use Rattle.xt_model.specs.declared.net.NetId.{NetId}
use Rattle.xt_model.specs.declared.check.CheckPoint.{CheckPoint}
use Rattle.xt_model.specs.declared.check.CheckPoint.TheVariants.{Flop, Port}
use Rattle.xt_model.specs.Parts.{Parts}
use Rattle.xt_model.specs.Sound.{IsSound, IsSoundCheck, IsTableOption, IsDelayOption, HasSink}
use Rattle.slack_report.specs.declared.check.Check.{Check}
use Rattle.slack_report.specs.declared.check.Reference.TheVariants.{Clock, Outside}
use Rattle.slack_report.specs.Checks.{check_at, IsSoundTest}

-- each check point of a sound design is sound
pub point_sound : (d : Parts) (points : List CheckPoint) (i : ℕ) (p : CheckPoint) → points ≡ d.checks → IsSound d → i < length points → IsSoundCheck d (get_or points i p)
point_sound d points i p same s h =
    let P : List CheckPoint → Type 0 = λ ps. All (IsSoundCheck d) ps in
    let all = subst P (sym same) s.checks in
    all i p h

abbrev Nothing : Option Check → Type 0
Nothing None = Unit {0}
Nothing (Some c) = ⊥

nothing : (c : Check) → None ≡ Some c → ⊥
nothing c h = subst Nothing h tt

flop_sound : (d : Parts) (i : ℕ) (hold : Bool) (datum : NetId) (e : Edge) (ds : ℕ) (clock : NetId) (cs : ℕ) (o : Option ℕ) (c : Check) → HasSink d datum.0 ds → HasSink d clock.0 cs → IsTableOption d o
    → option_map (λ table. record { point = i; hold = hold; net = datum; edge = e; sink = ds; reference = Clock clock cs table }) o ≡ Some c → IsSoundTest d c
flop_sound d i hold datum e ds clock cs None c from at table h = absurd (nothing c h)
flop_sound d i hold datum e ds clock cs (Some t) c from at table h =
    let is = same_Some (record { point = i; hold = hold; net = datum; edge = e; sink = ds; reference = Clock clock cs t }) c h in
    subst (IsSoundTest d) is (record { sink = from; reference = (at, table) })

port_sound : (d : Parts) (i : ℕ) (hold : Bool) (net : NetId) (e : Edge) (sink : ℕ) (o : Option ℤ) (c : Check) → HasSink d net.0 sink → IsDelayOption o
    → option_map (λ delay. record { point = i; hold = hold; net = net; edge = e; sink = sink; reference = Outside delay }) o ≡ Some c → IsSoundTest d c
port_sound d i hold net e sink None c from delay h = absurd (nothing c h)
port_sound d i hold net e sink (Some x) c from delay h =
    let is = same_Some (record { point = i; hold = hold; net = net; edge = e; sink = sink; reference = Outside x }) c h in
    subst (IsSoundTest d) is (record { sink = from; reference = delay })

-- so is each check of a sound point
pub test_sound : (d : Parts) (i : ℕ) (p : CheckPoint) (e : Edge) (c : Check) → IsSoundCheck d p → check_at i p e ≡ Some c → IsSoundTest d c
test_sound d i (Flop name hold datum ds clock cs rise fall) Rise c s h = flop_sound d i hold datum Rise ds clock cs rise c s.1 s.2 s.3 h
test_sound d i (Flop name hold datum ds clock cs rise fall) Fall c s h = flop_sound d i hold datum Fall ds clock cs fall c s.1 s.2 s.4 h
test_sound d i (Port name hold net sink rise fall) Rise c s h = port_sound d i hold net Rise sink rise c s.1 s.2 h
test_sound d i (Port name hold net sink rise fall) Fall c s h = port_sound d i hold net Fall sink fall c s.1 s.3 h
