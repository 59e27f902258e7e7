use Rattle.std.proofs.Common.{◌≡◌, ℕ, ◌<◌, ◌∙◌, ap, List, length, ℤ, pos, get_or, w64, SFits, to_z, of_z, to_z-of_z, rules, arith}
use Rattle.std.specs.List.{All}
use Rattle.std.proofs.lemmas.Int.{ints}
use Rattle.std.proofs.lemmas.List.{take_all}
use Rattle.std.proofs.lemmas.List.Elements.{All-get_or}
use Rattle.xt_model.specs.declared.net.Coupling.{Coupling}
use Rattle.xt_model.specs.Assign.{assigned}
use Rattle.xt_model.specs.Sound.{IsCap}
use Rattle.glitch_noise.specs.Changes.{changes_of}
use Rattle.glitch_noise.proofs.Spans.{fill_turn}
use Rattle.glitch_noise.proofs.changes.fill.Goals as goal

abbrev none : Coupling
none = record { to = record { 0 = 0 }; cap = pos 0 }

-- what holds of all couplings, of the one that is read
at_number : (P : Coupling → Type 0) (xs ks : List Coupling) (i : ℕ) → xs ≡ ks → i < length xs → All P ks → P (get_or xs i none)
at_number P xs ks i same below all = rw same (All-get_or P ks i none (rw same at below) all)

-- a capacitance, as it is stored
stored : (x : ℤ) → IsCap x → IsCap (to_z w64 (of_z w64 x))
stored x k = record { least = omega (arith, ints, k.least, k.most); most = omega (arith, ints, k.least, k.most) }

pub loop-coupling-init : goal.loop-coupling-init
loop-coupling-init c = c.clear.ensures.items

pub bounds-coupling-items-coupling-index : goal.bounds-coupling-items-coupling-index
bounds-coupling-items-coupling-index c = c.loop-coupling-test.true

pub window_at-window-requires : goal.window_at-window-requires
window_at-window-requires c =
    let there = at_number (λ (k : Coupling). (k.to.0 < length c.args.design.now.nets) × IsCap k.cap) c.as_slice-coupling-items.result.now c.args.net.now.couplings c.loop-coupling.coupling-index c.as_slice-coupling-items.ensures c.loop-coupling-test.true c.requires.couplings in
    rw c.requires.count there.0

pub push_window-requires-clause-range : goal.push_window-requires-clause-range
push_window-requires-clause-range c = c.window_at-window.ensures.range

pub push_window-requires-clause-cap : goal.push_window-requires-clause-cap
push_window-requires-clause-cap c =
    let there = at_number (λ (k : Coupling). (k.to.0 < length c.args.design.now.nets) × IsCap k.cap) c.as_slice-coupling-items.result.now c.args.net.now.couplings c.loop-coupling.coupling-index c.as_slice-coupling-items.ensures c.loop-coupling-test.true c.requires.couplings in
    stored _ there.1

pub loop-coupling-preserved : goal.loop-coupling-preserved
loop-coupling-preserved c =
    let ks = c.as_slice-coupling-items.result.now in
    let i = c.loop-coupling.coupling-index in
    let fits : SFits w64 (get_or ks i none).cap = search rules in
    let appended = rw (c.period.ensures.value) at c.in_ok-push_window.ensures in
    fill_turn c.args.design.now.period (assigned c.args.high.now) c.args.edge ks i none _ _ _ _ c.loop-coupling-test.true c.window_at-window.ensures.value (to_z-of_z fits) appended c.loop-coupling.invariant

pub returns : goal.returns
returns c =
    let all = take_all c.loop-coupling.coupling-index c.as_slice-coupling-items.result.now c.loop-coupling-test.false ∙ c.as_slice-coupling-items.ensures in
    c.loop-coupling.invariant ∙ ap (λ (ks : List Coupling). changes_of c.args.design.now.period (assigned c.args.high.now) c.args.edge ks) all
