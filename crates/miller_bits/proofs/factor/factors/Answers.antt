use Rattle.std.proofs.Common.{◌≡◌, ℕ, ℤ, zero, suc, ◌<◌, ◌∙◌, refl, List, [], ◌∷◌, length, get_or, pos, arith}
use Rattle.std.specs.Prelude.{Option, Some, IsSome}
use Rattle.std.specs.List.{slice_get}
use Rattle.std.proofs.lemmas.Bool.{false≢true}
use Rattle.xt_model.specs.Parts.{Parts}
use Rattle.xt_model.specs.declared.edge.Edge.{Edge}
use Rattle.xt_model.specs.declared.quad.Quad.{Quad}
use Rattle.xt_model.specs.declared.net.Coupling.{Coupling}
use Rattle.xt_model.specs.declared.net.Net.{Net}
use Rattle.xt_model.specs.Assign.{quads_of}
use Rattle.xt_model.specs.Quads.{other_edge}
use Rattle.xt_meaning.specs.Overlap.{overlaps, least_factor, greatest_factor}
use Rattle.miller_bits.specs.Views.{HasNet, answers_of, coupling_at, least_by, greatest_by}
use Rattle.miller_bits.proofs.Sums.{found, held}
use Rattle.miller_bits.proofs.factor.factors.Goals as goal

abbrev none : Coupling
none = record { to = record { 0 = 0 }; cap = pos 0 }

-- a coupling of this number is there, and is what is read
inside : (ks : List Coupling) (i : ℕ) → IsSome (slice_get ks i) → i < length ks
inside [] i h = absurd (false≢true h)
inside (k ∷ ks) zero h = omega arith
inside (k ∷ ks) (suc i) h = let below = inside ks i h in omega (arith, below)

read : (ks : List Coupling) (i : ℕ) → i < length ks → slice_get ks i ≡ Some (get_or ks i none)
read [] i h = absurd (omega (arith, h))
read (k ∷ ks) zero h = refl
read (k ∷ ks) (suc i) h = read ks i (omega (arith, h))

at_number : (o : Option Net) (net : Net) (ks : List Coupling) (i : ℕ) → o ≡ Some net → ks ≡ net.couplings → IsSome (coupling_at o i) → i < length ks
at_number o net ks i there same h = rw same (inside net.couplings i (rw there at h))

at_coupling : (o : Option Net) (net : Net) (ks : List Coupling) (i : ℕ) → o ≡ Some net → ks ≡ net.couplings → i < length ks → coupling_at o i ≡ Some (get_or ks i none)
at_coupling o net ks i there same below = rw there (rw (← same) (read ks i below))

-- a factor by the window of the victim, as it is read
least_is : (d : Parts) (f : ℕ → ℤ) (n : ℕ) (e : Edge) (k : Coupling) (own : Quad) (r : ℕ) → own ≡ quads_of f n e → r ≡ least_by d.miller (overlaps d.period own (quads_of f k.to.0 e)) → r ≡ least_factor d.miller (answers_of d f) n e k
least_is d f n e k own r window is = rw window at is

greatest_is : (d : Parts) (f : ℕ → ℤ) (n : ℕ) (e : Edge) (k : Coupling) (own : Quad) (r : ℕ) → own ≡ quads_of f n e → r ≡ greatest_by d.miller (overlaps d.period own (quads_of f k.to.0 (other_edge e))) → r ≡ greatest_factor d.miller (answers_of d f) n e k
greatest_is d f n e k own r window is = rw window at is

pub net-victim-requires : goal.net-victim-requires
net-victim-requires g c = c.requires.net

pub window-requires : goal.window-requires
window-requires g c = c.requires.words

pub of-own-requires : goal.of-own-requires
of-own-requires g c = c.window.ensures.range

pub bounds-as_slice-coupling : goal.bounds-as_slice-coupling
bounds-as_slice-coupling g c = at_number _ c.net-victim.result.now c.as_slice.result.now c.args.coupling c.net-victim.ensures.there c.as_slice.ensures c.requires.coupling

pub factors_of-requires-clause-own : goal.factors_of-requires-clause-own
factors_of-requires-clause-own g c = c.of-own.ensures.active

pub factors_of-requires-clause-words : goal.factors_of-requires-clause-words
factors_of-requires-clause-words g c =
    let n = c.net-victim.result.now in
    let below = at_number _ n c.as_slice.result.now c.args.coupling c.net-victim.ensures.there c.as_slice.ensures c.requires.coupling in
    let there = at_coupling _ n c.as_slice.result.now c.args.coupling c.net-victim.ensures.there c.as_slice.ensures below in
    found (λ (k : Coupling). HasNet (g.V.Bounds.has c.args.view.now) k.to.0) _ _ there c.requires.aggressor

pub returns-clause-least : goal.returns-clause-least
returns-clause-least g c =
    let n = c.net-victim.result.now in
    let d = c.args.design.now in
    let below = at_number _ n c.as_slice.result.now c.args.coupling c.net-victim.ensures.there c.as_slice.ensures c.requires.coupling in
    let there = at_coupling _ n c.as_slice.result.now c.args.coupling c.net-victim.ensures.there c.as_slice.ensures below in
    let window = c.of-own.ensures.window ∙ c.window.ensures.value in
    let k = get_or c.as_slice.result.now c.args.coupling none in
    let f = g.V.Bounds.bound_of c.args.view.now in
    held (λ (k : Coupling). c.factors_of.result.0 ≡ least_factor d.miller (answers_of d f) c.args.net.0 c.args.edge k) _ k there (least_is d f c.args.net.0 c.args.edge k c.of-own.result.window c.factors_of.result.0 window c.factors_of.ensures.least)

pub returns-clause-greatest : goal.returns-clause-greatest
returns-clause-greatest g c =
    let n = c.net-victim.result.now in
    let d = c.args.design.now in
    let below = at_number _ n c.as_slice.result.now c.args.coupling c.net-victim.ensures.there c.as_slice.ensures c.requires.coupling in
    let there = at_coupling _ n c.as_slice.result.now c.args.coupling c.net-victim.ensures.there c.as_slice.ensures below in
    let window = c.of-own.ensures.window ∙ c.window.ensures.value in
    let k = get_or c.as_slice.result.now c.args.coupling none in
    let f = g.V.Bounds.bound_of c.args.view.now in
    held (λ (k : Coupling). c.factors_of.result.1 ≡ greatest_factor d.miller (answers_of d f) c.args.net.0 c.args.edge k) _ k there (greatest_is d f c.args.net.0 c.args.edge k c.of-own.result.window c.factors_of.result.1 window c.factors_of.ensures.greatest)
