-- The walk back along a path: levels fall, and what was passed leads to its end.
use Rattle.std.proofs.Common.{◌≡◌, ℕ, ◌<◌, ◌≤◌, refl, sym, ap, subst, ◌∙◌, Bool, List, [], ◌∷◌, ◌++◌, length, reverse, get_or, ℤ, ◌+ℤ◌, arith}
use Rattle.std.specs.Prelude.{Some}
use Rattle.std.specs.List.{All, slice_get, Contains}
use Rattle.std.proofs.lemmas.Int.{ints}
use Rattle.std.proofs.lemmas.List.{reverse-append}
use Rattle.std.proofs.lemmas.List.Elements.{All-head}
use Rattle.std.proofs.lemmas.Option.{slice_get_within, slice_get-get_or, get_or_from_slice_get}
use Rattle.xt_model.specs.declared.edge.Edge.{Edge}
use Rattle.xt_model.specs.declared.net.Net.{Net}
use Rattle.xt_model.specs.declared.net.TimingArc.{TimingArc}
use Rattle.xt_model.specs.Levels.{AreLevels, IsLevel, level_from}
use Rattle.xt_model.specs.Parts.{Parts}
use Rattle.xt_model.specs.Assign.{Assignment}
use Rattle.xt_model.proofs.LevelLaws.{input_below, levels_are_one}
use Rattle.aggressor_report.specs.declared.path.PathStep.{PathStep}
use Rattle.aggressor_report.specs.declared.path.Path.{Path}
use Rattle.aggressor_report.specs.Passages.{bound_of}
use Rattle.aggressor_report.specs.Paths.{IsStep, Lead, IsPath, total}

-- one step more at the front of the steps that were found from the end on
pub lead_more : (late : Bool) (d : Parts) (W : Assignment) (from : ℕ) (input : Edge) (n m : ℕ) (e f : Edge) (s : PathStep) (steps : List PathStep) → IsStep late d W from input s → s.net.0 ≡ n → s.edge ≡ e
    → Lead late d W n e (reverse steps) m f → Lead late d W from input (reverse (steps ++ s ∷ [])) m f
lead_more late d W from input n m e f s steps step net_is edge_is h =
    let P : List PathStep → Type 0 = λ xs. Lead late d W from input xs m f in
    let Q : ℕ → Type 0 = λ k. Lead late d W k e (reverse steps) m f in
    let R : Edge → Type 0 = λ x. Lead late d W s.net.0 x (reverse steps) m f in
    subst P (sym (reverse-append steps (s ∷ []))) (step, subst R (sym edge_is) (subst Q (sym net_is) h))

plain_sum : (b w v x y t u : ℤ) → (b +ℤ w) +ℤ v ≡ x → (x +ℤ t) ≡ u → y ≡ w → (b +ℤ ((y +ℤ v) +ℤ t)) ≡ u
plain_sum b w v x y t u p q r = omega (arith, ints, p, q, r)

-- along a path the bound at its start and all its delays add up to the bound at its end
pub lead_total : (late : Bool) (d : Parts) (W : Assignment) (n m : ℕ) (e f : Edge) (steps : List PathStep) → Lead late d W n e steps m f → (bound_of late (W n e) +ℤ total steps) ≡ bound_of late (W m f)
lead_total late d W n m e f [] h =
    let P : ℕ → Type 0 = λ k. bound_of late (W n e) ≡ bound_of late (W k e) in
    let Q : Edge → Type 0 = λ x. bound_of late (W n e) ≡ bound_of late (W m x) in
    let same : bound_of late (W n e) ≡ bound_of late (W m f) = subst Q h.1 (subst P h.0 refl) in
    omega (arith, ints, same)
lead_total late d W n m e f (s ∷ more) h =
    let step = h.0 in
    let P : ℕ → Type 0 = λ k. bound_of late (W step.arc.from.0 step.arc.input) ≡ bound_of late (W k step.arc.input) in
    let Q : Edge → Type 0 = λ x. bound_of late (W step.arc.from.0 step.arc.input) ≡ bound_of late (W n x) in
    let start : bound_of late (W step.arc.from.0 step.arc.input) ≡ bound_of late (W n e) = subst Q step.comes_at (subst P step.comes_from refl) in
    let rest = lead_total late d W s.net.0 m s.edge f more h.1 in
    omega (arith, ints, start, step.gives.sum, step.wire, step.delay, rest)

-- the time of a path and all its delays add up to the bound at its end
pub path_total : (late : Bool) (d : Parts) (W : Assignment) (m : ℕ) (f : Edge) (p : Path) → IsPath late d W m f p → (p.time +ℤ total p.steps) ≡ bound_of late (W m f)
path_total late d W m f p h = ap (λ t. t +ℤ total p.steps) h.time ∙ lead_total late d W p.net.0 m p.edge f p.steps h.steps

-- ---- levels
level_at : (ls : List ℕ) (n l : ℕ) → slice_get ls n ≡ Some l → get_or ls n 0 ≡ l
level_at ls n l h = get_or_from_slice_get ls n l 0 h

-- a net above level 1 has arcs
some_arcs : (ls : List ℕ) (arcs : List TimingArc) (at l : ℕ) → at ≡ level_from ls arcs → at ≡ l → 1 < l → 0 < length arcs
some_arcs ls [] at l is same above = absurd (omega (arith, is, same, above))
some_arcs ls (a ∷ more) at l is same above = omega arith

pub has_arcs : (nets : List Net) (n l : ℕ) (net : Net) → IsLevel nets n l → slice_get nets n ≡ Some net → 1 < l → 0 < length net.arcs
has_arcs nets n l net h there above = some_arcs h.0 net.arcs (get_or h.0 n 0) l (h.1.each n net there) (level_at h.0 n l h.2) above

-- a net of level 1 has none, since every net has at least level 1
positive : (nets : List Net) (ls : List ℕ) (n : ℕ) (x : Net) → AreLevels nets ls → n < length nets → 0 < get_or ls n 0
positive nets ls n x are h =
    let is : get_or ls n 0 ≡ level_from ls (get_or nets n x).arcs = are.each n (get_or nets n x) (slice_get-get_or nets n x h) in
    omega (arith, is)

no_arcs : (nets : List Net) (ls : List ℕ) (x : Net) (arcs : List TimingArc) (at l : ℕ) → AreLevels nets ls → All (λ a. a.from.0 < length nets) arcs → at ≡ level_from ls arcs → at ≡ l → l ≤ 1 → length arcs ≡ 0
no_arcs nets ls x [] at l are in_nets is same low = refl
no_arcs nets ls x (a ∷ more) at l are in_nets is same low =
    let p = positive nets ls a.from.0 x are (All-head (λ a. a.from.0 < length nets) a more in_nets) in
    let below = input_below ls (a ∷ more) a (0, omega arith, refl) in
    absurd (omega (arith, p, below, is, same, low))

pub is_source : (nets : List Net) (n l : ℕ) (net : Net) → IsLevel nets n l → slice_get nets n ≡ Some net → All (λ a. a.from.0 < length nets) net.arcs → l ≤ 1 → length net.arcs ≡ 0
is_source nets n l net h there in_nets low = no_arcs nets h.0 net net.arcs (get_or h.0 n 0) l h.1 in_nets (h.1.each n net there) (level_at h.0 n l h.2) low

-- levels fall along a step back
pub level_falls : (nets : List Net) (n from l m : ℕ) (net : Net) (a : TimingArc) (i : ℕ) → IsLevel nets n l → IsLevel nets from m → slice_get nets n ≡ Some net → slice_get net.arcs i ≡ Some a → a.from.0 ≡ from → m < l
level_falls nets n from l m net a i h k there arc_at is_from =
    let has : Contains net.arcs a = (i, slice_get_within net.arcs i a arc_at, get_or_from_slice_get net.arcs i a a arc_at) in
    let below = input_below h.0 net.arcs a has in
    let is = h.1.each n net there in
    let at = level_at h.0 n l h.2 in
    let to = level_at k.0 from m k.2 in
    let same : get_or h.0 a.from.0 0 ≡ get_or k.0 from 0 = ap (λ ls. get_or ls a.from.0 0) (levels_are_one nets h.0 k.0 h.1 k.1) ∙ ap (λ j. get_or k.0 j 0) is_from in
    omega (arith, below, is, at, to, same)
