-- Laws of levels: there is one list of them at most, and none where arcs make a loop.
use Rattle.std.proofs.Common.{◌≡◌, ℕ, zero, suc, ◌+◌, ◌-◌, ◌<◌, ◌≤◌, max, List, [], ◌∷◌, ◌++◌, length, map, get_or, refl, sym, ap, ◌∙◌, arith, inl, inr}
use Rattle.std.specs.List.{Contains, All}
use Rattle.std.proofs.lemmas.Bool.{cases_lt}
use Rattle.std.proofs.lemmas.List.{get_or-map, length-map, get_or_past, ext_get_or}
use Rattle.std.proofs.lemmas.List.Elements.{All-head, All-tail, Contains-get_or}
use Rattle.std.proofs.lemmas.List.Recursion.{max_push, max_bounds, max_least}
use Rattle.xt_model.specs.declared.net.TimingArc.{TimingArc}
use Rattle.xt_model.specs.declared.net.Net.{Net}
use Rattle.xt_model.proofs.ListLaws.{element_at}
use Rattle.xt_model.specs.Levels.{greatest_of, level_from, AreLevels, Reads, IsLoop}

pub greatest_push : (xs : List ℕ) (y : ℕ) → greatest_of (xs ++ y ∷ []) ≡ max (greatest_of xs) y
greatest_push = max_push greatest_of (λ x. x) refl (λ x xs. refl)

pub greatest_bounds : (xs : List ℕ) (i : ℕ) → i < length xs → get_or xs i 0 ≤ greatest_of xs
greatest_bounds xs i h = max_bounds greatest_of (λ x. x) refl (λ x ys. refl) xs i 0 h

pub greatest_least : (xs : List ℕ) (m : ℕ) → ((i : ℕ) → i < length xs → get_or xs i 0 ≤ m) → greatest_of xs ≤ m
greatest_least xs m h = max_least greatest_of (λ x. x) refl (λ x ys. refl) xs 0 m h

-- the input's level of one of the arcs is below the level that the arcs make
pub input_below : (levels : List ℕ) (arcs : List TimingArc) (arc : TimingArc) → Contains arcs arc → get_or levels arc.from.0 0 < level_from levels arcs
input_below levels arcs arc h =
    let f : TimingArc → ℕ = λ a. get_or levels a.from.0 0 in
    let one : get_or (map f arcs) h.0 0 ≡ f (get_or arcs h.0 arc) = get_or-map f arcs h.0 arc 0 h.1 in
    let two : f (get_or arcs h.0 arc) ≡ f arc = ap f h.2 in
    let len : length (map f arcs) ≡ length arcs = length-map arcs f in
    let most : get_or (map f arcs) h.0 0 ≤ greatest_of (map f arcs) = greatest_bounds (map f arcs) h.0 (omega arith) in
    omega arith

pub map_agrees : {X : Type 0} (f g : X → ℕ) (xs : List X) → All (λ x. f x ≡ g x) xs → map f xs ≡ map g xs
map_agrees f g [] h = refl
map_agrees {X} f g (x ∷ xs) h =
    let P : X → Type 0 = λ y. f y ≡ g y in
    let first : f x ≡ g x = All-head P x xs h in
    let rest : map f xs ≡ map g xs = map_agrees f g xs (All-tail P x xs h) in
    cc

-- levels that agree at the arcs' inputs make one level
pub level_agrees : (a b : List ℕ) (arcs : List TimingArc) → All (λ k. get_or a k.from.0 0 ≡ get_or b k.from.0 0) arcs → level_from a arcs ≡ level_from b arcs
level_agrees a b arcs h = ap (λ ns. 1 + greatest_of ns) (map_agrees (λ k. get_or a k.from.0 0) (λ k. get_or b k.from.0 0) arcs h)

-- a net has a greater level than each that it reads
pub reads_down : (nets : List Net) (levels : List ℕ) → AreLevels nets levels → (a b : ℕ) → Reads nets a b → get_or levels b 0 < get_or levels a 0
reads_down nets levels are a b r =
    let below : get_or levels r.1.from.0 0 < level_from levels r.0.arcs = input_below levels r.0.arcs r.1 r.3 in
    let here : get_or levels a 0 ≡ level_from levels r.0.arcs = are.each a r.0 r.2 in
    let at : get_or levels r.1.from.0 0 ≡ get_or levels b 0 = ap (λ n. get_or levels n 0) r.4 in
    omega arith

path_down : (nets : List Net) (levels path : List ℕ) → AreLevels nets levels → IsLoop nets path → (k : ℕ) → k < length path → get_or levels (get_or path k 0) 0 + k ≤ get_or levels (get_or path 0 0) 0
path_down nets levels path are l zero h = omega arith
path_down nets levels path are l (suc k) h =
    let so_far : get_or levels (get_or path k 0) 0 + k ≤ get_or levels (get_or path 0 0) 0 = path_down nets levels path are l k (omega arith) in
    let next : get_or levels (get_or path (k + 1) 0) 0 < get_or levels (get_or path k 0) 0 = reads_down nets levels are (get_or path k 0) (get_or path (k + 1) 0) (l.steps k (omega arith)) in
    let e : k + 1 ≡ suc k = omega arith in
    let same : get_or levels (get_or path (k + 1) 0) 0 ≡ get_or levels (get_or path (suc k) 0) 0 = ap (λ m. get_or levels (get_or path m 0) 0) e in
    omega arith

-- nets with levels have no loop
pub no_loop : (nets : List Net) (levels path : List ℕ) → AreLevels nets levels → IsLoop nets path → ⊥
no_loop nets levels path are l =
    let some : 0 < length path = l.some in
    let down : get_or levels (get_or path (length path - 1) 0) 0 + (length path - 1) ≤ get_or levels (get_or path 0 0) 0 = path_down nets levels path are l (length path - 1) (omega arith) in
    let closes : get_or levels (get_or path 0 0) 0 < get_or levels (get_or path (length path - 1) 0) 0 = reads_down nets levels are (get_or path (length path - 1) 0) (get_or path 0 0) l.closes in
    absurd (omega arith)

-- two lists of levels agree at each net whose level in the first is within a bound
agree_to : (nets : List Net) (a b : List ℕ) → AreLevels nets a → AreLevels nets b → (most i : ℕ) → i < length nets → get_or a i 0 ≤ most → get_or a i 0 ≡ get_or b i 0
agree_to nets a b la lb zero i lt h =
    let n = element_at nets i lt in
    let here : get_or a i 0 ≡ level_from a n.0.arcs = la.each i n.0 n.1 in
    absurd (omega arith)
agree_to nets a b la lb (suc most) i lt h =
    let n = element_at nets i lt in
    let here : get_or a i 0 ≡ level_from a n.0.arcs = la.each i n.0 n.1 in
    let there : get_or b i 0 ≡ level_from b n.0.arcs = lb.each i n.0 n.1 in
    let counts : length a ≡ length nets = la.count in
    let other : length b ≡ length nets = lb.count in
    let at_input : (m : ℕ) → get_or a m 0 ≤ most → get_or a m 0 ≡ get_or b m 0 =
    λ m low. elim (cases_lt m (length nets)) [
      | inl within ↦ agree_to nets a b la lb most m within low
      | inr past ↦ get_or_past a m 0 (omega arith) ∙ sym (get_or_past b m 0 (omega arith))
    ] in
    let inputs : All (λ k. get_or a k.from.0 0 ≡ get_or b k.from.0 0) n.0.arcs =
    λ k d within. at_input (get_or n.0.arcs k d).from.0 (let below : get_or a (get_or n.0.arcs k d).from.0 0 < level_from a n.0.arcs = input_below a n.0.arcs (get_or n.0.arcs k d) (Contains-get_or n.0.arcs k d within) in omega arith) in
    here ∙ (level_agrees a b n.0.arcs inputs ∙ sym there)

-- nets have one list of levels at most
pub levels_are_one : (nets : List Net) (a b : List ℕ) → AreLevels nets a → AreLevels nets b → a ≡ b
levels_are_one nets a b la lb =
    let counts : length a ≡ length nets = la.count in
    let other : length b ≡ length nets = lb.count in
    ext_get_or 0 a b (counts ∙ sym other) (λ i h. agree_to nets a b la lb (get_or a i 0) i (omega arith) (omega arith))
