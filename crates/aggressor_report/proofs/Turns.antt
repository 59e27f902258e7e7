-- Loops over lists whose elements have numbers, turn by turn, and what they read of nets.
use Rattle.std.proofs.Common.{◌≡◌, Bool, true, false, ℕ, ◌+◌, ◌-◌, ◌<◌, ◌≤◌, zero, suc, List, [], ◌∷◌, ◌++◌, length, take, drop, get_or, Fits, w32, refl, sym, ap, ◌∙◌, append_assoc, append-nil, arith, add-one, drop-cons, length-append, subst, Option, Some, IfSome}
use Rattle.std.specs.Prelude.{if◌then◌else◌}
use Rattle.std.specs.List.{slice_get, filter, sum_by}
use Rattle.std.proofs.lemmas.List.{at_drop_all, length-drop, length-take-le, take-append-drop, take-take, drop-append-le}
use Rattle.std.proofs.lemmas.List.Sums.{sum_by_more_le}
use Rattle.std.proofs.lemmas.Option.{get_or_from_slice_get, slice_get_read, slice_get_within}
use Rattle.xt_model.specs.declared.net.Coupling.{Coupling}
use Rattle.xt_model.specs.declared.net.Net.{Net}
use Rattle.xt_model.specs.Parts.{Parts}
use Rattle.xt_model.specs.Limits.{most_couplings}
use Rattle.xt_model.specs.Sound.{IsSound, IsSoundNet}

-- what is left of a list at an element of it
pub drop_at : {X : Type 0} (xs : List X) (i : ℕ) (x : X) → slice_get xs i ≡ Some x → drop i xs ≡ x ∷ drop (i + 1) xs
drop_at xs i x h =
    let within : i < length xs = slice_get_within xs i x h in
    rw (add-one, drop-cons xs i x within, get_or_from_slice_get xs i x x h) refl

-- the items of what is left of a list xs, where F n gives the items of a list whose first element has number n, and f n
-- the part of that element
pub opened : {X Y : Type 0} (F : ℕ → List X → List Y) (f : ℕ → X → List Y)
    → ((n : ℕ) (x : X) (more : List X) → F n (x ∷ more) ≡ f n x ++ F (n + 1) more)
    → (xs : List X) (i : ℕ) (x : X) → slice_get xs i ≡ Some x → F i (drop i xs) ≡ f i x ++ F (i + 1) (drop (i + 1) xs)
opened F f next xs i x at = ap (F i) (drop_at xs i x at) ∙ next i x (drop (i + 1) xs)

-- and how many these are
pub opened_count : {X Y : Type 0} (F : ℕ → List X → List Y) (f : ℕ → X → List Y)
    → ((n : ℕ) (x : X) (more : List X) → F n (x ∷ more) ≡ f n x ++ F (n + 1) more)
    → (xs : List X) (i : ℕ) (x : X) → slice_get xs i ≡ Some x → length (F i (drop i xs)) ≡ length (f i x) + length (F (i + 1) (drop (i + 1) xs))
opened_count F f next xs i x at = ap length (opened F f next xs i x at) ∙ length-append (f i x) (F (i + 1) (drop (i + 1) xs))

-- a turn of a loop over xs
pub turn : {X Y : Type 0} (F : ℕ → List X → List Y) (f : ℕ → X → List Y)
    → ((n : ℕ) (x : X) (more : List X) → F n (x ∷ more) ≡ f n x ++ F (n + 1) more)
    → (xs : List X) (i : ℕ) (x : X) (o p whole : List Y) → slice_get xs i ≡ Some x → p ≡ o ++ f i x
    → o ++ F i (drop i xs) ≡ whole → p ++ F (i + 1) (drop (i + 1) xs) ≡ whole
turn F f next xs i x o p whole at e h =
    rw e (append_assoc o (f i x) (F (i + 1) (drop (i + 1) xs)) ∙ (ap (λ t. o ++ t) (sym (opened F f next xs i x at)) ∙ h))

-- such a loop at its end
pub turns_end : {X Y : Type 0} (F : ℕ → List X → List Y) → ((n : ℕ) → F n [] ≡ [])
    → (xs : List X) (i : ℕ) (o whole : List Y) → length xs ≤ i → o ++ F i (drop i xs) ≡ whole → o ≡ whole
turns_end F none xs i o whole past h =
    let left : F i (drop i xs) ≡ [] = at_drop_all (F i) xs i past ∙ none i in
    sym (append-nil o) ∙ (ap (λ t. o ++ t) (sym left) ∙ h)

-- the first of some things, where the test picks it, and those behind it
pub picked_next : {X : Type 0} (p : X → Bool) (x : X) (more : List X) → filter p (x ∷ more) ≡ (if p x then x ∷ [] else []) ++ filter p more
picked_next p x more = chosen (p x)
  where
    chosen : (b : Bool) → (if b then x ∷ filter p more else filter p more) ≡ (if b then x ∷ [] else []) ++ filter p more
    chosen true = refl
    chosen false = refl

-- an element of the first n is there among them
pub slice_get_take : {X : Type 0} (xs : List X) (n i : ℕ) (x : X) → i < n → slice_get xs i ≡ Some x → slice_get (take n xs) i ≡ Some x
slice_get_take xs zero i x h at = absurd (omega arith)
slice_get_take [] (suc n) i x h at = at
slice_get_take (y ∷ xs) (suc n) zero x h at = at
slice_get_take (y ∷ xs) (suc n) (suc i) x h at = slice_get_take xs n i x (omega arith) at

-- what lies in a list from one place to another lies there up to a place between them, and from it on
pub drop_split : {X : Type 0} (xs : List X) (from middle to : ℕ) → from ≤ middle → middle ≤ to → to ≤ length xs
    → drop from (take to xs) ≡ drop from (take middle xs) ++ drop middle (take to xs)
drop_split {X} xs from middle to low high end =
    let ys : List X = take to xs in
    let first : take middle ys ≡ take middle xs = take-take middle to xs high in
    let long : length (take middle xs) ≡ middle = length-take-le middle xs (omega arith) in
    sym (ap (λ zs. drop from zs) (take-append-drop middle ys))
    ∙ (ap (λ zs. drop from (zs ++ drop middle ys)) first ∙ drop-append-le from (take middle xs) (drop middle ys) (omega (arith, long, low)))

-- the items of two lists, one after the other
pub items_append : {X Y : Type 0} (F : ℕ → List X → List Y) (f : ℕ → X → List Y)
    → ((n : ℕ) (x : X) (more : List X) → F n (x ∷ more) ≡ f n x ++ F (n + 1) more) → ((n : ℕ) → F n [] ≡ [])
    → (n : ℕ) (xs ys : List X) → F n (xs ++ ys) ≡ F n xs ++ F (n + length xs) ys
items_append F f next none n [] ys =
    let same : n + 0 ≡ n = omega arith in
    ap (λ m. F m ys) (sym same) ∙ ap (λ t. t ++ F (n + 0) ys) (sym (none n))
items_append F f next none n (x ∷ xs) ys =
    let same : (n + 1) + length xs ≡ n + suc (length xs) = omega arith in
    next n x (xs ++ ys) ∙ (ap (λ t. f n x ++ t) (items_append F f next none (n + 1) xs ys ∙ ap (λ m. F (n + 1) xs ++ F m ys) same)
    ∙ (sym (append_assoc (f n x) (F (n + 1) xs) (F (n + suc (length xs)) ys)) ∙ ap (λ t. t ++ F (n + suc (length xs)) ys) (sym (next n x xs))))

-- those from one place of a list to another
pub items_split : {X Y : Type 0} (F : ℕ → List X → List Y) (f : ℕ → X → List Y)
    → ((n : ℕ) (x : X) (more : List X) → F n (x ∷ more) ≡ f n x ++ F (n + 1) more) → ((n : ℕ) → F n [] ≡ [])
    → (xs : List X) (from middle to : ℕ) → from ≤ middle → middle ≤ to → to ≤ length xs
    → F from (drop from (take to xs)) ≡ F from (drop from (take middle xs)) ++ F middle (drop middle (take to xs))
items_split {X} {Y} F f next none xs from middle to low high end =
    let first : List X = drop from (take middle xs) in
    let rest : List X = drop middle (take to xs) in
    let here : length first ≡ length (take middle xs) - from = length-drop from (take middle xs) in
    let long : length (take middle xs) ≡ middle = length-take-le middle xs (omega arith) in
    let at : from + length first ≡ middle = omega (arith, here, long, low) in
    ap (F from) (drop_split xs from middle to low high end) ∙ (items_append F f next none from first rest ∙ ap (λ m. F from first ++ F m rest) at)

-- an element within a list is there
pub some_within : {X : Type 0} (xs : List X) (i : ℕ) → i < length xs → (x : X) × (slice_get xs i ≡ Some x)
some_within [] i h = absurd (omega arith)
some_within (x ∷ xs) zero h = (x, refl)
some_within (x ∷ xs) (suc i) h = some_within xs i (omega arith)

-- a net that is read is there
pub net_there : (nets read : List Net) (n : ℕ) (net : Net) → read ≡ nets → n < length nets → net ≡ get_or read n net → slice_get nets n ≡ Some net
net_there nets read n net same within is =
    let count : length read ≡ length nets = ap length same in
    ap (λ ns. slice_get ns n) (sym same) ∙ slice_get_read read (length read) n net refl (omega (arith, count, within)) is

-- a net has no more couplings than a design may have
pub few_couplings : (d : Parts) (n : ℕ) (net : Net) (ks : List Coupling) → IsSound d → slice_get d.nets n ≡ Some net → ks ≡ net.couplings → length ks ≤ most_couplings
few_couplings d n net ks sound there same =
    let f : Net → ℕ = λ m. length m.couplings in
    let most : sum_by f (take n d.nets) + f (get_or d.nets n net) ≤ sum_by f d.nets = sum_by_more_le f d.nets n net (slice_get_within d.nets n net there) in
    let this : f (get_or d.nets n net) ≡ f net = ap f (get_or_from_slice_get d.nets n net net there) in
    omega (arith, most, this, sound.limits.couplings, ap length same)

-- the number of a coupling fits 32 bits
pub number_fits : (d : Parts) (n : ℕ) (net : Net) (ks : List Coupling) (i : ℕ) → IsSound d → slice_get d.nets n ≡ Some net → ks ≡ net.couplings → i < length ks
    → Fits w32 i
number_fits d n net ks i sound there same within = omega (arith, few_couplings d n net ks sound there same, within)

-- the net of a coupling is there
pub aggressor_there : (d : Parts) (n : ℕ) (net : Net) (ks : List Coupling) (i : ℕ) (k : Coupling) → IsSound d → slice_get d.nets n ≡ Some net → ks ≡ net.couplings → i < length ks
    → (get_or ks i k).to.0 < length d.nets
aggressor_there d n net ks i k sound there same within =
    let of_net : IsSoundNet d n net = subst (λ (o : Option Net). IfSome o (IsSoundNet d n)) there (sound.nets n) in
    let inside : i < length net.couplings = omega (arith, ap length same, within) in
    subst (λ (cs : List Coupling). (get_or cs i k).to.0 < length d.nets) (sym same) (of_net.couplings i k inside).there
