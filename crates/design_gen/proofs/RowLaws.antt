-- Rows hold the couplings of each net, also after another capacitor.
use Rattle.std.proofs.Common.{◌≡◌, ℕ, ◌+◌, ◌<◌, ◌⊎◌, inl, inr, zero, suc, refl, sym, ap, ◌∙◌, subst, true, false, ◌&&◌, List, [], ◌∷◌, ◌++◌, length, map, set, get_or, append-nil, arith}
use Rattle.std.specs.Prelude.{◌≢◌, ◌==◌}
use Rattle.std.specs.List.{All}
use Rattle.std.proofs.lemmas.List.Elements.{All-head, All-tail}
use Rattle.std.proofs.lemmas.List.{get_or-set_same, get_or-set_other, length-set, map-set, get_or-map, length-map}
use Rattle.std.proofs.lemmas.Bool.{lt-ltb}
use Rattle.xt_model.specs.declared.net.Coupling.{Coupling}
use Rattle.design_gen.specs.Couples.{Couple, coupling, coupling_of, couplings_of, has_room, with_couple}
use Rattle.design_gen.specs.Taps.{pins_on, place_of}
use Rattle.design_gen.specs.Lists.{each_below}
use Rattle.design_gen.specs.Rows.{HoldCouplings, HoldPins}
use Rattle.design_gen.proofs.Sums.{true_or_false, is_same, not_same}
use Rattle.design_gen.proofs.CoupleLaws.{couplings_append}

-- where there is no room for it, a capacitor is left out
pub couple_left_out : (rows : List (List Coupling)) (cs : List Couple) (i a cap : ℕ) → (has_room cs i && has_room cs a) ≡ false → HoldCouplings rows cs
    → HoldCouplings rows (with_couple cs i a cap)
couple_left_out rows cs i a cap e h = let k : cs ≡ with_couple cs i a cap = rw e refl in subst (HoldCouplings rows) k h

other_false : (a b : ℕ) → a ≢ b → (a == b) ≡ false
other_false a b h = elim (true_or_false (a == b)) [ inl e ↦ absurd (h (is_same a b e)) | inr e ↦ e ]

-- else it is appended to both rows
pub couple_appended : (rows rows' rows'' : List (List Coupling)) (cs : List Couple) (i a cap : ℕ) → i < length rows → a < length rows → i ≢ a
    → (has_room cs i && has_room cs a) ≡ true → HoldCouplings rows cs
    → rows' ≡ set rows i (get_or rows i [] ++ coupling a cap ∷ []) → rows'' ≡ set rows' a (get_or rows' a [] ++ coupling i cap ∷ [])
    → HoldCouplings rows'' (with_couple cs i a cap)
couple_appended rows rows' rows'' cs i a cap p q differ room h e f =
    let c : Couple = record { first = i; second = a; cap = cap } in
    let k : cs ++ c ∷ [] ≡ with_couple cs i a cap = rw room refl in
    subst (HoldCouplings rows'') k (record { each = λ n l. at n l (true_or_false (i == n)) (true_or_false (a == n)) })
  where
    counts : length rows' ≡ length rows
    counts = rw e (length-set rows i (get_or rows i [] ++ coupling a cap ∷ []))

    counts_all : length rows'' ≡ length rows
    counts_all = rw f (length-set rows' a (get_or rows' a [] ++ coupling i cap ∷ [])) ∙ counts

    own : (n : ℕ) → i ≡ n → get_or rows' n [] ≡ get_or rows n [] ++ coupling a cap ∷ []
    own n g = let P : ℕ → Type 0 = λ j. get_or rows' j [] ≡ get_or rows j [] ++ coupling a cap ∷ [] in subst P g (rw e (get_or-set_same rows i (get_or rows i [] ++ coupling a cap ∷ []) [] p))

    kept : (n : ℕ) → n ≢ i → get_or rows' n [] ≡ get_or rows n []
    kept n g = rw e (get_or-set_other rows i n (get_or rows i [] ++ coupling a cap ∷ []) [] g)

    own_then : (n : ℕ) → a ≡ n → get_or rows'' n [] ≡ get_or rows' n [] ++ coupling i cap ∷ []
    own_then n g =
        let P : ℕ → Type 0 = λ j. get_or rows'' j [] ≡ get_or rows' j [] ++ coupling i cap ∷ [] in
        subst P g (rw f (get_or-set_same rows' a (get_or rows' a [] ++ coupling i cap ∷ []) [] (omega (arith, counts, q))))

    kept_then : (n : ℕ) → n ≢ a → get_or rows'' n [] ≡ get_or rows' n []
    kept_then n g = rw f (get_or-set_other rows' a n (get_or rows' a [] ++ coupling i cap ∷ []) [] g)

    at : (n : ℕ) → n < length rows'' → ((i == n) ≡ true) ⊎ ((i == n) ≡ false) → ((a == n) ≡ true) ⊎ ((a == n) ≡ false)
        → get_or rows'' n [] ≡ couplings_of n (cs ++ record { first = i; second = a; cap = cap } ∷ [])
    at n l (inl g) s =
        let here = is_same i n g in
        let apart : n ≢ a = λ t. differ (here ∙ t) in
        let held = h.each n (omega (arith, counts_all, l)) in
        let m : coupling_of n (record { first = i; second = a; cap = cap }) ≡ coupling a cap ∷ [] = rw g refl in
        kept_then n apart ∙ (own n here ∙ (ap (λ xs. xs ++ coupling a cap ∷ []) held ∙ (ap (λ xs. couplings_of n cs ++ xs) (sym m)
        ∙ sym (couplings_append n cs (record { first = i; second = a; cap = cap })))))
    at n l (inr g) (inl s) =
        let here = is_same a n s in
        let apart : n ≢ i = λ t. not_same i n g (sym t) in
        let held = h.each n (omega (arith, counts_all, l)) in
        let m : coupling_of n (record { first = i; second = a; cap = cap }) ≡ coupling i cap ∷ [] = rw (g, s) refl in
        own_then n here ∙ (ap (λ xs. xs ++ coupling i cap ∷ []) (kept n apart ∙ held) ∙ (ap (λ xs. couplings_of n cs ++ xs) (sym m)
        ∙ sym (couplings_append n cs (record { first = i; second = a; cap = cap }))))
    at n l (inr g) (inr s) =
        let apart : n ≢ a = λ t. not_same a n s (sym t) in
        let apart_first : n ≢ i = λ t. not_same i n g (sym t) in
        let held = h.each n (omega (arith, counts_all, l)) in
        let m : coupling_of n (record { first = i; second = a; cap = cap }) ≡ [] = rw (g, s) refl in
        kept_then n apart ∙ (kept n apart_first ∙ (held ∙ (sym (append-nil (couplings_of n cs)) ∙ (ap (λ xs. couplings_of n cs ++ xs) (sym m)
        ∙ sym (couplings_append n cs (record { first = i; second = a; cap = cap }))))))

-- a row by another that has one item more
pub pushed : {X Y : Type 0} (f : X → List Y) (rows : List X) (at : ℕ) (d new : X) (item : Y) → at < length rows → f new ≡ f (get_or rows at d) ++ item ∷ []
    → map f (set rows at new) ≡ set (map f rows) at (get_or (map f rows) at [] ++ item ∷ [])
pushed f rows at d new item h e =
    map-set f rows at new ∙ ap (λ x. set (map f rows) at x) (e ∙ ap (λ x. x ++ item ∷ []) (sym (get_or-map f rows at d [] h)))

pub none_there : {X Y : Type 0} (f : X → List Y) (rows : List X) → All (λ r. f r ≡ []) rows → (n : ℕ) → n < length (map f rows) → get_or (map f rows) n [] ≡ []
none_there f [] h n l = refl
none_there f (r ∷ rows) h zero l = All-head (λ x. f x ≡ []) r rows h
none_there f (r ∷ rows) h (suc n) l = none_there f rows (All-tail (λ x. f x ≡ []) r rows h) n (omega arith)

-- empty rows hold what no capacitor makes
pub empty_hold : {X : Type 0} (f : X → List Coupling) (rows : List X) → All (λ r. f r ≡ []) rows → HoldCouplings (map f rows) []
empty_hold f rows h = record { each = none_there f rows h }

-- room in a row is room for a net
pub room_in_row : (rows : List (List Coupling)) (cs : List Couple) (n : ℕ) → HoldCouplings rows cs → n < length rows → length (get_or rows n []) < 16 → has_room cs n ≡ true
room_in_row rows cs n h l few =
    let e = h.each n l in
    let P : List Coupling → Type 0 = λ ks. length ks < 16 in
    let k : length (couplings_of n cs) < 16 = subst P e few in
    lt-ltb (length (couplings_of n cs)) 16 k

pub room_by : {X : Type 0} (f : X → List Coupling) (rows : List X) (cs : List Couple) (n : ℕ) (row : X) (len : ℕ) → HoldCouplings (map f rows) cs → n < length rows → len < 16
    → len ≡ length (f row) → row ≡ get_or rows n row → has_room cs n ≡ true
room_by f rows cs n row len h l few e same =
    let m = length-map rows f in
    let k : get_or (map f rows) n [] ≡ f row = get_or-map f rows n row [] l ∙ ap f (sym same) in
    let P : List Coupling → Type 0 = λ ks. length ks < 16 in
    room_in_row (map f rows) cs n h (omega (arith, m, l)) (subst P (sym k) (omega (arith, e, few)))

-- ---- pins
-- a pin is appended to the row of its driver
pub pin_appended : (rows rows' : List (List ℕ)) (driver : ℕ → ℕ) (pin at : ℕ) → at ≡ driver pin → at < length rows → HoldPins rows driver pin
    → rows' ≡ set rows at (get_or rows at [] ++ pin ∷ []) → HoldPins rows' driver (pin + 1)
pin_appended rows rows' driver pin at here p h e =
    let k : suc pin ≡ pin + 1 = omega arith in
    subst (HoldPins rows' driver) k (record { each = λ n l. chosen n l (true_or_false (driver pin == n)) })
  where
    counts : length rows' ≡ length rows
    counts = rw e (length-set rows at (get_or rows at [] ++ pin ∷ []))

    own : (n : ℕ) → at ≡ n → get_or rows' n [] ≡ get_or rows n [] ++ pin ∷ []
    own n g = let P : ℕ → Type 0 = λ j. get_or rows' j [] ≡ get_or rows j [] ++ pin ∷ [] in subst P g (rw e (get_or-set_same rows at (get_or rows at [] ++ pin ∷ []) [] p))

    kept : (n : ℕ) → n ≢ at → get_or rows' n [] ≡ get_or rows n []
    kept n g = rw e (get_or-set_other rows at n (get_or rows at [] ++ pin ∷ []) [] g)

    chosen : (n : ℕ) → n < length rows' → ((driver pin == n) ≡ true) ⊎ ((driver pin == n) ≡ false) → get_or rows' n [] ≡ pins_on driver n (suc pin)
    chosen n l (inl g) =
        let m : pins_on driver n pin ++ pin ∷ [] ≡ pins_on driver n (suc pin) = rw g refl in
        own n (here ∙ is_same (driver pin) n g) ∙ (ap (λ xs. xs ++ pin ∷ []) (h.each n (omega (arith, counts, l))) ∙ m)
    chosen n l (inr g) =
        let m : pins_on driver n pin ≡ pins_on driver n (suc pin) = rw g refl in
        let apart : n ≢ at = λ t. not_same (driver pin) n g (sym (t ∙ here)) in
        kept n apart ∙ (h.each n (omega (arith, counts, l)) ∙ m)

-- its place is the length of that row before
pub place_is : {X : Type 0} (f : X → List ℕ) (rows : List X) (driver : ℕ → ℕ) (pin at len : ℕ) (row : X) → at ≡ driver pin → at < length rows → HoldPins (map f rows) driver pin
    → row ≡ get_or rows at row → len ≡ length (f row) → len ≡ place_of driver pin
place_is f rows driver pin at len row here p h same e =
    let m = length-map rows f in
    let k : f row ≡ pins_on driver at pin = sym (get_or-map f rows at row [] p ∙ ap f (sym same)) ∙ h.each at (omega (arith, m, p)) in
    let P : ℕ → Type 0 = λ j. f row ≡ pins_on driver j pin in
    e ∙ ap (λ xs. length xs) (subst P here k)

pub places_turn : (place : ℕ → ℕ) (pin len : ℕ) (ps ps' : List ℕ) → ps ≡ each_below place pin → len ≡ place pin → ps' ≡ ps ++ len ∷ [] → ps' ≡ each_below place (pin + 1)
places_turn place pin len ps ps' a b c =
    let k : suc pin ≡ pin + 1 = omega arith in
    let P : ℕ → Type 0 = λ j. ps' ≡ each_below place j in
    subst P k (c ∙ (ap (λ xs. xs ++ len ∷ []) a ∙ ap (λ x. each_below place pin ++ x ∷ []) b))
