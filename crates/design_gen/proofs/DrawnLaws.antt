-- What is drawn, as the rows of a run hold it.
use Rattle.std.proofs.Common.{◌≡◌, ℕ, zero, suc, ◌+◌, ◌<◌, inl, inr, refl, sym, ap, ◌∙◌, subst, List, [], ◌∷◌, ◌++◌, length, map, get_or, arith}
use Rattle.std.specs.Prelude.{◌==◌, nat_lt, if◌then◌else◌, unwrap_or, slice_index}
use Rattle.std.specs.List.{All, slice_get}
use Rattle.std.proofs.lemmas.Bool.{cases_lt, lt-ltb, le-ltb}
use Rattle.std.proofs.lemmas.List.{length-map, get_or-map}
use Rattle.std.proofs.lemmas.Option.{slice_get_past}
use Rattle.xt_model.specs.declared.quad.Quad.{Quad}
use Rattle.xt_model.specs.Quads.{bottom}
use Rattle.xt_model.specs.declared.net.Coupling.{Coupling}
use Rattle.drawn_numbers.specs.Draws.{after, drawn}
use Rattle.design_gen.specs.Couples.{coupled}
use Rattle.design_gen.specs.Lists.{each_below}
use Rattle.design_gen.specs.Laws.{IsCount}
use Rattle.design_gen.specs.Taps.{sources, pins, driver_of, pins_on, place_of}
use Rattle.design_gen.specs.Generated.{window_by, couples_of}
use Rattle.design_gen.specs.Rows.{HoldCouplings, HoldPins}
use Rattle.design_gen.proofs.Sums.{length-each_below, each_there, each_at}
use Rattle.design_gen.proofs.NetLaws.{driver_there}

-- pins are on a net by the drivers below their count alone
pub pins_agree : (f g : ℕ → ℕ) (n count : ℕ) → ((pin : ℕ) → pin < count → f pin ≡ g pin) → pins_on f n count ≡ pins_on g n count
pins_agree f g n zero h = refl
pins_agree f g n (suc count) h =
    let more = pins_agree f g n count (λ pin k. h pin (omega arith)) in
    ap (λ d. if d == n then pins_on f n count ++ count ∷ [] else pins_on f n count) (h count (omega arith))
    ∙ ap (λ ps. if g count == n then ps ++ count ∷ [] else ps) more

pub place_agrees : (f g : ℕ → ℕ) (pin : ℕ) → ((p : ℕ) → p < suc pin → f p ≡ g p) → place_of f pin ≡ place_of g pin
place_agrees f g pin h =
    ap (λ n. length (pins_on f n pin)) (h pin (omega arith)) ∙ ap (λ ps. length ps) (pins_agree f g (g pin) pin (λ p k. h p (omega arith)))

pub each_agree : (f g : ℕ → ℕ) (n : ℕ) → ((i : ℕ) → i < n → f i ≡ g i) → each_below f n ≡ each_below g n
each_agree f g zero h = refl
each_agree f g (suc n) h =
    ap (λ xs. xs ++ f n ∷ []) (each_agree f g n (λ i k. h i (omega arith))) ∙ ap (λ x. each_below g n ++ x ∷ []) (h n (omega arith))

-- a window of a source, and none past the sources
pub window_there : (w : ℕ → Quad) (m n : ℕ) → unwrap_or (slice_get (each_below w m) n) bottom ≡ (if nat_lt n m then w n else bottom)
window_there w m n = elim (cases_lt n m) [
  | inl p ↦
      let t = lt-ltb n m p in
      ap (λ o. unwrap_or o bottom) (each_there w m n p) ∙ rw t refl
  | inr p ↦
      let t = le-ltb n m p in
      let l = length-each_below w m in
      ap (λ o. unwrap_or o bottom) (slice_get_past (each_below w m) n (omega (arith, l, p))) ∙ rw t refl
]

-- ---- a list of all drivers
module _ (number nets : ℕ) (count : IsCount nets) (drivers : List ℕ) (are : drivers ≡ each_below (driver_of number nets) (pins nets)) where
  pub as_many : length drivers ≡ pins nets
  as_many = ap (λ ds. length ds) are ∙ length-each_below (driver_of number nets) (pins nets)

  pub driver_at : (pin d : ℕ) → pin < pins nets → get_or drivers pin d ≡ driver_of number nets pin
  driver_at pin d h = ap (λ ds. get_or ds pin d) are ∙ each_at (driver_of number nets) (pins nets) pin d h

  pub are_below : All (λ d. d < nets) drivers
  are_below pin d h =
      let l = as_many in
      let k : pin < pins nets = omega (arith, h, l) in
      let e = driver_at pin d k in
      let b = driver_there number nets count pin k in
      omega (arith, e, b)

  pub hold_pins : (rows : List (List ℕ)) → HoldPins rows (slice_index drivers) (length drivers) → HoldPins rows (driver_of number nets) (pins nets)
  hold_pins rows h = record {
    each = λ n l.
        h.each n l ∙ (ap (λ k. pins_on (slice_index drivers) n k) as_many
        ∙ pins_agree (slice_index drivers) (driver_of number nets) n (pins nets) (λ pin k. driver_at pin 0 k));
  }

  pub are_places : (places : List ℕ) → places ≡ each_below (place_of (slice_index drivers)) (length drivers) → places ≡ each_below (place_of (driver_of number nets)) (pins nets)
  are_places places h =
      h ∙ (ap (λ k. each_below (place_of (slice_index drivers)) k) as_many
      ∙ each_agree (place_of (slice_index drivers)) (place_of (driver_of number nets)) (pins nets)
      (λ pin k. place_agrees (slice_index drivers) (driver_of number nets) pin (λ p q. driver_at p 0 (omega (arith, q, k)))))

-- ---- where a run stands after the sources, and after the pins
pub windows_are : (number nets state m : ℕ) (ws : List Quad) → ws ≡ each_below (λ n. window_by (drawn state n 2000)) m → state ≡ number → m ≡ sources nets
    → ws ≡ each_below (λ n. window_by (drawn number n 2000)) (sources nets)
windows_are number nets state m ws e h k =
    e ∙ (ap (λ s. each_below (λ n. window_by (drawn s n 2000)) m) h ∙ ap (λ i. each_below (λ n. window_by (drawn number n 2000)) i) k)

pub couplings_are : (number nets state : ℕ) (rows : List (List Coupling)) → HoldCouplings rows (coupled nets state nets).couples
    → state ≡ after number (sources nets + pins nets) → HoldCouplings rows (couples_of number nets)
couplings_are number nets state rows h e = let P : ℕ → Type 0 = λ s. HoldCouplings rows (coupled nets s nets).couples in subst P e h

-- a row that was looked up
pub row_is : {X : Type 0} (f : X → List ℕ) (rows : List X) (n : ℕ) (row : X) (items : List ℕ) → n < length (map f rows) → items ≡ f row → row ≡ get_or rows n row
    → items ≡ get_or (map f rows) n []
row_is f rows n row items h e same =
    let l = length-map rows f in
    e ∙ (ap f same ∙ sym (get_or-map f rows n row [] (omega (arith, l, h))))
