-- Related pins by the numbers of their timing groups.
use Rattle.std.proofs.Common.{◌≡◌, ℕ, zero, suc, ◌+◌, ◌<◌, List, [], ◌∷◌, ◌++◌, length, Some, refl, ap, sym, ◌∙◌, arith}
use Rattle.std.specs.Prelude.{Option, filter_map, option_map}
use Rattle.std.specs.List.{cons_option, slice_get}
use Rattle.std.proofs.lemmas.List.Elements.{filter_map-append}
use Rattle.std.proofs.lemmas.Option.{same_Some, slice_get_within}
use Rattle.liberty_cells.specs.declared.timing.Timing.{Timing}
use Rattle.link_pins.specs.declared.related_pins.NumberedPin.{NumberedPin}
use Rattle.link_pins.specs.Timed.{with_timing, timed_pin, AreNumbered}
use Rattle.link_pins.proofs.PinLaws.{element_at}

module _ (ts : List Timing) where
  -- a number that is there is that of a timing group
  numbered : (p : NumberedPin) → p.timing < length ts → (t : Timing) × (timed_pin ts p ≡ Some (t, p.pin))
  numbered p lt =
      let x = element_at ts p.timing lt in
      (x.0, ap (option_map (λ (t : Timing). (t, p.pin))) x.1)

  later : (p : NumberedPin) (ps : List NumberedPin) → AreNumbered ts (p ∷ ps) → AreNumbered ts ps
  later p ps all = λ k d lt. all (suc k) d (omega (arith, lt))

  pub numbered_length : (ps : List NumberedPin) → AreNumbered ts ps → length (filter_map (timed_pin ts) ps) ≡ length ps
  numbered_length [] all = refl
  numbered_length (p ∷ ps) all =
      let x = numbered p (all 0 p (omega arith)) in
      ap (λ o. length (cons_option o (filter_map (timed_pin ts) ps))) x.1 ∙ ap suc (numbered_length ps (later p ps all))

  pub numbered_at : (ps : List NumberedPin) (i : ℕ) (p : NumberedPin) → AreNumbered ts ps → slice_get ps i ≡ Some p → slice_get (filter_map (timed_pin ts) ps) i ≡ timed_pin ts p
  numbered_at [] i p all h = absurd (omega (arith, slice_get_within [] i p h))
  numbered_at (q ∷ ps) zero p all h =
      let x = numbered q (all 0 q (omega arith)) in
      ap (λ o. slice_get (cons_option o (filter_map (timed_pin ts) ps)) 0) x.1 ∙ (sym x.1 ∙ ap (timed_pin ts) (same_Some q p h))
  numbered_at (q ∷ ps) (suc i) p all h =
      let x = numbered q (all 0 q (omega arith)) in
      ap (λ o. slice_get (cons_option o (filter_map (timed_pin ts) ps)) (suc i)) x.1 ∙ numbered_at ps i p (later q ps all) h

  -- a related pin more
  pub numbered_more : (ps : List NumberedPin) (p : NumberedPin) (t : Timing) (k : ℕ) → slice_get ts p.timing ≡ Some t → p.pin ≡ k
      → filter_map (timed_pin ts) (ps ++ p ∷ []) ≡ filter_map (timed_pin ts) ps ++ with_timing t k ∷ []
  numbered_more ps p t k at pin =
      filter_map-append (timed_pin ts) ps (p ∷ [])
      ∙ (ap (λ o. filter_map (timed_pin ts) ps ++ cons_option (option_map (λ (x : Timing). (x, p.pin)) o) []) at
      ∙ ap (λ n. filter_map (timed_pin ts) ps ++ (t, n) ∷ []) pin)
