-- The drivers of nets, one pin after another.
use Rattle.std.proofs.Common.{◌≡◌, ◌≢◌, ℕ, ◌+◌, ◌<◌, ◌==◌, ◌&&◌, Bool, true, false, cond, List, [], ◌∷◌, ◌++◌, length, map, take, set, get_or, Some, refl, sym, ap, ◌∙◌, subst, arith, inl, inr, append_assoc}
use Rattle.std.specs.Prelude.{Option, None, is_some, nat_le, option_map}
use Rattle.std.specs.List.{slice_get}
use Rattle.std.proofs.lemmas.Bool.{cases_eq, eq-eqb, ne_eqb, false≢true}
use Rattle.std.proofs.lemmas.Bool.Decides.{nat_tests}
use Rattle.std.proofs.lemmas.List.{append-nil, map-append, length-set, length-map, length_push, get_or-set_same, get_or-set_other, get_or_push, get_or_append_left}
use Rattle.std.proofs.lemmas.List.Elements.{filter-append}
use Rattle.std.proofs.lemmas.Option.{none-some, same_Some, slice_get-map, slice_get_within, slice_get-get_or, get_or_from_slice_get}
use Rattle.liberty_cells.specs.declared.library.Library.{Library}
use Rattle.verilog_net.specs.declared.netlist.Netlist.{Netlist}
use Rattle.verilog_net.specs.Nets.{Nets}
use Rattle.verilog_net.specs.Bits.{Bit, bits}
use Rattle.link_rules.specs.Ends.{NetEnd}
use Rattle.link_rules.specs.Circuit.{first_of, port_drivers}
use Rattle.link_rules.specs.Pins.{Connected, end_of, is_output, pins}
use Rattle.verilog_net.specs.Sound.{IsSoundNetlist}
use Rattle.link_pins.specs.declared.drivers.Driver.{Driver}
use Rattle.link_pins.specs.Rows.{outputs_in, drivers_by, IsDriver, AreDrivers}
use Rattle.link_pins.proofs.PinLaws.{take_next}
use Rattle.link_pins.proofs.PinsSound.{IsFine, pins_fine}

-- another driver
pub driver_again : (o : Option NetEnd) (ends : List NetEnd) (e : NetEnd) → o ≡ first_of ends → is_some o ≡ true
    → (o ≡ first_of (ends ++ e ∷ [])) × (true ≡ nat_le 2 (length (ends ++ e ∷ [])))
driver_again o [] e first some =
    let no : is_some o ≡ false = ap is_some first in
    absurd (false≢true (sym no ∙ some))
driver_again o (x ∷ more) e first some =
    let len : length (x ∷ more ++ e ∷ []) ≡ length (x ∷ more) + 1 = length_push (x ∷ more) e in
    (first, grind (arith, nat_tests))

-- the first driver
pub driver_first : (o : Option NetEnd) (b : Bool) (ends : List NetEnd) (e : NetEnd) → o ≡ first_of ends → is_some o ≡ false → b ≡ nat_le 2 (length ends)
    → (Some e ≡ first_of (ends ++ e ∷ [])) × (b ≡ nat_le 2 (length (ends ++ e ∷ [])))
driver_first o b [] e first none twice = (refl, twice)
driver_first o b (x ∷ more) e first none twice =
    let yes : is_some o ≡ true = ap is_some first in
    absurd (false≢true (sym none ∙ yes))

-- what stands in the same place of two lists that go together
pub paired_at : {A B : Type 0} (f : A → Option B) (xs : List A) (ys : List B) (k : ℕ) (x : A) → map f xs ≡ map Some ys → slice_get xs k ≡ Some x
    → (y : B) × (slice_get ys k ≡ Some y) × (f x ≡ Some y)
paired_at {A} {B} f xs ys k x same at =
    let left : slice_get (map f xs) k ≡ Some (f x) = slice_get-map f xs k ∙ ap (option_map f) at in
    let right : slice_get (map Some ys) k ≡ option_map Some (slice_get ys k) = slice_get-map Some ys k in
    by (slice_get ys k) refl (sym right ∙ (ap (λ (l : List (Option B)). slice_get l k) (sym same) ∙ left))
  where
    by : (o : Option B) → slice_get ys k ≡ o → option_map Some o ≡ Some (f x) → (y : B) × (slice_get ys k ≡ Some y) × (f x ≡ Some y)
    by None e h = absurd (none-some (f x) h)
    by (Some y) e h = (y, e, sym (same_Some (Some y) (f x) h))

-- the output pins on a net, once a pin more is looked at
module _ (cs : List Connected) (k : ℕ) (c : Connected) (at : slice_get cs k ≡ Some c) where
  outputs_more : (net : ℕ) (b : Bool) → (is_output c.pin.role && c.net == net) ≡ b → outputs_in net (take (k + 1) cs) ≡ outputs_in net (take k cs) ++ cond b (c ∷ []) []
  outputs_more net b e =
      ap (outputs_in net) (take_next k cs c at)
      ∙ filter-append (λ d. is_output d.pin.role && d.net == net) (take k cs) (c ∷ [])
      ∙ ap (λ t. outputs_in net (take k cs) ++ cond t (c ∷ []) []) e

  pub drives : (b : Bit) → is_output c.pin.role ≡ true → drivers_by (take (k + 1) cs) c.net b ≡ drivers_by (take k cs) c.net b ++ end_of c ∷ []
  drives b out =
      let test : (is_output c.pin.role && c.net == c.net) ≡ true = rw (out, eq-eqb c.net c.net refl) refl in
      ap (λ l. port_drivers b b.role ++ map end_of l) (outputs_more c.net true test)
      ∙ ap (λ l. port_drivers b b.role ++ l) (map-append end_of (outputs_in c.net (take k cs)) (c ∷ []))
      ∙ sym (append_assoc (port_drivers b b.role) (map end_of (outputs_in c.net (take k cs))) (end_of c ∷ []))

  pub drives_no_other : (net : ℕ) (b : Bit) → c.net ≢ net → drivers_by (take (k + 1) cs) net b ≡ drivers_by (take k cs) net b
  drives_no_other net b other =
      let test : (is_output c.pin.role && c.net == net) ≡ false = rw (ne_eqb c.net net other) (by (is_output c.pin.role)) in
      ap (λ l. port_drivers b b.role ++ map end_of l) (outputs_more net false test ∙ append-nil (outputs_in net (take k cs)))
    where
      by : (t : Bool) → (t && false) ≡ false
      by true = refl
      by false = refl

  pub drives_none : (net : ℕ) (b : Bit) → is_output c.pin.role ≡ false → drivers_by (take (k + 1) cs) net b ≡ drivers_by (take k cs) net b
  drives_none net b out =
      let test : (is_output c.pin.role && c.net == net) ≡ false = rw out refl in
      ap (λ l. port_drivers b b.role ++ map end_of l) (outputs_more net false test ∙ append-nil (outputs_in net (take k cs)))

-- a list with another element at one place
pub set_there : {X : Type 0} (xs : List X) (i : ℕ) (y z : X) → i < length xs → slice_get (set xs i y) i ≡ Some z → y ≡ z
set_there xs i y z lt h =
    let got : get_or (set xs i y) i y ≡ z = get_or_from_slice_get (set xs i y) i z y h in
    sym (get_or-set_same xs i y y lt) ∙ got

pub set_elsewhere : {X : Type 0} (xs : List X) (i j : ℕ) (y z : X) → j ≢ i → slice_get (set xs i y) j ≡ Some z → slice_get xs j ≡ Some z
set_elsewhere xs i j y z ne h =
    let within : j < length (set xs i y) = slice_get_within (set xs i y) j z h in
    let size : length (set xs i y) ≡ length xs = length-set xs i y in
    let got : get_or (set xs i y) j z ≡ z = get_or_from_slice_get (set xs i y) j z z h in
    let old : get_or xs j z ≡ z = sym (get_or-set_other xs i j y z ne) ∙ got in
    slice_get-get_or xs j z (omega arith) ∙ ap Some old

module _ (nets : Nets) (cs : List Connected) (k : ℕ) (c : Connected) (at : slice_get cs k ≡ Some c) (old : List Driver) (are : AreDrivers nets (take k cs) old) where
  -- a pin that drives its net
  pub driver_added : (d new : Driver) → slice_get old c.net ≡ Some d → is_output c.pin.role ≡ true
      → ((ends : List NetEnd) → IsDriver d ends → IsDriver new (ends ++ end_of c ∷ [])) → AreDrivers nets (take (k + 1) cs) (set old c.net new)
  driver_added d new there out adds = record {
    count = length-set old c.net new ∙ are.count;
    each = λ net b e bit h. elim (cases_eq net c.net) [
      | inl same ↦
          let here : slice_get (set old c.net new) c.net ≡ Some e = rw same at h in
          let is : new ≡ e = set_there old c.net new e (slice_get_within old c.net d there) here in
          let bit_there : slice_get (bits nets) c.net ≡ Some b = rw same at bit in
          let before : IsDriver d (drivers_by (take k cs) c.net b) = are.each c.net b d bit_there there in
          let after : IsDriver e (drivers_by (take k cs) c.net b ++ end_of c ∷ []) = subst (λ (x : Driver). IsDriver x (drivers_by (take k cs) c.net b ++ end_of c ∷ [])) is (adds (drivers_by (take k cs) c.net b) before) in
          let now : IsDriver e (drivers_by (take (k + 1) cs) c.net b) = subst (IsDriver e) (sym (drives cs k c at b out)) after in
          subst (λ (n : ℕ). IsDriver e (drivers_by (take (k + 1) cs) n b)) (sym same) now
      | inr other ↦
          let there_too : slice_get old net ≡ Some e = set_elsewhere old c.net net new e other h in
          subst (IsDriver e) (sym (drives_no_other cs k c at net b (λ q. other (sym q)))) (are.each net b e bit there_too)
    ];
  }

  -- a pin that drives nothing
  pub driver_not_added : is_output c.pin.role ≡ false → AreDrivers nets (take (k + 1) cs) old
  driver_not_added out = record {
    count = are.count;
    each = λ net b e bit h. subst (IsDriver e) (sym (drives_none cs k c at net b out)) (are.each net b e bit h);
  }

-- the drivers of one net more by its port
pub port_added : (nets : Nets) (net : ℕ) (old new : List Driver) (d : Driver) → length old ≡ net → new ≡ old ++ d ∷ []
    → ((i : ℕ) (b : Bit) (e : Driver) → slice_get (bits nets) i ≡ Some b → slice_get old i ≡ Some e → IsDriver e (drivers_by [] i b))
    → ((b : Bit) → slice_get (bits nets) net ≡ Some b → IsDriver d (port_drivers b b.role))
    → (i : ℕ) (b : Bit) (e : Driver) → slice_get (bits nets) i ≡ Some b → slice_get new i ≡ Some e → IsDriver e (drivers_by [] i b)
port_added nets net old new d len push each here i b e bit h =
    let at : slice_get (old ++ d ∷ []) i ≡ Some e = rw push at h in
    let within : i < length (old ++ d ∷ []) = slice_get_within (old ++ d ∷ []) i e at in
    let size : length (old ++ d ∷ []) ≡ length old + 1 = length_push old d in
    let got : get_or (old ++ d ∷ []) i e ≡ e = get_or_from_slice_get (old ++ d ∷ []) i e e at in
    elim (cases_eq i net) [
      | inl same ↦
          let is : d ≡ e = sym (get_or_push old d e i (len ∙ sym same)) ∙ got in
          let bit_here : slice_get (bits nets) net ≡ Some b = rw same at bit in
          subst (λ (x : Driver). IsDriver x (drivers_by [] i b)) is (subst (IsDriver d) (sym (append-nil (port_drivers b b.role))) (here b bit_here))
      | inr other ↦
          let lt : i < length old = omega arith in
          let before : get_or old i e ≡ e = sym (get_or_append_left old (d ∷ []) e i lt) ∙ got in
          each i b e bit (slice_get-get_or old i e lt ∙ ap Some before)
    ]

-- a pin on a net is fine
pub fine_at : (library : Library) (netlist : Netlist) → IsSoundNetlist netlist → (i : ℕ) (c : Connected) → slice_get (pins library netlist) i ≡ Some c → IsFine netlist c
fine_at library netlist sound i c at =
    subst (IsFine netlist) (get_or_from_slice_get (pins library netlist) i c c at) (pins_fine library netlist sound i c (slice_get_within (pins library netlist) i c at))

pub same_length : {A B C : Type 0} (f : A → C) (g : B → C) (xs : List A) (ys : List B) → map f xs ≡ map g ys → length xs ≡ length ys
same_length f g xs ys same = sym (length-map xs f) ∙ (ap length same ∙ length-map ys g)
