-- The pins of one instance, entered by their places in its cell.
use Rattle.std.proofs.Common.{◌≡◌, ◌≢◌, ℕ, zero, suc, ◌+◌, ◌<◌, ◌≤◌, ◌==◌, ◌&&◌, Bool, true, false, cond, List, [], ◌∷◌, length, take, set, Some, refl, sym, ap, ◌∙◌, subst, arith, inl, inr, ◌⊎◌}
use Rattle.std.specs.Prelude.{Option, None, IsSome, find, position, filter, is_none, bytes_eq, option_and_then}
use Rattle.std.specs.List.{All, slice_get, slice_index, slice_index_or, position_from}
use Rattle.std.proofs.lemmas.Bool.{cases_eq, eq-eqb, ne_eqb, false≢true}
use Rattle.std.proofs.lemmas.List.{get_or-set_same, get_or-set_other, length-set}
use Rattle.std.proofs.lemmas.Option.{none-some, same_Some, slice_get_within, get_or_from_slice_get}
use Rattle.std.proofs.lemmas.Slice.Eq.{bytes_eq-Decides}
use Rattle.name_numbers.specs.Names.{Text}
use Rattle.liberty_cells.specs.declared.cell.Cell.{Cell}
use Rattle.liberty_cells.specs.declared.library.Library.{Library}
use Rattle.liberty_cells.specs.Pins.{PinParts}
use Rattle.verilog_net.specs.declared.netlist.Netlist.{Netlist}
use Rattle.link_rules.specs.Arcs.{is_input_pin, sink_at}
use Rattle.link_rules.specs.Pins.{Connected, is_input, pins, inputs_on}
use Rattle.link_index.specs.Cells.{pin_place}
use Rattle.link_index.proofs.BitLaws.{position_is}
use Rattle.link_pins.specs.declared.arcs.SinkAt.{SinkAt}
use Rattle.link_pins.specs.declared.pins.PinOn.{PinOn}
use Rattle.link_pins.specs.Places.{place_of, entered, has_input_role, with_pin, IsEntry, AreEntries, AreEntered, AreThose, IsClear, HasRoom, IsPlaced}
use Rattle.link_pins.specs.Rows.{inputs_in, ArePlaces}
use Rattle.link_pins.specs.Seen.{ArePins, pin_at, connected_at}
use Rattle.link_pins.proofs.PinLaws.{element_at, find_some, parts_of, some_is, passes}
use Rattle.link_pins.proofs.DriverLaws.{paired_at, same_length}

-- ---- searches

find_no : {A : Type 0} (p : A → Bool) (xs : List A) → ((j : ℕ) (y : A) → slice_get xs j ≡ Some y → p y ≡ false) → find p xs ≡ None
find_no p [] h = refl
find_no p (x ∷ xs) h = ap (λ b. cond b (Some x) (find p xs)) (h zero x refl) ∙ find_no p xs (λ j y at. h (suc j) y at)

find_first : {A : Type 0} (p : A → Bool) (xs : List A) (i : ℕ) (x : A) → slice_get xs i ≡ Some x → p x ≡ true
    → ((j : ℕ) (y : A) → j < i → slice_get xs j ≡ Some y → p y ≡ false) → find p xs ≡ Some x
find_first p [] i x at holds fails = absurd (omega (arith, slice_get_within [] i x at))
find_first p (y ∷ ys) zero x at holds fails =
    let same : y ≡ x = same_Some y x at in
    ap (λ b. cond b (Some y) (find p ys)) (ap p same ∙ holds) ∙ ap Some same
find_first p (y ∷ ys) (suc i) x at holds fails =
    ap (λ b. cond b (Some y) (find p ys)) (fails zero y (omega arith) refl) ∙ find_first p ys i x at holds (λ j z lt h. fails (suc j) z (omega arith) h)

-- where the first that passes stands among those that pass another test
from_filtered : {A : Type 0} (p q : A → Bool) (n : ℕ) (xs : List A) (i : ℕ) (x : A) → slice_get xs i ≡ Some x → p x ≡ true → q x ≡ true
    → ((j : ℕ) (y : A) → j < i → slice_get xs j ≡ Some y → p y ≡ false) → position_from p n (filter q xs) ≡ Some (n + length (filter q (take i xs)))
from_filtered p q n [] i x at px qx fails = absurd (omega (arith, slice_get_within [] i x at))
from_filtered p q n (y ∷ ys) zero x at px qx fails =
    let same : y ≡ x = same_Some y x at in
    ap (λ b. position_from p n (cond b (y ∷ filter q ys) (filter q ys))) (ap q same ∙ qx)
    ∙ (ap (λ b. cond b (Some n) (position_from p (n + 1) (filter q ys))) (ap p same ∙ px) ∙ ap Some (omega arith))
from_filtered {A} p q n (y ∷ ys) (suc i) x at px qx fails =
    by (q y)
    (from_filtered p q (n + 1) ys i x at px qx (λ j z lt h. fails (suc j) z (omega arith) h))
    (from_filtered p q n ys i x at px qx (λ j z lt h. fails (suc j) z (omega arith) h))
  where
    by : (b : Bool) → position_from p (n + 1) (filter q ys) ≡ Some (n + 1 + length (filter q (take i ys))) → position_from p n (filter q ys) ≡ Some (n + length (filter q (take i ys))) → position_from p n (cond b (y ∷ filter q ys) (filter q ys)) ≡ Some (n + length (cond b (y ∷ filter q (take i ys)) (filter q (take i ys))))
    by true next same =
        ap (λ b. cond b (Some n) (position_from p (n + 1) (filter q ys))) (fails zero y (omega arith) refl) ∙ (next ∙ ap Some (omega arith))
    by false next same = same

all_three : (a b c : Bool) → (a && b && c) ≡ true → (a ≡ true) × (b ≡ true) × (c ≡ true)
all_three true true true h = (refl, refl, refl)
all_three true true false h = absurd (false≢true h)
all_three true false c h = absurd (false≢true h)
all_three false b c h = absurd (false≢true h)

three : (a b c : Bool) → a ≡ true → b ≡ true → c ≡ true → (a && b && c) ≡ true
three true true true x y z = refl
three true true false x y z = absurd (false≢true z)
three true false c x y z = absurd (false≢true y)
three false b c x y z = absurd (false≢true x)

two : (a b : Bool) → a ≡ true → b ≡ true → (a && b) ≡ true
two true true x y = refl
two true false x y = absurd (false≢true y)
two false b x y = absurd (false≢true x)

pub same_number : (a b : ℕ) → (a == b) ≡ true → a ≡ b
same_number a b h = elim (cases_eq a b) [
  | inl same ↦ same
  | inr other ↦ absurd (false≢true (sym (ne_eqb a b other) ∙ h))
]

-- ---- what is entered

module _ (library : Library) (ps : List PinOn) (places : List ℕ) (from k : ℕ) (p : PinOn) (at : slice_get ps k ≡ Some p) (le : from ≤ k) where
  -- what stands at a place stays there once another pin is looked at
  grow : (m : ℕ) (o : Option SinkAt) → IsEntry library ps places from k m o → (o ≡ None → p.pin ≡ m → has_input_role (pin_at library p) ≡ false)
      → IsEntry library ps places from (k + 1) m o
  grow m None e h = λ i q least lt there pin. elim (cases_eq i k) [
    | inl same ↦
        let here : slice_get ps k ≡ Some q = ap (slice_get ps) (sym same) ∙ there in
        let one : p ≡ q = same_Some p q (sym at ∙ here) in
        ap (λ (x : PinOn). has_input_role (pin_at library x)) (sym one) ∙ h refl (ap (λ (x : PinOn). x.pin) one ∙ pin)
    | inr other ↦ e i q least (omega arith) there pin
  ]
  grow m (Some s) e h = (e.0, e.1, omega (arith, e.2), e.3, e.4)

  -- a pin more
  pub entry_more : (xs : List (Option SinkAt)) → p.pin < length xs → AreEntries library ps places from k xs
      → AreEntries library ps places from (k + 1) (with_pin library p (slice_index places k) xs)
  entry_more xs lt are m = by (has_input_role (pin_at library p)) refl (slice_index_or xs p.pin None) refl
    where
      by : (b : Bool) → has_input_role (pin_at library p) ≡ b → (o : Option SinkAt) → slice_index_or xs p.pin None ≡ o
          → IsEntry library ps places from (k + 1) m (slice_index_or (cond (b && is_none o) (set xs p.pin (Some (record { net = p.net; sink = slice_index places k }))) xs) m None)
      by false e o is = grow m (slice_index_or xs m None) (are m) (λ none same. e)
      by true e (Some s) is =
          grow m (slice_index_or xs m None) (are m)
          (λ none same. absurd (none-some s (sym none ∙ (ap (λ n. slice_index_or xs n None) (sym same) ∙ is))))
      by true e None is = elim (cases_eq m p.pin) [
        | inl same ↦
            let before : IsEntry library ps places from k p.pin None = subst (IsEntry library ps places from k p.pin) is (are p.pin) in
            let here : IsEntry library ps places from (k + 1) p.pin (Some (record { net = p.net; sink = slice_index places k })) =
            (k, p, omega arith, record { least = le; at = at; pin = refl; input = e; first = λ j q least less there pin. before j q least less there pin }, refl) in
            let there : IsEntry library ps places from (k + 1) p.pin (slice_index_or (set xs p.pin (Some (record { net = p.net; sink = slice_index places k }))) p.pin None) =
            subst (IsEntry library ps places from (k + 1) p.pin) (sym (get_or-set_same xs p.pin (Some (record { net = p.net; sink = slice_index places k })) None lt)) here in
            subst (λ (n : ℕ). IsEntry library ps places from (k + 1) n (slice_index_or (set xs p.pin (Some (record { net = p.net; sink = slice_index places k }))) n None)) (sym same) there
        | inr other ↦
            subst (IsEntry library ps places from (k + 1) m) (sym (get_or-set_other xs p.pin m (Some (record { net = p.net; sink = slice_index places k })) None other))
            (grow m (slice_index_or xs m None) (are m) (λ none same. absurd (other (sym same))))
      ]

pub no_entries : (library : Library) (ps : List PinOn) (places : List ℕ) (from : ℕ) (xs : List (Option SinkAt)) → IsClear xs → AreEntries library ps places from from xs
no_entries library ps places from xs clear k =
    subst (IsEntry library ps places from from k) (sym (clear k)) (λ i p least lt there pin. absurd (omega arith))

pub those_entered : (library : Library) (ps : List PinOn) (places : List ℕ) (from to : ℕ) (xs : List (Option SinkAt)) → AreEntries library ps places from to xs → AreThose ps from to xs
those_entered library ps places from to xs are k = by (slice_index_or xs k None) (are k)
  where
    by : (o : Option SinkAt) → IsEntry library ps places from to k o
        → (o ≡ None) ⊎ ((i : ℕ) × (p : PinOn) × (from ≤ i) × (i < to) × (slice_get ps i ≡ Some p) × (p.pin ≡ k))
    by None e = inl refl
    by (Some s) e = inr (e.0, e.1, e.3.least, e.2, e.3.at, e.3.pin)

pub those_less : (ps : List PinOn) (k to : ℕ) (p : PinOn) (xs : List (Option SinkAt)) → slice_get ps k ≡ Some p → p.pin < length xs → AreThose ps k to xs
    → AreThose ps (k + 1) to (set xs p.pin None)
those_less ps k to p xs at lt are m = elim (cases_eq m p.pin) [
  | inl same ↦ inl (ap (λ n. slice_index_or (set xs p.pin None) n None) same ∙ get_or-set_same xs p.pin None None lt)
  | inr other ↦ by other (are m)
]
  where
    by : m ≢ p.pin → (slice_index_or xs m None ≡ None) ⊎ ((i : ℕ) × (q : PinOn) × (k ≤ i) × (i < to) × (slice_get ps i ≡ Some q) × (q.pin ≡ m))
        → (slice_index_or (set xs p.pin None) m None ≡ None) ⊎ ((i : ℕ) × (q : PinOn) × (k + 1 ≤ i) × (i < to) × (slice_get ps i ≡ Some q) × (q.pin ≡ m))
    by other (inl none) = inl (get_or-set_other xs p.pin m None None other ∙ none)
    by other (inr e) = elim (cases_eq e.0 k) [
      | inl same ↦
          let here : slice_get ps k ≡ Some e.1 = ap (slice_get ps) (sym same) ∙ e.4 in
          let one : p ≡ e.1 = same_Some p e.1 (sym at ∙ here) in
          absurd (other (sym (ap (λ (x : PinOn). x.pin) one ∙ e.5)))
      | inr differ ↦ inr (e.0, e.1, omega (arith, e.2), e.3, e.4, e.5)
    ]

pub all_clear : (ps : List PinOn) (k to : ℕ) (xs : List (Option SinkAt)) → to ≤ k → AreThose ps k to xs → IsClear xs
all_clear ps k to xs past are m = elim (are m) [
  | inl none ↦ none
  | inr e ↦ absurd (omega (arith, e.2, e.3))
]

pub pin_parts : (library : Library) (p : PinOn) (q : PinParts) → pin_at library p ≡ Some q
    → (c : Cell) × (slice_get library.cells p.cell ≡ Some c) × (slice_get c.pins p.pin ≡ Some q)
pin_parts library p q h = by (slice_get library.cells p.cell) refl h
  where
    by : (o : Option Cell) → slice_get library.cells p.cell ≡ o → option_and_then (λ (cell : Cell). slice_get cell.pins p.pin) o ≡ Some q
        → (c : Cell) × (slice_get library.cells p.cell ≡ Some c) × (slice_get c.pins p.pin ≡ Some q)
    by None e k = absurd (none-some q k)
    by (Some c) e k = (c, e, k)

-- there is room for a pin of the library
pub pin_inside : (library : Library) (at : List (Option SinkAt)) (p : PinOn) → IsSome (pin_at library p) → HasRoom library at → p.pin < length at
pin_inside library at p h room =
    let q = some_is (pin_at library p) h in
    let c = pin_parts library p q.0 q.1 in
    let most = room p.cell c.0 (slice_get_within library.cells p.cell c.0 c.1) in
    let is = ap (λ (x : Cell). length x.pins) (get_or_from_slice_get library.cells p.cell c.0 c.0 c.1) in
    omega (arith, most, is, slice_get_within c.0.pins p.pin q.0 c.2)

pub same_room : (library : Library) (p : PinOn) (place : ℕ) (xs : List (Option SinkAt)) → length (with_pin library p place xs) ≡ length xs
same_room library p place xs = by (has_input_role (pin_at library p) && is_none (slice_index_or xs p.pin None))
  where
    by : (b : Bool) → length (cond b (set xs p.pin (Some (record { net = p.net; sink = place }))) xs) ≡ length xs
    by true = length-set xs p.pin (Some (record { net = p.net; sink = place }))
    by false = refl

-- ---- what is entered is where the pins are sinks

module _ (library : Library) (netlist : Netlist) (instance : ℕ) (name : Text) where
  sink_found : (i : ℕ) (c : Connected) → slice_get (pins library netlist) i ≡ Some c → is_input_pin library netlist instance name c ≡ true
      → ((j : ℕ) (d : Connected) → j < i → slice_get (pins library netlist) j ≡ Some d → is_input_pin library netlist instance name d ≡ false)
      → sink_at library netlist instance name ≡ Some (c.net, length (inputs_in c.net (take i (pins library netlist))))
  unfolding sink_at
  sink_found i c at holds fails =
      let parts = all_three (c.instance == instance) (bytes_eq name c.pin.name) (is_input c.pin.role) holds in
      let on : (is_input c.pin.role && c.net == c.net) ≡ true = two (is_input c.pin.role) (c.net == c.net) parts.2 (eq-eqb c.net c.net refl) in
      let found : find (is_input_pin library netlist instance name) (pins library netlist) ≡ Some c = find_first (is_input_pin library netlist instance name) (pins library netlist) i c at holds fails in
      let stands : position (is_input_pin library netlist instance name) (inputs_on library netlist c.net) ≡ Some (length (inputs_in c.net (take i (pins library netlist)))) =
      position_is (is_input_pin library netlist instance name) (inputs_on library netlist c.net)
      ∙ (from_filtered (is_input_pin library netlist instance name) (λ d. is_input d.pin.role && d.net == c.net) 0 (pins library netlist) i c at holds on fails ∙ ap Some (omega arith)) in
      ap (option_and_then (λ (d : Connected). option_and_then (λ (k : ℕ). Some (d.net, k)) (position (is_input_pin library netlist instance name) (inputs_on library netlist d.net)))) found
      ∙ ap (option_and_then (λ (k : ℕ). Some (c.net, k))) stands

  sink_not_found : ((j : ℕ) (d : Connected) → slice_get (pins library netlist) j ≡ Some d → is_input_pin library netlist instance name d ≡ false)
      → sink_at library netlist instance name ≡ None
  unfolding sink_at
  sink_not_found fails =
      ap (option_and_then (λ (d : Connected). option_and_then (λ (k : ℕ). Some (d.net, k)) (position (is_input_pin library netlist instance name) (inputs_on library netlist d.net))))
      (find_no (is_input_pin library netlist instance name) (pins library netlist) fails)

not_true : (b : Bool) → (b ≡ true → ⊥) → b ≡ false
not_true true h = absurd (h refl)
not_true false h = refl

module _ (library : Library) (netlist : Netlist) (ps : List PinOn) (are : ArePins library netlist ps) (placed : All (IsPlaced library netlist) ps) where
  pub pin_back : (i : ℕ) (c : Connected) → slice_get (pins library netlist) i ≡ Some c → (p : PinOn) × (slice_get ps i ≡ Some p) × (connected_at library netlist p ≡ Some c)
  pin_back i c h =
      let len : length ps ≡ length (pins library netlist) = same_length (connected_at library netlist) (λ (x : Connected). Some x) ps (pins library netlist) are in
      let lt : i < length ps = omega (arith, len, slice_get_within (pins library netlist) i c h) in
      let p = element_at ps i lt in
      let y = paired_at (connected_at library netlist) ps (pins library netlist) i p.0 are p.1 in
      (p.0, p.1, y.2 ∙ ap Some (same_Some y.0 c (sym y.1 ∙ h)))

  placed_at : (i : ℕ) (p : PinOn) → slice_get ps i ≡ Some p → IsPlaced library netlist p
  placed_at i p h = subst (IsPlaced library netlist) (get_or_from_slice_get ps i p p h) (placed i p (slice_get_within ps i p h))

  -- two pins of one instance have one cell
  pub same_cell : (i j : ℕ) (p q : PinOn) (c d : Connected) → slice_get ps i ≡ Some p → slice_get ps j ≡ Some q → connected_at library netlist p ≡ Some c
      → connected_at library netlist q ≡ Some d → p.instance ≡ q.instance → p.cell ≡ q.cell
  same_cell i j p q c d a b e f same =
      let x = parts_of library netlist p c e in
      let y = parts_of library netlist q d f in
      let there : slice_get netlist.instances p.instance ≡ Some y.instance = ap (slice_get netlist.instances) same ∙ y.at in
      same_Some p.cell q.cell (sym ((placed_at i p a).cell y.instance there) ∙ (placed_at j q b).cell y.instance y.at)

  module _ (from to : ℕ) (first : PinOn) (f : Connected) (begins : slice_get ps from ≡ Some first) (is : connected_at library netlist first ≡ Some f)
      (own : (i : ℕ) (c : Connected) → slice_get (pins library netlist) i ≡ Some c → c.instance ≡ first.instance → (from ≤ i) × (i < to))
      (same : (i : ℕ) (q : PinOn) → from ≤ i → i < to → slice_get ps i ≡ Some q → q.instance ≡ first.instance) (cell : Cell) (there : slice_get library.cells first.cell ≡ Some cell) where
    record Matches (name : Text) (i : ℕ) : Type 0 where
      least : from ≤ i
      most : i < to
      pin : PinOn
      at : slice_get ps i ≡ Some pin
      place : pin_place cell name ≡ Some pin.pin
      input : has_input_role (pin_at library pin) ≡ true

    matches : (name : Text) (i : ℕ) (c : Connected) → slice_get (pins library netlist) i ≡ Some c → is_input_pin library netlist first.instance name c ≡ true → Matches name i
    matches name i c at holds =
        let parts = all_three (c.instance == first.instance) (bytes_eq name c.pin.name) (is_input c.pin.role) holds in
        let within = own i c at (same_number c.instance first.instance parts.0) in
        let p = pin_back i c at in
        let x = parts_of library netlist p.0 c p.2 in
        let on : p.0.cell ≡ first.cell = same_cell i from p.0 first c f p.1 begins p.2 is (same i p.0 within.0 within.1 p.1) in
        let q = pin_parts library p.0 c.pin x.pin in
        let here : slice_get library.cells p.0.cell ≡ Some cell = ap (slice_get library.cells) on ∙ there in
        let one : q.0 ≡ cell = same_Some q.0 cell (sym q.1 ∙ here) in
        let stands : slice_get cell.pins p.0.pin ≡ Some c.pin = subst (λ (k : Cell). slice_get k.pins p.0.pin ≡ Some c.pin) one q.2 in
        let named : name ≡ c.pin.name = (bytes_eq-Decides name c.pin.name).0 parts.1 in
        record {
          least = within.0;
          most = within.1;
          pin = p.0;
          at = p.1;
          place = ap (pin_place cell) named ∙ (placed_at i p.0 p.1).pin cell c.pin here stands;
          input = ap has_input_role x.pin ∙ parts.2;
        }

    -- a pin at the place of a name has that name
    has_name : (name : Text) (i k : ℕ) (p : PinOn) (c : Connected) → slice_get ps i ≡ Some p → connected_at library netlist p ≡ Some c → from ≤ i → i < to → p.pin ≡ k
        → pin_place cell name ≡ Some k → has_input_role (pin_at library p) ≡ true → is_input_pin library netlist first.instance name c ≡ true
    has_name name i k p c at e least most pin place input =
        let x = parts_of library netlist p c e in
        let on : p.cell ≡ first.cell = same_cell i from p first c f at begins e is (same i p least most at) in
        let q = pin_parts library p c.pin x.pin in
        let here : slice_get library.cells p.cell ≡ Some cell = ap (slice_get library.cells) on ∙ there in
        let one : q.0 ≡ cell = same_Some q.0 cell (sym q.1 ∙ here) in
        let stands : slice_get cell.pins p.pin ≡ Some c.pin = subst (λ (j : Cell). slice_get j.pins p.pin ≡ Some c.pin) one q.2 in
        let found : find (λ r. bytes_eq name r.name) cell.pins ≡ Some c.pin =
        find_some (λ r. bytes_eq name r.name) cell.pins k place ∙ (ap (slice_get cell.pins) (sym pin) ∙ stands) in
        three (c.instance == first.instance) (bytes_eq name c.pin.name) (is_input c.pin.role)
        (eq-eqb c.instance first.instance (x.number ∙ same i p least most at))
        (passes (λ r. bytes_eq name r.name) cell.pins c.pin found)
        (sym (ap has_input_role x.pin) ∙ input)

    module _ (places : List ℕ) (known : ArePlaces (pins library netlist) places) (at : List (Option SinkAt)) (entries : AreEntries library ps places from to at) (name : Text) where
      by_entry : (k : ℕ) → pin_place cell name ≡ Some k → (o : Option SinkAt) → IsEntry library ps places from to k o
          → option_and_then (λ (s : SinkAt). Some (place_of s)) o ≡ sink_at library netlist first.instance name
      by_entry k place None e =
          sym (sink_not_found library netlist first.instance name (λ j d h. not_true (is_input_pin library netlist first.instance name d) (λ holds.
          let m = matches name j d h holds in
          let pin : m.pin.pin ≡ k = same_Some m.pin.pin k (sym m.place ∙ place) in
          absurd (false≢true (sym (e j m.pin m.least m.most m.at pin) ∙ m.input)))))
      by_entry k place (Some s) e =
          let y = paired_at (connected_at library netlist) ps (pins library netlist) e.0 e.1 are e.3.at in
          let holds : is_input_pin library netlist first.instance name y.0 ≡ true = has_name name e.0 k e.1 y.0 e.3.at y.2 e.3.least e.2 e.3.pin place e.3.input in
          let fails : (j : ℕ) (d : Connected) → j < e.0 → slice_get (pins library netlist) j ≡ Some d → is_input_pin library netlist first.instance name d ≡ false =
          λ j d lt h. not_true (is_input_pin library netlist first.instance name d) (λ true_there.
          let m = matches name j d h true_there in
          let pin : m.pin.pin ≡ k = same_Some m.pin.pin k (sym m.place ∙ place) in
          absurd (false≢true (sym (e.3.first j m.pin m.least lt m.at pin) ∙ m.input))) in
          let net : y.0.net ≡ e.1.net = (parts_of library netlist e.1 y.0 y.2).net in
          ap Some e.4
          ∙ (ap (λ (n : ℕ). Some (n, slice_index places e.0)) (sym net)
          ∙ (ap (λ (n : ℕ). Some (y.0.net, n)) (known.each e.0 y.0 y.1) ∙ sym (sink_found library netlist first.instance name e.0 y.0 y.1 holds fails)))

      by_place : (o : Option ℕ) → pin_place cell name ≡ o
          → option_and_then (λ (k : ℕ). option_and_then (λ (s : SinkAt). Some (place_of s)) (slice_index_or at k None)) o ≡ sink_at library netlist first.instance name
      by_place None e =
          sym (sink_not_found library netlist first.instance name (λ j d h. not_true (is_input_pin library netlist first.instance name d) (λ holds.
          let m = matches name j d h holds in
          absurd (none-some m.pin.pin (sym e ∙ m.place)))))
      by_place (Some k) e = by_entry k e (slice_index_or at k None) (entries k)

      one_entered : entered library first.cell at name ≡ sink_at library netlist first.instance name
      one_entered =
          ap (option_and_then (λ (c : Cell). option_and_then (λ (k : ℕ). option_and_then (λ (s : SinkAt). Some (place_of s)) (slice_index_or at k None)) (pin_place c name))) there
          ∙ by_place (pin_place cell name) refl

    -- all names
    pub all_entered : (places : List ℕ) → ArePlaces (pins library netlist) places → (at : List (Option SinkAt)) → AreEntries library ps places from to at
        → AreEntered library netlist first.instance first.cell at
    all_entered places known at entries = record { each = one_entered places known at entries }
