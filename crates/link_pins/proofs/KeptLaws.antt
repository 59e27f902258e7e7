-- The related pins that are kept for the pins of a cell, one pin after another.
use Rattle.std.proofs.Common.{◌≡◌, ◌≢◌, ℕ, zero, suc, ◌+◌, ◌<◌, ◌≤◌, Bool, true, false, cond, List, [], ◌∷◌, ◌++◌, length, map, take, set, get_or, Some, refl, ap, sym, ◌∙◌, subst, arith, inl, inr, ◌⊎◌}
use Rattle.std.specs.Prelude.{Option, None, IsSome, Result, Ok, Err, IfOk, is_some, flat_map, filter_map, option_and_then}
use Rattle.std.specs.List.{slice_get}
use Rattle.std.specs.Option.{IsSomeAnd}
use Rattle.std.proofs.lemmas.List.{append-nil, length_push}
use Rattle.std.proofs.lemmas.Bool.{eq-eqb, ne_eqb}
use Rattle.std.proofs.lemmas.List.Sums.{sum_by-set}
use Rattle.std.proofs.lemmas.Option.{none-some, same_Some, slice_get_within, slice_get-get_or, get_or_from_slice_get}
use Rattle.liberty_cells.specs.declared.cell.Cell.{Cell}
use Rattle.liberty_cells.specs.declared.library.Library.{Library}
use Rattle.liberty_cells.specs.declared.pin.Role.{Role}
use Rattle.liberty_cells.specs.declared.timing.Timing.{Timing}
use Rattle.liberty_cells.specs.Firsts.{IsFirst}
use Rattle.liberty_cells.specs.Pins.{PinParts}
use Rattle.verilog_net.specs.declared.netlist.Netlist.{Netlist}
use Rattle.link_rules.specs.Pins.{Connected}
use Rattle.link_index.specs.Cells.{pin_place}
use Rattle.link_pins.specs.declared.pins.PinOn.{PinOn}
use Rattle.link_pins.specs.declared.related.CellGroups.{CellGroups}
use Rattle.link_pins.specs.declared.related.PinCount.{PinCount}
use Rattle.link_pins.specs.declared.related.PinGroup.{PinGroup}
use Rattle.link_pins.specs.Related.{effect, group_related, counted, IsIndexed, IsGroup, AreGroups, AreAllGroups, group_numbered, number_at, group_at, AreKept}
use Rattle.link_pins.specs.Timed.{TimedPlace, with_timing}
use Rattle.link_pins.specs.Seen.{pin_at, connected_at}
use Rattle.link_pins.proofs.TimingLaws.{flat_more}
use Rattle.link_pins.proofs.PinLaws.{element_at, some_is, parts_of}
use Rattle.link_pins.proofs.PlaceLaws.{pin_parts}

-- what is at a place once an item more is there
pub pushed_at : {X : Type 0} (ys : List X) (y z : X) (k : ℕ) → slice_get (ys ++ y ∷ []) k ≡ Some z
    → ((k < length ys) × (slice_get ys k ≡ Some z)) ⊎ ((k ≡ length ys) × (y ≡ z))
pushed_at [] y z zero h = inr (refl, same_Some y z h)
pushed_at [] y z (suc k) h = absurd (none-some z h)
pushed_at (x ∷ ys) y z zero h = inl (omega arith, h)
pushed_at (x ∷ ys) y z (suc k) h = elim (pushed_at ys y z k h) [
  | inl e ↦ inl (omega (arith, e.0), e.1)
  | inr e ↦ inr (omega (arith, e.0), e.1)
]

-- what is read at a place is what is there
pub read_there : {X : Type 0} (xs : List X) (i : ℕ) (d x : X) → i < length xs → x ≡ get_or xs i d → slice_get xs i ≡ Some x
read_there xs i d x h e = slice_get-get_or xs i d h ∙ ap Some (sym e)

-- ---- the related pins of one pin

-- a timing group more
pub group_more : (c : Cell) (role : Role) (ts : List Timing) (i : ℕ) (t : Timing) (cur new : List TimedPlace) → i < length ts → t ≡ get_or ts i t
    → cur ≡ flat_map (group_related c role) (take i ts) → new ≡ cur ++ group_related c role t → new ≡ flat_map (group_related c role) (take (i + 1) ts)
group_more c role ts i t cur new lt is so_far step =
    flat_more (group_related c role) ts i t [] cur new lt so_far (step ∙ ap (λ x. cur ++ group_related c role x) is)

pub with_effect : (c : Cell) (role : Role) (t : Timing) (count : ℕ) (cur new : List TimedPlace) → count ≡ effect role t → count ≢ 0
    → new ≡ cur ++ map (with_timing t) (filter_map (pin_place c) t.related) → new ≡ cur ++ group_related c role t
with_effect c role t count cur new is some step =
    step ∙ ap (λ b. cur ++ cond b [] (map (with_timing t) (filter_map (pin_place c) t.related))) (sym (ne_eqb (effect role t) 0 (λ e. some (is ∙ e))))

pub without_effect : (c : Cell) (role : Role) (t : Timing) (count : ℕ) (cur : List TimedPlace) → count ≡ effect role t → count ≡ 0 → cur ≡ cur ++ group_related c role t
without_effect c role t count cur is none =
    sym (append-nil cur) ∙ ap (λ b. cur ++ cond b [] (map (with_timing t) (filter_map (pin_place c) t.related))) (sym (eq-eqb (effect role t) 0 (sym is ∙ none)))

-- ---- counts by pins

-- another count of a pin, or a first one
pub count_more : (g : ℕ → Bool) (old : List PinCount) (place : ℕ) (u y : PinCount) (more : ℕ) → slice_get old place ≡ Some u → u.pin ≡ y.pin → y.count ≡ u.count + more
    → counted g (set old place y) ≡ counted g old + cond (g y.pin) more 0
count_more g old place u y more at pin count =
    let f : PinCount → ℕ = λ v. cond (g v.pin) v.count 0 in
    let there : get_or old place u ≡ u = get_or_from_slice_get old place u u at in
    omega (arith, sum_by-set f old place y u (slice_get_within old place u at), ap f there, ap (λ n. cond (g n) u.count 0) pin, ap (λ n. cond (g y.pin) n 0) count, by (g y.pin))
  where
    by : (b : Bool) → cond b (u.count + more) 0 ≡ cond b u.count 0 + cond b more 0
    by true = refl
    by false = refl

-- a fact of what is there, where something is
pub to_some_and : {X : Type 0} (o : Option X) (P : X → Type 0) (x : X) → o ≡ Some x → P x → IsSomeAnd o P
to_some_and o P x e h = rw e h

-- a fact of a result, from another
pub with_ok : {X E : Type 0} (r : Result X E) (P Q : X → Type 0) → ((x : X) → P x → Q x) → IfOk r P → IfOk r Q
with_ok (Ok x) P Q f h = f x h
with_ok (Err e) P Q f h = h

-- ---- the groups of the pins of a cell

module _ (c : Cell) (old new : CellGroups) (are : AreGroups c old) (place : ℕ) (count : length old.of.items ≡ place) where
  -- a pin with the group of one that is alike
  pub same_group : (first n : ℕ) → first < place → place < length c.pins → IsFirst c.pins place first → slice_get old.of.items first ≡ Some n
      → new.groups.items ≡ old.groups.items → new.of.items ≡ old.of.items ++ n ∷ [] → AreGroups c new
  same_group first n less within is there groups push =
      let f = element_at c.pins first (omega (arith, less, within)) in
      record {
        within = λ k m h. elim (pushed_at old.of.items n m k (ap (λ (l : List ℕ). slice_get l k) (sym push) ∙ h)) [
          | inl e ↦ omega (arith, are.within k m e.1, ap length groups)
          | inr e ↦ omega (arith, are.within first n there, e.1, ap length groups)
        ];
        each = λ k p m v pin h at.
            let here : slice_get old.groups.items m ≡ Some v = ap (λ (l : List PinGroup). slice_get l m) (sym groups) ∙ at in
            elim (pushed_at old.of.items n m k (ap (λ (l : List ℕ). slice_get l k) (sym push) ∙ h)) [
              | inl e ↦ are.each k p m v pin e.1 here
              | inr e ↦
                  let own : slice_get c.pins place ≡ Some p = ap (slice_get c.pins) (sym count ∙ sym e.0) ∙ pin in
                  let alike = is.alike f.0 p f.1 own in
                  let firsts : IsGroup c f.0 v = are.each first f.0 m v f.1 (there ∙ ap Some e.1) here in
                  subst (λ (x : PinParts). IsGroup c x v) (sym alike) (record { related = firsts.related; counts = firsts.counts; index = firsts.index })
            ];
      }

  -- a pin with a group of its own
  pub own_group : (p : PinParts) (v : PinGroup) → slice_get c.pins place ≡ Some p → IsGroup c p v
      → new.groups.items ≡ old.groups.items ++ v ∷ [] → new.of.items ≡ old.of.items ++ length old.groups.items ∷ [] → AreGroups c new
  own_group p v there related groups push =
      let more : length new.groups.items ≡ length old.groups.items + 1 = ap length groups ∙ length_push old.groups.items v in
      record {
        within = λ k m h. elim (pushed_at old.of.items (length old.groups.items) m k (ap (λ (l : List ℕ). slice_get l k) (sym push) ∙ h)) [
          | inl e ↦ omega (arith, are.within k m e.1, more)
          | inr e ↦ omega (arith, e.1, more)
        ];
        each = λ k q m w pin h at.
            let here = pushed_at old.groups.items v w m (ap (λ (l : List PinGroup). slice_get l m) (sym groups) ∙ at) in
            elim (pushed_at old.of.items (length old.groups.items) m k (ap (λ (l : List ℕ). slice_get l k) (sym push) ∙ h)) [
              | inl e ↦
                  elim here [
                    | inl u ↦ are.each k q m w pin e.1 u.1
                    | inr u ↦ absurd (omega (arith, u.0, are.within k m e.1))
                  ]
              | inr e ↦
                  elim here [
                    | inl u ↦ absurd (omega (arith, u.0, e.1))
                    | inr u ↦
                        let own : slice_get c.pins place ≡ Some q = ap (slice_get c.pins) (sym count ∙ sym e.0) ∙ pin in
                        subst (λ (x : PinParts). IsGroup c x w) (same_Some p q (sym there ∙ own)) (subst (λ (x : PinGroup). IsGroup c p x) u.1 related)
                  ]
            ];
      }

pub no_groups : (c : Cell) (g : CellGroups) → g.groups.items ≡ [] → g.of.items ≡ [] → AreGroups c g
no_groups c g groups of = record {
  within = λ k n h. absurd (none-some n (sym (ap (λ (l : List ℕ). slice_get l k) of) ∙ h));
  each = λ k p n v pin h at. absurd (none-some n (sym (ap (λ (l : List ℕ). slice_get l k) of) ∙ h));
}

-- ---- the pins of all cells

-- the cells so far
abbrev pub AreSoFar : Library → List CellGroups → Type 0
AreSoFar library made = (i : ℕ) (c : Cell) (g : CellGroups) → slice_get library.cells i ≡ Some c → slice_get made i ≡ Some g → AreAllGroups c g

pub cell_more : (library : Library) (old new : List CellGroups) (g : CellGroups) → ((c : Cell) → slice_get library.cells (length old) ≡ Some c → AreAllGroups c g)
    → new ≡ old ++ g ∷ [] → AreSoFar library old → AreSoFar library new
cell_more library old new g is push all i c h there at = elim (pushed_at old g h i (ap (λ (l : List CellGroups). slice_get l i) (sym push) ∙ at)) [
  | inl e ↦ all i c h there e.1
  | inr e ↦ subst (λ (x : CellGroups). AreAllGroups c x) e.1 (is c (ap (slice_get library.cells) (sym e.0) ∙ there))
]

-- where the group of a pin is kept
pub record KeptAt (cells : List CellGroups) (p : PinOn) (v : PinGroup) : Type 0 where
  pub cell : CellGroups
  pub at_cell : slice_get cells p.cell ≡ Some cell
  pub number : ℕ
  pub at_pin : slice_get cell.of.items p.pin ≡ Some number
  pub at_group : slice_get cell.groups.items number ≡ Some v

pub kept_at : (cells : List CellGroups) (p : PinOn) (v : PinGroup) → group_at cells p ≡ Some v → KeptAt cells p v
kept_at cells p v h = by_cell (slice_get cells p.cell) refl h
  where
    by_pin : (g : CellGroups) → slice_get cells p.cell ≡ Some g → (o : Option ℕ) → slice_get g.of.items p.pin ≡ o
        → option_and_then (λ (n : ℕ). slice_get g.groups.items n) o ≡ Some v → KeptAt cells p v
    by_pin g a None e k = absurd (none-some v k)
    by_pin g a (Some n) e k = record { cell = g; at_cell = a; number = n; at_pin = e; at_group = k }

    by_cell : (o : Option CellGroups) → slice_get cells p.cell ≡ o
        → option_and_then (λ (g : CellGroups). option_and_then (λ (n : ℕ). slice_get g.groups.items n) (slice_get g.of.items p.pin)) o ≡ Some v → KeptAt cells p v
    by_cell None e k = absurd (none-some v k)
    by_cell (Some g) e k = by_pin g e (slice_get g.of.items p.pin) refl k

-- it is the group of the pin's number
pub numbered_is : (cells : List CellGroups) (p : PinOn) (v : PinGroup) (n : ℕ) → group_at cells p ≡ Some v → number_at cells p ≡ Some n → group_numbered cells p.cell n ≡ Some v
numbered_is cells p v n h m =
    let k = kept_at cells p v h in
    let own : number_at cells p ≡ Some k.number = ap (option_and_then (λ (g : CellGroups). slice_get g.of.items p.pin)) k.at_cell ∙ k.at_pin in
    let same : k.number ≡ n = same_Some k.number n (sym own ∙ m) in
    ap (group_numbered cells p.cell) (sym same) ∙ (ap (option_and_then (λ (g : CellGroups). slice_get g.groups.items k.number)) k.at_cell ∙ k.at_group)

pub all_kept : (library : Library) (made : List CellGroups) → length library.cells ≤ length made → AreSoFar library made → AreKept library made
all_kept library made count all = record {
  there = λ p h.
      let q = some_is (pin_at library p) h in
      let y = pin_parts library p q.0 q.1 in
      let g = element_at made p.cell (omega (arith, slice_get_within library.cells p.cell y.0 y.1, count)) in
      let are = all p.cell y.0 g.0 y.1 g.1 in
      let n = element_at g.0.of.items p.pin (omega (arith, slice_get_within y.0.pins p.pin q.0 y.2, are.count)) in
      let v = element_at g.0.groups.items n.0 (are.groups.within p.pin n.0 n.1) in
      let is : group_at made p ≡ Some v.0 =
      ap (option_and_then (λ (x : CellGroups). option_and_then (λ (m : ℕ). slice_get x.groups.items m) (slice_get x.of.items p.pin))) g.1
      ∙ (ap (option_and_then (λ (m : ℕ). slice_get g.0.groups.items m)) n.1 ∙ v.1) in
      ap is_some is;
  each = λ p c q v there pin h.
      let y = pin_parts library p q pin in
      let k = kept_at made p v h in
      let same : y.0 ≡ c = same_Some y.0 c (sym y.1 ∙ there) in
      let here : slice_get c.pins p.pin ≡ Some q = subst (λ (x : Cell). slice_get x.pins p.pin ≡ Some q) same y.2 in
      (all p.cell c k.cell there k.at_cell).groups.each p.pin q k.number v here k.at_pin k.at_group;
}

-- what is kept of a pin is found by place
pub index_for : (library : Library) (cells : List CellGroups) → AreKept library cells → (p : PinOn) → IsSome (pin_at library p) → (v : PinGroup) → group_at cells p ≡ Some v → IsIndexed v
index_for library cells kept p there v e =
    let q = some_is (pin_at library p) there in
    let y = pin_parts library p q.0 q.1 in
    (kept.each p y.0 q.0 v y.1 q.1 e).index

-- the group of a pin of an instance
pub group_for : (library : Library) (cells : List CellGroups) → AreKept library cells → (netlist : Netlist) (p : PinOn) (d : Connected) → connected_at library netlist p ≡ Some d
    → (v : PinGroup) → group_at cells p ≡ Some v → (c : Cell) × (slice_get library.cells p.cell ≡ Some c) × IsGroup c d.pin v
group_for library cells kept netlist p d h v e =
    let x = parts_of library netlist p d h in
    let y = pin_parts library p d.pin x.pin in
    (y.0, y.1, kept.each p y.0 d.pin v y.1 x.pin e)
