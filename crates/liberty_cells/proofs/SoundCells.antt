-- The tables that the timing groups of a library name are there, and capacitances keep their range.
use Rattle.std.specs.Prelude.{◌≡◌, refl, ℕ, ◌<◌, ◌≤◌, Bool, true, false, List, [], ◌∷◌, ◌++◌, length, map, codes, ℤ, pos, int_le}
use Rattle.std.specs.Prelude.{Option, Some, None, IfSome, Result, Ok, Err, IfOk, if◌then◌else◌}
use Rattle.std.specs.List.{All, AllByRecursion}
use Rattle.std.proofs.Common.{arith}
use Rattle.std.proofs.lemmas.List.{length_push}
use Rattle.std.proofs.lemmas.List.Elements.{All-from_recursion}
use Rattle.name_numbers.specs.Names.{Text}
use Rattle.xt_number.specs.declared.fault.NumberFault.{NumberFault}
use Rattle.xt_number.specs.Value.{fixed}
use Rattle.xt_model.specs.declared.code.Code.TheVariants.{L3, L4}
use Rattle.xt_model.specs.Tables.{TableParts}
use Rattle.liberty_groups.specs.Trees.{Entry, Tree, head_of, groups_of}
use Rattle.liberty_tables.specs.declared.units.Scales.{Scales}
use Rattle.xt_model.specs.Results.{◌>>=◌}
use Rattle.text_forms.specs.Refusals.{Meant, refuse, over}
use Rattle.liberty_tables.specs.Contents.{text_in}
use Rattle.liberty_tables.specs.Search.{attribute, contents, only, groups_named, has_group}
use Rattle.liberty_tables.specs.Templates.{Templates, templates_of, only_name}
use Rattle.liberty_tables.specs.Tables.{table_of}
use Rattle.liberty_tables.specs.Units.{units_of}
use Rattle.liberty_cells.specs.declared.timing.Timing.{Timing}
use Rattle.liberty_cells.specs.declared.timing.TableUse.{TableUse}
use Rattle.liberty_cells.specs.declared.timing.TableUse.TheVariants.{Rise, Fall, RiseSlew, FallSlew}
use Rattle.liberty_cells.specs.declared.pin.Role.{Role}
use Rattle.liberty_cells.specs.declared.cell.Cell.{Cell}
use Rattle.liberty_cells.specs.declared.library.Library.{Library}
use Rattle.liberty_cells.specs.Names.{some_names}
use Rattle.liberty_cells.specs.Kinds.{use_named, is_delay_kind, is_read_kind, role_of}
use Rattle.liberty_cells.specs.Timings.{Numbered, with_table, related_of, add_use, add_table, does_not_fit, read_tables, empty_timing, stands, timing_of, add_timing, timings_of}
use Rattle.liberty_cells.specs.Pins.{PinParts, Pins, cap_at, cap_by, cap_of, pin_named, add_pins}
use Rattle.liberty_cells.specs.Cells.{Cells, new_name, pins_of, add_cell, cells_of}
use Rattle.liberty_cells.specs.Library.{library_in}
use Rattle.liberty_cells.specs.Sound.{IsSoundTiming, IsSoundPin, IsSoundLibrary}
use Rattle.text_forms.specs.Stops.{Gives}
use Rattle.text_forms.proofs.Bytes.{each-append, each_push, each-weaker}
use Rattle.text_forms.proofs.Kept.{kept}
use Rattle.xt_lex.specs.declared.text_fault.TextFault.{TextFault}
use Rattle.xt_number.specs.Quantities.{IsQuantity}
use Rattle.xt_number.proofs.Quantities.{zero_is, quantity_from}

-- ---- values one after another
module _ {A B : Type 0} where
  -- what comes behind a value comes behind a value that is there
  abbrev Binds : Meant A → (A → Meant B) → B → Type 0
  Binds m f y = (x : A) × (m ≡ Ok x) × (f x ≡ Ok y)

  pub bound : (m : Meant A) (f : A → Meant B) (y : B) → (m >>= f) ≡ Ok y → Binds m f y
  bound (Err r) f y e = absurd (cc)
  bound (Ok x) f y e = (x, refl, e)

module _ {A S : Type 0} (P : S → Type 0) (f : A → S → Meant S) (keep : (x : A) (s s' : S) → P s → f x s ≡ Ok s' → P s') where
  -- a fact of a state that each item keeps is kept by all of them
  pub over_keeps : (xs : List A) (s s' : S) → P s → over f xs s ≡ Ok s' → P s'
  over_keeps [] s s' p e = kept P e p
  over_keeps (x ∷ xs) s s' p e =
      let b = bound (f x s) (over f xs) s' e in over_keeps xs b.0 s' (keep x s b.0 p b.1) b.2

-- ---- what is true of timing groups, pins and cells, among n tables
abbrev pub IsTable : ℕ → Option ℕ → Type 0
IsTable n o = IfSome o (λ k. k < n)

pub record IsTiming (n : ℕ) (t : Timing) : Type 0 where
  pub rise : IsTable n t.rise
  pub fall : IsTable n t.fall
  pub rise_slew : IsTable n t.rise_slew
  pub fall_slew : IsTable n t.fall_slew

pub record IsPin (n : ℕ) (p : PinParts) : Type 0 where
  pub cap : IsQuantity p.cap
  pub timings : AllByRecursion (IsTiming n) p.timings

abbrev pub IsCell : ℕ → Cell → Type 0
IsCell n c = AllByRecursion (IsPin n) c.pins

table_more : (n m : ℕ) → n ≤ m → (o : Option ℕ) → IsTable n o → IsTable m o
table_more n m le None h = tt
table_more n m le (Some k) h = omega (arith, h, le)

timing_more : (n m : ℕ) → n ≤ m → (t : Timing) → IsTiming n t → IsTiming m t
timing_more n m le t h = record {
  rise = table_more n m le t.rise h.rise;
  fall = table_more n m le t.fall h.fall;
  rise_slew = table_more n m le t.rise_slew h.rise_slew;
  fall_slew = table_more n m le t.fall_slew h.fall_slew;
}

pin_more : (n m : ℕ) → n ≤ m → (p : PinParts) → IsPin n p → IsPin m p
pin_more n m le p h = record { cap = h.cap; timings = each-weaker (IsTiming n) (IsTiming m) (timing_more n m le) p.timings h.timings }

cell_more : (n m : ℕ) → n ≤ m → (c : Cell) → IsCell n c → IsCell m c
cell_more n m le c h = each-weaker (IsPin n) (IsPin m) (pin_more n m le) c.pins h

with_one : (n m : ℕ) (for : TableUse) (t : Timing) → n ≤ m → n < m → IsTiming n t → IsTiming m (with_table for n t)
with_one n m Rise t le lt h = let f = timing_more n m le t h in record { rise = lt; fall = f.fall; rise_slew = f.rise_slew; fall_slew = f.fall_slew }
with_one n m Fall t le lt h = let f = timing_more n m le t h in record { rise = f.rise; fall = lt; rise_slew = f.rise_slew; fall_slew = f.fall_slew }
with_one n m RiseSlew t le lt h = let f = timing_more n m le t h in record { rise = f.rise; fall = f.fall; rise_slew = lt; fall_slew = f.fall_slew }
with_one n m FallSlew t le lt h = let f = timing_more n m le t h in record { rise = f.rise; fall = f.fall; rise_slew = f.rise_slew; fall_slew = lt }

-- the state is fine, and no table of the first ones was lost
record IsTimed (first : ℕ) (s : Numbered) : Type 0 where
  timing : IsTiming (length s.0) s.1
  more : first ≤ length s.0

record AreTimed (first : ℕ) (s : List TableParts × List Timing) : Type 0 where
  timings : AllByRecursion (IsTiming (length s.0)) s.1
  more : first ≤ length s.0

record ArePins (first : ℕ) (s : Pins) : Type 0 where
  pins : AllByRecursion (IsPin (length s.0)) s.1
  more : first ≤ length s.0

record AreCells (s : Cells) : Type 0 where
  cells : AllByRecursion (IsCell (length s.0)) s.1

module _ (bytes : List ℕ) (scales : Scales) (templates : Templates) where
  -- ---- timing groups
  used_by : (first : ℕ) (delay : Bool) (t : Tree) (o : Option TableUse) (s s' : Numbered) → IsTimed first s
      → add_use bytes delay scales templates t o s ≡ Ok s' → IsTimed first s'
  used_by first delay t None s s' h e = kept (IsTimed first) e h
  used_by first delay t (Some for) s s' h e =
      let b = bound (table_of bytes delay scales templates t) (λ table. Ok (s.0 ++ table ∷ [], with_table for (length s.0) s.1)) s' e in
      let len = length_push s.0 b.0 in
      let more = h.more in
      kept (IsTimed first) b.2 (record {
        timing = with_one (length s.0) (length (s.0 ++ b.0 ∷ [])) for s.1 (omega (arith, len)) (omega (arith, len)) h.timing;
        more = omega (arith, len, more);
      })

  table_keeps : (first : ℕ) (delay : Bool) (t : Tree) (s s' : Numbered) → IsTimed first s → add_table bytes delay scales templates t s ≡ Ok s' → IsTimed first s'
  unfolding add_table
  table_keeps first delay t s s' h e = used_by first delay t (use_named delay (text_in bytes (head_of t).name)) s s' h e

  fitting : (first : ℕ) (t : Tree) (b : Bool) (s s' : Numbered) → IsTimed first s
      → (if b then refuse (head_of t).line L4 else over (add_table bytes (is_delay_kind s.1.kind) scales templates) (groups_of t) s) ≡ Ok s' → IsTimed first s'
  fitting first t true s s' h e = absurd (cc)
  fitting first t false s s' h e =
      over_keeps (IsTimed first) (add_table bytes (is_delay_kind s.1.kind) scales templates) (table_keeps first (is_delay_kind s.1.kind)) (groups_of t) s s' h e

  reading : (first : ℕ) (t : Tree) (b has : Bool) (s s' : Numbered) → IsTimed first s
      → (if b then (if does_not_fit bytes s.1.kind has t then refuse (head_of t).line L4
      else over (add_table bytes (is_delay_kind s.1.kind) scales templates) (groups_of t) s) else Ok s) ≡ Ok s' → IsTimed first s'
  reading first t false has s s' h e = kept (IsTimed first) e h
  reading first t true has s s' h e = fitting first t (does_not_fit bytes s.1.kind has t) s s' h e

  timing_is : (role : Role) (t : Tree) (tables : List TableParts) (x : Numbered) → timing_of bytes scales templates role t tables ≡ Ok x → IsTimed (length tables) x
  unfolding timing_of
  timing_is role t tables x e =
      let b = bound (related_of bytes (attribute bytes (codes "related_pin") t))
      (λ related. read_tables bytes scales templates t (stands bytes (attribute bytes (codes "related_pin") t)) (tables, empty_timing bytes role related t)) x e in
      let start : IsTimed (length tables) (tables, empty_timing bytes role b.0 t) =
      record { timing = record { rise = tt; fall = tt; rise_slew = tt; fall_slew = tt }; more = omega arith } in
      reading (length tables) t (is_read_kind (empty_timing bytes role b.0 t).kind) (stands bytes (attribute bytes (codes "related_pin") t))
      (tables, empty_timing bytes role b.0 t) x start b.2

  timings_keep : (first : ℕ) (role : Role) (t : Tree) (s s' : List TableParts × List Timing) → AreTimed first s
      → add_timing bytes scales templates role t s ≡ Ok s' → AreTimed first s'
  timings_keep first role t s s' h e =
      let b = bound (timing_of bytes scales templates role t s.0) (λ x. Ok (x.0, s.1 ++ x.1 ∷ [])) s' e in
      let one = timing_is role t s.0 b.0 b.1 in
      let more = h.more in
      let le = one.more in
      kept (AreTimed first) b.2 (record {
        timings = each_push (IsTiming (length b.0.0)) s.1 b.0.1
            (each-weaker (IsTiming (length s.0)) (IsTiming (length b.0.0)) (timing_more (length s.0) (length b.0.0) le) s.1 h.timings) one.timing;
        more = omega (arith, more, le);
      })

  timings_are : (role : Role) (t : Tree) (tables : List TableParts) (x : List TableParts × List Timing)
      → timings_of bytes scales templates role t tables ≡ Ok x → AreTimed (length tables) x
  unfolding timings_of
  timings_are role t tables x e =
      over_keeps (AreTimed (length tables)) (add_timing bytes scales templates role) (timings_keep (length tables) role)
      (groups_named bytes (codes "timing") t) (tables, []) x (record { timings = tt; more = omega arith }) e

  -- ---- pins
  low_by : (line : ℕ) (v x : ℤ) (b : Bool) → int_le (pos 0) v ≡ b → (int_le (pos 0) v ≡ true → IsQuantity v)
      → (if b then Ok v else refuse line L3) ≡ Ok x → IsQuantity x
  low_by line v x false low q e = absurd (cc)
  low_by line v x true low q e = kept IsQuantity e (q low)

  cap_in : (line : ℕ) (r : Result ℤ NumberFault) (x : ℤ) → ((v : ℤ) → r ≡ Ok v → int_le (pos 0) v ≡ true → IsQuantity v) → cap_at line r ≡ Ok x → IsQuantity x
  cap_in line (Err fault) x q e = absurd (cc)
  cap_in line (Ok v) x q e = low_by line v x (int_le (pos 0) v) refl (q v refl) e

  cap_one : (line : ℕ) (scale : ℤ) (o : Option Text) (x : ℤ) → cap_by line scale o ≡ Ok x → IsQuantity x
  cap_one line scale None x e = absurd (cc)
  cap_one line scale (Some number) x e = cap_in line (fixed number scale) x (λ v at low. quantity_from scale v low number at) e

  cap_is : (scale : ℤ) (o : Option Entry) (x : ℤ) → cap_of bytes scale o ≡ Ok x → IsQuantity x
  cap_is scale None x e = kept IsQuantity e zero_is
  cap_is scale (Some a) x e = cap_one a.line scale (only (contents bytes a)) x e

  named_pins : (n : ℕ) (role : Role) (cap : ℤ) (timings : List Timing) → IsQuantity cap → AllByRecursion (IsTiming n) timings
      → (names : List Text) → AllByRecursion (IsPin n) (map (pin_named role cap timings) names)
  named_pins n role cap timings c t [] = tt
  named_pins n role cap timings c t (name ∷ names) = (record { cap = c; timings = t }, named_pins n role cap timings c t names)

  pins_keep : (first : ℕ) (t : Tree) (s s' : Pins) → ArePins first s → add_pins bytes scales templates t s ≡ Ok s' → ArePins first s'
  unfolding add_pins
  pins_keep first t s s' h e =
      let role : Role = role_of bytes (attribute bytes (codes "direction") t) in
      let behind_cap : List Text → ℤ → Meant Pins = λ names cap. timings_of bytes scales templates role t s.0 >>= λ x. Ok (x.0, s.1 ++ map (pin_named role cap x.1) names) in
      let behind_names : List Text → Meant Pins = λ names. cap_of bytes scales.cap (attribute bytes (codes "capacitance") t) >>= behind_cap names in
      let a = bound (some_names (head_of t).line (contents bytes (head_of t))) behind_names s' e in
      let b = bound (cap_of bytes scales.cap (attribute bytes (codes "capacitance") t)) (behind_cap a.0) s' a.2 in
      let c = bound (timings_of bytes scales templates role t s.0) (λ x. Ok (x.0, s.1 ++ map (pin_named role b.0 x.1) a.0)) s' b.2 in
      let cap = cap_is scales.cap (attribute bytes (codes "capacitance") t) b.0 b.1 in
      let timed = timings_are role t s.0 c.0 c.1 in
      let le = timed.more in
      let more = h.more in
      kept (ArePins first) c.2 (record {
        pins = each-append (IsPin (length c.0.0)) s.1 (map (pin_named role b.0 c.0.1) a.0)
            (each-weaker (IsPin (length s.0)) (IsPin (length c.0.0)) (pin_more (length s.0) (length c.0.0) le) s.1 h.pins)
            (named_pins (length c.0.0) role b.0 c.0.1 cap timed.timings a.0);
        more = omega (arith, le, more);
      })

  pins_are : (t : Tree) (tables : List TableParts) (x : Pins) → pins_of bytes scales templates t tables ≡ Ok x → ArePins (length tables) x
  unfolding pins_of
  pins_are t tables x e =
      over_keeps (ArePins (length tables)) (add_pins bytes scales templates) (pins_keep (length tables)) (groups_named bytes (codes "pin") t) (tables, []) x
      (record { pins = tt; more = omega arith }) e

  -- ---- cells
  cells_keep : (t : Tree) (s s' : Cells) → AreCells s → add_cell bytes scales templates t s ≡ Ok s' → AreCells s'
  unfolding add_cell
  cells_keep t s s' h e =
      let made : Text → Pins → Cell = λ name x. record { name = name; pins = x.1; latch = has_group bytes (codes "latch") t } in
      let behind_new : Text → Meant Cells = λ name. pins_of bytes scales templates t s.0 >>= λ x. Ok (x.0, s.1 ++ made name x ∷ []) in
      let a = bound (only_name bytes t) (λ given. new_name (head_of t).line given s.1 >>= behind_new) s' e in
      let b = bound (new_name (head_of t).line a.0 s.1) behind_new s' a.2 in
      let c = bound (pins_of bytes scales templates t s.0) (λ x. Ok (x.0, s.1 ++ made b.0 x ∷ [])) s' b.2 in
      let pins = pins_are t s.0 c.0 c.1 in
      let le = pins.more in
      kept AreCells c.2 (record {
        cells = each_push (IsCell (length c.0.0)) s.1 (made b.0 c.0)
            (each-weaker (IsCell (length s.0)) (IsCell (length c.0.0)) (cell_more (length s.0) (length c.0.0) le) s.1 h.cells) pins.pins;
      })

  cells_are : (t : Tree) (x : Cells) → cells_of bytes scales templates t ≡ Ok x → AreCells x
  unfolding cells_of
  cells_are t x e =
      over_keeps AreCells (add_cell bytes scales templates) cells_keep (groups_named bytes (codes "cell") t) ([], []) x (record { cells = tt }) e

-- ---- the library
abbrev AllCells : Library → Type 0
AllCells library = AllByRecursion (IsCell (length library.tables)) library.cells

module _ (library : Library) where
  timing_sound : (t : Timing) → IsTiming (length library.tables) t → IsSoundTiming library t
  timing_sound t h = record { rise = h.rise; fall = h.fall; rise_slew = h.rise_slew; fall_slew = h.fall_slew }

  pin_sound : (p : PinParts) → IsPin (length library.tables) p → IsSoundPin library p
  pin_sound p h = record {
    cap = h.cap;
    timings = All-from_recursion (IsSoundTiming library) p.timings
        (each-weaker (IsTiming (length library.tables)) (IsSoundTiming library) timing_sound p.timings h.timings);
  }

  cell_sound : (c : Cell) → IsCell (length library.tables) c → All (IsSoundPin library) c.pins
  cell_sound c h =
      All-from_recursion (IsSoundPin library) c.pins (each-weaker (IsPin (length library.tables)) (IsSoundPin library) pin_sound c.pins h)

  library_sound : AllCells library → IsSoundLibrary library
  library_sound h = record {
    pins = All-from_recursion (λ cell. All (IsSoundPin library) cell.pins) library.cells
        (each-weaker (IsCell (length library.tables)) (λ cell. All (IsSoundPin library) cell.pins) cell_sound library.cells h);
  }

module _ (bytes : List ℕ) where
  library_by : (t : Tree) (library : Library) → library_in bytes t ≡ Ok library → AllCells library
  unfolding library_in
  library_by t library e =
      let behind : Scales → Templates → Meant Library = λ scales templates. cells_of bytes scales templates t >>= λ x.
      Ok (record { time_scale = scales.time; cap_scale = scales.cap; tables = x.0; cells = x.1 }) in
      let a = bound (units_of bytes t) (λ scales. templates_of bytes scales t >>= behind scales) library e in
      let b = bound (templates_of bytes a.0 t) (behind a.0) library a.2 in
      let c = bound (cells_of bytes a.0 b.0 t) (λ x. Ok (record { time_scale = a.0.time; cap_scale = a.0.cap; tables = x.0; cells = x.1 })) library b.2 in
      kept AllCells c.2 (cells_are bytes a.0 b.0 t c.0 c.1).cells

  -- the library that a tree means is sound
  pub library_answer : (t : Tree) (r : Result Library TextFault) → Gives (λ library. library) r (library_in bytes t) → IfOk r IsSoundLibrary
  library_answer t (Ok library) h = library_sound library (library_by t library h)
  library_answer t (Err fault) h = tt
