-- The timing groups of a pin: arcs into an output pin, checks of an input pin.
use Rattle.std.specs.Prelude.{ℕ, Bool, true, false, not, ◌||◌, List, [], ◌∷◌, ◌++◌, length, codes}
use Rattle.std.specs.Prelude.{Option, Some, None, Ok, if◌then◌else◌}
use Rattle.name_numbers.specs.Names.{Text}
use Rattle.xt_model.specs.declared.code.Code.TheVariants.{L1, L4}
use Rattle.xt_model.specs.Tables.{TableParts}
use Rattle.liberty_groups.specs.Trees.{Entry, Tree, head_of, groups_of}
use Rattle.liberty_tables.specs.declared.units.Scales.{Scales}
use Rattle.xt_model.specs.Results.{◌>>=◌}
use Rattle.text_forms.specs.Refusals.{Meant, refuse, over}
use Rattle.liberty_tables.specs.Contents.{text_in, names_in}
use Rattle.liberty_tables.specs.Search.{attribute, contents, only, groups_named, has_group}
use Rattle.liberty_tables.specs.Templates.{Templates}
use Rattle.liberty_tables.specs.Tables.{table_of}
use Rattle.liberty_cells.specs.declared.timing.Timing.{Timing}
use Rattle.liberty_cells.specs.declared.timing.TimingKind.{TimingKind}
use Rattle.liberty_cells.specs.declared.timing.TableUse.{TableUse}
use Rattle.liberty_cells.specs.declared.timing.TableUse.TheVariants.{Rise, Fall, RiseSlew, FallSlew}
use Rattle.liberty_cells.specs.declared.pin.Role.{Role}
use Rattle.liberty_cells.specs.Names.{some_names}
use Rattle.liberty_cells.specs.Kinds.{use_named, is_delay_kind, is_read_kind, kind_of, sense_of}

-- a timing group that has a table of this number for a use
abbrev pub with_table : TableUse → ℕ → Timing → Timing
with_table Rise n t = record t { rise = Some n }
with_table Fall n t = record t { fall = Some n }
with_table RiseSlew n t = record t { rise_slew = Some n }
with_table FallSlew n t = record t { fall_slew = Some n }

-- the tables of a library so far, and a timing group
abbrev pub Numbered : Type 0
Numbered = List TableParts × Timing

-- one of two tables without the other
abbrev pub differ : Bool → Bool → Bool
differ true b = not b
differ false b = b

module _ (bytes : List ℕ) where
  -- the names that white space separates in the one value of an attribute; without one the attribute is refused
  abbrev pub related_by : ℕ → Option Text → Meant (List Text)
  related_by line None = refuse line L1
  related_by line (Some names) = some_names line (names_in names)

  -- the related pins of a timing group
  abbrev pub related_of : Option Entry → Meant (List Text)
  related_of None = Ok []
  related_of (Some a) = related_by a.line (only (contents bytes a))

  -- a table of a use is the next of the library
  abbrev pub add_use : Bool → Scales → Templates → Tree → Option TableUse → Numbered → Meant Numbered
  add_use is_delay scales templates t None s = Ok s
  add_use is_delay scales templates t (Some for) s = do
    table ← table_of bytes is_delay scales templates t
    Ok (s.0 ++ table ∷ [], with_table for (length s.0) s.1)

  -- one group of a timing group: a table that is read, or one without a meaning here
  unfoldable pub add_table : Bool → Scales → Templates → Tree → Numbered → Meant Numbered
  add_table is_delay scales templates t s =
      add_use is_delay scales templates t (use_named is_delay (text_in bytes (head_of t).name)) s

  -- an arc has a delay exactly where it has a slew
  abbrev pub lacks_table : Tree → Bool
  lacks_table t =
      differ (has_group bytes (codes "cell_rise") t) (has_group bytes (codes "rise_transition") t)
      || differ (has_group bytes (codes "cell_fall") t) (has_group bytes (codes "fall_transition") t)

  -- a group whose tables are read does not fit without related pins, or with one of two tables
  abbrev pub does_not_fit : TimingKind → Bool → Tree → Bool
  does_not_fit kind has_related t = not has_related || (if is_delay_kind kind then lacks_table t else false)

  -- the tables of a timing group, where they are read
  abbrev pub read_tables : Scales → Templates → Tree → Bool → Numbered → Meant Numbered
  read_tables scales templates t has_related s =
      if is_read_kind s.1.kind then
      (if does_not_fit s.1.kind has_related t then refuse (head_of t).line L4
      else over (add_table (is_delay_kind s.1.kind) scales templates) (groups_of t) s)
      else Ok s

  -- a timing group without its tables
  abbrev pub empty_timing : Role → List Text → Tree → Timing
  empty_timing role related t = record {
    related = related;
    kind = kind_of bytes role (attribute bytes (codes "timing_type") t);
    sense = sense_of bytes (attribute bytes (codes "timing_sense") t);
    rise = None;
    fall = None;
    rise_slew = None;
    fall_slew = None;
  }

  -- an attribute stands
  abbrev pub stands : Option Entry → Bool
  stands None = false
  stands (Some a) = true

  -- a timing group behind the tables so far: its related pins come first, then what it has, then its tables
  unfoldable pub timing_of : Scales → Templates → Role → Tree → List TableParts → Meant Numbered
  timing_of scales templates role t tables = do
    related ← related_of (attribute bytes (codes "related_pin") t)
    read_tables scales templates t (stands (attribute bytes (codes "related_pin") t))
        (tables, empty_timing role related t)

  -- one more timing group of a pin
  abbrev pub add_timing : Scales → Templates → Role → Tree → List TableParts × List Timing
      → Meant (List TableParts × List Timing)
  add_timing scales templates role t s = do
    x ← timing_of scales templates role t s.0
    Ok (x.0, s.1 ++ x.1 ∷ [])

  -- the timing groups of a pin, in the order of the text, behind the tables so far
  unfoldable pub timings_of : Scales → Templates → Role → Tree → List TableParts → Meant (List TableParts × List Timing)
  timings_of scales templates role t tables =
      over (add_timing scales templates role) (groups_named bytes (codes "timing") t) (tables, [])
