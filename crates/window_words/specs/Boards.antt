-- What a board and a pass are to their callers.
use Rattle.std.specs.Prelude.{◌≡◌, ℕ, ◌+◌, ◌-◌, ◌*◌, false, List, [], ◌∷◌}
use Rattle.atomic_table.specs.Table.{Me}
use Rattle.atomic_table.specs.Seated.{TableId}
use Rattle.chaos_core.specs.declared.setting.Setting.{Setting}
use Rattle.chaos_core.specs.Boards.{nets_of, Knowledge, IsSeen}
use Rattle.window_words.specs.declared.rule.Key.{Key}
use Rattle.window_words.specs.declared.view.Role.TheVariants.{First, Other}
use Rattle.window_words.specs.declared.view.View.{View}
use Rattle.window_words.specs.Views.{IsUnspent, count_from}

abbrev pub setting_of : Key → Setting
setting_of key = record { design = key.design.value; way = key.way; start = key.start.value }

-- a board: its table of words, and the run that they are of
pub record BoardId : Type 0 where
  pub table : TableId
  pub setting : Setting

-- a pass: the table of its board, and what it knows
pub record Holding : Type 0 where
  pub table : TableId
  pub view : View

-- a pass of a board
pub record IsOf (board : BoardId) (pass : Holding) : Type 0 where
  pub table : pass.table ≡ board.table
  pub setting : pass.view.setting ≡ board.setting

abbrev pub IsFirst : Holding → Type 0
IsFirst pass = pass.view.role ≡ First

abbrev pub IsSplitOff : Holding → Type 0
IsSplitOff pass = pass.view.role ≡ Other

-- the first pass, with none out
abbrev pub IsAlone : View → Type 0
IsAlone v = (v.role ≡ First) × (v.out ≡ 0)

-- how many numbers at or past the net count a pass may still draw
abbrev pub late_of : View → ℕ
late_of v = 1 - count_from (nets_of v.setting) v.drawn

-- the name of a table as plain numbers
abbrev pub home_of : TableId → List ℕ
home_of t = t.words ∷ t.slots ∷ t.views_name ∷ t.atom ∷ t.block ∷ t.offset ∷ t.slot_names

-- what one who works on the words by a pass knows of them
abbrev pub knowledge_of : Holding → Knowledge
knowledge_of pass = record {
  setting = pass.view.setting;
  home = home_of pass.table;
  seen = pass.view.seen;
  drawn = pass.view.drawn;
  made = pass.view.made;
  late = late_of pass.view;
  alone = false;
}

-- a table with eight words for each net and the draw word
abbrev pub HasWords : TableId → Setting → Type 0
HasWords t a = t.words ≡ 8 * nets_of a + 1

-- what a pass always keeps: it has no slot of the table, was not joined, its table has eight words for each net and the
-- draw word, and what it has seen crosses no barrier and is at or past the start, which fits
pub record IsHeld (t : TableId) (me : Me (Unit {0}) View) : Type 0 where
  pub bare : me.1 ≡ []
  pub unspent : IsUnspent me.0.role
  pub sized : HasWords t me.0.setting
  pub seen : IsSeen me.0.setting me.0.seen
