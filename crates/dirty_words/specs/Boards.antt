-- What a board with marks and a pass over it are to their callers.
use Rattle.std.specs.Prelude.{◌≡◌, ℕ, ◌+◌, ◌*◌, ◌<◌, [], None}
use Rattle.std.specs.List.{Contains}
use Rattle.atomic_table.specs.Table.{Me}
use Rattle.atomic_table.specs.Seated.{TableId}
use Rattle.chaos_core.specs.declared.setting.Setting.{Setting}
use Rattle.chaos_core.specs.Boards.{nets_of, IsSeen}
use Rattle.window_words.specs.declared.view.Role.TheVariants.{First, Other}
use Rattle.window_words.specs.Boards.{IsAlone as IsAloneBelow}
use Rattle.dirty_words.specs.declared.rule.Key.{Key}
use Rattle.dirty_words.specs.declared.view.DirtyView.{DirtyView}
use Rattle.dirty_words.specs.Views.{Run, run_of}
use Rattle.dirty_words.specs.Rule.{IsLive}

abbrev pub run_at : Key → Run
run_at key = record {
  setting = record { design = key.design.value; way = key.way; start = key.start.value };
  lists = key.lists.value;
}

-- a board: its table of words, and the run that they are of
pub record DirtyId : Type 0 where
  pub table : TableId
  pub run : Run

-- a pass: the table of its board, and what it knows
pub record DirtyHolding : Type 0 where
  pub table : TableId
  pub view : DirtyView

-- a pass of a board
pub record IsOf (board : DirtyId) (pass : DirtyHolding) : Type 0 where
  pub table : pass.table ≡ board.table
  pub run : run_of pass.view ≡ board.run

abbrev pub IsFirst : DirtyView → Type 0
IsFirst v = v.base.role ≡ First

abbrev pub IsSplitOff : DirtyView → Type 0
IsSplitOff v = v.base.role ≡ Other

-- the first pass, with none out
abbrev pub IsAlone : DirtyView → Type 0
IsAlone v = IsAloneBelow v.base

-- a pass without a net in flight, which owes no mark
pub record IsFree (v : DirtyView) : Type 0 where
  pub flight : v.flight ≡ None
  pub owed : v.owed ≡ []

-- a table with eight words and a mark for each net, and the draw word
abbrev pub HasWords : TableId → Setting → Type 0
HasWords t a = t.words ≡ 9 * nets_of a + 1

-- what a pass always keeps: it has no slot of the table, was not joined, its table has eight words and a mark for each
-- net and the draw word, what it has seen crosses no barrier and is at or past the start, which fits, and what it owes
-- is owed to nets
pub record IsHeld (t : TableId) (me : Me (Unit {0}) DirtyView) : Type 0 where
  pub bare : me.1 ≡ []
  pub live : IsLive me.0
  pub sized : HasWords t me.0.base.setting
  pub seen : IsSeen me.0.base.setting me.0.base.seen
  pub owing : (net : ℕ) → Contains me.0.owed net → net < nets_of me.0.base.setting
