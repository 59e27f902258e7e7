-- Words in memory, which nobody else moves.
use Rattle.std.specs.Prelude.{ℕ, ◌+◌, ◌-◌, ◌≤◌, true, List, [], ◌++◌}
use Rattle.std.specs.List.{range_with_len}
use Rattle.xt_model.specs.declared.quad.Pair.{Pair}
use Rattle.xt_meaning.specs.Words.{bounds_in, quad_numbers, onward, AreNoFurther}
use Rattle.chaos_core.specs.declared.setting.Setting.{Setting}
use Rattle.chaos_core.specs.Boards.{nets_of, Knowledge, IsSeen}

-- the run that the words are of, the number in each word, and the number that is drawn next
pub record Memory : Type 0 where
  pub setting : Setting
  pub words : List ℕ
  pub next : ℕ

-- how many numbers at or past the net count may be drawn between two restarts
abbrev pub most_late : ℕ
most_late = 4294967296

abbrev pub knowledge_of : Memory → Knowledge
knowledge_of m = record {
  setting = m.setting;
  home = [];
  seen = m.words;
  drawn = range_with_len 0 m.next;
  made = 0;
  late = most_late - (m.next - nets_of m.setting);
  alone = true;
}

-- words that cross no barrier, are at or past the start, and no further than what the operator makes of them
pub record AreKept (a : Setting) (words : List ℕ) : Type 0 where
  pub seen : IsSeen a words
  pub fits : AreNoFurther a.way (bounds_in words) (onward a.design (bounds_in words))

pub record IsKept (m : Memory) : Type 0 where
  pub words : AreKept m.setting m.words
  pub few : m.next ≤ nets_of m.setting + most_late

-- the numbers of the eight words of a net
abbrev pub pair_numbers : Pair → List ℕ
pair_numbers p = quad_numbers p.rise ++ quad_numbers p.fall
