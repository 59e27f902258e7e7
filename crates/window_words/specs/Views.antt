-- What a pass knows, and what splitting, joining and restarting make of it.
use Rattle.std.specs.Prelude.{ℕ, ◌+◌, ◌-◌, ◌==◌, nat_le, List, [], ◌++◌, slice_set, sum_by, count_by, None}
use Rattle.xt_model.specs.declared.direction.Direction.TheVariants.{Widen}
use Rattle.xt_model.specs.Parts.{classical_parts}
use Rattle.xt_meaning.specs.Words.{numbers_of, furthest}
use Rattle.chaos_core.specs.declared.setting.Setting.{Setting}
use Rattle.window_words.specs.declared.view.Role.{Role}
use Rattle.window_words.specs.declared.view.Role.TheVariants.{First, Other, Spent}
use Rattle.window_words.specs.declared.view.View.{View}

-- a pass that was not joined again
abbrev pub IsUnspent : Role → Type 0
IsUnspent First = Unit {0}
IsUnspent Other = Unit {0}
IsUnspent Spent = ⊥

abbrev pub first_count : Role → ℕ
first_count First = 1
first_count Other = 0
first_count Spent = 0

abbrev pub other_count : Role → ℕ
other_count First = 0
other_count Other = 1
other_count Spent = 0

-- how often a number is among several
abbrev pub times : ℕ → List ℕ → ℕ
times x numbers = count_by (λ n. n == x) numbers

-- how many of several numbers are at or past a bound
abbrev pub count_from : ℕ → List ℕ → ℕ
count_from bound numbers = count_by (λ n. nat_le bound n) numbers

-- what the passes have of something, all together
abbrev pub total : (View → ℕ) → List View → ℕ
total f views = sum_by f views

-- the first pass of a board knows the words of the start
abbrev pub first_view : Setting → View
first_view a = record {
  setting = a;
  seen = numbers_of a.start;
  drawn = [];
  made = 0;
  role = First;
  out = 0;
  split = 0;
}

-- v with another number seen in a word, and another count of publications
abbrev pub with_seen : View → ℕ → ℕ → ℕ → View
with_seen v word number made = record v { seen = slice_set v.seen word number; made = made }

-- v with all drawn numbers forgotten
abbrev pub begun_anew : View → View
begun_anew v = record v { drawn = []; split = 0 }

-- v with one more pass out
abbrev pub with_one_out : View → View
with_one_out v = record v { out = v.out + 1; split = v.split + 1 }

-- the pass that is split off from v: it has seen as much, and has drawn and published nothing
abbrev pub sent_out : View → View
sent_out v = record v { drawn = []; made = 0; role = Other; out = 0; split = 0 }

-- v with what w knows: in each word the further number, the numbers drawn by both, and the publications of both
abbrev pub with_both : View → View → View
with_both v w = record v {
  seen = furthest v.setting.way v.seen w.seen;
  drawn = v.drawn ++ w.drawn;
  made = v.made + w.made;
  out = v.out - 1;
}

-- what is left of a pass that was joined
abbrev pub spent_view : View
spent_view = record {
  setting = record { design = classical_parts None [] [] []; way = Widen; start = [] };
  seen = [];
  drawn = [];
  made = 0;
  role = Spent;
  out = 0;
  split = 0;
}
