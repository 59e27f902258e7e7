-- What a worker, and all workers of a round, leave; and what a look finds.
use Rattle.std.specs.Prelude.{◌≡◌, ℕ, ◌+◌, ◌-◌, ◌*◌, ◌<◌, ◌≤◌, ◌⊎◌, Bool, IsTrue, IsFalse, List, [], length}
use Rattle.std.specs.Prelude.{slice_index, Option, Some, None}
use Rattle.std.specs.List.{Contains}
use Rattle.xt_model.specs.declared.net.NetId.{NetId}
use Rattle.xt_model.specs.declared.net.Net.{Net}
use Rattle.xt_model.specs.Levels.{IsOrder}
use Rattle.xt_meaning.specs.Words.{bounds_in, AreNoFurther}
use Rattle.chaos_core.specs.Boards.{nets_of, IsSeen}
use Rattle.chaos_core.specs.Runs.{count_below}
use Rattle.dirty_words.specs.declared.view.DirtyView.{DirtyView}
use Rattle.dirty_words.specs.Rule.{IsPast}
use Rattle.dirty_words.specs.Steps.{Drew}
use Rattle.dirty_run.specs.Visits.{HasMoved, HasPassed}

-- ---- a worker's part of a round
-- from v to w a number was drawn, greater than all before: that of the place of a net in the order, or one past all
abbrev pub IsPlace : List Net → ℕ → Option NetId → Type 0
IsPlace nets number None = length nets ≤ number
IsPlace nets number (Some net) =
    (number < length nets) × ((order : List ℕ) → IsOrder nets order → slice_index order number ≡ net.0)

pub record HasDrawnNext (nets : List Net) (v : DirtyView) (net : Option NetId) (w : DirtyView) : Type 0 where
  pub number : ℕ
  pub drew : Drew v number w
  pub place : IsPlace nets number net

-- from v, by which nothing was drawn or taken, to w, a worker visited the net at each place of the order that it drew
pub record HasTurned (order : List ℕ) (v w : DirtyView) : Type 0 where
  pub seen : List ℕ
  pub drawn : List ℕ
  pub made : ℕ
  pub clear : List ℕ
  pub taken : List ℕ
  pub noted : List ℕ
  pub missed : List ℕ
  pub after : w ≡ record v {
    base = record (v.base) { seen = seen; drawn = drawn; made = made };
    clear = clear;
    taken = taken;
    noted = noted;
    missed = missed;
  }
  pub sound : IsSeen v.base.setting seen
  pub onward : AreNoFurther v.base.setting.way (bounds_in v.base.seen) (bounds_in seen)
  -- a net that was drawn is taken, and past where it was found marked
  pub visited : (n : ℕ) → Contains drawn n → n < nets_of v.base.setting
      → Contains taken (slice_index order n)
      × (Contains v.found (slice_index order n) → HasPassed v seen (slice_index order n))
  -- only nets that were drawn are taken
  pub places : (m : ℕ) → Contains taken m
      → Contains v.taken m ⊎ ((n : ℕ) × Contains drawn n × (n < nets_of v.base.setting) × (slice_index order n ≡ m))
  pub why : (noted ≡ v.noted) ⊎ HasMoved v.base.seen seen
  pub rose : v.base.made ≤ made
  pub most : made ≤ v.base.made + 8 * count_below (nets_of v.base.setting) drawn

-- the same, and at last it drew a number at or past the net count
pub record HasRun (order : List ℕ) (v w : DirtyView) : Type 0 where
  pub turned : HasTurned order v w
  pub last : (n : ℕ) × Contains w.base.drawn n × (nets_of v.base.setting ≤ n)

-- ---- a look
-- from v to w, the first pass looked at the marks of the first nets; `any` says whether one was set
pub record HasLooked (v : DirtyView) (count : ℕ) (any : Bool) (w : DirtyView) : Type 0 where
  pub clear : List ℕ
  pub found : List ℕ
  pub taken : List ℕ
  pub noted : List ℕ
  pub after : w ≡ record v { clear = clear; found = found; taken = taken; noted = noted }
  -- each net is found and not taken, or clear and past; none is noted
  pub each : (net : ℕ) → net < count
      → (Contains found net × (Contains taken net → ⊥)) ⊎ (Contains clear net × IsPast v.base.setting v.base.seen net)
  pub quiet : (net : ℕ) → net < count → Contains noted net → ⊥
  -- the others are as they were
  pub later : (net : ℕ) → count ≤ net → (Contains noted net → Contains v.noted net)
      × (Contains found net → Contains v.found net) × (Contains v.taken net → Contains taken net)
  -- a mark that was set was noted, or is left from the look before
  pub why : IsTrue any → (net : ℕ) × (net < count)
      × (Contains v.noted net ⊎ (Contains v.found net × (Contains v.taken net → ⊥)))
  pub none : IsFalse any → (net : ℕ) → net < count → Contains clear net

-- ---- all workers of a round
-- the first pass, with this many passes out
abbrev pub with_out : DirtyView → ℕ → DirtyView
with_out v count = record v {
  base = record (v.base) { out = v.base.out + count; split = v.base.split + count };
  clear = [];
}

-- from v, with its passes out, this many were joined, by each of which a worker ran from what was known in v
pub record HasGathered (order : List ℕ) (joined : ℕ) (v w : DirtyView) : Type 0 where
  pub seen : List ℕ
  pub drawn : List ℕ
  pub made : ℕ
  pub taken : List ℕ
  pub noted : List ℕ
  pub after : w ≡ record v {
    base = record (v.base) { seen = seen; drawn = drawn; made = made; out = v.base.out - joined };
    taken = taken;
    noted = noted;
  }
  pub sound : IsSeen v.base.setting seen
  pub onward : AreNoFurther v.base.setting.way (bounds_in v.base.seen) (bounds_in seen)
  pub visited : (n : ℕ) → Contains drawn n → n < nets_of v.base.setting
      → Contains taken (slice_index order n)
      × (Contains v.found (slice_index order n) → HasPassed v seen (slice_index order n))
  pub why : (noted ≡ v.noted) ⊎ HasMoved v.base.seen seen
  pub rose : v.base.made ≤ made
  pub most : made ≤ v.base.made + 8 * count_below (nets_of v.base.setting) drawn
  pub last : 0 < joined → (n : ℕ) × Contains drawn n × (nets_of v.base.setting ≤ n)
