-- What a built design keeps, and why parts make none.
use Rattle.std.specs.Prelude.{◌≡◌, ℕ, ◌≤◌, List, length, map}
use Rattle.xt_model.specs.declared.net.Net.{Net}
use Rattle.xt_model.specs.declared.fault.BuildFault.{BuildFault}
use Rattle.xt_model.specs.declared.fault.BuildFault.TheVariants.{Loop, NoMemory}
use Rattle.xt_model.specs.Limits.{most_nets, most_couplings}
use Rattle.xt_model.specs.Parts.{Parts}
use Rattle.xt_model.specs.Sound.{IsSound}
use Rattle.xt_model.specs.Levels.{AreLevels, IsOrderBy, IsPairCount, IsDepth, greatest_of, bound_of}
use Rattle.xt_model.specs.Loops.{IsFirstLoop}

-- sound parts with the level of each net, the nets by level, the greatest level and the count of
-- coupled pairs
pub record IsDesign (d : Parts) (levels order : List ℕ) (depth pairs : ℕ) : Type 0 where
  pub sound : IsSound d
  pub are_levels : AreLevels d.nets levels
  pub is_order : IsOrderBy d.nets levels order
  pub is_depth : depth ≡ greatest_of levels
  pub is_pair_count : IsPairCount d.nets pairs
  pub most_depth : depth ≤ most_nets
  pub most_pairs : pairs ≤ most_couplings

-- the nets in order of these levels, and the greatest of them
pub record HasOrder (levels order : List ℕ) (depth : ℕ) : Type 0 where
  pub nets : List Net
  pub count : length levels ≡ length nets
  pub is_order : IsOrderBy nets levels order
  pub is_depth : depth ≡ greatest_of levels
  pub most_depth : depth ≤ most_nets

-- the bound on rounds of these nets
abbrev pub IsRoundBound : List Net → ℕ → Type 0
IsRoundBound nets bound =
    (pairs : ℕ) × (depth : ℕ) × IsPairCount nets pairs × IsDepth nets depth × (bound ≡ bound_of pairs depth)

-- the fault is true of the nets: a loop is the first of them, and want of memory is always free
abbrev pub IsFaultOf : List Net → BuildFault → Type 0
IsFaultOf nets (Loop ids) = IsFirstLoop nets (map (λ n. n.0) ids)
IsFaultOf nets NoMemory = Unit {0}
