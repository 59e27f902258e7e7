-- The bound on rounds, and the depth.
use Rattle.std.proofs.Common.{◌≡◌, ℕ, List, ◌∙◌, ap, sym}
use Rattle.xt_model.specs.declared.net.Net.{Net}
use Rattle.xt_model.specs.Levels.{IsDepth, IsPairCount, bound_of, greatest_of}
use Rattle.xt_model.specs.Build.{IsRoundBound}
use Rattle.xt_model.proofs.LevelLaws.{levels_are_one}
use Rattle.xt_model.proofs.PairLaws.{pair_counts_are_one}

-- nets have one depth
pub depth_is_one : (nets : List Net) (a b : ℕ) → IsDepth nets a → IsDepth nets b → a ≡ b
depth_is_one nets a b (x, xs, ex) (y, ys, ey) = ex ∙ (ap greatest_of (levels_are_one nets x y xs ys) ∙ sym ey)

-- and one bound
pub bound_is : (nets : List Net) (pairs depth bound : ℕ) → IsPairCount nets pairs → IsDepth nets depth → IsRoundBound nets bound → bound ≡ bound_of pairs depth
bound_is nets pairs depth bound counted deepest (p, l, ip, il, e) =
    e ∙ (ap (λ n. bound_of n l) (pair_counts_are_one nets p pairs ip counted) ∙ ap (λ n. bound_of pairs n) (depth_is_one nets l depth il deepest))
