-- Laws of overlap answers and of the operator under given answers.
use Rattle.std.specs.Prelude.{◌≡◌, ◌↔◌, ℕ, ◌≤◌, ◌*◌, ◌^◌, IsTrue, ℤ, pos, ◌+ℤ◌, ◌*ℤ◌, List, map, Option, Some}
use Rattle.std.specs.Int.{int_div_euclid}
use Rattle.std.specs.List.{All, Contains, slice_get}
use Rattle.xt_model.specs.declared.edge.Edge.{Edge}
use Rattle.xt_model.specs.declared.quad.Quad.{Quad}
use Rattle.xt_model.specs.declared.quad.Pair.{Pair}
use Rattle.xt_model.specs.declared.net.SinkPin.{SinkPin}
use Rattle.xt_model.specs.declared.net.Net.{Net}
use Rattle.xt_model.specs.Limits.{most_factor}
use Rattle.xt_model.specs.Levels.{AreLevels, CouplesTo, ArePairs}
use Rattle.xt_model.specs.Parts.{Parts}
use Rattle.xt_model.specs.Sound.{IsSound, IsBetween}
use Rattle.xt_model.specs.Assign.{Assignment, assigned}
use Rattle.xt_meaning.specs.Wires.{product_sum, cap_sum, load_of, delay_to}
use Rattle.xt_meaning.specs.Overlap.{IsRealPeriod, Overlap, overlaps, Answers, overlap_answers}
use Rattle.xt_meaning.specs.Operator.{operator_by}
use Rattle.xt_meaning.specs.Fixpoint.{IsContained}
use Rattle.xt_meaning.specs.Envelope.{IsFixedBy}

-- the answer of two windows is whether they overlap
abbrev pub AnswersDecide : Type 0
AnswersDecide = (period : Option ℤ) (q r : Quad) → IsRealPeriod period
    → IsTrue (overlaps period q r) ↔ Overlap period q r

-- an answer does not depend on which of the two edges is the victim's
pub record IsSymmetric (b : Answers) : Type 0 where
  pub turned : (n m : ℕ) (e f : Edge) → b n e m f ≡ b m f n e

abbrev pub AnswersAreSymmetric : Type 0
AnswersAreSymmetric = (period : Option ℤ) (W : Assignment) → IsSymmetric (overlap_answers period W)

-- b and c give one answer for each edge of a net and each edge of a net in its coupling list
pub record AgreeOnCouplings (d : Parts) (b c : Answers) : Type 0 where
  pub each : (n m : ℕ) (e f : Edge) → CouplesTo d.nets n m → b n e m f ≡ c n e m f

-- the same for the pairs of coupled nets, the lesser number first
pub record AgreeOnPairs (pairs : List (ℕ × ℕ)) (b c : Answers) : Type 0 where
  pub each : (n m : ℕ) (e f : Edge) → Contains pairs (n, m) → b n e m f ≡ c n e m f

-- only the answers for coupled nets matter; of symmetric answers the four for each pair of coupled nets
pub record CoupledAnswersMatter : Type 0 where
  pub couplings : (d : Parts) (b c : Answers) (W : Assignment) (n : ℕ) (e : Edge) → IsSound d → AgreeOnCouplings d b c
      → operator_by d b W n e ≡ operator_by d c W n e
  pub pairs : (d : Parts) (pairs : List (ℕ × ℕ)) (b c : Answers) (W : Assignment) (n : ℕ) (e : Edge) → IsSound d
      → ArePairs d.nets pairs → IsSymmetric b → IsSymmetric c → AgreeOnPairs pairs b c
      → operator_by d b W n e ≡ operator_by d c W n e

-- what b says of two edges c says too
pub record IsImplied (b c : Answers) : Type 0 where
  pub each : (n m : ℕ) (e f : Edge) → IsTrue (b n e m f) → IsTrue (c n e m f)

-- of wider windows, and under answers with more overlaps, the operator makes wider windows
abbrev pub AnswersWiden : Type 0
AnswersWiden = (d : Parts) (b c : Answers) (W V : Assignment) → IsSound d → IsImplied b c → IsContained W V
    → IsContained (operator_by d b W) (operator_by d c V)

-- where the nets have levels, windows that the operator gives back under given answers are there
abbrev pub AnswersHaveWindows : Type 0
AnswersHaveWindows = (d : Parts) (levels : List ℕ) (b : Answers) → IsSound d → AreLevels d.nets levels
    → (w : List Pair) × IsFixedBy d b w

-- and they are the only ones
abbrev pub AnswersHaveOneList : Type 0
AnswersHaveOneList = (d : Parts) (levels : List ℕ) (b : Answers) (v w : List Pair) → IsSound d → AreLevels d.nets levels
    → IsFixedBy d b v → IsFixedBy d b w → v ≡ w

-- they contain what lies within what the operator makes of it under these answers, and lie within what contains it
pub record AnswersBoundWindows : Type 0 where
  pub contains : (d : Parts) (levels : List ℕ) (b : Answers) (W : Assignment) (w : List Pair) → IsSound d
      → AreLevels d.nets levels → IsFixedBy d b w → IsContained W (operator_by d b W) → IsContained W (assigned w)
  pub within : (d : Parts) (levels : List ℕ) (b : Answers) (W : Assignment) (w : List Pair) → IsSound d
      → AreLevels d.nets levels → IsFixedBy d b w → IsContained (operator_by d b W) W → IsContained (assigned w) W

-- four quarters are a whole: at whole factors loads and delays are those of whole sums
pub record WholeFactorsAreExact : Type 0 where
  pub loads : (ms : List ℕ) (net : Net)
      → load_of (map (λ m. 4 * m) ms) net ≡ (net.load +ℤ cap_sum ms net.couplings)
  pub wires : (ms : List ℕ) (s : SinkPin)
      → delay_to (map (λ m. 4 * m) ms) (Some s) ≡ int_div_euclid (s.base +ℤ product_sum ms s.coefs) (pos 1000000)

-- at whatever factors, the sums of a wire and of a load fit signed words of 128 and of 64 bits
pub record SumsHaveRoom : Type 0 where
  pub wires : (d : Parts) (n : ℕ) (net : Net) (s : SinkPin) (ms : List ℕ) → IsSound d → slice_get d.nets n ≡ Some net
      → Contains net.sinks s → All (λ m. m ≤ most_factor) ms
      → IsBetween (pos 0) (pos (2 ^ 126)) ((pos 4 *ℤ s.base) +ℤ product_sum ms s.coefs)
  pub caps : (d : Parts) (n : ℕ) (net : Net) (ms : List ℕ) → IsSound d → slice_get d.nets n ≡ Some net
      → All (λ m. m ≤ most_factor) ms → IsBetween (pos 0) (pos (2 ^ 49)) (cap_sum ms net.couplings)
  pub loads : (d : Parts) (n : ℕ) (net : Net) (ms : List ℕ) → IsSound d → slice_get d.nets n ≡ Some net
      → All (λ m. m ≤ most_factor) ms → IsBetween (pos 0) (pos (2 ^ 47)) (load_of ms net)
