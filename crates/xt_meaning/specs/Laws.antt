-- Laws of the operator, of its fixpoints, and of runs towards them.
use Rattle.std.specs.Prelude.{◌≡◌, ℕ, ◌/◌, ◌%◌, ◌<◌, Bool, IsTrue, ℤ, ◌+ℤ◌, ◌≤ℤ◌, List, length, replicate, Some}
use Rattle.std.specs.Int.{int_min, int_max}
use Rattle.std.specs.List.{slice_get}
use Rattle.xt_model.specs.declared.direction.Direction.{Direction}
use Rattle.xt_model.specs.declared.direction.Direction.TheVariants.{Widen, Narrow}
use Rattle.xt_model.specs.declared.edge.Edge.{Edge}
use Rattle.xt_model.specs.declared.quad.Quad.{Quad}
use Rattle.xt_model.specs.declared.quad.Pair.{Pair}
use Rattle.xt_model.specs.declared.net.Net.{Net}
use Rattle.xt_model.specs.Quads.{bottom, IsLive, IsInRange}
use Rattle.xt_model.specs.Levels.{AreLevels}
use Rattle.xt_model.specs.Miller.{MillerNumbers}
use Rattle.xt_model.specs.Parts.{Parts}
use Rattle.xt_model.specs.Sound.{IsSound, IsConstraint, IsTime, IsSlew}
use Rattle.xt_model.specs.Assign.{Assignment, assigned, words_of, quads_of}
use Rattle.xt_meaning.specs.Overlap.{overlap_answers}
use Rattle.xt_meaning.specs.Operator.{Range, wire_range, load_range, operator, widest_operator, step}
use Rattle.xt_meaning.specs.Reads.{HoldsOfReads}
use Rattle.xt_meaning.specs.Fixpoint.{IsWindows, IsContained, IsFixpoint, IsLeastFixpoint, IsGreatestFixpoint}
use Rattle.xt_meaning.specs.Envelope.{IsWidest, IsEnvelope, IsAccepted, greatest_wire}
use Rattle.xt_meaning.specs.Wires.{slew_growth}
use Rattle.xt_meaning.specs.Barrier.{IsFittingStart, IsWithinEnvelope, NoFurther, IsBoundNoFurther, IsBarrier}
use Rattle.xt_meaning.specs.Barrier.{RespectsAt, Respects}

-- of wider windows the operator makes wider windows
abbrev pub OperatorIsMonotone : Type 0
OperatorIsMonotone = (d : Parts) (W V : Assignment) → IsSound d → IsContained W V
    → IsContained (operator d W) (operator d V)

-- range r lies within range s
pub record IsRangeWithin (r s : Range) : Type 0 where
  pub least : s.least ≤ℤ r.least
  pub most : r.most ≤ℤ s.most

-- what overlaps in windows overlaps in wider ones, and there the ranges of loads and of wire delays are wider
pub record RangesGrow : Type 0 where
  pub overlap : (d : Parts) (W V : Assignment) (n m : ℕ) (e f : Edge) → IsSound d → IsContained W V
      → IsTrue (overlap_answers d.period W n e m f) → IsTrue (overlap_answers d.period V n e m f)
  pub loads : (d : Parts) (W V : Assignment) (n : ℕ) (e : Edge) (net : Net) → IsSound d
      → slice_get d.nets n ≡ Some net → IsContained W V
      → IsRangeWithin (load_range d.miller (overlap_answers d.period W) n e net)
      (load_range d.miller (overlap_answers d.period V) n e net)
  pub wires : (d : Parts) (W V : Assignment) (n : ℕ) (e : Edge) (sink : ℕ) → IsSound d → IsContained W V
      → IsRangeWithin (wire_range d.miller (overlap_answers d.period W) n e sink (slice_get d.nets n))
      (wire_range d.miller (overlap_answers d.period V) n e sink (slice_get d.nets n))

-- the windows of a net depend only on those windows that the operator looks at for it
abbrev pub OperatorReadsLittle : Type 0
OperatorReadsLittle = (read : ℕ → Bool) (d : Parts) (W V : Assignment) (n : ℕ) (e : Edge)
    → IsSound d → HoldsOfReads (λ m. IsTrue (read m)) d n → ((m : ℕ) (f : Edge) → IsTrue (read m) → W m f ≡ V m f)
    → operator d W n e ≡ operator d V n e

-- the operator makes no wider windows than it does where everything overlaps
abbrev pub WidestContains : Type 0
WidestContains = (d : Parts) (W : Assignment) → IsSound d → IsContained (operator d W) (widest_operator d W)

-- where everything overlaps the operator is monotone too
abbrev pub WidestIsMonotone : Type 0
WidestIsMonotone = (d : Parts) (W V : Assignment) → IsSound d → IsContained W V
    → IsContained (widest_operator d W) (widest_operator d V)

-- the fixpoint in which a run in this direction ends
abbrev pub IsExtremeFixpoint : Direction → Parts → List Pair → Type 0
IsExtremeFixpoint Widen d x = IsLeastFixpoint d x
IsExtremeFixpoint Narrow d x = IsGreatestFixpoint d x

-- a fixpoint that crosses no barrier is the least one in widening, and the greatest one in narrowing
abbrev pub ClosedIsExtreme : Type 0
ClosedIsExtreme = (way : Direction) (d : Parts) (x : List Pair) → IsFixpoint d x → Respects way d (assigned x)
    → IsExtremeFixpoint way d x

-- every fixpoint contains the least one and lies within the greatest one
abbrev pub FixpointsLieBetween : Type 0
FixpointsLieBetween = (d : Parts) (low high v : List Pair) → IsLeastFixpoint d low → IsGreatestFixpoint d high
    → IsFixpoint d v
    → IsContained (assigned low) (assigned v) × IsContained (assigned v) (assigned high)

-- a design has one least fixpoint and one greatest
abbrev pub ExtremeIsUnique : Type 0
ExtremeIsUnique = (way : Direction) (d : Parts) (x y : List Pair) → IsExtremeFixpoint way d x
    → IsExtremeFixpoint way d y → x ≡ y

-- a step onward to windows that are no further than what the operator makes of those before
pub record IsStep (way : Direction) (d : Parts) (before after : Assignment) : Type 0 where
  pub onward : NoFurther way before after
  pub no_further : NoFurther way after (operator d before)

-- after a step from windows that cross no barrier the windows cross none, and are no further than what the
-- operator makes of them
abbrev pub StepsKeepOn : Type 0
StepsKeepOn = (way : Direction) (d : Parts) (before after : Assignment) → IsSound d → Respects way d before
    → IsStep way d before after
    → Respects way d after × NoFurther way after (operator d after)

-- words that each cross no barrier make windows that are no further than any barrier, and the other way round
abbrev pub WordsRespectTogether : Type 0
WordsRespectTogether = (way : Direction) (d : Parts) (W : Assignment)
    → (Respects way d W → (v : List Pair) → IsBarrier way d v → NoFurther way W (assigned v))
    × (((v : List Pair) → IsBarrier way d v → NoFurther way W (assigned v)) → Respects way d W)

-- the least and the greatest of two bounds that cross no barrier cross none
abbrev pub EitherBoundRespects : Type 0
EitherBoundRespects = (way : Direction) (d : Parts) (word : ℕ) (a b : ℤ) → RespectsAt way d word a
    → RespectsAt way d word b
    → RespectsAt way d word (int_min a b) × RespectsAt way d word (int_max a b)

-- where a bound crosses no barrier, no bound behind it does
abbrev pub EarlierBoundRespects : Type 0
EarlierBoundRespects = (way : Direction) (d : Parts) (word : ℕ) (a b : ℤ) → IsBoundNoFurther way (word % 2) a b
    → RespectsAt way d word b → RespectsAt way d word a

-- where each word that the operator looks at for a net crosses no barrier, no word that it makes for the net
-- crosses one
abbrev pub OperatorRespects : Type 0
OperatorRespects = (read : ℕ → Bool) (way : Direction) (d : Parts) (f : ℕ → ℤ) (word : ℕ)
    → IsSound d → HoldsOfReads (λ n. IsTrue (read n)) d (word / 8)
    → ((w : ℕ) → IsTrue (read (w / 8)) → RespectsAt way d w (f w))
    → RespectsAt way d word (words_of (operator d (quads_of f)) word)

-- the windows of a net that never switches
abbrev pub quiet_pair : Pair
quiet_pair = record { rise = bottom; fall = bottom }

-- the windows of a design in which nothing switches
abbrev pub quiet_windows : Parts → List Pair
quiet_windows d = replicate (length d.nets) quiet_pair

-- with an envelope that keeps the limits, a run that widens can start where nothing switches
abbrev pub QuietFitsWidening : Type 0
QuietFitsWidening = (d : Parts) (top : List Pair) → IsSound d → IsEnvelope d top → IsAccepted d top
    → IsFittingStart Widen d (quiet_windows d)

-- and a run that narrows can start at the envelope
abbrev pub EnvelopeFitsNarrowing : Type 0
EnvelopeFitsNarrowing = (d : Parts) (levels : List ℕ) (top : List Pair) → IsSound d → AreLevels d.nets levels
    → IsEnvelope d top → IsAccepted d top → IsFittingStart Narrow d top

-- windows that lie within what the operator makes of them lie within the envelope
abbrev pub EnvelopeContains : Type 0
EnvelopeContains = (d : Parts) (levels : List ℕ) (v top : List Pair) → IsSound d → AreLevels d.nets levels
    → IsWidest d top → IsContained (assigned v) (step d v)
    → IsContained (assigned v) (assigned top)

-- a design has no two envelopes
abbrev pub EnvelopeIsUnique : Type 0
EnvelopeIsUnique = (d : Parts) (levels : List ℕ) (v w : List Pair) → IsSound d → AreLevels d.nets levels
    → IsWidest d v → IsWidest d w → v ≡ w

-- in widening the envelope is a barrier
abbrev pub EnvelopeIsBarrier : Type 0
EnvelopeIsBarrier = (d : Parts) (top : List Pair) → IsSound d → IsEnvelope d top → IsBarrier Widen d top

-- in widening, windows that cross no barrier lie within the envelope
abbrev pub RespectingLiesWithin : Type 0
RespectingLiesWithin = (d : Parts) (top : List Pair) (W : Assignment) → IsSound d → IsEnvelope d top
    → Respects Widen d W → IsContained W (assigned top)

-- the times and slews of a live window of a net are in their ranges, also at each sink behind the slowest wire
pub record HasRoom (m : MillerNumbers) (net : Net) (q : Quad) : Type 0 where
  pub driver : IsConstraint q
  pub arrivals : (sink : ℕ) → sink < length net.sinks → IsTime (q.thi +ℤ greatest_wire m net sink)
  pub slews : (sink : ℕ) → sink < length net.sinks → IsSlew (q.shi +ℤ slew_growth (greatest_wire m net sink))

-- each live window within an envelope that keeps the limits has room
abbrev pub LiveWindowsHaveRoom : Type 0
LiveWindowsHaveRoom = (d : Parts) (top : List Pair) (W : Assignment) (n : ℕ) (e : Edge) (net : Net)
    → IsSound d → IsWidest d top → IsAccepted d top → IsContained W (assigned top) → slice_get d.nets n ≡ Some net
    → IsLive (W n e) → HasRoom d.miller net (W n e)

-- where the nets have levels there is an envelope
abbrev pub EnvelopeExists : Type 0
EnvelopeExists = (d : Parts) (levels : List ℕ) → IsSound d → AreLevels d.nets levels
    → (top : List Pair) × IsWidest d top

-- after a step from a fitting start the windows are a fitting start
abbrev pub StepsKeepFitting : Type 0
StepsKeepFitting = (way : Direction) (d : Parts) (before after : List Pair) → IsSound d → IsFittingStart way d before
    → IsWindows d after
    → IsStep way d (assigned before) (assigned after) → IsFittingStart way d after

-- words can hold what the operator makes of windows within an envelope that keeps the limits
abbrev pub OperatorStaysInRange : Type 0
OperatorStaysInRange = (d : Parts) (v : List Pair) (n : ℕ) (e : Edge) → IsSound d → IsWithinEnvelope d v
    → IsInRange (step d v n e)
