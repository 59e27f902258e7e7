-- The law that ties transitions to windows.
use Rattle.std.specs.Prelude.{ℕ, List}
use Rattle.std.specs.List.{All}
use Rattle.xt_model.specs.declared.quad.Quad.{Quad}
use Rattle.xt_model.specs.declared.quad.Pair.{Pair}
use Rattle.xt_model.specs.Quads.{IsLive}
use Rattle.xt_model.specs.Parts.{Parts}
use Rattle.xt_model.specs.Sound.{IsSound}
use Rattle.xt_model.specs.Levels.{AreLevels}
use Rattle.xt_model.specs.Assign.{Assignment, assigned}
use Rattle.xt_meaning.specs.Operator.{operator}
use Rattle.xt_meaning.specs.Fixpoint.{IsGreatestFixpoint}
use Rattle.xt_meaning.specs.Envelope.{IsWidest, IsEnvelope}
use Rattle.run_laws.specs.Transitions.{Transition, LiesIn, AreConsistent}

-- x lies in a live window
pub record LiesInLive (q : Quad) (x : Transition) : Type 0 where
  pub live : IsLive q
  pub bounds : LiesIn q x

-- each transition lies in the window of its net and edge
abbrev pub LieWithin : Assignment → List Transition → Type 0
LieWithin W xs = All (λ x. LiesInLive (W x.net x.edge) x) xs

-- consistent transitions lie within the envelope
abbrev pub ConsistentLieWithinEnvelope : Type 0
ConsistentLieWithinEnvelope = (d : Parts) (levels : List ℕ) (top : List Pair) (xs : List Transition) → IsSound d
    → AreLevels d.nets levels → IsWidest d top → AreConsistent d xs → LieWithin (assigned top) xs

-- where windows hold consistent transitions, so do those that the operator makes of them
abbrev pub OperatorKeepsConsistent : Type 0
OperatorKeepsConsistent = (d : Parts) (W : Assignment) (xs : List Transition) → IsSound d → AreConsistent d xs
    → LieWithin W xs → LieWithin (operator d W) xs

-- where words can hold the envelope, consistent transitions lie within the greatest windows
abbrev pub ConsistentLieWithinGreatest : Type 0
ConsistentLieWithinGreatest = (d : Parts) (levels : List ℕ) (top high : List Pair) (xs : List Transition) → IsSound d
    → AreLevels d.nets levels → IsEnvelope d top → IsGreatestFixpoint d high → AreConsistent d xs
    → LieWithin (assigned high) xs
