-- What an edit makes of the window operator, and of the envelope.
use Rattle.std.specs.Prelude.{List}
use Rattle.xt_model.specs.declared.quad.Pair.{Pair}
use Rattle.xt_model.specs.Parts.{Parts}
use Rattle.xt_model.specs.Sound.{IsSound}
use Rattle.xt_model.specs.Assign.{Assignment}
use Rattle.xt_meaning.specs.Operator.{operator}
use Rattle.xt_meaning.specs.Fixpoint.{IsContained}
use Rattle.xt_meaning.specs.Envelope.{IsEnvelope, IsAccepted}
use Rattle.envelope.specs.Renewal.{IsEnvelopeBut}
use Rattle.eco_warm.specs.declared.edit.Edit.{Edit}
use Rattle.eco_warm.specs.declared.edit.Change.{Change}
use Rattle.eco_warm.specs.declared.edit.Change.TheVariants.{Shrinks, Grows, Neither}
use Rattle.eco_warm.specs.Edits.{change_of, edited, first_of, second_of}
use Rattle.eco_warm.specs.Possible.{IsAllowed, IsEditOf}

-- on every assignment the operator of the second design lies within that of the first, or contains it
abbrev pub AreOrdered : Change → Parts → Parts → Type 0
AreOrdered Shrinks before after = (W : Assignment) → IsContained (operator after W) (operator before W)
AreOrdered Grows before after = (W : Assignment) → IsContained (operator before W) (operator after W)
AreOrdered Neither before after = Unit {0}

-- an edit that is said to shrink windows gives an operator within the one before it, and one that is said to let them
-- grow an operator that contains it
abbrev pub EditsOrderOperators : Type 0
EditsOrderOperators = (d : Parts) (e : Edit) → IsSound d → IsEditOf d.nets e → IsAllowed e d.nets
    → AreOrdered (change_of d.miller e) d (edited e d)

-- the envelope of a design is that of the design after an edit, but for both nets of the edit and those that read them
abbrev pub EditsKeepEnvelopes : Type 0
EditsKeepEnvelopes = (d : Parts) (e : Edit) (top : List Pair) → IsSound d → IsEditOf d.nets e → IsEnvelope d top
    → IsAccepted d top → IsEnvelopeBut (edited e d) (first_of e) (second_of e) top
