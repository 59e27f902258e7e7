-- The command `eco`: a linked text, and a text of edits of its design.
use Rattle.std.specs.Prelude.{◌≡◌, ℕ, ◌+◌, ◌<◌, ◌⊎◌, ◌==◌, Bool, true, false, nat_lt, List, [], ◌∷◌, length, codes}
use Rattle.std.specs.Prelude.{Some, Result, Ok, Err}
use Rattle.std.specs.List.{slice_get, slice_split}
use Rattle.std.specs.Str.{bytes_eq}
use Rattle.xt_model.specs.declared.code.Code.{Code}
use Rattle.xt_model.specs.declared.code.Code.TheVariants as codes_of
use Rattle.xt_model.specs.declared.fault.LimitKind.TheVariants.{Load}
use Rattle.xt_model.specs.declared.net.Net.{Net}
use Rattle.xt_model.specs.declared.quad.Pair.{Pair}
use Rattle.xt_model.specs.Parts.{Parts}
use Rattle.xt_meaning.specs.Barrier.{IsWithinEnvelope}
use Rattle.xt_meaning.specs.Envelope.{IsAccepted, IsEnvelope}
use Rattle.xt_meaning.specs.Fixpoint.{IsGreatestFixpoint, IsLeastFixpoint}
use Rattle.linked_text.specs.Fields.{fields_of}
use Rattle.report_kind.specs.declared.kind.ReportKind.TheVariants.{All}
use Rattle.eco_warm.specs.declared.edit.Edit.{Edit}
use Rattle.eco_warm.specs.declared.edit.EditFault.{EditFault}
use Rattle.eco_warm.specs.declared.edit.EditFault.TheVariants as faults
use Rattle.eco_warm.specs.Edits.{edited}
use Rattle.eco_warm.specs.Possible.{IsAllowed, IsRefusalOf}
use Rattle.eco_warm.specs.Reading.{edit_in}
use Rattle.command_line.specs.Words.{Text}
use Rattle.command_line.specs.declared.words.EcoJob.{EcoJob}
use Rattle.call_meaning.specs.declared.refusal.TextRefusal.TheVariants.{At, Beyond}
use Rattle.call_meaning.specs.declared.refusal.FileRefusal.TheVariants.{Content}
use Rattle.call_meaning.specs.declared.refusal.Refusal.TheVariants.{File}
use Rattle.call_meaning.specs.Outcome.{Contents, Outcome, refuses, FileMeans, LinkedMeans, DesignMeans, LimitsMean}
use Rattle.call_meaning.specs.Outcome.{AreBounds, KeepsLimits, counted_by}

-- the most edits of a text
abbrev pub most_edits : ℕ
most_edits = 1024

-- the lines of a text, and what comes after its last newline
abbrev pub lines_of : Text → List Text
lines_of bytes = slice_split (λ b. b == 10) bytes

-- ---- refusals

-- the file of edits is refused at this line
abbrev pub refused_at : Text → ℕ → Code → Outcome
refused_at file line code = refuses (File file (Content (At line code)))

-- why this line gives no design: its code, or the load of a net of the design, with the net's name
abbrev pub FaultMeans : Text → ℕ → Parts → EditFault → Outcome → Type 0
FaultMeans file line d faults.E1 outcome = outcome ≡ refused_at file line codes_of.E1
FaultMeans file line d faults.E2 outcome = outcome ≡ refused_at file line codes_of.E2
FaultMeans file line d faults.E3 outcome = outcome ≡ refused_at file line codes_of.E3
FaultMeans file line d faults.E4 outcome = outcome ≡ refused_at file line codes_of.E4
FaultMeans file line d (faults.Load net value) outcome = (n : Net) × (slice_get d.nets net.0 ≡ Some n)
    × (outcome ≡ refuses (File file (Content (Beyond (record { what = Load; name = Some n.name; value = value })))))
FaultMeans file line d faults.NoMemory outcome = ⊥

-- ---- lines

-- an edit of the design: it is refused; or the design allows it, and the design after it leads to the outcome
abbrev pub EditMeans : Text → ℕ → Edit → Parts → (Parts → Type 0) → Outcome → Type 0
EditMeans file line e d Leads outcome =
    ((fault : EditFault) × IsRefusalOf e d.nets fault × FaultMeans file line d fault outcome)
    ⊎ (IsAllowed e d.nets × Leads (edited e d))

-- what a line says that is not the last: no edit, or one
abbrev pub ReadMeans : Text → ℕ → Result Edit EditFault → Parts → (Parts → Type 0) → Outcome → Type 0
ReadMeans file line (Err fault) d Leads outcome = FaultMeans file line d fault outcome
ReadMeans file line (Ok e) d Leads outcome = EditMeans file line e d Leads outcome

-- what comes after the last line: nothing, and the report of the design is meant; or something
abbrev pub EndMeans : Text → ℕ → List Text → Parts → Outcome → Type 0
EndMeans file line ([] ∷ []) d outcome = DesignMeans All d outcome
EndMeans file line rest d outcome = outcome ≡ refused_at file line codes_of.E1

-- the one where the test holds, and else the other
abbrev pub IfElse : Bool → Type 0 → Type 0 → Type 0
IfElse true M N = M
IfElse false M N = N

-- a line after this many edits, and what comes after it: the last line; or the next edit, of which there are not too
-- many
abbrev pub LineMeans : Text → ℕ → Text → List Text → Parts → (Parts → Type 0) → Outcome → Type 0
LineMeans file count line rest d Leads outcome =
    IfElse (bytes_eq line (codes "end")) (EndMeans file (count + 2) rest d outcome)
    (IfElse (nat_lt count most_edits) (ReadMeans file (count + 1) (edit_in d.nets (fields_of line)) d Leads outcome)
    (outcome ≡ refused_at file (count + 1) codes_of.E1))

-- the lines that are left after this many edits: each ends with a newline, and the envelope of the design after an edit
-- is tested before the next line is looked at
abbrev pub LinesMean : Text → List Text → ℕ → Parts → Outcome → Type 0
LinesMean file [] count d outcome = outcome ≡ refused_at file (count + 1) codes_of.E1
LinesMean file (rest ∷ []) count d outcome = outcome ≡ refused_at file (count + 1) codes_of.E1
LinesMean file (line ∷ next ∷ rest) count d outcome =
    LineMeans file count line (next ∷ rest) d
    (λ e. LimitsMean e (LinesMean file (next ∷ rest) (count + 1) e outcome) outcome) outcome

-- ---- the command

-- a text of edits, for a design whose envelope is tested first
abbrev pub EditsMean : Text → Text → Parts → Outcome → Type 0
EditsMean file bytes d outcome = LimitsMean d (LinesMean file (lines_of bytes) 0 d outcome) outcome

-- a linked text is read, and then a text of edits; then the edits are made in their order, of the design by the Miller
-- numbers of the words where they give any
abbrev pub EcoMeans : EcoJob → Contents → Outcome → Type 0
EcoMeans job content outcome =
    FileMeans job.file content (λ bytes.
    LinkedMeans job.file bytes (λ d.
    FileMeans job.edits content (λ lines.
    EditsMean job.edits lines (counted_by job.miller d) outcome) outcome) outcome) outcome

-- ---- what the steps of the command come to

-- the lines are all read: what the design after this many edits means, they mean
abbrev pub Ends : Text → List Text → ℕ → Type 0
Ends file lines count = (d : Parts) (o : Outcome) → DesignMeans All d o → LinesMean file lines count d o

-- the next edit is read: what it and the lines after it mean, the lines mean
abbrev pub GoesOn : Text → List Text → ℕ → Text → List Text → Type 0
GoesOn file lines count line rest = (d : Parts) (o : Outcome)
    → ReadMeans file (count + 1) (edit_in d.nets (fields_of line)) d
    (λ e. LimitsMean e (LinesMean file rest (count + 1) e o) o) o
    → LinesMean file lines count d o

-- a fault that is of a net is of one of these
abbrev pub IsOfDesign : List Net → EditFault → Type 0
IsOfDesign nets faults.E1 = Unit {0}
IsOfDesign nets faults.E2 = Unit {0}
IsOfDesign nets faults.E3 = Unit {0}
IsOfDesign nets faults.E4 = Unit {0}
IsOfDesign nets (faults.Load net value) = net.0 < length nets
IsOfDesign nets faults.NoMemory = Unit {0}

-- the second design is the first one after the edit that a line says, and that it allows
pub record IsAfterLine (d : Parts) (line : Text) (after : Parts) : Type 0 where
  pub edit : Edit
  pub said : edit_in d.nets (fields_of line) ≡ Ok edit
  pub allowed : IsAllowed edit d.nets
  pub made : after ≡ edited edit d

-- ---- a solved design

-- these windows are the envelope of the design, and keep the limits
pub record HasEnvelope (d : Parts) (top : List Pair) : Type 0 where
  pub envelope : IsEnvelope d top
  pub accepted : IsAccepted d top

-- the design keeps its limits; these are its least and its greatest windows; and they lie within its envelope
pub record AreFound (d : Parts) (low high : List Pair) : Type 0 where
  pub keeps : KeepsLimits d
  pub least : IsLeastFixpoint d low
  pub greatest : IsGreatestFixpoint d high
  pub low_within : IsWithinEnvelope d low
  pub high_within : IsWithinEnvelope d high
  pub bounds : AreBounds d low high
