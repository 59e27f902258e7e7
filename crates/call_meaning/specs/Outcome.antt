-- What a call comes to, and the steps that its commands share: a file, a linked text, a design.
use Rattle.std.specs.Prelude.{◌≡◌, ℕ, ℤ, ◌<◌, ◌≤◌, ◌⊎◌, List, length, Option, Some, None, Err, IfSome}
use Rattle.xt_model.specs.declared.quad.Pair.{Pair}
use Rattle.xt_model.specs.declared.net.Net.{Net}
use Rattle.std.specs.List.{slice_get}
use Rattle.xt_model.specs.Assign.{assigned}
use Rattle.xt_model.specs.Miller.{MillerNumbers}
use Rattle.xt_model.specs.Parts.{Parts}
use Rattle.linked_text.specs.declared.fault.Fault.{Fault}
use Rattle.linked_text.specs.declared.fault.Fault.TheVariants as faults
use Rattle.linked_text.specs.Answers.{IsTextOf}
use Rattle.linked_text.specs.Meaning.{line_number}
use Rattle.linked_text.specs.Meaning as linked_text
use Rattle.xt_meaning.specs.Envelope.{IsWidest, IsAccepted}
use Rattle.xt_meaning.specs.Fixpoint.{IsContained, IsFixpoint}
use Rattle.report_text.specs.Report.{IsReport}
use Rattle.envelope.specs.Firsts.{IsFirstPassed}
use Rattle.envelope.specs.declared.fault.What.{What}
use Rattle.report_kind.specs.declared.kind.ReportKind.{ReportKind}
use Rattle.run_laws.specs.Transitions.{Transition, AreConsistent}
use Rattle.run_laws.specs.Laws.{LieWithin}
use Rattle.command_line.specs.Words.{Text}
use Rattle.call_meaning.specs.FailureWords.{most_bytes}
use Rattle.call_meaning.specs.declared.refusal.PassedLimit.{PassedLimit}
use Rattle.call_meaning.specs.declared.refusal.Refusal.{Refusal}
use Rattle.call_meaning.specs.declared.refusal.DesignRefusal.TheVariants.{Limit}
use Rattle.call_meaning.specs.declared.refusal.TextRefusal.{TextRefusal}
use Rattle.call_meaning.specs.declared.refusal.TextRefusal.TheVariants.{At, Beyond}
use Rattle.call_meaning.specs.declared.refusal.FileRefusal.TheVariants.{TooLong, Content}
use Rattle.call_meaning.specs.declared.refusal.Refusal.TheVariants.{File, Design}

-- what the file of each name holds, where that is known
abbrev pub Contents : Type 0
Contents = Text → Option Text

-- what words and files come to: a text to print; a refusal, which has its status and its line; or a file that cannot
-- be read, all files before it being accepted
pub data Outcome : Type 0 where
  prints : Text → Outcome
  refuses : Refusal → Outcome
  unread : Text → Outcome

-- ---- a file

-- a file of a command: it cannot be read; or it has too many bytes; or it holds bytes that lead to the outcome, no more
-- than a file may have, and its content where that is known
abbrev pub FileMeans : Text → Contents → (Text → Type 0) → Outcome → Type 0
FileMeans file content Leads outcome =
    (outcome ≡ unread file)
    ⊎ ((IfSome (content file) (λ whole. most_bytes < length whole) × (outcome ≡ refuses (File file TooLong)))
    ⊎ ((bytes : Text) × IfSome (content file) (λ whole. bytes ≡ whole) × (length bytes ≤ most_bytes) × Leads bytes))

-- ---- a linked text

-- the bytes are the linked text of this design, which is sound and has levels
abbrev pub IsDesignText : Text → Parts → Type 0
IsDesignText bytes d = IsTextOf bytes d

-- why a linked text is refused: its first refusal, by the line from which on so many newlines are left, or by the
-- limit that it passes
abbrev pub why_refused : Text → Fault → TextRefusal
why_refused bytes (faults.Refused left code) = At (line_number bytes left) code
why_refused bytes (faults.Limit what name value) = Beyond (record { what = what; name = name; value = value })

-- the bytes of a file as a linked text: they mean a refusal; or their design leads to the outcome
abbrev pub LinkedMeans : Text → Text → (Parts → Type 0) → Outcome → Type 0
LinkedMeans file bytes Leads outcome =
    ((fault : Fault) × linked_text.Means bytes (Err fault)
    × (outcome ≡ refuses (File file (Content (why_refused bytes fault)))))
    ⊎ ((d : Parts) × IsDesignText bytes d × Leads d)

-- ---- a design

-- a design whose couplings count by these Miller numbers, where there are any, in place of its own
abbrev pub counted_by : Option MillerNumbers → Parts → Parts
counted_by None d = d
counted_by (Some m) d = record d { miller = m }

-- in the envelope, where everything overlaps, this is the first limit that is passed
pub record IsPassed (d : Parts) (passed : PassedLimit What ℤ) : Type 0 where
  pub number : ℕ
  pub net : Net
  pub there : slice_get d.nets number ≡ Some net
  pub called : passed.name ≡ Some net.name
  pub first : IsFirstPassed d number passed.what passed.value

-- in the envelope no limit is passed
pub record KeepsLimits (d : Parts) : Type 0 where
  pub envelope : List Pair
  pub widest : IsWidest d envelope
  pub accepted : IsAccepted d envelope

-- every fixpoint contains the one and lies within the other; and all transitions that explain one another lie within
-- the other
pub record AreBounds (d : Parts) (low high : List Pair) : Type 0 where
  pub above : (v : List Pair) → IsFixpoint d v → IsContained (assigned low) (assigned v)
  pub below : (v : List Pair) → IsFixpoint d v → IsContained (assigned v) (assigned high)
  pub consistent : (xs : List Transition) → AreConsistent d xs → LieWithin (assigned high) xs

-- the text is the report, of this kind, of the design's least and greatest fixpoint; every fixpoint contains the least
-- and lies within the greatest; and all transitions that explain one another lie within the greatest
pub record IsSolution (kind : ReportKind) (d : Parts) (text : Text) : Type 0 where
  pub report : IsReport kind d text
  pub bounds : AreBounds d report.low report.high

-- the envelope of a design passes a limit; or it keeps the limits, and what comes next leads to the outcome
abbrev pub LimitsMean : Parts → Type 0 → Outcome → Type 0
LimitsMean d Leads outcome =
    ((passed : PassedLimit What ℤ) × IsPassed d passed × (outcome ≡ refuses (Design (Limit passed))))
    ⊎ (KeepsLimits d × Leads)

-- a design that is solved: where it keeps the limits, such a text is printed
abbrev pub SolvedMeans : (Text → Type 0) → Parts → Outcome → Type 0
SolvedMeans IsText d outcome = LimitsMean d ((text : Text) × IsText text × (outcome ≡ prints text)) outcome

-- the text is its report
abbrev pub DesignMeans : ReportKind → Parts → Outcome → Type 0
DesignMeans kind d outcome = SolvedMeans (IsSolution kind d) d outcome

-- ---- the report of a linked text

-- the file is read, its text is that of a design, and the design is solved, by these Miller numbers where there are any
abbrev pub TextReportMeans : Text → Option MillerNumbers → ReportKind → Contents → Outcome → Type 0
TextReportMeans file miller kind content outcome =
    FileMeans file content (λ bytes.
    LinkedMeans file bytes (λ d.
    DesignMeans kind (counted_by miller d) outcome) outcome) outcome
