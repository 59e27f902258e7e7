-- What reading a text answers; want of memory says nothing.
use Rattle.std.specs.Prelude.{◌≡◌, ℕ, List, Result, Ok, Err}
use Rattle.xt_model.specs.Parts.{Parts}
use Rattle.xt_model.specs.Sound.{IsSound}
use Rattle.xt_model.specs.Levels.{AreLevelled}
use Rattle.text_lines.specs.Lines.{text_of}
use Rattle.linked_text.specs.Linked.{linked}
use Rattle.linked_text.specs.declared.fault.Fault.{Fault}
use Rattle.linked_text.specs.declared.fault.LinkedFault.{LinkedFault}
use Rattle.linked_text.specs.declared.fault.LinkedFault.TheVariants as faults
use Rattle.linked_text.specs.declared.fault.Stop.{Stop}
use Rattle.linked_text.specs.declared.fault.Stop.TheVariants as stops
use Rattle.linked_text.specs.Meaning.{Means, with_line}

-- the bytes are the text of this design, which is sound and has levels
pub record IsTextOf (bytes : List ℕ) (d : Parts) : Type 0 where
  pub sound : IsSound d
  pub levelled : AreLevelled d.nets
  pub written : bytes ≡ text_of (linked d)

-- the design or the first refusal that the text means
abbrev pub Answers : List ℕ → Result Parts Stop → Type 0
Answers bytes (Ok d) = Means bytes (Ok d)
Answers bytes (Err stops.NoMemory) = Unit {0}
Answers bytes (Err (stops.At fault)) = Means bytes (Err fault)

-- a refusal that the text means, with the number of its line
abbrev pub IsRefusalWithLine : List ℕ → LinkedFault → Type 0
IsRefusalWithLine bytes e = (fault : Fault) × Means bytes (Err fault) × (e ≡ with_line bytes fault)

abbrev pub IsRefusalOf : List ℕ → LinkedFault → Type 0
IsRefusalOf bytes faults.NoMemory = Unit {0}
IsRefusalOf bytes (faults.Refused line code) = IsRefusalWithLine bytes (faults.Refused line code)
IsRefusalOf bytes (faults.Limit what name value) = IsRefusalWithLine bytes (faults.Limit what name value)

-- the design that the text means, or its first refusal with its line
abbrev pub AnswersWithLine : List ℕ → Result Parts LinkedFault → Type 0
AnswersWithLine bytes (Ok d) = Means bytes (Ok d)
AnswersWithLine bytes (Err e) = IsRefusalOf bytes e
