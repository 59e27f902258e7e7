-- What the steps of `eco` come to, as the command sees it.
use Rattle.std.proofs.Common.{◌≡◌, ◌⊎◌, ℕ, ◌+◌, ◌<◌, ◌≤◌, List, length, Some, Option, IfSome, IfOk, IfErr, Result, Ok, Err, sym, subst, inl, inr}
use Rattle.std.specs.List.{slice_get}
use Rattle.xt_model.specs.declared.net.Net.{Net}
use Rattle.xt_model.specs.Levels.{AreLevelled}
use Rattle.xt_model.specs.Parts.{Parts}
use Rattle.xt_model.specs.Sound.{IsSound}
use Rattle.linked_text.specs.Fields.{fields_of}
use Rattle.eco_warm.specs.declared.edit.Edit.{Edit}
use Rattle.eco_warm.specs.declared.edit.EditFault.{EditFault}
use Rattle.eco_warm.specs.declared.edit.EditFault.TheVariants as faults
use Rattle.eco_warm.specs.Edits.{edited, first_of, second_of}
use Rattle.eco_warm.specs.Possible.{IsAllowed, IsEditOf, IsRefusalOf}
use Rattle.eco_warm.specs.Reading.{IsLineFault, edit_in}
use Rattle.eco_warm.proofs.Allowed.{edited_levels, edited_sound, there}
use Rattle.eco_warm.proofs.Named.{edit_between}
use Rattle.command_line.specs.Words.{Text}
use Rattle.call_meaning.specs.Outcome.{Contents, Outcome, refuses, unread, FileMeans, KeepsLimits, LimitsMean, SolvedMeans}
use Rattle.call_meaning.specs.FailureWords.{most_bytes}
use Rattle.call_meaning.specs.Call.{IsStop}
use Rattle.call_meaning.specs.Eco.{EditMeans, FaultMeans, GoesOn, IsAfterLine, IsOfDesign, LinesMean, ReadMeans}
use Rattle.call_meaning.specs.declared.refusal.FileRefusal.TheVariants.{TooLong}
use Rattle.call_meaning.specs.declared.refusal.Refusal.TheVariants.{File}
use Rattle.call_meaning.specs.declared.refusal.Stop.{Stop}
use Rattle.call_meaning.proofs.Lifts.{lift_stop}

-- ---- what leads further

pub limits_lead : (d : Parts) (M N : Type 0) (o : Outcome) → (M → N) → LimitsMean d M o → LimitsMean d N o
limits_lead d M N o f (inl passed) = inl passed
limits_lead d M N o f (inr kept) = inr (kept.0, f kept.1)

-- a limit that is passed, whatever would come next
pub limit_stops : (d : Parts) (Leads : Outcome → Type 0) (s : Stop) → IsStop (SolvedMeans (λ _. ⊥) d) (λ _. ⊥) s → IsStop (λ o. LimitsMean d (Leads o) o) (λ _. ⊥) s
limit_stops d Leads s h =
    lift_stop (SolvedMeans (λ _. ⊥) d) (λ o. LimitsMean d (Leads o) o) (λ _. ⊥) (λ _. ⊥) s (λ o m. limits_lead d _ (Leads o) o (λ t. absurd t.1) m) (λ _ r. r) h

module _ (file : Text) (number : ℕ) (d : Parts) (o : Outcome) (P Q : Parts → Type 0) (leads : (after : Parts) → P after → Q after) where
  pub edit_leads : (e : Edit) → EditMeans file number e d P o → EditMeans file number e d Q o
  edit_leads e (inl refused) = inl refused
  edit_leads e (inr made) = inr (made.0, leads (edited e d) made.1)

  pub read_leads : (r : Result Edit EditFault) → ReadMeans file number r d P o → ReadMeans file number r d Q o
  read_leads (Ok e) h = edit_leads e h
  read_leads (Err fault) h = h

-- ---- faults

-- a line that says no edit names no net of the design
pub line_fault : (d : Parts) (fault : EditFault) → IsLineFault fault → IsOfDesign d.nets fault
line_fault d faults.E1 h = tt
line_fault d faults.E2 h = tt
line_fault d faults.E3 h = tt
line_fault d faults.NoMemory h = tt
line_fault d faults.E4 h = absurd h
line_fault d (faults.Load net value) h = absurd h

of_some : (P : Net → Type 0) (o : Option Net) (n : Net) → o ≡ Some n → IfSome o P → P n
of_some P o n at h = subst (λ x. IfSome x P) at h

-- an edit is refused for the load of one of its two nets
pub edit_fault : (d : Parts) (e : Edit) → IsEditOf d.nets e → (fault : EditFault) → IsRefusalOf e d.nets fault → IsOfDesign d.nets fault
edit_fault d e h faults.E1 r = tt
edit_fault d e h faults.E2 r = tt
edit_fault d e h faults.E3 r = tt
edit_fault d e h faults.E4 r = tt
edit_fault d e h faults.NoMemory r = tt
edit_fault d e h (faults.Load net value) r = elim r.heavy [
  | inl x ↦
      let n = there d.nets (first_of e) h.first in
      let heavy = of_some _ (slice_get d.nets (first_of e)) n.0 n.1 x in
      subst (λ i. i < length d.nets) (sym heavy.is) h.first
  | inr y ↦
      let n = there d.nets (second_of e) h.second in
      let heavy = of_some _ (slice_get d.nets (second_of e)) n.0 n.1 y.1 in
      subst (λ i. i < length d.nets) (sym heavy.is) h.second
]

-- a line that says no edit stops there
pub read_stops : (file : Text) (number : ℕ) (d : Parts) (r : Result Edit EditFault) (fault : EditFault) (s : Stop) → r ≡ Err fault → IsStop (FaultMeans file number d fault) (λ _. ⊥) s
    → IsStop (ReadMeans file number r d (λ _. ⊥)) (λ _. ⊥) s
read_stops file number d r fault s e h = subst (λ x. IsStop (ReadMeans file number x d (λ _. ⊥)) (λ _. ⊥) s) (sym e) h

-- so does an edit that is refused
pub edit_stops : (file : Text) (number : ℕ) (d : Parts) (e : Edit) (fault : EditFault) (s : Stop) → IsRefusalOf e d.nets fault → IsStop (FaultMeans file number d fault) (λ _. ⊥) s
    → IsStop (EditMeans file number e d (λ _. ⊥)) (λ _. ⊥) s
edit_stops file number d e fault s r h = lift_stop (FaultMeans file number d fault) (EditMeans file number e d (λ _. ⊥)) (λ _. ⊥) (λ _. ⊥) s (λ o m. inl (fault, r, m)) (λ _ x. x) h

-- ---- an edit

module _ (file : Text) (number : ℕ) (d : Parts) where
  -- an edit that is refused, wherever it would lead
  pub edit_refused : (e : Edit) (Leads : Parts → Outcome → Type 0) (s : Stop) → IsStop (EditMeans file number e d (λ _. ⊥)) (λ _. ⊥) s
      → IsStop (λ o. EditMeans file number e d (λ after. Leads after o) o) (λ _. ⊥) s
  edit_refused e Leads s h =
      lift_stop (EditMeans file number e d (λ _. ⊥)) (λ o. EditMeans file number e d (λ after. Leads after o) o) (λ _. ⊥) (λ _. ⊥) s
      (λ o m. edit_leads file number d o (λ _. ⊥) (λ after. Leads after o) (λ after x. absurd x) e m) (λ _ x. x) h

  -- an edit that is made, and stops at the limits of the design after it
  pub edit_passes : (e : Edit) (after : Parts) (s : Stop) → IsAllowed e d.nets → after ≡ edited e d → IsStop (SolvedMeans (λ _. ⊥) after) (λ _. ⊥) s
      → IsStop (λ o. EditMeans file number e d (λ x. LimitsMean x ⊥ o) o) (λ _. ⊥) s
  edit_passes e after s allowed made h =
      let P : Parts → Type 0 = λ x. IsStop (SolvedMeans (λ _. ⊥) x) (λ _. ⊥) s in
      lift_stop (λ o. LimitsMean (edited e d) ⊥ o) (λ o. EditMeans file number e d (λ x. LimitsMean x ⊥ o) o) (λ _. ⊥) (λ _. ⊥) s
      (λ o m. inr (allowed, m)) (λ _ x. x) (limit_stops (edited e d) (λ _. ⊥) s (subst P made h))

  -- a line that says no edit, wherever it would lead
  pub line_refused : (r : Result Edit EditFault) (Leads : Parts → Outcome → Type 0) (s : Stop) → IsStop (ReadMeans file number r d (λ _. ⊥)) (λ _. ⊥) s
      → IsStop (λ o. ReadMeans file number r d (λ after. Leads after o) o) (λ _. ⊥) s
  line_refused r Leads s h =
      lift_stop (ReadMeans file number r d (λ _. ⊥)) (λ o. ReadMeans file number r d (λ after. Leads after o) o) (λ _. ⊥) (λ _. ⊥) s
      (λ o m. read_leads file number d o (λ _. ⊥) (λ after. Leads after o) (λ after x. absurd x) r m) (λ _ x. x) h

  -- the edit that a line says stops there
  pub line_stops : (r : Result Edit EditFault) (e : Edit) (Leads : Parts → Outcome → Type 0) (s : Stop) → r ≡ Ok e
      → IsStop (λ o. EditMeans file number e d (λ after. Leads after o) o) (λ _. ⊥) s
      → IsStop (λ o. ReadMeans file number r d (λ after. Leads after o) o) (λ _. ⊥) s
  line_stops r e Leads s is h = subst (λ x. IsStop (λ o. ReadMeans file number x d (λ after. Leads after o) o) (λ _. ⊥) s) (sym is) h

-- the design after the edit of a line is sound, and has levels
pub after_sound : (d : Parts) (line : Text) (after : Parts) → IsSound d → IsAfterLine d line after → IsSound after
after_sound d line after s h =
    subst IsSound (sym h.made) (edited_sound d h.edit s (edit_between d.nets (fields_of line) h.edit h.said) h.allowed)

pub after_levelled : (d : Parts) (line : Text) (after : Parts) → IsSound d → AreLevelled d.nets → IsAfterLine d line after → AreLevelled after.nets
after_levelled d line after s l h =
    let P : Parts → Type 0 = λ x. AreLevelled x.nets in
    subst P (sym h.made) (l.0, edited_levels d h.edit l.0 s (edit_between d.nets (fields_of line) h.edit h.said) l.1)

-- ---- lines

module _ (file : Text) (lines : List Text) (count : ℕ) (line : Text) (rest : List Text) (goes : GoesOn file lines count line rest) where
  -- what the lines after an edit mean, the lines mean
  pub lines_lead : (d after : Parts) (o : Outcome) → IsAfterLine d line after → KeepsLimits after → LinesMean file rest (count + 1) after o → LinesMean file lines count d o
  lines_lead d after o h keeps m =
      let Next : Parts → Type 0 = λ e. LimitsMean e (LinesMean file rest (count + 1) e o) o in
      let made : EditMeans file (count + 1) h.edit d Next o = inr (h.allowed, subst Next h.made (inr (keeps, m))) in
      goes d o (subst (λ r. ReadMeans file (count + 1) r d Next o) (sym h.said) made)

  -- what stops at the edit stops at the lines
  pub lines_stop : (d : Parts) (s : Stop) → IsStop (λ o. ReadMeans file (count + 1) (edit_in d.nets (fields_of line)) d (λ after. LimitsMean after ⊥ o) o) (λ _. ⊥) s
      → IsStop (LinesMean file lines count d) (λ _. ⊥) s
  lines_stop d s h =
      let r = edit_in d.nets (fields_of line) in
      lift_stop (λ o. ReadMeans file (count + 1) r d (λ after. LimitsMean after ⊥ o) o) (LinesMean file lines count d) (λ _. ⊥) (λ _. ⊥) s
      (λ o m. goes d o (read_leads file (count + 1) d o (λ after. LimitsMean after ⊥ o) (λ e. LimitsMean e (LinesMean file rest (count + 1) e o) o)
      (λ after k. limits_lead after ⊥ (LinesMean file rest (count + 1) after o) o (λ x. absurd x) k) r m)) (λ _ x. x) h

-- ---- files

-- a file whose content is as before
pub file_as : (file : Text) (content later : Contents) (Leads : Text → Type 0) (o : Outcome) → later file ≡ content file → FileMeans file later Leads o → FileMeans file content Leads o
file_as file content later Leads o same h =
    subst (λ (c : Option Text). (o ≡ unread file) ⊎ ((IfSome c (λ whole. most_bytes < length whole) × (o ≡ refuses (File file TooLong)))
    ⊎ ((bytes : Text) × IfSome c (λ whole. bytes ≡ whole) × (length bytes ≤ most_bytes) × Leads bytes))) same h

-- ---- answers

-- two facts of a value give a third
pub both_ok : {V E : Type 0} (r : Result V E) (P Q R : V → Type 0) → ((v : V) → P v → Q v → R v) → IfOk r P → IfOk r Q → IfOk r R
both_ok (Ok v) P Q R f p q = f v p q
both_ok (Err e) P Q R f p q = tt

pub each_err : {V E : Type 0} (r : Result V E) (P Q : E → Type 0) → ((e : E) → P e → Q e) → IfErr r P → IfErr r Q
each_err (Ok v) P Q f p = tt
each_err (Err e) P Q f p = f e p
