-- What a step does that reads a file and then its text.
use Rattle.std.specs.Prelude.{◌≡◌, ℕ, List, [], ◌∷◌, Option, Result, Ok, Err}
use Rattle.xt_io.specs.Outside.{AreOpened}
use Rattle.xt_lex.specs.declared.text_fault.TextFault.{TextFault}
use Rattle.command_line.specs.Words.{Text}
use Rattle.call_meaning.specs.Call.{Answers}
use Rattle.call_meaning.specs.Outcome.{Contents}
use Rattle.call_meaning.specs.Linking.{FileAndText, HoldsText, stop_at}
use Rattle.call_meaning.specs.declared.refusal.Stop.{Stop}
use Rattle.call_meaning.specs.declared.refusal.TextRefusal.{TextRefusal}

-- what the reading of a text comes to, where a file of this name holds it
abbrev pub in_file : {V : Type 0} → Text → Result V TextFault → Result V Stop
in_file file (Ok value) = Ok value
in_file file (Err fault) = Err (stop_at file fault)

-- the file was read and then its text: the value that it holds, or why there is none
pub record ReadsText {F V : Type 0} (content : F → Contents) (faults : F → Text → ℕ) (opened : F → Option (List Text))
    (file : Text) (Meant : Text → Result V TextRefusal → Type 0) (before after : F) (result : Result V Stop)
    : Type 0 where
  pub answer : Answers result (HoldsText file (content before) Meant)
      (FileAndText file (content before) Meant (λ _. ⊥)) (faults before) (faults after)
  -- all files hold what they held
  pub kept : (m : Text) → content after m ≡ content before m
  -- this file alone was opened, once
  pub once : AreOpened (file ∷ []) (opened before) (opened after)
