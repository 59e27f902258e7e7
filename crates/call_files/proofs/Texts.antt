-- What the reading of a file and the reading of its text come to together.
use Rattle.std.proofs.Common.{◌≡◌, ℕ, ◌≤◌, length, Result, Ok, Err, IfOk, IfErr, IfSome, ap}
use Rattle.xt_io.specs.Outside.{KeepsCounts}
use Rattle.xt_model.specs.declared.code.Code.{Code}
use Rattle.xt_lex.specs.declared.text_fault.TextFault.{TextFault}
use Rattle.text_forms.specs.Forms.{Refusal as Place}
use Rattle.text_forms.specs.Stops.{Gives}
use Rattle.command_line.specs.Words.{Text}
use Rattle.call_meaning.specs.Call.{Answers, IsStop, Stops}
use Rattle.call_meaning.specs.FailureWords.{most_bytes}
use Rattle.call_meaning.specs.Linking.{FileAndText, HoldsText, TextMeans, by_line}
use Rattle.call_meaning.specs.Outcome.{Contents, FileMeans}
use Rattle.call_meaning.specs.declared.refusal.Stop.{Stop}
use Rattle.call_meaning.specs.declared.refusal.TextRefusal.{TextRefusal}
use Rattle.call_meaning.proofs.Blocks.{text_at_fault}
use Rattle.call_meaning.proofs.Lifts.{answers_unread, file_leads, file_stops, stops_first}
use Rattle.call_files.specs.Texts.{in_file}

-- a value that a text gives is as its reader says
pub value_is : {V : Type 0} (file : Text) (IsValue : V → Type 0) (r : Result V TextFault) → IfOk r IsValue → IfOk (in_file file r) IsValue
value_is file IsValue (Ok v) h = h
value_is file IsValue (Err fault) h = tt

-- a file that gives no bytes
pub unread : {V : Type 0} (file : Text) (content : Contents) (Meant : Text → Result V TextRefusal → Type 0) (before now : Text → ℕ) (stop : Stop)
    → Stops stop (FileMeans file content (λ _. ⊥)) before now → Stops stop (FileAndText file content Meant (λ _. ⊥)) before now
unread file content Meant before now stop h =
    stops_first (FileMeans file content (λ _. ⊥)) (FileAndText file content Meant (λ _. ⊥)) (λ o h. file_stops file content _ o h) before now stop h

-- the bytes of a file, read under its name
module _ {V : Type 0} (file name : Text) (content : Contents) (bytes : Text) (before now : Text → ℕ) (is : name ≡ file)
    (held : IfSome (content file) (λ whole. bytes ≡ whole)) (fits : length bytes ≤ most_bytes) (kept : KeepsCounts before now) where
  -- and then their text, by its first place
  pub by_place : (meant : Text → Result V (Place Code)) (r : Result V TextFault) → Gives (λ v. v) r (meant bytes)
      → Answers (in_file name r) (HoldsText file content (λ b x. by_line (meant b) ≡ x)) (FileAndText file content (λ b x. by_line (meant b) ≡ x) (λ _. ⊥)) before now
  by_place meant (Ok v) h = (record { bytes = bytes; held = held; fits = fits; means = ap by_line h }, kept)
  by_place meant (Err fault) h =
      text_at_fault file name content (λ b x. by_line (meant b) ≡ x) bytes fault before now is held fits kept (λ line code e. ap by_line (rw e at h))

  -- and then their text, by a reader that answers for it
  pub by_reader : (Meant : Text → Result V TextRefusal → Type 0) (r : Result V Stop) → IfOk r (λ v. Meant bytes (Ok v))
      → IfErr r (IsStop (TextMeans name bytes Meant (λ _. ⊥)) (λ _. ⊥)) → Answers r (HoldsText file content Meant) (FileAndText file content Meant (λ _. ⊥)) before now
  by_reader Meant r ok stop =
      answers_unread (TextMeans file bytes Meant (λ _. ⊥)) (FileAndText file content Meant (λ _. ⊥))
      (λ o h. file_leads file content (λ b. TextMeans file b Meant (λ _. ⊥) o) o bytes held fits h)
      (λ v. Meant bytes (Ok v)) (HoldsText file content Meant) (λ v m. record { bytes = bytes; held = held; fits = fits; means = m })
      before now r kept ok (rw is at stop)
