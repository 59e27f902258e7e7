-- What a refused text is not, and that different designs have different texts.
use Rattle.std.proofs.Common.{◌≡◌, ℕ, List, Option, Result, Ok, Err, IfOk, sym, subst, ◌∙◌}
use Rattle.xt_model.specs.declared.fault.LimitKind.{LimitKind}
use Rattle.xt_model.specs.declared.code.Code.{Code}
use Rattle.xt_model.specs.Parts.{Parts}
use Rattle.xt_model.specs.Sound.{IsSound}
use Rattle.text_lines.specs.Lines.{text_of}
use Rattle.linked_text.specs.declared.fault.Fault.{Fault}
use Rattle.linked_text.specs.declared.fault.LinkedFault.{LinkedFault}
use Rattle.linked_text.specs.declared.fault.LinkedFault.TheVariants as faults
use Rattle.linked_text.specs.Linked.{linked}
use Rattle.linked_text.specs.Answers.{IsTextOf, IsRefusalWithLine, AnswersWithLine}
use Rattle.linked_text.specs.Meaning.{Means}
use Rattle.linked_text.proofs.WholeLaws.{accepted, means_design, means_one, same_texts}

ok_no_err : (d : Parts) (f : Fault) → ◌≡◌ {A = Result Parts Fault} (Ok d) (Err f) → ⊥
ok_no_err d f e = absurd cc

-- a refused text is of no design
pub not_accepted : (bytes : List ℕ) (e : LinkedFault) → IsRefusalWithLine bytes e → (d : Parts) → IsTextOf bytes d → ⊥
not_accepted bytes e refusal d of = ok_no_err d refusal.0 (means_one bytes (Ok d) (Err refusal.0) (means_design bytes d of) refusal.1)

-- an accepted text is of no other design
pub only_design : (bytes : List ℕ) (d : Parts) → Means bytes (Ok d) → (e : Parts) → IsSound e → bytes ≡ text_of (linked e) → d ≡ e
only_design bytes d means e sound written =
    let of = accepted bytes d means in
    same_texts d e of.sound sound (sym of.written ∙ written)

-- what an answer says
pub with_line_ok : (bytes : List ℕ) (r : Result Parts LinkedFault) → AnswersWithLine bytes r → IfOk r (IsTextOf bytes)
with_line_ok bytes (Ok d) t = accepted bytes d t
with_line_ok bytes (Err e) t = tt

pub with_line_only : (bytes : List ℕ) (r : Result Parts LinkedFault) → AnswersWithLine bytes r → IfOk r (λ d. (e : Parts) → IsSound e → bytes ≡ text_of (linked e) → d ≡ e)
with_line_only bytes (Ok d) t = only_design bytes d t
with_line_only bytes (Err e) t = tt

pub with_line_refused : (bytes : List ℕ) (r : Result Parts LinkedFault) → AnswersWithLine bytes r → (line : ℕ) (code : Code) → r ≡ Err (faults.Refused line code) → (d : Parts) → IsTextOf bytes d → ⊥
with_line_refused bytes r t line code e = not_accepted bytes (faults.Refused line code) (subst (AnswersWithLine bytes) e t)

pub with_line_limited : (bytes : List ℕ) (r : Result Parts LinkedFault) → AnswersWithLine bytes r → (what : LimitKind) (name : Option (List ℕ)) (value : ℕ) → r ≡ Err (faults.Limit what name value) → (d : Parts) → IsTextOf bytes d → ⊥
with_line_limited bytes r t what name value e = not_accepted bytes (faults.Limit what name value) (subst (AnswersWithLine bytes) e t)
