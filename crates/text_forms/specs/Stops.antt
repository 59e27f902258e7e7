-- What a reader's code answers, beside what is defined: the value, its refusal, or want of memory.
use Rattle.std.specs.Prelude.{◌≡◌, ℕ, ◌<◌, List, length, Result, Ok, Err}
use Rattle.xt_lex.specs.declared.text_fault.TextFault.{TextFault}
use Rattle.xt_lex.specs.declared.text_fault.TextFault.TheVariants as faults
use Rattle.xt_model.specs.declared.code.Code.{Code}
use Rattle.text_forms.specs.Forms.{Token, Refusal}
use Rattle.text_forms.specs.Refusals.{Meant}
use Rattle.text_forms.specs.declared.refused.Refused.{Refused}
use Rattle.text_forms.specs.declared.stop.Stop.{Stop}
use Rattle.text_forms.specs.declared.stop.Stop.TheVariants as stops

-- ---- one form

-- a refusal and its line
abbrev pub refusal_of : Refused → Refusal Code
refusal_of r = record { line = r.line; code = r.code }

-- what the code reads is what is defined: the value, or the refusal
abbrev pub Reads : {A B : Type 0} → (A → B) → Result A Refused → Meant B → Type 0
Reads view (Ok x) read = read ≡ Ok (view x)
Reads view (Err r) read = read ≡ Err (refusal_of r)

-- ---- what a form or a command means

-- the code stops for want of memory, or because what is defined is refused
abbrev pub Stops : {A : Type 0} → Stop → Result A Code → Type 0
Stops stops.NoMemory read = Unit {0}
Stops (stops.Refused code) read = read ≡ Err code

-- the state behind a call is what is defined, or the call stops
abbrev pub Changes : {U A : Type 0} → Result U Stop → A → Result A Code → Type 0
Changes (Ok u) new read = read ≡ Ok new
Changes (Err stop) new read = Stops stop read

-- what a call answers, and the state behind it, are what is defined, or the call stops
abbrev pub Answers : {U A : Type 0} → Result U Stop → A → Result (U × A) Code → Type 0
Answers (Ok u) new read = read ≡ Ok (u, new)
Answers (Err stop) new read = Stops stop read

-- what a call answers is what is defined, or the call stops
abbrev pub Computes : {A B : Type 0} → (A → B) → Result A Stop → Result B Code → Type 0
Computes view (Ok x) read = read ≡ Ok (view x)
Computes view (Err stop) read = Stops stop read

-- ---- a whole text

-- the fault of a text for what stops it at this line
abbrev pub fault_at : ℕ → Stop → TextFault
fault_at line stops.NoMemory = faults.NoMemory
fault_at line (stops.Refused code) = faults.Refused line code

-- the fault is want of memory, or the refusal that is defined
abbrev pub IsRefusal : {A : Type 0} → TextFault → Meant A → Type 0
IsRefusal faults.NoMemory meant = Unit {0}
IsRefusal (faults.Refused line code) meant = meant ≡ Err (record { line = line; code = code })

-- the answer is what is defined: the value, or the refusal; or memory was wanted
abbrev pub Gives : {A B : Type 0} → (A → B) → Result A TextFault → Meant B → Type 0
Gives view (Ok x) meant = meant ≡ Ok (view x)
Gives view (Err fault) meant = IsRefusal fault meant

-- one form has been read, so that the rest means what the whole meant and has fewer tokens, or the whole is refused
abbrev pub Steps : {Sort Context State : Type 0} → (Context → List (Token Sort) → State → Meant State)
    → Context → List (Token Sort) → State → Result Context TextFault → List (Token Sort) → State → Type 0
Steps means context ts s (Ok next) rest new = (means context ts s ≡ means next rest new) × (length rest < length ts)
Steps means context ts s (Err fault) rest new = IsRefusal fault (means context ts s)
