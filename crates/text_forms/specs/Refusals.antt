-- What a text means: a value, or its first refusal.
use Rattle.std.specs.Prelude.{ℕ, List, [], ◌∷◌, Option, Some, None, Result, Ok, Err}
use Rattle.text_forms.specs.Forms.{Refusal}
use Rattle.xt_lex.specs.Faults.{fault_of}
use Rattle.xt_lex.specs.declared.fault.LexFault.{LexFault}
use Rattle.xt_lex.specs.declared.fault.LexFault.TheVariants.{Byte, Unended}
use Rattle.xt_lex.specs.declared.rules.Rules.{Rules}
use Rattle.xt_model.specs.declared.code.Code.{Code}
use Rattle.xt_model.specs.Results.{◌>>=◌}

-- a value, or the refusal of the text
abbrev pub Meant : Type 0 → Type 0
Meant A = Result A (Refusal Code)

-- the text is refused at a line by a code
abbrev pub refuse : {A : Type 0} → ℕ → Code → Meant A
refuse line code = Err (record { line = line; code = code })

-- the refusal for a fault of the tokens, by the codes of a format: of a byte that may not stand where it stands, and of
-- a string or a comment that is open at the end
abbrev pub refusal_by : Code → Code → Option LexFault → Option (Refusal Code)
refusal_by byte early (Some (Byte line)) = Some (record { line = line; code = byte })
refusal_by byte early (Some (Unended line)) = Some (record { line = line; code = early })
refusal_by byte early _ = None

-- the refusal of a text for a fault of its tokens, if they have one
abbrev pub tokens_refused : Rules → Code → Code → List ℕ → Option (Refusal Code)
tokens_refused rules byte early bytes = refusal_by byte early (fault_of rules bytes)

-- a refusal is met before everything else
abbrev pub unless : {A : Type 0} → Option (Refusal Code) → Meant A → Meant A
unless (Some r) meant = Err r
unless None meant = meant

-- each item in turn changes a state, up to the first refusal
abbrev pub over : {A S : Type 0} → (A → S → Meant S) → List A → S → Meant S
over f [] s = Ok s
over f (x ∷ xs) s = f x s >>= over f xs
