-- What a function returned against what the definition gives; want of memory says nothing.
use Rattle.std.specs.Prelude.{◌≡◌, Result, Ok, Err}
use Rattle.xt_model.specs.declared.code.Code.{Code}
use Rattle.linked_text.specs.declared.fault.Fault.{Fault}
use Rattle.linked_text.specs.declared.fault.LineStop.{LineStop}
use Rattle.linked_text.specs.declared.fault.LineStop.TheVariants as lines
use Rattle.linked_text.specs.declared.fault.Stop.{Stop}
use Rattle.linked_text.specs.declared.fault.Stop.TheVariants as stops

abbrev pub LineFails : {Y : Type 0} → LineStop → Result Y Code → Type 0
LineFails lines.NoMemory read = Unit {0}
LineFails (lines.Refused code) read = read ≡ Err code

-- the value of a line, seen by view, or its first refusal
abbrev pub LineGives : {X Y : Type 0} → (X → Y) → Result X LineStop → Result Y Code → Type 0
LineGives view (Ok x) read = read ≡ Ok (view x)
LineGives view (Err e) read = LineFails e read

abbrev pub Fails : {Y : Type 0} → Stop → Result Y Fault → Type 0
Fails stops.NoMemory read = Unit {0}
Fails (stops.At fault) read = read ≡ Err fault

-- the value of bytes, seen by view, or their first refusal
abbrev pub Gives : {X Y : Type 0} → (X → Y) → Result X Stop → Result Y Fault → Type 0
Gives view (Ok x) read = read ≡ Ok (view x)
Gives view (Err e) read = Fails e read
