-- What the values of the code stand for.
use Rattle.std.specs.Prelude.{◌≡◌, Bool, true, false, ℤ, pos, ◌≤ℤ◌, IfSome, option_map, Result, Ok, Err}
use Rattle.sdc_words.specs.View.{word_text}
use Rattle.xt_model.specs.declared.code.Code.{Code}
use Rattle.xt_number.specs.declared.fault.NumberFault.{NumberFault}
use Rattle.xt_number.specs.declared.fault.NumberFault.TheVariants.{Form}
use Rattle.sdc_forms.specs.declared.arranged.Given.{Given}
use Rattle.sdc_forms.specs.declared.statement.Statement.{Statement}
use Rattle.sdc_forms.specs.declared.statement.Statement.TheVariants as statements
use Rattle.sdc_forms.specs.Arranged.{GivenText}
use Rattle.sdc_forms.specs.Statement.{Nothing, Units, Clock, InputDelay, OutputDelay, InputTransition, Load}
use Rattle.sdc_forms.specs.Statement as meant

-- an option that is given
abbrev pub given_text : Given → GivenText
given_text g = record { name = g.name; value = option_map word_text g.value }

-- what a command says
abbrev pub statement_text : Statement → meant.Statement
statement_text statements.Nothing = Nothing
statement_text (statements.Units time cap) = Units time cap
statement_text (statements.Clock name period waveform source) =
    Clock (option_map (λ t. t.now) name) period.now (option_map (λ t. t.now) waveform) (word_text source)
statement_text (statements.InputDelay number clock picked ports) =
    InputDelay number.now (word_text clock) picked (word_text ports)
statement_text (statements.OutputDelay number clock picked ports) =
    OutputDelay number.now (word_text clock) picked (word_text ports)
statement_text (statements.InputTransition number picked ports) = InputTransition number.now picked (word_text ports)
statement_text (statements.Load number ports) = Load number.now (word_text ports)

-- the power of ten of a unit: from 0 to 9
abbrev pub IsPower : ℤ → Type 0
IsPower k = (pos 0 ≤ℤ k) × (k ≤ℤ pos 9)

-- the units that a command gives have such powers
abbrev pub HasPowers : Statement → Type 0
HasPowers (statements.Units time cap) = IfSome time IsPower × IfSome cap IsPower
HasPowers _ = Unit {0}

-- the answer that a text is no number
abbrev pub is_form : Result ℤ NumberFault → Bool
is_form (Err Form) = true
is_form _ = false
