-- What a whole SDC text means for a netlist: the constraints, or the first refusal in the order of the commands.
use Rattle.std.specs.Prelude.{ℕ, ℤ, List, map, Result, Ok, Err}
use Rattle.text_forms.specs.Forms.{at_line}
use Rattle.text_forms.specs.Refusals.{Meant, over, tokens_refused, unless}
use Rattle.xt_lex.specs.declared.rules.Rules.TheVariants.{Sdc}
use Rattle.xt_model.specs.declared.code.Code.{Code}
use Rattle.xt_model.specs.Results.{◌>>=◌}
use Rattle.xt_model.specs.declared.code.Code.TheVariants.{C1}
use Rattle.verilog_net.specs.Nets.{Nets}
use Rattle.sdc_words.specs.Words.{CommandText, commands_of}
use Rattle.sdc_forms.specs.Statement.{statement_of_words}
use Rattle.sdc_read.specs.declared.constraints.Constraints.{Constraints}
use Rattle.sdc_read.specs.Ports.{settled}
use Rattle.sdc_read.specs.Meaning.{State, nothing, means}

-- what a command means: its form comes first
abbrev pub command_means : Nets → CommandText → State → Result State Code
command_means nets c s = statement_of_words c.words >>= λ statement. means nets statement s

-- what commands mean, one after another
abbrev pub commands_mean : Nets → List CommandText → State → Meant State
commands_mean nets = over (λ c s. at_line c.line (command_means nets c s))

-- the constraints of a state
abbrev pub constraints_in : Meant State → Meant Constraints
constraints_in (Ok s) = Ok (record { clock = s.clock; ports = map settled s.ports })
constraints_in (Err r) = Err r

-- the constraints that a text means for the nets of a module, where times and capacitances are counted by these powers
-- of ten until the text gives units
unfoldable pub constraints_of : List ℕ → Nets → ℤ → ℤ → Meant Constraints
constraints_of bytes nets time cap =
    unless (tokens_refused Sdc C1 C1 bytes) (constraints_in (commands_mean nets (commands_of bytes) (nothing time cap)))
