use Rattle.std.proofs.Common.{◌≡◌, ◌++◌, map, take}
use Rattle.clap.specs.Words.{app_of}
use Rattle.command_grammar.specs.Forms.{texts_of}
use Rattle.command_grammar.specs.Reading.{app_with, option_rule, positional_rule}
use Rattle.command_grammar.proofs.grammar.command.Given as goal

-- the command has the options, and the positional words so far
abbrev pub invariant-loop-name : goal.invariant-loop-name
invariant-loop-name l = app_of l.command ≡ app_with (map option_rule (texts_of l.fn.rule.options.now) ++ map positional_rule (texts_of (take l.name-index l.name-items)))
