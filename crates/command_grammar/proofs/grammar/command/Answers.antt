use Rattle.std.proofs.Common.{◌∙◌, ◌++◌, ap, append-nil, map, sym}
use Rattle.std.proofs.lemmas.List.{take_all}
use Rattle.std.proofs.lemmas.Result.{err_from_is_err_and}
use Rattle.command_grammar.specs.Forms.{texts_of}
use Rattle.command_grammar.specs.Reading.{app_with, option_rule, positional_rule}
use Rattle.command_grammar.proofs.Builds.{one_more}
use Rattle.command_grammar.proofs.grammar.command.Goals as goal

pub loop-name-preserved : goal.loop-name-preserved
loop-name-preserved c =
    one_more (λ name. name.now) positional_rule (map option_rule (texts_of c.args.rule.now.options.now)) c.args.rule.now.positionals.now c.loop-name.name-index _ _ _ _
    c.loop-name-test.true c.loop-name.invariant (c.in_ok-command-2.ensures.shape c.positional_arg.ensures.local) c.positional_arg.ensures.rule

pub loop-name-init : goal.loop-name-init
loop-name-init c = c.in_ok-command.ensures ∙ ap app_with (sym (append-nil (map option_rule (texts_of c.args.rule.now.options.now))))

pub returns-clause-app : goal.returns-clause-app
returns-clause-app c =
    c.loop-name.invariant ∙ ap (λ names. app_with (map option_rule (texts_of c.args.rule.now.options.now) ++ map positional_rule (texts_of names)))
    (take_all c.loop-name.name-index c.args.rule.now.positionals.now c.loop-name-test.false)

pub returns-in_err-command-clause-app : goal.returns-in_err-command-clause-app
returns-in_err-command-clause-app c = rw (err_from_is_err_and c.from_residual.result c.from_residual.ensures.1).1 tt

pub returns-in_err-command-2-clause-app : goal.returns-in_err-command-2-clause-app
returns-in_err-command-2-clause-app c = rw (err_from_is_err_and c.from_residual-in_err-command-2.result c.from_residual-in_err-command-2.ensures.1).1 tt
