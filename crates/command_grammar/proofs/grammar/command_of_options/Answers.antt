use Rattle.std.proofs.Common.{[]}
use Rattle.command_grammar.specs.Reading.{option_rule}
use Rattle.command_grammar.proofs.Builds.{one_more}
use Rattle.command_grammar.proofs.grammar.command_of_options.Goals as goal

pub loop-name-preserved : goal.loop-name-preserved
loop-name-preserved c =
    one_more (λ name. name.now) option_rule [] c.args.options.now c.loop-name.name-index _ _ _ _ c.loop-name-test.true c.loop-name.invariant
    (c.in_ok-command.ensures.shape c.option_arg.ensures.local) c.option_arg.ensures.rule
