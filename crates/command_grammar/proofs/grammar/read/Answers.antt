use Rattle.std.proofs.Common.{◌∙◌}
use Rattle.command_grammar.specs.Forms.{after_first, form_of, texts_of}
use Rattle.command_grammar.proofs.Accepted.{listed_is, not_listed}
use Rattle.command_grammar.proofs.grammar.read.Goals as goal

pub returns-then-not-are_listed-clause-bad : goal.returns-then-not-are_listed-clause-bad
returns-then-not-are_listed-clause-bad c = λ _.
    not_listed (form_of c.args.rule.now) (after_first c.args.words.now)
    (listed_is (texts_of c.args.rule.now.options.now) c.args.words.now c.words_after_first.result.now c.are_listed.result c.words_after_first.ensures c.are_listed.ensures ∙ c.if-not-are_listed.true)

pub matches-requires : goal.matches-requires
matches-requires c =
    listed_is (texts_of c.args.rule.now.options.now) c.args.words.now c.words_after_first.result.now c.are_listed.result c.words_after_first.ensures c.are_listed.ensures ∙ c.if-not-are_listed.false
