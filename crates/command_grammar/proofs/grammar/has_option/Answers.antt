use Rattle.std.proofs.Common.{◌∙◌, rules, tests}
use Rattle.std.specs.Str.{bytes_eq}
use Rattle.std.proofs.lemmas.Iterator.{YieldsList-from_slice}
use Rattle.std.proofs.lemmas.Iterator.Search.{any_from_yields_List}
use Rattle.clap.proofs.WalkLemmas.{list_any-map}
use Rattle.command_grammar.proofs.grammar.has_option.Goals as goal

pub returns : goal.returns
returns c =
    any_from_yields_List (λ option. bytes_eq option.now c.args.name.now) _ _ c.any.result c.any.ensures.ran (YieldsList-from_slice c.args.options.now cc) (λ x b q k. search (rules, tests))
    ∙ list_any-map (λ option. bytes_eq option c.args.name.now) (λ option. option.now) c.args.options.now
