use Rattle.std.proofs.Common.{rules, w64, ◌∙◌, subst, sym}
use Rattle.std.proofs.lemmas.Int.{to_z-of_z}
use mir.Val.{SFits}
use Rattle.xt_model.specs.Quads.{IsBound}
use Rattle.window_words.proofs.Holding.{loads_same, rested}
use Rattle.chaos_run.proofs.Looked.{number_low, bound_found, bound_ranges}
use Rattle.chaos_run.proofs.look.load_bound.Goals as goal

pub bound_of-requires : goal.bound_of-requires
bound_of-requires c = number_low c.args.first.now.view c.load.new.pass.view c.args.word c.load.result c.requires.alone c.load.ensures.loaded

pub returns-clause-bound : goal.returns-clause-bound
returns-clause-bound c =
    let fits : SFits w64 c.bound_of.result = search rules in
    to_z-of_z w64 c.bound_of.result fits ∙ (c.bound_of.ensures ∙ bound_found c.args.first.now.view c.load.new.pass.view c.args.word c.load.result c.requires.alone c.load.ensures.loaded)

pub returns-clause-range : goal.returns-clause-range
returns-clause-range c =
    let fits : SFits w64 c.bound_of.result = search rules in
    subst IsBound (sym (to_z-of_z w64 c.bound_of.result fits ∙ c.bound_of.ensures))
    (bound_ranges c.args.first.now.view c.load.new.pass.view c.args.word c.load.result c.requires.alone c.load.ensures.loaded)

pub returns-clause-rested : goal.returns-clause-rested
returns-clause-rested c = rested c.args.first.now.view c.load.new.pass.view c.args.word c.load.result c.requires.alone c.load.ensures.loaded

pub load-requires-clause-own : goal.load-requires-clause-own
load-requires-clause-own c = c.requires.own

pub load-requires-clause-word : goal.load-requires-clause-word
load-requires-clause-word c = c.requires.word

pub returns-clause-own : goal.returns-clause-own
returns-clause-own c = c.load.ensures.own

pub returns-clause-view : goal.returns-clause-view
returns-clause-view c = loads_same c.args.first.now.view c.load.new.pass.view c.args.word c.load.result c.requires.alone c.load.ensures.loaded
