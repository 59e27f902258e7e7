use Rattle.std.proofs.Common.{◌+◌, ◌*◌, ap, ◌∙◌}
use Rattle.xt_meaning.specs.Words.{bounds_in}
use Rattle.window_words.specs.declared.view.View.{View}
use Rattle.chaos_run.specs.Looks.{quad_from}
use Rattle.chaos_run.proofs.Looked.{pair_found}
use Rattle.chaos_run.proofs.look.load_pair.Goals as goal

pub returns-clause-pair : goal.returns-clause-pair
returns-clause-pair c =
    pair_found (bounds_in c.args.first.now.view.seen) c.args.net (record { rise = c.load_quad.result; fall = c.load_quad-2.result }) c.load_quad.ensures.quad
    (c.load_quad-2.ensures.quad ∙ ap (λ (v : View). quad_from (bounds_in v.seen) (8 * c.args.net + 4)) c.load_quad.ensures.view)
