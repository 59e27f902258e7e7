use Rattle.std.proofs.Common.{ap, sym, ◌∙◌}
use Rattle.std.specs.List.{list_all}
use Rattle.hier_flatten.specs.Names.{has_plain_names}
use Rattle.hier_flatten.proofs.PathLaws.{apart_below}
use Rattle.hier_flatten.proofs.MeaningLaws.{top_finite, limit_means, names_mean}
use Rattle.hier_flatten.proofs.flat.flatten_linked.Goals as goal

pub limit_ahead-requires-clause-top : goal.limit_ahead-requires-clause-top
limit_ahead-requires-clause-top c = top_finite c.args.index.now c.args.last_line c.args.top.now c.requires.ends c.requires.top

pub returns-in-Some : goal.returns-in-Some
returns-in-Some c =
    limit_means c.args.index.now c.args.last_line c.args.top.now c.requires.fits c.requires.ends c.requires.top c.in-Some.what
    (rw c.in-Some.is at c.in_ok-what.ensures)

pub build-requires-clause-top : goal.build-requires-clause-top
build-requires-clause-top c = top_finite c.args.index.now c.args.last_line c.args.top.now c.requires.ends c.requires.top

pub with_names-requires : goal.with_names-requires
with_names-requires c = λ plain.
    apart_below c.args.index.now c.args.top.now c.in-Ok.flat c.requires.top
    (ap (list_all has_plain_names) (sym c.modules.ensures) ∙ (sym c.in_ok-apart.ensures ∙ plain)) (rw c.in-Ok.is at c.in_ok-flat.ensures)

pub returns-in-Err : goal.returns-in-Err
returns-in-Err c =
    limit_means c.args.index.now c.args.last_line c.args.top.now c.requires.fits c.requires.ends c.requires.top c.in-Err.what
    (rw c.in-Err.is at c.in_ok-flat.ensures)

pub returns-in-Ok : goal.returns-in-Ok
returns-in-Ok c =
    names_mean c.args.index.now c.args.last_line c.args.top.now c.requires.fits c.requires.ends c.requires.top c.in-Ok.flat c.with_names.result
    (rw c.in-Ok.is at c.in_ok-flat.ensures) c.with_names.ensures
