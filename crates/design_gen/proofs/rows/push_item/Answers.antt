use Rattle.std.proofs.Common.{◌∙◌, ap, ◌++◌, [], ◌∷◌}
use Rattle.design_gen.proofs.RowLaws.{pushed}
use Rattle.design_gen.proofs.rows.push_item.Goals as goal

pub returns : goal.returns
returns g c =
    pushed (λ r. r.items) c.args.rows.now.items c.args.at c.index_mut.result.now c.push.new.self c.args.item c.requires
    (c.in_ok-push.ensures.ok ∙ ap (λ r. r.items ++ c.args.item ∷ []) c.index_mut.ensures.value)
