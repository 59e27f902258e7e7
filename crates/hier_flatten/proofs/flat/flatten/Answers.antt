use Rattle.std.proofs.Common.{◌≡◌, subst, ◌∙◌}
use Rattle.hier_flatten.specs.Meaning.{FlatMeans, AnswersFlat}
use Rattle.hier_flatten.proofs.FlatNetlists.{flat_answer}
use Rattle.hier_flatten.proofs.flat.flatten.Goals as goal

pub returns-clause-value : goal.returns-clause-value
returns-clause-value c =
    let same : c.in_ok-index.index ≡ c.args.modules.now.list = c.in_ok-index.ensures ∙ c.as_slice.ensures in
    subst (λ ms. AnswersFlat c.flatten_index-flat.result (FlatMeans ms c.args.last_line)) same c.flatten_index-flat.ensures

pub returns-clause-sound : goal.returns-clause-sound
returns-clause-sound c = λ sound. flat_answer c.args.modules.now.list sound c.args.last_line c.flatten_index-flat.result (returns-clause-value c)
