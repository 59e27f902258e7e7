use Rattle.std.proofs.Common.{◌≡◌, ap, ◌∙◌, subst}
use Rattle.std.specs.Prelude.{unwrap_or}
use Rattle.std.specs.List.{slice_get}
use Rattle.xt_model.specs.Quads.{bottom}
use Rattle.drawn_numbers.specs.Draws.{drawn}
use Rattle.design_gen.specs.Taps.{sources}
use Rattle.design_gen.specs.Generated.{window_by, both_edges, given_of}
use Rattle.design_gen.specs.Rows.{Seed}
use Rattle.design_gen.proofs.DrawnLaws.{window_there}
use Rattle.design_gen.proofs.drawn.Drawn.given.Goals as goal

pub returns : goal.returns
returns c =
    let Q : Seed → Type 0 = λ s. c.given.result ≡ given_of s.number s.nets c.args.net in
    let w = c.deref.ensures.value ∙ c.self.invariant.parts.are_windows in
    let e = window_there (λ n. window_by (drawn c.self.inside.number n 2000)) (sources c.self.inside.nets) c.args.net in
    subst Q c.self.view_is (c.given.ensures ∙ (ap (λ ws. both_edges (unwrap_or (slice_get ws c.args.net) bottom)) w ∙ ap both_edges e))
