use Rattle.std.proofs.Common.{◌∙◌, ap, to_z-of_z}
use Rattle.glitch_noise.specs.Shares.{is_under_way}
use Rattle.glitch_noise.proofs.Spans.{at_once}
use Rattle.glitch_noise.proofs.shares.is_under_way.Goals as goal

pub returns : goal.returns
returns c =
    c.overlap.ensures.value ∙ (at_once c.args.period c.args.window.now _ ∙ ap (is_under_way c.args.period c.args.window.now) (to_z-of_z c.ranges.moment))
