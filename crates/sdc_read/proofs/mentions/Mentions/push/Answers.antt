use Rattle.std.proofs.Common.{ap, ◌∙◌, map, [], ◌∷◌, ◌++◌}
use Rattle.std.specs.Prelude.{Some}
use Rattle.sdc_read.specs.declared.mentions.Place.{Place}
use Rattle.sdc_read.specs.declared.mentions.Said.{Said}
use Rattle.sdc_read.specs.Kept.{mention_by, mention_of}
use Rattle.sdc_read.proofs.KeptLaws.{pushed}
use Rattle.sdc_read.proofs.mentions.Mentions.push.Goals as goal

pub returns : goal.returns
returns c =
    let place : Place = record { said = c.in_ok-said.said; bits = c.args.bits } in
    let said : Said = record { change = c.args.change; clock = c.args.clock } in
    ap (map (mention_of c.number_of.new.list.items)) c.in_ok-push.ensures.items
    ∙ (pushed c.self.inside.said.items c.number_of.new.list.items c.in_ok-said.ensures.kept c.self.inside.places.items c.self.invariant place said c.in_ok-said.ensures.there
    ∙ ap (λ l. l ++ mention_by (Some said) c.args.bits ∷ []) c.self.view_is)
