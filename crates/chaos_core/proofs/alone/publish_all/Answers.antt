use Rattle.std.proofs.Common.{◌∙◌, refl, ap, [], arith}
use Rattle.chaos_core.specs.declared.setting.Setting.{Setting}
use Rattle.chaos_core.specs.Boards.{Knowledge}
use Rattle.chaos_core.specs.Memories.{knowledge_of}
use Rattle.chaos_core.proofs.Stages.{can_publish}
use Rattle.chaos_core.proofs.Moves.{publish_fits}
use Rattle.chaos_core.proofs.OnlyWorker.{published_more}
use Rattle.chaos_core.proofs.alone.publish_all.Goals as goal

pub publish-requires-clause-value : goal.publish-requires-clause-value
publish-requires-clause-value c = can_publish _ c.args.net.0 c.args.pair.now c.loop-place.place _ (c.loop-place.invariant.fits c.loop-place-test.true) c.number_in.ensures

pub loop-place-preserved : goal.loop-place-preserved
loop-place-preserved c =
    let inv = c.loop-place.invariant in
    let fits = inv.fits c.loop-place-test.true in
    let h = c.publish.ensures.publishes in
    let before = c.loop-place.board in
    let later = c.publish.new.board in
    record {
      setting = ap (λ (k : Knowledge). k.setting) h.1.after ∙ inv.setting;
      words = published_more c.args.board.now before later c.args.net.0 c.loop-place.place _ c.args.pair.now c.args.direction c.args.board.now.words c.requires.direction inv.setting inv.words h c.number_in.ensures;
      fits = λ lt. publish_fits (knowledge_of before) (knowledge_of later) [] c.args.net.0 c.args.pair.now c.loop-place.place _ fits h c.publish.ensures.seen lt;
    }

pub loop-place-init : goal.loop-place-init
loop-place-init c = record { setting = refl; words = refl; fits = λ _. c.requires.fits }

pub number_in-requires-clause-range : goal.number_in-requires-clause-range
number_in-requires-clause-range c = (c.loop-place.invariant.fits c.loop-place-test.true).range

pub publish-requires-clause-way : goal.publish-requires-clause-way
publish-requires-clause-way c = ap (λ (s : Setting). s.way) c.loop-place.invariant.setting ∙ c.requires.direction

pub publish-requires-clause-word : goal.publish-requires-clause-word
publish-requires-clause-word c = omega (arith, (c.loop-place.invariant.fits c.loop-place-test.true).there, c.loop-place-test.true)

pub returns-clause-setting : goal.returns-clause-setting
returns-clause-setting c = c.loop-place.invariant.setting
