use Rattle.std.proofs.Common.{◌≡◌, ◌+◌, Bool, sym, subst, ◌∙◌, arith}
use Rattle.dirty_run.specs.Visits.{IsPublishing}
use Rattle.dirty_run.proofs.Visiting.{none_published, ready_at, value_found, next_way, next_inside, next_to_publish, next_moved, next_stayed}
use Rattle.dirty_run.proofs.visit.publish_all.Goals.{then-publish, else-publish}
use Rattle.dirty_run.proofs.visit.publish_all.Goals as goal

pub loop-place-init : goal.loop-place-init
loop-place-init c =
    let u = c.args.pass.now.view in
    record {
      own = c.requires.own;
      published = λ f e. none_published u c.args.net.0 c.args.pair.now f c.respects.ensures (ready_at u c.args.net.0 c.args.pair.now c.requires.ready.0 f c.requires.ready.1 e);
    }

pub publish-requires-clause-way : goal.publish-requires-clause-way
publish-requires-clause-way c =
    let u = c.args.pass.now.view in
    let f = c.requires.ready.0 in
    let ready = c.requires.ready.1 in
    let at = c.loop-place.invariant.published f ready.flight in
    let is = value_found c.args.pair.now c.loop-place.place c.requires.range c.number_at.result (c.number_at.ensures ∙ c.numbers_in-numbers.ensures c.loop-place.place c.loop-place-test.true) in
    next_way u c.args.net.0 c.args.pair.now f ready c.loop-place.place c.loop-place.moved c.loop-place.pass.view at c.requires.free c.requires.there c.loop-place-test.true c.number_at.result is c.args.way c.requires.way

pub publish-requires-clause-word : goal.publish-requires-clause-word
publish-requires-clause-word c =
    let u = c.args.pass.now.view in
    let f = c.requires.ready.0 in
    let ready = c.requires.ready.1 in
    let at = c.loop-place.invariant.published f ready.flight in
    let is = value_found c.args.pair.now c.loop-place.place c.requires.range c.number_at.result (c.number_at.ensures ∙ c.numbers_in-numbers.ensures c.loop-place.place c.loop-place-test.true) in
    next_inside u c.args.net.0 c.args.pair.now f ready c.loop-place.place c.loop-place.moved c.loop-place.pass.view at c.requires.free c.requires.there c.loop-place-test.true c.number_at.result is

pub publish-requires-clause-next : goal.publish-requires-clause-next
publish-requires-clause-next c =
    let u = c.args.pass.now.view in
    let f = c.requires.ready.0 in
    let ready = c.requires.ready.1 in
    let place = c.loop-place.place in
    let at = c.loop-place.invariant.published f ready.flight in
    let is = value_found c.args.pair.now place c.requires.range c.number_at.result (c.number_at.ensures ∙ c.numbers_in-numbers.ensures c.loop-place.place c.loop-place-test.true) in
    (record f { published = place }, next_to_publish u c.args.net.0 c.args.pair.now f ready place c.loop-place.moved c.loop-place.pass.view at c.requires.free c.requires.there c.loop-place-test.true c.number_at.result is)

pub loop-place-preserved : goal.loop-place-preserved
loop-place-preserved c =
    let u = c.args.pass.now.view in
    let net = c.args.net.0 in
    let pair = c.args.pair.now in
    let place = c.loop-place.place in
    let x = c.publish.new.pass.view in
    let is = value_found pair place c.requires.range c.number_at.result (c.number_at.ensures ∙ c.numbers_in-numbers.ensures c.loop-place.place c.loop-place-test.true) in
    record {
      own = c.publish.ensures.own;
      published = λ f e.
          let ready = ready_at u net pair c.requires.ready.0 f c.requires.ready.1 e in
          let at = c.loop-place.invariant.published f e in
          elim c.if-publish.branch [
            | then-publish w ↦ subst (λ (b : Bool). IsPublishing u net pair f (place + 1) b x) (sym w.moved-is) (next_moved u net pair f ready place c.loop-place.moved c.loop-place.pass.view at c.requires.free c.requires.there c.loop-place-test.true c.number_at.result is c.publish.result x c.publish.ensures.published w.if-publish.true)
            | else-publish w ↦ subst (λ (b : Bool). IsPublishing u net pair f (place + 1) b x) (sym w.moved-is) (next_stayed u net pair f ready place c.loop-place.moved c.loop-place.pass.view at c.requires.free c.requires.there c.loop-place-test.true c.number_at.result is c.publish.result x c.publish.ensures.published w.if-publish.false)
          ];
    }

pub returns-clause-published : goal.returns-clause-published
returns-clause-published c = λ f e.
    let past = c.loop-place-test.false in
    let most = c.loop-place.auto.place-end in
    let end : c.loop-place.place ≡ 8 = omega (arith, past, most) in
    subst (λ n. IsPublishing c.args.pass.now.view c.args.net.0 c.args.pair.now f n c.loop-place.moved c.loop-place.pass.view) end (c.loop-place.invariant.published f e)
