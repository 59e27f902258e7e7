use Rattle.std.proofs.Common.{◌↔◌, Bool, refl, sym, subst, List, Contains, ap, ◌∙◌, arith}
use Rattle.std.specs.List.Sorted.{IsStrictlyIncreasing}
use Rattle.xt_model.specs.declared.net.NetId.{NetId}
use Rattle.net_eval.specs.ReadLists.{ids}
use Rattle.dirty_words.specs.declared.view.Flight.{Flight}
use Rattle.dirty_words.specs.Steps.{mark_of, Took}
use Rattle.dirty_run.specs.Visits.{IsPublishing}
use Rattle.dirty_run.proofs.Paying.{own_lists, own_inside, own_pair, whole_here, lacks_found, ready_now, owes_now, readers_rise, visited_missed, visited_still, visited_moved}
use Rattle.chaos_core.specs.Boards.{nets_of}
use Rattle.dirty_words.specs.declared.view.DirtyView.{DirtyView}
use Rattle.dirty_words.specs.Views.{Run}
use Rattle.dirty_run.proofs.visit.visit.Goals as goal

pub returns-then-not-take-clause-visited : goal.returns-then-not-take-clause-visited
returns-then-not-take-clause-visited g c =
    let v = c.args.pass.now.view in
    let net = c.args.net.0 in
    let w = c.take.new.pass.view in
    let took = subst (λ (b : Bool). Took v net (mark_of b) w) c.if-not-take.true c.take.ensures.took in
    visited_missed v net w c.respects.ensures (lacks_found v net w took) (took.missed refl)

pub publish_all-requires-clause-ready : goal.publish_all-requires-clause-ready
publish_all-requires-clause-ready g c =
    let run = c.requires.run in
    let r = c.args.run.now.board.now.run in
    let d = c.args.run.now.design.now in
    let lists = c.args.run.now.lists.now in
    let v = c.args.pass.now.view in
    let net = c.args.net.0 in
    let u = c.take.new.pass.view in
    let w = c.evaluate-pair.new.pass.view in
    let made = c.evaluate-pair.ensures.evaluated in
    let items = made.numbers in
    let pair = c.evaluate-pair.result in
    let f : Flight = record { net = net; numbers = items; published = 0 } in
    let ready = ready_now u net items w pair made.loaded (own_pair r u c.take.ensures.own.run d lists run.design run.own run.whole net items pair made.value) in
    (f, ready)

pub pay-requires-clause-once : goal.pay-requires-clause-once
pay-requires-clause-once g c =
    let run = c.requires.run in
    let lists = c.args.run.now.lists.now in
    let readers = c.args.run.now.readers.now in
    let net = c.args.net.0 in
    let inside = own_inside c.args.run.now.board.now.run c.args.pass.now.view c.requires.own.run c.args.run.now.design.now lists run.design run.own run.whole net c.requires.take.there in
    subst (λ (rs : List NetId). IsStrictlyIncreasing (ids rs)) (sym c.of.ensures) (readers_rise lists readers net run.reversed inside)

pub pay-requires-clause-owed : goal.pay-requires-clause-owed
pay-requires-clause-owed g c =
    let run = c.requires.run in
    let r = c.args.run.now.board.now.run in
    let d = c.args.run.now.design.now in
    let lists = c.args.run.now.lists.now in
    let v = c.args.pass.now.view in
    let net = c.args.net.0 in
    let u = c.take.new.pass.view in
    let w = c.evaluate-pair.new.pass.view in
    let made = c.evaluate-pair.ensures.evaluated in
    let items = made.numbers in
    let pair = c.evaluate-pair.result in
    let f : Flight = record { net = net; numbers = items; published = 0 } in
    let ready = ready_now u net items w pair made.loaded (own_pair r u c.take.ensures.own.run d lists run.design run.own run.whole net items pair made.value) in
    let took = subst (λ (b : Bool). Took v net (mark_of b) u) c.if-not-take.false c.take.ensures.took in
    let x = c.publish_all.new.pass.view in
    let published = c.publish_all.ensures.published f ready.flight in
    let readers = c.args.run.now.readers.now in
    let same = own_lists r w c.evaluate-pair.ensures.own.run d lists run.design run.own run.whole in
    let inside = own_inside r v c.requires.own.run d lists run.design run.own run.whole net c.requires.take.there in
    let did = subst (λ (b : Bool). IsPublishing w net pair f 8 b x) c.if-publish_all.true published in
    λ m. subst (λ (rs : List NetId). Contains x.owed m ↔ Contains (ids rs) m) (sym c.of.ensures) (owes_now w net pair f x lists readers did same run.reversed inside m)

pub returns-then-publish_all-clause-visited : goal.returns-then-publish_all-clause-visited
returns-then-publish_all-clause-visited g c =
    let run = c.requires.run in
    let r = c.args.run.now.board.now.run in
    let d = c.args.run.now.design.now in
    let lists = c.args.run.now.lists.now in
    let v = c.args.pass.now.view in
    let net = c.args.net.0 in
    let u = c.take.new.pass.view in
    let w = c.evaluate-pair.new.pass.view in
    let made = c.evaluate-pair.ensures.evaluated in
    let items = made.numbers in
    let pair = c.evaluate-pair.result in
    let f : Flight = record { net = net; numbers = items; published = 0 } in
    let ready = ready_now u net items w pair made.loaded (own_pair r u c.take.ensures.own.run d lists run.design run.own run.whole net items pair made.value) in
    let took = subst (λ (b : Bool). Took v net (mark_of b) u) c.if-not-take.false c.take.ensures.took in
    let x = c.publish_all.new.pass.view in
    let published = c.publish_all.ensures.published f ready.flight in
    let whole = whole_here r v c.requires.own.run d lists run.design run.own run.whole in
    let own = own_pair r v c.requires.own.run d lists run.design run.own run.whole net items pair made.value in
    visited_moved v net c.requires.take whole u (took.taken refl) items w made.loaded pair own c.publish_all.result x published c.if-publish_all.true c.pay.new.pass.view c.pay.ensures.paid

pub returns-else-publish_all-clause-visited : goal.returns-else-publish_all-clause-visited
returns-else-publish_all-clause-visited g c =
    let run = c.requires.run in
    let r = c.args.run.now.board.now.run in
    let d = c.args.run.now.design.now in
    let lists = c.args.run.now.lists.now in
    let v = c.args.pass.now.view in
    let net = c.args.net.0 in
    let u = c.take.new.pass.view in
    let w = c.evaluate-pair.new.pass.view in
    let made = c.evaluate-pair.ensures.evaluated in
    let items = made.numbers in
    let pair = c.evaluate-pair.result in
    let f : Flight = record { net = net; numbers = items; published = 0 } in
    let ready = ready_now u net items w pair made.loaded (own_pair r u c.take.ensures.own.run d lists run.design run.own run.whole net items pair made.value) in
    let took = subst (λ (b : Bool). Took v net (mark_of b) u) c.if-not-take.false c.take.ensures.took in
    let x = c.publish_all.new.pass.view in
    let published = c.publish_all.ensures.published f ready.flight in
    let whole = whole_here r v c.requires.own.run d lists run.design run.own run.whole in
    let own = own_pair r v c.requires.own.run d lists run.design run.own run.whole net items pair made.value in
    visited_still v net c.requires.take whole u (took.taken refl) items w made.loaded pair own c.publish_all.result x published c.if-publish_all.false

pub take-requires-clause-own : goal.take-requires-clause-own
take-requires-clause-own g c = c.requires.own

pub take-requires-clause-take : goal.take-requires-clause-take
take-requires-clause-take g c = c.requires.take

pub evaluate-pair-requires-clause-run : goal.evaluate-pair-requires-clause-run
evaluate-pair-requires-clause-run g c = c.requires.run

pub evaluate-pair-requires-clause-before : goal.evaluate-pair-requires-clause-before
evaluate-pair-requires-clause-before g c = c.requires.before

pub evaluate-pair-requires-clause-own : goal.evaluate-pair-requires-clause-own
evaluate-pair-requires-clause-own g c = c.take.ensures.own

pub evaluate-pair-requires-clause-fresh : goal.evaluate-pair-requires-clause-fresh
evaluate-pair-requires-clause-fresh g c =
    let v = c.args.pass.now.view in
    let net = c.args.net.0 in
    let u = c.take.new.pass.view in
    let took = subst (λ (b : Bool). Took v net (mark_of b) u) c.if-not-take.false c.take.ensures.took in
    ap (λ (x : DirtyView). x.flight) (took.taken refl)

pub evaluate-pair-requires-clause-there : goal.evaluate-pair-requires-clause-there
evaluate-pair-requires-clause-there g c = let same = ap (λ (r : Run). nets_of r.setting) (c.requires.own.run ∙ sym c.take.ensures.own.run) in let there = c.requires.take.there in omega (arith, there, same)

pub evaluate-pair-requires-clause-room : goal.evaluate-pair-requires-clause-room
evaluate-pair-requires-clause-room g c = c.requires.room

pub publish_all-requires-clause-own : goal.publish_all-requires-clause-own
publish_all-requires-clause-own g c = c.evaluate-pair.ensures.own

pub publish_all-requires-clause-free : goal.publish_all-requires-clause-free
publish_all-requires-clause-free g c =
    let v = c.args.pass.now.view in
    let net = c.args.net.0 in
    let u = c.take.new.pass.view in
    let took = subst (λ (b : Bool). Took v net (mark_of b) u) c.if-not-take.false c.take.ensures.took in
    let loading = c.evaluate-pair.ensures.evaluated.loaded.loading in
    ap (λ (x : DirtyView). x.owed) loading.after ∙ (ap (λ (x : DirtyView). x.owed) (took.taken refl) ∙ c.requires.take.free.owed)

pub publish_all-requires-clause-range : goal.publish_all-requires-clause-range
publish_all-requires-clause-range g c = c.evaluate-pair.ensures.range

pub publish_all-requires-clause-there : goal.publish_all-requires-clause-there
publish_all-requires-clause-there g c = let same = ap (λ (r : Run). nets_of r.setting) (c.requires.own.run ∙ sym c.evaluate-pair.ensures.own.run) in let there = c.requires.take.there in omega (arith, there, same)

pub publish_all-requires-clause-way : goal.publish_all-requires-clause-way
publish_all-requires-clause-way g c = ap (λ (r : Run). r.setting.way) c.evaluate-pair.ensures.own.run ∙ c.requires.run.way

pub pay-requires-clause-own : goal.pay-requires-clause-own
pay-requires-clause-own g c = c.publish_all.ensures.own

pub returns-then-not-take-clause-own : goal.returns-then-not-take-clause-own
returns-then-not-take-clause-own g c = c.take.ensures.own

pub returns-then-not-take-clause-room : goal.returns-then-not-take-clause-room
returns-then-not-take-clause-room g c = c.requires.room

pub returns-else-publish_all-clause-own : goal.returns-else-publish_all-clause-own
returns-else-publish_all-clause-own g c = c.publish_all.ensures.own

pub returns-else-publish_all-clause-room : goal.returns-else-publish_all-clause-room
returns-else-publish_all-clause-room g c = c.evaluate-pair.ensures.room

pub returns-then-publish_all-clause-own : goal.returns-then-publish_all-clause-own
returns-then-publish_all-clause-own g c = c.pay.ensures.own

pub returns-then-publish_all-clause-room : goal.returns-then-publish_all-clause-room
returns-then-publish_all-clause-room g c = c.evaluate-pair.ensures.room
