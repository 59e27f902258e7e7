use Rattle.std.proofs.Common.{◌≡◌, ◌+◌, ◌*◌, ◌<◌, refl, sym, ap, subst, ◌∙◌, length, set, take, arith}
use Rattle.std.proofs.lemmas.List.{length-set, length-take-le}
use Rattle.net_eval.specs.ReadLists.{reads_of}
use Rattle.chaos_core.specs.Tasks.{list_of}
use Rattle.chaos_core.proofs.Places.{ids_count}
use Rattle.dirty_run.specs.Visits.{first_words, IsLoading}
use Rattle.dirty_run.proofs.Visiting.{none_yet, word_left, words_left, next_in_words, next_to_load, loading_next, loading_put, put_count}
use Rattle.dirty_run.proofs.visit.load_all.Goals as goal

pub loop-read-init : goal.loop-read-init
loop-read-init c =
    let u = c.args.pass.now.view in
    record { own = c.requires.own; loading = none_yet u c.args.net.0 c.respects.ensures c.requires.fresh; room = refl }

pub loop-place-init : goal.loop-place-init
loop-place-init c =
    let inv = c.loop-read.invariant in
    let same : 8 * c.loop-read.read ≡ 8 * c.loop-read.read + 0 = omega arith in
    record {
      own = inv.own;
      loading = subst (λ n. IsLoading c.args.pass.now.view c.args.net.0 (take n c.loop-read.loaded) c.loop-read.pass.view) same inv.loading;
      room = inv.room;
    }

pub load-requires-clause-word : goal.load-requires-clause-word
load-requires-clause-word c =
    let lists = c.args.lists.now in
    let net = c.args.net.0 in
    let at = 8 * c.loop-read.read + c.loop-place.place in
    let numbers = take at c.loop-place.loaded in
    let reads = c.of-reads.result.now in
    let i = c.loop-read.read in
    let inv = c.loop-place.invariant in
    let in_read = c.loop-read-test.true in
    let in_place = c.loop-place-test.true in
    let room = c.requires.room in
    let kept = inv.room in
    let n = ids_count (reads_of lists net) in
    let e = ap length c.of-reads.ensures in
    let count : length numbers ≡ at = put_count c.loop-place.loaded at (8 * length (list_of lists net)) (omega (arith, n, e, in_read, in_place)) (omega (arith, room, kept)) in
    let more = words_left lists net numbers reads i c.loop-place.place c.of-reads.ensures in_read in_place count in
    let is = word_left lists net numbers reads i c.loop-place.place c.of-reads.ensures in_read in_place count (record { 0 = 0 }) in
    next_in_words c.args.pass.now.view net numbers c.loop-place.pass.view inv.loading lists c.requires.lists c.requires.whole c.requires.there more _ is

pub load-requires-clause-next : goal.load-requires-clause-next
load-requires-clause-next c =
    let lists = c.args.lists.now in
    let net = c.args.net.0 in
    let at = 8 * c.loop-read.read + c.loop-place.place in
    let numbers = take at c.loop-place.loaded in
    let reads = c.of-reads.result.now in
    let i = c.loop-read.read in
    let inv = c.loop-place.invariant in
    let in_read = c.loop-read-test.true in
    let in_place = c.loop-place-test.true in
    let room = c.requires.room in
    let kept = inv.room in
    let n = ids_count (reads_of lists net) in
    let e = ap length c.of-reads.ensures in
    let count : length numbers ≡ at = put_count c.loop-place.loaded at (8 * length (list_of lists net)) (omega (arith, n, e, in_read, in_place)) (omega (arith, room, kept)) in
    let more = words_left lists net numbers reads i c.loop-place.place c.of-reads.ensures in_read in_place count in
    let is = word_left lists net numbers reads i c.loop-place.place c.of-reads.ensures in_read in_place count (record { 0 = 0 }) in
    (record { net = net; numbers = numbers; published = 0 }, next_to_load c.args.pass.now.view net numbers c.loop-place.pass.view inv.loading lists c.requires.lists c.requires.whole c.requires.there more _ is)

pub loop-place-preserved : goal.loop-place-preserved
loop-place-preserved c =
    let u = c.args.pass.now.view in
    let lists = c.args.lists.now in
    let net = c.args.net.0 in
    let at = 8 * c.loop-read.read + c.loop-place.place in
    let numbers = take at c.loop-place.loaded in
    let reads = c.of-reads.result.now in
    let i = c.loop-read.read in
    let inv = c.loop-place.invariant in
    let x = c.load.new.pass.view in
    let n = c.load.result in
    let in_read = c.loop-read-test.true in
    let in_place = c.loop-place-test.true in
    let room = c.requires.room in
    let kept = inv.room in
    let all = ids_count (reads_of lists net) in
    let e = ap length c.of-reads.ensures in
    let below : at < 8 * length (list_of lists net) = omega (arith, all, e, in_read, in_place) in
    let count : length numbers ≡ at = put_count c.loop-place.loaded at (8 * length (list_of lists net)) below (omega (arith, room, kept)) in
    let more = words_left lists net numbers reads i c.loop-place.place c.of-reads.ensures in_read in_place count in
    let is = word_left lists net numbers reads i c.loop-place.place c.of-reads.ensures in_read in_place count (record { 0 = 0 }) in
    let one = loading_next u net numbers c.loop-place.pass.view inv.loading lists c.requires.lists c.requires.whole c.requires.there more _ is n x c.load.ensures.loaded in
    let put = loading_put u net c.loop-place.loaded at n x (omega (arith, below, room, kept)) one in
    let next : at + 1 ≡ 8 * c.loop-read.read + (c.loop-place.place + 1) = omega arith in
    record {
      own = c.load.ensures.own;
      loading = subst (λ k. IsLoading u net (take k (set c.loop-place.loaded at n)) x) next put;
      room = length-set c.loop-place.loaded at n ∙ inv.room;
    }

pub loop-read-preserved : goal.loop-read-preserved
loop-read-preserved c =
    let inv = c.loop-place.invariant in
    let past = c.loop-place-test.false in
    let most = c.loop-place.auto.place-end in
    let end : 8 * c.loop-read.read + c.loop-place.place ≡ 8 * (c.loop-read.read + 1) = omega (arith, past, most) in
    record {
      own = inv.own;
      loading = subst (λ n. IsLoading c.args.pass.now.view c.args.net.0 (take n c.loop-place.loaded) c.loop-place.pass.view) end inv.loading;
      room = inv.room;
    }

pub returns-clause-loaded : goal.returns-clause-loaded
returns-clause-loaded c =
    let u = c.args.pass.now.view in
    let lists = c.args.lists.now in
    let net = c.args.net.0 in
    let past = c.loop-read-test.false in
    let most = c.loop-read.auto.read-end in
    let n = ids_count (reads_of lists net) in
    let e = ap length c.of-reads.ensures in
    let all : 8 * c.loop-read.read ≡ 8 * length (list_of lists net) = omega (arith, n, e, past, most) in
    let items = c.loop-read.loaded in
    let room = c.requires.room in
    let kept = c.loop-read.invariant.room in
    let count : length (first_words lists net items) ≡ 8 * length (list_of lists net) = length-take-le (8 * length (list_of lists net)) items (omega (arith, room, kept)) in
    record {
      loading = subst (λ k. IsLoading u net (take k items) c.loop-read.pass.view) all c.loop-read.invariant.loading;
      whole = subst (λ ls. length (first_words lists net items) ≡ 8 * length (list_of ls net)) (sym c.requires.lists) count;
    }

pub bounds-reads-read : goal.bounds-reads-read
bounds-reads-read c = c.loop-read-test.true

pub bounds-loaded-read : goal.bounds-loaded-read
bounds-loaded-read c =
    let net = c.args.net.0 in
    let room = c.requires.room in
    let kept = c.loop-place.invariant.room in
    let n = ids_count (reads_of c.args.lists.now net) in
    let e = ap length c.of-reads.ensures in
    let in_read = c.loop-read-test.true in
    let in_place = c.loop-place-test.true in
    omega (arith, room, kept, n, e, in_read, in_place)

pub load-requires-clause-own : goal.load-requires-clause-own
load-requires-clause-own c = c.loop-place.invariant.own

pub returns-clause-own : goal.returns-clause-own
returns-clause-own c = c.loop-read.invariant.own

pub returns-clause-room : goal.returns-clause-room
returns-clause-room c = c.loop-read.invariant.room
