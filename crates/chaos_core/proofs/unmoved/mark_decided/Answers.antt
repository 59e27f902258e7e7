use Rattle.std.proofs.Common.{ℕ, suc, ◌<◌, ◌≤◌, ◌∙◌, sym, subst, length, length-set, arith}
use Rattle.xt_model.specs.Assign.{assigned}
use Rattle.chaos_core.specs.Alike.{AreDecidedAlike}
use Rattle.chaos_core.specs.Looks.{AreDecided}
use Rattle.chaos_core.proofs.LookLaws.{marks_all, marks_set}
use Rattle.chaos_core.proofs.unmoved.mark_decided.Goals as goal

pub mark_alike-requires-clause-after : goal.mark_alike-requires-clause-after
mark_alike-requires-clause-after c = c.requires.after

pub mark_alike-requires-clause-unmoved : goal.mark_alike-requires-clause-unmoved
mark_alike-requires-clause-unmoved c = c.requires.unmoved

pub is_decided-requires-clause-before : goal.is_decided-requires-clause-before
is_decided-requires-clause-before c = c.requires.before

pub is_decided-requires-clause-after : goal.is_decided-requires-clause-after
is_decided-requires-clause-after c = c.requires.after

pub is_decided-requires-clause-count : goal.is_decided-requires-clause-count
is_decided-requires-clause-count c = c.mark_alike.ensures.count

pub is_decided-requires-clause-alike : goal.is_decided-requires-clause-alike
is_decided-requires-clause-alike c = c.mark_alike.ensures.alike

pub is_decided-requires-clause-there : goal.is_decided-requires-clause-there
is_decided-requires-clause-there c = let below = c.loop-net-test.true in let many = c.requires.unmoved.count in let before = c.requires.before in omega (arith, below, many, before)

pub bounds-unmoved-net : goal.bounds-unmoved-net
bounds-unmoved-net c = let below = c.loop-net-test.true in let same = c.loop-net.auto.unmoved in omega (arith, below, same)

pub loop-net-init : goal.loop-net-init
loop-net-init c = record { count = c.requires.unmoved.count ∙ c.requires.before; alike = λ n below. absurd (omega (arith, below)) }

pub loop-net-preserved : goal.loop-net-preserved
loop-net-preserved c =
    let inv = c.loop-net.invariant in
    let marks = c.loop-net.unmoved in
    let net = c.loop-net.net in
    let P : ℕ → Type 0 = AreDecidedAlike c.args.design.now (assigned c.args.before.now) (assigned c.args.after.now) in
    let inside : net < length marks = let below = c.loop-net-test.true in let same = c.loop-net.auto.unmoved in omega (arith, below, same) in
    record {
      count = length-set marks net c.is_decided.result ∙ inv.count;
      alike = λ n below. let under : n < suc net = omega (arith, below) in λ t. marks_set P marks net c.is_decided.result inside inv.alike c.is_decided.ensures n under t;
    }

pub returns-clause-unmoved : goal.returns-clause-unmoved
returns-clause-unmoved c = c.loop-net.auto.unmoved

pub returns-clause-decided : goal.returns-clause-decided
returns-clause-decided c =
    let inv = c.loop-net.invariant in
    let marks = c.loop-net.unmoved in
    let d = c.args.design.now in
    let v = c.args.before.now in
    let w = c.args.after.now in
    let P : ℕ → Type 0 = AreDecidedAlike d (assigned v) (assigned w) in
    let all : length marks ≤ c.loop-net.net = let past = c.loop-net-test.false in let same = c.loop-net.auto.unmoved in omega (arith, past, same) in
    let decided : AreDecided d v w marks = record { count = inv.count; alike = λ n t. marks_all P marks c.loop-net.net all inv.alike n t } in
    subst (AreDecided d v w) (sym c.copy_from_slice.ensures.after) decided
