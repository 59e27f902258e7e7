use Rattle.std.proofs.Common.{ℕ, suc, ◌<◌, ◌≤◌, ◌∙◌, length, length-set, arith}
use Rattle.xt_model.specs.Assign.{assigned}
use Rattle.chaos_core.specs.Spared.{IsInputAlike}
use Rattle.chaos_core.proofs.LookLaws.{marks_all, marks_set}
use Rattle.chaos_core.proofs.unmoved.mark_alike.Goals as goal

pub is_alike-requires-clause-after : goal.is_alike-requires-clause-after
is_alike-requires-clause-after c = c.requires.after

pub is_alike-requires-clause-unmoved : goal.is_alike-requires-clause-unmoved
is_alike-requires-clause-unmoved c = c.requires.unmoved

pub is_alike-requires-clause-there : goal.is_alike-requires-clause-there
is_alike-requires-clause-there c = let below = c.loop-net-test.true in let many = c.requires.marks in omega (arith, below, many)

pub bounds-marks-net : goal.bounds-marks-net
bounds-marks-net c = let below = c.loop-net-test.true in let same = c.loop-net.auto.marks in omega (arith, below, same)

pub loop-net-init : goal.loop-net-init
loop-net-init c = record { count = c.requires.marks; alike = λ n below. absurd (omega (arith, below)) }

pub loop-net-preserved : goal.loop-net-preserved
loop-net-preserved c =
    let inv = c.loop-net.invariant in
    let marks = c.loop-net.marks in
    let net = c.loop-net.net in
    let P : ℕ → Type 0 = IsInputAlike c.args.design.now (assigned c.args.before.now) (assigned c.args.after.now) in
    let inside : net < length marks = let below = c.loop-net-test.true in let same = c.loop-net.auto.marks in omega (arith, below, same) in
    record {
      count = length-set marks net c.is_alike.result ∙ inv.count;
      alike = λ n below. let under : n < suc net = omega (arith, below) in λ t. marks_set P marks net c.is_alike.result inside inv.alike c.is_alike.ensures n under t;
    }

pub returns-clause-count : goal.returns-clause-count
returns-clause-count c = c.loop-net.invariant.count

pub returns-clause-alike : goal.returns-clause-alike
returns-clause-alike c =
    let inv = c.loop-net.invariant in
    let marks = c.loop-net.marks in
    let P : ℕ → Type 0 = IsInputAlike c.args.design.now (assigned c.args.before.now) (assigned c.args.after.now) in
    let all : length marks ≤ c.loop-net.net = let past = c.loop-net-test.false in let same = c.loop-net.auto.marks in omega (arith, past, same) in
    λ n t. marks_all P marks c.loop-net.net all inv.alike n t
