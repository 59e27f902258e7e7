-- The groups of all tables, and the table with which the last group began.
use Rattle.std.proofs.Common.{ℕ, List, ◌+◌, sym, subst, ap, length, arith}
use Rattle.table_box.proofs.Grouping.{AreGrouped, grouped_more, groups_done}
use Rattle.table_box.proofs.groups.table_groups.Goals as goal
use Rattle.table_box.proofs.groups.table_groups.Goals.{then-group-gt0, else-group-gt0}

pub loop-number-init : goal.loop-number-init
loop-number-init c = record { groups = record { count = ap length c.in_ok-groups.ensures.items; each = λ i h. absurd (let bad : ⊥ = omega (arith, h) in bad) }; head = omega arith }

pub loop-number-preserved : goal.loop-number-preserved
loop-number-preserved c =
    let inv = c.loop-number.invariant in let low = inv.head in let most = c.group_of-group.ensures.most in
    let items = c.in_ok-push.ensures.items in
    record {
      groups = subst (λ (xs : List ℕ). AreGrouped c.args.tables.now xs (c.loop-number.number + 1)) (sym items) (grouped_more _ _ _ _ inv.groups c.group_of-group.ensures.grouped);
      head = elim c.if-group-gt0.branch [
        | then-group-gt0 w ↦ let is = w.head-is in omega (arith, is, most)
        | else-group-gt0 w ↦ let is = w.head-is in omega (arith, is, low)
      ];
    }

pub returns : goal.returns
returns c =
    let done = c.loop-number-test.false in let end = c.loop-number.auto.number-end in
    groups_done c.args.tables.now c.loop-number.groups.items c.loop-number.number (omega (arith, done, end)) c.loop-number.invariant.groups
