use Rattle.std.proofs.Common.{rules, ◌+◌, ◌<◌, ◌≤◌, ℕ, inl, inr, arith}
use Rattle.std.proofs.lemmas.Bool.{cases_lt}
use Rattle.std.specs.Prelude.{IsTrue, ◌↔◌}
use Rattle.net_eval.specs.Closing.{IsSteadyAt}
use Rattle.chaos_run.proofs.LookParts.{look_joined}
use Rattle.chaos_run.proofs.look.+halves.Goals as goal

pub closed_by-returns-clause-look : goal.closed_by-returns-clause-look
closed_by-returns-clause-look g t c =
    look_joined c.args.design.now c.args.windows.now c.args.from (c.args.from + c.part-count.result) c.args.to c.both_halves.new.left c.both_halves.new.right c.both_halves.ensures.left c.both_halves.ensures.right

pub both_halves-returns-then-before-clause-closed : goal.both_halves-returns-then-before-clause-closed
both_halves-returns-then-before-clause-closed g t c =
    let d = c.args.design.now in
    let v = c.args.windows.now in
    let middle = c.args.middle in
    let few = c.requires.left.count in
    let first : IsTrue c.join_mut-before.result.0 ↔ ((n : ℕ) → c.args.from ≤ n → n < middle → IsSteadyAt d v n) = search rules in
    let second : IsTrue c.join_mut-before.result.1 ↔ ((n : ℕ) → middle ≤ n → n < c.args.to → IsSteadyAt d v n) = search rules in (
      λ yes n low high. elim (cases_lt n middle) [
        | inl left ↦ first.0 c.if-before.true n low left
        | inr right ↦ second.0 yes n right high
      ],
      λ all. second.1 (λ n low high. all n (omega (arith, low, few)) high),
    )
