use Rattle.std.proofs.Common.{◌-◌, ◌/◌, ap, inl, inr, length, arith}
use Rattle.std.proofs.lemmas.Bool.{both_ways, cases_lt}
use Rattle.chaos_core.proofs.Places.{no_lie}
use Rattle.chaos_run.proofs.LookParts.{look_in_three, look_of_three}
use Rattle.chaos_run.proofs.look.closed_from_ends.Goals as goal

-- ---- what is asked of the calls
pub closed_up-requires-clause-groups : goal.closed_up-requires-clause-groups
closed_up-requires-clause-groups g c = c.requires.groups

pub closed_up-requires-clause-within : goal.closed_up-requires-clause-within
closed_up-requires-clause-within g c = c.requires.within

pub closed_up-requires-clause-end : goal.closed_up-requires-clause-end
closed_up-requires-clause-end g c = let many = ap length c.nets.ensures.value in omega (arith, many)

pub closed_up-requires-clause-look : goal.closed_up-requires-clause-look
closed_up-requires-clause-look g c =
    (look_in_three c.args.design.now c.args.windows.now (length c.nets.result.now) c.args.marks.now _ _ _ _ (ap length c.nets.ensures.value) c.requires.look c.split_at_mut-before.ensures.value
    c.split_at_mut-before.ensures.front_len c.split_at_mut-between.ensures.value c.split_at_mut-between.ensures.front_len).0

pub closed_down-requires-clause-groups : goal.closed_down-requires-clause-groups
closed_down-requires-clause-groups g c = c.requires.groups

pub closed_down-requires-clause-within : goal.closed_down-requires-clause-within
closed_down-requires-clause-within g c = c.requires.within

pub closed_down-requires-clause-end : goal.closed_down-requires-clause-end
closed_down-requires-clause-end g c = let many = ap length c.nets.ensures.value in omega (arith, many)

pub closed_down-requires-clause-look : goal.closed_down-requires-clause-look
closed_down-requires-clause-look g c =
    (look_in_three c.args.design.now c.args.windows.now (length c.nets.result.now) c.args.marks.now _ _ _ _ (ap length c.nets.ensures.value) c.requires.look c.split_at_mut-before.ensures.value
    c.split_at_mut-before.ensures.front_len c.split_at_mut-between.ensures.value c.split_at_mut-between.ensures.front_len).2

pub closed_by-requires-clause-groups : goal.closed_by-requires-clause-groups
closed_by-requires-clause-groups g c = λ _ _. c.requires.groups

pub closed_by-requires-clause-within : goal.closed_by-requires-clause-within
closed_by-requires-clause-within g c = λ _ _. c.requires.within

pub closed_by-requires-clause-end : goal.closed_by-requires-clause-end
closed_by-requires-clause-end g c = λ _ _. let many = ap length c.nets.ensures.value in omega (arith, many)

pub closed_by-requires-clause-look : goal.closed_by-requires-clause-look
closed_by-requires-clause-look g c = λ _ _.
    (look_in_three c.args.design.now c.args.windows.now (length c.nets.result.now) c.args.marks.now _ _ _ _ (ap length c.nets.ensures.value) c.requires.look c.split_at_mut-before.ensures.value
    c.split_at_mut-before.ensures.front_len c.split_at_mut-between.ensures.value c.split_at_mut-between.ensures.front_len).1

-- ---- what is returned
pub returns-then-not-closed_up-clause-look : goal.returns-then-not-closed_up-clause-look
returns-then-not-closed_up-clause-look g c =
    let parts = look_in_three c.args.design.now c.args.windows.now (length c.nets.result.now) c.args.marks.now _ _ _ _ (ap length c.nets.ensures.value) c.requires.look c.split_at_mut-before.ensures.value
    c.split_at_mut-before.ensures.front_len c.split_at_mut-between.ensures.value c.split_at_mut-between.ensures.front_len in
    look_of_three c.args.design.now c.args.windows.now _ _ (length c.nets.result.now) _ _ _ (ap length c.nets.ensures.value) c.closed_up.ensures.look parts.1 parts.2

pub returns-then-not-closed_down-clause-look : goal.returns-then-not-closed_down-clause-look
returns-then-not-closed_down-clause-look g c =
    let parts = look_in_three c.args.design.now c.args.windows.now (length c.nets.result.now) c.args.marks.now _ _ _ _ (ap length c.nets.ensures.value) c.requires.look c.split_at_mut-before.ensures.value
    c.split_at_mut-before.ensures.front_len c.split_at_mut-between.ensures.value c.split_at_mut-between.ensures.front_len in
    look_of_three c.args.design.now c.args.windows.now _ _ (length c.nets.result.now) _ _ _ (ap length c.nets.ensures.value) c.closed_up.ensures.look parts.1 c.closed_down.ensures.look

pub returns-clause-look : goal.returns-clause-look
returns-clause-look g c =
    let nets = length c.nets.result.now in
    look_of_three c.args.design.now c.args.windows.now (nets / 8) (nets - nets / 8) nets c.closed_up.new.marks c.closed_by.new.marks c.closed_down.new.marks (ap length c.nets.ensures.value)
    c.closed_up.ensures.look c.closed_by.ensures.look c.closed_down.ensures.look

pub returns-then-not-closed_up-clause-closed : goal.returns-then-not-closed_up-clause-closed
returns-then-not-closed_up-clause-closed g c =
    let many = ap length c.nets.ensures.value in (
      λ t. absurd (no_lie t),
      λ all. absurd (both_ways c.closed_up.result c.if-not-closed_up.true (c.closed_up.ensures.closed.1 (λ n low high. all n (omega (arith, many, high))))),
    )

pub returns-then-not-closed_down-clause-closed : goal.returns-then-not-closed_down-clause-closed
returns-then-not-closed_down-clause-closed g c =
    let many = ap length c.nets.ensures.value in (
      λ t. absurd (no_lie t),
      λ all. absurd (both_ways c.closed_down.result c.if-not-closed_down.true (c.closed_down.ensures.closed.1 (λ n low high. all n (omega (arith, many, high))))),
    )

pub returns-clause-closed : goal.returns-clause-closed
returns-clause-closed g c =
    let nets = length c.nets.result.now in
    let many = ap length c.nets.ensures.value in
    let first = nets / 8 in
    let last = nets - first in (
      λ t n high. elim (cases_lt n first) [
        | inl low ↦ c.closed_up.ensures.closed.0 c.if-not-closed_up.false n (omega arith) low
        | inr past ↦ elim (cases_lt n last) [
          | inl inside ↦ c.closed_by.ensures.closed.0 t n past inside
          | inr late ↦ c.closed_down.ensures.closed.0 c.if-not-closed_down.false n late (omega (arith, many, high))
        ]
      ],
      λ all. c.closed_by.ensures.closed.1 (λ n low high. all n (omega (arith, many, high))),
    )
