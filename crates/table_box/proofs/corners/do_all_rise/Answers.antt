use Rattle.std.proofs.Common.{◌≡◌, ℕ, inl, inr, subst, arith}
use Rattle.std.proofs.lemmas.Bool.{cases_lt}
use Rattle.table_box.specs.Rises.{DoesRowRise, IsNextHigher}
use Rattle.table_box.proofs.corners.do_all_rise.Goals as goal

pub is_next_higher-requires-clause-row : goal.is_next_higher-requires-clause-row
is_next_higher-requires-clause-row c = let h = c.loop-row-test.true in let last = c.requires.rows in omega (arith, h, last)

pub loop-row-preserved : goal.loop-row-preserved
loop-row-preserved c = λ i h k. elim (cases_lt i c.loop-row.row) [
  | inl p ↦ c.loop-row.invariant i h p
  | inr p ↦
      let e : c.loop-row.row ≡ i = omega (arith, k, p) in
      let P : ℕ → Type 0 = λ n. (DoesRowRise c.args.table.now n c.args.first c.args.last) × (IsNextHigher c.args.table.now n c.args.first c.args.last) in
      subst P e (c.does_row_rise.ensures c.if-not-does_row_rise.false, c.is_next_higher.ensures c.if-not-is_next_higher.false)
]

pub returns : goal.returns
returns c = λ t.
    let done = c.loop-row-test.false in
    let last = c.args.last_row in
    record {
      rows = λ i h k. elim (cases_lt i last) [
        | inl p ↦ (c.loop-row.invariant i h (omega (arith, done, p))).0
        | inr p ↦
            let e : last ≡ i = omega (arith, k, p) in
            let P : ℕ → Type 0 = λ n. DoesRowRise c.args.table.now n c.args.first c.args.last in
            subst P e (c.does_row_rise-2.ensures t)
      ];
      columns = λ i h k. (c.loop-row.invariant i h (omega (arith, done, k))).1;
    }
