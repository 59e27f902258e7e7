use Rattle.std.proofs.Common.{◌≡◌, ◌∙◌, ℕ, map, refl, sym, subst, add-one, arith}
use Rattle.std.proofs.lemmas.List.{length-map}
use Rattle.design_gen.specs.Couples.{coupled}
use Rattle.design_gen.specs.Rows.{HoldCouplings}
use Rattle.design_gen.proofs.RowLaws.{empty_hold}
use Rattle.design_gen.proofs.couplings.draw_couplings.Goals as goal

pub loop-net-init : goal.loop-net-init
loop-net-init c = record {
  state = refl;
  hold = empty_hold (λ r. r.items) c.in_ok-rows.rows.items c.in_ok-rows.ensures.empty;
  count = length-map c.in_ok-rows.rows.items (λ r. r.items) ∙ c.in_ok-rows.ensures.count;
}

pub loop-net-preserved : goal.loop-net-preserved
loop-net-preserved c =
    let x = c.args.source.now.state in
    rw (add-one c.loop-net.net) (c.in_ok-pair_net.ensures.paired (coupled c.args.nets x c.loop-net.net) c.loop-net.invariant)

pub pair_net-requires-clause-count : goal.pair_net-requires-clause-count
pair_net-requires-clause-count c = sym (length-map c.loop-net.rows.items (λ r. r.items)) ∙ c.loop-net.invariant.count

pub pair_net-requires-clause-some : goal.pair_net-requires-clause-some
pair_net-requires-clause-some c = c.loop-net-test.true

pub returns-clause-count : goal.returns-clause-count
returns-clause-count c = sym (length-map c.loop-net.rows.items (λ r. r.items)) ∙ c.loop-net.invariant.count

pub returns-clause-rows : goal.returns-clause-rows
returns-clause-rows c =
    let end : c.loop-net.net ≡ c.args.nets = omega (arith, c.loop-net-test.false, c.loop-net.auto.net-end) in
    subst (λ (n : ℕ). HoldCouplings (map (λ r. r.items) c.loop-net.rows.items) (coupled c.args.nets c.args.source.now.state n).couples) end c.loop-net.invariant.hold
