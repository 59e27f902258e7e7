use Rattle.std.proofs.Common.{◌≡◌, sym, subst, [], ◌∷◌, ◌++◌}
use Rattle.std.specs.List.{All}
use Rattle.xt_model.specs.Quads.{IsPairInRange}
use Rattle.eco_warm.specs.Starts.{met}
use Rattle.eco_warm.proofs.Begun.{met_turn, pair_met}
use Rattle.eco_warm.proofs.Pushed.{one_more}
use Rattle.eco_warm.proofs.run_starts.met.Goals as goal

pub loop-net-preserved : goal.loop-net-preserved
loop-net-preserved c =
    let p = c.pair-own.result in
    let q = c.pair-other.result in
    let r = c.meet.result in
    let items : c.push.new.self.items ≡ (c.loop-net.pairs.items ++ r ∷ []) = c.in_ok-push.ensures.items in
    record {
      rest = met_turn c.loop-net.pairs.items c.push.new.self.items c.args.windows.now c.args.others.now (met c.args.windows.now c.args.others.now) c.loop-net.net p q r c.pair-own.ensures.value c.pair-other.ensures.value
          c.meet.ensures items c.loop-net.invariant.rest;
      range = subst (All IsPairInRange) (sym items) (one_more IsPairInRange c.loop-net.pairs.items r c.loop-net.invariant.range (pair_met p q r c.pair-own.ensures.in_range c.pair-other.ensures.in_range c.meet.ensures));
    }

pub new-requires : goal.new-requires
new-requires c = c.loop-net.invariant.range
