use Rattle.std.proofs.Common.{arith}
use Rattle.std.proofs.lemmas.List.Elements.{All-push}
use Rattle.xt_model.specs.Quads.{IsPairInRange}
use Rattle.chaos_core.proofs.Numbered.{pairs_next}
use Rattle.chaos_core.proofs.words.pairs_of.Goals as goal

pub pairs-preserved : goal.pairs-preserved
pairs-preserved c = record {
  numbers = pairs_next c.args.words.now c.pairs.from c.pairs.pairs.items (record { rise = c.quad_at-rise.result; fall = c.quad_at-fall.result }) c.push.new.self.items (omega arith) c.pairs.invariant.numbers
      c.quad_at-rise.ensures.numbers c.quad_at-fall.ensures.numbers c.in_ok-push.ensures.items;
  range = rw c.in_ok-push.ensures.items (All-push IsPairInRange c.pairs.pairs.items (record { rise = c.quad_at-rise.result; fall = c.quad_at-fall.result }) c.pairs.invariant.range (record { rise = c.quad_at-rise.ensures.range; fall = c.quad_at-fall.ensures.range }));
  whole = omega arith;
  inside = omega arith;
}
