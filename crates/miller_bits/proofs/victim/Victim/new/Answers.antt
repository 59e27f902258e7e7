use Rattle.std.proofs.Common.{◌∙◌}
use Rattle.xt_meaning.specs.Reads.{HoldsOfEnds}
use Rattle.xt_meaning.proofs.Sums.{few_couplings}
use Rattle.miller_bits.specs.Views.{HasNet}
use Rattle.miller_bits.proofs.Sums.{found}
use Rattle.miller_bits.proofs.victim.Victim.new.Goals as goal

pub invariant_of-result : goal.invariant_of-result
invariant_of-result g c =
    let n = c.net.result.now in
    record {
      window = c.of.ensures.window ∙ c.window.ensures.value;
      active = c.of.ensures.active;
      sound = c.net.ensures.sound;
      few = few_couplings c.args.design.now c.args.number.0 n c.net.ensures.whole c.net.ensures.there;
      aggressors = found (λ n. HoldsOfEnds (HasNet (g.V.Bounds.has c.args.view.now)) n.couplings) _ n c.net.ensures.there c.requires.words.aggressors;
    }
