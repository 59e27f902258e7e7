use Rattle.net_eval.specs.ReadLists.{ids}
use Rattle.chaos_core.specs.Spared.{loaded_quads}
use Rattle.chaos_core.proofs.Telling.{pair_quads}
use Rattle.chaos_core.proofs.loaded.LoadedWords.pair.Goals as goal

pub returns-clause-value : goal.returns-clause-value
returns-clause-value c = pair_quads _ (loaded_quads (ids c.args.self.now.reads.now) c.args.self.now.numbers.now c.args.net.0) c.window.ensures.value c.window-2.ensures.value
