use Rattle.std.proofs.Common.{◌∙◌}
use Rattle.chaos_core.proofs.Kept.{words_range}
use Rattle.chaos_core.proofs.Starting.{kept_fits}
use Rattle.chaos_core.proofs.memory.MemoryBoard.load_into.Goals as goal

pub set_pairs-requires-clause-range : goal.set_pairs-requires-clause-range
set_pairs-requires-clause-range c = rw c.words.ensures.value (words_range c.args.self.now c.words.ensures.kept)

pub returns-clause-fits : goal.returns-clause-fits
returns-clause-fits c =
    let m = c.args.self.now in
    kept_fits m.setting m.words c.set_pairs.new.windows c.words.ensures.kept.words (c.set_pairs.ensures.numbers ∙ c.words.ensures.value) c.set_pairs.ensures.range
