use Rattle.std.proofs.Common.{◌∙◌}
use Rattle.chaos_core.proofs.Kept.{words_range}
use Rattle.chaos_core.proofs.Starting.{kept_fits}
use Rattle.chaos_core.proofs.memory.MemoryBoard.windows.Goals as goal

pub pairs_of-requires-clause-range : goal.pairs_of-requires-clause-range
pairs_of-requires-clause-range c = rw c.words.ensures.value (words_range c.args.self.now c.words.ensures.kept)

pub returns-clause-fits : goal.returns-clause-fits
returns-clause-fits c =
    let m = c.args.self.now in
    rw c.new.ensures (kept_fits m.setting m.words c.in_ok-pairs.pairs.items c.words.ensures.kept.words (c.in_ok-pairs.ensures.numbers ∙ c.words.ensures.value) c.in_ok-pairs.ensures.range)
