use Rattle.std.proofs.Common.{ap, ◌∙◌, length}
use Rattle.window_words.proofs.Slices.{slice_back}
use Rattle.dirty_words.proofs.reversing.reader_counts.Goals as goal

pub loop-number-preserved : goal.loop-number-preserved
loop-number-preserved c =
    let inv = c.loop-number.invariant in
    let same = c.count_more.ensures ∙ ap length c.as_mut_slice.ensures.value in
    let back = slice_back c.loop-number.counts.len c.loop-number.counts.items c.count_more.new.counts c.loop-number.counts.ok.0 same in
    record { count = ap length back ∙ (same ∙ inv.count) }
