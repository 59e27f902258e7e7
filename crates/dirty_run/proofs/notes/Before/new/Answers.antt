use Rattle.std.proofs.Common.{[], ◌∷◌, sym, ap, subst, ◌∙◌, length-append, length, arith}
use Rattle.std.specs.List.{All}
use Rattle.std.proofs.lemmas.List.Elements.{All-push}
use Rattle.dirty_run.specs.Notes.{AreNotes}
use Rattle.dirty_run.proofs.Noting.{none_noted}
use Rattle.dirty_run.proofs.notes.Before.new.Goals as goal

pub loop-number-preserved : goal.loop-number-preserved
loop-number-preserved c =
    let inv = c.loop-number.invariant in
    let d = c.args.design.now in
    let lists = c.args.lists.now in
    let items = c.loop-number.notes.items in
    let pushed = c.in_ok-push.ensures.items in
    let long = ap length pushed ∙ length-append items (c.new.result ∷ []) in
    let count = inv.count in
    record {
      count = omega (arith, long, count);
      noted = subst (All (AreNotes d lists)) (sym pushed) (All-push (AreNotes d lists) items c.new.result inv.noted (none_noted d lists c.new.result c.new.ensures));
    }
