use Rattle.linked_text.proofs.Pieces.{whole_pieces}
use Rattle.std.proofs.lemmas.Result.{on_ok_weaker}
use Rattle.linked_text.proofs.write.push_linked.Goals as goal

pub returns : goal.returns
returns c =
    on_ok_weaker c.push_word.result (λ last.
    whole_pieces c.args.design.now _ _ _ _ _ _ _ _ _ _ _ _ _ _ _
    c.miller-miller.ensures.value c.tables.ensures.value c.nets.ensures.value c.nets-2.ensures.value c.checks.ensures.value
    c.in_ok-push_head.ensures c.in_ok-push_counts.ensures c.in_ok-push_period.ensures c.in_ok-push_miller.ensures
    c.in_ok-write_each.ensures c.in_ok-write_each-2.ensures c.in_ok-write_each-3.ensures c.in_ok-write_each-4.ensures last) c.push_word.ensures
