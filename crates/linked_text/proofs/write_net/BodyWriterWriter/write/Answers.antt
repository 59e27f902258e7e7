use Rattle.linked_text.proofs.Pieces.{body_pieces}
use Rattle.std.proofs.lemmas.Result.{on_ok_weaker}
use Rattle.linked_text.proofs.write_net.BodyWriterWriter.write.Goals as goal

pub returns : goal.returns
returns c =
    on_ok_weaker c.write_each-3.result (λ last.
    body_pieces c.args.net.now _ _ _ _ _ _ _ _ c.as_slice.ensures c.as_slice-2.ensures c.as_slice-3.ensures
    c.in_ok-push_pair.ensures c.in_ok-write_each.ensures c.in_ok-write_each-2.ensures last) c.write_each-3.ensures
