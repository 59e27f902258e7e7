use Rattle.std.proofs.Common.{◌≡◌, ℕ, List, ◌++◌, ◌∷◌, refl, append_assoc}
use Rattle.text_lines.specs.Fields.{field}
use Rattle.text_lines.proofs.Pieces.{field_then, field_last}
use Rattle.std.proofs.lemmas.Result.{on_ok_weaker}
use Rattle.linked_text.proofs.write_net.ArcWriterWriter.write.Goals as goal

-- two fields were appended, and then more
two_then : (o p q a b more : List ℕ) (m n : ℕ) → p ≡ o ++ (field a m ++ field b n) → q ≡ p ++ more → q ≡ o ++ (a ++ m ∷ (b ++ n ∷ more))
unfolding field
two_then o p q a b more m n e f = rw (f, e) (simp append_assoc)

pub returns : goal.returns
returns c =
    on_ok_weaker c.push_number-2.result (λ last.
    field_then _ _ _ _ _ _ _ refl c.in_ok-push_word.ensures
    (two_then _ _ _ _ _ _ _ _ c.in_ok-push_sink.ensures
    (field_then _ _ _ _ _ _ _ c.edge_word.ensures c.in_ok-push_word-2.ensures
    (field_then _ _ _ _ _ _ _ c.edge_word-2.ensures c.in_ok-push_word-3.ensures
    (field_then _ _ _ _ _ _ _ refl c.in_ok-push_number.ensures
    (field_last _ _ _ _ _ refl last)))))) c.push_number-2.ensures
