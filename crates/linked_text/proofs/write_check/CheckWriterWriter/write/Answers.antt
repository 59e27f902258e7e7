use Rattle.std.proofs.Common.{◌≡◌, List, ℕ, ◌++◌, ◌∷◌, [], Result, Ok, Err, OnOk}
use Rattle.std.proofs.lemmas.List.{append_assoc}
use Rattle.text_lines.specs.Fields.{field}
use Rattle.text_lines.specs.Lines.{line_text}
use Rattle.linked_text.proofs.write_check.CheckWriterWriter.write.Goals as goal

flop_line : {T E : Type 0} (o p q s t a b d e f g h i j : List ℕ) → p ≡ o ++ (field a 32 ++ (field b 32 ++ field d 32)) → q ≡ p ++ (field e 32 ++ field f 32)
    → s ≡ q ++ (field g 32 ++ field h 32) → (r : Result T E) → OnOk r (t ≡ s ++ (field i 32 ++ field j 10))
    → OnOk r (t ≡ o ++ line_text (a ∷ b ∷ d ∷ e ∷ f ∷ g ∷ h ∷ i ∷ j ∷ []))
unfolding field
flop_line o p q s t a b d e f g h i j head datum clock (Ok n) tables = rw (tables, clock, datum, head) (simp append_assoc)
flop_line o p q s t a b d e f g h i j head datum clock (Err n) tables = tt

port_line : {T E : Type 0} (o p q t a b d e f i j : List ℕ) → p ≡ o ++ (field a 32 ++ (field b 32 ++ field d 32)) → q ≡ p ++ (field e 32 ++ field f 32)
    → (r : Result T E) → OnOk r (t ≡ q ++ (field i 32 ++ field j 10)) → OnOk r (t ≡ o ++ line_text (a ∷ b ∷ d ∷ e ∷ f ∷ i ∷ j ∷ []))
unfolding field
port_line o p q t a b d e f i j head net (Ok n) delays = rw (delays, net, head) (simp append_assoc)
port_line o p q t a b d e f i j head net (Err n) delays = tt

pub returns-in_ok-push_sink-in-Flop-2 : goal.returns-in_ok-push_sink-in-Flop-2
returns-in_ok-push_sink-in-Flop-2 c =
    rw c.in-Flop.is
    (flop_line _ _ _ _ _ _ _ _ _ _ _ _ _ _ c.in_ok-push_head-in-Flop.ensures c.in_ok-push_sink-in-Flop.ensures c.in_ok-push_sink-in-Flop-2.ensures
    c.push_tables.result c.push_tables.ensures)

pub returns-in_ok-push_sink-in-Port : goal.returns-in_ok-push_sink-in-Port
returns-in_ok-push_sink-in-Port c =
    rw c.in-Port.is
    (port_line _ _ _ _ _ _ _ _ _ _ _ c.in_ok-push_head-in-Port.ensures c.in_ok-push_sink-in-Port.ensures c.push_delays.result c.push_delays.ensures)
