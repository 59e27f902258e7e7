use Rattle.std.proofs.Common.{◌≡◌, ℕ, zero, suc, ◌<◌, [], ◌∷◌, arith}
use Rattle.std.specs.Prelude.{slice_index}
use Rattle.xt_meaning.specs.Words.{number_for}
use Rattle.chaos_core.specs.Tasks.{bound_at}
use Rattle.chaos_core.proofs.words.numbers_in.Goals as goal

eight : (f : ℕ → ℕ) (a b c d e g h k : ℕ) → a ≡ f 0 → b ≡ f 1 → c ≡ f 2 → d ≡ f 3 → e ≡ f 4 → g ≡ f 5 → h ≡ f 6 → k ≡ f 7 → (i : ℕ) → i < 8 → slice_index (a ∷ b ∷ c ∷ d ∷ e ∷ g ∷ h ∷ k ∷ []) i ≡ f i
eight f a b c d e g h k p0 p1 p2 p3 p4 p5 p6 p7 zero lt = p0
eight f a b c d e g h k p0 p1 p2 p3 p4 p5 p6 p7 (suc zero) lt = p1
eight f a b c d e g h k p0 p1 p2 p3 p4 p5 p6 p7 (suc (suc zero)) lt = p2
eight f a b c d e g h k p0 p1 p2 p3 p4 p5 p6 p7 (suc (suc (suc zero))) lt = p3
eight f a b c d e g h k p0 p1 p2 p3 p4 p5 p6 p7 (suc (suc (suc (suc zero)))) lt = p4
eight f a b c d e g h k p0 p1 p2 p3 p4 p5 p6 p7 (suc (suc (suc (suc (suc zero))))) lt = p5
eight f a b c d e g h k p0 p1 p2 p3 p4 p5 p6 p7 (suc (suc (suc (suc (suc (suc zero)))))) lt = p6
eight f a b c d e g h k p0 p1 p2 p3 p4 p5 p6 p7 (suc (suc (suc (suc (suc (suc (suc zero))))))) lt = p7
eight f a b c d e g h k p0 p1 p2 p3 p4 p5 p6 p7 (suc (suc (suc (suc (suc (suc (suc (suc n)))))))) lt = absurd (omega (arith, lt))

pub returns : goal.returns
returns c = eight (λ i. number_for (bound_at c.args.pair.now i)) c.number_in.result c.number_in-2.result c.number_in-3.result c.number_in-4.result c.number_in-5.result c.number_in-6.result c.number_in-7.result c.number_in-8.result c.number_in.ensures c.number_in-2.ensures c.number_in-3.ensures c.number_in-4.ensures c.number_in-5.ensures c.number_in-6.ensures c.number_in-7.ensures c.number_in-8.ensures
