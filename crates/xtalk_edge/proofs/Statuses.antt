-- The status of a call is never that of a run without words.
use Rattle.std.proofs.Common.{◌≡◌, ℕ, sym, ◌∙◌, arith}
use Rattle.std.specs.Prelude.{◌≢◌}
use Rattle.call_meaning.specs.FailureWords.{status_of}
use Rattle.call_meaning.specs.declared.refusal.Refusal.TheVariants.{Words, File, Linking, Design}
use Rattle.call_meaning.specs.declared.refusal.Unlinked.TheVariants as unlinked
use Rattle.call_meaning.specs.declared.refusal.DesignRefusal.TheVariants.{Limit}
use Rattle.call_meaning.specs.declared.refusal.TextRefusal.TheVariants.{At, Beyond}
use Rattle.call_meaning.specs.declared.refusal.FileRefusal.TheVariants.{TooLong, Content}
use Rattle.call_meaning.specs.declared.refusal.Failure.{Failure}
use Rattle.call_meaning.specs.declared.refusal.Failure.TheVariants.{NoText, Unwritten}
use Rattle.call_meaning.specs.declared.refusal.Stop.TheVariants.{Refused, Unread, NoMemory}

-- no failure has the status of a run without words
not_nine : (failure : Failure) → status_of failure ≡ 9 → ⊥
not_nine (NoText (Refused Words)) e = omega (arith, e)
not_nine (NoText (Refused (File file (Content (At line code))))) e = omega (arith, e)
not_nine (NoText (Refused (File file (Content (Beyond limit))))) e = omega (arith, e)
not_nine (NoText (Refused (File file TooLong))) e = omega (arith, e)
not_nine (NoText (Refused (Linking (unlinked.Refused why)))) e = omega (arith, e)
not_nine (NoText (Refused (Linking (unlinked.Beyond limit)))) e = omega (arith, e)
not_nine (NoText (Refused (Design (Limit passed)))) e = omega (arith, e)
not_nine (NoText (Unread file)) e = omega (arith, e)
not_nine (NoText NoMemory) e = omega (arith, e)
not_nine Unwritten e = omega (arith, e)

-- a call answers another status
pub other_status : (status : ℕ) → (status ≢ 0 → (failure : Failure) × (status ≡ status_of failure)) → status ≢ 9
other_status status failed e =
    let h = failed (λ zero. let z : status ≡ 0 = zero in omega (arith, e, z)) in
    not_nine h.0 (sym h.1 ∙ e)
