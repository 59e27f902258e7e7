use Rattle.std.proofs.Common.{◌≡◌, ℕ, ◌+◌, ◌-◌, ◌≤◌, List, ◌++◌, length, take, drop, min, refl, sym, ap, subst, ◌∙◌, arith, length-drop}
use Rattle.std.proofs.lemmas.List.{length-take-le, take_all}
use Rattle.std.proofs.Math.Seq.{take-append_seam}
use Rattle.xt_io.specs.Memory.{position_of, bytes_at}
use Rattle.xt_io.proofs.memory_files.MemoryFilesFiles.read.Goals as goal

-- the bytes that a read puts in front of a buffer, out of those that are left
next_of : (whole left copied buffer : List ℕ) (read n : ℕ) → read ≤ length whole → left ≡ take (length whole - read) (drop read whole) → copied ≡ take n left → n ≡ min (length left) (length buffer)
    → (read + length (take n (copied ++ drop n buffer)) ≤ length whole) × (take n (copied ++ drop n buffer) ≡ take (length (take n (copied ++ drop n buffer))) (drop read whole))
next_of whole left copied buffer read n within is made least =
    let past : length (drop read whole) ≡ length whole - read = length-drop read whole in
    let all : left ≡ drop read whole = is ∙ take_all (length whole - read) (drop read whole) (omega (arith, past)) in
    let long = ap length all in
    let size : length copied ≡ n = ap length made ∙ length-take-le n left (omega (arith, least)) in
    let front : take n (copied ++ drop n buffer) ≡ copied = subst (λ k. take k (copied ++ drop n buffer) ≡ copied) size (take-append_seam copied (drop n buffer)) in
    let count : length (take n (copied ++ drop n buffer)) ≡ n = ap length front ∙ size in (
      omega (arith, count, least, long, past, within),
      front ∙ (made ∙ (ap (take n) all ∙ ap (λ k. take k (drop read whole)) (sym count))),
    )

pub returns-then-count-clause-content : goal.returns-then-count-clause-content
returns-then-count-clause-content c = λ m. rw (← c.self.view_is) refl

pub returns-then-count-clause-counts : goal.returns-then-count-clause-counts
returns-then-count-clause-counts c = λ m. rw (← c.self.view_is) (c.raise.ensures.counts (position_of c.self.inside.files.items m))

pub returns-then-count-clause-called : goal.returns-then-count-clause-called
returns-then-count-clause-called c = rw (← c.self.view_is) (record { files = refl; fail = ap (λ v. v.items) c.if-count.ensures.listed; calls = c.if-count.ensures.next })

pub returns-clause-content : goal.returns-clause-content
returns-clause-content c = λ m. rw (← c.self.view_is) refl

pub returns-clause-kept : goal.returns-clause-kept
returns-clause-kept c = λ m. rw (← c.self.view_is) refl

pub returns-clause-unraised : goal.returns-clause-unraised
returns-clause-unraised c = rw (← c.self.view_is) (record { faults = refl; others = refl })

pub invariant_of-self : goal.invariant_of-self
invariant_of-self c = (c.raise.ensures.len ∙ c.self.invariant.0, c.self.invariant.1)

pub returns-then-count-clause-stays : goal.returns-then-count-clause-stays
returns-then-count-clause-stays c = rw (← c.self.view_is) refl

pub returns-then-count-clause-end : goal.returns-then-count-clause-end
returns-then-count-clause-end c = λ e. absurd cc

pub returns-then-count-clause-failed : goal.returns-then-count-clause-failed
returns-then-count-clause-failed c =
    let files = c.self.inside.files.items in
    let file = c.unwrap-file.result.file in
    let held = rw c.unwrap-file.ensures at c.self.invariant.1 in
    rw (← c.self.view_is, c.unwrap-file.ensures, held.0) c.raise.ensures.rose

pub returns-then-count-clause-others : goal.returns-then-count-clause-others
returns-then-count-clause-others c =
    let files = c.self.inside.files.items in
    let file = c.unwrap-file.result.file in
    let held = rw c.unwrap-file.ensures at c.self.invariant.1 in
    rw (← c.self.view_is, c.unwrap-file.ensures, held.0) (λ m. c.raise.ensures.others (position_of files m))

pub returns-then-count-clause-raised : goal.returns-then-count-clause-raised
returns-then-count-clause-raised c =
    let files = c.self.inside.files.items in
    let file = c.unwrap-file.result.file in
    let held = rw c.unwrap-file.ensures at c.self.invariant.1 in
    rw (← c.self.view_is, c.unwrap-file.ensures, held.0) c.raise.ensures.raised

pub returns-clause-called : goal.returns-clause-called
returns-clause-called c = rw (← c.self.view_is) (record { files = refl; fail = ap (λ v. v.items) c.if-count.ensures.listed; calls = c.if-count.ensures.next })

pub returns-clause-count : goal.returns-clause-count
returns-clause-count c = omega (arith, c.min-count.ensures)

pub returns-clause-counts : goal.returns-clause-counts
returns-clause-counts c = λ m. rw (← c.self.view_is) (omega arith)

pub returns-clause-moved : goal.returns-clause-moved
returns-clause-moved c = rw (← c.self.view_is, c.unwrap-file.ensures) refl

pub returns-clause-fills : goal.returns-clause-fills
returns-clause-fills c =
    let files = c.self.inside.files.items in
    let file = c.unwrap-file.result.file in
    let held = rw c.unwrap-file.ensures at c.self.invariant.1 in
    let read = c.unwrap-file.result.read in
    let bytes : c.bytes_at.result.now ≡ bytes_at files file = c.bytes_at.ensures ∙ ap (λ fs. bytes_at fs file) c.deref.ensures.value in
    let size = ap length bytes in
    let past = length-drop read c.bytes_at.result.now in
    let long = length-take-le (length c.bytes_at.result.now - read) (drop read c.bytes_at.result.now) (omega (arith, past)) in
    rw (← c.self.view_is, c.unwrap-file.ensures, held.0) (omega (arith, c.min-count.ensures, size, long))

pub returns-clause-next : goal.returns-clause-next
returns-clause-next c =
    let files = c.self.inside.files.items in
    let file = c.unwrap-file.result.file in
    let held = rw c.unwrap-file.ensures at c.self.invariant.1 in
    let read = c.unwrap-file.result.read in
    let bytes : c.bytes_at.result.now ≡ bytes_at files file = c.bytes_at.ensures ∙ ap (λ fs. bytes_at fs file) c.deref.ensures.value in
    let size = ap length bytes in
    let past = length-drop read c.bytes_at.result.now in
    let long = length-take-le (length c.bytes_at.result.now - read) (drop read c.bytes_at.result.now) (omega (arith, past)) in
    let within : read ≤ length c.bytes_at.result.now = omega (arith, held.1, size) in
    let next = next_of c.bytes_at.result.now _ c.copy_from_slice.new.self c.args.buffer.now read c.min-count.result within refl c.copy_from_slice.ensures.after c.min-count.ensures in
    rw (← c.self.view_is, c.unwrap-file.ensures, held.0) (rw bytes at next)

pub returns-clause-end : goal.returns-clause-end
returns-clause-end c = λ none some.
    let files = c.self.inside.files.items in
    let file = c.unwrap-file.result.file in
    let held = rw c.unwrap-file.ensures at c.self.invariant.1 in
    let read = c.unwrap-file.result.read in
    let bytes : c.bytes_at.result.now ≡ bytes_at files file = c.bytes_at.ensures ∙ ap (λ fs. bytes_at fs file) c.deref.ensures.value in
    let size = ap length bytes in
    let past = length-drop read c.bytes_at.result.now in
    let long = length-take-le (length c.bytes_at.result.now - read) (drop read c.bytes_at.result.now) (omega (arith, past)) in
    let zero : c.min-count.result ≡ 0 = cc in
    rw (← c.self.view_is, c.unwrap-file.ensures, held.0) (omega (arith, zero, some, c.min-count.ensures, size, long, held.1))
