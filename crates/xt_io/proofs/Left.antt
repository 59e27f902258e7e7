-- What a stream has left of a file, before and after a read.
use Rattle.std.proofs.Common.{◌≡◌, ℕ, ◌+◌, ◌≤◌, List, [], ◌++◌, length, take, drop, Option, Some, None, Result, Ok, Err, IfSome, IfOk, OnErr, refl, sym, ap, ◌∙◌, arith, length-drop}
use Rattle.std.proofs.lemmas.List.{drop-drop, length-append, length-take-le}
use Rattle.std.proofs.lemmas.Option.{same_Some}
use Rattle.std.proofs.Math.Seq.{take-append_seam, drop-append_seam}
use Rattle.std.specs.Io.KnownBytes.{Consumes, IsAtEnd, ReadConsumes}
use Rattle.xt_io.specs.Host.{IsLeft}

-- bytes that stand next in the file, and what is left behind them
pub record AreFirst (whole : List ℕ) (read : ℕ) (bytes left : List ℕ) : Type 0 where
  pub within : read + length bytes ≤ length whole
  pub next : bytes ≡ take (length bytes) (drop read whole)
  pub behind : left ≡ drop (read + length bytes) whole

first : (whole : List ℕ) (read : ℕ) (bytes left : List ℕ) → read ≤ length whole
    → drop read whole ≡ bytes ++ left → AreFirst whole read bytes left
first whole read bytes left within e =
    let count : length (drop read whole) ≡ length bytes + length left =
    ap length e ∙ length-append bytes left in
    record {
      within = omega (arith, count, length-drop read whole, within);
      next = sym (ap (take (length bytes)) e ∙ take-append_seam bytes left);
      behind = sym (drop-append_seam bytes left) ∙ ap (drop (length bytes)) (sym e)
          ∙ drop-drop (length bytes) read whole;
    }

-- the bytes that a read gave, and what is left behind them, where the content is known
abbrev pub AreNextOf : Option (List ℕ) → Option (List ℕ) → ℕ → List ℕ → Type 0
AreNextOf content after read bytes =
    IfSome content (λ whole. (left : List ℕ) × (after ≡ Some left) × AreFirst whole read bytes left)

pub next_of : (content before after : Option (List ℕ)) (read : ℕ) (bytes : List ℕ) → IsLeft content read before
    → Consumes before after bytes → AreNextOf content after read bytes
next_of None before after read bytes left consumed = tt
next_of (Some whole) None after read bytes left consumed = cc
next_of (Some whole) (Some xs) None read bytes left consumed = absurd consumed
next_of (Some whole) (Some xs) (Some ys) read bytes left consumed =
    (ys, refl, first whole read bytes ys left.0 (sym (same_Some xs (drop read whole) left.1) ∙ consumed))

-- what is left after a read
pub left_after : {E : Type 0} (content before after : Option (List ℕ)) (read now : ℕ) (buffer : List ℕ)
    (r : Result ℕ E) → IsLeft content read before → ReadConsumes before after r buffer
    → IfOk r (λ n. n ≤ length buffer) → IfOk r (λ n. now ≡ read + n) → OnErr r (now ≡ read)
    → IsLeft content now after
left_after None before after read now buffer r left consumed within moved stays = tt
left_after (Some whole) before after read now buffer (Ok n) left consumed within moved stays =
    let found = next_of (Some whole) before after read (take n buffer) left consumed.0 in
    let all : now ≡ read + length (take n buffer) =
    moved ∙ ap (λ k. read + k) (sym (length-take-le n buffer within)) in
    (omega (arith, all, found.2.within), found.1 ∙ ap (λ t. Some t) (found.2.behind ∙ ap (λ k. drop k whole) (sym all)))
left_after (Some whole) None after read now buffer (Err e) left consumed within moved stays = cc
left_after (Some whole) (Some xs) None read now buffer (Err e) left consumed within moved stays = absurd consumed
left_after (Some whole) (Some xs) (Some ys) read now buffer (Err e) left consumed within moved stays =
    (omega (arith, stays, left.0), ap (λ t. Some t) consumed ∙ left.1 ∙ ap (λ k. Some (drop k whole)) (sym stays))

-- where nothing is left, all was read
pub left_none : (content before after : Option (List ℕ)) (read : ℕ) → IsLeft content read before
    → Consumes before after [] → IsAtEnd after → IfSome content (λ whole. read ≡ length whole)
left_none None before after read left consumed end = tt
left_none (Some whole) None after read left consumed end = cc
left_none (Some whole) (Some xs) None read left consumed end = absurd consumed
left_none (Some whole) (Some xs) (Some ys) read left consumed end =
    let none : drop read whole ≡ [] = sym (same_Some xs (drop read whole) left.1) ∙ consumed ∙ end in
    omega (arith, left.0, length-drop read whole, ap length none)
