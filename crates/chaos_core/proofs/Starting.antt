-- Windows whose numbers are kept words are a fitting start.
use Rattle.std.proofs.Common.{◌≡◌, ℕ, ap, subst, ◌∙◌, List, length, ℤ, arith}
use Rattle.std.specs.List.{All}
use Rattle.xt_model.specs.declared.quad.Pair.{Pair}
use Rattle.xt_model.specs.Quads.{IsPairInRange}
use Rattle.xt_model.specs.Parts.{Parts}
use Rattle.xt_model.specs.Assign.{Assignment, assigned, words_of, quads_of}
use Rattle.xt_meaning.specs.Operator.{operator, step}
use Rattle.xt_meaning.specs.Barrier.{NoFurther, RespectsAt, Respects, IsFittingStart}
use Rattle.xt_meaning.specs.Words.{bounds_in, numbers_of, onward, AreNoFurther}
use Rattle.xt_meaning.proofs.Numbers.{numbers_count, numbers_each, windows_by_words}
use Rattle.xt_meaning.proofs.Words.{quads_of_words}
use Rattle.xt_meaning.proofs.Runs.{within_after}
use Rattle.chaos_core.specs.declared.setting.Setting.{Setting}
use Rattle.chaos_core.specs.Boards.{started}
use Rattle.chaos_core.specs.Memories.{AreKept}

-- the words of windows, and what the operator makes of them
pub words_here : (words : List ℕ) (v : List Pair) → All IsPairInRange v → numbers_of v ≡ words → bounds_in words ≡ words_of (assigned v)
words_here words v range is =
    let P : List ℕ → Type 0 = λ ws. bounds_in ws ≡ words_of (assigned v) in
    subst P is (λ i word. numbers_each v word range i)

quads_here : (v : List Pair) → quads_of (words_of (assigned v)) ≡ assigned v
quads_here v = λ i n e. quads_of_words (assigned v) n e i

pub onward_here : (d : Parts) (words : List ℕ) (v : List Pair) → All IsPairInRange v → numbers_of v ≡ words → onward d (bounds_in words) ≡ words_of (step d v)
onward_here d words v range is =
    ap (λ (f : ℕ → ℤ). onward d f) (words_here words v range is) ∙ ap (λ (W : Assignment). words_of (operator d W)) (quads_here v)

pub kept_fits : (a : Setting) (words : List ℕ) (v : List Pair) → AreKept a words → numbers_of v ≡ words → All IsPairInRange v → IsFittingStart a.way a.design v
kept_fits a words v kept is range =
    let d = a.design in
    let start = kept.seen.start in
    let count : length v ≡ length d.nets = let n = numbers_count v in let c = kept.seen.count in let e : length (numbers_of v) ≡ length words = ap length is in omega (arith, n, c, e) in
    let here = words_here words v range is in
    let far = onward_here d words v range is in
    let P : (ℕ → ℤ) → Type 0 = λ f. (word : ℕ) → RespectsAt a.way d word (f word) in
    let respects : Respects a.way d (assigned v) = record { each = subst P here kept.seen.respects } in
    let Q : (ℕ → ℤ) → Type 0 = λ f. AreNoFurther a.way f (onward d (bounds_in words)) in
    let R : (ℕ → ℤ) → Type 0 = λ f. AreNoFurther a.way (words_of (assigned v)) f in
    let S : (ℕ → ℤ) → Type 0 = λ f. AreNoFurther a.way (started a) f in
    let from : NoFurther a.way (assigned a.start) (assigned v) = windows_by_words a.way (assigned a.start) (assigned v) (subst S here kept.seen.started) in
    record {
      windows = record { count = count; in_range = range };
      respects = respects;
      fits = windows_by_words a.way (assigned v) (step d v) (subst R far (subst Q here kept.fits));
      within = record {
        top = start.within.top;
        envelope = start.within.envelope;
        accepted = start.within.accepted;
        contained = within_after a.way d start.within.top (assigned a.start) (assigned v) kept.seen.sound start.within.envelope respects from start.within.contained;
      };
    }
