-- Words in memory: what a call leaves is kept.
use Rattle.std.proofs.Common.{◌≡◌, ℕ, ◌+◌, ◌-◌, ◌*◌, ◌%◌, ◌<◌, ◌≤◌, inl, inr, refl, sym, ap, subst, ◌∙◌, List, [], ◌∷◌, ◌++◌, length, set, get_or, ℤ, arith}
use Rattle.std.specs.List.{All, range_with_len}
use Rattle.std.proofs.lemmas.Bool.{cases_lt}
use Rattle.std.proofs.lemmas.List.{set-get_or, get_or_default, length-set}
use Rattle.std.proofs.lemmas.List.FromFn.{length-range_with_len, get_or-range_with_len}
use Rattle.xt_model.specs.declared.direction.Direction.{Direction}
use Rattle.xt_model.specs.declared.quad.Pair.{Pair}
use Rattle.xt_model.specs.Parts.{Parts}
use Rattle.xt_model.specs.Sound.{IsSound}
use Rattle.xt_model.specs.Assign.{Assignment, assigned, words_of, quads_of}
use Rattle.xt_model.proofs.OrderLaws.{range_more}
use Rattle.xt_meaning.specs.Operator.{operator, step}
use Rattle.xt_meaning.specs.Barrier.{IsBoundNoFurther, RespectsAt, IsFittingStart}
use Rattle.xt_meaning.specs.Words.{bound_in, quiet_number, number_at, bounds_in, numbers_of, onward, AreNoFurther, further}
use Rattle.xt_meaning.proofs.Growth.{wired}
use Rattle.xt_meaning.proofs.Words.{words_from_quads, quads_of_words}
use Rattle.xt_meaning.proofs.Steps.{bound_refl}
use Rattle.xt_meaning.proofs.Numbers.{numbers_count, numbers_each, further_one, further_first, words_respect_on, words_fit_on}
use Rattle.chaos_core.specs.declared.setting.Setting.{Setting}
use Rattle.chaos_core.specs.Boards.{nets_of, started, IsFound, Loads, Publishes, CanPublish, Draws, late_after}
use Rattle.chaos_core.specs.Memories.{Memory, most_late, knowledge_of, AreKept, IsKept}
use Rattle.chaos_core.proofs.Sight.{seen_range, are_refl, are_trans, at_each, seen_onward}
use Rattle.chaos_core.proofs.Moves.{below, not_below}

-- ---- the words of a start
pub start_kept : (a : Setting) → IsSound a.design → IsFittingStart a.way a.design a.start → AreKept a (numbers_of a.start)
start_kept a s f =
    let W = assigned a.start in
    let ws = numbers_of a.start in
    let same : bounds_in ws ≡ words_of W = λ i word. numbers_each a.start word f.windows.in_range i in
    let P : (ℕ → ℤ) → Type 0 = λ g. AreNoFurther a.way (words_of W) g in
    let back : W ≡ quads_of (words_of W) = λ i n e. sym (quads_of_words W n e) i in
    let fits : AreNoFurther a.way (words_of W) (onward a.design (words_of W)) =
    let Q : Assignment → Type 0 = λ V. AreNoFurther a.way (words_of W) (words_of (operator a.design V)) in
    subst Q back (words_from_quads a.way W (step a.design a.start) f.fits) in
    let R : (ℕ → ℤ) → Type 0 = λ g. AreNoFurther a.way g (onward a.design g) in
    record {
      seen = record {
        sound = s;
        start = f;
        count = numbers_count a.start ∙ ap (λ n. 8 * n) f.windows.count;
        respects = λ word. let T : (ℕ → ℤ) → Type 0 = λ g. RespectsAt a.way a.design word (g word) in subst T (sym same) (f.respects.each word);
        started = subst P (sym same) (are_refl a.way (words_of W));
      };
      fits = subst R (sym same) fits;
    }

-- ---- a word moves on
module _ (a : Setting) (words : List ℕ) (word value : ℕ) (kept : AreKept a words) (inside : word < length words)
    (can : IsBoundNoFurther a.way (word % 2) (bound_in value) (onward a.design (bounds_in words) word)) where
  left_within : IsBoundNoFurther a.way (word % 2) (bound_in (further a.way (word % 2) (number_at words word) value)) (onward a.design (bounds_in words) word)
  left_within =
      let P : ℕ → Type 0 = λ n. IsBoundNoFurther a.way (word % 2) (bound_in n) (onward a.design (bounds_in words) word) in
      elim (further_one a.way (word % 2) (number_at words word) value) [ inl e ↦ subst P (sym e) (kept.fits word) | inr e ↦ subst P (sym e) can ]

  pub moved_kept : AreKept a (set words word (further a.way (word % 2) (number_at words word) value))
  moved_kept =
      let n = further a.way (word % 2) (number_at words word) value in
      let later = set words word n in
      let d = a.design in
      let on = seen_onward a.way words word n inside (further_first a.way (word % 2) (number_at words word) value) in
      let behind : AreNoFurther a.way (bounds_in later) (onward d (bounds_in words)) =
      at_each (λ w x. IsBoundNoFurther a.way (w % 2) (bound_in x) (onward d (bounds_in words) w)) words word n inside left_within kept.fits in
      record {
        seen = record {
          sound = kept.seen.sound;
          start = kept.seen.start;
          count = length-set words word n ∙ kept.seen.count;
          respects = words_respect_on a.way d (bounds_in words) (bounds_in later) (wired d kept.seen.sound) kept.seen.respects on behind;
          started = are_trans a.way (started a) (bounds_in words) (bounds_in later) kept.seen.started on;
        };
        fits = words_fit_on a.way d (bounds_in words) (bounds_in later) (wired d kept.seen.sound) kept.seen.respects on behind;
      }

-- ---- the calls
pub found_there : (m : Memory) (word number : ℕ) → IsKept m → number ≡ number_at m.words word → IsFound (knowledge_of m) word number
found_there m word number kept is =
    let k = knowledge_of m in
    rw is (record {
      respects = kept.words.seen.respects word;
      past = bound_refl m.setting.way (word % 2) (bounds_in m.words word);
      alone = λ h. refl;
    })

pub loads_there : (m : Memory) (word number : ℕ) → IsKept m → number ≡ number_at m.words word → Loads (knowledge_of m) word number (knowledge_of m)
loads_there m word number kept is = record {
  found = found_there m word number kept is;
  after =
      let e : set m.words word number ≡ m.words = rw is (set-get_or m.words word (quiet_number (word % 2))) in
      sym (ap (λ ws. record (knowledge_of m) { seen = ws }) e);
}

pub publishes_there : (m : Memory) (word number left : ℕ) → IsKept m → number ≡ number_at m.words word
    → Publishes (knowledge_of m) word number left (knowledge_of (record m { words = set m.words word left }))
publishes_there m word number left kept is = record { found = found_there m word number kept is; after = refl }

pub read_number : (words : List ℕ) (word number : ℕ) → word < length words → number ≡ get_or words word number → number ≡ number_at words word
read_number words word number h e = e ∙ get_or_default words word number _ h

pub draws_there : (m : Memory) → IsKept m → Draws (knowledge_of m) m.next (knowledge_of (record m { next = m.next + 1 }))
draws_there m kept =
    let n = m.next in
    let nets = nets_of m.setting in
    let few = kept.few in
    record {
      greater = λ i x h.
          let len : length (range_with_len 0 n) ≡ n = length-range_with_len 0 n in
          let e : get_or (range_with_len 0 n) i x ≡ 0 + i = get_or-range_with_len 0 n i x (omega (arith, len, h)) in
          omega (arith, len, h, e);
      after =
          let e : range_with_len 0 (n + 1) ≡ range_with_len 0 n ++ n ∷ [] = sym (range_more n) in
          let l : most_late - ((n + 1) - nets) ≡ late_after (knowledge_of m) n = elim (cases_lt n nets) [
            | inl p ↦ rw (below n nets p) (omega arith)
            | inr p ↦ rw (not_below n nets p) (omega arith)
          ] in
          rw (e, l) refl;
    }

-- ---- in the words of the code
abbrev pub memory_at : Parts → Direction → List Pair → List ℕ → ℕ → Memory
memory_at d way start words next = record { setting = record { design = d; way = way; start = start }; words = words; next = next }

pub new_kept : (d e : Parts) (way : Direction) (start begin : List Pair) (words empty : List ℕ) → e ≡ d → begin ≡ start → empty ≡ [] → IsSound d → IsFittingStart way d start → words ≡ empty ++ numbers_of start
    → IsKept (memory_at e way begin words 0)
new_kept d e way start begin words empty same from none s f is =
    let w : words ≡ numbers_of start = is ∙ ap (λ xs. xs ++ numbers_of start) none in
    rw (same, from, w) (record { words = start_kept (record { design = d; way = way; start = start }) s f; few = omega arith })

pub moved_there : (m : Memory) (word value number left : ℕ) → IsKept m → word < length m.words → CanPublish (knowledge_of m) word value → number ≡ number_at m.words word
    → left ≡ further m.setting.way (word % 2) number value → IsKept (record m { words = set m.words word left })
moved_there m word value number left kept inside can is at =
    let e : left ≡ further m.setting.way (word % 2) (number_at m.words word) value = at ∙ ap (λ n. further m.setting.way (word % 2) n value) is in
    rw e (record { words = moved_kept m.setting m.words word value kept.words inside can; few = kept.few })

pub words_range : (m : Memory) → IsKept m → All (λ n. n ≤ 9223372036854775808) m.words
words_range m kept = λ i x h. subst (λ n. n ≤ 9223372036854775808) (get_or_default m.words i (quiet_number (i % 2)) x h) (seen_range m.setting m.words i kept.words.seen)

-- ---- a call that moves a word, as the code has it: m is what is inside, v the value that clauses see
pub word_inside : (m v : Memory) (word : ℕ) → m ≡ v → IsKept m → word < 8 * nets_of v.setting → word < length m.words
word_inside m v word is kept h =
    let own = subst (λ (x : Memory). word < 8 * nets_of x.setting) (sym is) h in
    let n = kept.words.seen.count in
    omega (arith, own, n)

pub record IsMoved (m v : Memory) (word number left : ℕ) : Type 0 where
  pub kept : IsKept (record m { words = set m.words word left })
  pub publishes : Publishes (knowledge_of v) word number left (knowledge_of (record m { words = set m.words word left }))

pub moved_call : (m v : Memory) (word value number left : ℕ) → m ≡ v → IsKept m → word < 8 * nets_of v.setting → CanPublish (knowledge_of v) word value → number ≡ get_or m.words word number
    → left ≡ further m.setting.way (word % 2) number value → IsMoved m v word number left
moved_call m v word value number left is kept h can found at =
    let inside = word_inside m v word is kept h in
    let own = subst (λ (x : Memory). CanPublish (knowledge_of x) word value) (sym is) can in
    let here = read_number m.words word number inside found in
    let l = knowledge_of (record m { words = set m.words word left }) in
    record {
      kept = moved_there m word value number left kept inside own here at;
      publishes = subst (λ (x : Memory). Publishes (knowledge_of x) word number left l) is (publishes_there m word number left kept here);
    }
