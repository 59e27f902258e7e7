-- Notes stay valid where more is noted, and what is noted of numbers that were loaded is one.
use Rattle.std.proofs.Common.{◌≡◌, ℕ, ◌+◌, ◌*◌, ◌≤◌, sym, ap, subst, ◌∙◌, List, [], ◌∷◌, length, length-append, get_or, take, drop, ◌++◌, arith}
use Rattle.std.specs.List.{All}
use Rattle.std.proofs.Math.Seq.{drop-append_seam, take-length}
use Rattle.std.proofs.lemmas.List.{drop-take, take-append-le, take-take}
use Rattle.std.proofs.lemmas.List.Elements.{All-push}
use Rattle.xt_model.specs.declared.net.NetId.{NetId}
use Rattle.xt_model.specs.declared.quad.Pair.{Pair}
use Rattle.xt_model.specs.Quads.{IsPairInRange}
use Rattle.xt_model.specs.Parts.{Parts}
use Rattle.chaos_core.specs.Tasks.{list_of, evaluated}
use Rattle.chaos_core.specs.Views.{IsLoaded}
use Rattle.dirty_run.specs.declared.notes.Note.{Note}
use Rattle.dirty_run.specs.declared.notes.Notes.{Notes}
use Rattle.dirty_run.specs.Notes.{IsNote, AreNotes, words_from}

-- numbers that are among the first `used` of two lists that begin alike
part_kept : (before after : List ℕ) (used from count : ℕ) → from + count ≤ used → take used before ≡ take used after → take count (drop from before) ≡ take count (drop from after)
part_kept before after used from count inside same =
    let first : take (from + count) before ≡ take (from + count) after =
    sym (take-take (from + count) used before inside) ∙ (ap (take (from + count)) same ∙ take-take (from + count) used after inside) in
    sym (drop-take from count before) ∙ (ap (drop from) first ∙ drop-take from count after)

-- a note stays one where more numbers come after those that there were
note_kept : (d : Parts) (lists : List (List NetId)) (before more : List ℕ) (net from : ℕ) (pair : Pair) → IsNote d lists before net from pair → IsNote d lists (before ++ more) net from pair
note_kept d lists before more net from pair note =
    let same : take (length before) before ≡ take (length before) (before ++ more) = sym (take-append-le (length before) before more (omega arith)) in
    let words : words_from lists net from before ≡ words_from lists net from (before ++ more) = part_kept before (before ++ more) (length before) from (8 * length (list_of lists net)) note.inside same in
    let long = length-append before more in
    record {
      inside = let h = note.inside in omega (arith, h, long);
      loaded = subst (IsLoaded d (list_of lists net) net) words note.loaded;
      value = note.value ∙ ap (λ (ns : List ℕ). evaluated d (list_of lists net) ns net) words;
      range = note.range;
    }

-- a note of what was loaded, whose numbers come after those that there were
note_made : (d : Parts) (lists : List (List NetId)) (before loaded : List ℕ) (net : ℕ) (pair : Pair) → IsLoaded d (list_of lists net) net loaded → pair ≡ evaluated d (list_of lists net) loaded net → IsPairInRange pair
    → IsNote d lists (before ++ loaded) net (length before) pair
note_made d lists before loaded net pair whole value range =
    let count : length loaded ≡ 8 * length (list_of lists net) = whole.whole in
    let words : words_from lists net (length before) (before ++ loaded) ≡ loaded =
    ap (take (8 * length (list_of lists net))) (drop-append_seam before loaded) ∙ (ap (λ (n : ℕ). take n loaded) (sym count) ∙ take-length loaded) in
    let long = length-append before loaded in
    record {
      inside = omega (arith, long, count);
      loaded = subst (IsLoaded d (list_of lists net) net) (sym words) whole;
      value = value ∙ ap (λ (ns : List ℕ). evaluated d (list_of lists net) ns net) (sym words);
      range = range;
    }

-- ---- all notes of a worker
pub none_noted : (d : Parts) (lists : List (List NetId)) (v : Notes) → v.entries.items ≡ [] → AreNotes d lists v
none_noted d lists v none = subst (All (λ (e : Note). IsNote d lists v.numbers.items e.net.0 e.from e.pair)) (sym none) (λ k e h. absurd (omega (arith, h)))

-- an evaluation more was noted, after the numbers that there were
pub notes_more : (d : Parts) (lists : List (List NetId)) (v w : Notes) (e : Note) (loaded : List ℕ) → w.numbers.items ≡ v.numbers.items ++ loaded → w.entries.items ≡ v.entries.items ++ e ∷ [] → e.from ≡ length v.numbers.items
    → IsLoaded d (list_of lists e.net.0) e.net.0 loaded → e.pair ≡ evaluated d (list_of lists e.net.0) loaded e.net.0 → IsPairInRange e.pair → AreNotes d lists v → AreNotes d lists w
notes_more d lists v w e loaded numbers entries from whole value range notes =
    let P : List ℕ → Note → Type 0 = λ ns x. IsNote d lists ns x.net.0 x.from x.pair in
    let more = v.numbers.items ++ loaded in
    let old : All (P more) v.entries.items = λ k x h. let y = get_or v.entries.items k x in note_kept d lists v.numbers.items loaded y.net.0 y.from y.pair (notes k x h) in
    let own : P more e = subst (λ (n : ℕ). IsNote d lists more e.net.0 n e.pair) (sym from) (note_made d lists v.numbers.items loaded e.net.0 e.pair whole value range) in
    subst (λ (ns : List ℕ). All (P ns) w.entries.items) (sym numbers) (subst (All (P more)) (sym entries) (All-push (P more) v.entries.items e old own))
