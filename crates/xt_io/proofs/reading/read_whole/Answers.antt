use Rattle.std.proofs.Common.{◌≡◌, ℕ, ◌+◌, ◌<◌, ◌≤◌, List, ◌++◌, length, take, drop, Option, Some, None, IfSome, inl, inr, vec_len, refl, sym, ap, subst, ◌∙◌, arith}
use Rattle.std.proofs.lemmas.List.{length-take-le, take_all}
use Rattle.std.proofs.Math.Seq.{take-add}
use Rattle.xt_io.specs.Outside.{Place, Rose, KeepsCounts, ChangesOnly, AreNext, IsAtEnd, IsPast, moved_by}
use Rattle.xt_io.proofs.reading.read_whole.Goals as goal

-- ---- a reader that stands in a file of this name, behind so many bytes of it

-- at the end all was read
at_end : (content : List ℕ → Option (List ℕ)) (before : Option (List ℕ)) (place : Option Place) (name : List ℕ) (read : ℕ)
    → place ≡ Some (record { name = name; read = read }) → content name ≡ before → IsAtEnd place content
    → IfSome before (λ whole. read ≡ length whole)
at_end content before place name read here same end =
    let there : IfSome (content name) (λ whole. read ≡ length whole) = rw here at end in rw same at there

-- a piece behind these bytes
abbrev IsBehind : Option (List ℕ) → ℕ → List ℕ → Type 0
IsBehind before read piece =
    IfSome before (λ whole. (read + length piece ≤ length whole) × (piece ≡ take (length piece) (drop read whole)))

is_behind : (content : List ℕ → Option (List ℕ)) (before : Option (List ℕ)) (place : Option Place) (name : List ℕ) (read : ℕ) (piece : List ℕ)
    → place ≡ Some (record { name = name; read = read }) → content name ≡ before → AreNext place content piece
    → IsBehind before read piece
is_behind content before place name read piece here same next =
    let there : IsBehind (content name) read piece = rw here at next in rw same at there

past : (place after : Option Place) (name : List ℕ) (read count most : ℕ) → place ≡ Some (record { name = name; read = read })
    → after ≡ moved_by count place → most < read + count → IsPast after name most
past place after name read count most here moved beyond = rw (moved, here) (refl, beyond)

-- ---- what the bytes are of the file

whole_read : (before : Option (List ℕ)) (bytes : List ℕ) (read : ℕ) → IfSome before (λ whole. bytes ≡ take read whole)
    → IfSome before (λ whole. read ≡ length whole) → IfSome before (λ whole. bytes ≡ whole)
whole_read None bytes read first end = tt
whole_read (Some whole) bytes read first end = first ∙ take_all read whole (omega (arith, end))

longer : (before : Option (List ℕ)) (read most : ℕ) (piece : List ℕ) → IsBehind before read piece → most < read + length piece
    → IfSome before (λ whole. most < length whole)
longer None read most piece next beyond = tt
longer (Some whole) read most piece next beyond = omega (arith, next.0, beyond)

more_read : (before : Option (List ℕ)) (bytes piece all : List ℕ) (read behind : ℕ) → IfSome before (λ whole. bytes ≡ take read whole)
    → IsBehind before read piece → all ≡ bytes ++ piece → behind ≡ read + length piece
    → IfSome before (λ whole. all ≡ take behind whole)
more_read None bytes piece all read behind first next joined moved = tt
more_read (Some whole) bytes piece all read behind first next joined moved =
    joined ∙ (ap (λ t. t ++ piece) first ∙ (ap (λ t. take read whole ++ t) next.1
    ∙ (sym (take-add read (length piece) whole) ∙ ap (λ n. take n whole) (sym moved))))

-- ---- counts of faults that were as before, up to the last call

rose_since : (before now after : List ℕ → ℕ) (name : List ℕ) → KeepsCounts before now → Rose (now name) (after name) → Rose (before name) (after name)
rose_since before now after name kept rose = subst (λ n. Rose n (after name)) (kept name) rose

changed_since : (before now after : List ℕ → ℕ) (name : List ℕ) → KeepsCounts before now → ChangesOnly name now after → ChangesOnly name before after
changed_since before now after name kept only m = elim (only m) [
  | inl e ↦ inl (e ∙ kept m)
  | inr h ↦ inr (sym (kept m) ∙ (h.0 ∙ kept name), h.1)
]

-- ---- the answers

pub returns-then-count-eq0-clause-whole : goal.returns-then-count-eq0-clause-whole
returns-then-count-eq0-clause-whole g c =
    let before = g.F.Files.content c.args.files.now c.args.name.now in
    whole_read before c.pieces.bytes.items (vec_len c.pieces.bytes) c.pieces.invariant.so_far
    (at_end (g.F.Files.content c.pieces.files) before (g.F.Files.place c.pieces.files) c.args.name.now (vec_len c.pieces.bytes)
    c.pieces.invariant.place (c.pieces.invariant.same c.args.name.now)
    (c.in-Ok-read.ensures.end (rw c.if-count-eq0.true refl) c.pieces.invariant.room))

pub returns-then-count-len-clause-too_long : goal.returns-then-count-len-clause-too_long
returns-then-count-len-clause-too_long g c =
    let beyond : 268435456 < vec_len c.pieces.bytes + c.in-Ok-read.count =
    omega (arith, c.if-count-len.true, c.len.ensures, c.pieces.invariant.fits) in (
      λ _. past (g.F.Files.place c.pieces.files) (g.F.Files.place c.read.new.self) c.args.name.now (vec_len c.pieces.bytes)
          c.in-Ok-read.count 268435456 c.pieces.invariant.place c.in-Ok-read.ensures.moved beyond,
      λ _. refl,
    )

pub returns-then-count-len-clause-longer : goal.returns-then-count-len-clause-longer
returns-then-count-len-clause-longer g c =
    let before = g.F.Files.content c.args.files.now c.args.name.now in
    let piece = take c.in-Ok-read.count c.read.new.buffer in
    let size : length piece ≡ c.in-Ok-read.count =
    length-take-le c.in-Ok-read.count c.read.new.buffer (omega (arith, c.in-Ok-read.ensures.count, c.read.auto.buffer)) in
    λ _. longer before (vec_len c.pieces.bytes) 268435456 piece
    (is_behind (g.F.Files.content c.pieces.files) before (g.F.Files.place c.pieces.files) c.args.name.now (vec_len c.pieces.bytes) piece
    c.pieces.invariant.place (c.pieces.invariant.same c.args.name.now) c.in-Ok-read.ensures.next)
    (omega (arith, size, c.if-count-len.true, c.len.ensures, c.pieces.invariant.fits))

pub pieces-preserved : goal.pieces-preserved
pieces-preserved g c =
    let before = g.F.Files.content c.args.files.now c.args.name.now in
    let piece = take c.in-Ok-read.count c.read.new.buffer in
    let size : length piece ≡ c.in-Ok-read.count =
    length-take-le c.in-Ok-read.count c.read.new.buffer (omega (arith, c.in-Ok-read.ensures.count, c.read.auto.buffer)) in
    let moved : vec_len c.extend_from_slice.new.self ≡ vec_len c.pieces.bytes + length piece = c.in-Ok-extend_from_slice.ensures.len in
    let next : IsBehind before (vec_len c.pieces.bytes) piece =
    is_behind (g.F.Files.content c.pieces.files) before (g.F.Files.place c.pieces.files) c.args.name.now (vec_len c.pieces.bytes) piece
    c.pieces.invariant.place (c.pieces.invariant.same c.args.name.now) c.in-Ok-read.ensures.next in
    record {
      same = λ m. c.in-Ok-read.ensures.content m ∙ c.pieces.invariant.same m;
      opened = rw c.in-Ok-read.ensures.record c.pieces.invariant.opened;
      counts = λ m. c.in-Ok-read.ensures.kept m ∙ c.pieces.invariant.counts m;
      place =
          c.in-Ok-read.ensures.moved ∙ (ap (moved_by c.in-Ok-read.count) c.pieces.invariant.place
          ∙ ap (λ n. Some (record { name = c.args.name.now; read = n })) (ap (λ n. vec_len c.pieces.bytes + n) (sym size) ∙ sym moved));
      fits = omega (arith, moved, size, c.if-count-len.false, c.len.ensures, c.pieces.invariant.fits);
      so_far =
          more_read before c.pieces.bytes.items piece c.extend_from_slice.new.self.items (vec_len c.pieces.bytes)
          (vec_len c.extend_from_slice.new.self) c.pieces.invariant.so_far next c.in-Ok-extend_from_slice.ensures.items moved;
      room = omega (arith, c.pieces.invariant.room, c.read.auto.buffer);
    }

pub returns-then-is_err-clause-content : goal.returns-then-is_err-clause-content
returns-then-is_err-clause-content g c = c.open.ensures.content

pub returns-then-is_err-clause-opened : goal.returns-then-is_err-clause-opened
returns-then-is_err-clause-opened g c = c.open.ensures.recorded

pub returns-then-is_err-clause-counts : goal.returns-then-is_err-clause-counts
returns-then-is_err-clause-counts g c = c.open.ensures.counts

pub returns-in_default-clause-content : goal.returns-in_default-clause-content
returns-in_default-clause-content g c = c.open.ensures.content

pub returns-in_default-clause-opened : goal.returns-in_default-clause-opened
returns-in_default-clause-opened g c = c.open.ensures.recorded

pub returns-in_default-clause-counts : goal.returns-in_default-clause-counts
returns-in_default-clause-counts g c = c.open.ensures.counts

pub returns-in_default-read-clause-content : goal.returns-in_default-read-clause-content
returns-in_default-read-clause-content g c = λ m. c.in_default-read.ensures.content m ∙ c.pieces.invariant.same m

pub returns-in_default-read-clause-opened : goal.returns-in_default-read-clause-opened
returns-in_default-read-clause-opened g c = rw c.in_default-read.ensures.record c.pieces.invariant.opened

pub returns-in_default-read-clause-counts : goal.returns-in_default-read-clause-counts
returns-in_default-read-clause-counts g c = λ m. omega (arith, c.pieces.invariant.counts m, c.in_default-read.ensures.counts m)

pub returns-in_default-read-clause-fault : goal.returns-in_default-read-clause-fault
returns-in_default-read-clause-fault g c =
    let F = g.F.Files.faults in
    λ e. rose_since (F c.args.files.now) (F c.pieces.files) (F c.read.new.self) c.args.name.now c.pieces.invariant.counts
    (rw c.pieces.invariant.place at c.in_default-read.ensures.failed)

pub returns-in_default-read-clause-others : goal.returns-in_default-read-clause-others
returns-in_default-read-clause-others g c =
    let F = g.F.Files.faults in
    changed_since (F c.args.files.now) (F c.pieces.files) (F c.read.new.self) c.args.name.now c.pieces.invariant.counts
    (rw c.pieces.invariant.place at c.in_default-read.ensures.others)

pub returns-then-count-eq0-clause-content : goal.returns-then-count-eq0-clause-content
returns-then-count-eq0-clause-content g c = λ m. c.in-Ok-read.ensures.content m ∙ c.pieces.invariant.same m

pub returns-then-count-eq0-clause-opened : goal.returns-then-count-eq0-clause-opened
returns-then-count-eq0-clause-opened g c = rw c.in-Ok-read.ensures.record c.pieces.invariant.opened

pub returns-then-count-eq0-clause-counts : goal.returns-then-count-eq0-clause-counts
returns-then-count-eq0-clause-counts g c = λ m. omega (arith, c.in-Ok-read.ensures.kept m ∙ c.pieces.invariant.counts m)

pub returns-then-count-eq0-clause-kept : goal.returns-then-count-eq0-clause-kept
returns-then-count-eq0-clause-kept g c = λ _ m. c.in-Ok-read.ensures.kept m ∙ c.pieces.invariant.counts m

pub returns-then-count-eq0-clause-others : goal.returns-then-count-eq0-clause-others
returns-then-count-eq0-clause-others g c = λ m. inl (c.in-Ok-read.ensures.kept m ∙ c.pieces.invariant.counts m)

pub returns-then-count-eq0-clause-fault : goal.returns-then-count-eq0-clause-fault
returns-then-count-eq0-clause-fault g c = λ e. absurd cc

pub returns-then-count-len-clause-content : goal.returns-then-count-len-clause-content
returns-then-count-len-clause-content g c = λ m. c.in-Ok-read.ensures.content m ∙ c.pieces.invariant.same m

pub returns-then-count-len-clause-opened : goal.returns-then-count-len-clause-opened
returns-then-count-len-clause-opened g c = rw c.in-Ok-read.ensures.record c.pieces.invariant.opened

pub returns-then-count-len-clause-counts : goal.returns-then-count-len-clause-counts
returns-then-count-len-clause-counts g c = λ m. omega (arith, c.in-Ok-read.ensures.kept m ∙ c.pieces.invariant.counts m)

pub returns-then-count-len-clause-kept : goal.returns-then-count-len-clause-kept
returns-then-count-len-clause-kept g c = λ _ m. c.in-Ok-read.ensures.kept m ∙ c.pieces.invariant.counts m

pub returns-then-count-len-clause-others : goal.returns-then-count-len-clause-others
returns-then-count-len-clause-others g c = λ m. inl (c.in-Ok-read.ensures.kept m ∙ c.pieces.invariant.counts m)

pub returns-then-count-len-clause-fault : goal.returns-then-count-len-clause-fault
returns-then-count-len-clause-fault g c = λ e. absurd cc

pub returns-in_default-extend_from_slice-clause-content : goal.returns-in_default-extend_from_slice-clause-content
returns-in_default-extend_from_slice-clause-content g c = λ m. c.in-Ok-read.ensures.content m ∙ c.pieces.invariant.same m

pub returns-in_default-extend_from_slice-clause-opened : goal.returns-in_default-extend_from_slice-clause-opened
returns-in_default-extend_from_slice-clause-opened g c = rw c.in-Ok-read.ensures.record c.pieces.invariant.opened

pub returns-in_default-extend_from_slice-clause-counts : goal.returns-in_default-extend_from_slice-clause-counts
returns-in_default-extend_from_slice-clause-counts g c = λ m. omega (arith, c.in-Ok-read.ensures.kept m ∙ c.pieces.invariant.counts m)

pub returns-in_default-extend_from_slice-clause-kept : goal.returns-in_default-extend_from_slice-clause-kept
returns-in_default-extend_from_slice-clause-kept g c = λ _ m. c.in-Ok-read.ensures.kept m ∙ c.pieces.invariant.counts m

pub returns-in_default-extend_from_slice-clause-others : goal.returns-in_default-extend_from_slice-clause-others
returns-in_default-extend_from_slice-clause-others g c = λ m. inl (c.in-Ok-read.ensures.kept m ∙ c.pieces.invariant.counts m)

pub returns-in_default-extend_from_slice-clause-fault : goal.returns-in_default-extend_from_slice-clause-fault
returns-in_default-extend_from_slice-clause-fault g c = λ e. absurd cc
