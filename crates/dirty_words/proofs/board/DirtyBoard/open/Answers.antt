use Rattle.std.proofs.Common.{◌≡◌, ℕ, List, [], ◌∷◌, ◌++◌, length, replicate, ap, ◌∙◌, ◌+◌, ◌*◌, refl, sym, subst, length-append, arith}
use Rattle.std.proofs.lemmas.List.{append_assoc}
use Rattle.xt_meaning.specs.Words.{numbers_of}
use Rattle.chaos_core.specs.Memories.{Memory, IsKept}
use Rattle.dirty_words.proofs.Opening.{run_with, opened_there}
use Rattle.atomic_table.specs.Table.{Me}
use Rattle.atomic_table.specs.Seated.{TableId}
use Rattle.xt_meaning.proofs.Numbers.{numbers_count}
use Rattle.net_eval.specs.ReadLists.{AreReadLists}
use Rattle.chaos_core.specs.Boards.{nets_of}
use Rattle.dirty_words.specs.declared.rule.Key.{Key}
use Rattle.dirty_words.specs.declared.view.DirtyView.{DirtyView}
use Rattle.dirty_words.specs.Views.{Run, run_of, first_dirty}
use Rattle.dirty_words.specs.Boards.{HasWords, IsHeld, run_at}
use Rattle.dirty_words.proofs.board.DirtyBoard.open.Goals as goal

pub of_words-requires : goal.of_words-requires
of_words-requires c =
    let m : Memory = c.in_ok-opening.opening in
    let start = c.args.start.now in
    let nets = length c.args.design.now.nets in
    let made = c.into_words-words.ensures.value ∙ ap (λ (b : Memory). b.words) c.in_ok-opening.ensures in
    let begun = c.in_ok-reserve_exact.ensures.items ∙ made in
    let count : length c.nets-nets.result.now ≡ nets = ap length c.nets-nets.ensures.value in
    let marks : c.as_slice.result.now ≡ replicate nets 1 = c.as_slice.ensures.value ∙ (c.in_ok-marks.ensures.items_if_clones_equal (λ y e. e) ∙ ap (λ n. replicate n 1) count) in
    let more = c.in_ok-extend_from_slice.ensures.items ∙ (ap (λ (xs : List ℕ). xs ++ c.as_slice.result.now) begun ∙ ap (λ (xs : List ℕ). numbers_of start ++ xs) marks) in
    let words : c.as_slice-2.result.now ≡ numbers_of start ++ (replicate nets 1 ++ 0 ∷ []) =
    c.as_slice-2.ensures.value ∙ (c.in_ok-push.ensures.items ∙ (ap (λ (xs : List ℕ). xs ++ 0 ∷ []) more ∙ append_assoc (numbers_of start) (replicate nets 1) (0 ∷ []))) in
    opened_there m c.args.design.now c.of.result.value c.args.direction start c.of-2.result.value c.args.lists.now c.of-3.result.value c.as_slice-2.result.now c.in_ok-opening.ensures c.into_words-words.ensures.kept c.of.ensures c.of-2.ensures
    c.of-3.ensures c.requires.lists words

pub invariant_of-result : goal.invariant_of-result
invariant_of-result c =
    let d = c.args.design.now in
    let about : Key = record { design = c.of.result; way = c.args.direction; start = c.of-2.result; lists = c.of-3.result } in
    let r : Run = run_with d c.args.direction c.args.start.now c.args.lists.now in
    let is : run_at about ≡ r = λ i. run_with (c.of.ensures i) c.args.direction (c.of-2.ensures i) (c.of-3.ensures i) in
    let l1 = ap length (c.into_words-words.ensures.value ∙ ap (λ (b : Memory). b.words) c.in_ok-opening.ensures) in
    let l2 = ap length c.in_ok-reserve_exact.ensures.items in
    let n = numbers_count c.args.start.now in
    let count = c.requires.start.windows.count in
    let l3 = ap length c.in_ok-extend_from_slice.ensures.items ∙ length-append c.reserve_exact.new.self.items c.as_slice.result.now in
    let l4 = ap length c.as_slice.ensures.value in
    let many = c.in_ok-marks.ensures.len in
    let ok = c.in_ok-marks.marks.ok.0 in
    let nets = ap length c.nets-nets.ensures.value in
    let l5 = ap length c.in_ok-push.ensures.items ∙ length-append c.extend_from_slice.new.self.items (0 ∷ []) in
    let l6 = ap length c.as_slice-2.ensures.value in
    let made = c.in_ok-table.ensures.0 in
    let t : TableId = c.in_ok-table.table.shared.table_id in
    let words : t.words ≡ 9 * length d.nets + 1 = omega (arith, l1, l2, n, count, l3, l4, many, ok, nets, l5, l6, made) in
    let P : Run → Type 0 = λ x. HasWords t x.setting × (length c.nets-nets.result.now ≡ nets_of x.setting) × AreReadLists x.setting.design x.lists in
    subst P (sym (ap run_at c.in_ok-table.ensures.5 ∙ is)) (words, nets, c.requires.lists)

pub invariant_of-result-2 : goal.invariant_of-result-2
invariant_of-result-2 c =
    let d = c.args.design.now in
    let about : Key = record { design = c.of.result; way = c.args.direction; start = c.of-2.result; lists = c.of-3.result } in
    let r : Run = run_with d c.args.direction c.args.start.now c.args.lists.now in
    let is : run_at about ≡ r = λ i. run_with (c.of.ensures i) c.args.direction (c.of-2.ensures i) (c.of-3.ensures i) in
    let l1 = ap length (c.into_words-words.ensures.value ∙ ap (λ (b : Memory). b.words) c.in_ok-opening.ensures) in
    let l2 = ap length c.in_ok-reserve_exact.ensures.items in
    let n = numbers_count c.args.start.now in
    let count = c.requires.start.windows.count in
    let l3 = ap length c.in_ok-extend_from_slice.ensures.items ∙ length-append c.reserve_exact.new.self.items c.as_slice.result.now in
    let l4 = ap length c.as_slice.ensures.value in
    let many = c.in_ok-marks.ensures.len in
    let ok = c.in_ok-marks.marks.ok.0 in
    let nets = ap length c.nets-nets.ensures.value in
    let l5 = ap length c.in_ok-push.ensures.items ∙ length-append c.extend_from_slice.new.self.items (0 ∷ []) in
    let l6 = ap length c.as_slice-2.ensures.value in
    let made = c.in_ok-table.ensures.0 in
    let t : TableId = c.in_ok-table.seat.table_id in
    let same = ap (λ (x : TableId). x.words) c.in_ok-table.ensures.2 in
    let kept = subst IsKept c.in_ok-opening.ensures c.into_words-words.ensures.kept in
    let held : IsHeld t (first_dirty r, []) = record {
      bare = refl;
      live = tt;
      sized = omega (arith, same, l1, l2, n, count, l3, l4, many, ok, nets, l5, l6, made);
      seen = kept.words.seen;
      owing = λ net owed. let none = owed.1 in absurd (omega (arith, none));
    } in
    subst (IsHeld t) (sym (c.in_ok-table.ensures.4 ∙ ap (λ (x : Run). (first_dirty x, [])) is)) held

pub returns-clause-own : goal.returns-clause-own
returns-clause-own c = record { table = c.in_ok-table.ensures.2; run = ap (λ (m : Me (Unit {0}) DirtyView). run_of m.0) c.in_ok-table.ensures.4 ∙ sym (ap run_at c.in_ok-table.ensures.5) }

pub returns-clause-first : goal.returns-clause-first
returns-clause-first c =
    let d = c.args.design.now in
    let about : Key = record { design = c.of.result; way = c.args.direction; start = c.of-2.result; lists = c.of-3.result } in
    let r : Run = run_with d c.args.direction c.args.start.now c.args.lists.now in
    let is : run_at about ≡ r = λ i. run_with (c.of.ensures i) c.args.direction (c.of-2.ensures i) (c.of-3.ensures i) in
    ap (λ (m : Me (Unit {0}) DirtyView). m.0) c.in_ok-table.ensures.4 ∙ ap first_dirty is
