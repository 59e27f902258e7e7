use Rattle.std.proofs.Common.{◌≡◌, ℕ, List, [], ◌∷◌, ◌++◌, ap, ◌∙◌, ◌+◌, ◌*◌, refl, sym, subst, length, length-append, arith}
use Rattle.xt_meaning.specs.Words.{numbers_of}
use Rattle.chaos_core.specs.Memories.{Memory, IsKept}
use Rattle.window_words.proofs.Opening.{setting_at, opened_there}
use Rattle.atomic_table.specs.Table.{Me}
use Rattle.atomic_table.specs.Seated.{TableId}
use Rattle.xt_meaning.proofs.Numbers.{numbers_count}
use Rattle.chaos_core.specs.declared.setting.Setting.{Setting}
use Rattle.window_words.specs.declared.rule.Key.{Key}
use Rattle.window_words.specs.declared.view.View.{View}
use Rattle.window_words.specs.Views.{first_view}
use Rattle.window_words.specs.Boards.{HasWords, IsHeld, setting_of}
use Rattle.window_words.proofs.board.SharedBoard.open.Goals as goal

pub of_words-requires : goal.of_words-requires
of_words-requires c =
    let m : Memory = c.in_ok-opening.opening in
    let made = c.into_words-words.ensures.value ∙ ap (λ (b : Memory). b.words) c.in_ok-opening.ensures in
    let words : c.as_slice.result.now ≡ numbers_of c.args.start.now ++ 0 ∷ [] =
    c.as_slice.ensures.value ∙ (c.in_ok-push.ensures.items ∙ ap (λ (xs : List ℕ). xs ++ 0 ∷ []) made) in
    opened_there m c.args.design.now c.of.result.value c.args.direction c.args.start.now c.of-2.result.value c.as_slice.result.now c.in_ok-opening.ensures c.into_words-words.ensures.kept c.of.ensures c.of-2.ensures words

pub invariant_of-result : goal.invariant_of-result
invariant_of-result c =
    let d = c.args.design.now in
    let about : Key = record { design = c.of.result; way = c.args.direction; start = c.of-2.result } in
    let a : Setting = setting_at d c.args.direction c.args.start.now in
    let is : setting_of about ≡ a = λ i. setting_at (c.of.ensures i) c.args.direction (c.of-2.ensures i) in
    let l1 = ap length (c.into_words-words.ensures.value ∙ ap (λ (b : Memory). b.words) c.in_ok-opening.ensures) in
    let n = numbers_count c.args.start.now in
    let count = c.requires.start.windows.count in
    let l2 = ap length c.in_ok-push.ensures.items ∙ length-append c.into_words-words.result.items (0 ∷ []) in
    let l3 = ap length c.as_slice.ensures.value in
    let made = c.in_ok-table.ensures.0 in
    let t : TableId = c.in_ok-table.table.shared.table_id in
    let words : t.words ≡ 8 * length d.nets + 1 = omega (arith, l1, n, count, l2, l3, made) in
    let P : Setting → Type 0 = λ x. HasWords t x in
    subst P (sym (ap setting_of c.in_ok-table.ensures.5 ∙ is)) words

pub invariant_of-result-2 : goal.invariant_of-result-2
invariant_of-result-2 c =
    let d = c.args.design.now in
    let about : Key = record { design = c.of.result; way = c.args.direction; start = c.of-2.result } in
    let a : Setting = setting_at d c.args.direction c.args.start.now in
    let is : setting_of about ≡ a = λ i. setting_at (c.of.ensures i) c.args.direction (c.of-2.ensures i) in
    let l1 = ap length (c.into_words-words.ensures.value ∙ ap (λ (b : Memory). b.words) c.in_ok-opening.ensures) in
    let n = numbers_count c.args.start.now in
    let count = c.requires.start.windows.count in
    let l2 = ap length c.in_ok-push.ensures.items ∙ length-append c.into_words-words.result.items (0 ∷ []) in
    let l3 = ap length c.as_slice.ensures.value in
    let made = c.in_ok-table.ensures.0 in
    let t : TableId = c.in_ok-table.seat.table_id in
    let same = ap (λ (x : TableId). x.words) c.in_ok-table.ensures.2 in
    let kept = subst IsKept c.in_ok-opening.ensures c.into_words-words.ensures.kept in
    let held : IsHeld t (first_view a, []) = record {
      bare = refl;
      unspent = tt;
      sized = omega (arith, same, l1, n, count, l2, l3, made);
      seen = kept.words.seen;
    } in
    subst (IsHeld t) (sym (c.in_ok-table.ensures.4 ∙ ap (λ (x : Setting). (first_view x, [])) is)) held

pub returns-clause-own : goal.returns-clause-own
returns-clause-own c = record { table = c.in_ok-table.ensures.2; setting = ap (λ (m : Me (Unit {0}) View). m.0.setting) c.in_ok-table.ensures.4 ∙ sym (ap setting_of c.in_ok-table.ensures.5) }

pub returns-clause-first : goal.returns-clause-first
returns-clause-first c =
    let d = c.args.design.now in
    let about : Key = record { design = c.of.result; way = c.args.direction; start = c.of-2.result } in
    let a : Setting = setting_at d c.args.direction c.args.start.now in
    let is : setting_of about ≡ a = λ i. setting_at (c.of.ensures i) c.args.direction (c.of-2.ensures i) in
    ap (λ (m : Me (Unit {0}) View). m.0) c.in_ok-table.ensures.4 ∙ ap first_view is
