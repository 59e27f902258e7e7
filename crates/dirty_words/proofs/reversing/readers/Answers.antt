use Rattle.std.proofs.Common.{◌≡◌, ℕ, ap, subst, ◌∙◌, length, map, filter, Vec, Global, arith, zero, suc, ◌+◌, refl, List, [], ◌∷◌, ◌++◌}
use Rattle.std.specs.List.{range_with_len}
use Rattle.std.proofs.lemmas.List.{length-map, length_push}
use Rattle.xt_model.specs.declared.net.NetId.{NetId}
use Rattle.chaos_core.specs.Tasks.{list_of}
use Rattle.dirty_words.specs.Views.{has}
use Rattle.dirty_words.specs.Readers.{row_of}
use Rattle.window_words.proofs.Slices.{slice_back}
use Rattle.dirty_words.proofs.Rows.{rows_more}
use Rattle.net_eval.specs.ReadLists.{ids}
use Rattle.dirty_words.proofs.reversing.readers.Goals as goal

pub loop-number-preserved : goal.loop-number-preserved
loop-number-preserved c =
    let inv = c.loop-number.invariant in
    let old = c.loop-number.rows.items in
    let new = c.push_reader.new.rows in
    let given = c.as_mut_slice.ensures.value in
    let same = c.push_reader.ensures.count ∙ ap length given in
    let back = slice_back c.loop-number.rows.len old new c.loop-number.rows.ok.0 same in
    let count = c.count-number-end.ensures in
    let test = c.loop-number-test.true in
    let is : c.in_ok-reader.reader.0 ≡ c.loop-number.number = c.in_ok-reader.ensures in
    record {
      count = ap length back ∙ (same ∙ inv.count);
      rows = λ d are. rows_more (λ (row : Vec NetId Global). row.items) d c.args.lists.now old c.as_mut_slice.result.now new _ c.of.result.now c.in_ok-reader.reader.0 c.loop-number.number are (omega (arith, count, test)) inv.count given back c.of.ensures is
          c.in_ok-push_reader.ensures.rows (inv.rows d are);
    }

pub returns : goal.returns
returns c = λ d are.
    let inv = c.loop-number.invariant in
    let count = c.count-number-end.ensures in
    let past = c.loop-number-test.false in
    let most = c.loop-number.auto.number-end in
    let f = λ (row : Vec NetId Global). row.items in
    let end : c.loop-number.number ≡ length c.args.lists.now = omega (arith, count, past, most) in
    record {
      count = length-map c.loop-number.rows.items f ∙ inv.count;
      each = λ net lt.
          subst (λ (n : ℕ). row_of (map f c.loop-number.rows.items) net ≡ filter (λ r. has (list_of c.args.lists.now r) net) (range_with_len 0 n)) end (inv.rows d are net lt);
    }

abbrev lists_of : List (Vec NetId Global) → List (List NetId)
lists_of rows = map (λ row. row.items) rows

-- one row more, with no net
none_more : (rows : List (Vec NetId Global)) (row : Vec NetId Global) → row.items ≡ [] → ((m : ℕ) → row_of (lists_of rows) m ≡ []) → (m : ℕ) → row_of (lists_of (rows ++ row ∷ [])) m ≡ []
none_more [] row e none zero = ap ids e
none_more [] row e none (suc m) = refl
none_more (r ∷ rows) row e none zero = none 0
none_more (r ∷ rows) row e none (suc m) = none_more rows row e (λ k. none (suc k)) m

pub loop-net-init : goal.loop-net-init
loop-net-init c = record {
  count = ap length c.in_ok-rows.ensures.items;
  none = λ net. ap (λ (rows : List (Vec NetId Global)). row_of (lists_of rows) net) c.in_ok-rows.ensures.items;
}

pub loop-net-preserved : goal.loop-net-preserved
loop-net-preserved c =
    let rows = c.loop-net.rows.items in
    let inv = c.loop-net.invariant in
    let items = c.in_ok-push.ensures.items in
    let row = c.in_ok-with_capacity.field-0 in
    record {
      count = ap length items ∙ (length_push rows row ∙ ap (λ n. n + 1) inv.count);
      none = λ net. ap (λ (all : List (Vec NetId Global)). row_of (lists_of all) net) items ∙ none_more rows row c.in_ok-with_capacity.ensures.items inv.none net;
    }

pub loop-number-init : goal.loop-number-init
loop-number-init c =
    let inv = c.loop-net.invariant in
    let count = inv.count in
    let past = c.loop-net-test.false in
    let most = c.loop-net.auto.net-end in
    let end = c.len-net-end.ensures in
    let ok = c.in_ok-counts.counts.ok.0 in
    let all = c.in_ok-counts.ensures in
    record { count = omega (arith, count, past, most, end, ok, all); rows = λ d are net lt. inv.none net }
