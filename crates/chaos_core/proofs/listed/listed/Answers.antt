use Rattle.std.proofs.Common.{◌≡◌, ℕ, zero, suc, ◌+◌, ◌<◌, refl, ap, subst, sym, ◌∙◌, List, [], ◌∷◌, ◌++◌, length, map, Vec, Global, arith}
use Rattle.std.specs.Prelude.{IfSome}
use Rattle.std.specs.List.{All, slice_get}
use Rattle.std.proofs.lemmas.List.{length_push}
use Rattle.xt_model.specs.declared.net.Coupling.{Coupling}
use Rattle.xt_model.specs.declared.net.NetId.{NetId}
use Rattle.net_eval.specs.ReadLists.{ids}
use Rattle.chaos_core.specs.Tasks.{list_of}
use Rattle.chaos_core.specs.TurnMarks.{AreMore, HasListed}
use Rattle.chaos_core.proofs.Listing.{all_listed, each_more, inside_more, none_listed, rows_back, rows_count}
use Rattle.chaos_core.proofs.listed.listed.Goals as goal

abbrev lists_of : List (Vec NetId Global) → List (List NetId)
lists_of rows = map (λ row. row.items) rows

-- one list more, with no net
none_more : (rows : List (Vec NetId Global)) (row : Vec NetId Global) → row.items ≡ [] → ((m : ℕ) → list_of (lists_of rows) m ≡ []) → (m : ℕ) → list_of (lists_of (rows ++ row ∷ [])) m ≡ []
none_more [] row e none zero = ap ids e
none_more [] row e none (suc m) = refl
none_more (r ∷ rows) row e none zero = none 0
none_more (r ∷ rows) row e none (suc m) = none_more rows row e (λ k. none (suc k)) m

pub loop-net-init : goal.loop-net-init
loop-net-init c = record { count = ap length c.in_ok-rows.ensures.items; none = λ m. ap (λ (rows : List (Vec NetId Global)). list_of (lists_of rows) m) c.in_ok-rows.ensures.items }

pub loop-net-preserved : goal.loop-net-preserved
loop-net-preserved c =
    let rows = c.loop-net.rows.items in
    let inv = c.loop-net.invariant in
    let items = c.in_ok-push.ensures.items in
    record {
      count = ap length items ∙ (length_push rows c.new.result ∙ ap (λ n. n + 1) inv.count);
      none = λ m. ap (λ (all : List (Vec NetId Global)). list_of (lists_of all) m) items ∙ none_more rows c.new.result c.new.ensures.items inv.none m;
    }

pub net-requires : goal.net-requires
net-requires c = let many = ap length c.nets-2.ensures.value in let below = c.loop-number-test.true in omega (arith, many, below)

pub loop-number-init : goal.loop-number-init
loop-number-init c =
    let inv = c.loop-net.invariant in
    let many = ap length c.nets-net-end.ensures.value in
    let past = c.loop-net-test.false in
    let most = c.loop-net.auto._net-end in
    record {
      count = let n = inv.count in omega (arith, n, many, past, most);
      inside = λ m x has. absurd (none_listed (lists_of c.loop-net.rows.items) m x (inv.none m) has);
      each = λ m lt. absurd (let bad : ⊥ = omega (arith, lt) in bad);
    }

pub loop-number-preserved : goal.loop-number-preserved
loop-number-preserved c =
    let d = c.args.design.now in
    let inv = c.loop-number.invariant in
    let old = c.loop-number.rows.items in
    let new = c.push_all.new.rows in
    let number = c.loop-number.number in
    let net = c.net.result.now in
    let given = c.as_mut_slice.ensures.value in
    let same = c.push_all.ensures.count ∙ ap length given in
    let back = rows_back c.loop-number.rows.len old new c.loop-number.rows.ok.0 same in
    let more : AreMore number (lists_of old) (lists_of new) = subst (λ (rows : List (Vec NetId Global)). AreMore number (lists_of rows) (lists_of new)) given c.in_ok-push_all.ensures.more in
    let there : All (λ k. HasListed (lists_of new) k.to.0 number) net.couplings =
    subst (λ (ks : List Coupling). All (λ k. HasListed (lists_of new) k.to.0 number) ks) c.as_slice-couplings.ensures c.in_ok-push_all.ensures.there in
    record {
      count = ap length back ∙ (same ∙ inv.count);
      inside = subst (λ (rows : List (Vec NetId Global)). (m x : ℕ) → HasListed (lists_of rows) m x → x < number + 1) (sym back) (inside_more d (lists_of old) (lists_of new) number net c.net.ensures.there more there inv.inside);
      each = subst (λ (rows : List (Vec NetId Global)). (m : ℕ) → m < number + 1 → IfSome (slice_get d.nets m) (λ n. All (λ k. HasListed (lists_of rows) k.to.0 m) n.couplings)) (sym back)
          (each_more d (lists_of old) (lists_of new) number net c.net.ensures.there more there inv.each);
    }

pub returns : goal.returns
returns c =
    let d = c.args.design.now in
    let inv = c.loop-number.invariant in
    let many = ap length c.nets-2.ensures.value in
    let past = c.loop-number-test.false in
    let most = c.loop-number.auto.number-end in
    all_listed d (lists_of c.loop-number.rows.items) c.loop-number.number (omega (arith, many, past)) (let n = inv.count in let long = rows_count (λ (row : Vec NetId Global). row.items) c.loop-number.rows.items in omega (arith, n, long))
    (λ m x has. let low = inv.inside m x has in omega (arith, low, many, most)) inv.each
