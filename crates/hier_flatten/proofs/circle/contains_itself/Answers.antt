use Rattle.std.proofs.Common.{◌≡◌, ◌≤◌, ◌++◌, [], Some, length, take, drop, ap, sym, subst, ◌∙◌, arith, true}
use Rattle.std.proofs.lemmas.Bool.{false≢true}
use Rattle.std.proofs.lemmas.Option.{get_or_from_slice_get}
use Rattle.std.proofs.Math.Seq.{take-append_seam}
use Rattle.std.specs.List.{slice_get}
use Rattle.hier_flatten.specs.declared.circle.Mark.TheVariants.{New}
use Rattle.hier_flatten.specs.Hierarchy.{IsFinite}
use Rattle.hier_flatten.specs.Search.{IsSearch}
use Rattle.hier_flatten.proofs.SearchLaws.{finite, finite_more, finite_all}
use Rattle.hier_flatten.proofs.circle.contains_itself.Goals as goal
use Rattle.hier_flatten.proofs.circle.contains_itself.Goals.{else-eq-via-then-eq+in_ok-search+else-branch, else-eq-via-else-eq}

pub search-requires-clause-search : goal.search-requires-clause-search
search-requires-clause-search c = subst (λ ms. IsSearch c.args.index.now ms []) (sym c.deref_mut.ensures.value) c.loop-number.invariant.search

pub returns-then-branch : goal.returns-then-branch
returns-then-branch c = rw c.if-branch.true at c.in_ok-search.ensures

pub loop-number-preserved : goal.loop-number-preserved
loop-number-preserved c = elim c.else-eq.branch [
  | else-eq-via-then-eq+in_ok-search+else-branch w ↦
      let found : IsSearch c.args.index.now w.search.new.marks [] × IsFinite c.args.index.now c.loop-number.number = rw w.if-branch.false at w.in_ok-search.ensures in
      let new = w.search.new.marks in
      let len : c.loop-number.marks.len ≡ length new = omega (arith, c.loop-number.marks.ok.0, w.search.auto.marks, ap length w.deref_mut.ensures.value) in
      let marks : c.else-eq.marks.items ≡ new =
      ap (λ m. m.items) w.marks-is ∙ (ap (λ n. take n (new ++ drop (length new) c.loop-number.marks.items)) len ∙ take-append_seam new _) in
      record {
        search = subst (λ ms. IsSearch c.args.index.now ms []) (sym marks) found.0;
        finite = finite_more c.args.index.now c.loop-number.number c.loop-number.invariant.finite found.1;
      }
  | else-eq-via-else-eq w ↦
      let old : slice_get c.loop-number.marks.items c.loop-number.number ≡ Some New → ⊥ = λ there.
      let new : c.index.result.now ≡ New =
      c.index.ensures ∙ get_or_from_slice_get c.loop-number.marks.items c.loop-number.number New c.index.result.now there in
      let same : c.eq.result ≡ true = rw new at c.eq.ensures in
      false≢true (sym w.if-eq.false ∙ same) in
      record {
        search = subst (λ m. IsSearch c.args.index.now m.items []) (sym w.marks-is) c.loop-number.invariant.search;
        finite = finite_more c.args.index.now c.loop-number.number c.loop-number.invariant.finite
            (finite c.args.index.now c.loop-number.marks.items c.loop-number.number c.loop-number.invariant.search old);
      }
]

pub returns : goal.returns
returns c =
    let modules : length c.modules.result.now ≡ length c.args.index.now = ap length c.modules.ensures in
    let all : length c.args.index.now ≤ c.loop-number.number = omega (arith, c.loop-number-test.false, c.len-number-end.ensures, c.in_ok-marks.ensures.len, modules) in
    finite_all c.args.index.now c.loop-number.number all c.loop-number.invariant.finite
