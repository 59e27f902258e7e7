use Rattle.std.proofs.Common.{arith, ap, length, ◌≡◌, ℕ, ◌+◌, refl, sym, ◌∙◌, if◌then◌else◌, List, [], ◌∷◌, drop, filter, get_or, length-append, pos, true, false}
use Rattle.aggressor_report.proofs.Turns.{aggressor_there, drop_at, few_couplings, net_there, number_fits, picked_next}
use Rattle.aggressor_report.proofs.Picked.{entries_count}
use Rattle.std.specs.Prelude.{Bool, Some}
use Rattle.std.specs.List.{slice_get}
use Rattle.std.proofs.lemmas.Option.{slice_get-get_or}
use Rattle.xt_model.specs.declared.edge.Edge.{Edge}
use Rattle.xt_model.specs.declared.net.Coupling.{Coupling}
use Rattle.xt_model.specs.declared.net.NetId.{NetId}
use Rattle.xt_model.specs.declared.quad.Pair.{Pair}
use Rattle.xt_model.specs.Parts.{Parts}
use Rattle.aggressor_report.specs.declared.guilt.Guilt.{Guilt}
use Rattle.aggressor_report.specs.Guilt.{edge_entries, entry_of, is_guilty}
use Rattle.aggressor_report.proofs.count.edge_count.Goals.{then-is_guilty, else-is_guilty}
use Rattle.aggressor_report.proofs.count.edge_count.Goals as goal

pub returns-clause-count : goal.returns-clause-count
returns-clause-count c =
    let there = net_there c.args.design.now.nets _ c.args.victim.0 _ c.nets.ensures.value c.requires.victim c.index-nets-victim.is in
    entries_count c.args.design.now c.args.low.now c.args.high.now c.args.victim c.args.edge _ _ _ _ _
    c.loop-number-test.false there c.as_slice-couplings.ensures c.loop-number.invariant.counted

pub returns-clause-few : goal.returns-clause-few
returns-clause-few c =
    let there = net_there c.args.design.now.nets _ c.args.victim.0 _ c.nets.ensures.value c.requires.victim c.index-nets-victim.is in
    let most = few_couplings c.args.design.now c.args.victim.0 _ _ c.nets.ensures.sound there c.as_slice-couplings.ensures in
    let few = c.loop-number.invariant.few in
    let end = c.loop-number.auto.number-end in
    omega (arith, most, few, end)

pub bounds-nets-victim : goal.bounds-nets-victim
bounds-nets-victim c = let same = ap length c.nets.ensures.value in let there = c.requires.victim in omega (arith, same, there)

-- what a read past the end gives
abbrev none : Coupling
none = record { to = record { 0 = 0 }; cap = pos 0 }

abbrev one_of : Bool → ℕ
one_of true = 1
one_of false = 0

chosen_count : (b : Bool) (g : Guilt) → length (if b then g ∷ [] else []) ≡ one_of b
chosen_count true g = refl
chosen_count false g = refl

-- one entry more is counted, where it is guilty
counted_turn : (d : Parts) (low high : List Pair) (victim : NetId) (e : Edge) (ks : List Coupling) (i o p : ℕ) (k : Coupling) (g : Guilt) (whole : ℕ) → slice_get ks i ≡ Some k → g ≡ entry_of d low high victim e i k
    → p ≡ o + one_of (is_guilty g) → o + length (filter is_guilty (edge_entries d low high victim e i (drop i ks))) ≡ whole
    → p + length (filter is_guilty (edge_entries d low high victim e (i + 1) (drop (i + 1) ks))) ≡ whole
counted_turn d low high victim e ks i o p k g whole at is made before =
    let entry = entry_of d low high victim e i k in
    let rest = edge_entries d low high victim e (i + 1) (drop (i + 1) ks) in
    let next = ap (λ (xs : List Coupling). length (filter is_guilty (edge_entries d low high victim e i xs))) (drop_at ks i k at) in
    let parts = ap length (picked_next is_guilty entry rest) ∙ length-append (if is_guilty entry then entry ∷ [] else []) (filter is_guilty rest) in
    let one = chosen_count (is_guilty entry) entry in
    let same = ap (λ (x : Guilt). one_of (is_guilty x)) is in
    omega (arith, next, parts, one, same, made, before)

pub new-entry-requires-clause-low : goal.new-entry-requires-clause-low
new-entry-requires-clause-low c = c.requires.low

pub new-entry-requires-clause-high : goal.new-entry-requires-clause-high
new-entry-requires-clause-high c = c.requires.high

pub new-entry-requires-clause-victim : goal.new-entry-requires-clause-victim
new-entry-requires-clause-victim c = c.requires.victim

pub new-entry-requires-clause-aggressor : goal.new-entry-requires-clause-aggressor
new-entry-requires-clause-aggressor c =
    let there = net_there c.args.design.now.nets _ c.args.victim.0 _ c.nets.ensures.value c.requires.victim c.index-nets-victim.is in
    aggressor_there c.args.design.now c.args.victim.0 c.index-nets-victim.result c.as_slice-couplings.result.now c.loop-number.number none c.nets.ensures.sound there c.as_slice-couplings.ensures c.loop-number-test.true

pub loop-number-init : goal.loop-number-init
loop-number-init c = record { counted = omega arith; few = omega arith }

pub loop-number-preserved : goal.loop-number-preserved
loop-number-preserved c =
    let ks = c.as_slice-couplings.result.now in
    let i = c.loop-number.number in
    let k = get_or ks i none in
    let g = c.new-entry.result in
    let inv = c.loop-number.invariant in
    let few = inv.few in
    let at = slice_get-get_or ks i none c.loop-number-test.true in
    let turn = counted_turn c.args.design.now c.args.low.now c.args.high.now c.args.victim c.args.edge ks i c.loop-number.count c.if-is_guilty.count k g _ at c.new-entry.ensures in
    elim c.if-is_guilty.branch [
      | then-is_guilty w ↦
          let one : one_of (is_guilty g) ≡ 1 = ap one_of (sym c.is_guilty.ensures ∙ w.if-is_guilty.true) in
          let made = w.count-is in
          record { counted = turn (omega (arith, one, made)) inv.counted; few = omega (arith, few, made) }
      | else-is_guilty w ↦
          let one : one_of (is_guilty g) ≡ 0 = ap one_of (sym c.is_guilty.ensures ∙ w.if-is_guilty.false) in
          let made = w.count-is in
          record { counted = turn (omega (arith, one, made)) inv.counted; few = omega (arith, few, made) }
    ]

pub overflow_cast-number : goal.overflow_cast-number
overflow_cast-number c =
    let there = net_there c.args.design.now.nets _ c.args.victim.0 _ c.nets.ensures.value c.requires.victim c.index-nets-victim.is in
    number_fits c.args.design.now c.args.victim.0 _ _ _ c.nets.ensures.sound there c.as_slice-couplings.ensures c.loop-number-test.true
