-- Passes over the nets in order of level: which nets had their turn, and the pass that makes the envelope.
use Rattle.std.proofs.Common.{◌≡◌, ◌≢◌, ℕ, zero, suc, ◌+◌, ◌<◌, ◌≤◌, ◌⊎◌, inl, inr, ⊎_elim, sym, ap, subst, ◌∙◌, List, length, set, get_or, arith}
use Rattle.std.specs.Prelude.{true, slice_index}
use Rattle.std.specs.List.{All, slice_get}
use Rattle.std.proofs.lemmas.Bool.{cases_lt, cases_eq}
use Rattle.std.proofs.lemmas.List.Elements.{All-weaker}
use Rattle.std.proofs.lemmas.Option.{slice_get_past, slice_get-get_or}
use Rattle.xt_model.specs.declared.edge.Edge.{Edge}
use Rattle.xt_model.specs.declared.quad.Pair.{Pair}
use Rattle.xt_model.specs.declared.net.Net.{Net}
use Rattle.xt_model.specs.Quads.{bottom, IsPairInRange, quad_at}
use Rattle.xt_model.specs.Levels.{AreLevels, IsOrderBy, StandsBefore}
use Rattle.xt_model.specs.Parts.{Parts}
use Rattle.xt_model.specs.Sound.{IsSound}
use Rattle.xt_model.specs.Assign.{quad_of_pair, assigned}
use Rattle.xt_meaning.specs.Operator.{widest_operator}
use Rattle.xt_meaning.specs.Fixpoint.{IsWindows}
use Rattle.xt_meaning.specs.Envelope.{IsWidest}
use Rattle.xt_meaning.proofs.Growth.{wired}
use Rattle.xt_meaning.proofs.Widest.{IfSome_there, inputs_below}
use Rattle.xt_meaning.proofs.Existence.{same_inputs, past_bottom}
use Rattle.xt_meaning.proofs.Rounds.{assigned-set_same, assigned-set_other, set_is_windows}

-- net n stands among the first i of the order
pub record IsTurned (order : List ℕ) (i n : ℕ) : Type 0 where
  pub place : ℕ
  pub before : place < i
  pub there : slice_index order place ≡ n

pub none_turned : (order : List ℕ) (n : ℕ) → IsTurned order 0 n → ⊥
none_turned order n t = let h = t.before in omega arith

pub turned_more : (order : List ℕ) (i n : ℕ) → IsTurned order (i + 1) n → IsTurned order i n ⊎ (n ≡ slice_index order i)
turned_more order i n t = elim (cases_eq t.place i) [
  | inl same ↦ let P : ℕ → Type 0 = λ k. slice_index order k ≡ n in inr (sym (subst P same t.there))
  | inr other ↦ inl (record { place = t.place; before = below t.place i t.before other; there = t.there })
] where
  below : (k i : ℕ) → k < i + 1 → k ≢ i → k < i
  below k i h other = omega arith

pub turned_or_not : (order : List ℕ) (i n : ℕ) → IsTurned order i n ⊎ (IsTurned order i n → ⊥)
turned_or_not order zero n = inr (none_turned order n)
turned_or_not order (suc i) n = elim (turned_or_not order i n) [
  | inl t ↦ inl (record { place = t.place; before = later t.place i t.before; there = t.there })
  | inr never ↦ elim (cases_eq (slice_index order i) n) [
    | inl same ↦ inl (record { place = i; before = omega arith; there = same })
    | inr other ↦ inr (λ t. elim (cases_lt t.place i) [
      | inl low ↦ never (record { place = t.place; before = low; there = t.there })
      | inr high ↦
          let k : t.place ≡ i = last t.place i t.before high in
          let P : ℕ → Type 0 = λ j. slice_index order j ≡ n in other (subst P k t.there)
    ])
  ]
] where
  later : (a b : ℕ) → a < b → a < suc b
  later a b k = omega arith

  last : (a b : ℕ) → a < suc b → b ≤ a → a ≡ b
  last a b k m = omega arith

any_default : (xs : List ℕ) (k d e : ℕ) → k < length xs → get_or xs k d ≡ get_or xs k e
any_default xs k d e h = let a = slice_get-get_or xs k d h in let b = slice_get-get_or xs k e h in cc

pub all_turned : (nets : List Net) (ls order : List ℕ) → IsOrderBy nets ls order → (n : ℕ) → n < length nets → IsTurned order (length order) n
all_turned nets ls order o n h =
    let c = (o.members n).1 h in
    record { place = c.0; before = c.1; there = any_default order c.0 0 n c.1 ∙ c.2 }

-- ---- the pass that makes the envelope
-- those of the first i nets in order have the windows that the operator makes where everything overlaps, and
-- the others never switch yet
pub record IsEnvelopePass (d : Parts) (order : List ℕ) (v : List Pair) (i : ℕ) : Type 0 where
  pub windows : IsWindows d v
  pub fixed : (n : ℕ) (e : Edge) → IsTurned order i n → assigned v n e ≡ widest_operator d (assigned v) n e
  pub quiet : (n : ℕ) (e : Edge) → (IsTurned order i n → ⊥) → assigned v n e ≡ bottom

module _ (d : Parts) (ls order : List ℕ) (s : IsSound d) (levels : AreLevels d.nets ls) (o : IsOrderBy d.nets ls order) where
  -- no input of a net stands at the net's own level or above it
  inputs_before : (n m : ℕ) → slice_index ls n ≤ slice_index ls m → (v w : List Pair) → ((k : ℕ) (f : Edge) → k ≢ m → assigned w k f ≡ assigned v k f) → (e : Edge)
      → widest_operator d (assigned w) n e ≡ widest_operator d (assigned v) n e
  inputs_before n m h v w same e = same_inputs d (assigned w) (assigned v) n e (wired d s)
      (IfSome_there (λ net. All (λ a. (f : Edge) → assigned w a.from.0 f ≡ assigned v a.from.0 f) net.arcs) (slice_get d.nets n)
      (λ net there. All-weaker (λ a. slice_index ls a.from.0 < slice_index ls n) (λ a. (f : Edge) → assigned w a.from.0 f ≡ assigned v a.from.0 f)
      (λ a below f. same a.from.0 f (apart a.from.0 below)) net.arcs (inputs_below d.nets ls levels n net there))) where
        apart : (k : ℕ) → slice_index ls k < slice_index ls n → k ≡ m → ⊥
        apart k below same =
            let P : ℕ → Type 0 = λ j. slice_index ls j < slice_index ls n in
            let f : slice_index ls m < slice_index ls n = subst P same below in omega arith

  -- a net that stands before another is not at a higher level, and is another
  before_level : (n m : ℕ) → StandsBefore ls n m → slice_index ls n ≤ slice_index ls m
  before_level n m b = ⊎_elim (λ (l : slice_index ls n < slice_index ls m). omega arith) (λ (l : (slice_index ls n ≡ slice_index ls m) × (n < m)). omega (arith, l.0)) b

  before_apart : (n m : ℕ) → StandsBefore ls n m → n ≢ m
  before_apart n m b same =
      let P : ℕ → Type 0 = λ j. StandsBefore ls n j in
      let c : StandsBefore ls n n = subst P (sym same) b in
      ⊎_elim (λ (l : slice_index ls n < slice_index ls n). absurd (omega arith)) (λ (l : (slice_index ls n ≡ slice_index ls n) × (n < n)). absurd (omega (arith, l.1))) c

  turned_before : (i n : ℕ) → i < length order → IsTurned order i n → StandsBefore ls n (slice_index order i)
  turned_before i n h t =
      let P : ℕ → Type 0 = λ j. StandsBefore ls j (slice_index order i) in
      subst P t.there (o.sorted t.place i t.before h)

  pub ordered_inside : (i : ℕ) → i < length order → slice_index order i < length d.nets
  ordered_inside i h = (o.members (slice_index order i)).0 (i, h, any_default order i (slice_index order i) 0 h)

  module _ (v : List Pair) (i : ℕ) (p : Pair) (h : i < length order) (pass : IsEnvelopePass d order v i) (range : IsPairInRange p)
      (value : (e : Edge) → quad_at p e ≡ widest_operator d (assigned v) (slice_index order i) e) where
    inside : slice_index order i < length v
    inside = let a = ordered_inside i h in omega (arith, pass.windows.count)

    others : (k : ℕ) (f : Edge) → k ≢ slice_index order i → assigned (set v (slice_index order i) p) k f ≡ assigned v k f
    others k f other = assigned-set_other v (slice_index order i) k p f other

    turn_before : (n : ℕ) (e : Edge) → IsTurned order i n → assigned (set v (slice_index order i) p) n e ≡ widest_operator d (assigned (set v (slice_index order i) p)) n e
    turn_before n e t =
        let b = turned_before i n h t in
        others n e (before_apart n (slice_index order i) b)
        ∙ (pass.fixed n e t ∙ sym (inputs_before n (slice_index order i) (before_level n (slice_index order i) b) v (set v (slice_index order i) p) others e))

    turn_now : (e : Edge) → assigned (set v (slice_index order i) p) (slice_index order i) e ≡ widest_operator d (assigned (set v (slice_index order i) p)) (slice_index order i) e
    turn_now e =
        assigned-set_same v (slice_index order i) p e inside
        ∙ (value e ∙ sym (inputs_before (slice_index order i) (slice_index order i) (omega arith) v (set v (slice_index order i) p) others e))

    pub pass_turn : IsEnvelopePass d order (set v (slice_index order i) p) (i + 1)
    pass_turn = record {
      windows = set_is_windows d v (slice_index order i) p pass.windows range;
      fixed = λ n e t. elim (turned_more order i n t) [
        | inl before ↦ turn_before n e before
        | inr same ↦
            let P : ℕ → Type 0 = λ k. assigned (set v (slice_index order i) p) k e ≡ widest_operator d (assigned (set v (slice_index order i) p)) k e in
            subst P (sym same) (turn_now e)
      ];
      quiet = λ n e never.
          others n e (λ same. never (record { place = i; before = omega arith; there = sym same }))
          ∙ pass.quiet n e (λ t. never (record { place = t.place; before = later t.place i t.before; there = t.there }));
    } where
      later : (a b : ℕ) → a < b → a < b + 1
      later a b k = omega arith

  -- after the last turn the windows are the envelope
  past_end : (v : List Pair) → IsEnvelopePass d order v (length order) → (n : ℕ) (e : Edge) → length d.nets ≤ n → widest_operator d (assigned v) n e ≡ assigned v n e
  past_end v pass n e past =
      let b : assigned v n e ≡ bottom = ap (λ o. quad_of_pair o e) (slice_get_past v n (beyond (length v) (length d.nets) n pass.windows.count past)) in
      past_bottom d (λ m f k g. true) (assigned v) n e past ∙ sym b where
        beyond : (a b n : ℕ) → a ≡ b → b ≤ n → a ≤ n
        beyond a b n h k = omega arith

  pub pass_ends : (v : List Pair) → IsEnvelopePass d order v (length order) → IsWidest d v
  pass_ends v pass = record {
    count = pass.windows.count;
    fixed = λ n e. elim (cases_lt n (length d.nets)) [
      | inl inside ↦ sym (pass.fixed n e (all_turned d.nets ls order o n inside))
      | inr past ↦ past_end v pass n e past
    ];
  }

  -- at the start no net switches
  pub pass_begins : (v : List Pair) → IsWindows d v → ((n : ℕ) (e : Edge) → assigned v n e ≡ bottom) → IsEnvelopePass d order v 0
  pass_begins v w none = record { windows = w; fixed = λ n e t. absurd (none_turned order n t); quiet = λ n e never. none n e }
