-- What a pass keeps over its calls, and what one who works by it knows.
use Rattle.std.proofs.Common.{◌≡◌, ℕ, ◌+◌, ◌-◌, ◌*◌, ◌%◌, ◌<◌, inl, inr, refl, sym, ap, subst, ◌∙◌, List, [], ◌∷◌, ◌++◌, length, set, get_or, take, nat_lt, arith}
use Rattle.std.specs.Prelude.{Bool, false, IsTrue}
use Rattle.std.specs.Prelude.{if◌then◌else◌}
use Rattle.std.proofs.lemmas.List.{set-get_or, take_more}
use Rattle.std.proofs.lemmas.Bool.{cases_lt}
use Rattle.std.proofs.lemmas.Bool.Decides.{nat_tests}
use Rattle.atomic_table.specs.Table.{Me}
use Rattle.atomic_table.specs.Seated.{TableId}
use Rattle.xt_meaning.specs.Words.{quiet_number}
use Rattle.chaos_core.specs.declared.setting.Setting.{Setting}
use Rattle.chaos_core.specs.Boards.{nets_of, IsSeen, Loads, Publishes, Draws, late_after}
use Rattle.chaos_core.specs.Memories.{AreKept}
use Rattle.chaos_core.proofs.NoNets.{nothing_further}
use Rattle.window_words.specs.declared.view.View.{View}
use Rattle.window_words.specs.Views.{IsUnspent, count_from, begun_anew, with_one_out, sent_out, with_both}
use Rattle.window_words.specs.Boards.{BoardId, Holding, IsOf, IsHeld, IsAlone, late_of, home_of, knowledge_of}
use Rattle.window_words.specs.Steps.{Loaded, Published, Drew, IsRested}
use Rattle.window_words.proofs.Views.{count_from_both}
use Rattle.window_words.proofs.Parting.{seen_both}

-- ---- what a pass keeps
held_on : (t u : TableId) (m n : Me (Unit {0}) View) → IsHeld t m → u ≡ t → n.1 ≡ [] → n.0.setting ≡ m.0.setting → IsUnspent n.0.role → IsSeen n.0.setting n.0.seen → IsHeld u n
held_on t u m n held same bare setting unspent seen = record {
  bare = bare;
  unspent = unspent;
  sized = ap (λ (x : TableId). x.words) same ∙ (held.sized ∙ ap (λ (a : Setting). 8 * nets_of a + 1) (sym setting));
  seen = seen;
}

role_kept : (v w : View) → w.role ≡ v.role → IsUnspent v.role → IsUnspent w.role
role_kept v w e h = subst IsUnspent (sym e) h

pub held_loaded : (t u : TableId) (m n : Me (Unit {0}) View) (word number : ℕ) → IsHeld t m → u ≡ t → Loaded m.0 word number n.0 → n.1 ≡ m.1 → IsHeld u n
held_loaded t u m n word number held same step bare =
    held_on t u m n held same (bare ∙ held.bare) (ap (λ (x : View). x.setting) step.after) (role_kept m.0 n.0 (ap (λ (x : View). x.role) step.after) held.unspent) step.seen

pub held_published : (t u : TableId) (m n : Me (Unit {0}) View) (word number left : ℕ) → IsHeld t m → u ≡ t → Published m.0 word number left n.0 → n.1 ≡ m.1 → IsHeld u n
held_published t u m n word number left held same step bare =
    held_on t u m n held same (bare ∙ held.bare) (ap (λ (x : View). x.setting) step.after) (role_kept m.0 n.0 (ap (λ (x : View). x.role) step.after) held.unspent) step.seen

-- a view that keeps the run, the role and what is seen
held_else : (t u : TableId) (m n : Me (Unit {0}) View) (w : View) → IsHeld t m → u ≡ t → n.1 ≡ m.1 → n.0 ≡ w → w.setting ≡ m.0.setting → IsUnspent w.role → IsSeen w.setting w.seen → IsHeld u n
held_else t u m n w held same bare is setting live seen =
    held_on t u m n held same (bare ∙ held.bare) (ap (λ (x : View). x.setting) is ∙ setting) (subst (λ (x : View). IsUnspent x.role) (sym is) live)
    (subst (λ (x : View). IsSeen x.setting x.seen) (sym is) seen)

pub held_drew : (t u : TableId) (m n : Me (Unit {0}) View) (number : ℕ) → IsHeld t m → u ≡ t → Drew m.0 number n.0 → n.1 ≡ m.1 → IsHeld u n
held_drew t u m n number held same step bare = held_else t u m n (record m.0 { drawn = m.0.drawn ++ number ∷ [] }) held same bare step.after refl held.unspent held.seen

pub held_anew : (t u : TableId) (m n : Me (Unit {0}) View) → IsHeld t m → u ≡ t → n.0 ≡ begun_anew m.0 → n.1 ≡ m.1 → IsHeld u n
held_anew t u m n held same is bare = held_else t u m n (begun_anew m.0) held same bare is refl held.unspent held.seen

pub held_out : (t u : TableId) (m n : Me (Unit {0}) View) → IsHeld t m → u ≡ t → n ≡ (with_one_out m.0, m.1) → IsHeld u n
held_out t u m n held same is =
    held_else t u m n (with_one_out m.0) held same (ap (λ (x : Me (Unit {0}) View). x.1) is) (ap (λ (x : Me (Unit {0}) View). x.0) is) refl held.unspent held.seen

pub held_sent : (t u : TableId) (m n : Me (Unit {0}) View) → IsHeld t m → u ≡ t → n ≡ (sent_out m.0, []) → IsHeld u n
held_sent t u m n held same is =
    held_else t u m n (sent_out m.0) held same (ap (λ (x : Me (Unit {0}) View). x.1) is ∙ sym held.bare) (ap (λ (x : Me (Unit {0}) View). x.0) is) refl tt held.seen

pub held_both : (t u : TableId) (m n : Me (Unit {0}) View) (w : View) → IsHeld t m → u ≡ t → w.setting ≡ m.0.setting → IsSeen w.setting w.seen → n ≡ (with_both m.0 w, m.1) → IsHeld u n
held_both t u m n w held same setting seen is =
    let other : IsSeen m.0.setting w.seen = subst (λ (a : Setting). IsSeen a w.seen) setting seen in
    held_else t u m n (with_both m.0 w) held same (ap (λ (x : Me (Unit {0}) View). x.1) is) (ap (λ (x : Me (Unit {0}) View). x.0) is) refl held.unspent
    (seen_both m.0.setting m.0.seen w.seen held.seen other)

-- ---- what one who works by a pass knows
table_kept : (b : BoardId) (h l : Holding) → IsOf b h → IsOf b l → l.table ≡ h.table
table_kept b h l own again = again.table ∙ sym own.table

not_alone : (b : Bool) → b ≡ false → IsTrue b → ⊥
not_alone b e h = cc

pub knows_loaded : (b : BoardId) (h l : Holding) (word number : ℕ) → IsOf b h → IsOf b l → Loaded h.view word number l.view → Loads (knowledge_of h) word number (knowledge_of l)
knows_loaded b h l word number own again step = record {
  found = record { respects = step.found.respects; past = step.found.past; alone = λ alone. absurd (not_alone false refl alone) };
  after = λ i. knowledge_of (record { table = table_kept b h l own again i; view = step.after i });
}

pub knows_published : (b : BoardId) (h l : Holding) (word number left : ℕ) → IsOf b h → IsOf b l → Published h.view word number left l.view → Publishes (knowledge_of h) word number left (knowledge_of l)
knows_published b h l word number left own again step = record {
  found = record { respects = step.found.respects; past = step.found.past; alone = λ alone. absurd (not_alone false refl alone) };
  after = λ i. knowledge_of (record { table = table_kept b h l own again i; view = step.after i });
}

late_drew : (v : View) (number : ℕ) → 0 < late_of v → late_of (record v { drawn = v.drawn ++ number ∷ [] }) ≡ (if nat_lt number (nets_of v.setting) then late_of v else late_of v - 1)
late_drew v number h =
    let b = count_from_both (nets_of v.setting) v.drawn (number ∷ []) in
    late_one (nets_of v.setting) (count_from (nets_of v.setting) v.drawn) (count_from (nets_of v.setting) (v.drawn ++ number ∷ [])) number b h
  where
    late_one : (nets had has n : ℕ) → has ≡ had + count_from nets (n ∷ []) → 0 < 1 - had → 1 - has ≡ (if nat_lt n nets then 1 - had else (1 - had) - 1)
    late_one nets had has n e p = grind (arith, nat_tests)

pub knows_drew : (b : BoardId) (h l : Holding) (number : ℕ) → IsOf b h → IsOf b l → 0 < late_of h.view → Drew h.view number l.view → Draws (knowledge_of h) number (knowledge_of l)
knows_drew b h l number own again late step = record {
  greater = step.greater;
  after =
      let v = h.view in
      let next = record v { drawn = v.drawn ++ number ∷ [] } in
      let first : knowledge_of l ≡ knowledge_of (record { table = h.table; view = next }) = λ i. knowledge_of (record { table = table_kept b h l own again i; view = step.after i }) in
      let second : knowledge_of (record { table = h.table; view = next }) ≡ record (knowledge_of h) { drawn = v.drawn ++ number ∷ []; late = late_after (knowledge_of h) number } =
      ap (λ late. record (knowledge_of h) { drawn = v.drawn ++ number ∷ []; late = late }) (late_drew v number late) in
      first ∙ second;
}

-- ---- names of tables
abbrev head_of : List ℕ → ℕ
head_of [] = 0
head_of (n ∷ more) = n

abbrev tail_of : List ℕ → List ℕ
tail_of [] = []
tail_of (n ∷ more) = more

-- tables with one name are one
pub home_is : (t u : TableId) → home_of t ≡ home_of u → t ≡ u
home_is t u e = λ i. record {
  words = head_of (e i);
  slots = head_of (tail_of (e i));
  views_name = head_of (tail_of (tail_of (e i)));
  atom = head_of (tail_of (tail_of (tail_of (e i))));
  block = head_of (tail_of (tail_of (tail_of (tail_of (e i)))));
  offset = head_of (tail_of (tail_of (tail_of (tail_of (tail_of (e i))))));
  slot_names = tail_of (tail_of (tail_of (tail_of (tail_of (tail_of (e i))))));
}

-- ---- words of a table
pub in_table : (t u : TableId) (a : Setting) (word : ℕ) → t ≡ u → t.words ≡ 8 * nets_of a + 1 → word < 8 * nets_of a → word < u.words
in_table t u a word same sized h = let e : t.words ≡ u.words = ap (λ (x : TableId). x.words) same in omega (arith, e, sized, h)

pub draw_inside : (t u : TableId) (a : Setting) (word : ℕ) → t ≡ u → t.words ≡ 8 * nets_of a + 1 → word ≡ 8 * nets_of a → word < u.words
draw_inside t u a word same sized h = let e : t.words ≡ u.words = ap (λ (x : TableId). x.words) same in omega (arith, e, sized, h)

pub not_late : (v : View) → 0 < late_of v → count_from (nets_of v.setting) v.drawn ≡ 0
not_late v h = omega (arith, h)

-- ---- words that the first pass loads while none is out
pub loads_same : (v w : View) (word number : ℕ) → IsAlone v → Loaded v word number w → w ≡ v
loads_same v w word number alone step =
    let e : set v.seen word number ≡ v.seen = rw (step.whole alone).exact (set-get_or v.seen word (quiet_number (word % 2))) in
    step.after ∙ ap (λ (seen : List ℕ). record v { seen = seen }) e

pub rested : (v w : View) (word number : ℕ) → IsAlone v → Loaded v word number w → IsRested v
rested v w word number alone step =
    let same : w ≡ v = loads_same v w word number alone step in
    let whole = step.whole alone in
    record { kept = record { seen = subst (λ (x : View). IsSeen x.setting x.seen) same step.seen; fits = whole.fits }; next = whole.next; drawn = whole.drawn }

-- what is seen fits, also where there is no word to load
pub kept_found : (v : View) → IsSeen v.setting v.seen → (0 < nets_of v.setting → IsRested v) → AreKept v.setting v.seen
kept_found v seen rest = elim (cases_lt 0 (nets_of v.setting)) [
  | inl some ↦ (rest some).kept
  | inr none ↦ record { seen = seen; fits = nothing_further v.setting.way v.setting.design v.seen seen.count (omega (arith, none)) }
]

pub loads_next : (v w : View) (word number : ℕ) (words : List ℕ) → IsAlone v → Loaded v word number w → word < length v.seen → words ≡ take word v.seen → words ++ number ∷ [] ≡ take (word + 1) v.seen
loads_next v w word number words alone step h e =
    let x = quiet_number (word % 2) in
    let n : number ≡ get_or v.seen word x = (step.whole alone).exact in
    let m : take (word + 1) v.seen ≡ take word v.seen ++ get_or v.seen word x ∷ [] = take_more v.seen word x h in
    rw (e, n, m) refl

pub some_word : (t u : TableId) (a : Setting) → t ≡ u → t.words ≡ 8 * nets_of a + 1 → 0 < u.words
some_word t u a same sized = let e : t.words ≡ u.words = ap (λ (x : TableId). x.words) same in omega (arith, e, sized)

pub one_table : (b : BoardId) (h : Holding) (t u : TableId) → IsOf b h → h.table ≡ t → b.table ≡ u → t ≡ u
one_table b h t u own e g = sym e ∙ (own.table ∙ g)
