-- What a pass keeps over its calls.
use Rattle.std.proofs.Common.{◌≡◌, ◌⊎◌, ℕ, ◌+◌, ◌*◌, ◌%◌, ◌<◌, ◌==◌, Bool, true, false, cond, inl, inr, refl, sym, ap, subst, ◌∙◌, List, [], ◌∷◌, ◌++◌, length, get_or, take, Contains, arith}
use Rattle.std.proofs.lemmas.List.{take_more}
use Rattle.std.proofs.lemmas.List.Elements.{Contains-append_cases}
use Rattle.atomic_table.specs.Table.{Me}
use Rattle.atomic_table.specs.Seated.{TableId}
use Rattle.xt_meaning.specs.Words.{quiet_number}
use Rattle.chaos_core.specs.declared.setting.Setting.{Setting}
use Rattle.chaos_core.specs.Boards.{nets_of, IsSeen}
use Rattle.window_words.specs.declared.view.View.{View}
use Rattle.window_words.specs.Views.{IsUnspent}
use Rattle.window_words.specs.Steps.{IsRested}
use Rattle.window_words.proofs.Parting.{seen_both}
use Rattle.dirty_words.specs.declared.view.Flight.{Flight}
use Rattle.dirty_words.specs.declared.view.DirtyView.{DirtyView}
use Rattle.dirty_words.specs.Views.{run_of, readers_of, with_taken, with_missed, with_loaded, with_published, with_noted, with_found, with_clear, with_drawn, with_anew, with_pass_out, pass_sent, with_joined}
use Rattle.dirty_words.specs.Rule.{IsLive}
use Rattle.dirty_words.specs.Boards.{DirtyId, DirtyHolding, IsOf, IsHeld}
use Rattle.dirty_words.specs.Steps.{mark_of, Took, Loaded, Saw, Published, Looked, Drew}
use Rattle.dirty_words.proofs.Nets.{none_there, stayed}

-- a view that keeps the run and the role, in which what is seen is sound
held_as : (t u : TableId) (m n : Me (Unit {0}) DirtyView) (w : DirtyView) → IsHeld t m → u ≡ t → n.1 ≡ m.1 → n.0 ≡ w → w.base.setting ≡ m.0.base.setting → IsLive w → IsSeen w.base.setting w.base.seen → ((net : ℕ) → Contains w.owed net → net < nets_of w.base.setting) → IsHeld u n
held_as t u m n w held same bare is setting live seen owing = record {
  bare = bare ∙ held.bare;
  live = subst IsLive (sym is) live;
  sized = ap (λ (x : TableId). x.words) same ∙ (held.sized ∙ ap (λ (a : Setting). 9 * nets_of a + 1) (sym (ap (λ (x : DirtyView). x.base.setting) is ∙ setting)));
  seen = subst (λ (x : DirtyView). IsSeen x.base.setting x.base.seen) (sym is) seen;
  owing = subst (λ (x : DirtyView). (net : ℕ) → Contains x.owed net → net < nets_of x.base.setting) (sym is) owing;
}

-- a view with the same base, which owes no more
held_base : (t u : TableId) (m n : Me (Unit {0}) DirtyView) (w : DirtyView) → IsHeld t m → u ≡ t → n.1 ≡ m.1 → n.0 ≡ w → w.base ≡ m.0.base → ((net : ℕ) → Contains w.owed net → Contains m.0.owed net) → IsHeld u n
held_base t u m n w held same bare is base fewer =
    held_as t u m n w held same bare is (ap (λ (b : View). b.setting) base) (subst (λ (b : View). IsUnspent b.role) (sym base) held.live)
    (subst (λ (b : View). IsSeen b.setting b.seen) (sym base) held.seen) (λ net c. subst (λ (b : View). net < nets_of b.setting) (sym base) (held.owing net (fewer net c)))

pub held_took : (t u : TableId) (m n : Me (Unit {0}) DirtyView) (net mark : ℕ) → IsHeld t m → u ≡ t → Took m.0 net mark n.0 → n.1 ≡ m.1 → IsHeld u n
held_took t u m n net mark held same step bare = elim step.two [
  | inl zero ↦ held_base t u m n (with_missed m.0 net) held same bare (step.missed zero) refl (λ net c. c)
  | inr one ↦ held_base t u m n (with_taken m.0 net) held same bare (step.taken one) refl (λ net c. c)
]

pub held_looked : (t u : TableId) (m n : Me (Unit {0}) DirtyView) (net mark : ℕ) → IsHeld t m → u ≡ t → Looked m.0 net mark n.0 → n.1 ≡ m.1 → IsHeld u n
held_looked t u m n net mark held same step bare = elim step.two [
  | inl zero ↦ held_base t u m n (with_clear m.0 net) held same bare (step.clear zero) refl (λ net c. c)
  | inr one ↦ held_base t u m n (with_found m.0 net) held same bare (step.found one) refl (λ net c. c)
]

pub held_noted : (t u : TableId) (m n : Me (Unit {0}) DirtyView) (net : ℕ) → IsHeld t m → u ≡ t → n.0 ≡ with_noted m.0 net → n.1 ≡ m.1 → IsHeld u n
held_noted t u m n net held same is bare = held_base t u m n (with_noted m.0 net) held same bare is refl (λ other c. (stayed net other m.0.owed c).0)

pub held_saw : (t u : TableId) (m n : Me (Unit {0}) DirtyView) (word number : ℕ) → IsHeld t m → u ≡ t → Saw m.0 word number n.0 → n.1 ≡ m.1 → IsHeld u n
held_saw t u m n word number held same step bare = held_base t u m n m.0 held same bare step.same refl (λ net c. c)

-- what is seen is told to be sound
pub held_loaded : (t u : TableId) (m n : Me (Unit {0}) DirtyView) (f : Flight) (word number : ℕ) → IsHeld t m → u ≡ t → Loaded m.0 f word number n.0 → n.1 ≡ m.1 → IsHeld u n
held_loaded t u m n f word number held same step bare =
    held_as t u m n (with_loaded m.0 f word number) held same bare step.after refl held.live (subst (λ (x : DirtyView). IsSeen x.base.setting x.base.seen) step.after step.seen) held.owing

pub held_published : (t u : TableId) (m n : Me (Unit {0}) DirtyView) (f : Flight) (word number left : ℕ) → IsHeld t m → u ≡ t → Published m.0 f word number left n.0 → n.1 ≡ m.1 → IsHeld u n
held_published t u m n f word number left held same step bare =
    held_as t u m n (with_published m.0 f number left) held same bare step.after refl held.live (subst (λ (x : DirtyView). IsSeen x.base.setting x.base.seen) step.after step.seen)
    (owes_nets (left == number) m.0.owed (readers_of m.0.lists f.net) (nets_of m.0.base.setting) held.owing step.readers)
  where
    owes_nets : (b : Bool) (old new : List ℕ) (count : ℕ) → ((net : ℕ) → Contains old net → net < count) → ((net : ℕ) → Contains new net → net < count) → (net : ℕ) → Contains (cond b old (old ++ new)) net → net < count
    owes_nets true old new count h k net c = h net c
    owes_nets false old new count h k net c = elim (Contains-append_cases old new net c) [ inl o ↦ h net o | inr n ↦ k net n ]

pub held_drew : (t u : TableId) (m n : Me (Unit {0}) DirtyView) (number : ℕ) → IsHeld t m → u ≡ t → Drew m.0 number n.0 → n.1 ≡ m.1 → IsHeld u n
held_drew t u m n number held same step bare = held_as t u m n (with_drawn m.0 number) held same bare step.after refl held.live held.seen held.owing

pub held_anew : (t u : TableId) (m n : Me (Unit {0}) DirtyView) → IsHeld t m → u ≡ t → n.0 ≡ with_anew m.0 → n.1 ≡ m.1 → IsHeld u n
held_anew t u m n held same is bare = held_as t u m n (with_anew m.0) held same bare is refl held.live held.seen held.owing

pub held_out : (t u : TableId) (m n : Me (Unit {0}) DirtyView) → IsHeld t m → u ≡ t → n ≡ (with_pass_out m.0, m.1) → IsHeld u n
held_out t u m n held same is =
    held_as t u m n (with_pass_out m.0) held same (ap (λ (x : Me (Unit {0}) DirtyView). x.1) is) (ap (λ (x : Me (Unit {0}) DirtyView). x.0) is) refl held.live held.seen held.owing

pub held_sent : (t u : TableId) (m n : Me (Unit {0}) DirtyView) → IsHeld t m → u ≡ t → n ≡ (pass_sent m.0, []) → IsHeld u n
held_sent t u m n held same is =
    held_as t u m n (pass_sent m.0) held same (ap (λ (x : Me (Unit {0}) DirtyView). x.1) is ∙ sym held.bare) (ap (λ (x : Me (Unit {0}) DirtyView). x.0) is) refl tt held.seen (λ net c. absurd (none_there net c))

pub held_both : (t u : TableId) (m n : Me (Unit {0}) DirtyView) (w : DirtyView) → IsHeld t m → u ≡ t → w.base.setting ≡ m.0.base.setting → IsSeen w.base.setting w.base.seen → n ≡ (with_joined m.0 w, m.1) → IsHeld u n
held_both t u m n w held same setting seen is =
    let other : IsSeen m.0.base.setting w.base.seen = subst (λ (a : Setting). IsSeen a w.base.seen) setting seen in
    held_as t u m n (with_joined m.0 w) held same (ap (λ (x : Me (Unit {0}) DirtyView). x.1) is) (ap (λ (x : Me (Unit {0}) DirtyView). x.0) is) refl held.live
    (seen_both m.0.base.setting m.0.base.seen w.base.seen held.seen other) held.owing

-- ---- a pass stays one of its board
of_base : (b : DirtyId) (h l : DirtyHolding) → IsOf b h → l.table ≡ h.table → run_of l.view ≡ run_of h.view → IsOf b l
of_base b h l own table run = record { table = table ∙ own.table; run = run ∙ own.run }

pub of_as : (b : DirtyId) (h l : DirtyHolding) (w : DirtyView) → IsOf b h → l.table ≡ h.table → l.view ≡ w → run_of w ≡ run_of h.view → IsOf b l
of_as b h l w own table is run = of_base b h l own table (ap run_of is ∙ run)

pub run_took : (v w : DirtyView) (net mark : ℕ) → Took v net mark w → run_of w ≡ run_of v
run_took v w net mark step = elim step.two [ inl zero ↦ ap run_of (step.missed zero) | inr one ↦ ap run_of (step.taken one) ]

pub run_looked : (v w : DirtyView) (net mark : ℕ) → Looked v net mark w → run_of w ≡ run_of v
run_looked v w net mark step = elim step.two [ inl zero ↦ ap run_of (step.clear zero) | inr one ↦ ap run_of (step.found one) ]

-- ---- words of a table
pub in_table : (t u : TableId) (a : Setting) (word : ℕ) → t ≡ u → t.words ≡ 9 * nets_of a + 1 → word < 9 * nets_of a + 1 → word < u.words
in_table t u a word same sized h = let e : t.words ≡ u.words = ap (λ (x : TableId). x.words) same in omega (arith, e, sized, h)

-- ---- words that the first pass finds while none is out
pub saw_next : (v w : DirtyView) (word number : ℕ) (words : List ℕ) → Saw v word number w → word < length v.base.seen → words ≡ take word v.base.seen → words ++ number ∷ [] ≡ take (word + 1) v.base.seen
saw_next v w word number words step h e =
    let x = quiet_number (word % 2) in
    let n : number ≡ get_or v.base.seen word x = step.whole.exact in
    let m : take (word + 1) v.base.seen ≡ take word v.base.seen ++ get_or v.base.seen word x ∷ [] = take_more v.base.seen word x h in
    rw (e, n, m) refl

pub saw_rested : (v w : DirtyView) (word number : ℕ) → IsSeen v.base.setting v.base.seen → Saw v word number w → IsRested v.base
saw_rested v w word number seen step = record { kept = record { seen = seen; fits = step.whole.fits }; next = step.whole.next; drawn = step.whole.drawn }

-- ---- a mark that was found, as the answer of a test
mark_is : (n : ℕ) → (n ≡ 0) ⊎ (n ≡ 1) → mark_of (n == 1) ≡ n
mark_is n (inl e) = subst (λ m. mark_of (m == 1) ≡ m) (sym e) refl
mark_is n (inr e) = subst (λ m. mark_of (m == 1) ≡ m) (sym e) refl

pub took_told : (v w : DirtyView) (net place number : ℕ) → net ≡ place → Took v place number w → Took v net (mark_of (number == 1)) w
took_told v w net place number e step = subst (λ m. Took v net m w) (sym (mark_is number step.two)) (subst (λ m. Took v m number w) (sym e) step)

pub looked_told : (v w : DirtyView) (net place number : ℕ) → net ≡ place → Looked v place number w → Looked v net (mark_of (number == 1)) w
looked_told v w net place number e step = subst (λ m. Looked v net m w) (sym (mark_is number step.two)) (subst (λ m. Looked v m number w) (sym e) step)
