-- A design passes one first limit at most.
use Rattle.std.proofs.Common.{◌≡◌, ℕ, ℤ, List, Option, refl, sym, ap, subst, ◌∙◌}
use Rattle.std.specs.Prelude.{Some}
use Rattle.std.specs.List.{slice_get}
use Rattle.std.proofs.lemmas.Option.{same_Some}
use Rattle.xt_model.specs.declared.net.Net.{Net}
use Rattle.xt_model.specs.Parts.{Parts}
use Rattle.xt_model.specs.Sound.{IsSound}
use Rattle.xt_model.specs.Levels.{IsOrder, IsOrderBy}
use Rattle.xt_model.proofs.LevelLaws.{levels_are_one}
use Rattle.xt_model.proofs.OrderLaws.{orders_are_one}
use Rattle.xt_meaning.specs.Envelope.{first_passed}
use Rattle.xt_meaning.proofs.Growth.{wired}
use Rattle.xt_meaning.proofs.Widest.{widest_unique}
use Rattle.envelope.specs.declared.fault.What.{What}
use Rattle.envelope.specs.declared.fault.What.TheVariants.{Time, Slew}
use Rattle.envelope.specs.Firsts.{IsFirstPassed, test_of}
use Rattle.command_line.specs.Words.{Text}
use Rattle.call_meaning.specs.Outcome.{IsPassed}
use Rattle.call_meaning.specs.declared.refusal.PassedLimit.{PassedLimit}

-- nets have one order
one_order : (nets : List Net) (a b : List ℕ) → IsOrder nets a → IsOrder nets b → a ≡ b
one_order nets a b x y =
    let P : List ℕ → Type 0 = λ ls. IsOrderBy nets ls a in
    orders_are_one nets y.0 a b (subst P (levels_are_one nets x.0 y.0 x.1 y.1) x.2) y.2

-- one quantity of one net
record AreOne (n m : ℕ) (a b : What) (v w : ℤ) : Type 0 where
  net : n ≡ m
  what : a ≡ b
  value : v ≡ w

one_test : (n m : ℕ) (a b : What) (v w : ℤ) → test_of n a v ≡ test_of m b w → AreOne n m a b v w
one_test n m Time Time v w e = record { net = cc; what = cc; value = cc }
one_test n m Time Slew v w e = absurd cc
one_test n m Slew Time v w e = absurd cc
one_test n m Slew Slew v w e = record { net = cc; what = cc; value = cc }

one_first : (d : Parts) (n m : ℕ) (a b : What) (v w : ℤ) → IsSound d → IsFirstPassed d n a v → IsFirstPassed d m b w → AreOne n m a b v w
one_first d n m a b v w s x y =
    let o = x.ordered in
    let top : x.top ≡ y.top = widest_unique d o.0 x.top y.top (wired d s) o.1 x.widest y.widest in
    let order : x.order ≡ y.order = one_order d.nets x.order y.order x.ordered y.ordered in
    let first : first_passed d x.top x.order ≡ first_passed d y.top y.order =
    ap (λ t. first_passed d t x.order) top ∙ ap (first_passed d y.top) order in
    one_test n m a b v w (same_Some (test_of n a v) (test_of m b w) (sym x.first ∙ (first ∙ y.first)))

same_passed : (p q : PassedLimit What ℤ) → p.what ≡ q.what → p.name ≡ q.name → p.value ≡ q.value → p ≡ q
same_passed p q a b c =
    let made : What → Option Text → ℤ → PassedLimit What ℤ = λ what name value. record { what = what; name = name; value = value } in
    let e : made p.what p.name p.value ≡ made q.what q.name q.value = rw (a, b, c) refl in
    e

pub one_passed : (d : Parts) (p q : PassedLimit What ℤ) → IsSound d → IsPassed d p → IsPassed d q → p ≡ q
one_passed d p q s x y =
    let one = one_first d x.number y.number p.what q.what p.value q.value s x.first y.first in
    let net : x.net ≡ y.net = same_Some x.net y.net (sym x.there ∙ (ap (slice_get d.nets) one.net ∙ y.there)) in
    let name : p.name ≡ q.name = x.called ∙ (ap (λ n. Some n.name) net ∙ sym y.called) in
    same_passed p q one.what name one.value
