-- What follows where a test of a line was passed, or a step gave something.
use Rattle.std.proofs.Common.{◌≡◌, ℕ, ◌≤◌, Bool, true, false, not, ◌&&◌, leb, List, [], ◌∷◌, Option, Some, None, Result, Ok, Err, refl, sym, ap, subst, ◌∙◌}
use Rattle.std.specs.Prelude.{if◌then◌else◌}
use Rattle.std.specs.Str.{bytes_eq}
use Rattle.std.proofs.lemmas.Bool.{leb-true, le-leb}
use Rattle.std.proofs.lemmas.Slice.Eq.{bytes_eq-Decides}
use Rattle.xt_model.specs.declared.fault.LimitKind.{LimitKind}
use Rattle.text_lines.specs.Lines.{Line}
use Rattle.linked_text.specs.declared.fault.Fault.{Fault}
use Rattle.linked_text.specs.declared.fault.Fault.TheVariants as faults
use Rattle.linked_text.specs.Fields.{one, two, three, four, five, seven, nine}
use Rattle.linked_text.specs.EachLine.{worded, has_word, numbered, well_written, holds}
use Rattle.linked_text.specs.Meaning.{keeps}
use Rattle.xt_model.specs.Results.{◌>>=◌}

-- ---- steps

pub ok_step : {A B E : Type 0} {r : Result A E} {f : A → Result B E} {y : B} → (r >>= f) ≡ Ok y → (x : A) × (r ≡ Ok x) × (f x ≡ Ok y)
ok_step {r = Ok x} e = (x, refl, e)
ok_step {r = Err c} e = absurd cc

-- a step that gave something, and one that was refused
pub goes_on : {A B E : Type 0} {r : Result A E} {x : A} (f : A → Result B E) {y : Result B E} → r ≡ Ok x → f x ≡ y → (r >>= f) ≡ y
goes_on f e h = ap (λ t. t >>= f) e ∙ h

pub is_refused : {A B E : Type 0} {r : Result A E} {c : E} (f : A → Result B E) → r ≡ Err c → (r >>= f) ≡ Err c
is_refused f e = ap (λ t. t >>= f) e

pub all_true : {a b : Bool} → a ≡ true → b ≡ true → (a && b) ≡ true
all_true e h = rw (e, h) refl

pub first_false : {a : Bool} (b : Bool) → a ≡ false → (a && b) ≡ false
first_false b e = rw e refl

pub last_false : {a b : Bool} → a ≡ true → b ≡ false → (a && b) ≡ false
last_false e h = rw (e, h) refl

pub ok_is : {A E : Type 0} (x y : A) → ◌≡◌ {A = Result A E} (Ok x) (Ok y) → x ≡ y
ok_is x y e = cc

pub worded_ok : {A : Type 0} {o : Option A} {x : A} → worded o ≡ Ok x → o ≡ Some x
worded_ok {o = Some y} {x} e = ap Some (ok_is y x e)
worded_ok {o = None} e = absurd cc

pub numbered_ok : {A : Type 0} {o : Option A} {x : A} → numbered o ≡ Ok x → o ≡ Some x
numbered_ok {o = Some y} {x} e = ap Some (ok_is y x e)
numbered_ok {o = None} e = absurd cc

pub word_ok : {b : Bool} {u : Unit {0}} → has_word b ≡ Ok u → b ≡ true
word_ok {b = true} e = refl
word_ok {b = false} e = absurd cc

pub written_ok : {b : Bool} {u : Unit {0}} → well_written b ≡ Ok u → b ≡ true
written_ok {b = true} e = refl
written_ok {b = false} e = absurd cc

pub holds_ok : {b : Bool} {u : Unit {0}} → holds b ≡ Ok u → b ≡ true
holds_ok {b = true} e = refl
holds_ok {b = false} e = absurd cc

pub is_word : (f w : List ℕ) → bytes_eq f w ≡ true → f ≡ w
is_word f w e = (bytes_eq-Decides f w).0 e

-- a field that was compared with a word
pub word_differs : (f : List ℕ) {text w : List ℕ} {differ : Bool} → differ ≡ not (bytes_eq f text) → text ≡ w → differ ≡ true → bytes_eq f w ≡ false
word_differs f {text} {w} compared written differ = go (bytes_eq f w) (sym differ ∙ (compared ∙ ap (λ t. not (bytes_eq f t)) written))
  where
    go : (b : Bool) → true ≡ not b → b ≡ false
    go true e = absurd cc
    go false e = refl

pub word_agrees : (f : List ℕ) {text w : List ℕ} {differ : Bool} → differ ≡ not (bytes_eq f text) → text ≡ w → differ ≡ false → bytes_eq f w ≡ true
word_agrees f {text} {w} compared written same = go (bytes_eq f w) (sym same ∙ (compared ∙ ap (λ t. not (bytes_eq f t)) written))
  where
    go : (b : Bool) → false ≡ not b → b ≡ true
    go true e = refl
    go false e = absurd cc

pub same_word : (w : List ℕ) → bytes_eq w w ≡ true
same_word w = (bytes_eq-Decides w w).1 refl

pub keeps_ok : (what : LimitKind) (name : Option (List ℕ)) (value most : ℕ) (u : Unit {0}) → keeps what name value most ≡ Ok u → value ≤ most
keeps_ok what name value most u e = by_test (leb value most) refl e
  where
    by_test : (b : Bool) → leb value most ≡ b → ◌≡◌ {A = Result (Unit {0}) Fault} (if b then Ok tt else Err (faults.Limit what name value)) (Ok u) → value ≤ most
    by_test true t e = leb-true value most t
    by_test false t e = absurd cc

pub keeps_again : (what : LimitKind) (name : Option (List ℕ)) (value most : ℕ) → value ≤ most → keeps what name value most ≡ Ok tt
keeps_again what name value most h = rw (le-leb value most h) refl

-- ---- the fields of a line

pub one_is : (line : Line) (x : List ℕ) → one line ≡ Some x → line ≡ x ∷ []
one_is [] x e = absurd cc
one_is (a ∷ []) x e = let is : ◌≡◌ {A = List ℕ} a x = cc in subst (λ (y : List ℕ). a ∷ [] ≡ y ∷ []) is refl
one_is (a ∷ z ∷ zs) x e = absurd cc

pub two_is : (line : Line) (x : List ℕ × List ℕ) → two line ≡ Some x → line ≡ x.0 ∷ x.1 ∷ []
two_is [] x e = absurd cc
two_is (a ∷ []) x e = absurd cc
two_is (a ∷ b ∷ []) x e = let is : ◌≡◌ {A = List ℕ × List ℕ} (a, b) x = cc in subst (λ (y : List ℕ × List ℕ). a ∷ b ∷ [] ≡ y.0 ∷ y.1 ∷ []) is refl
two_is (a ∷ b ∷ z ∷ zs) x e = absurd cc

pub three_is : (line : Line) (x : List ℕ × List ℕ × List ℕ) → three line ≡ Some x → line ≡ x.0 ∷ x.1 ∷ x.2 ∷ []
three_is [] x e = absurd cc
three_is (a ∷ []) x e = absurd cc
three_is (a ∷ b ∷ []) x e = absurd cc
three_is (a ∷ b ∷ c ∷ []) x e = let is : ◌≡◌ {A = List ℕ × List ℕ × List ℕ} (a, b, c) x = cc in subst (λ (y : List ℕ × List ℕ × List ℕ). a ∷ b ∷ c ∷ [] ≡ y.0 ∷ y.1 ∷ y.2 ∷ []) is refl
three_is (a ∷ b ∷ c ∷ z ∷ zs) x e = absurd cc

pub four_is : (line : Line) (x : List ℕ × List ℕ × List ℕ × List ℕ) → four line ≡ Some x → line ≡ x.0 ∷ x.1 ∷ x.2 ∷ x.3 ∷ []
four_is [] x e = absurd cc
four_is (a ∷ []) x e = absurd cc
four_is (a ∷ b ∷ []) x e = absurd cc
four_is (a ∷ b ∷ c ∷ []) x e = absurd cc
four_is (a ∷ b ∷ c ∷ d ∷ []) x e = let is : ◌≡◌ {A = List ℕ × List ℕ × List ℕ × List ℕ} (a, b, c, d) x = cc in subst (λ (y : List ℕ × List ℕ × List ℕ × List ℕ). a ∷ b ∷ c ∷ d ∷ [] ≡ y.0 ∷ y.1 ∷ y.2 ∷ y.3 ∷ []) is refl
four_is (a ∷ b ∷ c ∷ d ∷ z ∷ zs) x e = absurd cc

pub five_is : (line : Line) (x : List ℕ × List ℕ × List ℕ × List ℕ × List ℕ) → five line ≡ Some x → line ≡ x.0 ∷ x.1 ∷ x.2 ∷ x.3 ∷ x.4 ∷ []
five_is [] x e = absurd cc
five_is (a ∷ []) x e = absurd cc
five_is (a ∷ b ∷ []) x e = absurd cc
five_is (a ∷ b ∷ c ∷ []) x e = absurd cc
five_is (a ∷ b ∷ c ∷ d ∷ []) x e = absurd cc
five_is (a ∷ b ∷ c ∷ d ∷ f ∷ []) x e = let is : ◌≡◌ {A = List ℕ × List ℕ × List ℕ × List ℕ × List ℕ} (a, b, c, d, f) x = cc in subst (λ (y : List ℕ × List ℕ × List ℕ × List ℕ × List ℕ). a ∷ b ∷ c ∷ d ∷ f ∷ [] ≡ y.0 ∷ y.1 ∷ y.2 ∷ y.3 ∷ y.4 ∷ []) is refl
five_is (a ∷ b ∷ c ∷ d ∷ f ∷ z ∷ zs) x e = absurd cc

pub seven_is : (line : Line) (x : List ℕ × List ℕ × List ℕ × List ℕ × List ℕ × List ℕ × List ℕ) → seven line ≡ Some x → line ≡ x.0 ∷ x.1 ∷ x.2 ∷ x.3 ∷ x.4 ∷ x.5 ∷ x.6 ∷ []
seven_is [] x e = absurd cc
seven_is (a ∷ []) x e = absurd cc
seven_is (a ∷ b ∷ []) x e = absurd cc
seven_is (a ∷ b ∷ c ∷ []) x e = absurd cc
seven_is (a ∷ b ∷ c ∷ d ∷ []) x e = absurd cc
seven_is (a ∷ b ∷ c ∷ d ∷ f ∷ []) x e = absurd cc
seven_is (a ∷ b ∷ c ∷ d ∷ f ∷ g ∷ []) x e = absurd cc
seven_is (a ∷ b ∷ c ∷ d ∷ f ∷ g ∷ i ∷ []) x e = let is : ◌≡◌ {A = List ℕ × List ℕ × List ℕ × List ℕ × List ℕ × List ℕ × List ℕ} (a, b, c, d, f, g, i) x = cc in subst (λ (y : List ℕ × List ℕ × List ℕ × List ℕ × List ℕ × List ℕ × List ℕ). a ∷ b ∷ c ∷ d ∷ f ∷ g ∷ i ∷ [] ≡ y.0 ∷ y.1 ∷ y.2 ∷ y.3 ∷ y.4 ∷ y.5 ∷ y.6 ∷ []) is refl
seven_is (a ∷ b ∷ c ∷ d ∷ f ∷ g ∷ i ∷ z ∷ zs) x e = absurd cc

pub nine_is : (line : Line) (x : List ℕ × List ℕ × List ℕ × List ℕ × List ℕ × List ℕ × List ℕ × List ℕ × List ℕ) → nine line ≡ Some x → line ≡ x.0 ∷ x.1 ∷ x.2 ∷ x.3 ∷ x.4 ∷ x.5 ∷ x.6 ∷ x.7 ∷ x.8 ∷ []
nine_is [] x e = absurd cc
nine_is (a ∷ []) x e = absurd cc
nine_is (a ∷ b ∷ []) x e = absurd cc
nine_is (a ∷ b ∷ c ∷ []) x e = absurd cc
nine_is (a ∷ b ∷ c ∷ d ∷ []) x e = absurd cc
nine_is (a ∷ b ∷ c ∷ d ∷ f ∷ []) x e = absurd cc
nine_is (a ∷ b ∷ c ∷ d ∷ f ∷ g ∷ []) x e = absurd cc
nine_is (a ∷ b ∷ c ∷ d ∷ f ∷ g ∷ i ∷ []) x e = absurd cc
nine_is (a ∷ b ∷ c ∷ d ∷ f ∷ g ∷ i ∷ j ∷ []) x e = absurd cc
nine_is (a ∷ b ∷ c ∷ d ∷ f ∷ g ∷ i ∷ j ∷ k ∷ []) x e = let is : ◌≡◌ {A = List ℕ × List ℕ × List ℕ × List ℕ × List ℕ × List ℕ × List ℕ × List ℕ × List ℕ} (a, b, c, d, f, g, i, j, k) x = cc in subst (λ (y : List ℕ × List ℕ × List ℕ × List ℕ × List ℕ × List ℕ × List ℕ × List ℕ × List ℕ). a ∷ b ∷ c ∷ d ∷ f ∷ g ∷ i ∷ j ∷ k ∷ [] ≡ y.0 ∷ y.1 ∷ y.2 ∷ y.3 ∷ y.4 ∷ y.5 ∷ y.6 ∷ y.7 ∷ y.8 ∷ []) is refl
nine_is (a ∷ b ∷ c ∷ d ∷ f ∷ g ∷ i ∷ j ∷ k ∷ z ∷ zs) x e = absurd cc
