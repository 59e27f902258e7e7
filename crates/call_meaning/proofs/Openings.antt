-- Files that are opened one after another.
use Rattle.std.proofs.Common.{◌≡◌, ℕ, suc, ◌+◌, refl, sym, ap, subst, ◌∙◌, List, [], ◌∷◌, ◌++◌, length, length-append, take, arith, Option, Some, None}
use Rattle.std.proofs.lemmas.List.{append-nil, append_assoc, take_all}
use Rattle.xt_io.specs.Outside.{AreOpened}
use Rattle.command_line.specs.Words.{Text}
use Rattle.call_meaning.specs.Opened.{OpensFirst}

pub none_opened : (o : Option (List Text)) → AreOpened [] o o
none_opened None = tt
none_opened (Some names) = (names, refl, sym (append-nil names))

pub opened_then : (xs ys : List Text) (a b z : Option (List Text)) → AreOpened xs a b → AreOpened ys b z → AreOpened (xs ++ ys) a z
opened_then xs ys a b None h k = tt
opened_then xs ys a b (Some all) h k =
    let one = subst (AreOpened xs a) k.1 h in
    (one.0, one.1, k.2 ∙ (ap (λ ns. ns ++ ys) one.2 ∙ append_assoc one.0 xs ys))

take_past : (xs ys : List Text) (n : ℕ) → take (length xs + n) (xs ++ ys) ≡ xs ++ take n ys
take_past [] ys n = let e : length {A = Text} [] + n ≡ n = omega arith in ap (λ k. take k ys) e
take_past (x ∷ xs) ys n =
    let e : length (x ∷ xs) + n ≡ suc (length xs + n) = omega arith in
    ap (λ k. take k (x ∷ (xs ++ ys))) e ∙ ap (λ r. x ∷ r) (take_past xs ys n)

-- these files, and then a first part of those
pub opens_more : (xs ys : List Text) (All : Type 0) (a b z : Option (List Text)) → AreOpened xs a b → OpensFirst ys All b z → OpensFirst (xs ++ ys) All a z
opens_more xs ys All a b z h k = record {
  count = length xs + k.count;
  opened = subst (λ names. AreOpened names a z) (sym (take_past xs ys k.count)) (opened_then xs (take k.count ys) a b z h k.opened);
  all = λ w. let m = k.all w in let n = length-append xs ys in omega (arith, m, n);
}

-- all of these files
pub opens_all : (xs : List Text) (All : Type 0) (a z : Option (List Text)) → AreOpened xs a z → OpensFirst xs All a z
opens_all xs All a z h = record {
  count = length xs;
  opened = subst (λ names. AreOpened names a z) (sym (take_all (length xs) xs (omega arith))) h;
  all = λ w. omega arith;
}

-- these files, and none of those after them
pub opens_part : (xs ys : List Text) (All : Type 0) (a z : Option (List Text)) → AreOpened xs a z → (All → ⊥) → OpensFirst (xs ++ ys) All a z
opens_part xs ys All a z h not_all =
    opens_more xs ys All a z z h (record { count = 0; opened = none_opened z; all = λ w. absurd (not_all w) })

pub opens_same : (xs : List Text) (All Other : Type 0) (a z : Option (List Text)) → (Other → All) → OpensFirst xs All a z → OpensFirst xs Other a z
opens_same xs All Other a z f h = record { count = h.count; opened = h.opened; all = λ w. h.all (f w) }

pub all_opened : (xs : List Text) (All : Type 0) (a z : Option (List Text)) → OpensFirst xs All a z → All → AreOpened xs a z
all_opened xs All a z h w = subst (λ names. AreOpened names a z) (take_all h.count xs (h.all w)) h.opened
