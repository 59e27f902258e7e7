-- A text without foreign bytes.
use Rattle.std.proofs.Common.{◌≡◌, ℕ, zero, suc, ◌+◌, Bool, true, false, ◌||◌, List, [], ◌∷◌, take, Option, None, cond, refl}
use Rattle.std.specs.List.{list_any}
use Rattle.std.specs.Option.{option_or}
use Rattle.std.proofs.lemmas.Bool.{or_parts}
use Rattle.xt_lex.specs.declared.front.Front.{Front}
use Rattle.xt_lex.specs.declared.rules.Rules.{Rules}
use Rattle.xt_lex.specs.Bytes.{is_foreign, line_after}
use Rattle.xt_lex.specs.Pieces.{front_of, pieces_from, pieces_of}
use Rattle.xt_lex.specs.Faults.{may_hold_any, foreign_line, first_foreign}

-- among such bytes no line has a foreign one
no_foreign_line : (bytes : List ℕ) (n line : ℕ) → list_any is_foreign bytes ≡ false → foreign_line line (take n bytes) ≡ None
no_foreign_line [] zero line e = refl
no_foreign_line [] (suc n) line e = refl
no_foreign_line (b ∷ more) zero line e = refl
no_foreign_line (b ∷ more) (suc n) line e =
    let none = or_parts (is_foreign b) (list_any is_foreign more) e in
    rw none.0 (no_foreign_line more n (line_after b line) none.1)

none_with : (any : Bool) (o p : Option ℕ) → o ≡ None → p ≡ None → cond any p (option_or o p) ≡ None
none_with true o p e f = f
none_with false o p e f = rw e f

no_foreign_from : (rules : Rules) (fresh : Bool) (bytes : List ℕ) (k from line : ℕ) → list_any is_foreign bytes ≡ false
    → first_foreign (pieces_from rules fresh k from line bytes) ≡ None
no_foreign_from rules fresh [] k from line e = refl
no_foreign_from rules fresh (b ∷ more) (suc k) from line e =
    no_foreign_from rules fresh more k (from + 1) (line_after b line) (or_parts (is_foreign b) (list_any is_foreign more) e).1
no_foreign_from rules fresh (b ∷ more) zero from line e =
    let front : Front = front_of rules fresh b more in
    none_with (may_hold_any front.class) (foreign_line line (b ∷ take front.inner more)) _
    (no_foreign_line (b ∷ more) (suc front.inner) line e)
    (no_foreign_from rules front.fresh more front.inner (from + 1) (line_after b line) (or_parts (is_foreign b) (list_any is_foreign more) e).1)

-- no piece of a text without foreign bytes has one
pub no_foreign : (rules : Rules) (bytes : List ℕ) → list_any is_foreign bytes ≡ false → first_foreign (pieces_of rules bytes) ≡ None
no_foreign rules bytes e = no_foreign_from rules true bytes 0 0 1 e
