-- Names of which one is refused.
use Rattle.std.proofs.Common.{◌≡◌, refl, sym, ap, ◌∙◌, ℕ, List, [], ◌∷◌, ◌++◌}
use Rattle.std.specs.Prelude.{Bool, true, false, ◌&&◌, Err, if◌then◌else◌}
use Rattle.std.specs.List.{list_all}
use Rattle.name_numbers.specs.Names.{Text}
use Rattle.xt_model.specs.declared.code.Code.TheVariants.{L1}
use Rattle.text_forms.specs.Refusals.{Meant, refuse}
use Rattle.text_forms.specs.Names.{is_name}
use Rattle.liberty_cells.specs.Names.{some_names}

one_fails : (done more : List Text) (name : Text) → is_name name ≡ false → list_all is_name (done ++ name ∷ more) ≡ false
one_fails [] more name e = rw e refl
one_fails (x ∷ done) more name e = joined (is_name x) (list_all is_name (done ++ name ∷ more)) (one_fails done more name e) where
  joined : (b c : Bool) → c ≡ false → (b && c) ≡ false
  joined true c h = h
  joined false c h = refl

refused : (line : ℕ) (names : List Text) → list_all is_name names ≡ false → some_names line names ≡ refuse line L1
refused line [] e = refl
refused line (x ∷ names) e = rw e refl

-- names are refused where one of them is
pub name_refused : (line : ℕ) (done more whole : List Text) (name : Text)
    → done ++ name ∷ more ≡ whole → is_name name ≡ false → some_names line whole ≡ refuse line L1
name_refused line done more whole name split e = rw (sym split) (refused line (done ++ name ∷ more) (one_fails done more name e))
