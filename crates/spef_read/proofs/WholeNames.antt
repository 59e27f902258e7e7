-- The names of a SPEF text are names.
use Rattle.std.specs.Prelude.{◌≡◌, refl, ℕ, ◌<◌, ◌≤◌, nat_le, ◌==◌, not, Bool, true, false, [], ◌∷◌, ◌++◌, length}
use Rattle.std.specs.Prelude.{Option, Some, None, Ok, Err, IfOk}
use Rattle.std.specs.List.{AllByRecursion}
use Rattle.std.proofs.Common.{arith}
use Rattle.std.proofs.lemmas.Bool.{cond_both, and_parts}
use Rattle.std.proofs.lemmas.Bool.Decides.{nat_tests}
use Rattle.name_numbers.specs.Names.{found}
use Rattle.xt_model.specs.declared.code.Code.TheVariants.{S1}
use Rattle.xt_number.specs.Value.{without_zeros}
use Rattle.spef_read.specs.declared.marks.Marks.{Marks}
use Rattle.spef_read.specs.Words.{Text, are_digits, before, from_mark, place_of}
use Rattle.spef_read.specs.Names.{NameMap, meant, unescaped, has_size, sized, mapped, mapped_name, whole_name, pair_name}
use Rattle.text_forms.proofs.Bytes.{IsGraphic, AreGraphic, each-append, each-drop}
use Rattle.name_numbers.proofs.FoundLaws.{found_value}

-- a name, whose bytes are printable
pub record IsWhole (name : Text) : Type 0 where
  pub graphic : AreGraphic name
  pub some : 0 < length name
  pub short : length name ≤ 2049

-- the names of a name map are printable
abbrev pub IsGraphicMap : NameMap → Type 0
IsGraphicMap map = AllByRecursion (λ e. AreGraphic e.1) map

sized_whole : (name : Text) → AreGraphic name → IfOk (sized name) IsWhole
sized_whole name graphic = cond_both (has_size name) (Ok name) (Err S1) (λ r. IfOk r IsWhole) fits (λ e. tt)
  where
    fits : has_size name ≡ true → IsWhole name
    fits e =
        let parts = and_parts (not (length name == 0)) (nat_le (length name) 2049) e in
        let some = parts.0 in
        let short = parts.1 in
        record { graphic = graphic; some = grind (arith, nat_tests, some); short = grind (arith, nat_tests, short) }

module _ (m : Marks) where
  meant_graphic : (b : ℕ) → IsGraphic b → IsGraphic (meant m b)
  meant_graphic b h =
      cond_both (b == m.divider) 47 _ IsGraphic (λ e. refl) (λ e.
      cond_both (b == m.left) 91 _ IsGraphic (λ e. refl) (λ e.
      cond_both (b == m.right) 93 b IsGraphic (λ e. refl) (λ e. h)))

  unescaped_graphic : (kept : Bool) (bytes : Text) → AreGraphic bytes → AreGraphic (unescaped m kept bytes)
  unescaped_graphic kept [] h = tt
  unescaped_graphic kept (b ∷ more) h =
      cond_both (b == 92) _ _ AreGraphic (λ e. unescaped_graphic true more h.1) (λ e. (
        cond_both kept b (meant m b) IsGraphic (λ e. h.0) (λ e. meant_graphic b h.0),
        unescaped_graphic false more h.1,
      ))

  plain_whole : (word : Text) → AreGraphic word → IfOk (sized (unescaped m false word)) IsWhole
  plain_whole word g = sized_whole (unescaped m false word) (unescaped_graphic false word g)

  mapped_by : (behind : Text) (o : Option (ℕ × Text)) → AreGraphic behind → ((e : ℕ × Text) → o ≡ Some e → AreGraphic e.1)
      → IfOk (mapped m behind o) IsWhole
  mapped_by behind None b g = tt
  mapped_by behind (Some e) b g =
      sized_whole (e.1 ++ unescaped m false behind)
      (each-append IsGraphic e.1 (unescaped m false behind) (g e refl) (unescaped_graphic false behind b))

  mapped_whole : (map : NameMap) (more : Text) → IsGraphicMap map → AreGraphic more → IfOk (mapped_name m map more) IsWhole
  mapped_whole map more maps g =
      let index = without_zeros (before m.delimiter more) in
      cond_both (are_digits (before m.delimiter more)) (mapped m (from_mark m.delimiter more) (found index map)) (Err S1)
      (λ r. IfOk r IsWhole) (λ e. mapped_by (from_mark m.delimiter more) (found index map) (each-drop IsGraphic (place_of m.delimiter more) more g)
      (λ entry at. found_value AreGraphic index map entry maps at)) (λ e. tt)

  pub whole_name_is : (map : NameMap) (word : Text) → IsGraphicMap map → AreGraphic word → IfOk (whole_name m map word) IsWhole
  unfolding whole_name
  whole_name_is map [] maps g = tt
  whole_name_is map (b ∷ more) maps g =
      cond_both (b == 42) (mapped_name m map more) (sized (unescaped m false (b ∷ more))) (λ r. IfOk r IsWhole)
      (λ e. mapped_whole map more maps g.1) (λ e. plain_whole (b ∷ more) g)

  pub pair_name_is : (word : Text) → AreGraphic word → IfOk (pair_name m word) IsWhole
  unfolding pair_name
  pair_name_is [] g = tt
  pair_name_is (b ∷ more) g =
      cond_both (b == 42) (Err S1) (sized (unescaped m false (b ∷ more))) (λ r. IfOk r IsWhole) (λ e. tt) (λ e. plain_whole (b ∷ more) g)
