-- The lines of a text of edits, one after another.
use Rattle.std.proofs.Common.{◌≡◌, ℕ, ◌+◌, ◌<◌, Bool, true, false, eqb, ltb, cond, List, [], ◌∷◌, length, take, drop, Option, Some, None, refl, sym, ap, subst, ◌∙◌, codes, arith}
use Rattle.std.specs.Prelude.{position}
use Rattle.std.specs.List.{position_or_len, join_with_byte}
use Rattle.std.specs.Str.{bytes_eq}
use Rattle.std.proofs.lemmas.Bool.{ltb-true, ltb-false}
use Rattle.std.proofs.lemmas.List.Splits.{slice_split_first, slice_split_none, length-slice_split, join_with_byte-slice_split}
use Rattle.std.proofs.lemmas.List.Sums.{fails_before_first}
use Rattle.xt_model.specs.declared.code.Code.TheVariants as codes_of
use Rattle.xt_model.specs.Parts.{Parts}
use Rattle.command_line.specs.Words.{Text}
use Rattle.call_meaning.specs.Outcome.{Outcome, LimitsMean}
use Rattle.call_meaning.specs.Call.{IsStop}
use Rattle.call_meaning.specs.declared.refusal.Stop.{Stop}
use Rattle.call_meaning.proofs.Lifts.{lift_stop}
use Rattle.call_meaning.specs.Eco.{EndMeans, Ends, GoesOn, IfElse, LineMeans, LinesMean, lines_of, most_edits, refused_at}

-- ---- the first line

abbrev is_newline : ℕ → Bool
is_newline b = eqb b 10

is_some : (b : Bool) (i j : ℕ) → cond b (Some i) None ≡ Some j → (b ≡ true) × (i ≡ j)
is_some true i j e = (refl, cc)
is_some false i j e = absurd cc

-- where there is a newline
pub first_of_lines : (bytes : Text) (i : ℕ) → position is_newline bytes ≡ Some i → lines_of bytes ≡ take i bytes ∷ lines_of (drop (i + 1) bytes)
first_of_lines bytes i e =
    let at = position_or_len is_newline bytes in
    let g = is_some (ltb at (length bytes)) at i e in
    subst (λ j. lines_of bytes ≡ take j bytes ∷ lines_of (drop (j + 1) bytes)) g.1 (slice_split_first is_newline bytes 0 (ltb-true at (length bytes) g.0))

-- where there is none
pub only_line : (bytes : Text) → position is_newline bytes ≡ None → lines_of bytes ≡ bytes ∷ []
only_line bytes e = slice_split_none is_newline bytes (λ k d lt. fails_before_first is_newline bytes k d (go (ltb (position_or_len is_newline bytes) (length bytes)) refl k lt))
  where
    go : (b : Bool) → ltb (position_or_len is_newline bytes) (length bytes) ≡ b → (k : ℕ) → k < length bytes → k < position_or_len is_newline bytes
    go true t k lt = let never : ◌≡◌ {A = Option ℕ} (Some (position_or_len is_newline bytes)) None = rw t at e in absurd cc
    go false t k lt = omega (arith, lt, ltb-false _ _ t)

-- a list that is not empty
record IsSomeLines (lines : List Text) : Type 0 where
  first : Text
  rest : List Text
  is : lines ≡ first ∷ rest

some_lines : (lines : List Text) → 0 < length lines → IsSomeLines lines
some_lines [] h = absurd (omega (arith, h))
some_lines (x ∷ xs) h = record { first = x; rest = xs; is = refl }

of_text : (bytes : Text) → IsSomeLines (lines_of bytes)
of_text bytes = some_lines (lines_of bytes) (let n = length-slice_split is_newline bytes in omega (arith, n))

-- ---- what lines mean, by their first one

-- where no newline is left
pub no_newline : (file rest : Text) (count : ℕ) → lines_of rest ≡ rest ∷ [] → (d : Parts) → LinesMean file (lines_of rest) count d (refused_at file (count + 1) codes_of.E1)
no_newline file rest count e d = subst (λ ls. LinesMean file ls count d (refused_at file (count + 1) codes_of.E1)) (sym e) refl

when : (b : Bool) (M N : Type 0) → b ≡ true → M → IfElse b M N
when true M N e h = h
when false M N e h = absurd cc

unless : (b : Bool) (M N : Type 0) → b ≡ false → N → IfElse b M N
unless false M N e h = h
unless true M N e h = absurd cc

module _ (file line more : Text) (lines : List Text) (count : ℕ) (at : lines ≡ line ∷ lines_of more) where
  abbrev After : Parts → Outcome → Parts → Type 0
  After d o e = LimitsMean e (LinesMean file (lines_of more) (count + 1) e o) o

  as_line : (d : Parts) (o : Outcome) → LineMeans file count line (lines_of more) d (After d o) o → LinesMean file lines count d o
  as_line d o h =
      let s = of_text more in
      let P : List Text → Type 0 = λ ms. LineMeans file count line ms d (λ e. LimitsMean e (LinesMean file ms (count + 1) e o) o) o in
      let k : LinesMean file (line ∷ s.first ∷ s.rest) count d o = subst P s.is h in
      subst (λ ls. LinesMean file ls count d o) (sym at) (subst (λ ms. LinesMean file (line ∷ ms) count d o) (sym s.is) k)

  abbrev is_end : Bool
  is_end = bytes_eq line (codes "end")

  pub the_last : is_end ≡ true → (d : Parts) (o : Outcome) → EndMeans file (count + 2) (lines_of more) d o → LinesMean file lines count d o
  the_last e d o h = as_line d o (when is_end _ _ e h)

  pub too_many : is_end ≡ false → count ≡ most_edits → (d : Parts) → LinesMean file lines count d (refused_at file (count + 1) codes_of.E1)
  too_many e full d = as_line d (refused_at file (count + 1) codes_of.E1) (unless is_end _ _ e (unless (ltb count most_edits) _ _ (rw full refl) refl))

  pub goes_on : is_end ≡ false → ltb count most_edits ≡ true → GoesOn file lines count line (lines_of more)
  goes_on e few d o h = as_line d o (unless is_end _ _ e (when (ltb count most_edits) _ _ few h))

-- the last line has nothing after it
pub ends : (file line more : Text) (lines : List Text) (count : ℕ) → lines ≡ line ∷ lines_of more → bytes_eq line (codes "end") ≡ true → length more ≡ 0 → Ends file lines count
ends file line [] lines count at e none d o h = the_last file line [] lines count at e d o h
ends file line (b ∷ more) lines count at e none d o h = absurd (omega (arith, none))

-- or something: it is refused there
more_means : (file : Text) (line : ℕ) (d : Parts) (lines : List Text) → (lines ≡ [] ∷ [] → ⊥) → EndMeans file line lines d (refused_at file line codes_of.E1)
more_means file line d [] h = refl
more_means file line d ([] ∷ []) h = absurd (h refl)
more_means file line d ((b ∷ bs) ∷ []) h = refl
more_means file line d ([] ∷ x ∷ xs) h = refl
more_means file line d ((b ∷ bs) ∷ x ∷ xs) h = refl

-- lines of which the one is empty are those of no bytes
one_empty : (bytes : Text) → lines_of bytes ≡ [] ∷ [] → bytes ≡ []
one_empty bytes e = sym (join_with_byte-slice_split 10 bytes) ∙ ap (join_with_byte 10) e

pub ends_badly : (file line more : Text) (lines : List Text) (count : ℕ) → lines ≡ line ∷ lines_of more → bytes_eq line (codes "end") ≡ true → (more ≡ [] → ⊥)
    → (d : Parts) → LinesMean file lines count d (refused_at file (count + 2) codes_of.E1)
ends_badly file line more lines count at e some d =
    the_last file line more lines count at e d (refused_at file (count + 2) codes_of.E1) (more_means file (count + 2) d (lines_of more) (λ h. some (one_empty more h)))

-- what is refused so stops there
pub refused_stops : (M : Outcome → Type 0) (x : Outcome) (s : Stop) → IsStop (λ o. o ≡ x) (λ _. ⊥) s → M x → IsStop M (λ _. ⊥) s
refused_stops M x s h meant = lift_stop (λ o. o ≡ x) M (λ _. ⊥) (λ _. ⊥) s (λ o is. subst M (sym is) meant) (λ _ r. r) h
