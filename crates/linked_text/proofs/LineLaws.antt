-- The laws of lines: what a line was read as is written so, and what is written so is read; and of lines one after
-- another.
use Rattle.std.proofs.Common.{◌≡◌, ℕ, zero, suc, ◌≤◌, false, eqb, List, [], ◌∷◌, ◌++◌, length, Option, Some, None, Result, Ok, Err, refl, sym, ap, subst, ◌∙◌, append_assoc, arith}
use Rattle.std.specs.List.{AllByRecursion, flat_map, join_with_byte}
use Rattle.std.proofs.lemmas.Bool.{leb-true, ne_eqb}
use Rattle.std.proofs.lemmas.List.Concat.{flat_map-append}
use Rattle.std.proofs.lemmas.List.Elements.{All-from_recursion}
use Rattle.std.proofs.lemmas.List.Splits.{slice_split_none, slice_split_at, join_with_byte-slice_split}
use Rattle.xt_model.specs.declared.code.Code.{Code}
use Rattle.text_lines.specs.Lines.{Line, line_text, text_of}
use Rattle.linked_text.specs.Fields.{cut_at, fields_of}
use Rattle.linked_text.specs.Meaning.{Read, line_at, first_line, with_rest, many_at}
use Rattle.linked_text.proofs.Cuts.{Lacks, cut_takes, cut_again}
use Rattle.linked_text.proofs.Inversions.{ok_step, ok_is}
use Rattle.linked_text.proofs.NumberLaws.{Clear}

-- ---- the text of a line

-- some fields, none with a space or a newline
abbrev pub IsPlain : Line → Type 0
IsPlain [] = ⊥
IsPlain (f ∷ fs) = Clear f × AllByRecursion Clear fs

abbrev joined : Line → List ℕ
joined line = join_with_byte 32 line

text_joined : (f : List ℕ) (fs : Line) → line_text (f ∷ fs) ≡ joined (f ∷ fs) ++ 10 ∷ []
text_joined f [] = refl
text_joined f (g ∷ fs) = ap (λ (t : List ℕ). f ++ 32 ∷ t) (text_joined g fs) ∙ sym (append_assoc f (32 ∷ joined (g ∷ fs)) (10 ∷ []))

-- also of a line without fields
text_joined_any : (l : Line) → line_text l ≡ joined l ++ 10 ∷ []
text_joined_any [] = refl
text_joined_any (f ∷ fs) = text_joined f fs

lacks_from : (mark : ℕ) → mark ≤ 32 → (f : List ℕ) → Clear f → Lacks mark f
lacks_from mark low [] h = tt
lacks_from mark low (b ∷ f) h = (ne_eqb b mark (λ (e : b ≡ mark). omega (arith, low, e, leb-true 33 b h.0)), lacks_from mark low f h.1)

lacks_append : (mark : ℕ) (f g : List ℕ) → Lacks mark f → Lacks mark g → Lacks mark (f ++ g)
lacks_append mark [] g h k = k
lacks_append mark (b ∷ f) g h k = (h.0, lacks_append mark f g h.1 k)

lacks_joined : (f : List ℕ) (fs : Line) → Clear f → AllByRecursion Clear fs → Lacks 10 (joined (f ∷ fs))
lacks_joined f [] h k = lacks_from 10 (omega arith) f h
lacks_joined f (g ∷ fs) h k = lacks_append 10 f (32 ∷ joined (g ∷ fs)) (lacks_from 10 (omega arith) f h) (refl, lacks_joined g fs k.0 k.1)

split_joined : (f : List ℕ) (fs : Line) → Clear f → AllByRecursion Clear fs → fields_of (joined (f ∷ fs)) ≡ f ∷ fs
split_joined f [] h k = slice_split_none (λ b. eqb b 32) f (All-from_recursion (λ b. eqb b 32 ≡ false) f (lacks_from 32 (omega arith) f h))
split_joined f (g ∷ fs) h k = slice_split_at (λ b. eqb b 32) f 32 (joined (g ∷ fs)) (All-from_recursion (λ b. eqb b 32 ≡ false) f (lacks_from 32 (omega arith) f h)) refl ∙ ap (λ (l : Line). f ∷ l) (split_joined g fs k.0 k.1)

-- ---- one line

-- what a line is read as is written so, and what is written so is read
pub record IsLine {A : Type 0} (of : Line → Result A Code) (line : A → Line) (Fit : A → Type 0) : Type 0 where
  pub takes : (l : Line) (x : A) → of l ≡ Ok x → (l ≡ line x) × Fit x
  pub again : (x : A) → Fit x → of (line x) ≡ Ok x
  pub plain : (x : A) → Fit x → IsPlain (line x)

-- the same of bytes
pub record IsRead {A : Type 0} (at : List ℕ → Read A) (text : A → List ℕ) (Fit : A → Type 0) : Type 0 where
  pub takes : (bytes : List ℕ) (x : A) (rest : List ℕ) → at bytes ≡ Ok (x, rest) → (bytes ≡ text x ++ rest) × Fit x
  pub again : (x : A) (rest : List ℕ) → Fit x → at (text x ++ rest) ≡ Ok (x, rest)

with_rest_ok : {A : Type 0} (bytes after : List ℕ) (r : Result A Code) (x : A) (rest : List ℕ) → with_rest bytes after r ≡ Ok (x, rest) → (r ≡ Ok x) × (after ≡ rest)
with_rest_ok {A} bytes after (Ok y) x rest e =
    let same = ok_is (y, after) (x, rest) e in
    let a : y ≡ x = ap (λ (p : A × List ℕ). p.0) same in
    let b : after ≡ rest = ap (λ (p : A × List ℕ). p.1) same in
    (ap Ok a, b)
with_rest_ok bytes after (Err c) x rest e = absurd cc

-- the line that was read, and where it stood
pub line_was : {A : Type 0} (of : Line → Result A Code) (bytes : List ℕ) (x : A) (rest : List ℕ) → line_at of bytes ≡ Ok (x, rest) → (l : Line) × (of l ≡ Ok x) × (bytes ≡ line_text l ++ rest)
unfolding line_at
line_was {A} of bytes x rest e = by_cut (cut_at 10 bytes) refl e
  where
    by_cut : (o : Option (List ℕ × List ℕ)) → cut_at 10 bytes ≡ o → first_line of bytes o ≡ Ok (x, rest) → (l : Line) × (of l ≡ Ok x) × (bytes ≡ line_text l ++ rest)
    by_cut None c e = absurd cc
    by_cut (Some p) c e =
        let w = with_rest_ok bytes p.1 (of (fields_of p.0)) x rest e in
        let back : joined (fields_of p.0) ≡ p.0 = join_with_byte-slice_split 32 p.0 in
        let whole : line_text (fields_of p.0) ++ rest ≡ p.0 ++ 10 ∷ rest = ap (λ (t : List ℕ). t ++ rest) (text_joined_any (fields_of p.0) ∙ ap (λ (t : List ℕ). t ++ 10 ∷ []) back) ∙ append_assoc p.0 (10 ∷ []) rest in
        (fields_of p.0, w.0, cut_takes 10 bytes p.0 p.1 c ∙ ap (λ (t : List ℕ). p.0 ++ 10 ∷ t) w.1 ∙ sym whole)

-- a plain line is read by its fields
pub line_again : {A : Type 0} (of : Line → Result A Code) (l : Line) (x : A) (rest : List ℕ) → IsPlain l → of l ≡ Ok x → line_at of (line_text l ++ rest) ≡ Ok (x, rest)
unfolding line_at
line_again of [] x rest plain e = absurd plain
line_again {A} of (f ∷ fs) x rest plain e =
    let text : line_text (f ∷ fs) ++ rest ≡ joined (f ∷ fs) ++ 10 ∷ rest = ap (λ (t : List ℕ). t ++ rest) (text_joined f fs) ∙ append_assoc (joined (f ∷ fs)) (10 ∷ []) rest in
    let cut : cut_at 10 (line_text (f ∷ fs) ++ rest) ≡ Some (joined (f ∷ fs), rest) = ap (cut_at 10) text ∙ cut_again 10 (joined (f ∷ fs)) rest (lacks_joined f fs plain.0 plain.1) in
    let bytes : List ℕ = line_text (f ∷ fs) ++ rest in
    ap (first_line of bytes) cut ∙ ap (λ (l : Line). with_rest bytes rest (of l)) (split_joined f fs plain.0 plain.1) ∙ ap (with_rest bytes rest) e

pub line_read : {A : Type 0} (of : Line → Result A Code) (line : A → Line) (Fit : A → Type 0) → IsLine of line Fit → IsRead (line_at of) (λ x. line_text (line x)) Fit
line_read {A} of line Fit r = record {
  takes = λ bytes x rest e.
      let w = line_was of bytes x rest e in
      let t = r.takes w.0 x w.1 in
      (w.2 ∙ ap (λ (l : Line). line_text l ++ rest) t.0, t.1);
  again = λ x rest h. line_again of (line x) x rest (r.plain x h) (r.again x h);
}

-- ---- several values

pub many_takes : {A : Type 0} (at : List ℕ → Read A) (text : A → List ℕ) (Fit : A → Type 0) → IsRead at text Fit → (n : ℕ) (bytes : List ℕ) (xs : List A) (rest : List ℕ) → many_at at n bytes ≡ Ok (xs, rest)
    → (bytes ≡ flat_map text xs ++ rest) × (length xs ≡ n) × AllByRecursion Fit xs
many_takes {A} at text Fit r zero bytes xs rest e =
    subst (λ (y : List A × List ℕ). (bytes ≡ flat_map text y.0 ++ y.1) × (length y.0 ≡ 0) × AllByRecursion Fit y.0) (ok_is ([], bytes) (xs, rest) e) (refl, refl, tt)
many_takes {A} at text Fit r (suc n) bytes xs rest e =
    let a = ok_step e in
    let b = ok_step a.2 in
    let one = r.takes bytes a.0.0 a.0.1 a.1 in
    let more = many_takes at text Fit r n a.0.1 b.0.0 b.0.1 b.1 in
    subst (λ (y : List A × List ℕ). (bytes ≡ flat_map text y.0 ++ y.1) × (length y.0 ≡ suc n) × AllByRecursion Fit y.0) (ok_is (a.0.0 ∷ b.0.0, b.0.1) (xs, rest) b.2)
    (one.0 ∙ ap (λ (t : List ℕ). text a.0.0 ++ t) more.0 ∙ sym (append_assoc (text a.0.0) (flat_map text b.0.0) b.0.1), ap suc more.1, (one.1, more.2))

pub many_again : {A : Type 0} (at : List ℕ → Read A) (text : A → List ℕ) (Fit : A → Type 0) → IsRead at text Fit → (xs : List A) (rest : List ℕ) → AllByRecursion Fit xs → many_at at (length xs) (flat_map text xs ++ rest) ≡ Ok (xs, rest)
many_again at text Fit r [] rest h = refl
many_again at text Fit r (x ∷ xs) rest h =
    ap (many_at at (suc (length xs))) (append_assoc (text x) (flat_map text xs) rest) ∙ rw (r.again x (flat_map text xs ++ rest) h.0, many_again at text Fit r xs rest h.1) refl

-- ---- lines of lines

pub text_of_each : {A : Type 0} (lines : A → List Line) (xs : List A) → text_of (flat_map lines xs) ≡ flat_map (λ x. text_of (lines x)) xs
text_of_each lines [] = refl
text_of_each lines (x ∷ xs) = flat_map-append line_text (lines x) (flat_map lines xs) ∙ ap (λ (t : List ℕ). text_of (lines x) ++ t) (text_of_each lines xs)
