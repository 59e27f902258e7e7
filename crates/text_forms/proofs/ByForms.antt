-- A text is read form by form: its reading is that of its first form, and then that of the tokens behind it.
use Rattle.std.specs.Prelude.{◌≡◌, refl, ℕ, ◌<◌, ◌≤◌, Bool, false, if◌then◌else◌, List, [], ◌∷◌, ◌++◌, length, Option, Some, None, Result, Ok, Err, IfOk}
use Rattle.std.proofs.Common.{arith, ap, ◌∙◌}
use Rattle.std.proofs.lemmas.Result.{IfOk-at_ok}
use Rattle.text_forms.specs.Forms.{Token, Form, Whole, Refusal, Misfits, agree, at_line, decide, whole_or, form_at}
use Rattle.text_forms.specs.Meaning.{Reading, Refuses, Yields, behind, go_on, reading, meaning, text_means}
use Rattle.text_forms.specs.Stops.{Stops, IsRefusal, fault_at}
use Rattle.text_forms.specs.declared.stop.Stop.{Stop}
use Rattle.text_forms.specs.declared.stop.Stop.TheVariants.{Refused, NoMemory}
use Rattle.xt_model.specs.Results.{◌>>=◌}
use Rattle.xt_model.specs.declared.code.Code as model

-- ---- one form of a text

module _ {Slot Sort Item Context Code : Type 0} (fits : Slot → Sort → Bool) (misfits : Misfits Sort Code)
    (forms : Context → Option (List (Form Slot Sort Item Context))) where
  -- a whole form, and the tokens behind it
  abbrev pub Found : Type 0
  Found = Whole Item Context × List (Token Sort)

  -- the reading of a text by its first form: that form and the reading of the tokens behind it, or the refusal
  abbrev pub read_by : Result Found (Refusal Code) → Reading Item Code
  read_by (Ok w) = Yields w.0.item w.0.line (reading fits misfits forms (forms w.0.next) [] w.1)
  read_by (Err r) = Refuses r

  -- a form that is whole, or one that asks for more, is read as `form_at` and as `reading` alike
  decided : (gs : List (Form Slot Sort Item Context)) (t : Token Sort) (read ts : List (Token Sort))
      → (form : Result Found (Refusal Code)) (more : Reading Item Code) → more ≡ read_by form
      → go_on misfits gs t read (reading fits misfits forms (behind forms gs) [] ts) more ≡ read_by (decide misfits gs t read ts form)
  decided [] t read ts form more h = refl
  decided (g ∷ gs) t read ts form more h = whole g.slots
    where
      whole : (slots : List Slot) → whole_or slots (Yields (g.item read) t.line (reading fits misfits forms (forms g.next) [] ts)) more
          ≡ read_by (whole_or slots (Ok (record { item = g.item read; line = t.line; next = g.next }, ts)) form)
      whole [] = refl
      whole (slot ∷ slots) = h

  pub reading_by : (fs : List (Form Slot Sort Item Context)) (read ts : List (Token Sort))
      → reading fits misfits forms (Some fs) read ts ≡ read_by (form_at fits misfits fs read ts)
  reading_by fs read [] = refl
  reading_by fs read (t ∷ ts) =
      decided (agree fits t.sort fs) t (read ++ t ∷ []) ts _ _ (reading_by (agree fits t.sort fs) (read ++ t ∷ []) ts)

-- ---- the meaning of a text, form by form, where each context but the end has its forms

module _ {Slot Sort Item Context State Code : Type 0} (fits : Slot → Sort → Bool) (misfits : Misfits Sort Code)
    (is_end : Context → Bool) (forms_in : Context → List (Form Slot Sort Item Context))
    (step : Item → State → Result State Code) where
  abbrev forms : Context → Option (List (Form Slot Sort Item Context))
  forms context = if is_end context then None else Some (forms_in context)

  abbrev means : Context → List (Token Sort) → State → Result State (Refusal Code)
  means = text_means fits misfits forms step

  -- a text that is not at its end, by its first form
  by_first : (context : Context) (ts : List (Token Sort)) (s : State) → is_end context ≡ false
      → means context ts s ≡ meaning step (read_by fits misfits forms (form_at fits misfits (forms_in context) [] ts)) s
  unfolding text_means
  by_first context ts s more =
      let here : forms context ≡ Some (forms_in context) = rw more refl in
      rw (here, reading_by fits misfits forms (forms_in context) [] ts) refl

  -- a form that is read: what it means, and then what comes behind it
  pub by_form : (context : Context) (ts : List (Token Sort)) (s : State) (w : Whole Item Context) (rest : List (Token Sort))
      → is_end context ≡ false → form_at fits misfits (forms_in context) [] ts ≡ Ok (w, rest)
      → means context ts s ≡ (at_line w.line (step w.item s) >>= means w.next rest)
  unfolding text_means
  by_form context ts s w rest more read = by_first context ts s more ∙ ap (λ f. meaning step (read_by fits misfits forms f) s) read

  -- a form that means something: the text goes on behind it
  pub goes_on : (context : Context) (ts : List (Token Sort)) (s next : State) (w : Whole Item Context) (rest : List (Token Sort))
      → is_end context ≡ false → form_at fits misfits (forms_in context) [] ts ≡ Ok (w, rest) → step w.item s ≡ Ok next
      → means context ts s ≡ means w.next rest next
  goes_on context ts s next w rest more read meant =
      by_form context ts s w rest more read ∙ ap (λ r. at_line w.line r >>= means w.next rest) meant

  -- a form that is refused
  pub form_refused : (context : Context) (ts : List (Token Sort)) (s : State) (r : Refusal Code)
      → is_end context ≡ false → form_at fits misfits (forms_in context) [] ts ≡ Err r → means context ts s ≡ Err r
  form_refused context ts s r more read = by_first context ts s more ∙ ap (λ f. meaning step (read_by fits misfits forms f) s) read

-- what stops the meaning of a form stops the text at its last token
module _ {Slot Sort Item Context State : Type 0} (fits : Slot → Sort → Bool) (misfits : Misfits Sort model.Code)
    (is_end : Context → Bool) (forms_in : Context → List (Form Slot Sort Item Context))
    (step : Item → State → Result State model.Code) where
  pub stops_text : (context : Context) (ts : List (Token Sort)) (s : State) (w : Whole Item Context) (rest : List (Token Sort)) (stop : Stop)
      → is_end context ≡ false → form_at fits misfits (forms_in context) [] ts ≡ Ok (w, rest) → Stops stop (step w.item s)
      → IsRefusal (fault_at w.line stop) (means fits misfits is_end forms_in step context ts s)
  stops_text context ts s w rest NoMemory more read h = tt
  stops_text context ts s w rest (Refused code) more read h =
      by_form fits misfits is_end forms_in step context ts s w rest more read
      ∙ ap (λ r. at_line w.line r >>= means fits misfits is_end forms_in step w.next rest) h

-- a form that was read has a token, so fewer tokens are left
module _ {Slot Sort Item Context Code : Type 0} (fits : Slot → Sort → Bool) (misfits : Misfits Sort Code) where
  abbrev Fewer : ℕ → Result (Whole Item Context × List (Token Sort)) (Refusal Code) → Type 0
  Fewer n r = IfOk r (λ w. length w.1 < n)

  fewer_decided : (n : ℕ) (gs : List (Form Slot Sort Item Context)) (t : Token Sort) (read ts : List (Token Sort))
      (more : Result (Whole Item Context × List (Token Sort)) (Refusal Code)) → length ts < n → Fewer n more
      → Fewer n (decide misfits gs t read ts more)
  fewer_decided n [] t read ts more lt h = tt
  fewer_decided n (g ∷ gs) t read ts more lt h = whole g.slots
    where
      whole : (slots : List Slot) → Fewer n (whole_or slots (Ok (record { item = g.item read; line = t.line; next = g.next }, ts)) more)
      whole [] = lt
      whole (slot ∷ slots) = h

  fewer_left : (n : ℕ) (fs : List (Form Slot Sort Item Context)) (read ts : List (Token Sort)) → length ts ≤ n
      → Fewer n (form_at fits misfits fs read ts)
  fewer_left n fs read [] le = tt
  fewer_left n fs read (t ∷ ts) le =
      fewer_decided n (agree fits t.sort fs) t (read ++ t ∷ []) ts _ (omega (arith, le))
      (fewer_left n (agree fits t.sort fs) (read ++ t ∷ []) ts (omega (arith, le)))

  pub fewer_tokens : (fs : List (Form Slot Sort Item Context)) (read ts : List (Token Sort))
      → (w : Whole Item Context) (rest : List (Token Sort)) → form_at fits misfits fs read ts ≡ Ok (w, rest) → length rest < length ts
  fewer_tokens fs read ts w rest e = IfOk-at_ok (λ x. length x.1 < length ts) e (fewer_left (length ts) fs read ts (omega arith))
