-- What a whole text says, form by form, and what that means: forms and meanings are refused in the order of the tokens.
use Rattle.std.specs.Prelude.{ℕ, Bool, List, [], ◌∷◌, ◌++◌, Option, Some, None, Result, Ok, Err}
use Rattle.xt_model.specs.Results.{◌>>=◌}
use Rattle.text_forms.specs.Forms.{Token, Form, Refusal, Misfits, agree, at_line, whole_or}

-- the forms of a text one after another, up to its end or to the first token that does not fit
pub data Reading (Item Code : Type 0) : Type 0 where
  Ends : Reading Item Code
  Refuses : Refusal Code → Reading Item Code
  Yields : Item → ℕ → Reading Item Code → Reading Item Code

module _ {Slot Sort Item Context : Type 0} (forms : Context → Option (List (Form Slot Sort Item Context))) where
  -- the forms that may come behind a whole form
  abbrev pub behind : List (Form Slot Sort Item Context) → Option (List (Form Slot Sort Item Context))
  behind [] = None
  behind (f ∷ fs) = forms f.next

module _ {Slot Sort Item Context Code : Type 0} (misfits : Misfits Sort Code) where
  -- what the forms that agree with the tokens so far make of the text: a whole one yields an item, and the text goes on
  -- with the next form
  abbrev pub go_on : List (Form Slot Sort Item Context) → Token Sort → List (Token Sort)
      → Reading Item Code → Reading Item Code → Reading Item Code
  go_on [] t read next more = Refuses (record { line = t.line; code = misfits.token t.sort })
  go_on (f ∷ fs) t read next more = whole_or f.slots (Yields (f.item read) t.line next) more

module _ {Slot Sort Item Context Code : Type 0} (fits : Slot → Sort → Bool) (misfits : Misfits Sort Code)
    (forms : Context → Option (List (Form Slot Sort Item Context))) where
  -- the reading of the tokens, behind those that were read of a form; where no form may come, the text is at its end
  abbrev pub reading : Option (List (Form Slot Sort Item Context)) → List (Token Sort) → List (Token Sort)
      → Reading Item Code
  reading None read [] = Ends
  reading None read (t ∷ ts) = Refuses (record { line = t.line; code = misfits.token t.sort })
  reading (Some fs) read [] = Refuses (record { line = misfits.last; code = misfits.early })
  reading (Some fs) read (t ∷ ts) = go_on misfits (agree fits t.sort fs) t (read ++ t ∷ [])
      (reading (behind forms (agree fits t.sort fs)) [] ts)
      (reading (Some (agree fits t.sort fs)) (read ++ t ∷ []) ts)

module _ {Item State Code : Type 0} (step : Item → State → Result State Code) where
  -- what a reading means, from a state on: each item in turn changes the state, or is refused at its last token; the
  -- first refusal of either kind counts
  abbrev pub meaning : Reading Item Code → State → Result State (Refusal Code)
  meaning Ends s = Ok s
  meaning (Refuses r) s = Err r
  meaning (Yields item line more) s = at_line line (step item s) >>= meaning more

module _ {Slot Sort Item Context State Code : Type 0} (fits : Slot → Sort → Bool) (misfits : Misfits Sort Code)
    (forms : Context → Option (List (Form Slot Sort Item Context))) (step : Item → State → Result State Code) where
  -- what the tokens mean in a context, from a state on
  unfoldable pub text_means : Context → List (Token Sort) → State → Result State (Refusal Code)
  text_means context ts s = meaning step (reading fits misfits forms (forms context) [] ts) s
