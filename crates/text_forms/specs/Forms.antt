-- The grammar of a text as tables of forms. A context says what may come next: each of its forms is a list of slots,
-- one for each token. A token does not fit where no form that agrees with the tokens before it has a slot for it next.
-- No form of a context is the beginning of another.
use Rattle.std.specs.Prelude.{ℕ, zero, suc, Bool, List, [], ◌∷◌, ◌++◌, Result, Ok, Err, if◌then◌else◌}

-- a token as a reader sees it: its sort, its bytes, and the place and the line of its first byte
pub record Token (Sort : Type 0) : Type 0 where
  pub sort : Sort
  pub text : List ℕ
  pub from : ℕ
  pub line : ℕ

-- the bytes and the line of one of some tokens, counted from 0
module _ {Sort : Type 0} where
  abbrev pub text_at : ℕ → List (Token Sort) → List ℕ
  text_at n [] = []
  text_at zero (t ∷ ts) = t.text
  text_at (suc n) (t ∷ ts) = text_at n ts

  abbrev pub line_at : ℕ → List (Token Sort) → ℕ
  line_at n [] = 0
  line_at zero (t ∷ ts) = t.line
  line_at (suc n) (t ∷ ts) = line_at n ts

-- a form: a slot for each of its tokens, the item that these give, and where the text goes on
pub record Form (Slot Sort Item Context : Type 0) : Type 0 where
  pub slots : List Slot
  pub item : List (Token Sort) → Item
  pub next : Context

-- a form that was read whole: its item, the line of its last token, and where the text goes on
pub record Whole (Item Context : Type 0) : Type 0 where
  pub item : Item
  pub line : ℕ
  pub next : Context

-- why a text is refused, and at which line
pub record Refusal (Code : Type 0) : Type 0 where
  pub line : ℕ
  pub code : Code

-- what is refused by a code is refused at this line
abbrev pub at_line : {A Code : Type 0} → ℕ → Result A Code → Result A (Refusal Code)
at_line line (Ok x) = Ok x
at_line line (Err code) = Err (record { line = line; code = code })

-- the codes of a format for a token that does not fit, by its sort, and for a text that ends too early, which is
-- refused at its last line
pub record Misfits (Sort Code : Type 0) : Type 0 where
  pub token : Sort → Code
  pub early : Code
  pub last : ℕ

module _ {Slot Sort Item Context : Type 0} (fits : Slot → Sort → Bool) where
  -- the form behind its first slot, where that fits the token
  abbrev pub agree_one : Sort → List Slot → Form Slot Sort Item Context
      → List (Form Slot Sort Item Context) → List (Form Slot Sort Item Context)
  agree_one s [] f more = more
  agree_one s (slot ∷ slots) f more = if fits slot s then record f { slots = slots } ∷ more else more

  -- the forms that agree with the token, each behind it
  abbrev pub agree : Sort → List (Form Slot Sort Item Context) → List (Form Slot Sort Item Context)
  agree s [] = []
  agree s (f ∷ fs) = agree_one s f.slots f (agree s fs)

-- a form without a further slot is whole; another asks for more
abbrev pub whole_or : {Slot A : Type 0} → List Slot → A → A → A
whole_or [] whole more = whole
whole_or (slot ∷ slots) whole more = more

module _ {Slot Sort Item Context Code : Type 0} (misfits : Misfits Sort Code) where
  -- what the forms that agree with the tokens so far make of them
  abbrev pub decide : List (Form Slot Sort Item Context) → Token Sort → List (Token Sort) → List (Token Sort)
      → Result (Whole Item Context × List (Token Sort)) (Refusal Code)
      → Result (Whole Item Context × List (Token Sort)) (Refusal Code)
  decide [] t read rest more = Err (record { line = t.line; code = misfits.token t.sort })
  decide (f ∷ fs) t read rest more =
      whole_or f.slots (Ok (record { item = f.item read; line = t.line; next = f.next }, rest)) more

module _ {Slot Sort Item Context Code : Type 0} (fits : Slot → Sort → Bool) (misfits : Misfits Sort Code) where
  -- the first form of the tokens, behind those that were read of it, and the tokens behind it
  abbrev pub form_at : List (Form Slot Sort Item Context) → List (Token Sort) → List (Token Sort)
      → Result (Whole Item Context × List (Token Sort)) (Refusal Code)
  form_at fs read [] = Err (record { line = misfits.last; code = misfits.early })
  form_at fs read (t ∷ ts) = decide misfits (agree fits t.sort fs) t (read ++ t ∷ []) ts
      (form_at (agree fits t.sort fs) (read ++ t ∷ []) ts)
