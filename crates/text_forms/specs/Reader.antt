-- A reader that reads a text form by form: what its forms are to its grammar, and what a text means by them.
use Rattle.std.specs.Prelude.{Bool, List, Option, Some, None, if◌then◌else◌, Result}
use Rattle.xt_model.specs.declared.code.Code.{Code}
use Rattle.text_forms.specs.Forms.{Token, Form, Whole, Misfits}
use Rattle.text_forms.specs.Meaning.{text_means}
use Rattle.text_forms.specs.Refusals.{Meant}
use Rattle.text_forms.specs.declared.form_read.FormRead.{FormRead}

-- a form that was read, its item as the grammar has it
abbrev pub whole_of : {A Item Context : Type 0} → (A → Item) → FormRead A Context → Whole Item Context
whole_of item_of r = record { item = item_of r.item; line = r.line; next = r.next }

-- the forms of each context but that of the end
abbrev pub forms_by : {A Context : Type 0} → (Context → Bool) → (Context → A) → Context → Option A
forms_by is_end forms_in context = if is_end context then None else Some (forms_in context)

-- what some tokens mean in a context, from a state on
abbrev pub rest_by : {Slot Sort Item Context State : Type 0} → (Slot → Sort → Bool) → Misfits Sort Code
    → (Context → Bool) → (Context → List (Form Slot Sort Item Context)) → (Item → State → Result State Code)
    → Context → List (Token Sort) → State → Meant State
rest_by fits misfits is_end forms_in means context ts s =
    text_means fits misfits (forms_by is_end forms_in) means context ts s
