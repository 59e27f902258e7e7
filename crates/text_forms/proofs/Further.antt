-- At the end of a text there is its state; a token behind the end refuses it.
use Rattle.std.specs.Prelude.{◌≡◌, refl, Bool, true, List, [], ◌∷◌, None, Result, Ok, Err}
use Rattle.std.proofs.Common.{sym, ◌∙◌}
use Rattle.xt_model.specs.declared.code.Code.{Code}
use Rattle.text_forms.specs.Forms.{Token, Form, Refusal}
use Rattle.text_forms.specs.Meaning.{text_means}
use Rattle.text_forms.specs.Misfits.{misfits_by, IsFurther}
use Rattle.text_forms.specs.Reader.{forms_by, rest_by}
use Rattle.text_forms.specs.Refusals.{Meant}

module _ {Slot Sort Item Context State : Type 0} (fits : Slot → Sort → Bool) (misfit : Sort → Code) (end : Sort)
    (is_end : Context → Bool) (forms_in : Context → List (Form Slot Sort Item Context))
    (step : Item → State → Result State Code) where
  abbrev rest : Context → List (Token Sort) → State → Meant State
  rest = rest_by fits (misfits_by misfit end) is_end forms_in step

  no_forms : (context : Context) → is_end context ≡ true → forms_by is_end forms_in context ≡ None
  no_forms context e = rw e refl

  pub text_ended : (context : Context) (ts : List (Token Sort)) (s : State) (whole : Meant State)
      → is_end context ≡ true → ts ≡ [] → rest context ts s ≡ whole → whole ≡ Ok s
  unfolding text_means
  text_ended context [] s whole e h m = sym m ∙ rw (no_forms context e) refl
  text_ended context (t ∷ ts) s whole e h m = absurd (cc)

  pub further_refuses : (context : Context) (ts : List (Token Sort)) (s : State) (r : Refusal Code) (whole : Meant State)
      → is_end context ≡ true → IsFurther r misfit end ts → rest context ts s ≡ whole → whole ≡ Err r
  unfolding text_means
  further_refuses context [] s r whole e h m = absurd h
  further_refuses context (t ∷ ts) s r whole e h m = sym m ∙ rw (no_forms context e, h) refl
