-- The refusal of a token that does not fit.
use Rattle.std.specs.Prelude.{◌≡◌, Bool, false, List, [], ◌∷◌}
use Rattle.xt_model.specs.declared.code.Code.{Code}
use Rattle.text_forms.specs.Forms.{Token, Refusal, Misfits}

module _ {Sort : Type 0} (misfit : Sort → Code) where
  -- the token does not fit
  abbrev pub refusal_of_token : Token Sort → Refusal Code
  refusal_of_token t = record { line = t.line; code = misfit t.sort }

  -- the next token does not fit; the end of a text is a token of its own, so that no text lacks one
  abbrev pub refusal_at : Sort → List (Token Sort) → Refusal Code
  refusal_at end [] = record { line = 1; code = misfit end }
  refusal_at end (t ∷ ts) = refusal_of_token t

  -- tokens that do not fit, by their sorts, of which one is that of the text's end
  abbrev pub misfits_by : Sort → Misfits Sort Code
  misfits_by end = record { token = misfit; early = misfit end; last = 1 }

-- there is a next token, but of another sort
abbrev pub IsOther : {Sort : Type 0} → (Sort → Sort → Bool) → Sort → List (Token Sort) → Type 0
IsOther same sort [] = Unit {0}
IsOther same sort (t ∷ ts) = same sort t.sort ≡ false

-- the refusal is that of a further token, which does not fit
abbrev pub IsFurther : {Sort : Type 0} → Refusal Code → (Sort → Code) → Sort → List (Token Sort) → Type 0
IsFurther r misfit end [] = ⊥
IsFurther r misfit end (t ∷ ts) = r ≡ refusal_of_token misfit t
