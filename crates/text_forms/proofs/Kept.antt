-- A fact of the states of a text that each form keeps is kept by the whole text.
use Rattle.std.specs.Prelude.{◌≡◌, refl, ℕ, Bool, true, false, if◌then◌else◌, List, [], ◌∷◌, ◌++◌, Option, Some, None, Result, Ok, Err, IfOk}
use Rattle.std.specs.List.{AllByRecursion}
use Rattle.std.proofs.Common.{ap, subst, ◌∙◌}
use Rattle.text_forms.specs.Forms.{Token, Form, Refusal, Misfits, agree, agree_one, at_line, whole_or}
use Rattle.text_forms.specs.Reader.{forms_by, rest_by}
use Rattle.text_forms.specs.Tokens.{token_by, end_at, tokens_to_end}
use Rattle.xt_lex.specs.Tokens.{TokenText}
use Rattle.xt_lex.specs.declared.token.Kind.{Kind}
use Rattle.text_forms.specs.Refusals.{Meant, unless}
use Rattle.text_forms.specs.Meaning.{Reading, Yields, behind, go_on, reading, meaning, text_means}
use Rattle.text_forms.specs.Stops.{IsRefusal}
use Rattle.xt_lex.specs.declared.text_fault.TextFault.{TextFault}
use Rattle.xt_lex.specs.declared.text_fault.TextFault.TheVariants.{Refused, NoMemory}
use Rattle.xt_model.specs.Results.{◌>>=◌}
use Rattle.xt_model.specs.declared.code.Code.{Code}

-- what is true of a value that is not refused
pub kept : {S C : Type 0} (P : S → Type 0) {s s' : S} → ◌≡◌ {A = Result S C} (Ok s) (Ok s') → P s → P s'
kept P {s} {s'} e p = let same : s ≡ s' = cc in subst P same p

-- what is true of a value that is made of another one, where neither is refused
pub through : {A B C : Type 0} (P : A → Type 0) (Q : B → Type 0) (f : Result A C → Result B C) → ((c : C) → IfOk (f (Err c)) Q)
    → ((x : A) → P x → IfOk (f (Ok x)) Q) → (r : Result A C) → IfOk r P → IfOk (f r) Q
through P Q f e k (Ok x) p = k x p
through P Q f e k (Err c) p = e c

-- what each value that is there makes true
pub if_ok : {S C : Type 0} (P : S → Type 0) (r : Result S C) → ((s : S) → r ≡ Ok s → P s) → IfOk r P
if_ok P (Ok s) f = f s refl
if_ok P (Err c) f = tt

-- a value that a test alone can refuse
module _ {S C : Type 0} (P : S → Type 0) {s : S} where
  pub passed_unless : (b : Bool) (c : C) → P s → IfOk (if b then Err c else Ok s) P
  passed_unless true c p = tt
  passed_unless false c p = p

  pub passed_if : (b : Bool) (c : C) → P s → IfOk (if b then Ok s else Err c) P
  passed_if true c p = p
  passed_if false c p = tt

module _ {Slot Sort Item Context State : Type 0} (fits : Slot → Sort → Bool) (misfits : Misfits Sort Code)
    (is_end : Context → Bool) (forms_in : Context → List (Form Slot Sort Item Context)) (step : Item → State → Result State Code)
    (P : Token Sort → Type 0) (Inv : Context → State → Type 0) where
  abbrev forms : Context → Option (List (Form Slot Sort Item Context))
  forms = forms_by is_end forms_in

  -- what is left of a form leaves the fact that the next context wants, whatever tokens fit
  abbrev pub SlotsKeep : Context → (List (Token Sort) → Item) → Context → List Slot → List (Token Sort) → Type 0
  SlotsKeep context item next [] read = (s : State) → Inv context s → IfOk (step (item read) s) (Inv next)
  SlotsKeep context item next (slot ∷ slots) read =
      (t : Token Sort) → (fits slot t.sort ≡ true) × P t → SlotsKeep context item next slots (read ++ t ∷ [])

  abbrev pub FormKeeps : Context → List (Token Sort) → Form Slot Sort Item Context → Type 0
  FormKeeps context read f = SlotsKeep context f.item f.next f.slots read

  abbrev FormsKeep : Context → List (Token Sort) → List (Form Slot Sort Item Context) → Type 0
  FormsKeep context read fs = AllByRecursion (FormKeeps context read) fs

  -- the fact at the end of a text
  abbrev pub HoldsAtEnd : State → Type 0
  HoldsAtEnd s = (context : Context) × (is_end context ≡ true) × Inv context s

  abbrev EndsWell : Reading Item Code → State → Type 0
  EndsWell r s = IfOk (meaning step r s) HoldsAtEnd

  module _ (context : Context) (read : List (Token Sort)) (t : Token Sort) (p : P t) where
    agreed_one : (slots : List Slot) (f : Form Slot Sort Item Context) (more : List (Form Slot Sort Item Context))
        → SlotsKeep context f.item f.next slots read → FormsKeep context (read ++ t ∷ []) more
        → FormsKeep context (read ++ t ∷ []) (agree_one fits t.sort slots f more)
    agreed_one [] f more k m = m
    agreed_one (slot ∷ slots) f more k m = by (fits slot t.sort) refl
      where
        by : (b : Bool) → fits slot t.sort ≡ b → FormsKeep context (read ++ t ∷ []) (if b then record f { slots = slots } ∷ more else more)
        by true e = (k t (e, p), m)
        by false e = m

    agreed : (fs : List (Form Slot Sort Item Context)) → FormsKeep context read fs → FormsKeep context (read ++ t ∷ []) (agree fits t.sort fs)
    agreed [] k = tt
    agreed (f ∷ fs) k = agreed_one f.slots f (agree fits t.sort fs) k.0 (agreed fs k.1)

  module _ (keep : (context : Context) → FormsKeep context [] (forms_in context)) where
    -- in the middle of a form
    abbrev Goes : List (Token Sort) → Type 0
    Goes ts = (context : Context) (fs : List (Form Slot Sort Item Context)) (read : List (Token Sort)) (s : State)
        → FormsKeep context read fs → Inv context s → EndsWell (reading fits misfits forms (Some fs) read ts) s

    -- where a form may begin
    starts : (b : Bool) (context : Context) (ts : List (Token Sort)) (s : State) → is_end context ≡ b → Goes ts → Inv context s
        → EndsWell (reading fits misfits forms (if b then None else Some (forms_in context)) [] ts) s
    starts true context [] s e go i = (context, e, i)
    starts true context (t ∷ ts) s e go i = tt
    starts false context ts s e go i = go context (forms_in context) [] s (keep context) i

    goes_on : (r : Result State Code) (line : ℕ) (ts : List (Token Sort)) (next : Context) → Goes ts → IfOk r (Inv next)
        → IfOk (at_line line r >>= meaning step (reading fits misfits forms (forms next) [] ts)) HoldsAtEnd
    goes_on (Err code) line ts next go i = tt
    goes_on (Ok s) line ts next go i = starts (is_end next) next ts s refl go i

    decided : (gs : List (Form Slot Sort Item Context)) (t : Token Sort) (read ts : List (Token Sort)) (context : Context) (s : State)
        → Goes ts → FormsKeep context read gs → Inv context s
        → EndsWell (go_on misfits gs t read (reading fits misfits forms (behind forms gs) [] ts) (reading fits misfits forms (Some gs) read ts)) s
    decided [] t read ts context s go all i = tt
    decided (g ∷ gs) t read ts context s go all i = whole g.slots all.0
      where
        whole : (slots : List Slot) → SlotsKeep context g.item g.next slots read
            → EndsWell (whole_or slots (Yields (g.item read) t.line (reading fits misfits forms (forms g.next) [] ts)) (reading fits misfits forms (Some (g ∷ gs)) read ts)) s
        whole [] one = goes_on (step (g.item read) s) t.line ts g.next go (one s i)
        whole (slot ∷ slots) one = go context (g ∷ gs) read s all i

    goes : (ts : List (Token Sort)) → AllByRecursion P ts → Goes ts
    goes [] ps context fs read s all i = tt
    goes (t ∷ ts) ps context fs read s all i =
        decided (agree fits t.sort fs) t (read ++ t ∷ []) ts context s (goes ts ps.1) (agreed context read t ps.0 fs all) i

    -- the fact is true behind a whole text that means something
    pub rest_keeps : (context : Context) (ts : List (Token Sort)) (s : State) → AllByRecursion P ts → Inv context s
        → IfOk (rest_by fits misfits is_end forms_in step context ts s) HoldsAtEnd
    unfolding text_means
    rest_keeps context ts s ps i = starts (is_end context) context ts s refl (goes ts ps) i

-- ---- the tokens of a text
module _ {Sort : Type 0} (sort_by : Kind → List ℕ → Sort) (end : Sort) (P : Token Sort → Type 0) where
  -- what is true of the tokens and of the end is true of all
  pub each_token : (last : ℕ) (ts : List TokenText) → P (end_at sort_by end last)
      → AllByRecursion (λ t. P (token_by sort_by end t.kind t)) ts → AllByRecursion P (tokens_to_end sort_by end false last ts)
  each_token last [] e each = (e, tt)
  each_token last (t ∷ ts) e each = (each.0, each_token last ts e each.1)

-- the tokens of a text that means something have no fault
pub not_refused : {A : Type 0} (o : Option (Refusal Code)) (meant : Meant A) (x : A) → unless o meant ≡ Ok x → meant ≡ Ok x
not_refused (Some r) meant x e = absurd (cc)
not_refused None meant x e = e

-- what is true of a value that is not refused is true of that of a text whose tokens may be
pub kept_unless : {A : Type 0} (P : A → Type 0) (o : Option (Refusal Code)) (meant : Meant A) → IfOk meant P → IfOk (unless o meant) P
kept_unless P (Some r) meant h = tt
kept_unless P None meant h = h

-- what stops the reading of a text refuses what is made of it
pub refused_by : {A B : Type 0} (f : Meant A → Meant B) → ((r : Refusal Code) → f (Err r) ≡ Err r) → (fault : TextFault) (meant : Meant A)
    → IsRefusal fault meant → IsRefusal fault (f meant)
refused_by f e NoMemory meant h = tt
refused_by f e (Refused line code) meant h = ap f h ∙ e _
