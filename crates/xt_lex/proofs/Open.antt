-- Which bytes a piece needs that nothing closes, and where none is left.
use Rattle.std.proofs.Common.{◌≡◌, ℕ, zero, suc, ◌+◌, ◌-◌, ◌≤◌, Bool, true, false, ◌&&◌, ◌||◌, not, List, [], ◌∷◌, length, drop, cond, ◌==◌, sym, ap, subst, ◌∙◌, refl, arith, add-one}
use Rattle.std.proofs.lemmas.List.{drop-drop}
use Rattle.std.proofs.lemmas.Bool.{false≢true, and_parts, or_parts, false_from_ne_true}
use Rattle.std.proofs.lemmas.Bool.Decides.{nat_tests}
use Rattle.std.specs.List.{list_any}
use Rattle.std.specs.Char.{is_ascii_graphic, is_ascii_digit}
use Rattle.memchr.specs.Find.{Nowhere, Passes, is_byte2}
use Rattle.xt_lex.specs.declared.front.Front.{Front}
use Rattle.xt_lex.specs.declared.rules.Rules.{Rules}
use Rattle.xt_lex.specs.declared.rules.Rules.TheVariants.{Liberty, Verilog, Spef, Sdc}
use Rattle.xt_lex.specs.Bytes.{is_newline, is_blank, is_white, begins}
use Rattle.xt_lex.specs.Liberty.{is_liberty_mark, liberty_front}
use Rattle.xt_lex.specs.Verilog.{begins_name, is_constant, verilog_front}
use Rattle.xt_lex.specs.Spef.{spef_front}
use Rattle.xt_lex.specs.Sdc.{sdc_front}
use Rattle.xt_lex.specs.Openings.{openings, is_opening}
use Rattle.xt_lex.specs.Pieces.{front_of, pieces_from, pieces_of}
use Rattle.xt_lex.specs.Faults.{is_unclosed, any_unclosed}

abbrev IsClosed : Front → Type 0
IsClosed front = is_unclosed front.class ≡ false

by_test : (t : Bool) (f g : Front) → (t ≡ true → IsClosed f) → (t ≡ false → IsClosed g) → IsClosed (cond t f g)
by_test true f g h k = h refl
by_test false f g h k = k refl

-- bytes that pass no test do not begin with one that passes it
not_first : (test : ℕ → Bool) (a b : ℕ) (more : List ℕ) → test a ≡ true → list_any test (b ∷ more) ≡ false → (b == a) ≡ true → ⊥
not_first test a b more e h f =
    let k : b ≡ a = grind (arith, nat_tests) in
    false≢true (sym (or_parts (test b) (list_any test more) h).0 ∙ (ap test k ∙ e))

not_second : (test : ℕ → Bool) (a b : ℕ) (more : List ℕ) → test a ≡ true → list_any test (b ∷ more) ≡ false → begins a more ≡ true → ⊥
not_second test a b [] e h f = false≢true f
not_second test a b (c ∷ more) e h f = not_first test a c more e (or_parts (test b) (list_any test (c ∷ more)) h).1 f

liberty_closed : (b : ℕ) (more : List ℕ) → list_any (is_opening Liberty) (b ∷ more) ≡ false → IsClosed (liberty_front b more)
unfolding liberty_front
liberty_closed b more h =
    by_test (is_white b) _ _ (λ _. refl) (λ _.
    by_test (b == 92 && begins 10 more) _ _ (λ _. refl) (λ _.
    by_test (not (is_ascii_graphic b)) _ _ (λ _. refl) (λ _.
    by_test (b == 47 && begins 42 more) _ _ (λ f. absurd (not_second (is_opening Liberty) 42 b more refl h (and_parts (b == 47) _ f).1)) (λ _.
    by_test (b == 34) _ _ (λ f. absurd (not_first (is_opening Liberty) 34 b more refl h f)) (λ _.
    by_test (is_liberty_mark b) _ _ (λ _. refl) (λ _. refl))))))

verilog_closed : (fresh : Bool) (b : ℕ) (more : List ℕ) → list_any (is_opening Verilog) (b ∷ more) ≡ false → IsClosed (verilog_front fresh b more)
unfolding verilog_front
verilog_closed fresh b more h =
    by_test (is_newline b) _ _ (λ _. refl) (λ _.
    by_test (is_blank b) _ _ (λ _. refl) (λ _.
    by_test (not (is_ascii_graphic b)) _ _ (λ _. refl) (λ _.
    by_test (begins_name b) _ _ (λ _. refl) (λ _.
    by_test (b == 49 && is_constant more) _ _ (λ _. refl) (λ _.
    by_test (is_ascii_digit b) _ _ (λ _. refl) (λ _.
    by_test (b == 92) _ _ (λ _. refl) (λ _.
    by_test (b == 47 && begins 47 more) _ _ (λ _. refl) (λ _.
    by_test (b == 47 && begins 42 more) _ _ (λ f. absurd (not_second (is_opening Verilog) 42 b more refl h (and_parts (b == 47) _ f).1)) (λ _.
    by_test (b == 40 && begins 42 more) _ _ (λ f. absurd (not_second (is_opening Verilog) 42 b more refl h (and_parts (b == 40) _ f).1)) (λ _.
    by_test (fresh && b == 96) _ _ (λ _. refl) (λ _. refl)))))))))))

spef_closed : (b : ℕ) (more : List ℕ) → list_any (is_opening Spef) (b ∷ more) ≡ false → IsClosed (spef_front b more)
unfolding spef_front
spef_closed b more h =
    by_test (is_white b) _ _ (λ _. refl) (λ _.
    by_test (not (is_ascii_graphic b)) _ _ (λ _. refl) (λ _.
    by_test (b == 47 && begins 47 more) _ _ (λ _. refl) (λ _.
    by_test (b == 47 && begins 42 more) _ _ (λ f. absurd (not_first (is_opening Spef) 47 b more refl h (and_parts (b == 47) _ f).0)) (λ _.
    by_test (b == 34) _ _ (λ f. absurd (not_first (is_opening Spef) 34 b more refl h f)) (λ _. refl)))))

sdc_closed : (fresh : Bool) (b : ℕ) (more : List ℕ) → list_any (is_opening Sdc) (b ∷ more) ≡ false → IsClosed (sdc_front fresh b more)
unfolding sdc_front
sdc_closed fresh b more h =
    by_test (is_newline b || b == 59) _ _ (λ _. refl) (λ _.
    by_test (is_blank b) _ _ (λ _. refl) (λ _.
    by_test (b == 92 && begins 10 more) _ _ (λ _. refl) (λ _.
    by_test (not (is_ascii_graphic b)) _ _ (λ _. refl) (λ _.
    by_test (fresh && b == 35) _ _ (λ _. refl) (λ _.
    by_test (b == 34) _ _ (λ f. absurd (not_first (is_opening Sdc) 34 b more refl h f)) (λ _.
    by_test (b == 123) _ _ (λ f. absurd (not_first (is_opening Sdc) 123 b more refl h f)) (λ _.
    by_test (b == 91 || b == 93) _ _ (λ _. refl) (λ _. refl))))))))

closed_front : (rules : Rules) (fresh : Bool) (b : ℕ) (more : List ℕ) → list_any (is_opening rules) (b ∷ more) ≡ false
    → is_unclosed (front_of rules fresh b more).class ≡ false
unfolding front_of
closed_front Liberty fresh b more h = liberty_closed b more h
closed_front Verilog fresh b more h = verilog_closed fresh b more h
closed_front Spef fresh b more h = spef_closed b more h
closed_front Sdc fresh b more h = sdc_closed fresh b more h

-- whether a piece is left open, of bytes whose first `inside` belong to a piece before them
abbrev pub is_left_open : Rules → Bool → ℕ → List ℕ → Bool
is_left_open rules fresh inside [] = false
is_left_open rules fresh (suc inside) (b ∷ more) = is_left_open rules fresh inside more
is_left_open rules fresh zero (b ∷ more) =
    is_unclosed (front_of rules fresh b more).class
    || is_left_open rules (front_of rules fresh b more).fresh (front_of rules fresh b more).inner more

any_unclosed_from : (rules : Rules) (fresh : Bool) (bytes : List ℕ) (k from line : ℕ)
    → any_unclosed (pieces_from rules fresh k from line bytes) ≡ is_left_open rules fresh k bytes
any_unclosed_from rules fresh [] zero from line = refl
any_unclosed_from rules fresh [] (suc k) from line = refl
any_unclosed_from rules fresh (b ∷ more) zero from line =
    ap (λ x. is_unclosed (front_of rules fresh b more).class || x)
    (any_unclosed_from rules (front_of rules fresh b more).fresh more (front_of rules fresh b more).inner _ _)
any_unclosed_from rules fresh (b ∷ more) (suc k) from line = any_unclosed_from rules fresh more k _ _

-- of a whole text
pub any_unclosed_of : (rules : Rules) (bytes : List ℕ) → is_left_open rules true 0 bytes ≡ any_unclosed (pieces_of rules bytes)
any_unclosed_of rules bytes = sym (any_unclosed_from rules true bytes 0 0 1)

pub passed : (rules : Rules) (fresh : Bool) (k : ℕ) (bytes : List ℕ) → is_left_open rules fresh k bytes ≡ is_left_open rules fresh 0 (drop k bytes)
passed rules fresh zero bytes = refl
passed rules fresh (suc k) [] = refl
passed rules fresh (suc k) (b ∷ more) = passed rules fresh k more

-- where a text goes on behind a piece that is closed
pub left_open_behind : (rules : Rules) (fresh : Bool) (bytes : List ℕ) (i b : ℕ) (more : List ℕ) (front : Front)
    → drop i bytes ≡ b ∷ more → front ≡ front_of rules fresh b more → is_unclosed front.class ≡ false
    → is_left_open rules fresh 0 (drop i bytes) ≡ is_left_open rules front.fresh 0 (drop (i + (front.inner + 1)) bytes)
left_open_behind rules fresh bytes i b more front eb ef h =
    let closed : is_unclosed (front_of rules fresh b more).class ≡ false = sym (ap (λ (f : Front). is_unclosed f.class) ef) ∙ h in
    let step : is_left_open rules fresh 0 (b ∷ more) ≡ is_left_open rules front.fresh front.inner more = rw (closed, ef) refl in
    let back : drop (i + (front.inner + 1)) bytes ≡ drop front.inner more =
    sym (drop-drop (front.inner + 1) i bytes) ∙ (ap (drop (front.inner + 1)) eb ∙ rw add-one refl) in
    rw (eb, back) (step ∙ passed rules front.fresh front.inner more)

-- the piece that is left open
pub left_open_here : (rules : Rules) (fresh : Bool) (rest : List ℕ) (b : ℕ) (more : List ℕ) (front : Front)
    → rest ≡ b ∷ more → front ≡ front_of rules fresh b more → is_unclosed front.class ≡ true → is_left_open rules fresh 0 rest ≡ true
left_open_here rules fresh rest b more front eb ef h =
    let open_here : is_unclosed (front_of rules fresh b more).class ≡ true = sym (ap (λ (f : Front). is_unclosed f.class) ef) ∙ h in
    rw (eb, open_here) refl

-- nothing is left open where no such byte stands
pub none_left_open : (rules : Rules) (fresh : Bool) (bytes : List ℕ) (k : ℕ) → list_any (is_opening rules) bytes ≡ false
    → is_left_open rules fresh k bytes ≡ false
none_left_open rules fresh [] zero h = refl
none_left_open rules fresh [] (suc k) h = refl
none_left_open rules fresh (b ∷ more) (suc k) h = none_left_open rules fresh more k (or_parts (is_opening rules b) _ h).1
none_left_open rules fresh (b ∷ more) zero h =
    rw (closed_front rules fresh b more h)
    (none_left_open rules (front_of rules fresh b more).fresh more (front_of rules fresh b more).inner (or_parts (is_opening rules b) _ h).1)

-- no byte of a rest passes a test that it passes nowhere
pub none_behind : (test : ℕ → Bool) (bytes : List ℕ) (i : ℕ) → Nowhere (Passes test bytes) i (length bytes) → list_any test (drop i bytes) ≡ false
none_behind test [] zero h = refl
none_behind test [] (suc i) h = refl
none_behind test (b ∷ more) (suc i) h = none_behind test more i (λ k low high p. h (suc k) (omega arith) (omega arith) p)
none_behind test (b ∷ more) zero h =
    let first : test b ≡ false = false_from_ne_true (test b) (λ e. h 0 (omega arith) (omega arith) e) in
    rw first (none_behind test more 0 (λ k low high p. h (suc k) (omega arith) (omega arith) p))

-- the same of two bytes that are the text's openings
pub none_of_two : (rules : Rules) (pair : ℕ × ℕ) (bytes : List ℕ) (i : ℕ) → pair ≡ openings rules
    → Nowhere (Passes (is_byte2 pair.0 pair.1) bytes) i (length bytes) → list_any (is_opening rules) (drop i bytes) ≡ false
none_of_two rules pair bytes i e h =
    none_behind (is_opening rules) bytes i (subst (λ (p : ℕ × ℕ). Nowhere (Passes (is_byte2 p.0 p.1) bytes) i (length bytes)) e h)

none_further : (test : ℕ → Bool) (k : ℕ) (bytes : List ℕ) → list_any test bytes ≡ false → list_any test (drop k bytes) ≡ false
none_further test zero bytes h = h
none_further test (suc k) [] h = refl
none_further test (suc k) (b ∷ more) h = none_further test k more (or_parts (test b) _ h).1

-- nothing is left open behind the last of these bytes
pub none_past : (rules : Rules) (fresh : Bool) (bytes : List ℕ) (end i : ℕ) → end ≤ i → list_any (is_opening rules) (drop end bytes) ≡ false
    → is_left_open rules fresh 0 (drop i bytes) ≡ false
none_past rules fresh bytes end i le h =
    let e : end + (i - end) ≡ i = omega arith in
    none_left_open rules fresh (drop i bytes) 0
    (ap (λ n. list_any (is_opening rules) (drop n bytes)) (sym e)
    ∙ (ap (list_any (is_opening rules)) (sym (drop-drop (i - end) end bytes)) ∙ none_further (is_opening rules) (i - end) (drop end bytes) h))
