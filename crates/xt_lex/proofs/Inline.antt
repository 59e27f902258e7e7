-- Words and marks stand within one line.
use Rattle.std.proofs.Common.{◌≡◌, ℕ, suc, ◌+◌, Bool, true, false, ◌&&◌, ◌||◌, not, List, [], ◌∷◌, length, take, drop, Option, Some, None, cond, ◌==◌, sym, ap, ◌∙◌, refl, arith, add-one}
use Rattle.std.proofs.lemmas.Bool.{false≢true, and_parts, or_parts, not-false, false_from_ne_true}
use Rattle.std.proofs.lemmas.Bool.Decides.{nat_tests}
use Rattle.std.specs.List.{prefix_len}
use Rattle.std.specs.Char.{is_ascii_graphic, is_ascii_digit}
use Rattle.xt_lex.specs.declared.class.Class.{Class}
use Rattle.xt_lex.specs.declared.class.Class.TheVariants as classes
use Rattle.xt_lex.specs.declared.front.Front.{Front}
use Rattle.xt_lex.specs.declared.rules.Rules.{Rules}
use Rattle.xt_lex.specs.declared.rules.Rules.TheVariants.{Liberty, Verilog, Spef, Sdc}
use Rattle.xt_lex.specs.Bytes.{is_newline, is_blank, is_white, begins, line_behind}
use Rattle.xt_lex.specs.Runs.{past_byte, past_pair}
use Rattle.xt_lex.specs.Liberty.{is_liberty_mark, past_quote, ends_liberty_word, liberty_word, liberty_front}
use Rattle.xt_lex.specs.Verilog.{begins_name, is_in_name, is_base, is_constant, verilog_front}
use Rattle.xt_lex.specs.Spef.{spef_front}
use Rattle.xt_lex.specs.Sdc.{ends_bare_word, in_bit_after, bare_word, sdc_front}
use Rattle.xt_lex.specs.Fronts.{piece, enclosed}
use Rattle.xt_lex.specs.Pieces.{front_of, is_inline}

-- bytes among which no line ends
abbrev IsWithinLine : List ℕ → Type 0
IsWithinLine bytes = (line : ℕ) → line_behind bytes line ≡ line

-- no line ends in a piece of this front, if it is a word or a mark
record Keeps (b : ℕ) (more : List ℕ) (front : Front) : Type 0 where
  within : is_inline front.class ≡ true → IsWithinLine (b ∷ take front.inner more)

by_test : (P : Front → Type 0) (t : Bool) (f g : Front) → (t ≡ true → P f) → (t ≡ false → P g) → P (cond t f g)
by_test P true f g h k = h refl
by_test P false f g h k = k refl

-- a byte that passes a test which the newline fails is none
not_newline : (p : ℕ → Bool) (b : ℕ) → p 10 ≡ false → p b ≡ true → is_newline b ≡ false
not_newline p b e f = false_from_ne_true (is_newline b) (λ g. let k : b ≡ 10 = grind (arith, nat_tests) in false≢true (sym e ∙ (sym (ap p k) ∙ f)))

first_kept : (b : ℕ) (bytes : List ℕ) → is_newline b ≡ false → IsWithinLine bytes → IsWithinLine (b ∷ bytes)
first_kept b bytes e h line = rw e (h line)

-- one byte more of a run
step_kept : (t : Bool) (b : ℕ) (more : List ℕ) (n : ℕ) → (t ≡ false → is_newline b ≡ false) → IsWithinLine (take n more)
    → IsWithinLine (take (cond t 0 (n + 1)) (b ∷ more))
step_kept true b more n e h line = refl
step_kept false b more n e h line = rw add-one (first_kept b (take n more) (e refl) h line)

run_step : (t : Bool) (b : ℕ) (more : List ℕ) (n : ℕ) → (t ≡ true → is_newline b ≡ false) → IsWithinLine (take n more)
    → IsWithinLine (take (cond t (1 + n) 0) (b ∷ more))
run_step true b more n e h line = let k : 1 + n ≡ suc n = omega arith in rw k (first_kept b (take n more) (e refl) h line)
run_step false b more n e h line = refl

run_kept : (p : ℕ → Bool) → p 10 ≡ false → (bytes : List ℕ) → IsWithinLine (take (prefix_len p bytes) bytes)
run_kept p e [] line = refl
run_kept p e (b ∷ more) line = run_step (p b) b more (prefix_len p more) (λ f. not_newline p b e f) (run_kept p e more) line

liberty_word_kept : (bytes : List ℕ) → IsWithinLine (take (liberty_word bytes) bytes)
liberty_word_kept [] line = refl
liberty_word_kept (b ∷ more) line =
    step_kept (ends_liberty_word b more) b more (liberty_word more)
    (λ e. not_newline is_ascii_graphic b refl (not-false (is_ascii_graphic b) (or_parts (not (is_ascii_graphic b)) _ e).0))
    (liberty_word_kept more) line

bare_word_kept : (in_bit : Bool) (bytes : List ℕ) → IsWithinLine (take (bare_word in_bit bytes) bytes)
bare_word_kept in_bit [] line = refl
bare_word_kept in_bit (b ∷ more) line =
    step_kept (ends_bare_word in_bit b more) b more (bare_word (in_bit_after in_bit b) more)
    (λ e. not_newline is_ascii_graphic b refl (not-false (is_ascii_graphic b) (or_parts (not (is_ascii_graphic b)) _ e).0))
    (bare_word_kept (in_bit_after in_bit b) more) line

constant_kept : (more : List ℕ) → is_constant more ≡ true → IsWithinLine (take 3 more)
constant_kept [] e = absurd (false≢true e)
constant_kept (q ∷ []) e = absurd (false≢true e)
constant_kept (q ∷ b ∷ []) e = absurd (false≢true e)
constant_kept (q ∷ b ∷ d ∷ more) e =
    let rest : (is_base b && (d == 48 || d == 49)) ≡ true = (and_parts (q == 39) _ e).1 in
    first_kept q (b ∷ d ∷ []) (not_newline (λ x. x == 39) q refl (and_parts (q == 39) _ e).0)
    (first_kept b (d ∷ []) (not_newline is_base b refl (and_parts (is_base b) _ rest).0)
    (first_kept d [] (not_newline (λ x. x == 48 || x == 49) d refl (and_parts (is_base b) _ rest).1) (λ line. refl)))

-- other pieces
other : (b : ℕ) (more : List ℕ) (front : Front) → is_inline front.class ≡ false → Keeps b more front
other b more front e = record { within = λ h. absurd (false≢true (sym e ∙ h)) }

enclosed_other : (b : ℕ) (more : List ℕ) (ended running : Class) (opening : ℕ) (end : Option ℕ) (rest : ℕ)
    → is_inline ended ≡ false → is_inline running ≡ false → Keeps b more (enclosed ended running opening end rest)
enclosed_other b more ended running opening (Some n) rest e f = other b more (piece ended (opening + n)) e
enclosed_other b more ended running opening None rest e f = other b more (piece running rest) f

word : (b : ℕ) (more : List ℕ) (class : Class) (n : ℕ) → is_newline b ≡ false → IsWithinLine (take n more) → Keeps b more (piece class n)
word b more class n e h = record { within = λ i. first_kept b (take n more) e h }

mark : (b : ℕ) (more : List ℕ) (class : Class) → is_newline b ≡ false → Keeps b more (piece class 0)
mark b more class e = word b more class 0 e (λ line. refl)

verilog_keeps : (fresh : Bool) (b : ℕ) (more : List ℕ) → Keeps b more (verilog_front fresh b more)
unfolding verilog_front
verilog_keeps fresh b more =
    by_test (Keeps b more) (is_newline b) _ _ (λ _. other b more _ refl) (λ e.
    by_test (Keeps b more) (is_blank b) _ _ (λ _. other b more _ refl) (λ _.
    by_test (Keeps b more) (not (is_ascii_graphic b)) _ _ (λ _. other b more _ refl) (λ _.
    by_test (Keeps b more) (begins_name b) _ _ (λ _. word b more _ _ e (run_kept is_in_name refl more)) (λ _.
    by_test (Keeps b more) (b == 49 && is_constant more) _ _ (λ f. word b more _ _ e (constant_kept more (and_parts (b == 49) _ f).1)) (λ _.
    by_test (Keeps b more) (is_ascii_digit b) _ _ (λ _. word b more _ _ e (run_kept is_ascii_digit refl more)) (λ _.
    by_test (Keeps b more) (b == 92) _ _ (λ _. other b more _ refl) (λ _.
    by_test (Keeps b more) (b == 47 && begins 47 more) _ _ (λ _. other b more _ refl) (λ _.
    by_test (Keeps b more) (b == 47 && begins 42 more) _ _ (λ _. enclosed_other b more classes.Comment classes.Unclosed 1 (past_pair 42 47 (drop 1 more)) (length more) refl refl) (λ _.
    by_test (Keeps b more) (b == 40 && begins 42 more) _ _ (λ _. enclosed_other b more classes.Skipped classes.UnclosedPlain 1 (past_pair 42 41 (drop 1 more)) (length more) refl refl) (λ _.
    by_test (Keeps b more) (fresh && b == 96) _ _ (λ _. other b more _ refl) (λ _. mark b more _ e)))))))))))

liberty_keeps : (b : ℕ) (more : List ℕ) → Keeps b more (liberty_front b more)
unfolding liberty_front
liberty_keeps b more =
    by_test (Keeps b more) (is_white b) _ _ (λ _. other b more _ refl) (λ w.
    by_test (Keeps b more) (b == 92 && begins 10 more) _ _ (λ _. other b more _ refl) (λ _.
    by_test (Keeps b more) (not (is_ascii_graphic b)) _ _ (λ _. other b more _ refl) (λ g.
    let e : is_newline b ≡ false = not_newline is_ascii_graphic b refl (not-false (is_ascii_graphic b) g) in
    by_test (Keeps b more) (b == 47 && begins 42 more) _ _ (λ _. enclosed_other b more classes.Comment classes.Unclosed 1 (past_pair 42 47 (drop 1 more)) (length more) refl refl) (λ _.
    by_test (Keeps b more) (b == 34) _ _ (λ _. enclosed_other b more classes.Text classes.Unclosed 0 (past_quote false more) (length more) refl refl) (λ _.
    by_test (Keeps b more) (is_liberty_mark b) _ _ (λ _. mark b more _ e) (λ _. word b more _ _ e (liberty_word_kept more)))))))

spef_keeps : (b : ℕ) (more : List ℕ) → Keeps b more (spef_front b more)
unfolding spef_front
spef_keeps b more =
    by_test (Keeps b more) (is_white b) _ _ (λ _. other b more _ refl) (λ w.
    by_test (Keeps b more) (not (is_ascii_graphic b)) _ _ (λ _. other b more _ refl) (λ g.
    let e : is_newline b ≡ false = not_newline is_ascii_graphic b refl (not-false (is_ascii_graphic b) g) in
    by_test (Keeps b more) (b == 47 && begins 47 more) _ _ (λ _. other b more _ refl) (λ _.
    by_test (Keeps b more) (b == 47 && begins 42 more) _ _ (λ _. enclosed_other b more classes.Comment classes.Unclosed 1 (past_pair 42 47 (drop 1 more)) (length more) refl refl) (λ _.
    by_test (Keeps b more) (b == 34) _ _ (λ _. enclosed_other b more classes.Text classes.Unclosed 0 (past_byte 34 more) (length more) refl refl) (λ _. word b more _ _ e (run_kept is_ascii_graphic refl more))))))

sdc_keeps : (fresh : Bool) (b : ℕ) (more : List ℕ) → Keeps b more (sdc_front fresh b more)
unfolding sdc_front
sdc_keeps fresh b more =
    by_test (Keeps b more) (is_newline b || b == 59) _ _ (λ _. other b more _ refl) (λ w.
    by_test (Keeps b more) (is_blank b) _ _ (λ _. other b more _ refl) (λ _.
    by_test (Keeps b more) (b == 92 && begins 10 more) _ _ (λ _. other b more _ refl) (λ _.
    let e : is_newline b ≡ false = (or_parts (is_newline b) (b == 59) w).0 in
    by_test (Keeps b more) (not (is_ascii_graphic b)) _ _ (λ _. other b more _ refl) (λ _.
    by_test (Keeps b more) (fresh && b == 35) _ _ (λ _. other b more _ refl) (λ _.
    by_test (Keeps b more) (b == 34) _ _ (λ _. enclosed_other b more classes.Text classes.Unclosed 0 (past_byte 34 more) (length more) refl refl) (λ _.
    by_test (Keeps b more) (b == 123) _ _ (λ _. enclosed_other b more classes.Escaped classes.UnclosedPlain 0 (past_byte 125 more) (length more) refl refl) (λ _.
    by_test (Keeps b more) (b == 91 || b == 93) _ _ (λ _. mark b more _ e) (λ _. word b more _ _ e (bare_word_kept false more)))))))))

-- no line ends in a word or a mark
pub front_keeps : (rules : Rules) (fresh : Bool) (b : ℕ) (more : List ℕ) → is_inline (front_of rules fresh b more).class ≡ true
    → (line : ℕ) → line_behind (b ∷ take (front_of rules fresh b more).inner more) line ≡ line
unfolding front_of
front_keeps Liberty fresh b more = (liberty_keeps b more).within
front_keeps Verilog fresh b more = (verilog_keeps fresh b more).within
front_keeps Spef fresh b more = (spef_keeps b more).within
front_keeps Sdc fresh b more = (sdc_keeps fresh b more).within

-- the same of the text of a piece that was cut
pub piece_keeps : (rules : Rules) (fresh : Bool) (line : ℕ) (rest : List ℕ) (b : ℕ) (more text : List ℕ) (front : Front)
    → rest ≡ b ∷ more → front ≡ front_of rules fresh b more → text ≡ take (front.inner + 1) rest → is_inline front.class ≡ true → line_behind text line ≡ line
piece_keeps rules fresh line rest b more text front er ef et h =
    let t : text ≡ b ∷ take front.inner more = et ∙ rw (er, add-one) refl in
    let i : is_inline (front_of rules fresh b more).class ≡ true = sym (ap (λ (f : Front). is_inline f.class) ef) ∙ h in
    rw (t, ef) (front_keeps rules fresh b more i line)
