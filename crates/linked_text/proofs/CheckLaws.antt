-- The laws of the lines of checks.
use Rattle.std.proofs.Common.{◌≡◌, ℕ, ◌^◌, ◌<◌, List, [], ◌∷◌, ℤ, Bool, true, false, cond, ◌&&◌, ◌⊎◌, inl, inr, Option, Some, None, Result, Ok, refl, sym, ap, subst, ◌∙◌, arith}
use Rattle.std.specs.Prelude.{codes, neg_ℤ, IfSome}
use Rattle.std.specs.Fmt.{decimal, signed_decimal, digits}
use Rattle.std.specs.Option.{option_map, option_map_or}
use Rattle.std.specs.Str.{bytes_eq}
use Rattle.std.proofs.lemmas.Int.{ints}
use Rattle.xt_model.specs.declared.code.Code.{Code}
use Rattle.xt_model.specs.declared.check.CheckPoint.{CheckPoint}
use Rattle.xt_model.specs.declared.check.CheckPoint.TheVariants.{Flop, Port}
use Rattle.xt_model.specs.Limits.{most_delay}
use Rattle.xt_model.specs.Names.{IsName}
use Rattle.xt_model.specs.Sound.{IsBetween}
use Rattle.text_lines.specs.Lines.{Line}
use Rattle.linked_text.specs.Linked.{table_field, delay_field, check_line}
use Rattle.text_lines.specs.Words.{check_word}
use Rattle.linked_text.specs.Fields.{nine, between, count, delay, hold_of, or_dash, is_name}
use Rattle.linked_text.specs.Fits.{IsSmaller}
use Rattle.linked_text.specs.EachLine.{Around, has_sink, has_table, has_word, worded, numbered, holds, flop_in, port_in, check_in}
use Rattle.xt_model.specs.Results.{◌>>=◌}
use Rattle.linked_text.proofs.Options.{both_true, some_is}
use Rattle.linked_text.proofs.Cuts.{name_sound, name_tested}
use Rattle.linked_text.proofs.Inversions.{all_true, goes_on, ok_step, ok_is, worded_ok, numbered_ok, word_ok, holds_ok, is_word, seven_is, nine_is}
use Rattle.linked_text.proofs.NumberLaws.{Clear, clear_count, clear_signed, clear_name, count_takes, count_again, between_takes, between_again, two_words}
use Rattle.linked_text.proofs.LineLaws.{IsPlain, IsLine}

-- ---- the kind

hold_takes : (f : List ℕ) (b : Bool) → hold_of f ≡ Some b → f ≡ check_word b
hold_takes f b h = two_words f (codes "hold") (codes "setup") b h

hold_again : (b : Bool) → hold_of (check_word b) ≡ Some b
hold_again true = refl
hold_again false = refl

clear_hold : (b : Bool) → Clear (check_word b)
clear_hold true = (refl, (refl, (refl, (refl, tt))))
clear_hold false = (refl, (refl, (refl, (refl, (refl, tt)))))

-- ---- a field or a dash

abbrev dashed : {A : Type 0} → (A → List ℕ) → Option A → List ℕ
dashed text None = codes "-"
dashed text (Some x) = text x

dash_takes : {A : Type 0} (of : List ℕ → Option A) (text : A → List ℕ) (Fit : A → Type 0) → ((f : List ℕ) (x : A) → of f ≡ Some x → (f ≡ text x) × Fit x)
    → (f : List ℕ) (o : Option A) → or_dash of f ≡ Some o → (f ≡ dashed text o) × IfSome o Fit
dash_takes {A} of text Fit one f o e = by_word (bytes_eq f (codes "-")) refl e
  where
    by_value : (v : Option A) → of f ≡ v → option_map Some v ≡ Some o → (f ≡ dashed text o) × IfSome o Fit
    by_value None h e = absurd cc
    by_value (Some x) h e =
        let some : Option A = Some x in
        subst (λ (y : Option A). (f ≡ dashed text y) × IfSome y Fit) (some_is some o e) (one f x h)

    by_word : (t : Bool) → bytes_eq f (codes "-") ≡ t → cond t (Some None) (option_map Some (of f)) ≡ Some o → (f ≡ dashed text o) × IfSome o Fit
    by_word true t e =
        let none : Option A = None in
        subst (λ (y : Option A). (f ≡ dashed text y) × IfSome y Fit) (some_is none o e) (is_word f (codes "-") t, tt)
    by_word false t e = by_value (of f) refl e

dash_again : {A : Type 0} (of : List ℕ → Option A) (text : A → List ℕ) (Fit : A → Type 0) → ((x : A) → Fit x → of (text x) ≡ Some x) → of (codes "-") ≡ None
    → (o : Option A) → IfSome o Fit → or_dash of (dashed text o) ≡ Some o
dash_again of text Fit one none None h = refl
dash_again {A} of text Fit one none (Some x) h = by_word (bytes_eq (text x) (codes "-")) refl
  where
    by_word : (t : Bool) → bytes_eq (text x) (codes "-") ≡ t → cond t (Some None) (option_map Some (of (text x))) ≡ Some (Some x)
    by_word true t =
        let never : ◌≡◌ {A = Option A} None (Some x) = sym none ∙ ap of (sym (is_word (text x) (codes "-") t)) ∙ one x h in
        absurd cc
    by_word false t = ap (option_map Some) (one x h)

abbrev Is32 : ℕ → Type 0
Is32 n = n < 2 ^ 32

abbrev IsDelay : ℤ → Type 0
IsDelay x = IsBetween (neg_ℤ most_delay) most_delay x

tables_same : (o : Option ℕ) → dashed decimal o ≡ table_field o
tables_same None = refl
tables_same (Some x) = refl

delays_same : (o : Option ℤ) → dashed signed_decimal o ≡ delay_field o
delays_same None = refl
delays_same (Some x) = refl

no_count : count (codes "-") ≡ None
unfolding digits
no_count = refl

no_delay : delay (codes "-") ≡ None
unfolding digits between
no_delay = refl

table_takes : (f : List ℕ) (o : Option ℕ) → or_dash count f ≡ Some o → (f ≡ table_field o) × IfSome o Is32
table_takes f o e = let t = dash_takes count decimal Is32 count_takes f o e in (t.0 ∙ tables_same o, t.1)

table_again : (o : Option ℕ) → IfSome o Is32 → or_dash count (table_field o) ≡ Some o
table_again o h = ap (or_dash count) (sym (tables_same o)) ∙ dash_again count decimal Is32 count_again no_count o h

clear_table : (o : Option ℕ) → IfSome o Is32 → Clear (table_field o)
clear_table None h = (refl, tt)
clear_table (Some x) h = clear_count x h

delay_value : (f : List ℕ) (x : ℤ) → delay f ≡ Some x → (f ≡ signed_decimal x) × IsDelay x
delay_value f x e = let t = between_takes (neg_ℤ most_delay) most_delay f x e in (t.0, record { least = t.1; most = t.2 })

small_delay : (x : ℤ) → IsDelay x → IsSmaller (2 ^ 127) x
small_delay x h = record { low = omega (arith, ints, h.least); high = omega (arith, ints, h.most) }

delay_value_again : (x : ℤ) → IsDelay x → delay (signed_decimal x) ≡ Some x
delay_value_again x h = between_again (neg_ℤ most_delay) most_delay x (small_delay x h) h.least h.most

delay_takes : (f : List ℕ) (o : Option ℤ) → or_dash delay f ≡ Some o → (f ≡ delay_field o) × IfSome o IsDelay
delay_takes f o e = let t = dash_takes delay signed_decimal IsDelay delay_value f o e in (t.0 ∙ delays_same o, t.1)

delay_again : (o : Option ℤ) → IfSome o IsDelay → or_dash delay (delay_field o) ≡ Some o
delay_again o h = ap (or_dash delay) (sym (delays_same o)) ∙ dash_again delay signed_decimal IsDelay delay_value_again no_delay o h

clear_delay : (o : Option ℤ) → IfSome o IsDelay → Clear (delay_field o)
clear_delay None h = (refl, tt)
clear_delay (Some x) h = clear_signed x (small_delay x h)

-- what follows from a step that gave something, and from what came after it
ok_then : {A B C E : Type 0} {r : Result A E} {f : A → Result B E} {y : B} → (r >>= f) ≡ Ok y → ((x : A) → r ≡ Ok x → f x ≡ Ok y → C) → C
ok_then e found = let s = ok_step e in found s.0 s.1 s.2

-- ---- checks

pub record FitsFlop (around : Around) (called : List ℕ) (from from_sink by by_sink : ℕ) (up down : Option ℕ) : Type 0 where
  pub period : around.period ≡ true
  pub name : IsName called
  pub datum : has_sink around.sinks from from_sink ≡ true
  pub clock : has_sink around.sinks by by_sink ≡ true
  pub rise : has_table around.tables up ≡ true
  pub fall : has_table around.tables down ≡ true
  pub datum32 : from < 2 ^ 32
  pub datum_sink32 : from_sink < 2 ^ 32
  pub clock32 : by < 2 ^ 32
  pub clock_sink32 : by_sink < 2 ^ 32
  pub rise32 : IfSome up Is32
  pub fall32 : IfSome down Is32

pub record FitsPort (around : Around) (called : List ℕ) (net sink : ℕ) (up down : Option ℤ) : Type 0 where
  pub period : around.period ≡ true
  pub name : IsName called
  pub there : has_sink around.sinks net sink ≡ true
  pub net32 : net < 2 ^ 32
  pub sink32 : sink < 2 ^ 32
  pub rise : IfSome up IsDelay
  pub fall : IfSome down IsDelay

abbrev pub FitsCheck : Around → CheckPoint → Type 0
FitsCheck around (Flop name hold datum datum_sink clock clock_sink rise fall) = FitsFlop around name datum.0 datum_sink clock.0 clock_sink rise fall
FitsCheck around (Port name hold net sink rise fall) = FitsPort around name net.0 sink rise fall

same_nine : (a b c d g i j k m a1 b1 c1 d1 g1 i1 j1 k1 m1 : List ℕ) → a ≡ a1 → b ≡ b1 → c ≡ c1 → d ≡ d1 → g ≡ g1 → i ≡ i1 → j ≡ j1 → k ≡ k1 → m ≡ m1 → ◌≡◌ {A = Line} (a ∷ b ∷ c ∷ d ∷ g ∷ i ∷ j ∷ k ∷ m ∷ []) (a1 ∷ b1 ∷ c1 ∷ d1 ∷ g1 ∷ i1 ∷ j1 ∷ k1 ∷ m1 ∷ [])
same_nine a b c d g i j k m a1 b1 c1 d1 g1 i1 j1 k1 m1 e1 e2 e3 e4 e5 e6 e7 e8 e9 = rw (e1, e2, e3, e4, e5, e6, e7, e8, e9) refl

same_seven : (a b c d g i j a1 b1 c1 d1 g1 i1 j1 : List ℕ) → a ≡ a1 → b ≡ b1 → c ≡ c1 → d ≡ d1 → g ≡ g1 → i ≡ i1 → j ≡ j1 → ◌≡◌ {A = Line} (a ∷ b ∷ c ∷ d ∷ g ∷ i ∷ j ∷ []) (a1 ∷ b1 ∷ c1 ∷ d1 ∷ g1 ∷ i1 ∷ j1 ∷ [])
same_seven a b c d g i j a1 b1 c1 d1 g1 i1 j1 e1 e2 e3 e4 e5 e6 e7 = rw (e1, e2, e3, e4, e5, e6, e7) refl

-- what was read of the line makes the check
flop_from : (around : Around) (l : Line) (c : CheckPoint) (a0 a1 a2 a3 a4 a5 a6 a7 a8 : List ℕ) (k : Bool) (dn ds cn cs : ℕ) (r g : Option ℕ)
    → l ≡ a0 ∷ a1 ∷ a2 ∷ a3 ∷ a4 ∷ a5 ∷ a6 ∷ a7 ∷ a8 ∷ [] → a0 ≡ codes "flop" → hold_of a1 ≡ Some k → count a3 ≡ Some dn → count a4 ≡ Some ds → count a5 ≡ Some cn → count a6 ≡ Some cs
    → or_dash count a7 ≡ Some r → or_dash count a8 ≡ Some g
    → (around.period && (is_name a2 && has_sink around.sinks dn ds)) ≡ true → has_sink around.sinks cn cs ≡ true → (has_table around.tables r && has_table around.tables g) ≡ true
    → ◌≡◌ {A = CheckPoint} (Flop a2 k (record { 0 = dn }) ds (record { 0 = cn }) cs r g) c → (l ≡ check_line c) × FitsCheck around c
flop_from around l c a0 a1 a2 a3 a4 a5 a6 a7 a8 k dn ds cn cs r g line word kind e3 e4 e5 e6 e7 e8 t1 t2 t3 made =
    let t = both_true around.period (is_name a2 && has_sink around.sinks dn ds) t1 in
    let u = both_true (is_name a2) (has_sink around.sinks dn ds) t.1 in
    let v = both_true (has_table around.tables r) (has_table around.tables g) t3 in
    let datum = count_takes a3 dn e3 in
    let datum_sink = count_takes a4 ds e4 in
    let clock = count_takes a5 cn e5 in
    let clock_sink = count_takes a6 cs e6 in
    let rise = table_takes a7 r e7 in
    let fall = table_takes a8 g e8 in
    let whole : l ≡ check_line (Flop a2 k (record { 0 = dn }) ds (record { 0 = cn }) cs r g) =
    line ∙ same_nine a0 a1 a2 a3 a4 a5 a6 a7 a8 (codes "flop") (check_word k) a2 (decimal dn) (decimal ds) (decimal cn) (decimal cs) (table_field r) (table_field g)
    word (hold_takes a1 k kind) refl datum.0 datum_sink.0 clock.0 clock_sink.0 rise.0 fall.0 in
    let fits : FitsFlop around a2 dn ds cn cs r g = record { period = t.0; name = name_sound a2 u.0; datum = u.1; clock = t2; rise = v.0; fall = v.1; datum32 = datum.1; datum_sink32 = datum_sink.1; clock32 = clock.1; clock_sink32 = clock_sink.1; rise32 = rise.1; fall32 = fall.1 } in
    subst (λ (y : CheckPoint). (l ≡ check_line y) × FitsCheck around y) made (whole, fits)

-- the last steps of such a line
abbrev FlopTail : Around → List ℕ → List ℕ → List ℕ → Bool → ℕ → ℕ → ℕ → ℕ → CheckPoint → Type 0
FlopTail around name f7 f8 k dn ds cn cs c =
    (r : Option ℕ) × (g : Option ℕ) × (or_dash count f7 ≡ Some r) × (or_dash count f8 ≡ Some g)
    × ((around.period && (is_name name && has_sink around.sinks dn ds)) ≡ true) × (has_sink around.sinks cn cs ≡ true) × ((has_table around.tables r && has_table around.tables g) ≡ true)
    × ◌≡◌ {A = CheckPoint} (Flop name k (record { 0 = dn }) ds (record { 0 = cn }) cs r g) c

flop_tail : (around : Around) (name f7 f8 : List ℕ) (k : Bool) (dn ds cn cs : ℕ) (c : CheckPoint)
    → ◌≡◌ {A = Result CheckPoint Code} (numbered (or_dash count f7) >>= λ r. numbered (or_dash count f8) >>= λ g. holds (around.period && (is_name name && has_sink around.sinks dn ds)) >>= λ u. holds (has_sink around.sinks cn cs) >>= λ v. holds (has_table around.tables r && has_table around.tables g) >>= λ w. Ok (Flop name k (record { 0 = dn }) ds (record { 0 = cn }) cs r g)) (Ok c)
    → FlopTail around name f7 f8 k dn ds cn cs c
flop_tail around name f7 f8 k dn ds cn cs c e =
    ok_then e (λ r rise e1.
    ok_then e1 (λ g fall e2.
    ok_then e2 (λ u stands e3.
    ok_then e3 (λ v there e4.
    ok_then e4 (λ w tables e5.
    (r, g, numbered_ok rise, numbered_ok fall, holds_ok stands, holds_ok there, holds_ok tables, ok_is _ c e5))))))

flop_takes : (around : Around) (l : Line) (c : CheckPoint) → flop_in around l ≡ Ok c → (l ≡ check_line c) × FitsCheck around c
unfolding flop_in
flop_takes around l c e =
    ok_then e (λ f fields e1.
    ok_then e1 (λ u word e2.
    ok_then e2 (λ k kind e3.
    ok_then e3 (λ dn datum e4.
    ok_then e4 (λ ds datum_sink e5.
    ok_then e5 (λ cn clock e6.
    ok_then e6 (λ cs clock_sink e7.
    let t = flop_tail around f.2 f.7 f.8 k dn ds cn cs c e7 in
    flop_from around l c f.0 f.1 f.2 f.3 f.4 f.5 f.6 f.7 f.8 k dn ds cn cs t.0 t.1 (nine_is l f (worded_ok fields)) (is_word _ _ (word_ok word)) (worded_ok kind)
    (numbered_ok datum) (numbered_ok datum_sink) (numbered_ok clock) (numbered_ok clock_sink) t.2 t.3 t.4 t.5 t.6 t.7)))))))

port_from : (around : Around) (l : Line) (c : CheckPoint) (a0 a1 a2 a3 a4 a5 a6 : List ℕ) (k : Bool) (n s : ℕ) (r g : Option ℤ)
    → l ≡ a0 ∷ a1 ∷ a2 ∷ a3 ∷ a4 ∷ a5 ∷ a6 ∷ [] → a0 ≡ codes "port" → hold_of a1 ≡ Some k → count a3 ≡ Some n → count a4 ≡ Some s → or_dash delay a5 ≡ Some r → or_dash delay a6 ≡ Some g
    → (around.period && (is_name a2 && has_sink around.sinks n s)) ≡ true
    → ◌≡◌ {A = CheckPoint} (Port a2 k (record { 0 = n }) s r g) c → (l ≡ check_line c) × FitsCheck around c
port_from around l c a0 a1 a2 a3 a4 a5 a6 k n s r g line word kind e3 e4 e5 e6 t0 made =
    let t = both_true around.period (is_name a2 && has_sink around.sinks n s) t0 in
    let u = both_true (is_name a2) (has_sink around.sinks n s) t.1 in
    let net = count_takes a3 n e3 in
    let sink = count_takes a4 s e4 in
    let rise = delay_takes a5 r e5 in
    let fall = delay_takes a6 g e6 in
    let whole : l ≡ check_line (Port a2 k (record { 0 = n }) s r g) = line ∙ same_seven a0 a1 a2 a3 a4 a5 a6 (codes "port") (check_word k) a2 (decimal n) (decimal s) (delay_field r) (delay_field g)
    word (hold_takes a1 k kind) refl net.0 sink.0 rise.0 fall.0 in
    let fits : FitsPort around a2 n s r g = record { period = t.0; name = name_sound a2 u.0; there = u.1; net32 = net.1; sink32 = sink.1; rise = rise.1; fall = fall.1 } in
    subst (λ (y : CheckPoint). (l ≡ check_line y) × FitsCheck around y) made (whole, fits)

port_takes : (around : Around) (l : Line) (c : CheckPoint) → port_in around l ≡ Ok c → (l ≡ check_line c) × FitsCheck around c
unfolding port_in
port_takes around l c e =
    ok_then e (λ f fields e1.
    ok_then e1 (λ u word e2.
    ok_then e2 (λ k kind e3.
    ok_then e3 (λ n net e4.
    ok_then e4 (λ s sink e5.
    ok_then e5 (λ r rise e6.
    ok_then e6 (λ g fall e7.
    ok_then e7 (λ v stands e8.
    port_from around l c f.0 f.1 f.2 f.3 f.4 f.5 f.6 k n s r g (seven_is l f (worded_ok fields)) (is_word _ _ (word_ok word)) (worded_ok kind)
    (numbered_ok net) (numbered_ok sink) (numbered_ok rise) (numbered_ok fall) (holds_ok stands) (ok_is _ c e8)))))))))

by_nine : {A : Type 0} (r : Result CheckPoint Code) (o : Option A) (other : Result CheckPoint Code) (c : CheckPoint) → option_map_or (λ f. r) o other ≡ Ok c → (r ≡ Ok c) ⊎ (other ≡ Ok c)
by_nine r (Some x) other c e = inl e
by_nine r None other c e = inr e

check_takes : (around : Around) (l : Line) (c : CheckPoint) → check_in around l ≡ Ok c → (l ≡ check_line c) × FitsCheck around c
check_takes around l c e = elim (by_nine (flop_in around l) (nine l) (port_in around l) c e) [
  | inl h ↦ flop_takes around l c h
  | inr h ↦ port_takes around l c h
]

flop_again : (around : Around) (f0 f1 name f3 f4 f5 f6 f7 f8 : List ℕ) (k : Bool) (dn ds cn cs : ℕ) (r g : Option ℕ)
    → bytes_eq f0 (codes "flop") ≡ true → hold_of f1 ≡ Some k → count f3 ≡ Some dn → count f4 ≡ Some ds → count f5 ≡ Some cn → count f6 ≡ Some cs
    → or_dash count f7 ≡ Some r → or_dash count f8 ≡ Some g → around.period ≡ true → is_name name ≡ true → has_sink around.sinks dn ds ≡ true → has_sink around.sinks cn cs ≡ true
    → has_table around.tables r ≡ true → has_table around.tables g ≡ true
    → flop_in around (f0 ∷ f1 ∷ name ∷ f3 ∷ f4 ∷ f5 ∷ f6 ∷ f7 ∷ f8 ∷ []) ≡ Ok (Flop name k (record { 0 = dn }) ds (record { 0 = cn }) cs r g)
unfolding flop_in
flop_again around f0 f1 name f3 f4 f5 f6 f7 f8 k dn ds cn cs r g word kind datum datum_sink clock clock_sink rise fall period named from by up down =
    goes_on _ (ap has_word word)
    (goes_on _ (ap worded kind)
    (goes_on _ (ap numbered datum)
    (goes_on _ (ap numbered datum_sink)
    (goes_on _ (ap numbered clock)
    (goes_on _ (ap numbered clock_sink)
    (goes_on _ (ap numbered rise)
    (goes_on _ (ap numbered fall)
    (goes_on _ (ap holds (all_true period (all_true named from)))
    (goes_on _ (ap holds by)
    (goes_on _ (ap holds (all_true up down))
    refl))))))))))

port_again : (around : Around) (f0 f1 name f3 f4 f5 f6 : List ℕ) (k : Bool) (net sink : ℕ) (r g : Option ℤ)
    → bytes_eq f0 (codes "port") ≡ true → hold_of f1 ≡ Some k → count f3 ≡ Some net → count f4 ≡ Some sink → or_dash delay f5 ≡ Some r → or_dash delay f6 ≡ Some g
    → around.period ≡ true → is_name name ≡ true → has_sink around.sinks net sink ≡ true
    → port_in around (f0 ∷ f1 ∷ name ∷ f3 ∷ f4 ∷ f5 ∷ f6 ∷ []) ≡ Ok (Port name k (record { 0 = net }) sink r g)
unfolding port_in
port_again around f0 f1 name f3 f4 f5 f6 k net sink r g word kind at at_sink rise fall period named there =
    goes_on _ (ap has_word word)
    (goes_on _ (ap worded kind)
    (goes_on _ (ap numbered at)
    (goes_on _ (ap numbered at_sink)
    (goes_on _ (ap numbered rise)
    (goes_on _ (ap numbered fall)
    (goes_on _ (ap holds (all_true period (all_true named there)))
    refl))))))

check_again : (around : Around) (c : CheckPoint) → FitsCheck around c → check_in around (check_line c) ≡ Ok c
check_again around (Flop name hold datum datum_sink clock clock_sink rise fall) h =
    flop_again around (codes "flop") (check_word hold) name (decimal datum.0) (decimal datum_sink) (decimal clock.0) (decimal clock_sink) (table_field rise) (table_field fall)
    hold datum.0 datum_sink clock.0 clock_sink rise fall refl (hold_again hold) (count_again datum.0 h.datum32) (count_again datum_sink h.datum_sink32) (count_again clock.0 h.clock32)
    (count_again clock_sink h.clock_sink32) (table_again rise h.rise32) (table_again fall h.fall32) h.period (name_tested name h.name) h.datum h.clock h.rise h.fall
check_again around (Port name hold net sink rise fall) h =
    port_again around (codes "port") (check_word hold) name (decimal net.0) (decimal sink) (delay_field rise) (delay_field fall) hold net.0 sink rise fall refl (hold_again hold)
    (count_again net.0 h.net32) (count_again sink h.sink32) (delay_again rise h.rise) (delay_again fall h.fall) h.period (name_tested name h.name) h.there

check_plain : (around : Around) (c : CheckPoint) → FitsCheck around c → IsPlain (check_line c)
check_plain around (Flop name hold datum datum_sink clock clock_sink rise fall) h =
    ((refl, (refl, (refl, (refl, tt)))), (clear_hold hold, (clear_name name h.name, (clear_count datum.0 h.datum32, (clear_count datum_sink h.datum_sink32, (clear_count clock.0 h.clock32, (clear_count clock_sink h.clock_sink32, (clear_table rise h.rise32, (clear_table fall h.fall32, tt)))))))))
check_plain around (Port name hold net sink rise fall) h =
    ((refl, (refl, (refl, (refl, tt)))), (clear_hold hold, (clear_name name h.name, (clear_count net.0 h.net32, (clear_count sink h.sink32, (clear_delay rise h.rise, (clear_delay fall h.fall, tt)))))))

pub checks : (around : Around) → IsLine (check_in around) check_line (FitsCheck around)
checks around = record { takes = check_takes around; again = check_again around; plain = check_plain around }
