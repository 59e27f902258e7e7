-- The laws of the lines at the front of a text, and of the last line.
use Rattle.std.proofs.Common.{◌≡◌, ℕ, zero, suc, ◌<◌, ◌≤◌, ◌^◌, Bool, true, false, not, cond, eqb, leb, ◌&&◌, List, [], ◌∷◌, ℤ, pos, Option, Some, None, Result, Ok, Err, refl, ap, subst, ◌∙◌, arith}
use Rattle.std.specs.Prelude.{codes, IfSome}
use Rattle.std.specs.Fmt.{decimal, signed_decimal, digits}
use Rattle.std.specs.Option.{option_map_or}
use Rattle.std.specs.Str.{bytes_eq}
use Rattle.std.proofs.lemmas.Bool.{eqb-true, ne_eqb, leb-true, le-leb}
use Rattle.std.proofs.lemmas.Int.{ints}
use Rattle.xt_model.specs.declared.code.Code.{Code}
use Rattle.xt_model.specs.declared.code.Code.TheVariants.{X1, X3}
use Rattle.xt_model.specs.Limits.{most_period}
use Rattle.xt_model.specs.Miller.{MillerNumbers, IsMiller, classical}
use Rattle.xt_model.specs.Sound.{IsBetween}
use Rattle.text_lines.specs.Lines.{Line}
use Rattle.linked_text.specs.declared.head.Counts.{Counts}
use Rattle.linked_text.specs.Linked.{is_classical, version_word, period_field}
use Rattle.linked_text.specs.Fields.{number_of, is_canonical, period}
use Rattle.linked_text.specs.EachLine.{version_in, counts_in, period_in, factor, is_other_miller, miller_of, miller_in, end_in, numbered, well_written}
use Rattle.xt_model.specs.Results.{◌>>=◌}
use Rattle.linked_text.specs.Fits.{IsSmaller}
use Rattle.linked_text.proofs.Options.{both_true}
use Rattle.linked_text.proofs.Cuts.{starts_low}
use Rattle.linked_text.proofs.Decimals.{number_takes, number_again}
use Rattle.linked_text.proofs.Inversions.{ok_step, ok_is, worded_ok, numbered_ok, word_ok, holds_ok, is_word, one_is, two_is, four_is}
use Rattle.linked_text.proofs.NumberLaws.{clear_count, clear_signed, count_takes, count_again, between_takes, between_again}
use Rattle.linked_text.proofs.LineLaws.{IsPlain, IsLine}

-- ---- the version

abbrev pub version_line : Bool → Line
version_line b = codes "xtalk-design" ∷ version_word b ∷ []

version_words : (f : List ℕ) (b : Bool) → ◌≡◌ {A = Result Bool Code} (cond (bytes_eq f (codes "1")) (Ok true) (cond (bytes_eq f (codes "2")) (Ok false) (Err X1))) (Ok b) → f ≡ version_word b
version_words f b h = by_first (bytes_eq f (codes "1")) refl h
  where
    by_second : (t : Bool) → bytes_eq f (codes "2") ≡ t → ◌≡◌ {A = Result Bool Code} (cond t (Ok false) (Err X1)) (Ok b) → f ≡ version_word b
    by_second true t h = subst (λ x. f ≡ version_word x) (ok_is false b h) (is_word f (codes "2") t)
    by_second false t h = absurd cc

    by_first : (t : Bool) → bytes_eq f (codes "1") ≡ t → ◌≡◌ {A = Result Bool Code} (cond t (Ok true) (cond (bytes_eq f (codes "2")) (Ok false) (Err X1))) (Ok b) → f ≡ version_word b
    by_first true t h = subst (λ x. f ≡ version_word x) (ok_is true b h) (is_word f (codes "1") t)
    by_first false t h = by_second (bytes_eq f (codes "2")) refl h

version_takes : (l : Line) (b : Bool) → version_in l ≡ Ok b → (l ≡ version_line b) × Unit {0}
unfolding version_in
version_takes l b e =
    let f = ok_step e in
    let w = ok_step f.2 in
    let name : f.0.0 ≡ codes "xtalk-design" = is_word _ _ (word_ok w.1) in
    let version : f.0.1 ≡ version_word b = version_words f.0.1 b w.2 in
    (two_is l f.0 (worded_ok f.1) ∙ ap (λ (g : List ℕ). g ∷ f.0.1 ∷ []) name ∙ ap (λ (g : List ℕ). codes "xtalk-design" ∷ g ∷ []) version, tt)

version_again : (b : Bool) → Unit {0} → version_in (version_line b) ≡ Ok b
unfolding version_in
version_again true u = refl
version_again false u = refl

version_plain : (b : Bool) → Unit {0} → IsPlain (version_line b)
version_plain true u = ((refl, (refl, (refl, (refl, (refl, (refl, (refl, (refl, (refl, (refl, (refl, (refl, tt)))))))))))), ((refl, tt), tt))
version_plain false u = ((refl, (refl, (refl, (refl, (refl, (refl, (refl, (refl, (refl, (refl, (refl, (refl, tt)))))))))))), ((refl, tt), tt))

pub versions : IsLine version_in version_line (λ b. Unit {0})
versions = record { takes = version_takes; again = version_again; plain = version_plain }

-- ---- the counts

pub record FitsCounts (c : Counts) : Type 0 where
  pub tables : c.tables < 2 ^ 32
  pub nets : c.nets < 2 ^ 32
  pub checks : c.checks < 2 ^ 32

abbrev pub counts_words : Counts → Line
counts_words c = codes "counts" ∷ decimal c.tables ∷ decimal c.nets ∷ decimal c.checks ∷ []

counts_takes : (l : Line) (c : Counts) → counts_in l ≡ Ok c → (l ≡ counts_words c) × FitsCounts c
unfolding counts_in
counts_takes l c e =
    let f = ok_step e in
    let w = ok_step f.2 in
    let t = ok_step w.2 in
    let n = ok_step t.2 in
    let k = ok_step n.2 in
    let word : f.0.0 ≡ codes "counts" = is_word _ _ (word_ok w.1) in
    let tables = count_takes f.0.1 t.0 (numbered_ok t.1) in
    let nets = count_takes f.0.2 n.0 (numbered_ok n.1) in
    let checks = count_takes f.0.3 k.0 (numbered_ok k.1) in
    let made : Counts = record { tables = t.0; nets = n.0; checks = k.0 } in
    let line : l ≡ counts_words made = four_is l f.0 (worded_ok f.1) ∙ ap (λ (g : List ℕ). g ∷ f.0.1 ∷ f.0.2 ∷ f.0.3 ∷ []) word ∙ ap (λ (g : List ℕ). codes "counts" ∷ g ∷ f.0.2 ∷ f.0.3 ∷ []) tables.0 ∙ ap (λ (g : List ℕ). codes "counts" ∷ decimal t.0 ∷ g ∷ f.0.3 ∷ []) nets.0 ∙ ap (λ (g : List ℕ). codes "counts" ∷ decimal t.0 ∷ decimal n.0 ∷ g ∷ []) checks.0 in
    let fits : FitsCounts made = record { tables = tables.1; nets = nets.1; checks = checks.1 } in
    subst (λ (x : Counts). (l ≡ counts_words x) × FitsCounts x) (ok_is made c k.2) (line, fits)

counts_again : (c : Counts) → FitsCounts c → counts_in (counts_words c) ≡ Ok c
unfolding counts_in
counts_again c h = rw (count_again c.tables h.tables, count_again c.nets h.nets, count_again c.checks h.checks) refl

pub all_counts : IsLine counts_in counts_words FitsCounts
all_counts = record {
  takes = counts_takes;
  again = counts_again;
  plain = λ c h. ((refl, (refl, (refl, (refl, (refl, (refl, tt)))))), (clear_count c.tables h.tables, (clear_count c.nets h.nets, (clear_count c.checks h.checks, tt))));
}

-- ---- the period

abbrev pub FitsPeriod : Option ℤ → Type 0
FitsPeriod o = IfSome o (IsBetween (pos 1) most_period)

abbrev pub period_words : Option ℤ → Line
period_words o = codes "period" ∷ period_field o ∷ []

small_period : (t : ℤ) → IsBetween (pos 1) most_period t → IsSmaller (2 ^ 127) t
small_period t h = record { low = omega (arith, ints, h.least); high = omega (arith, ints, h.most) }

period_field_takes : (f : List ℕ) (o : Option ℤ) → ◌≡◌ {A = Result (Option ℤ) Code} (cond (bytes_eq f (codes "none")) (Ok None) (numbered (period f) >>= λ t. Ok (Some t))) (Ok o) → (f ≡ period_field o) × FitsPeriod o
period_field_takes f o e = by_word (bytes_eq f (codes "none")) refl e
  where
    by_word : (t : Bool) → bytes_eq f (codes "none") ≡ t → ◌≡◌ {A = Result (Option ℤ) Code} (cond t (Ok None) (numbered (period f) >>= λ t. Ok (Some t))) (Ok o) → (f ≡ period_field o) × FitsPeriod o
    by_word true t e = subst (λ (x : Option ℤ). (f ≡ period_field x) × FitsPeriod x) (ok_is None o e) (is_word f (codes "none") t, tt)
    by_word false t e =
        let s = ok_step e in
        let n = between_takes (pos 1) most_period f s.0 (numbered_ok s.1) in
        let some : Option ℤ = Some s.0 in
        subst (λ (x : Option ℤ). (f ≡ period_field x) × FitsPeriod x) (ok_is some o s.2) (n.0, record { least = n.1; most = n.2 })

period_takes : (l : Line) (o : Option ℤ) → period_in l ≡ Ok o → (l ≡ period_words o) × FitsPeriod o
unfolding period_in
period_takes l o e =
    let f = ok_step e in
    let w = ok_step f.2 in
    let word : f.0.0 ≡ codes "period" = is_word _ _ (word_ok w.1) in
    let t = period_field_takes f.0.1 o w.2 in
    (two_is l f.0 (worded_ok f.1) ∙ ap (λ (g : List ℕ). g ∷ f.0.1 ∷ []) word ∙ ap (λ (g : List ℕ). codes "period" ∷ g ∷ []) t.0, t.1)

no_digit : (f : List ℕ) (first : ℕ) (more : List ℕ) → f ≡ first ∷ more → first ≤ 57 → bytes_eq f (codes "none") ≡ false
no_digit f first more is low = ap (λ (g : List ℕ). bytes_eq g (codes "none")) is ∙ rw (ne_eqb first 110 (λ (e : first ≡ 110). omega (arith, low, e))) refl

period_again : (o : Option ℤ) → FitsPeriod o → period_in (period_words o) ≡ Ok o
unfolding period_in
period_again None h = refl
period_again (Some t) h =
    let s = starts_low t (small_period t h) in
    rw (no_digit (signed_decimal t) s.first s.more s.is s.low, between_again (pos 1) most_period t (small_period t h) h.least h.most) refl

period_plain : (o : Option ℤ) → FitsPeriod o → IsPlain (period_words o)
period_plain None h = ((refl, (refl, (refl, (refl, (refl, (refl, tt)))))), ((refl, (refl, (refl, (refl, tt)))), tt))
period_plain (Some t) h = ((refl, (refl, (refl, (refl, (refl, (refl, tt)))))), (clear_signed t (small_period t h), tt))

pub periods : IsLine period_in period_words FitsPeriod
periods = record { takes = period_takes; again = period_again; plain = period_plain }

-- ---- the Miller numbers

pub record FitsMiller (m : MillerNumbers) : Type 0 where
  pub other : is_classical m ≡ false
  pub sound : IsMiller m

abbrev pub miller_words : MillerNumbers → Line
miller_words m = codes "miller" ∷ decimal m.low ∷ decimal m.mid ∷ decimal m.high ∷ []

factor_takes : (f : List ℕ) (n : ℕ) → factor f ≡ Ok n → f ≡ decimal n
factor_takes f n e = of (number_of 13 f) refl e
  where
    of : (o : Option ℕ) → number_of 13 f ≡ o → ◌≡◌ {A = Result ℕ Code} (option_map_or Ok o (Err X3)) (Ok n) → f ≡ decimal n
    of None h e = absurd cc
    of (Some m) h e = (number_takes 13 f m h).0 ∙ ap decimal (ok_is m n e)

-- what the test of Miller numbers shows
other_is : (m : MillerNumbers) → is_other_miller m ≡ true → FitsMiller m
other_is m e =
    let a = both_true (leb m.low m.mid) (leb m.mid m.high && (leb m.high 12 && not (is_classical m))) e in
    let b = both_true (leb m.mid m.high) (leb m.high 12 && not (is_classical m)) a.1 in
    let c = both_true (leb m.high 12) (not (is_classical m)) b.1 in
    let sound : IsMiller m = record { low = leb-true _ _ a.0; mid = leb-true _ _ b.0; high = leb-true _ _ c.0 } in
    record { other = no_longer (is_classical m) c.1; sound = sound }
  where
    no_longer : (b : Bool) → not b ≡ true → b ≡ false
    no_longer true e = absurd cc
    no_longer false e = refl

is_other : (m : MillerNumbers) → FitsMiller m → is_other_miller m ≡ true
is_other m h = rw (le-leb _ _ h.sound.low, le-leb _ _ h.sound.mid, le-leb _ _ h.sound.high, h.other) refl

pub classical_is : (m : MillerNumbers) → is_classical m ≡ true → m ≡ classical
classical_is m e =
    let a = both_true (eqb m.low 0) (eqb m.mid 4 && eqb m.high 8) e in
    let b = both_true (eqb m.mid 4) (eqb m.high 8) a.1 in
    let low : m.low ≡ 0 = eqb-true _ _ a.0 in
    let mid : m.mid ≡ 4 = eqb-true _ _ b.0 in
    let high : m.high ≡ 8 = eqb-true _ _ b.1 in
    let same : ◌≡◌ {A = MillerNumbers} (record { low = m.low; mid = m.mid; high = m.high }) (record { low = 0; mid = 4; high = 8 }) = rw (low, mid, high) refl in
    same

miller_of_takes : (f g h : List ℕ) (m : MillerNumbers) → miller_of f g h ≡ Ok m → (f ≡ decimal m.low) × (g ≡ decimal m.mid) × (h ≡ decimal m.high) × FitsMiller m
unfolding miller_of
miller_of_takes f g h m e =
    let a = ok_step e in
    let b = ok_step a.2 in
    let c = ok_step b.2 in
    let d = ok_step c.2 in
    let made : MillerNumbers = record { low = a.0; mid = b.0; high = c.0 } in
    subst (λ (x : MillerNumbers). (f ≡ decimal x.low) × (g ≡ decimal x.mid) × (h ≡ decimal x.high) × FitsMiller x) (ok_is made m d.2)
    (factor_takes f a.0 a.1, factor_takes g b.0 b.1, factor_takes h c.0 c.1, other_is made (holds_ok d.1))

miller_takes : (l : Line) (m : MillerNumbers) → miller_in l ≡ Ok m → (l ≡ miller_words m) × FitsMiller m
unfolding miller_in
miller_takes l m e =
    let f = ok_step e in
    let w = ok_step f.2 in
    let n = ok_step {A = Unit {0}} {r = well_written (is_canonical f.0.1 && (is_canonical f.0.2 && is_canonical f.0.3))} {f = λ u. miller_of f.0.1 f.0.2 f.0.3} w.2 in
    let word : f.0.0 ≡ codes "miller" = is_word _ _ (word_ok w.1) in
    let t = miller_of_takes f.0.1 f.0.2 f.0.3 m n.2 in
    (four_is l f.0 (worded_ok f.1) ∙ ap (λ (g : List ℕ). g ∷ f.0.1 ∷ f.0.2 ∷ f.0.3 ∷ []) word ∙ ap (λ (g : List ℕ). codes "miller" ∷ g ∷ f.0.2 ∷ f.0.3 ∷ []) t.0 ∙ ap (λ (g : List ℕ). codes "miller" ∷ decimal m.low ∷ g ∷ f.0.3 ∷ []) t.1 ∙ ap (λ (g : List ℕ). codes "miller" ∷ decimal m.low ∷ decimal m.mid ∷ g ∷ []) t.2, t.3)

canonical_factor : (n : ℕ) → n ≤ 12 → is_canonical (decimal n) ≡ true
unfolding digits
canonical_factor zero h = refl
canonical_factor (suc zero) h = refl
canonical_factor (suc (suc zero)) h = refl
canonical_factor (suc (suc (suc zero))) h = refl
canonical_factor (suc (suc (suc (suc zero)))) h = refl
canonical_factor (suc (suc (suc (suc (suc zero))))) h = refl
canonical_factor (suc (suc (suc (suc (suc (suc zero)))))) h = refl
canonical_factor (suc (suc (suc (suc (suc (suc (suc zero))))))) h = refl
canonical_factor (suc (suc (suc (suc (suc (suc (suc (suc zero)))))))) h = refl
canonical_factor (suc (suc (suc (suc (suc (suc (suc (suc (suc zero))))))))) h = refl
canonical_factor (suc (suc (suc (suc (suc (suc (suc (suc (suc (suc zero)))))))))) h = refl
canonical_factor (suc (suc (suc (suc (suc (suc (suc (suc (suc (suc (suc zero))))))))))) h = refl
canonical_factor (suc (suc (suc (suc (suc (suc (suc (suc (suc (suc (suc (suc zero)))))))))))) h = refl
canonical_factor (suc (suc (suc (suc (suc (suc (suc (suc (suc (suc (suc (suc (suc n))))))))))))) h = absurd (omega (arith, h))

factor_again : (n : ℕ) → n ≤ 12 → factor (decimal n) ≡ Ok n
factor_again n h = ap (λ (o : Option ℕ). option_map_or Ok o (Err X3)) (number_again 13 n (omega (arith, h)) (omega (arith, h)))

miller_again : (m : MillerNumbers) → FitsMiller m → miller_in (miller_words m) ≡ Ok m
unfolding miller_in miller_of
miller_again m h =
    let mid : m.mid ≤ 12 = omega (arith, h.sound.mid, h.sound.high) in
    let low : m.low ≤ 12 = omega (arith, h.sound.low, mid) in
    rw (canonical_factor m.low low, canonical_factor m.mid mid, canonical_factor m.high h.sound.high, factor_again m.low low, factor_again m.mid mid, factor_again m.high h.sound.high, is_other m h) refl

pub millers : IsLine miller_in miller_words FitsMiller
millers = record {
  takes = miller_takes;
  again = miller_again;
  plain = λ m h.
      let mid : m.mid ≤ 12 = omega (arith, h.sound.mid, h.sound.high) in
      ((refl, (refl, (refl, (refl, (refl, (refl, tt)))))), (clear_count m.low (omega (arith, mid, h.sound.low)), (clear_count m.mid (omega (arith, mid)), (clear_count m.high (omega (arith, h.sound.high)), tt))));
}

-- ---- the last line

end_takes : (l : Line) (u : Unit {0}) → end_in l ≡ Ok u → (l ≡ codes "end" ∷ []) × Unit {0}
unfolding end_in
end_takes l u e =
    let f = ok_step e in
    (one_is l f.0 (worded_ok f.1) ∙ ap (λ (g : List ℕ). g ∷ []) (is_word f.0 (codes "end") (word_ok f.2)), tt)

end_again : (u : Unit {0}) → Unit {0} → end_in (codes "end" ∷ []) ≡ Ok u
unfolding end_in
end_again u h = refl

pub ends : IsLine end_in (λ u. codes "end" ∷ []) (λ u. Unit {0})
ends = record { takes = end_takes; again = end_again; plain = λ u h. ((refl, (refl, (refl, tt))), tt) }
