-- The laws of a whole text: what it is accepted as is sound and written so, and what is sound is accepted as written.
use Rattle.std.proofs.Common.{◌≡◌, ℕ, ◌^◌, ◌<◌, ◌≤◌, List, [], ◌∷◌, ◌++◌, length, map, eqb, ℤ, Bool, true, false, inl, inr, Option, None, Result, Ok, Err, refl, sym, ap, subst, ◌∙◌, arith}
use Rattle.std.specs.Prelude.{codes, is_some, if◌then◌else◌}
use Rattle.std.specs.List.{flat_map, sum_by}
use Rattle.std.proofs.lemmas.Bool.{eqb-true}
use Rattle.std.proofs.lemmas.List.{length-map, nil_from_length, append-nil}
use Rattle.std.proofs.lemmas.List.Concat.{flat_map-append}
use Rattle.xt_model.specs.declared.code.Code.TheVariants.{X1, X3}
use Rattle.xt_model.specs.declared.fault.LimitKind.TheVariants as kinds
use Rattle.xt_model.specs.declared.table.Table.{Table}
use Rattle.xt_model.specs.declared.net.Net.{Net}
use Rattle.xt_model.specs.declared.check.CheckPoint.{CheckPoint}
use Rattle.xt_model.specs.Limits.{most_nets, most_tables, most_checks, most_reads}
use Rattle.xt_model.specs.Miller.{MillerNumbers, IsMiller, classical}
use Rattle.xt_model.specs.Parts.{Parts}
use Rattle.xt_model.specs.Sound.{reads_of, IsSound}
use Rattle.xt_model.specs.Levels.{AreLevelled}
use Rattle.xt_model.specs.Tables.{IsTable}
use Rattle.text_lines.specs.Lines.{Line, line_text, text_of}
use Rattle.linked_text.specs.declared.head.Counts.{Counts}
use Rattle.linked_text.specs.declared.head.NetHead.{NetHead}
use Rattle.linked_text.specs.declared.fault.Fault.{Fault}
use Rattle.linked_text.specs.declared.fault.Fault.TheVariants as faults
use Rattle.linked_text.specs.Linked.{is_classical, table_lines, net_line, net_lines, check_line, linked}
use Rattle.text_lines.specs.Miller.{miller_lines}
use Rattle.linked_text.specs.EachLine.{version_in, counts_in, period_in, miller_in, check_in, end_in}
use Rattle.linked_text.specs.Meaning.{Read, line_at, many_at, newlines, refuse, counts_at, miller_at, table_at, heads_at, nets_at, checks_at, no_sums, parts_at, end_at, closed_by, Ends, Comes, Means}
use Rattle.linked_text.specs.Answers.{IsTextOf}
use Rattle.xt_model.specs.Results.{◌>>=◌}
use Rattle.linked_text.proofs.Inversions.{ok_step, ok_is, keeps_ok, keeps_again}
use Rattle.linked_text.proofs.LineLaws.{IsRead, line_read, many_takes, many_again, text_of_each}
use Rattle.linked_text.proofs.FrontLaws.{version_line, versions, FitsCounts, counts_words, all_counts, FitsPeriod, period_words, periods, FitsMiller, miller_words, millers, classical_is, ends}
use Rattle.linked_text.proofs.TableLaws.{tables_read}
use Rattle.linked_text.proofs.CheckLaws.{FitsCheck, checks}
use Rattle.linked_text.proofs.BodyLaws.{head_text, FitsHeads, heads_take, heads_again, net_text, FitsBodies, nets_take, nets_again, head_of}
use Rattle.linked_text.proofs.SoundLaws.{sinks_of, around_of, FitsParts, parts_sound, reads_few, parts_fit}

-- ---- the front

version_read : IsRead (line_at version_in) (λ b. line_text (version_line b)) (λ b. Unit {0})
version_read = line_read version_in version_line (λ b. Unit {0}) versions

counts_read : IsRead (line_at counts_in) (λ c. line_text (counts_words c)) FitsCounts
counts_read = line_read counts_in counts_words FitsCounts all_counts

period_read : IsRead (line_at period_in) (λ o. line_text (period_words o)) FitsPeriod
period_read = line_read period_in period_words FitsPeriod periods

miller_read : IsRead (line_at miller_in) (λ m. line_text (miller_words m)) FitsMiller
miller_read = line_read miller_in miller_words FitsMiller millers

end_read : IsRead (line_at end_in) (λ u. line_text (codes "end" ∷ [])) (λ u. Unit {0})
end_read = line_read end_in (λ u. codes "end" ∷ []) (λ u. Unit {0}) ends

check_read : (d : Parts) → IsRead (line_at (check_in (around_of d))) (λ c. line_text (check_line c)) (FitsCheck (around_of d))
check_read d = line_read (check_in (around_of d)) check_line (FitsCheck (around_of d)) (checks (around_of d))

pub record CountsKept (c : Counts) : Type 0 where
  pub fits : FitsCounts c
  pub tables : c.tables ≤ most_tables
  pub nets : c.nets ≤ most_nets
  pub checks : c.checks ≤ most_checks

counts_take : (bytes : List ℕ) (c : Counts) (rest : List ℕ) → counts_at bytes ≡ Ok (c, rest) → (bytes ≡ line_text (counts_words c) ++ rest) × CountsKept c
unfolding counts_at
counts_take bytes c rest e =
    let a = ok_step e in
    let t = ok_step a.2 in
    let n = ok_step t.2 in
    let k = ok_step n.2 in
    let l = counts_read.takes bytes a.0.0 a.0.1 a.1 in
    let kept : CountsKept a.0.0 = record {
      fits = l.1;
      tables = keeps_ok kinds.Tables None a.0.0.tables most_tables t.0 t.1;
      nets = keeps_ok kinds.Nets None a.0.0.nets most_nets n.0 n.1;
      checks = keeps_ok kinds.Checks None a.0.0.checks most_checks k.0 k.1;
    } in
    subst (λ (x : Counts × List ℕ). (bytes ≡ line_text (counts_words x.0) ++ x.1) × CountsKept x.0) (ok_is a.0 (c, rest) k.2) (l.0, kept)

counts_again : (c : Counts) (rest : List ℕ) → CountsKept c → counts_at (line_text (counts_words c) ++ rest) ≡ Ok (c, rest)
unfolding counts_at
counts_again c rest h = rw (
  counts_read.again c rest h.fits,
  keeps_again kinds.Tables None c.tables most_tables h.tables,
  keeps_again kinds.Nets None c.nets most_nets h.nets,
  keeps_again kinds.Checks None c.checks most_checks h.checks,
) refl

miller_text : (m : MillerNumbers) (rest : List ℕ) → is_classical m ≡ false → text_of (miller_lines m) ++ rest ≡ line_text (miller_words m) ++ rest
miller_text m rest e = rw e (ap (λ (t : List ℕ). t ++ rest) (append-nil (line_text (miller_words m))))

miller_take : (v : Bool) (bytes : List ℕ) (m : MillerNumbers) (rest : List ℕ) → miller_at v bytes ≡ Ok (m, rest) → (bytes ≡ text_of (miller_lines m) ++ rest) × (v ≡ is_classical m) × IsMiller m
unfolding miller_at
miller_take true bytes m rest e =
    let sound : IsMiller classical = record { low = omega arith; mid = omega arith; high = omega arith } in
    subst (λ (x : MillerNumbers × List ℕ). (bytes ≡ text_of (miller_lines x.0) ++ x.1) × (true ≡ is_classical x.0) × IsMiller x.0) (ok_is (classical, bytes) (m, rest) e) (refl, refl, sound)
miller_take false bytes m rest e =
    let t = miller_read.takes bytes m rest e in
    (t.0 ∙ sym (miller_text m rest t.1.other), sym t.1.other, t.1.sound)

miller_again : (m : MillerNumbers) (rest : List ℕ) → IsMiller m → miller_at (is_classical m) (text_of (miller_lines m) ++ rest) ≡ Ok (m, rest)
unfolding miller_at
miller_again m rest h = by_case (is_classical m) refl
  where
    at_classical : miller_at (is_classical classical) (text_of (miller_lines classical) ++ rest) ≡ Ok (classical, rest)
    at_classical = refl

    by_case : (b : Bool) → is_classical m ≡ b → miller_at (is_classical m) (text_of (miller_lines m) ++ rest) ≡ Ok (m, rest)
    by_case true e = subst (λ (x : MillerNumbers). miller_at (is_classical x) (text_of (miller_lines x) ++ rest) ≡ Ok (x, rest)) (sym (classical_is m e)) at_classical
    by_case false e =
        let fits : FitsMiller m = record { other = e; sound = h } in
        ap (miller_at (is_classical m)) (miller_text m rest e) ∙ ap (λ (b : Bool). miller_at b (line_text (miller_words m) ++ rest)) e ∙ miller_read.again m rest fits

-- ---- all of it

abbrev table_text : Table → List ℕ
table_text t = text_of (table_lines t)

abbrev check_text : CheckPoint → List ℕ
check_text c = line_text (check_line c)

abbrev counts_of : Parts → Counts
counts_of d = record { tables = length d.tables; nets = length d.nets; checks = length d.checks }

-- a text of these pieces
abbrev pieces : Bool → Counts → Option ℤ → List ℕ → List Table → List NetHead → List Net → List CheckPoint → List ℕ → List ℕ
pieces v c period miller tables heads nets checks rest =
    line_text (version_line v) ++ (line_text (counts_words c) ++ (line_text (period_words period) ++ (miller ++ (flat_map table_text tables ++ (flat_map head_text heads ++ (flat_map net_text nets ++ (flat_map check_text checks ++ rest)))))))

-- the text of the parts, up to the last line
abbrev whole : Parts → List ℕ → List ℕ
whole d rest = pieces (is_classical d.miller) (counts_of d) d.period (text_of (miller_lines d.miller)) d.tables (map head_of d.nets) d.nets d.checks rest

text_of_map : {A : Type 0} (line : A → Line) (xs : List A) → text_of (map line xs) ≡ flat_map (λ x. line_text (line x)) xs
text_of_map line [] = refl
text_of_map line (x ∷ xs) = ap (λ (t : List ℕ). line_text (line x) ++ t) (text_of_map line xs)

heads_same : (xs : List Net) → text_of (map net_line xs) ≡ flat_map head_text (map head_of xs)
heads_same [] = refl
heads_same (n ∷ xs) = ap (λ (t : List ℕ). line_text (net_line n) ++ t) (heads_same xs)

linked_whole : (d : Parts) → text_of (linked d) ≡ whole d (line_text (codes "end" ∷ []))
linked_whole d =
    let ms : List Line = miller_lines d.miller in
    let ts : List Line = flat_map table_lines d.tables in
    let hs : List Line = map net_line d.nets in
    let ns : List Line = flat_map net_lines d.nets in
    let cs : List Line = map check_line d.checks in
    let last : List Line = (codes "end" ∷ []) ∷ [] in
    let body : text_of (ms ++ (ts ++ (hs ++ (ns ++ (cs ++ last))))) ≡ text_of ms ++ (flat_map table_text d.tables ++ (flat_map head_text (map head_of d.nets) ++ (flat_map net_text d.nets ++ (flat_map check_text d.checks ++ line_text (codes "end" ∷ []))))) =
    flat_map-append line_text ms (ts ++ (hs ++ (ns ++ (cs ++ last)))) ∙ rw (
      flat_map-append line_text ts (hs ++ (ns ++ (cs ++ last))),
      flat_map-append line_text hs (ns ++ (cs ++ last)),
      flat_map-append line_text ns (cs ++ last),
      flat_map-append line_text cs last,
      text_of_each table_lines d.tables,
      heads_same d.nets,
      text_of_each net_lines d.nets,
      text_of_map check_line d.checks,
    ) refl in
    ap (λ (t : List ℕ). line_text (version_line (is_classical d.miller)) ++ (line_text (counts_words (counts_of d)) ++ (line_text (period_words d.period) ++ t))) body

pieces_steps : (v : Bool) (c : Counts) (period : Option ℤ) (miller : List ℕ) (tables : List Table) (heads : List NetHead) (nets : List Net) (checks : List CheckPoint) (b0 b1 b2 b3 b4 b5 b6 b7 rest : List ℕ)
    → b0 ≡ line_text (version_line v) ++ b1 → b1 ≡ line_text (counts_words c) ++ b2 → b2 ≡ line_text (period_words period) ++ b3 → b3 ≡ miller ++ b4
    → b4 ≡ flat_map table_text tables ++ b5 → b5 ≡ flat_map head_text heads ++ b6 → b6 ≡ flat_map net_text nets ++ b7 → b7 ≡ flat_map check_text checks ++ rest
    → b0 ≡ pieces v c period miller tables heads nets checks rest
pieces_steps v c period miller tables heads nets checks b0 b1 b2 b3 b4 b5 b6 b7 rest e0 e1 e2 e3 e4 e5 e6 e7 = rw (e0, e1, e2, e3, e4, e5, e6, e7) refl

-- what was read up to the last line, under the names that the parts have
same_pieces : (bytes : List ℕ) (v w : Bool) (c k : Counts) (period : Option ℤ) (miller : List ℕ) (tables : List Table) (hs gs : List NetHead) (nets : List Net) (checks : List CheckPoint) (rest : List ℕ)
    → v ≡ w → c ≡ k → gs ≡ hs → bytes ≡ pieces v c period miller tables hs nets checks rest → bytes ≡ pieces w k period miller tables gs nets checks rest
same_pieces bytes v w c k period miller tables hs gs nets checks rest e1 e2 e3 h =
    let P : Bool → Counts → List NetHead → Type 0 = λ a b g. bytes ≡ pieces a b period miller tables g nets checks rest in
    let h1 : P w c hs = subst (λ a. P a c hs) e1 h in
    let h2 : P w k hs = subst (λ b. P w b hs) e2 h1 in
    subst (λ g. P w k g) (sym e3) h2

same_three : (a b c d e f : ℕ) → a ≡ b → c ≡ d → e ≡ f → ◌≡◌ {A = Counts} (record { tables = a; nets = c; checks = e }) (record { tables = b; nets = d; checks = f })
same_three a b c d e f p q r = rw (p, q, r) refl

-- what was read piece by piece makes the parts
whole_from : (bytes b1 b2 b3 b4 b5 b6 b7 b8 : List ℕ) (v : Bool) (c : Counts) (p : Option ℤ) (m : MillerNumbers) (ts : List Table) (hs : List NetHead) (ns : List Net) (cs : List CheckPoint)
    → line_at version_in bytes ≡ Ok (v, b1) → counts_at b1 ≡ Ok (c, b2) → line_at period_in b2 ≡ Ok (p, b3) → miller_at v b3 ≡ Ok (m, b4)
    → many_at table_at c.tables b4 ≡ Ok (ts, b5) → heads_at c.nets [] no_sums b5 ≡ Ok (hs, b6) → nets_at (map (λ x. x.sinks) hs) c.tables 0 hs b6 ≡ Ok (ns, b7) → checks_at (is_some p) hs c.tables c.checks b7 ≡ Ok (cs, b8)
    → (x : Parts × List ℕ) → ◌≡◌ {A = Parts × List ℕ} (record { period = p; tables = ts; nets = ns; checks = cs; miller = m }, b8) x → (bytes ≡ whole x.0 x.1) × FitsParts x.0
whole_from bytes b1 b2 b3 b4 b5 b6 b7 b8 v c p m ts hs ns cs e1 e2 e3 e4 e5 e6 e7 e8 x is =
    let made : Parts = record { period = p; tables = ts; nets = ns; checks = cs; miller = m } in
    let version = version_read.takes bytes v b1 e1 in
    let counts = counts_take b1 c b2 e2 in
    let period = period_read.takes b2 p b3 e3 in
    let factors = miller_take v b3 m b4 e4 in
    let tables = many_takes table_at table_text IsTable tables_read c.tables b4 ts b5 e5 in
    let heads = heads_take c.nets [] no_sums b5 hs b6 e6 in
    let nets = nets_take (map (λ x. x.sinks) hs) c.tables 0 hs b6 ns b7 e7 in
    let same_heads : map head_of ns ≡ hs = nets.1 in
    let around : checks_at (is_some p) (map head_of ns) (length ts) c.checks b7 ≡ Ok (cs, b8) =
    ap (λ (gs : List NetHead). checks_at (is_some p) gs (length ts) c.checks b7) same_heads ∙ (ap (λ (i : ℕ). checks_at (is_some p) hs i c.checks b7) tables.1 ∙ e8) in
    let checked = many_takes (line_at (check_in (around_of made))) check_text (FitsCheck (around_of made)) (check_read made) c.checks b7 cs b8 around in
    let net_count : length ns ≡ c.nets = sym (length-map ns head_of) ∙ ap length same_heads ∙ heads.1 in
    let same_counts : ◌≡◌ {A = Counts} (record { tables = c.tables; nets = c.nets; checks = c.checks }) (counts_of made) = same_three c.tables (length ts) c.nets (length ns) c.checks (length cs) (sym tables.1) (sym net_count) (sym checked.1) in
    let read : bytes ≡ pieces v c p (text_of (miller_lines m)) ts hs ns cs b8 =
    pieces_steps v c p (text_of (miller_lines m)) ts hs ns cs bytes b1 b2 b3 b4 b5 b6 b7 b8 version.0 counts.0 period.0 factors.0 tables.0 heads.0 nets.0 checked.0 in
    let text : bytes ≡ whole made b8 = same_pieces bytes v (is_classical m) c (counts_of made) p (text_of (miller_lines m)) ts hs (map head_of ns) ns cs b8 factors.1 same_counts same_heads read in
    let heads_fit : FitsHeads [] no_sums (map head_of ns) = subst (λ (gs : List NetHead). FitsHeads [] no_sums gs) (sym same_heads) heads.2 in
    let bodies1 : FitsBodies (sinks_of ns) c.tables 0 ns = subst (λ (gs : List NetHead). FitsBodies (map (λ x. x.sinks) gs) c.tables 0 ns) (sym same_heads) nets.2 in
    let bodies : FitsBodies (sinks_of ns) (length ts) 0 ns = subst (λ (i : ℕ). FitsBodies (sinks_of ns) i 0 ns) (sym tables.1) bodies1 in
    let fits : FitsParts made = record {
      tables = tables.2;
      heads = heads_fit;
      bodies = bodies;
      checks = checked.2;
      period = period.1;
      miller = factors.2;
      few_tables = omega (arith, tables.1, counts.1.tables);
      few_nets = omega (arith, net_count, counts.1.nets);
      few_checks = omega (arith, checked.1, counts.1.checks);
    } in
    subst (λ (y : Parts × List ℕ). (bytes ≡ whole y.0 y.1) × FitsParts y.0) is (text, fits)

-- the last steps of the parts
abbrev PartsTail : Counts → Option ℤ → MillerNumbers → List Table → List ℕ → Parts × List ℕ → Type 0
PartsTail c p m ts b5 x =
    (h : List NetHead × List ℕ) × (n : List Net × List ℕ) × (k : List CheckPoint × List ℕ)
    × (heads_at c.nets [] no_sums b5 ≡ Ok h) × (nets_at (map (λ y. y.sinks) h.0) c.tables 0 h.0 h.1 ≡ Ok n) × (checks_at (is_some p) h.0 c.tables c.checks n.1 ≡ Ok k)
    × ◌≡◌ {A = Parts × List ℕ} (record { period = p; tables = ts; nets = n.0; checks = k.0; miller = m }, k.1) x

parts_tail : (c : Counts) (p : Option ℤ) (m : MillerNumbers) (ts : List Table) (b5 : List ℕ) (x : Parts × List ℕ)
    → ◌≡◌ {A = Read Parts} (heads_at c.nets [] no_sums b5 >>= λ h. nets_at (map (λ y. y.sinks) h.0) c.tables 0 h.0 h.1 >>= λ n. checks_at (is_some p) h.0 c.tables c.checks n.1 >>= λ k. Ok (record { period = p; tables = ts; nets = n.0; checks = k.0; miller = m }, k.1)) (Ok x)
    → PartsTail c p m ts b5 x
parts_tail c p m ts b5 x e =
    let h = ok_step e in
    let n = ok_step h.2 in
    let k = ok_step n.2 in
    (h.0, n.0, k.0, h.1, n.1, k.1, ok_is (record { period = p; tables = ts; nets = n.0.0; checks = k.0.0; miller = m }, k.0.1) x k.2)

pub parts_take : (bytes : List ℕ) (d : Parts) (last : List ℕ) → parts_at bytes ≡ Ok (d, last) → (bytes ≡ whole d last) × FitsParts d
unfolding parts_at
parts_take bytes d last e =
    let v = ok_step e in
    let c = ok_step v.2 in
    let p = ok_step c.2 in
    let m = ok_step p.2 in
    let t = ok_step m.2 in
    let r : PartsTail c.0.0 p.0.0 m.0.0 t.0.0 t.0.1 (d, last) = parts_tail c.0.0 p.0.0 m.0.0 t.0.0 t.0.1 (d, last) t.2 in
    whole_from bytes v.0.1 c.0.1 p.0.1 m.0.1 t.0.1 r.0.1 r.1.1 r.2.1 v.0.0 c.0.0 p.0.0 m.0.0 t.0.0 r.0.0 r.1.0 r.2.0 v.1 c.1 p.1 m.1 t.1 r.3 r.4 r.5 (d, last) r.6

parts_again : (d : Parts) (rest : List ℕ) → FitsParts d → parts_at (whole d rest) ≡ Ok (d, rest)
unfolding parts_at
parts_again d rest h =
    let b7 : List ℕ = flat_map check_text d.checks ++ rest in
    let b6 : List ℕ = flat_map net_text d.nets ++ b7 in
    let b5 : List ℕ = flat_map head_text (map head_of d.nets) ++ b6 in
    let b4 : List ℕ = flat_map table_text d.tables ++ b5 in
    let b3 : List ℕ = text_of (miller_lines d.miller) ++ b4 in
    let b2 : List ℕ = line_text (period_words d.period) ++ b3 in
    let b1 : List ℕ = line_text (counts_words (counts_of d)) ++ b2 in
    let kept : CountsKept (counts_of d) = record {
      fits = record { tables = omega (arith, h.few_tables); nets = omega (arith, h.few_nets); checks = omega (arith, h.few_checks) };
      tables = h.few_tables;
      nets = h.few_nets;
      checks = h.few_checks;
    } in
    let hs : heads_at (length d.nets) [] no_sums b5 ≡ Ok (map head_of d.nets, b6) = subst (λ (n : ℕ). heads_at n [] no_sums b5 ≡ Ok (map head_of d.nets, b6)) (length-map d.nets head_of) (heads_again [] no_sums (map head_of d.nets) b6 h.heads) in
    rw (
      version_read.again (is_classical d.miller) b1 tt,
      counts_again (counts_of d) b2 kept,
      period_read.again d.period b3 h.period,
      miller_again d.miller b4 h.miller,
      many_again table_at table_text IsTable tables_read d.tables b5 h.tables,
      hs,
      nets_again (sinks_of d.nets) (length d.tables) 0 d.nets b7 h.bodies,
      many_again (line_at (check_in (around_of d))) check_text (FitsCheck (around_of d)) (check_read d) d.checks rest h.checks,
    ) refl

-- ---- the last line

end_take : (d : Parts) (last : List ℕ) (u : Unit {0}) (rest : List ℕ) → end_at d last ≡ Ok (u, rest) → (last ≡ line_text (codes "end" ∷ []) ++ rest) × (sum_by (reads_of d) d.nets ≤ most_reads)
unfolding end_at
end_take d last u rest e =
    let a = ok_step e in
    let b = ok_step a.2 in
    let t = end_read.takes last a.0.0 a.0.1 a.1 in
    let reads = keeps_ok kinds.Reads None (sum_by (reads_of d) d.nets) most_reads b.0 b.1 in
    subst (λ (x : Unit {0} × List ℕ). (last ≡ line_text (codes "end" ∷ []) ++ x.1) × (sum_by (reads_of d) d.nets ≤ most_reads)) (ok_is a.0 (u, rest) b.2) (t.0, reads)

end_again : (d : Parts) (rest : List ℕ) → sum_by (reads_of d) d.nets ≤ most_reads → end_at d (line_text (codes "end" ∷ []) ++ rest) ≡ Ok (tt, rest)
unfolding end_at
end_again d rest h = rw (end_read.again tt rest tt, keeps_again kinds.Reads None (sum_by (reads_of d) d.nets) most_reads h) refl

-- ---- what the reader has to know

pub few_reads : (bytes : List ℕ) (d : Parts) (last : List ℕ) → parts_at bytes ≡ Ok (d, last) → sum_by (reads_of d) d.nets < 2 ^ 64
few_reads bytes d last e = reads_few d (parts_take bytes d last e).1

pub sound_parts : (bytes : List ℕ) (d : Parts) (last : List ℕ) (u : Unit {0}) (rest : List ℕ) → parts_at bytes ≡ Ok (d, last) → end_at d last ≡ Ok (u, rest) → IsSound d
sound_parts bytes d last u rest e f = parts_sound d (parts_take bytes d last e).1 (end_take d last u rest f).1

pub means_loop : (bytes : List ℕ) (d : Parts) (last : List ℕ) (u : Unit {0}) (rest : List ℕ) → parts_at bytes ≡ Ok (d, last) → end_at d last ≡ Ok (u, rest) → (AreLevelled d.nets → ⊥)
    → Means bytes (Err (faults.Refused (newlines last) X3))
means_loop bytes d last u rest e f never =
    subst (λ (r : Read Parts). Comes r (refuse last X3)) (sym e) (subst (λ (r : Read (Unit {0})). Ends d last r (refuse last X3)) (sym f) (inr (never, refl)))

-- ---- the two laws

closed_is : (d e : Parts) (rest : List ℕ) → ◌≡◌ {A = Result Parts Fault} (Ok e) (closed_by d rest) → (rest ≡ []) × (d ≡ e)
closed_is d e rest h = by_test (eqb (length rest) 0) refl h
  where
    by_test : (b : Bool) → eqb (length rest) 0 ≡ b → ◌≡◌ {A = Result Parts Fault} (Ok e) (if b then Ok d else refuse rest X1) → (rest ≡ []) × (d ≡ e)
    by_test true t h = (nil_from_length rest (eqb-true (length rest) 0 t), ok_is d e (sym h))
    by_test false t h = absurd cc

no_refusal : (d : Parts) (bytes : List ℕ) → ◌≡◌ {A = Result Parts Fault} (Ok d) (refuse bytes X3) → ⊥
no_refusal d bytes e = absurd cc

-- a text is accepted only where it is that of a sound design
pub accepted : (bytes : List ℕ) (d : Parts) → Means bytes (Ok d) → IsTextOf bytes d
accepted bytes d means = by_parts (parts_at bytes) refl means
  where
    by_end : (p : Parts) (last : List ℕ) → parts_at bytes ≡ Ok (p, last) → (r : Read (Unit {0})) → end_at p last ≡ r → Ends p last r (Ok d) → IsTextOf bytes d
    by_end p last e (Err f) g m = absurd cc
    by_end p last e (Ok end) g (inr m) = absurd (no_refusal d last m.1)
    by_end p last e (Ok end) g (inl m) =
        let c = closed_is p d end.1 m.1 in
        let t = parts_take bytes p last e in
        let k = end_take p last end.0 end.1 g in
        let ending : last ≡ line_text (codes "end" ∷ []) = k.0 ∙ ap (λ (r : List ℕ). line_text (codes "end" ∷ []) ++ r) c.0 ∙ append-nil (line_text (codes "end" ∷ [])) in
        let of : IsTextOf bytes p = record { sound = parts_sound p t.1 k.1; levelled = m.0; written = t.0 ∙ ap (whole p) ending ∙ sym (linked_whole p) } in
        subst (IsTextOf bytes) c.1 of

    by_parts : (r : Read Parts) → parts_at bytes ≡ r → Comes r (Ok d) → IsTextOf bytes d
    by_parts (Err f) e m = absurd cc
    by_parts (Ok p) e m = by_end p.0 p.1 e (end_at p.0 p.1) refl m

-- the text of a sound design is accepted as that design
pub means_design : (bytes : List ℕ) (d : Parts) → IsTextOf bytes d → Means bytes (Ok d)
means_design bytes d h =
    let last : List ℕ = line_text (codes "end" ∷ []) in
    let read : parts_at bytes ≡ Ok (d, last) = ap parts_at (h.written ∙ linked_whole d) ∙ parts_again d last (parts_fit d h.sound) in
    let end : end_at d last ≡ Ok (tt, []) = ap (end_at d) (sym (append-nil last)) ∙ end_again d [] h.sound.limits.reads in
    let ended : Ends d last (end_at d last) (Ok d) = subst (λ (r : Read (Unit {0})). Ends d last r (Ok d)) (sym end) (inl (h.levelled, refl)) in
    subst (λ (r : Read Parts). Comes r (Ok d)) (sym read) ended

-- a text means one thing
pub means_one : (bytes : List ℕ) (o p : Result Parts Fault) → Means bytes o → Means bytes p → o ≡ p
means_one bytes o p a b = by_parts (parts_at bytes) a b
  where
    by_end : (d : Parts) (last : List ℕ) (r : Read (Unit {0})) → Ends d last r o → Ends d last r p → o ≡ p
    by_end d last (Err f) a b = a ∙ sym b
    by_end d last (Ok end) (inl a) (inl b) = a.1 ∙ sym b.1
    by_end d last (Ok end) (inl a) (inr b) = absurd (b.0 a.0)
    by_end d last (Ok end) (inr a) (inl b) = absurd (a.0 b.0)
    by_end d last (Ok end) (inr a) (inr b) = a.1 ∙ sym b.1

    by_parts : (r : Read Parts) → Comes r o → Comes r p → o ≡ p
    by_parts (Err f) a b = a ∙ sym b
    by_parts (Ok d) a b = by_end d.0 d.1 (end_at d.0 d.1) a b

-- two sound designs of one text are the same
pub same_texts : (d e : Parts) → IsSound d → IsSound e → text_of (linked d) ≡ text_of (linked e) → d ≡ e
same_texts d e sound_d sound_e same =
    let last : List ℕ = line_text (codes "end" ∷ []) in
    let read : (x : Parts) → IsSound x → parts_at (text_of (linked x)) ≡ Ok (x, last) = λ x sound. ap parts_at (linked_whole x) ∙ parts_again x last (parts_fit x sound) in
    let both : ◌≡◌ {A = Read Parts} (Ok (d, last)) (Ok (e, last)) = sym (read d sound_d) ∙ (ap parts_at same ∙ read e sound_e) in
    ap (λ (x : Parts × List ℕ). x.0) (ok_is (d, last) (e, last) both)
