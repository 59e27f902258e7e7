-- The reports of three small designs, one of them with other Miller numbers too and one with checks, written out by hand.
use Rattle.std.specs.Prelude.{◌≡◌, refl, ℕ, true, false, List, [], ◌∷◌, ◌++◌, map, codes, ℤ, pos, Some, None}
use Rattle.std.specs.Fmt.{digits}
use Rattle.std.specs.List.{flat_map}
use Rattle.xt_model.specs.declared.quad.Pair.{Pair}
use Rattle.xt_model.specs.Parts.{Parts}
use Rattle.xt_model.specs.declared.edge.Edge.TheVariants.{Rise}
use Rattle.xt_model.specs.declared.check.CheckPoint.TheVariants.{Port}
use Rattle.xt_model.specs.Miller.{classical}
use Rattle.xt_model.proofs.WorkedDesigns.{cross, cross_windows, load_pair, on_rise, pair_low, pair_high, pair_windows, quad, source}
use Rattle.slack_report.specs.Slacks.{slacks}
use Rattle.xt_number.specs.Thousandths.{thousandths}
use Rattle.text_lines.specs.Lines.{Line, text_of}
use Rattle.text_lines.specs.Miller.{miller_lines}
use Rattle.aggressor_report.specs.Guilt.{guilty}
use Rattle.report_text.specs.declared.kind.ReportKind.TheVariants.{All, Checks}
use Rattle.report_text.specs.declared.checked.Checked.{Checked}
use Rattle.report_text.specs.declared.worst.WorstPath.{WorstPath}
use Rattle.report_text.specs.Worst.{IsChecked}
use Rattle.report_text.specs.Report.{AreSections, sections_of, title_line, size_line, clock_line, window_lines, unconstrained_lines, guilty_line, checked_lines, end_lines}

-- a report of all sections, by the lines of each
abbrev all_sections : Parts → List Pair → List Pair → Checked → List Line
all_sections d low high checked =
    window_lines low high 0 d.nets ++ (unconstrained_lines d.nets ++ (map (guilty_line d) (guilty d low high) ++ (checked_lines d checked ++ [])))

are_all_sections : (d : Parts) (low high : List Pair) (checked : Checked) → IsChecked d low high checked → AreSections (sections_of All) d low high (all_sections d low high checked)
are_all_sections d low high checked is = (_, _, refl, (_, _, refl, (_, _, refl, (_, [], (checked, is, refl), refl, refl), refl), refl), refl)

-- and one of the checks alone
abbrev check_sections : Parts → Checked → List Line
check_sections d checked = unconstrained_lines d.nets ++ (checked_lines d checked ++ [])

are_check_sections : (d : Parts) (low high : List Pair) (checked : Checked) → IsChecked d low high checked → AreSections (sections_of Checks) d low high (check_sections d checked)
are_check_sections d low high checked is = (_, _, refl, (_, [], (checked, is, refl), refl, refl), refl)

abbrev report : Parts → ℕ → ℕ → List Line → List Line
report d pairs depth sections = (title_line ∷ size_line d pairs depth ∷ clock_line d ∷ miller_lines d.miller) ++ (sections ++ end_lines)

-- no checks
abbrev unchecked : Checked
unchecked = record { slacks = []; setup = None; hold = None }

-- lines of plain text
abbrev lines : List (List ℕ) → List ℕ
lines ls = flat_map (λ l. l ++ 10 ∷ []) ls

cross_report : text_of (report cross 2 2 (all_sections cross (cross_windows (pos 1700)) (cross_windows (pos 1500)) unchecked)) ≡ lines (
    (codes "xtalk 1") ∷
    (codes "nets 4 couplings 2 pairs 2 levels 2 bound 18") ∷
    (codes "period none") ∷
    (codes "net s rise least 1.000 1.000 0.600 0.600 greatest 1.000 1.000 0.600 0.600") ∷
    (codes "net s fall quiet") ∷
    (codes "net t rise least 1.000 1.000 0.600 0.600 greatest 1.000 1.000 0.600 0.600") ∷
    (codes "net t fall quiet") ∷
    (codes "net c rise least 1.700 1.700 0.600 0.600 greatest 1.500 1.700 0.600 0.600") ∷
    (codes "net c fall quiet") ∷
    (codes "net d rise least 1.700 1.700 0.600 0.600 greatest 1.500 1.700 0.600 0.600") ∷
    (codes "net d fall quiet") ∷
    (codes "guilty s rise d 1.000 fast possible slow no") ∷
    (codes "guilty t rise c 1.000 fast possible slow no") ∷
    (codes "end") ∷ [])
unfolding thousandths digits
cross_report = refl

pair_report : text_of (report (load_pair (pos 100)) 1 2 (all_sections (load_pair (pos 100)) pair_low pair_high unchecked)) ≡ lines (
    (codes "xtalk 1") ∷
    (codes "nets 4 couplings 2 pairs 1 levels 2 bound 10") ∷
    (codes "period none") ∷
    (codes "net p rise least 0.000 0.000 0.000 0.000 greatest 0.000 0.000 0.000 0.000") ∷
    (codes "net p fall quiet") ∷
    (codes "net q rise quiet") ∷
    (codes "net q fall least 0.100 0.100 0.000 0.000 greatest 0.100 0.100 0.000 0.000") ∷
    (codes "net a rise least 1.000 1.000 0.000 0.000 greatest 1.000 1.200 0.000 0.000") ∷
    (codes "net a fall quiet") ∷
    (codes "net b rise quiet") ∷
    (codes "net b fall least 1.100 1.100 0.000 0.000 greatest 1.100 1.300 0.000 0.000") ∷
    (codes "guilty a rise b 1.000 fast no slow possible") ∷
    (codes "guilty b fall a 1.000 fast no slow possible") ∷
    (codes "end") ∷ [])
unfolding thousandths digits
pair_report = refl

-- the same pair, where a coupling counts three whole capacitors while its aggressor switches the other way: the load is
-- then 3,000 aF and the delay 1,400 fs, in place of 1,000 aF and 1,000 fs
abbrev thrice : Parts
thrice = record (load_pair (pos 100)) { miller = record { low = 0; mid = 4; high = 12 } }

abbrev thrice_high : List Pair
thrice_high = pair_windows (pos 100) (quad (pos 1000) (pos 1400) (pos 0) (pos 0)) (quad (pos 1100) (pos 1500) (pos 0) (pos 0))

thrice_report : text_of (report thrice 1 2 (all_sections thrice pair_low thrice_high unchecked)) ≡ lines (
    (codes "xtalk 1") ∷
    (codes "nets 4 couplings 2 pairs 1 levels 2 bound 10") ∷
    (codes "period none") ∷
    (codes "miller 0 4 12") ∷
    (codes "net p rise least 0.000 0.000 0.000 0.000 greatest 0.000 0.000 0.000 0.000") ∷
    (codes "net p fall quiet") ∷
    (codes "net q rise quiet") ∷
    (codes "net q fall least 0.100 0.100 0.000 0.000 greatest 0.100 0.100 0.000 0.000") ∷
    (codes "net a rise least 1.000 1.000 0.000 0.000 greatest 1.000 1.400 0.000 0.000") ∷
    (codes "net a fall quiet") ∷
    (codes "net b rise quiet") ∷
    (codes "net b fall least 1.100 1.100 0.000 0.000 greatest 1.100 1.500 0.000 0.000") ∷
    (codes "guilty a rise b 1.000 fast no slow possible") ∷
    (codes "guilty b fall a 1.000 fast no slow possible") ∷
    (codes "end") ∷ [])
unfolding thousandths digits
thrice_report = refl

thrice_checks : text_of (report thrice 1 2 (check_sections thrice unchecked)) ≡ lines (
    (codes "xtalk 1") ∷
    (codes "nets 4 couplings 2 pairs 1 levels 2 bound 10") ∷
    (codes "period none") ∷
    (codes "miller 0 4 12") ∷
    (codes "end") ∷ [])
unfolding thousandths digits
thrice_checks = refl

-- ---- checks at a port behind 2 fs of wire, with a period of 10,000 fs

abbrev ports : Parts
ports = record {
  period = Some (pos 10000);
  tables = [];
  nets = source (codes "a") (on_rise (quad (pos 1000) (pos 1200) (pos 0) (pos 0))) [] ((record { name = codes "y"; base = pos 2000000; coefs = [] }) ∷ []) ∷ [];
  checks = Port (codes "y") false (record { 0 = 0 }) 0 (Some (pos 500)) None
      ∷ Port (codes "y") true (record { 0 = 0 }) 0 (Some (pos 100)) (Some (pos 100))
      ∷ [];
  miller = classical;
}

abbrev port_windows : List Pair
port_windows = on_rise (quad (pos 1000) (pos 1200) (pos 0) (pos 0)) ∷ []

-- the check of the rise, which has this slack in both windows, and its path from this time on
abbrev port_path : ℕ → ℤ → ℤ → WorstPath
port_path point slack time = record {
  slack = record { point = point; edge = Rise; idle = false; greatest = slack; least = slack };
  path = record { net = record { 0 = 0 }; edge = Rise; time = time; steps = [] };
  wire = pos 2;
}

-- setup: 10,000 - 500 - (1,200 + 2); hold: (1,000 + 2) + 100
abbrev port_checks : Checked
port_checks = record {
  slacks = slacks ports port_windows port_windows;
  setup = Some (port_path 0 (pos 8298) (pos 1200));
  hold = Some (port_path 1 (pos 1102) (pos 1000));
}

port_report : text_of (report ports 0 1 (all_sections ports port_windows port_windows port_checks)) ≡ lines (
    (codes "xtalk 1") ∷
    (codes "nets 1 couplings 0 pairs 0 levels 1 bound 1") ∷
    (codes "period 10.000") ∷
    (codes "net a rise least 1.000 1.200 0.000 0.000 greatest 1.000 1.200 0.000 0.000") ∷
    (codes "net a fall quiet") ∷
    (codes "check y rise setup 8.298 8.298") ∷
    (codes "check y rise hold 1.102 1.102") ∷
    (codes "check y fall hold idle") ∷
    (codes "path setup y rise 8.298") ∷
    (codes "from a rise 1.200") ∷
    (codes "to wire 0.002") ∷
    (codes "path hold y rise 1.102") ∷
    (codes "from a rise 1.000") ∷
    (codes "to wire 0.002") ∷
    (codes "end") ∷ [])
unfolding thousandths digits
port_report = refl
