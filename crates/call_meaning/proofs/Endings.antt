-- Which files were opened where a step of a command stops.
use Rattle.std.proofs.Common.{◌≡◌, ℕ, ◌+◌, Bool, true, false, ltb, List, [], ◌∷◌, ◌++◌, Option, Result, Ok, Err, IfErr, codes, refl, sym, subst, inl, inr}
use Rattle.std.proofs.lemmas.List.{append_assoc}
use Rattle.std.specs.Str.{bytes_eq}
use Rattle.xt_model.specs.Miller.{MillerNumbers}
use Rattle.xt_model.specs.Parts.{Parts}
use Rattle.xt_io.specs.Outside.{AreOpened}
use Rattle.linked_text.specs.Fields.{fields_of}
use Rattle.report_kind.specs.declared.kind.ReportKind.{ReportKind}
use Rattle.report_kind.specs.declared.kind.ReportKind.TheVariants.{All}
use Rattle.design_gen.specs.Generated.{generated}
use Rattle.command_line.specs.declared.words.GenJob.{GenJob}
use Rattle.call_meaning.specs.Gen.{GenMeans, IsSummed}
use Rattle.xt_model.specs.declared.code.Code.TheVariants as codes_of
use Rattle.eco_warm.specs.declared.edit.Edit.{Edit}
use Rattle.eco_warm.specs.declared.edit.EditFault.{EditFault}
use Rattle.eco_warm.specs.declared.edit.EditFault.TheVariants as faults
use Rattle.eco_warm.specs.Edits.{edited}
use Rattle.eco_warm.specs.Reading.{edit_in}
use Rattle.link_rules.specs.Bare.{Inputs}
use Rattle.command_line.specs.Words.{Text}
use Rattle.call_meaning.specs.Outcome.{Contents, Outcome, prints, refuses, unread, DesignMeans, FileMeans, IsSolution, LimitsMean, LinkedMeans, SolvedMeans, TextReportMeans, counted_by}
use Rattle.call_meaning.specs.Linking.{FileAndText, LinkingMeans, SourceMeans, TextMeans}
use Rattle.call_meaning.specs.Eco.{EditsMean, EndMeans, FaultMeans, IfElse, LinesMean, ReadMeans, lines_of, most_edits, refused_at}
use Rattle.call_meaning.specs.Call.{Answers, HasFault, IsStop}
use Rattle.call_meaning.specs.Opened.{FailsAfter, IsLastOpened}
use Rattle.call_meaning.specs.declared.refusal.Refusal.TheVariants.{Words, File, Linking, Design}
use Rattle.call_meaning.specs.declared.refusal.Stop.{Stop}
use Rattle.call_meaning.specs.declared.refusal.Stop.TheVariants.{Refused, Unread, NoMemory}
use Rattle.call_meaning.specs.declared.refusal.Failure.TheVariants.{NoText}
use Rattle.call_meaning.specs.declared.refusal.TextRefusal.{TextRefusal}
use Rattle.call_meaning.proofs.Openings.{opened_then}

-- an outcome that is of such a file, or, where `Together` holds, of what the files mean together
abbrev pub EndsBy : (Text → Type 0) → Type 0 → Outcome → Type 0
EndsBy Of Together (prints text) = Unit {0}
EndsBy Of Together (refuses Words) = ⊥
EndsBy Of Together (refuses (File file why)) = Of file
EndsBy Of Together (refuses (Linking why)) = Together
EndsBy Of Together (refuses (Design why)) = Together
EndsBy Of Together (unread file) = Of file

-- ---- what a step comes to

module _ (Of : Text → Type 0) (Together : Type 0) where
  abbrev Ends : Outcome → Type 0
  Ends o = EndsBy Of Together o

  pub file_ends : (file : Text) (content : Contents) (Leads : Text → Type 0) (o : Outcome) → Of file → ((bytes : Text) → Leads bytes → Ends o)
      → FileMeans file content Leads o → Ends o
  file_ends file content Leads o is leads (inl cannot) = subst Ends (sym cannot) is
  file_ends file content Leads o is leads (inr (inl long)) = subst Ends (sym long.1) is
  file_ends file content Leads o is leads (inr (inr held)) = leads held.0 held.3

  source_ends : {V : Type 0} (file : Text) (r : Result V TextRefusal) (o : Outcome) → Of file → SourceMeans file r (λ _. ⊥) o → Ends o
  source_ends file (Ok v) o is h = absurd h
  source_ends file (Err why) o is h = subst Ends (sym h) is

  pub text_ends : {V : Type 0} (file : Text) (content : Contents) (Meant : Text → Result V TextRefusal → Type 0) (o : Outcome) → Of file
      → FileAndText file content Meant (λ _. ⊥) o → Ends o
  text_ends file content Meant o is h = file_ends file content (λ bytes. TextMeans file bytes Meant (λ _. ⊥) o) o is (λ bytes t. source_ends file t.result o is t.leads) h

  pub linked_ends : (file bytes : Text) (Leads : Parts → Type 0) (o : Outcome) → Of file → ((d : Parts) → Leads d → Ends o) → LinkedMeans file bytes Leads o → Ends o
  linked_ends file bytes Leads o is leads (inl none) = subst Ends (sym none.2) is
  linked_ends file bytes Leads o is leads (inr some) = leads some.0 some.2

  pub linking_ends : (x : Inputs) (o : Outcome) → Together → LinkingMeans x (λ _. ⊥) o → Ends o
  linking_ends x o all (inl none) = subst Ends (sym none.2) all
  linking_ends x o all (inr some) = absurd some.3

  limits_end : (d : Parts) (Leads : Type 0) (o : Outcome) → Together → (Leads → Ends o) → LimitsMean d Leads o → Ends o
  limits_end d Leads o all leads (inl passed) = subst Ends (sym passed.2) all
  limits_end d Leads o all leads (inr kept) = leads kept.1

  solved_ends : (IsText : Text → Type 0) (d : Parts) (o : Outcome) → Together → SolvedMeans IsText d o → Ends o
  solved_ends IsText d o all h = limits_end d ((text : Text) × IsText text × (o ≡ prints text)) o all (λ text. subst Ends (sym text.2) tt) h

  pub design_ends : (kind : ReportKind) (d : Parts) (o : Outcome) → Together → DesignMeans kind d o → Ends o
  design_ends kind d o all h = solved_ends (IsSolution kind d) d o all h

  pub generated_ends : (job : GenJob) (o : Outcome) → Together → GenMeans job o → Ends o
  generated_ends job o all h = let d = generated job.number job.nets in solved_ends (IsSummed d) d o all h

  -- ---- edits

  module _ (file : Text) (is : Of file) (all : Together) (o : Outcome) where
    fault_ends : (line : ℕ) (d : Parts) (fault : EditFault) → FaultMeans file line d fault o → Ends o
    fault_ends line d faults.E1 h = subst Ends (sym h) is
    fault_ends line d faults.E2 h = subst Ends (sym h) is
    fault_ends line d faults.E3 h = subst Ends (sym h) is
    fault_ends line d faults.E4 h = subst Ends (sym h) is
    fault_ends line d (faults.Load net value) h = subst Ends (sym h.2) is
    fault_ends line d faults.NoMemory h = absurd h

    read_ends : (line : ℕ) (d : Parts) (Leads : Parts → Type 0) → ((after : Parts) → Leads after → Ends o) → (r : Result Edit EditFault)
        → ReadMeans file line r d Leads o → Ends o
    read_ends line d Leads leads (Err fault) h = fault_ends line d fault h
    read_ends line d Leads leads (Ok e) (inl refused) = fault_ends line d refused.0 refused.2
    read_ends line d Leads leads (Ok e) (inr made) = leads (edited e d) made.1

    last_ends : (line : ℕ) (rest : List Text) (d : Parts) → EndMeans file line rest d o → Ends o
    last_ends line [] d h = subst Ends (sym h) is
    last_ends line ([] ∷ []) d h = design_ends All d o all h
    last_ends line ((b ∷ bs) ∷ []) d h = subst Ends (sym h) is
    last_ends line ([] ∷ x ∷ xs) d h = subst Ends (sym h) is
    last_ends line ((b ∷ bs) ∷ x ∷ xs) d h = subst Ends (sym h) is

    either_ends : (b : Bool) (M N : Type 0) → (M → Ends o) → (N → Ends o) → IfElse b M N → Ends o
    either_ends true M N x y h = x h
    either_ends false M N x y h = y h

    lines_end : (lines : List Text) (count : ℕ) (d : Parts) → LinesMean file lines count d o → Ends o
    lines_end [] count d h = subst Ends (sym h) is
    lines_end (rest ∷ []) count d h = subst Ends (sym h) is
    lines_end (line ∷ next ∷ rest) count d h =
        let Next : Parts → Type 0 = λ e. LimitsMean e (LinesMean file (next ∷ rest) (count + 1) e o) o in
        let r = edit_in d.nets (fields_of line) in
        let Read = ReadMeans file (count + 1) r d Next o in
        let Many = o ≡ refused_at file (count + 1) codes_of.E1 in
        either_ends (bytes_eq line (codes "end")) (EndMeans file (count + 2) (next ∷ rest) d o) (IfElse (ltb count most_edits) Read Many)
        (last_ends (count + 2) (next ∷ rest) d)
        (either_ends (ltb count most_edits) Read Many
        (read_ends (count + 1) d Next (λ e. limits_end e (LinesMean file (next ∷ rest) (count + 1) e o) o all (lines_end (next ∷ rest) (count + 1) e)) r)
        (λ e. subst Ends (sym e) is)) h

    pub edits_end : (bytes : Text) (d : Parts) → EditsMean file bytes d o → Ends o
    edits_end bytes d h = limits_end d (LinesMean file (lines_of bytes) 0 d o) o all (lines_end (lines_of bytes) 0 d) h

-- ---- what was opened

module _ (files : List Text) (a z : Option (List Text)) (M : Outcome → Type 0) (Fault : Text → Type 0) where
  fails_by : (Of : Text → Type 0) (Together : Type 0) (stop : Stop) → ((o : Outcome) → M o → EndsBy Of Together o) → ((f : Text) → Of f → IsLastOpened f a z)
      → (Together → AreOpened files a z) → IsStop M Fault stop → FailsAfter files a z (NoText stop)
  fails_by Of Together (Refused Words) ends last all h = absurd (ends (refuses Words) h)
  fails_by Of Together (Refused (File file why)) ends last all h = last file (ends (refuses (File file why)) h)
  fails_by Of Together (Refused (Linking why)) ends last all h = all (ends (refuses (Linking why)) h)
  fails_by Of Together (Refused (Design why)) ends last all h = all (ends (refuses (Design why)) h)
  fails_by Of Together (Unread file) ends last all h = last file (ends (unread file) h.0)
  fails_by Of Together NoMemory ends last all h = tt

  -- a step that is of this file alone, after the earlier ones
  pub fails_at : (earlier : List Text) (file : Text) (stop : Stop) → ((o : Outcome) → M o → EndsBy (λ f. f ≡ file) ⊥ o) → AreOpened (earlier ++ (file ∷ [])) a z
      → IsStop M Fault stop → FailsAfter files a z (NoText stop)
  fails_at earlier file stop ends opened h =
      fails_by (λ f. f ≡ file) ⊥ stop ends (λ f e. (earlier, subst (λ name. AreOpened (earlier ++ (name ∷ [])) a z) (sym e) opened)) (λ never. absurd never) h

  -- a step that is of what the files mean together
  pub fails_together : (stop : Stop) → ((o : Outcome) → M o → EndsBy (λ _. ⊥) (Unit {0}) o) → AreOpened files a z → IsStop M Fault stop → FailsAfter files a z (NoText stop)
  fails_together stop ends opened h = fails_by (λ _. ⊥) (Unit {0}) stop ends (λ f never. absurd never) (λ _. opened) h

-- a step that is of its last file, or of what the files mean together
pub fails_last : (earlier : List Text) (file : Text) (a z : Option (List Text)) (M : Outcome → Type 0) (Fault : Text → Type 0) (stop : Stop)
    → ((o : Outcome) → M o → EndsBy (λ f. f ≡ file) (Unit {0}) o) → AreOpened (earlier ++ (file ∷ [])) a z → IsStop M Fault stop
    → FailsAfter (earlier ++ (file ∷ [])) a z (NoText stop)
fails_last earlier file a z M Fault stop ends opened h =
    fails_by (earlier ++ (file ∷ [])) a z M Fault (λ f. f ≡ file) (Unit {0}) stop ends
    (λ f e. (earlier, subst (λ name. AreOpened (earlier ++ (name ∷ [])) a z) (sym e) opened)) (λ _. opened) h

-- a later step, after these files
pub fails_later : (xs ys : List Text) (a b z : Option (List Text)) (stop : Stop) → AreOpened xs a b → FailsAfter ys b z (NoText stop) → FailsAfter (xs ++ ys) a z (NoText stop)
fails_later xs ys a b z (Refused Words) h k = opened_then xs ys a b z h k
fails_later xs ys a b z (Refused (File file why)) h k =
    (xs ++ k.0, subst (λ names. AreOpened names a z) (sym (append_assoc xs k.0 (file ∷ []))) (opened_then xs (k.0 ++ (file ∷ [])) a b z h k.1))
fails_later xs ys a b z (Refused (Linking why)) h k = opened_then xs ys a b z h k
fails_later xs ys a b z (Refused (Design why)) h k = opened_then xs ys a b z h k
fails_later xs ys a b z (Unread file) h k =
    (xs ++ k.0, subst (λ names. AreOpened names a z) (sym (append_assoc xs k.0 (file ∷ []))) (opened_then xs (k.0 ++ (file ∷ [])) a b z h k.1))
fails_later xs ys a b z NoMemory h k = tt

-- the report of a linked text
pub text_report_fails : {V : Type 0} (file : Text) (miller : Option MillerNumbers) (kind : ReportKind) (content : Contents) (IsValue : V → Type 0) (before after : Text → ℕ)
    (a z : Option (List Text)) (r : Result V Stop) → Answers r IsValue (TextReportMeans file miller kind content) before after → AreOpened (file ∷ []) a z
    → IfErr r (λ stop. FailsAfter (file ∷ []) a z (NoText stop))
text_report_fails file miller kind content IsValue before after a z (Ok v) h opened = tt
text_report_fails file miller kind content IsValue before after a z (Err stop) h opened =
    let Of : Text → Type 0 = λ f. f ≡ file in
    let Leads : Outcome → Parts → Type 0 = λ o d. DesignMeans kind (counted_by miller d) o in
    fails_last [] file a z (TextReportMeans file miller kind content) (HasFault before after) stop
    (λ o m. file_ends Of (Unit {0}) file content (λ bytes. LinkedMeans file bytes (Leads o) o) o refl
    (λ bytes k. linked_ends Of (Unit {0}) file bytes (Leads o) o refl (λ d n. design_ends Of (Unit {0}) kind (counted_by miller d) o tt n) k) m)
    opened h.0
