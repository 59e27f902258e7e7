-- A text of edits of a sound design has one outcome.
use Rattle.std.proofs.Common.{◌≡◌, ℕ, ◌+◌, Bool, true, false, ltb, List, [], ◌∷◌, Some, Result, Ok, Err, refl, sym, ap, ◌∙◌, inl, inr, codes}
use Rattle.std.specs.List.{slice_get}
use Rattle.std.specs.Str.{bytes_eq}
use Rattle.std.proofs.lemmas.Option.{same_Some}
use Rattle.xt_model.specs.declared.code.Code.TheVariants as codes_of
use Rattle.xt_model.specs.declared.fault.LimitKind.TheVariants.{Load}
use Rattle.xt_model.specs.declared.net.Net.{Net}
use Rattle.xt_model.specs.Parts.{Parts}
use Rattle.xt_model.specs.Sound.{IsSound}
use Rattle.linked_text.specs.Fields.{fields_of}
use Rattle.report_kind.specs.declared.kind.ReportKind.TheVariants.{All}
use Rattle.eco_warm.specs.declared.edit.Edit.{Edit}
use Rattle.eco_warm.specs.declared.edit.EditFault.{EditFault}
use Rattle.eco_warm.specs.declared.edit.EditFault.TheVariants as faults
use Rattle.eco_warm.specs.Edits.{edited}
use Rattle.eco_warm.specs.Possible.{IsAllowed, IsEditOf, IsRefusalOf}
use Rattle.eco_warm.specs.Reading.{edit_in}
use Rattle.eco_warm.proofs.Allowed.{edited_sound}
use Rattle.eco_warm.proofs.Named.{edit_between}
use Rattle.eco_warm.proofs.OneAnswer.{allowed_or_overloaded, one_overload}
use Rattle.command_line.specs.Words.{Text}
use Rattle.call_meaning.specs.declared.refusal.TextRefusal.TheVariants.{Beyond}
use Rattle.call_meaning.specs.declared.refusal.FileRefusal.TheVariants.{Content}
use Rattle.call_meaning.specs.declared.refusal.Refusal.TheVariants.{File}
use Rattle.call_meaning.specs.Outcome.{Outcome, refuses, LimitsMean}
use Rattle.call_meaning.specs.Eco.{EditMeans, EditsMean, EndMeans, FaultMeans, IfElse, LineMeans, LinesMean, ReadMeans, lines_of, most_edits, refused_at}
use Rattle.call_meaning.proofs.Agreeing.{Agree, LeavesOne, agree_as}
use Rattle.call_meaning.proofs.OneDesign.{one_of_design, one_of_limits}

module _ (file : Text) (line : ℕ) (d : Parts) where
  -- loads of nets of one number and one value
  one_beyond : (n m : Net) (i j v w : ℕ) → slice_get d.nets i ≡ Some n → slice_get d.nets j ≡ Some m → i ≡ j → v ≡ w
      → ◌≡◌ {A = Outcome} (refuses (File file (Content (Beyond (record { what = Load; name = Some n.name; value = v }))))) (refuses (File file (Content (Beyond (record { what = Load; name = Some m.name; value = w })))))
  one_beyond n m i j v w x y same value =
      let net : n ≡ m = same_Some n m (sym x ∙ (ap (slice_get d.nets) same ∙ y)) in
      rw (net, value) refl

  one_of_fault : (fault : EditFault) → LeavesOne (FaultMeans file line d fault)
  one_of_fault faults.E1 o p a b = agree_as o p _ _ a b refl
  one_of_fault faults.E2 o p a b = agree_as o p _ _ a b refl
  one_of_fault faults.E3 o p a b = agree_as o p _ _ a b refl
  one_of_fault faults.E4 o p a b = agree_as o p _ _ a b refl
  one_of_fault faults.NoMemory o p a b = absurd a
  one_of_fault (faults.Load net value) o p a b = agree_as o p _ _ a.2 (b.2 ∙ sym (one_beyond a.0 b.0 net.0 net.0 value value a.1 b.1 refl refl)) refl

  -- an edit between two nets has one refusal, or it is allowed
  one_of_faults : (e : Edit) → IsEditOf d.nets e → (f g : EditFault) → IsRefusalOf e d.nets f → IsRefusalOf e d.nets g → (o p : Outcome) → FaultMeans file line d f o → FaultMeans file line d g p → Agree o p
  one_of_faults e h faults.E1 g x y o p a b = absurd x
  one_of_faults e h faults.E2 g x y o p a b = absurd x
  one_of_faults e h faults.E3 g x y o p a b = absurd x
  one_of_faults e h faults.NoMemory g x y o p a b = absurd a
  one_of_faults e h faults.E4 faults.E1 x y o p a b = absurd y
  one_of_faults e h faults.E4 faults.E2 x y o p a b = absurd y
  one_of_faults e h faults.E4 faults.E3 x y o p a b = absurd y
  one_of_faults e h faults.E4 faults.NoMemory x y o p a b = absurd b
  one_of_faults e h faults.E4 faults.E4 x y o p a b = agree_as o p _ _ a b refl
  one_of_faults e h faults.E4 (faults.Load net value) x y o p a b = absurd (x y.possible)
  one_of_faults e h (faults.Load net value) faults.E1 x y o p a b = absurd y
  one_of_faults e h (faults.Load net value) faults.E2 x y o p a b = absurd y
  one_of_faults e h (faults.Load net value) faults.E3 x y o p a b = absurd y
  one_of_faults e h (faults.Load net value) faults.NoMemory x y o p a b = absurd b
  one_of_faults e h (faults.Load net value) faults.E4 x y o p a b = absurd (y x.possible)
  one_of_faults e h (faults.Load net value) (faults.Load other more) x y o p a b =
      let one = one_overload d.nets e h net.0 other.0 value more x y in
      agree_as o p _ _ a.2 (b.2 ∙ sym (one_beyond a.0 b.0 net.0 other.0 value more a.1 b.1 one.number one.value)) refl

  refused_or_allowed : (e : Edit) → IsEditOf d.nets e → IsAllowed e d.nets → (f : EditFault) → IsRefusalOf e d.nets f → (o : Outcome) → FaultMeans file line d f o → ⊥
  refused_or_allowed e h allowed faults.E1 x o a = absurd x
  refused_or_allowed e h allowed faults.E2 x o a = absurd x
  refused_or_allowed e h allowed faults.E3 x o a = absurd x
  refused_or_allowed e h allowed faults.NoMemory x o a = absurd a
  refused_or_allowed e h allowed faults.E4 x o a = absurd (x allowed.possible)
  refused_or_allowed e h allowed (faults.Load net value) x o a = absurd (allowed_or_overloaded d.nets e h net.0 value allowed x)

  module _ (Leads : Parts → Outcome → Type 0) (s : IsSound d) (one : (after : Parts) → IsSound after → LeavesOne (Leads after)) where
    one_of_edit : (e : Edit) → IsEditOf d.nets e → LeavesOne (λ o. EditMeans file line e d (λ after. Leads after o) o)
    one_of_edit e h o p (inl a) (inl b) = one_of_faults e h a.0 b.0 a.1 b.1 o p a.2 b.2
    one_of_edit e h o p (inl a) (inr b) = absurd (refused_or_allowed e h b.0 a.0 a.1 o a.2)
    one_of_edit e h o p (inr a) (inl b) = absurd (refused_or_allowed e h a.0 b.0 b.1 p b.2)
    one_of_edit e h o p (inr a) (inr b) = one (edited e d) (edited_sound d e s h a.0) o p a.1 b.1

    one_of_read : (r : Result Edit EditFault) → ((e : Edit) → r ≡ Ok e → IsEditOf d.nets e) → LeavesOne (λ o. ReadMeans file line r d (λ after. Leads after o) o)
    one_of_read (Ok e) is = one_of_edit e (is e refl)
    one_of_read (Err fault) is = one_of_fault fault

-- one of two meanings
one_if : (b : Bool) (M N : Outcome → Type 0) → LeavesOne M → LeavesOne N → LeavesOne (λ o. IfElse b (M o) (N o))
one_if true M N x y = x
one_if false M N x y = y

one_of_end : (file : Text) (line : ℕ) (lines : List Text) (d : Parts) → IsSound d → LeavesOne (EndMeans file line lines d)
one_of_end file line [] d s o p a b = agree_as o p _ _ a b refl
one_of_end file line ([] ∷ []) d s o p a b = one_of_design All d s o p a b
one_of_end file line ((b ∷ bs) ∷ []) d s o p x y = agree_as o p _ _ x y refl
one_of_end file line ([] ∷ x ∷ xs) d s o p a b = agree_as o p _ _ a b refl
one_of_end file line ((b ∷ bs) ∷ x ∷ xs) d s o p y z = agree_as o p _ _ y z refl

one_of_line : (file : Text) (count : ℕ) (line : Text) (rest : List Text) (d : Parts) (Leads : Parts → Outcome → Type 0) → IsSound d → ((after : Parts) → IsSound after → LeavesOne (Leads after))
    → LeavesOne (λ o. LineMeans file count line rest d (λ after. Leads after o) o)
one_of_line file count line rest d Leads s one =
    one_if (bytes_eq line (codes "end")) (EndMeans file (count + 2) rest d)
    (λ o. IfElse (ltb count most_edits) (ReadMeans file (count + 1) (edit_in d.nets (fields_of line)) d (λ after. Leads after o) o) (o ≡ refused_at file (count + 1) codes_of.E1))
    (one_of_end file (count + 2) rest d s)
    (one_if (ltb count most_edits) (λ o. ReadMeans file (count + 1) (edit_in d.nets (fields_of line)) d (λ after. Leads after o) o) (λ o. o ≡ refused_at file (count + 1) codes_of.E1)
    (one_of_read file (count + 1) d Leads s one (edit_in d.nets (fields_of line)) (edit_between d.nets (fields_of line)))
    (λ o p a b. agree_as o p _ _ a b refl))

one_of_lines : (file : Text) (lines : List Text) (count : ℕ) (d : Parts) → IsSound d → LeavesOne (LinesMean file lines count d)
one_of_lines file [] count d s o p a b = agree_as o p _ _ a b refl
one_of_lines file (rest ∷ []) count d s o p a b = agree_as o p _ _ a b refl
one_of_lines file (line ∷ next ∷ rest) count d s o p a b =
    one_of_line file count line (next ∷ rest) d (λ after o. LimitsMean after (LinesMean file (next ∷ rest) (count + 1) after o) o) s
    (λ after sound. one_of_limits after (LinesMean file (next ∷ rest) (count + 1) after) sound (one_of_lines file (next ∷ rest) (count + 1) after sound)) o p a b

pub one_of_edits : (file bytes : Text) (d : Parts) → IsSound d → LeavesOne (EditsMean file bytes d)
one_of_edits file bytes d s = one_of_limits d (LinesMean file (lines_of bytes) 0 d) s (one_of_lines file (lines_of bytes) 0 d s)
