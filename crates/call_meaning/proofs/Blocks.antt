-- The files of a block, each read and then its text, as the command sees them.
use Rattle.std.proofs.Common.{◌≡◌, ◌<◌, ◌≤◌, ℕ, length, Option, Result, Ok, Err, IfSome, ap, refl, subst, inl, inr}
use Rattle.xt_model.specs.declared.code.Code.{Code}
use Rattle.xt_model.specs.Parts.{Parts}
use Rattle.liberty_cells.specs.declared.library.Library.{Library}
use Rattle.verilog_net.specs.declared.netlist.Netlist.{Netlist}
use Rattle.link_rules.specs.Bare.{Inputs}
use Rattle.command_line.specs.Words.{Text}
use Rattle.xt_io.specs.Outside.{KeepsCounts}
use Rattle.xt_lex.specs.declared.text_fault.TextFault.{TextFault}
use Rattle.xt_lex.specs.declared.text_fault.TextFault.TheVariants.{NoMemory, Refused}
use Rattle.call_meaning.specs.Call.{Stops}
use Rattle.call_meaning.specs.Outcome.{Contents, Outcome, refuses}
use Rattle.call_meaning.specs.FailureWords.{most_bytes}
use Rattle.call_meaning.specs.declared.refusal.TextRefusal.{TextRefusal}
use Rattle.call_meaning.specs.declared.refusal.TextRefusal.TheVariants.{At}
use Rattle.call_meaning.specs.declared.refusal.FileRefusal.TheVariants.{Content}
use Rattle.call_meaning.specs.declared.refusal.Refusal.TheVariants.{File}
use Rattle.call_meaning.specs.Linking.{BlockMeans, FileAndText, FilesMean, HoldInputs, HoldsText, LastFilesMean, LinkingMeans, MakeDesign, SourceMeans, ConstraintsIn, ParasiticsIn, stop_at}
use Rattle.command_line.specs.declared.words.BlockFiles.{BlockFiles}

-- a text that is refused, wherever a value would lead
source_stops : {V : Type 0} (file : Text) (r : Result V TextRefusal) (Leads : V → Type 0) (o : Outcome) → SourceMeans file r (λ _. ⊥) o → SourceMeans file r Leads o
source_stops file (Ok v) Leads o h = absurd h
source_stops file (Err why) Leads o h = h

-- a file that gives no value, wherever a value would lead
pub text_stops : {V : Type 0} (file : Text) (content : Contents) (Meant : Text → Result V TextRefusal → Type 0) (Leads : V → Type 0) (o : Outcome)
    → FileAndText file content Meant (λ _. ⊥) o → FileAndText file content Meant Leads o
text_stops file content Meant Leads o (inl cannot) = inl cannot
text_stops file content Meant Leads o (inr (inl long)) = inr (inl long)
text_stops file content Meant Leads o (inr (inr held)) =
    inr (inr (held.0, held.1, held.2, record { result = held.3.result; meant = held.3.meant; leads = source_stops file held.3.result Leads o held.3.leads }))

-- a file whose value leads to the outcome
pub text_leads : {V : Type 0} (file : Text) (content : Contents) (Meant : Text → Result V TextRefusal → Type 0) (Leads : V → Type 0) (o : Outcome) (v : V)
    → HoldsText file content Meant v → Leads v → FileAndText file content Meant Leads o
text_leads file content Meant Leads o v h leads = inr (inr (h.bytes, h.held, h.fits, record { result = Ok v; meant = h.means; leads = leads }))

-- a text that is refused at a line
text_refused : {V : Type 0} (file name : Text) (content : Contents) (Meant : Text → Result V TextRefusal → Type 0) (bytes : Text) (line : ℕ) (code : Code)
    → name ≡ file → IfSome (content file) (λ whole. bytes ≡ whole) → length bytes ≤ most_bytes → Meant bytes (Err (At line code))
    → FileAndText file content Meant (λ _. ⊥) (refuses (File name (Content (At line code))))
text_refused file name content Meant bytes line code is held fits e =
    inr (inr (bytes, held, fits, record { result = Err (At line code); meant = e; leads = ap (λ n. refuses (File n (Content (At line code)))) is }))

-- a text that is at fault
pub text_at_fault : {V : Type 0} (file name : Text) (content : Contents) (Meant : Text → Result V TextRefusal → Type 0) (bytes : Text) (fault : TextFault) (before now : Text → ℕ)
    → name ≡ file → IfSome (content file) (λ whole. bytes ≡ whole) → length bytes ≤ most_bytes → KeepsCounts before now
    → ((line : ℕ) (code : Code) → fault ≡ Refused line code → Meant bytes (Err (At line code)))
    → Stops (stop_at name fault) (FileAndText file content Meant (λ _. ⊥)) before now
text_at_fault file name content Meant bytes (Refused line code) before now is held fits kept means =
    (text_refused file name content Meant bytes line code is held fits (means line code refl), λ _. kept)
text_at_fault file name content Meant bytes NoMemory before now is held fits kept means = (tt, λ _. kept)

-- a file whose content is as before
if_same : (P : Text → Type 0) (c d : Option Text) → c ≡ d → IfSome c P → IfSome d P
if_same P c d e h = subst (λ x. IfSome x P) e h

pub text_as : {V : Type 0} (file : Text) (before now : Contents) (Meant : Text → Result V TextRefusal → Type 0) (Leads : V → Type 0) (o : Outcome)
    → now file ≡ before file → FileAndText file now Meant Leads o → FileAndText file before Meant Leads o
text_as file before now Meant Leads o e (inl cannot) = inl cannot
text_as file before now Meant Leads o e (inr (inl long)) = inr (inl (if_same (λ whole. most_bytes < length whole) (now file) (before file) e long.0, long.1))
text_as file before now Meant Leads o e (inr (inr held)) = inr (inr (held.0, if_same (λ whole. held.0 ≡ whole) (now file) (before file) e held.1, held.2, held.3))

pub holds_as : {V : Type 0} (file : Text) (before now : Contents) (Meant : Text → Result V TextRefusal → Type 0) (v : V)
    → now file ≡ before file → HoldsText file now Meant v → HoldsText file before Meant v
holds_as file before now Meant v e h = record { bytes = h.bytes; held = if_same (λ whole. h.bytes ≡ whole) (now file) (before file) e h.held; fits = h.fits; means = h.means }

-- files whose values make no design, wherever a design would lead
pub sources_stop : {V : Type 0} (file : Text) (content : Contents) (Meant : Text → Result V TextRefusal → Type 0) (P Q : V → Type 0) (o : Outcome)
    → ((v : V) → P v → Q v) → FileAndText file content Meant P o → FileAndText file content Meant Q o
sources_stop file content Meant P Q o f (inl cannot) = inl cannot
sources_stop file content Meant P Q o f (inr (inl long)) = inr (inl long)
sources_stop {V} file content Meant P Q o f (inr (inr held)) =
    inr (inr (held.0, held.1, held.2, record { result = held.3.result; meant = held.3.meant; leads = go held.3.result held.3.leads }))
  where
    go : (r : Result V TextRefusal) → SourceMeans file r P o → SourceMeans file r Q o
    go (Ok v) h = f v h
    go (Err why) h = h

-- the last two files, whose contents are as before
pub last_as : (spef sdc : Text) (before now : Contents) (library : Library) (netlist : Netlist) (Leads : Inputs → Type 0) (o : Outcome) → now spef ≡ before spef → now sdc ≡ before sdc
    → LastFilesMean spef sdc now library netlist Leads o → LastFilesMean spef sdc before library netlist Leads o
last_as spef sdc before now library netlist Leads o one two h =
    text_as spef before now ParasiticsIn _ o one
    (sources_stop spef now ParasiticsIn _ _ o (λ p k. text_as sdc before now (ConstraintsIn library netlist) _ o two k) h)

-- ---- the four files

module _ (files : BlockFiles) (content : Contents) (Leads : Inputs → Type 0) (o : Outcome) where
  pub all_lead : (x : Inputs) → HoldInputs files content x → Leads x → FilesMean files content Leads o
  all_lead x h leads =
      text_leads _ content _ _ o x.library h.library
      (text_leads _ content _ _ o x.netlist h.netlist
      (text_leads _ content _ _ o x.parasitics h.parasitics
      (text_leads _ content _ _ o x.constraints h.constraints leads)))

-- values that make no design, wherever a design would lead
pub linking_stops : (x : Inputs) (Leads : Parts → Type 0) (o : Outcome) → LinkingMeans x (λ _. ⊥) o → LinkingMeans x Leads o
linking_stops x Leads o (inl none) = inl none
linking_stops x Leads o (inr some) = absurd some.3

pub block_stops : (files : BlockFiles) (content : Contents) (Leads : Parts → Type 0) (o : Outcome) → BlockMeans files content (λ _. ⊥) o → BlockMeans files content Leads o
block_stops files content Leads o h =
    sources_stop _ content _ _ _ o (λ library.
    sources_stop _ content _ _ _ o (λ netlist.
    sources_stop _ content _ _ _ o (λ parasitics.
    sources_stop _ content _ _ _ o (λ constraints. linking_stops _ Leads o)))) h

-- a design that the files make leads to the outcome
pub block_leads : (files : BlockFiles) (content : Contents) (Leads : Parts → Type 0) (o : Outcome) (d : Parts) → MakeDesign files content d → Leads d → BlockMeans files content Leads o
block_leads files content Leads o d m leads = all_lead files content (λ x. LinkingMeans x Leads o) o m.inputs m.held (inr (d, m.linked, m.sound, leads))
