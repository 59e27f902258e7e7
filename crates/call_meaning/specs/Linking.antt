-- What the four files of a block come to: a library, a netlist, parasitics and constraints, each read and then its
-- text, in this order; and their linking.
use Rattle.std.specs.Prelude.{◌≡◌, ℕ, ◌+◌, ◌≤◌, ◌⊎◌, List, length, Result, Ok, Err, None, IfSome}
use Rattle.xt_model.specs.declared.code.Code.{Code}
use Rattle.xt_model.specs.Limits.{most_instances}
use Rattle.xt_model.specs.Parts.{Parts}
use Rattle.xt_model.specs.Sound.{IsSound}
use Rattle.xt_lex.specs.Bytes.{last_line}
use Rattle.xt_lex.specs.declared.text_fault.TextFault.{TextFault}
use Rattle.xt_lex.specs.declared.text_fault.TextFault.TheVariants as texts
use Rattle.text_forms.specs.Forms.{Refusal as Place}
use Rattle.liberty_cells.specs.Library.{library_meant}
use Rattle.liberty_cells.specs.declared.library.Library.{Library}
use Rattle.verilog_net.specs.Reading.{modules_of}
use Rattle.verilog_net.specs.declared.netlist.Netlist.{Netlist}
use Rattle.hier_flatten.specs.Meaning.{FlatMeans}
use Rattle.hier_flatten.specs.declared.fault.FlatFault.TheVariants as flat
use Rattle.spef_read.specs.Reading.{parasitics_of}
use Rattle.spef_read.specs.declared.parasitics.Parasitics.{Parasitics}
use Rattle.sdc_read.specs.Reading.{constraints_of}
use Rattle.sdc_read.specs.declared.constraints.Constraints.{Constraints}
use Rattle.link_rules.specs.Bare.{Inputs}
use Rattle.link_rules.specs.Link.{IsLinked, IsRefused}
use Rattle.link_rules.specs.declared.fault.LinkFault.{LinkFault}
use Rattle.link_rules.specs.declared.fault.LinkFault.TheVariants as faults
use Rattle.command_line.specs.Words.{Text}
use Rattle.call_meaning.specs.Outcome.{Contents, Outcome, refuses, FileMeans}
use Rattle.call_meaning.specs.FailureWords.{most_bytes}
use Rattle.command_line.specs.declared.words.BlockFiles.{BlockFiles}
use Rattle.call_meaning.specs.declared.refusal.Unlinked.{Unlinked}
use Rattle.call_meaning.specs.declared.refusal.Unlinked.TheVariants as unlinked
use Rattle.call_meaning.specs.declared.refusal.TextRefusal.{TextRefusal}
use Rattle.call_meaning.specs.declared.refusal.TextRefusal.TheVariants.{At, Beyond}
use Rattle.call_meaning.specs.declared.refusal.FileRefusal.TheVariants.{Content}
use Rattle.call_meaning.specs.declared.refusal.Refusal.TheVariants.{File, Linking}
use Rattle.call_meaning.specs.declared.refusal.Stop.{Stop}
use Rattle.call_meaning.specs.declared.refusal.Stop.TheVariants as stops

-- ---- the texts

-- what the text of a file means: why it is refused; or a value that leads to the outcome
abbrev pub SourceMeans : {V : Type 0} → Text → Result V TextRefusal → (V → Type 0) → Outcome → Type 0
SourceMeans file (Ok value) Leads outcome = Leads value
SourceMeans file (Err why) Leads outcome = outcome ≡ refuses (File file (Content why))

-- why a file whose text is at fault gives nothing
abbrev pub stop_at : Text → TextFault → Stop
stop_at file (texts.Refused line code) = stops.Refused (File file (Content (At line code)))
stop_at file texts.NoMemory = stops.NoMemory

-- a text that means a result, and where this leads
pub record TextMeans {V : Type 0} (file bytes : Text) (Meant : Text → Result V TextRefusal → Type 0)
    (Leads : V → Type 0) (outcome : Outcome) : Type 0 where
  pub result : Result V TextRefusal
  pub meant : Meant bytes result
  pub leads : SourceMeans file result Leads outcome

-- a file, and then its text
abbrev pub FileAndText : {V : Type 0} → Text → Contents → (Text → Result V TextRefusal → Type 0) → (V → Type 0)
    → Outcome → Type 0
FileAndText file content Meant Leads outcome =
    FileMeans file content (λ bytes. TextMeans file bytes Meant Leads outcome) outcome

-- where a text is refused by its first place, it is refused at its line
abbrev pub by_line : {V : Type 0} → Result V (Place Code) → Result V TextRefusal
by_line (Ok value) = Ok value
by_line (Err place) = Err (At place.line place.code)

abbrev pub LibraryIn : Text → Result Library TextRefusal → Type 0
LibraryIn bytes r = by_line (library_meant bytes) ≡ r

-- the modules of a text with this last line: they are one flat netlist, or are refused at a line, or pass a limit; that
-- one prints one more than may be, also where there are more
abbrev pub FlatIn : List Netlist → ℕ → Result Netlist TextRefusal → Type 0
FlatIn modules last (Ok netlist) = FlatMeans modules last (Ok netlist)
FlatIn modules last (Err (At line code)) = FlatMeans modules last (Err (flat.Refused line code))
FlatIn modules last (Err (Beyond limit)) =
    FlatMeans modules last (Err (flat.Limit limit.what)) × (limit.name ≡ None) × (limit.value ≡ most_instances + 1)

-- a text without modules is refused by its first place
abbrev pub ModulesIn : Result (List Netlist) (Place Code) → ℕ → Result Netlist TextRefusal → Type 0
ModulesIn (Ok modules) last r = FlatIn modules last r
ModulesIn (Err place) last r = Err (At place.line place.code) ≡ r

abbrev pub NetlistIn : Text → Result Netlist TextRefusal → Type 0
NetlistIn bytes r = ModulesIn (modules_of bytes) (last_line bytes) r

abbrev pub ParasiticsIn : Text → Result Parasitics TextRefusal → Type 0
ParasiticsIn bytes r = by_line (parasitics_of bytes) ≡ r

-- the constraints are for the netlist, and count by the units of the library until they give their own
abbrev pub ConstraintsIn : Library → Netlist → Text → Result Constraints TextRefusal → Type 0
ConstraintsIn library netlist bytes r =
    by_line (constraints_of bytes netlist.nets library.time_scale library.cap_scale) ≡ r

-- the last two files in their order, for the library and the netlist of the first two
abbrev pub LastFilesMean : Text → Text → Contents → Library → Netlist → (Inputs → Type 0) → Outcome → Type 0
LastFilesMean spef sdc content library netlist Leads outcome =
    FileAndText spef content ParasiticsIn (λ parasitics.
    FileAndText sdc content (ConstraintsIn library netlist) (λ constraints.
    Leads (record {
      library = library;
      netlist = netlist;
      parasitics = parasitics;
      constraints = constraints;
    })) outcome) outcome

-- the four files in their order, each read and then its text: the first that gives nothing has the outcome, or their
-- values lead to it
abbrev pub FilesMean : BlockFiles → Contents → (Inputs → Type 0) → Outcome → Type 0
FilesMean files content Leads outcome =
    FileAndText files.lib content LibraryIn (λ library.
    FileAndText files.netlist content NetlistIn (λ netlist.
    LastFilesMean files.spef files.sdc content library netlist Leads outcome) outcome) outcome

-- ---- linking

-- why the values make no design, as the fault of linking that it is
abbrev pub fault_of : Unlinked → LinkFault
fault_of (unlinked.Refused why) = faults.Refused why
fault_of (unlinked.Beyond limit) = faults.Limit limit.what limit.name limit.value

-- the values are refused, by their first fault; or they make a design, which is sound, that leads to the outcome
abbrev pub LinkingMeans : Inputs → (Parts → Type 0) → Outcome → Type 0
LinkingMeans x Leads outcome =
    ((why : Unlinked) × IsRefused x (fault_of why) × (outcome ≡ refuses (Linking why)))
    ⊎ ((d : Parts) × IsLinked x d × IsSound d × Leads d)

-- the four files of a block, and then their linking
abbrev pub BlockMeans : BlockFiles → Contents → (Parts → Type 0) → Outcome → Type 0
BlockMeans files content Leads outcome = FilesMean files content (λ x. LinkingMeans x Leads outcome) outcome

-- ---- what was read

-- the file holds bytes, no more than a file may have and its content where that is known, that mean this value
pub record HoldsText {V : Type 0} (file : Text) (content : Contents) (Meant : Text → Result V TextRefusal → Type 0)
    (value : V) : Type 0 where
  pub bytes : Text
  pub held : IfSome (content file) (λ whole. bytes ≡ whole)
  pub fits : length bytes ≤ most_bytes
  pub means : Meant bytes (Ok value)

-- the four files hold texts of these values
pub record HoldInputs (files : BlockFiles) (content : Contents) (x : Inputs) : Type 0 where
  pub library : HoldsText files.lib content LibraryIn x.library
  pub netlist : HoldsText files.netlist content NetlistIn x.netlist
  pub parasitics : HoldsText files.spef content ParasiticsIn x.parasitics
  pub constraints : HoldsText files.sdc content (ConstraintsIn x.library x.netlist) x.constraints

-- the last two files make this design, for the library and the netlist of the first two
pub record FinishDesign (spef sdc : Text) (content : Contents) (library : Library) (netlist : Netlist) (d : Parts)
    : Type 0 where
  pub parasitics : Parasitics
  pub constraints : Constraints
  pub spef_held : HoldsText spef content ParasiticsIn parasitics
  pub sdc_held : HoldsText sdc content (ConstraintsIn library netlist) constraints
  pub linked : IsLinked (record {
    library = library;
    netlist = netlist;
    parasitics = parasitics;
    constraints = constraints;
  }) d
  pub sound : IsSound d

-- the four files make this design
pub record MakeDesign (files : BlockFiles) (content : Contents) (d : Parts) : Type 0 where
  pub inputs : Inputs
  pub held : HoldInputs files content inputs
  pub linked : IsLinked inputs d
  pub sound : IsSound d
