-- The four files of a block come to an outcome without a design, which is no text; or they make a design that leads to
-- it.
use Rattle.std.proofs.Common.{◌≡◌, ◌⊎◌, Result, Ok, Err, inl, inr}
use Rattle.xt_model.specs.Parts.{Parts}
use Rattle.liberty_cells.specs.declared.library.Library.{Library}
use Rattle.verilog_net.specs.declared.netlist.Netlist.{Netlist}
use Rattle.spef_read.specs.declared.parasitics.Parasitics.{Parasitics}
use Rattle.sdc_read.specs.declared.constraints.Constraints.{Constraints}
use Rattle.link_rules.specs.Bare.{Inputs}
use Rattle.command_line.specs.Words.{Text}
use Rattle.command_line.specs.declared.words.BlockFiles.{BlockFiles}
use Rattle.call_meaning.specs.declared.refusal.TextRefusal.{TextRefusal}
use Rattle.call_meaning.specs.declared.refusal.Refusal.{Refusal}
use Rattle.call_meaning.specs.Outcome.{Contents, Outcome, refuses, unread}
use Rattle.call_meaning.specs.Linking.{BlockMeans, ConstraintsIn, FileAndText, HoldInputs, HoldsText, LastFilesMean, LibraryIn, LinkingMeans, MakeDesign, NetlistIn, ParasiticsIn, SourceMeans}
use Rattle.call_meaning.proofs.Blocks.{all_lead, text_leads, text_stops}
use Rattle.link_laws.specs.Laws.{HasNoText}

no_text : (o : Outcome) (why : Refusal) → o ≡ refuses why → HasNoText o
no_text o why is text e = absurd cc

none_read : (o : Outcome) (file : Text) → o ≡ unread file → HasNoText o
none_read o file is text e = absurd cc

-- a file that gives no value, or one that leads to the outcome
module _ {V : Type 0} (file : Text) (content : Contents) (Meant : Text → Result V TextRefusal → Type 0) (Leads : V → Type 0) (o : Outcome) where
  abbrev pub TextEnds : Type 0
  TextEnds = (HasNoText o × FileAndText file content Meant (λ _. ⊥) o) ⊎ ((v : V) × HoldsText file content Meant v × Leads v)

  text_ends : FileAndText file content Meant Leads o → TextEnds
  text_ends (inl cannot) = inl (none_read o file cannot, inl cannot)
  text_ends (inr (inl long)) = inl (no_text o _ long.1, inr (inl long))
  text_ends (inr (inr held)) = go held.3.result held.3.meant held.3.leads
    where
      go : (r : Result V TextRefusal) → Meant held.0 r → SourceMeans file r Leads o → TextEnds
      go (Ok v) meant leads = inr (v, record { bytes = held.0; held = held.1; fits = held.2; means = meant }, leads)
      go (Err why) meant is =
          inl (no_text o _ is, inr (inr (held.0, held.1, held.2, record { result = Err why; meant = meant; leads = is })))

module _ (files : BlockFiles) (content : Contents) (Leads : Parts → Type 0) (o : Outcome) where
  abbrev pub BlockEnds : Type 0
  BlockEnds = (HasNoText o × BlockMeans files content (λ _. ⊥) o) ⊎ ((d : Parts) × MakeDesign files content d × Leads d)

  abbrev Linked : Library → Netlist → Parasitics → Constraints → Type 0
  Linked library netlist parasitics constraints =
      LinkingMeans (record { library = library; netlist = netlist; parasitics = parasitics; constraints = constraints }) Leads o

  abbrev Sdc : Library → Netlist → Parasitics → Type 0
  Sdc library netlist parasitics = TextEnds files.sdc content (ConstraintsIn library netlist) (Linked library netlist parasitics) o

  abbrev Spef : Library → Netlist → Type 0
  Spef library netlist =
      TextEnds files.spef content ParasiticsIn (λ parasitics. FileAndText files.sdc content (ConstraintsIn library netlist) (Linked library netlist parasitics) o) o

  abbrev Second : Library → Type 0
  Second library = TextEnds files.netlist content NetlistIn (λ netlist. LastFilesMean files.spef files.sdc content library netlist (λ x. LinkingMeans x Leads o) o) o

  abbrev First : Type 0
  First =
      TextEnds files.lib content LibraryIn
      (λ library. FileAndText files.netlist content NetlistIn (λ netlist. LastFilesMean files.spef files.sdc content library netlist (λ x. LinkingMeans x Leads o) o) o) o

  -- where all four are read, and then three, two and one of them
  at_linking : (x : Inputs) → HoldInputs files content x → LinkingMeans x Leads o → BlockEnds
  at_linking x h (inl none) = inl (no_text o _ none.2, all_lead files content (λ y. LinkingMeans y (λ _. ⊥) o) o x h (inl none))
  at_linking x h (inr some) = inr (some.0, record { inputs = x; held = h; linked = some.1; sound = some.2 }, some.3)

  module _ (library : Library) (a : HoldsText files.lib content LibraryIn library) where
    module _ (netlist : Netlist) (b : HoldsText files.netlist content NetlistIn netlist) where
      at_sdc : (parasitics : Parasitics) → HoldsText files.spef content ParasiticsIn parasitics → Sdc library netlist parasitics → BlockEnds
      at_sdc parasitics p (inl s) =
          inl (
            s.0,
            text_leads files.lib content LibraryIn _ o library a
                (text_leads files.netlist content NetlistIn _ o netlist b
                (text_leads files.spef content ParasiticsIn _ o parasitics p
                (text_stops files.sdc content (ConstraintsIn library netlist) _ o s.1))),
          )
      at_sdc parasitics p (inr c) = at_linking _ (record { library = a; netlist = b; parasitics = p; constraints = c.1 }) c.2

      at_spef : Spef library netlist → BlockEnds
      at_spef (inl s) =
          inl (
            s.0,
            text_leads files.lib content LibraryIn _ o library a
                (text_leads files.netlist content NetlistIn _ o netlist b
                (text_stops files.spef content ParasiticsIn _ o s.1)),
          )
      at_spef (inr p) = at_sdc p.0 p.1 (text_ends files.sdc content (ConstraintsIn library netlist) _ o p.2)

    at_netlist : Second library → BlockEnds
    at_netlist (inl s) = inl (s.0, text_leads files.lib content LibraryIn _ o library a (text_stops files.netlist content NetlistIn _ o s.1))
    at_netlist (inr b) = at_spef b.0 b.1 (text_ends files.spef content ParasiticsIn _ o b.2)

  at_library : First → BlockEnds
  at_library (inl s) = inl (s.0, text_stops files.lib content LibraryIn _ o s.1)
  at_library (inr a) = at_netlist a.0 a.1 (text_ends files.netlist content NetlistIn _ o a.2)

  pub block_ends : BlockMeans files content Leads o → BlockEnds
  block_ends h = at_library (text_ends files.lib content LibraryIn _ o h)
