-- What a SPEF text means is sound to be linked.
use Rattle.std.specs.Prelude.{ℕ, List, [], ◌∷◌, Result, Ok, Err, IfOk}
use Rattle.std.proofs.Common.{arith}
use Rattle.std.proofs.lemmas.List.Elements.{All-from_recursion, All-weaker}
use Rattle.std.proofs.lemmas.Result.{IfOk-at_ok}
use Rattle.text_forms.specs.Stops.{Gives}
use Rattle.text_forms.proofs.Bytes.{each-weaker, name_is}
use Rattle.text_forms.proofs.Kept.{through}
use Rattle.xt_lex.specs.declared.text_fault.TextFault.{TextFault}
use Rattle.xt_model.specs.Names.{IsName}
use Rattle.spef_read.specs.declared.parasitics.Parasitics.{Parasitics}
use Rattle.spef_read.specs.Meaning.{State}
use Rattle.spef_read.specs.Reading.{text_state, parasitics_in, parasitics_of}
use Rattle.spef_read.specs.Sound.{IsSoundWire, AreSoundParasitics}
use Rattle.spef_read.proofs.FineStates.{of_names, wire_more, IsFine}
use Rattle.spef_read.proofs.FineTexts.{text_fine}
use Rattle.spef_read.proofs.WholeNames.{IsWhole}

abbrev parasitics : State → Parasitics
parasitics s = record { delimiter = s.marks.delimiter; names = s.names; nets = s.nets }

state_sound : (s : State) → IsFine s → AreSoundParasitics (parasitics s)
state_sound s h = record {
  names = All-from_recursion (λ e. IsName e.0) s.names (each-weaker (λ e. IsWhole e.0) (λ e. IsName e.0) (λ e w. name_is e.0 w.some w.short w.graphic) s.names h.named);
  delimiter = name_is (s.marks.delimiter ∷ []) (omega arith) (omega arith) (h.printable, tt);
  wires = All-weaker (IsSoundWire (of_names s.names)) (IsSoundWire (parasitics s)) (wire_more (of_names s.names) (parasitics s) (omega arith)) s.nets h.wires;
}

pub spef_answer : (r : Result Parasitics TextFault) (bytes : List ℕ) → Gives (λ p. p) r (parasitics_of bytes) → IfOk r AreSoundParasitics
spef_answer (Ok p) bytes h =
    IfOk-at_ok AreSoundParasitics h (through IsFine AreSoundParasitics parasitics_in (λ c. tt) state_sound (text_state bytes) (text_fine bytes))
spef_answer (Err fault) bytes h = tt
