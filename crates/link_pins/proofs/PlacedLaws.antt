-- Pins have the places of the first of their names.
use Rattle.std.proofs.Common.{◌≡◌, ℕ, zero, suc, ◌≤◌, List, [], ◌∷◌, ◌++◌, length, map, get_or, append_assoc, Some, refl, sym, ap, ◌∙◌, subst, arith}
use Rattle.std.specs.Prelude.{Option, None, bytes_eq, filter_map, find}
use Rattle.std.specs.List.{All, slice_get, cons_option}
use Rattle.std.specs.Option.{IsSomeAnd, option_to_list}
use Rattle.std.proofs.lemmas.List.{map-append}
use Rattle.std.proofs.lemmas.List.Elements.{All-append}
use Rattle.std.proofs.lemmas.Option.{same_Some}
use Rattle.std.proofs.lemmas.Slice.Eq.{bytes_eq-Decides}
use Rattle.name_numbers.specs.Names.{Text}
use Rattle.liberty_cells.specs.declared.cell.Cell.{Cell}
use Rattle.liberty_cells.specs.declared.library.Library.{Library}
use Rattle.verilog_net.specs.declared.netlist.Instance.{Instance}
use Rattle.verilog_net.specs.declared.netlist.Netlist.{Netlist}
use Rattle.verilog_net.specs.declared.netlist.Wire.{Wire}
use Rattle.link_rules.specs.Pins.{Connected, connected}
use Rattle.link_index.specs.Cells.{cell_place, pin_place}
use Rattle.link_pins.specs.declared.pins.PinOn.{PinOn}
use Rattle.link_pins.specs.Places.{IsPlaced}
use Rattle.link_index.proofs.FirstLaws.{first_and_rest, rest_of}
use Rattle.link_pins.proofs.PinLaws.{some_and, find_some, passes}

pub one : {A : Type 0} (P : A → Type 0) (x : A) → P x → All P (x ∷ [])
one P x h zero d lt = h
one P x h (suc k) d lt = absurd (omega arith)

pub placed_more : (library : Library) (netlist : Netlist) (old new : List PinOn) (p : PinOn) → IsPlaced library netlist p → new ≡ old ++ p ∷ []
    → All (IsPlaced library netlist) old → All (IsPlaced library netlist) new
placed_more library netlist old new p is push all =
    subst (All (IsPlaced library netlist)) (sym push) (All-append (IsPlaced library netlist) old (p ∷ []) all (one (IsPlaced library netlist) p is))

pub placed_by_name : (library : Library) (netlist : Netlist) (number : ℕ) (i : Instance) → slice_get netlist.instances number ≡ Some i → (cell : ℕ) → cell_place library i.cell ≡ Some cell
    → (name : Text) (place net : ℕ) → IsSomeAnd (slice_get library.cells cell) (λ c. Some place ≡ pin_place c name)
    → IsPlaced library netlist (record { instance = number; cell = cell; pin = place; net = net })
placed_by_name library netlist number i at cell is name place net h =
    let s = some_and (slice_get library.cells cell) (λ (c : Cell). Some place ≡ pin_place c name) h in
    record {
      cell = λ j there. ap (λ (x : Instance). cell_place library x.cell) (same_Some j i (sym there ∙ at)) ∙ is;
      pin = λ c q here stands.
          let same : s.0 ≡ c = same_Some s.0 c (sym s.1 ∙ here) in
          let first : pin_place c name ≡ Some place = sym (subst (λ (x : Cell). Some place ≡ pin_place x name) same s.2) in
          let found : find (λ p. bytes_eq name p.name) c.pins ≡ Some q = find_some (λ p. bytes_eq name p.name) c.pins place first ∙ stands in
          let named : name ≡ q.name = (bytes_eq-Decides name q.name).0 (passes (λ p. bytes_eq name p.name) c.pins q found) in
          ap (pin_place c) (sym named) ∙ first;
    }

-- a pin of the text more
pub pin_turn : (library : Library) (netlist : Netlist) (number : ℕ) (i : Instance) (rest : List (Text × Wire)) (d : Text × Wire) (now next start : List (Option Connected)) → 1 ≤ length rest
    → d ≡ get_or rest 0 d → next ≡ now ++ map Some (option_to_list (connected library netlist number i d)) → now ++ map Some (filter_map (connected library netlist number i) rest) ≡ start
    → next ++ map Some (filter_map (connected library netlist number i) (rest_of rest)) ≡ start
pin_turn library netlist number i rest d now next start some is step so_far =
    let whole : filter_map (connected library netlist number i) rest
    ≡ option_to_list (connected library netlist number i d) ++ filter_map (connected library netlist number i) (rest_of rest) =
    ap (filter_map (connected library netlist number i)) (first_and_rest rest d some)
    ∙ (by (connected library netlist number i (get_or rest 0 d)) (filter_map (connected library netlist number i) (rest_of rest))
    ∙ ap (λ x. option_to_list (connected library netlist number i x) ++ filter_map (connected library netlist number i) (rest_of rest)) (sym is)) in
    ap (λ l. l ++ map Some (filter_map (connected library netlist number i) (rest_of rest))) step
    ∙ (append_assoc now (map Some (option_to_list (connected library netlist number i d))) (map Some (filter_map (connected library netlist number i) (rest_of rest)))
    ∙ (ap (λ l. now ++ l) (sym (ap (map Some) whole ∙ map-append Some (option_to_list (connected library netlist number i d)) (filter_map (connected library netlist number i) (rest_of rest)))) ∙ so_far))
  where
    by : (o : Option Connected) (l : List Connected) → cons_option o l ≡ option_to_list o ++ l
    by None l = refl
    by (Some c) l = refl
