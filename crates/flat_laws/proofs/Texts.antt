-- What a text means where one module alone is admitted, and where several are.
use Rattle.std.specs.Prelude.{◌≡◌, refl, not, true, false, List, [], ◌∷◌, length, Ok, Err}
use Rattle.std.specs.List.{All, AllByRecursion, list_all, list_any}
use Rattle.std.specs.Str.{bytes_eq}
use Rattle.std.proofs.lemmas.Bool.{and_parts, or_from, not-true}
use Rattle.std.proofs.lemmas.List.Elements.{recursion_from_All, All-from_recursion}
use Rattle.std.proofs.Common.{arith, subst, ◌⊎◌, sym, ap, ◌∙◌, inl, inr}
use Rattle.name_numbers.specs.Names.{Text}
use Rattle.text_forms.specs.Forms.{Refusal}
use Rattle.text_forms.specs.Refusals.{Meant}
use Rattle.xt_lex.specs.Bytes.{last_line}
use Rattle.xt_model.specs.declared.code.Code.{Code}
use Rattle.xt_model.specs.declared.code.Code.TheVariants.{V3}
use Rattle.verilog_net.specs.declared.netlist.Instance.{Instance}
use Rattle.verilog_net.specs.declared.netlist.Netlist.{Netlist}
use Rattle.verilog_net.specs.declared.netlist.Wire.{Wire}
use Rattle.verilog_net.specs.declared.netlist.Wire.TheVariants as wires
use Rattle.verilog_net.specs.Meaning.{State}
use Rattle.verilog_net.specs.Reading.{text_state, modules_in, modules_of, one_of, netlist_of_text}
use Rattle.hier_flatten.specs.Alone.{is_plain, is_alone}
use Rattle.hier_flatten.specs.Fits.{cell_pin_fits}
use Rattle.hier_flatten.specs.Meaning.{FlatMeans}
use Rattle.verilog_net.proofs.FineTexts.{netlist_fine}
use Rattle.flat_laws.specs.Laws.{IsOneBit, ConnectsBits, IsItself}
use Rattle.flat_laws.proofs.Alone.{MeanSame, text_same}
use Rattle.flat_laws.proofs.Known.{IsClosed}
use Rattle.flat_laws.proofs.KnownTexts.{text_ended}
use Rattle.flat_laws.proofs.Itself.{itself}
use Rattle.flat_laws.proofs.Spoilt.{HavePlain, IsCleanAfter, read_alone}

-- one module that ended
record IsOne (ms : List Netlist) : Type 0 where
  one : Netlist
  whole : ms ≡ one ∷ []

one_is : (ms : List Netlist) → length ms ≡ 1 → IsOne ms
one_is [] e = absurd (cc)
one_is (m ∷ []) e = record { one = m; whole = refl }
one_is (m ∷ n ∷ ms) e = absurd (cc)

-- ---- instances of cells, without a whole bus
pin_bit : (p : Text × Wire) → cell_pin_fits p ≡ true → IsOneBit p.1
pin_bit (name, wires.Open) e = tt
pin_bit (name, wires.Constant) e = tt
pin_bit (name, wires.Bit decl bit) e = tt
pin_bit (name, wires.Whole decl) e = absurd (cc)

pin_bits : (pins : List (Text × Wire)) → list_all cell_pin_fits pins ≡ true → AllByRecursion (λ p. IsOneBit p.1) pins
pin_bits [] e = tt
pin_bits (p ∷ pins) e = let parts = and_parts (cell_pin_fits p) (list_all cell_pin_fits pins) e in (pin_bit p parts.0, pin_bits pins parts.1)

module _ (name : Text) where
  connect_bits : (is : List Instance) → list_all (is_plain name) is ≡ true → AllByRecursion (λ i. All (λ p. IsOneBit p.1) i.pins) is
  connect_bits [] e = tt
  connect_bits (i ∷ is) e =
      let parts = and_parts (is_plain name i) (list_all (is_plain name) is) e in
      let pins = and_parts (not (bytes_eq name i.cell)) (list_all cell_pin_fits i.pins) parts.0 in
      (All-from_recursion (λ p. IsOneBit p.1) i.pins (pin_bits i.pins pins.1), connect_bits is parts.1)

  none_itself : (is : List Instance) → list_all (is_plain name) is ≡ true → list_any (λ i. bytes_eq name i.cell) is ≡ false
  none_itself [] e = refl
  none_itself (i ∷ is) e =
      let parts = and_parts (is_plain name i) (list_all (is_plain name) is) e in
      let pins = and_parts (not (bytes_eq name i.cell)) (list_all cell_pin_fits i.pins) parts.0 in
      or_from (bytes_eq name i.cell) (list_any (λ j. bytes_eq name j.cell) is) (not-true (bytes_eq name i.cell) pins.0) (none_itself is parts.1)

module _ (bytes : Text) where
  alone_by : (r q : Meant State) (s : State) → r ≡ Ok s → MeanSame r q → modules_in q ≡ Ok s.ended
  alone_by r q s at (inl e) = absurd (cc (sym at ∙ e.1))
  alone_by r q s at (inr e) = rw (e, at) refl

  module_by : (r : Meant State) (m : Netlist) → text_state true bytes ≡ r → one_of (modules_in r) ≡ Ok m → (modules_of bytes ≡ Ok (m ∷ [])) × IsClosed m
  module_by (Err why) m at e = absurd (cc)
  module_by (Ok s) m at e =
      let end = text_ended bytes s at in
      let one = one_is s.ended end.1.ended in
      let first : ◌≡◌ {A = Meant Netlist} (Ok one.one) (Ok m) = rw one.whole at e in
      let same : one.one ≡ m = cc in
      let closed : AllByRecursion IsClosed (one.one ∷ []) = rw one.whole at end.0.closed in (
        alone_by (text_state true bytes) (text_state false bytes) s at (text_same bytes) ∙ (ap (λ ms. Ok ms) one.whole ∙ ap (λ n. Ok (n ∷ [])) same),
        rw same at closed.0,
      )

  pub module_is_itself : (m : Netlist) → netlist_of_text bytes ≡ Ok m → IsItself bytes m
  module_is_itself m e =
      let parts = module_by (text_state true bytes) m refl e in
      record { alone = parts.0; flat = λ free. itself m (netlist_fine bytes m e) parts.1 (last_line bytes) free }

  refused_by : (r q : Meant State) (why : Refusal Code) → text_state true bytes ≡ r → MeanSame r q → one_of (modules_in r) ≡ Err why
      → (why.code ≡ V3) ⊎ (modules_in q ≡ Err why)
  refused_by (Ok s) q why at same e =
      let one = one_is s.ended (text_ended bytes s at).1.ended in
      let no : ◌≡◌ {A = Meant Netlist} (Ok one.one) (Err why) = rw one.whole at e in
      absurd (cc)
  refused_by (Err other) q why at (inl v) e =
      let is : other ≡ why = cc in
      let place : other ≡ record { line = v.0; code = V3 } = cc in
      inl (ap (λ (p : Refusal Code). p.code) (sym is ∙ place))
  refused_by (Err other) q why at (inr same) e =
      let is : other ≡ why = cc in
      inr (rw same (ap (λ p. Err p) is))

  pub refused_alike : (why : Refusal Code) → netlist_of_text bytes ≡ Err why → (why.code ≡ V3) ⊎ (modules_of bytes ≡ Err why)
  refused_alike why e = refused_by (text_state true bytes) (text_state false bytes) why refl (text_same bytes) e

  -- what a module connects, item by item
  instances_plain : (is : List Instance) → AllByRecursion (λ i. All (λ p. IsOneBit p.1) i.pins) is → HavePlain is
  instances_plain [] h = tt
  instances_plain (i ∷ is) h = (recursion_from_All (λ p. IsOneBit p.1) i.pins h.0, instances_plain is h.1)

  read_by : (r : Meant State) (m : Netlist) → text_state false bytes ≡ r → modules_in r ≡ Ok (m ∷ []) → ConnectsBits m → netlist_of_text bytes ≡ Ok m
  read_by (Err why) m at e bits = absurd (cc)
  read_by (Ok s) m at e bits =
      let ended : s.ended ≡ m ∷ [] = cc in
      let plain : HavePlain m.instances = instances_plain m.instances (recursion_from_All (λ i. All (λ p. IsOneBit p.1) i.pins) m.instances bits) in
      let clean : IsCleanAfter (m ∷ []) = record { few = omega arith; plain = (plain, tt) } in
      let alone = read_alone bytes s (subst IsCleanAfter (sym ended) clean) at in
      let same : alone.end.ended ≡ m ∷ [] = ap (λ (t : State). t.ended) alone.whole ∙ ended in
      ap (λ r. one_of (modules_in r)) alone.read ∙ ap (λ ms. one_of (Ok ms)) same

  pub module_is_read : (m : Netlist) → modules_of bytes ≡ Ok (m ∷ []) → ConnectsBits m → netlist_of_text bytes ≡ Ok m
  module_is_read m e bits = read_by (text_state false bytes) m refl e bits

  pub alone_is_flat : (m : Netlist) → modules_of bytes ≡ Ok (m ∷ []) → is_alone (m ∷ []) ≡ true → FlatMeans (m ∷ []) (last_line bytes) (Ok m)
  alone_is_flat m e plain =
      let bits : ConnectsBits m = All-from_recursion (λ i. All (λ p. IsOneBit p.1) i.pins) m.instances (connect_bits m.«module» m.instances plain) in
      let own = module_is_itself m (module_is_read m e bits) in
      own.flat (or_from (list_any (λ i. bytes_eq m.«module» i.cell) m.instances) false (none_itself m.«module» m.instances plain) refl)
