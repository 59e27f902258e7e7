-- A text of one module that connects no whole bus is read also where one module alone is admitted.
use Rattle.std.specs.Prelude.{◌≡◌, refl, ℕ, ◌≤◌, not, ◌&&◌, ◌||◌, ◌==◌, Bool, true, false, List, [], ◌∷◌, ◌++◌, length, Option, Some, None, Result, Ok, Err, if◌then◌else◌}
use Rattle.std.specs.List.{AllByRecursion, list_all}
use Rattle.std.proofs.Common.{arith, sym, ap, ◌∙◌, subst, inl, inr}
use Rattle.std.proofs.lemmas.Bool.{false≢true, or_cases, or_parts, or_right}
use Rattle.std.proofs.lemmas.List.{length_push}
use Rattle.name_numbers.specs.Names.{Text, has_name, found, with_name}
use Rattle.text_forms.specs.Forms.{Refusal, at_line}
use Rattle.text_forms.specs.Meaning.{Reading, Ends, Refuses, Yields, reading, meaning, text_means}
use Rattle.text_forms.specs.Refusals.{tokens_refused, unless}
use Rattle.xt_lex.specs.declared.rules.Rules.TheVariants.{Verilog}
use Rattle.xt_model.specs.Results.{◌>>=◌}
use Rattle.xt_model.specs.declared.code.Code.{Code}
use Rattle.xt_model.specs.declared.code.Code.TheVariants.{V1, V2, V3, V4, V5, V6}
use Rattle.verilog_net.specs.declared.context.Context.TheVariants.{Start}
use Rattle.verilog_net.specs.declared.netlist.Instance.{Instance}
use Rattle.verilog_net.specs.declared.netlist.Net.{Net}
use Rattle.verilog_net.specs.declared.netlist.Netlist.{Netlist}
use Rattle.verilog_net.specs.declared.netlist.PortRole.{PortRole}
use Rattle.verilog_net.specs.declared.netlist.PortRole.TheVariants as roles
use Rattle.verilog_net.specs.declared.netlist.Wire.{Wire}
use Rattle.verilog_net.specs.declared.netlist.Wire.TheVariants as wires
use Rattle.verilog_net.specs.Sorts.{same_sort, netlist_tokens}
use Rattle.verilog_net.specs.Nets.{NetBit, number_of, has_bit, named_bit, same_range, joined_role, has_bit_net, is_port}
use Rattle.verilog_net.specs.Forms.{Item, misfits, forms}
use Rattle.verilog_net.specs.Forms as grammar
use Rattle.verilog_net.specs.Meaning.{State, nothing, means, begin_module, name_module, list_name, netlist_of, end_module, with_further, declare_again, declare_new, declare_as, declare, left_as, left_bound, right_as, right_bound}
use Rattle.verilog_net.specs.Meaning.{begin_further, begin_pin, connect, connect_new, connect_found, connect_as, connect_name, connect_within, connect_bit_as, connect_bit, instance_of, end_instance}
use Rattle.verilog_net.specs.Reading.{rest_means, text_state}
use Rattle.flat_laws.specs.Laws.{IsOneBit}
use Rattle.flat_laws.proofs.Alone.{several, is_range, is_bus, spoils, IsSame, item_same}
use Rattle.flat_laws.proofs.Known.{past, held}
use Rattle.verilog_net.proofs.Stages.{Stage, before, in_module, in_instance, in_pin, between, after, ItemsKeep, text_kept}

-- ---- what one module alone admits
abbrev pub ArePlain : List (Text × Wire) → Type 0
ArePlain pins = AllByRecursion (λ p. IsOneBit p.1) pins

abbrev pub HavePlain : List Instance → Type 0
HavePlain is = AllByRecursion (λ i. ArePlain i.pins) is

abbrev pub EndPlain : List Netlist → Type 0
EndPlain ms = AllByRecursion (λ m. HavePlain m.instances) ms

pub record IsCleanAfter (ms : List Netlist) : Type 0 where
  pub few : length ms ≤ 1
  pub plain : EndPlain ms

record IsCleanModule (ms : List Netlist) (is : List Instance) : Type 0 where
  first : ms ≡ []
  plain : HavePlain is

record IsCleanInstance (ms : List Netlist) (is : List Instance) (ps : List (Text × Wire)) : Type 0 where
  first : ms ≡ []
  plain : HavePlain is
  pins : ArePlain ps

-- so far there is one module at most, and no whole bus
abbrev Clean : Stage → State → Type 0
Clean before s = s.ended ≡ []
Clean in_module s = IsCleanModule s.ended s.instances
Clean in_instance s = IsCleanInstance s.ended s.instances s.pins
Clean in_pin s = IsCleanInstance s.ended s.instances s.pins
Clean between s = IsCleanModule s.ended s.instances
Clean after s = IsCleanAfter s.ended

-- ---- a state, and whether one module alone would have been refused
abbrev Marked : Type 0
Marked = State × Bool

abbrev marked : Item → Marked → Result Marked Code
marked item x = means item x.0 >>= (λ s. Ok (s, x.1 || spoils item x.0))

-- one that was refused is not clean
abbrev Holds : Stage → Marked → Type 0
Holds stage x = x.1 ≡ true → Clean stage x.0 → ⊥

-- what is clean after an item was so before it, and the item is not refused
abbrev Back : Stage → Stage → Item → Type 0
Back stage next item = (s s' : State) → means item s ≡ Ok s' → Clean next s' → Clean stage s × (spoils item s ≡ false)

keeps_by : (stage next : Stage) (item : Item) (s : State) (b : Bool) (r : Result State Code) (x' : Marked) → means item s ≡ r → Back stage next item
    → (b ≡ true → Clean stage s → ⊥) → (r >>= (λ t. Ok (t, b || spoils item s))) ≡ Ok x' → Holds next x'
keeps_by stage next item s b (Err code) x' at back h e mark clean = absurd (cc)
keeps_by stage next item s b (Ok t) x' at back h e mark clean =
    let same : ◌≡◌ {A = Marked} (t, b || spoils item s) x' = cc in
    let parts = back s t at (subst (λ x. Clean next x.0) (sym same) clean) in
    let either : (b || spoils item s) ≡ true = ap (λ x. x.1) same ∙ mark in
    elim (or_cases b (spoils item s) either) [
      | inl was ↦ h was parts.0
      | inr now ↦ false≢true (sym parts.1 ∙ now)
    ]

kept : (stage next : Stage) (item : Item) → Back stage next item → (x x' : Marked) → Holds stage x → marked item x ≡ Ok x' → Holds next x'
kept stage next item back x x' h e = keeps_by stage next item x.0 x.1 (means item x.0) x' refl back h e

-- ---- lists
module _ {X : Type 0} (P : X → Type 0) where
  front_of : (xs : List X) (x : X) → AllByRecursion P (xs ++ x ∷ []) → AllByRecursion P xs
  front_of [] x a = tt
  front_of (y ∷ xs) x a = (a.0, front_of xs x a.1)

  last_of : (xs : List X) (x : X) → AllByRecursion P (xs ++ x ∷ []) → P x
  last_of [] x a = a.0
  last_of (y ∷ xs) x a = last_of xs x a.1

none_of : (ms : List Netlist) (m : Netlist) → length (ms ++ m ∷ []) ≤ 1 → ms ≡ []
none_of [] m le = refl
none_of (n ∷ ms) m le = absurd (omega (arith, length_push (n ∷ ms) m, le))

-- ---- items, read backwards
module _ (s s' : State) where
  begins_is : begin_module s ≡ Ok s' → s ≡ s'
  unfolding begin_module
  begins_is e = (past (s.single && not (length s.ended == 0)) V3 s s' e).1

  named_back : (name : Text) → name_module name s ≡ Ok s' → Clean in_module s' → Clean before s
  unfolding name_module
  named_back name e clean =
      let x : State = record s { modules = with_name name s.modules; current = name; header = []; bit_nets = []; instance_names = [] } in
      (subst (Clean in_module) (sym (past (has_name name s.modules) V5 x s' e).1) clean).first

  end_back : end_module s ≡ Ok s' → Clean after s' → Clean in_module s
  unfolding end_module
  end_back e clean =
      let x : State = record s { ended = s.ended ++ netlist_of s ∷ []; nets = []; instances = [] } in
      let c : Clean after x = subst (Clean after) (sym (held (list_all (λ name. is_port name s.nets) s.header) V4 x s' e).1) clean in
      record { first = none_of s.ended (netlist_of s) c.few; plain = last_of (λ m. HavePlain m.instances) s.ended (netlist_of s) c.plain }

  again_back : (name : Text) (net : Net) (role : Option PortRole) → declare_again name s net role ≡ Ok s' → Clean in_module s' → Clean in_module s
  again_back name net None e clean = absurd (cc)
  again_back name net (Some role) e clean = subst (Clean in_module) (sym (held (same_range net.range s.range) V3 _ s' e).1) clean

  new_back : (name : Text) (o : Option NetBit) → declare_new name s o ≡ Ok s' → Clean in_module s' → Clean in_module s
  new_back name (Some bit) e clean = absurd (cc)
  new_back name None e clean = subst (Clean in_module) (sym (past (has_bit_net name s.range s.bit_nets) V3 _ s' e).1) clean

  declared_back : (name : Text) (o : Option (ℕ × Net)) → declare_as name s o ≡ Ok s' → Clean in_module s' → Clean in_module s
  declared_back name (Some net) e clean = again_back name net.1 (joined_role net.1.role s.role) e clean
  declared_back name None e clean = new_back name (named_bit name s.nets) e clean

  declare_back : (name : Text) → declare name s ≡ Ok s' → Clean in_module s' → Clean in_module s
  unfolding declare
  declare_back name e clean = declared_back name (found name s.nets) e clean

  left_by : (role : PortRole) (o : Option ℕ) → left_as role s o ≡ Ok s' → Clean in_module s' → Clean in_module s
  left_by role None e clean = absurd (cc)
  left_by role (Some left) e clean = let same : record s { role = role; left = left } ≡ s' = cc in subst (Clean in_module) (sym same) clean

  left_back : (role : PortRole) (digits : Text) → left_bound role digits s ≡ Ok s' → Clean in_module s' → Clean in_module s
  unfolding left_bound
  left_back role digits e clean = left_by role (number_of digits) e clean

  right_by : (o : Option ℕ) → right_as s o ≡ Ok s' → Clean in_module s' → Clean in_module s
  right_by None e clean = absurd (cc)
  right_by (Some right) e clean = let same : record s { range = Some (s.left, right) } ≡ s' = cc in subst (Clean in_module) (sym same) clean

  right_back : (digits : Text) → right_bound digits s ≡ Ok s' → Clean in_module s' → Clean in_module s
  unfolding right_bound
  right_back digits e clean = right_by (number_of digits) e clean

  begin_back : (name : Text) (line : ℕ) → begin_further name line s ≡ Ok s' → Clean in_instance s' → Clean in_module s
  unfolding begin_further
  begin_back name line e clean =
      let x : State = record s { instance_names = with_name name s.instance_names; instance = name; line = line; pin_names = [] } in
      let c : Clean in_instance x = subst (Clean in_instance) (sym (past (has_name name s.instance_names) V5 x s' e).1) clean in
      record { first = c.first; plain = c.plain }

  pin_back : (name : Text) → begin_pin name s ≡ Ok s' → Clean in_instance s' → Clean in_instance s
  unfolding begin_pin
  pin_back name e clean = subst (Clean in_instance) (sym (past (has_name name s.pin_names) V5 _ s' e).1) clean

  connect_back : (wire : Wire) → connect wire s ≡ s' → Clean in_instance s' → Clean in_instance s
  connect_back wire same clean =
      let c : Clean in_instance (connect wire s) = subst (Clean in_instance) (sym same) clean in
      record { first = c.first; plain = c.plain; pins = front_of (λ p. IsOneBit p.1) s.pins (s.pin, wire) c.pins }

  whole_back : (decl : ℕ) → connect (wires.Whole decl) s ≡ s' → Clean in_instance s' → ⊥
  whole_back decl same clean =
      let c : Clean in_instance (connect (wires.Whole decl) s) = subst (Clean in_instance) (sym same) clean in
      last_of (λ p. IsOneBit p.1) s.pins (s.pin, wires.Whole decl) c.pins

  within_back : (decl : ℕ) (range : Option (ℕ × ℕ)) (bit : Option ℕ) → connect_within decl s range bit ≡ Ok s' → Clean in_instance s' → Clean in_instance s
  within_back decl (Some range) (Some bit) e clean = connect_back (wires.Bit decl bit) (held (has_bit range bit) V6 (connect (wires.Bit decl bit) s) s' e).1 clean
  within_back decl (Some range) None e clean = absurd (cc)
  within_back decl None bit e clean = absurd (cc)

  bit_by : (digits : Text) (net : ℕ × Net) (b : Bool) → (if b then connect_within net.0 s net.1.range (number_of digits) else Err V4) ≡ Ok s'
      → Clean in_instance s' → Clean in_instance s
  bit_by digits net false e clean = absurd (cc)
  bit_by digits net true e clean = within_back net.0 net.1.range (number_of digits) e clean

  bits_by : (digits : Text) (o : Option (ℕ × Net)) → connect_bit_as digits s o ≡ Ok s' → Clean in_instance s' → Clean in_instance s
  bits_by digits None e clean = absurd (cc)
  bits_by digits (Some net) e clean = bit_by digits net net.1.declared e clean

  bit_back : (name digits : Text) → connect_bit name digits s ≡ Ok s' → Clean in_instance s' → Clean in_instance s
  unfolding connect_bit
  bit_back name digits e clean = bits_by digits (found name s.nets) e clean

  closed_back : end_instance s ≡ s' → Clean in_module s' → Clean in_instance s
  closed_back same clean =
      let c : Clean in_module (end_instance s) = subst (Clean in_module) (sym same) clean in
      record {
        first = c.first;
        plain = front_of (λ i. ArePlain i.pins) s.instances (instance_of s) c.plain;
        pins = last_of (λ i. ArePlain i.pins) s.instances (instance_of s) c.plain;
      }

module _ (s s' : State) where
  whole_by : (decl : ℕ) (range : Option (ℕ × ℕ)) → connect_found decl s range ≡ Ok s' → Clean in_instance s' → Clean in_instance s × (is_range range ≡ false)
  whole_by decl None e clean = let same : connect (wires.Bit decl 0) s ≡ s' = cc in (connect_back s s' (wires.Bit decl 0) same clean, refl)
  whole_by decl (Some range) e clean = absurd (whole_back s s' decl (past s.single V3 (connect (wires.Whole decl) s) s' e).1 clean)

  used_back : (name : Text) (o : Option NetBit) → connect_new name s o ≡ s' → Clean in_instance s' → Clean in_instance s
  used_back name (Some bit) same clean = connect_back s s' (wires.Bit bit.0 bit.1) same clean
  used_back name None same clean =
      connect_back (with_further name (record { range = None; role = roles.Inner; declared = false }) s) s' (wires.Bit (length s.nets) 0) same clean

  net_by : (name : Text) (o : Option (ℕ × Net)) → connect_as name s o ≡ Ok s' → Clean in_instance s' → Clean in_instance s × (is_bus o ≡ false)
  net_by name (Some net) e clean = whole_by net.0 net.1.range e clean
  net_by name None e clean = let same : connect_new name s (named_bit name s.nets) ≡ s' = cc in (used_back name (named_bit name s.nets) same clean, refl)

  net_back : (name : Text) → connect_name name s ≡ Ok s' → Clean in_instance s' → Clean in_instance s × (is_bus (found name s.nets) ≡ false)
  unfolding connect_name
  net_back name e clean = net_by name (found name s.nets) e clean

same_state : (x s' : State) → ◌≡◌ {A = Result State Code} (Ok x) (Ok s') → x ≡ s'
same_state x s' e = cc

items_back : ItemsKeep marked Holds
unfolding means
items_back = record {
  refused = λ code x x' e. absurd (cc);
  quiet = λ stage. kept stage stage grammar.Nothing (λ s s' e clean. (subst (Clean stage) (sym (same_state s s' e)) clean, refl));
  statement = kept between in_module grammar.Nothing (λ s s' e clean. (subst (Clean in_module) (sym (same_state s s' e)) clean, refl));
  first = kept before before grammar.ModuleBegins (λ s s' e clean.
      let none : s.ended ≡ [] = ap (λ (t : State). t.ended) (begins_is s s' e) ∙ clean in
      (none, ap (λ ms. not (length ms == 0)) none));
  again = kept after before grammar.ModuleBegins (λ s s' e clean.
      let none : s.ended ≡ [] = ap (λ (t : State). t.ended) (begins_is s s' e) ∙ clean in
      (subst IsCleanAfter (sym none) (record { few = omega arith; plain = tt }), ap (λ ms. not (length ms == 0)) none));
  named = λ name. kept before in_module (grammar.ModuleName name) (λ s s' e clean. (named_back s s' name e clean, refl));
  listed = λ name. kept in_module in_module (grammar.Listed name) (λ s s' e clean. (subst (Clean in_module) (sym (same_state (list_name name s) s' e)) clean, refl));
  end = kept in_module after grammar.ModuleEnds (λ s s' e clean. (end_back s s' e clean, refl));
  scalar = λ role name is. kept in_module in_module (grammar.Scalar role name) (λ s s' e clean. (declare_back (record s { role = role; range = None }) s' name e clean, refl));
  left = λ role digits. kept in_module in_module (grammar.Left role digits) (λ s s' e clean. (left_back s s' role digits e clean, refl));
  right = λ digits. kept in_module in_module (grammar.Right digits) (λ s s' e clean. (right_back s s' digits e clean, refl));
  further = λ name is. kept in_module in_module (grammar.Further name) (λ s s' e clean. (declare_back s s' name e clean, refl));
  instance = λ cell name line also is. kept in_module in_instance (grammar.Instance cell name line) (λ s s' e clean. (begin_back (record s { cell = cell }) s' name line e clean, refl));
  further_instance = λ name line is. kept between in_instance (grammar.FurtherInstance name line) (λ s s' e clean. (begin_back s s' name line e clean, refl));
  pin = λ name is. kept in_instance in_pin (grammar.Pin name) (λ s s' e clean. (pin_back s s' name e clean, refl));
  unconnected = kept in_pin in_instance grammar.NoConnection (λ s s' e clean. (connect_back s s' wires.Open (same_state (connect wires.Open s) s' e) clean, refl));
  constant = kept in_pin in_instance grammar.Constant (λ s s' e clean. (connect_back s s' wires.Constant (same_state (connect wires.Constant s) s' e) clean, refl));
  net = λ name is. kept in_pin in_instance (grammar.Net name) (λ s s' e clean. net_back s s' name e clean);
  bit = λ bus digits. kept in_pin in_instance (grammar.Bit bus digits) (λ s s' e clean. (bit_back s s' bus digits e clean, refl));
  closed = kept in_instance between grammar.InstanceEnds (λ s s' e clean. (closed_back s s' (same_state (end_instance s) s' e) clean, refl));
}

-- ---- the run where several modules are admitted, with its mark
record IsMarked (r : Reading Item Code) (s : State) (b : Bool) (s' : State) : Type 0 where
  mark : Bool
  whole : meaning marked r (s, b) ≡ Ok (s', mark)

runs : (r : Reading Item Code) (s : State) (b : Bool) (s' : State) → meaning means r s ≡ Ok s' → IsMarked r s b s'
runs Ends s b s' e = let same : s ≡ s' = cc in record { mark = b; whole = ap (λ t. Ok (t, b)) same }
runs (Refuses why) s b s' e = absurd (cc)
runs (Yields item line more) s b s' e = by (λ t c g. runs more t c s' g) (means item s) refl e
  where
    by : ((t : State) (c : Bool) → meaning means more t ≡ Ok s' → IsMarked more t c s') → (r : Result State Code) → means item s ≡ r
        → (at_line line r >>= meaning means more) ≡ Ok s' → IsMarked (Yields item line more) s b s'
    by rest (Err code) at e = absurd (cc)
    by rest (Ok t) at e = let end = rest t (b || spoils item s) e in record { mark = end.mark; whole = rw at end.whole }

-- what was refused stays so
marks_stay : (r : Reading Item Code) (x x' : Marked) → meaning marked r x ≡ Ok x' → x.1 ≡ true → x'.1 ≡ true
marks_stay Ends x x' e mark = let same : x ≡ x' = cc in ap (λ y. y.1) (sym same) ∙ mark
marks_stay (Refuses why) x x' e mark = absurd (cc)
marks_stay (Yields item line more) x x' e mark = by (λ y h. marks_stay more y x' h) (means item x.0) e
  where
    by : ((y : Marked) → meaning marked more y ≡ Ok x' → y.1 ≡ true → x'.1 ≡ true) → (r : Result State Code)
        → (at_line line (r >>= (λ t. Ok (t, x.1 || spoils item x.0))) >>= meaning marked more) ≡ Ok x' → x'.1 ≡ true
    by rest (Err code) e = absurd (cc)
    by rest (Ok t) e = rest (t, x.1 || spoils item x.0) e (ap (λ c. c || spoils item x.0) mark)

-- ---- the run where one module alone is admitted
record IsAlone (r : Reading Item Code) (a : State) (b : Bool) (s' : State) : Type 0 where
  unmarked : b ≡ false
  end : State
  read : meaning means r a ≡ Ok end
  whole : several end ≡ s'

alone_runs : (r : Reading Item Code) (a : State) (b c : Bool) (s' : State) → meaning marked r (several a, b) ≡ Ok (s', c) → c ≡ false → IsAlone r a b s'
alone_runs Ends a b c s' e free =
    let same : ◌≡◌ {A = Marked} (several a, b) (s', c) = cc in
    record { unmarked = ap (λ y. y.1) same ∙ free; end = a; read = refl; whole = ap (λ y. y.0) same }
alone_runs (Refuses why) a b c s' e free = absurd (cc)
alone_runs (Yields item line more) a b c s' e free = by (λ t d g. alone_runs more t d c s' g free) (means item a) refl (means item (several a)) e (item_same item a)
  where
    by : ((t : State) (d : Bool) → meaning marked more (several t, d) ≡ Ok (s', c) → IsAlone more t d s') → (r : Result State Code) → means item a ≡ r → (q : Result State Code)
        → (at_line line (q >>= (λ t. Ok (t, b || spoils item (several a)))) >>= meaning marked more) ≡ Ok (s', c) → IsSame (spoils item (several a)) r q
        → IsAlone (Yields item line more) a b s'
    by rest r at (Err code) e same = absurd (cc)
    by rest r at (Ok t) e (inl bad) =
        let now : (b || spoils item (several a)) ≡ true = or_right b (spoils item (several a)) bad.0 in
        absurd (false≢true (sym free ∙ marks_stay more (t, b || spoils item (several a)) (s', c) e now))
    by rest (Err code) at (Ok t) e (inr same) = absurd (cc)
    by rest (Ok u) at (Ok t) e (inr same) =
        let is : t ≡ several u = cc in
        let end = rest u (b || spoils item (several a)) (subst (λ y. meaning marked more (y, b || spoils item (several a)) ≡ Ok (s', c)) is e) in
        record {
          unmarked = (or_parts b (spoils item (several a)) end.unmarked).0;
          end = end.end;
          read = rw at end.read;
          whole = end.whole;
        }

-- ---- a text

-- a text that one module alone means
pub record IsReadAlone (bytes : List ℕ) (s : State) : Type 0 where
  pub end : State
  pub read : text_state true bytes ≡ Ok end
  pub whole : several end ≡ s

module _ (bytes : List ℕ) (s : State) (clean : IsCleanAfter s.ended) where
  alone_by : (r : Reading Item Code) (m : IsMarked r (nothing false) false s) → Holds after (s, m.mark) → (c : Bool) → m.mark ≡ c → IsAlone r (nothing true) false s
  alone_by r m h false at = alone_runs r (nothing true) false m.mark s m.whole at
  alone_by r m h true at = absurd (h at clean)

  pub read_alone : text_state false bytes ≡ Ok s → IsReadAlone bytes s
  unfolding text_state text_means
  read_alone e = by (tokens_refused Verilog V1 V2 bytes) refl e
    where
      by : (o : Option (Refusal Code)) → tokens_refused Verilog V1 V2 bytes ≡ o → unless o (rest_means Start (netlist_tokens bytes) (nothing false)) ≡ Ok s
          → IsReadAlone bytes s
      by (Some why) at e = absurd (cc)
      by None at e =
          let r = reading same_sort misfits forms (forms Start) [] (netlist_tokens bytes) in
          let m = runs r (nothing false) false s e in
          let h = text_kept marked Holds items_back bytes (nothing false, false) (s, m.mark) (λ mark none. false≢true mark) m.whole in
          let one = alone_by r m h m.mark refl in
          record { end = one.end; read = rw at one.read; whole = one.whole }
