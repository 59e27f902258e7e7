-- What commands set for ports keeps its range.
use Rattle.std.specs.Prelude.{ℕ, zero, suc, ◌&&◌, Bool, true, false, List, [], ◌∷◌, length, ℤ}
use Rattle.std.specs.Prelude.{Option, Some, None, IfSome}
use Rattle.std.proofs.Common.{arith}
use Rattle.std.proofs.lemmas.Bool.{cond_both}
use Rattle.std.proofs.lemmas.List.Elements.{All-head, All-tail}
use Rattle.verilog_net.specs.declared.netlist.Net.{Net}
use Rattle.sdc_forms.specs.declared.picked.Picked.{Picked}
use Rattle.sdc_read.specs.declared.change.Bits as of_code
use Rattle.sdc_read.specs.declared.change.Change.{Change}
use Rattle.sdc_read.specs.declared.change.Change.TheVariants as changes
use Rattle.sdc_read.specs.declared.mentions.Mention.{Mention}
use Rattle.sdc_read.specs.declared.ports.PortBit.{PortBit}
use Rattle.sdc_read.specs.declared.ports.Sides.{Sides}
use Rattle.sdc_read.specs.declared.ports.PortSides.{PortSides}
use Rattle.sdc_read.specs.Ports.{Ports, unset, found_sides, with_sides, IsTime, IsSize, AreTimes, AreSizes, AreInRange, AllInRange}
use Rattle.sdc_read.specs.Changes.{chosen, with_number, changed, role_for, is_input_delay, is_clock, or_unset, change_bit, over_first, bit_at, bit_count, Bits, change_bits, IsChange}
use Rattle.sdc_read.specs.Objects.{over_all, change_if}
use Rattle.sdc_read.specs.Mentions.{port_bits, step_for, step, told, Fits, AllFit}
use Rattle.sdc_read.specs.View.{bits_text}
use Rattle.sdc_read.proofs.PortLaws.{entered_in_range, found_in_range}

module _ (p : Picked) where
  chosen_time : (b : Bool) (x : ℤ) (o : Option ℤ) → IsTime (Some x) → IsTime o → IsTime (chosen b x o)
  chosen_time true x o h k = h
  chosen_time false x o h k = k

  chosen_size : (b : Bool) (x : ℤ) (o : Option ℤ) → IsSize (Some x) → IsSize o → IsSize (chosen b x o)
  chosen_size true x o h k = h
  chosen_size false x o h k = k

  times_with : (x : ℤ) (s : Sides) → IsTime (Some x) → AreTimes s → AreTimes (with_number p x s)
  times_with x s h k = (
    chosen_time (p.rise && p.min) x s.rise_min h k.0,
    chosen_time (p.rise && p.max) x s.rise_max h k.1,
    chosen_time (p.fall && p.min) x s.fall_min h k.2,
    chosen_time (p.fall && p.max) x s.fall_max h k.3,
  )

  sizes_with : (x : ℤ) (s : Sides) → IsSize (Some x) → AreSizes s → AreSizes (with_number p x s)
  sizes_with x s h k = (
    chosen_size (p.rise && p.min) x s.rise_min h k.0,
    chosen_size (p.rise && p.max) x s.rise_max h k.1,
    chosen_size (p.fall && p.min) x s.fall_min h k.2,
    chosen_size (p.fall && p.max) x s.fall_max h k.3,
  )

changed_in_range : (c : Change) (s : PortSides) → IsChange c → AreInRange s → AreInRange (changed c s)
changed_in_range (changes.InputDelay p x) s h k = record { input = times_with p x s.input h k.input; output = k.output; slew = k.slew; load = k.load }
changed_in_range (changes.OutputDelay p x) s h k = record { input = k.input; output = times_with p x s.output h k.output; slew = k.slew; load = k.load }
changed_in_range (changes.Slew p x) s h k = record { input = k.input; output = k.output; slew = sizes_with p x s.slew h k.slew; load = k.load }
changed_in_range (changes.Load x) s h k = record { input = k.input; output = k.output; slew = k.slew; load = h }

unset_in_range : AreInRange unset
unset_in_range = record { input = (tt, tt, tt, tt); output = (tt, tt, tt, tt); slew = (tt, tt, tt, tt); load = (omega arith, omega arith) }

or_unset_in_range : (o : Option PortSides) → IfSome o AreInRange → AreInRange (or_unset o)
or_unset_in_range None h = unset_in_range
or_unset_in_range (Some s) h = h

pub over_in_range : (f : ℕ → Ports → Ports) → ((i : ℕ) (ps : Ports) → AllInRange ps → AllInRange (f i ps)) → (n : ℕ) (ps : Ports) → AllInRange ps
    → AllInRange (over_first f n ps)
over_in_range f g zero ps h = h
over_in_range f g (suc n) ps h = g n (over_first f n ps) (over_in_range f g n ps h)

module _ (clock : Option PortBit) (c : Change) (is : IsChange c) where
  bit_in_range : (at : PortBit) (ps : Ports) → AllInRange ps → AllInRange (change_bit clock c at ps)
  bit_in_range at ps h =
      cond_both (is_input_delay c && is_clock clock at) ps (with_sides at (changed c (or_unset (found_sides at ps))) ps) AllInRange (λ e. h)
      (λ e. entered_in_range ps at (changed c (or_unset (found_sides at ps))) h
      (changed_in_range c (or_unset (found_sides at ps)) is (or_unset_in_range (found_sides at ps) (found_in_range at ps h))))

  pub bits_in_range : (b : Bits) (ps : Ports) → AllInRange ps → AllInRange (change_bits clock c b ps)
  unfolding change_bits
  bits_in_range b ps h =
      over_in_range (λ i. change_bit clock c (record { decl = b.0; bit = bit_at b.1 b.2 i }))
      (λ i qs k. bit_in_range (record { decl = b.0; bit = bit_at b.1 b.2 i }) qs k) (bit_count b.1 b.2) ps h

  pub if_in_range : (o : Option Bits) (ps : Ports) → AllInRange ps → AllInRange (change_if clock c o ps)
  if_in_range None ps h = h
  if_in_range (Some b) ps h = bits_in_range b ps h

module _ (ns : List Net) (clock : Option PortBit) where
  step_in_range : (known : Option PortBit) (c : Change) (o : Option of_code.Bits) (ps : Ports) → IsChange c → AllInRange ps
      → AllInRange (step_for ns known c o ps)
  step_in_range known c (Some b) ps is h = bits_in_range known c is (bits_text b) ps h
  step_in_range known c None ps is h =
      over_in_range (λ i. change_if known c (port_bits (role_for c) ns i)) (λ i qs k. if_in_range known c is (port_bits (role_for c) ns i) qs k) (length ns) ps h

  over_fit : (ms : List Mention) (ps : Ports) → AllFit ns clock ms → AllInRange ps → AllInRange (over_all (step ns) ms ps)
  over_fit [] ps all h = h
  over_fit (m ∷ ms) ps all h =
      let fit : Fits ns clock m = All-head (Fits ns clock) m ms all in
      over_fit ms (step ns m ps) (All-tail (Fits ns clock) m ms all) (step_in_range m.clock m.change m.bits ps fit.change h)

  -- what mentions that fit set is in its range
  pub told_in_range : (ms : List Mention) → AllFit ns clock ms → AllInRange (told ns ms)
  told_in_range ms all = over_fit ms [] all tt
