-- What the table of ports answers.
use Rattle.std.proofs.Common.{◌≡◌, refl, sym, ap, ◌∙◌, subst, map}
use Rattle.std.specs.Prelude.{List, Bool, true, false, if◌then◌else◌, Option, Some, None, option_map, IfSome}
use Rattle.verilog_net.specs.declared.netlist.Net.{Net}
use Rattle.sdc_read.specs.declared.mentions.Mention.{Mention}
use Rattle.sdc_read.specs.declared.ports.PortBit.{PortBit}
use Rattle.sdc_read.specs.declared.set_numbers.SetNumbers.{SetNumbers}
use Rattle.sdc_read.specs.Ports.{unset, found_sides, settled, port_at, AreInRange, AllInRange}
use Rattle.sdc_read.specs.Changes.{is_clock}
use Rattle.sdc_read.specs.Mentions.{told, AllFit}
use Rattle.sdc_read.specs.Levels.{over_numbers, over_set, set_by, for_bit, levels_of, known}
use Rattle.sdc_read.proofs.FoundLaws.{found_told}
use Rattle.sdc_read.proofs.LevelLaws.{level_told}
use Rattle.sdc_read.proofs.PortLaws.{same_bits, meant, found_in_range}

module _ (ns : List Net) (ms : List Mention) where
  found_known : (at : PortBit) (o : Option SetNumbers) → o ≡ set_by ns at ms → found_sides at (told ns ms) ≡ over_set o None
  found_known at o same = found_told ns at ms ∙ ap (λ p. over_set p None) (sym same)

  over_none : (at : PortBit) (o : Option SetNumbers)
      → option_map (λ s. settled (at, s)) (over_set o None) ≡ option_map (λ n. settled (at, over_numbers n unset)) o
  over_none at None = refl
  over_none at (Some n) = refl

  -- what is meant for a bit by what is known of it
  pub known_meant : (at : PortBit) (o : Option SetNumbers) → o ≡ set_by ns at ms
      → option_map (λ n. settled (at, over_numbers n unset)) o ≡ port_at at.decl at.bit (map settled (told ns ms))
  known_meant at o same =
      sym (over_none at o) ∙ (ap (option_map (λ s. settled (at, s))) (sym (found_known at o same)) ∙ sym (meant at (told ns ms)))

  over_range : (o : Option SetNumbers) → IfSome (over_set o None) AreInRange → IfSome o (λ n. AreInRange (over_numbers n unset))
  over_range None h = tt
  over_range (Some n) h = h

  -- it is in its range
  pub known_in_range : (at : PortBit) (o : Option SetNumbers) → o ≡ set_by ns at ms → AllInRange (told ns ms)
      → IfSome o (λ n. AreInRange (over_numbers n unset))
  known_in_range at o same all =
      over_range o (subst (λ p. IfSome p AreInRange) (found_known at o same) (found_in_range at (told ns ms) all))

  module _ (clock : Option PortBit) (own : Option SetNumbers) (apart : IfSome clock (λ at. own ≡ set_by ns at ms))
      (all : AllFit ns clock ms) where
    own_by : (o : Option PortBit) (at : PortBit) → IfSome o (λ b. own ≡ set_by ns b ms) → is_clock o at ≡ true
        → own ≡ set_by ns at ms
    own_by None at h is = absurd (cc)
    own_by (Some b) at h is = h ∙ ap (λ k. set_by ns k ms) (same_bits b at is)

    known_by : (t : Bool) (at : PortBit) → is_clock clock at ≡ t
        → (if t then own else for_bit ns (levels_of ns ms) at) ≡ set_by ns at ms
    known_by true at is = own_by clock at apart is
    known_by false at is = level_told ns clock at is ms all

    -- what is known of each bit is what mentions set for it
    pub all_known : (at : PortBit) → known ns clock own (levels_of ns ms) at ≡ set_by ns at ms
    all_known at = known_by (is_clock clock at) at refl
