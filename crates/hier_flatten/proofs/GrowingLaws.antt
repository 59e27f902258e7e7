-- The counts of the flat netlist as it grows.
use Rattle.std.proofs.Common.{◌≡◌, refl, ℕ, ◌+◌, ◌<◌, ◌≤◌, ◌^◌, [], ◌∷◌, ◌++◌, length, Bool, true, false, Option, Some, None, nat_lt, ap, sym, ◌∙◌, arith, if◌then◌else◌}
use Rattle.std.proofs.lemmas.Bool.{ltb-false}
use Rattle.std.proofs.lemmas.List.{length_push}
use Rattle.xt_model.specs.Limits.{most_nets, most_instances}
use Rattle.xt_model.specs.declared.fault.LimitKind.TheVariants as limits
use Rattle.name_numbers.specs.Names.{Text}
use Rattle.verilog_net.specs.declared.netlist.Net.{Net}
use Rattle.verilog_net.specs.Nets.{Nets}
use Rattle.hier_flatten.specs.Places.{width_of}
use Rattle.hier_flatten.specs.Flat.{Ranges, ranges_of, Counts, bits_in, limit_of, IsCounted}
use Rattle.hier_flatten.specs.Names.{AreApart}
use Rattle.hier_flatten.specs.Walk.{IsGrown}
use Rattle.hier_flatten.proofs.BelowLaws.{bits_push, ranges_added}

-- one net more
pub counted_push : (ranges new : Ranges) (range : Option (ℕ × ℕ)) (bits width : ℕ) → IsCounted ranges bits → length ranges < 4294967295
    → width ≡ width_of range → width ≤ 2 ^ 32 → new ≡ ranges ++ range ∷ [] → IsCounted new (bits + width)
counted_push ranges new range bits width h few is most pushed =
    let more : length (ranges ++ range ∷ []) ≡ length ranges + 1 = length_push ranges range in
    let counted : IsCounted (ranges ++ range ∷ []) (bits + width) = record {
      count = ap (λ n. n + width) h.count ∙ (ap (λ n. bits_in ranges + n) is ∙ sym (bits_push ranges range));
      few = omega (arith, more, few);
      most = omega (arith, more, h.most, most);
    } in
    rw pushed counted

pub grown_push : (table more new later : Nets) (ranges longer : Ranges) (name : Text) (net : Net) (bits width entered : ℕ)
    → IsGrown table more ranges bits entered → length ranges < 4294967295 → width ≡ width_of net.range → width ≤ 2 ^ 32
    → longer ≡ ranges ++ net.range ∷ [] → AreApart new later → new ++ later ≡ (table ++ more) ++ (name, net) ∷ []
    → IsGrown new later longer (bits + width) entered
grown_push table more new later ranges longer name net bits width entered h few is most range apart whole =
    record {
      kept = range ∙ (ap (λ r. r ++ net.range ∷ []) h.kept ∙ (sym (ranges_added (table ++ more) ((name, net) ∷ [])) ∙ ap ranges_of (sym whole)));
      counted = counted_push ranges longer net.range bits width h.counted few is most range;
      entered = h.entered;
      apart = apart;
    }

-- within the limit there is room for a further instance
limit_by : (n bits : ℕ) → (if nat_lt most_instances n then Some limits.Instances else (if nat_lt most_nets bits then Some limits.Nets else None)) ≡ None → n ≤ most_instances
limit_by n bits e = by (nat_lt most_instances n) refl e
  where
    by : (b : Bool) → nat_lt most_instances n ≡ b → (if b then Some limits.Instances else (if nat_lt most_nets bits then Some limits.Nets else None)) ≡ None → n ≤ most_instances
    by true test e = absurd (cc)
    by false test e = omega (arith, ltb-false most_instances n test)

pub within : (counts : Counts) → limit_of counts ≡ None → counts.met + 1 ≤ most_instances
unfolding limit_of
within counts e = limit_by (counts.met + 1) (bits_in counts.ranges) e

-- one instance of a module more
pub grown_enter : (table more : Nets) (ranges : Ranges) (bits entered met : ℕ) (counts : Counts) → limit_of counts ≡ None → counts.met ≡ met + entered
    → IsGrown table more ranges bits entered → IsGrown table more ranges bits (entered + 1)
grown_enter table more ranges bits entered met counts limit is h =
    let room = within counts limit in record { kept = h.kept; counted = h.counted; entered = omega (arith, room, is); apart = h.apart }
