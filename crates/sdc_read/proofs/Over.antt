-- Each number below one in turn, and each of a list that is made so.
use Rattle.std.proofs.Common.{◌≡◌, refl, sym, ap, ◌∙◌, ℕ, zero, suc, ◌+◌, add-one, [], ◌∷◌, ◌++◌, length, map}
use Rattle.std.proofs.lemmas.List.{map-append}
use Rattle.std.specs.Prelude.{List, Bool, true, false, ◌||◌, Option, Some, None, is_some}
use Rattle.std.specs.List.{slice_get}
use Rattle.verilog_net.specs.declared.netlist.Net.{Net}
use Rattle.verilog_net.specs.declared.netlist.PortRole.{PortRole}
use Rattle.verilog_net.specs.declared.netlist.PortRole.TheVariants.{Input, Output, Inner}
use Rattle.verilog_net.specs.Nets.{Nets}
use Rattle.verilog_net.specs.Ports.{bits_by}
use Rattle.sdc_words.specs.Words.{Text}
use Rattle.sdc_read.specs.declared.change.Bits as of_code
use Rattle.sdc_read.specs.declared.source.SourceBits.TheVariants as sources
use Rattle.sdc_read.specs.Changes.{Bits, over_first}
use Rattle.sdc_read.specs.Objects.{bits_if, bits_in, net_bits, behind, ports_of, over_all, is_some_listed, any_below, has_role}
use Rattle.sdc_read.specs.Objects.{source_if, source_all, with_bits}
use Rattle.sdc_read.specs.View.{bits_text}

pub over_next : {A : Type 0} (f : ℕ → A → A) (i : ℕ) (s : A) → over_first f (i + 1) s ≡ f i (over_first f i s)
over_next f i s = rw add-one refl

-- one more at the end
pub listed_push : (bs : List of_code.Bits) (b : of_code.Bits)
    → map bits_text (bs ++ b ∷ []) ≡ map bits_text bs ++ bits_text b ∷ []
listed_push bs b = map-append bits_text bs (b ∷ [])

pub over_last : {A B : Type 0} (f : B → A → A) (bs : List B) (b : B) (s : A)
    → over_all f (bs ++ b ∷ []) s ≡ f b (over_all f bs s)
over_last f [] b s = refl
over_last f (x ∷ xs) b s = over_last f xs b (f x s)

-- the ports in turn, where a net that is none changes nothing, are the list of ports in turn
module _ {A : Type 0} (f : Option Bits → A → A) (g : Bits → A → A)
    (some : (b : Bits) (s : A) → f (Some b) s ≡ g b s) (none : (s : A) → f None s ≡ s) where
  over_behind : (o : Option Bits) (bs : List Bits) (s : A) → over_all g (behind o bs) s ≡ f o (over_all g bs s)
  over_behind None bs s = sym (none (over_all g bs s))
  over_behind (Some b) bs s = over_last g bs b s ∙ sym (some b (over_all g bs s))

  pub over_listed : (at : ℕ → Option Bits) (n : ℕ) (s : A)
      → over_all g (over_first (λ i. behind (at i)) n []) s ≡ over_first (λ i. f (at i)) n s
  over_listed at zero s = refl
  over_listed at (suc n) s =
      over_behind (at n) (over_first (λ i. behind (at i)) n []) s ∙ ap (f (at n)) (over_listed at n s)

-- the bits of all inputs
pub source_listed : (nets : Nets) → over_all with_bits (ports_of Input nets) sources.Nothing ≡ source_all nets
unfolding source_all ports_of
source_listed nets =
    over_listed source_if with_bits (λ b s. refl) (λ s. refl) (net_bits Input nets) (length nets) sources.Nothing

some_last : (bs : List Bits) (b : Bits) → is_some_listed (bs ++ b ∷ []) ≡ true
some_last [] b = refl
some_last (x ∷ xs) b = refl

or_true : (x : Bool) → true ≡ (x || true)
or_true true = refl
or_true false = refl

or_false : (x : Bool) → x ≡ (x || false)
or_false true = refl
or_false false = refl

some_behind : (o : Option Bits) (bs : List Bits) → is_some_listed (behind o bs) ≡ (is_some_listed bs || is_some o)
some_behind None bs = or_false (is_some_listed bs)
some_behind (Some b) bs = some_last bs b ∙ or_true (is_some_listed bs)

any_listed : (at : ℕ → Option Bits) (n : ℕ)
    → is_some_listed (over_first (λ i. behind (at i)) n []) ≡ any_below (λ i. is_some (at i)) n
any_listed at zero = refl
any_listed at (suc n) =
    some_behind (at n) (over_first (λ i. behind (at i)) n []) ∙ ap (λ b. b || is_some (at n)) (any_listed at n)

-- some net is a port of a direction
pub role_listed : (wanted : PortRole) (nets : Nets) → is_some_listed (ports_of wanted nets) ≡ has_role wanted nets
unfolding has_role ports_of
role_listed wanted nets = any_listed (net_bits wanted nets) (length nets)

-- no port is an inner net
inner_at : (range : Option (ℕ × ℕ)) (role : PortRole) (i : ℕ) → bits_if Inner (bits_by i range role) ≡ None
inner_at (Some range) Input i = refl
inner_at (Some range) Output i = refl
inner_at (Some range) Inner i = refl
inner_at None Input i = refl
inner_at None Output i = refl
inner_at None Inner i = refl

inner_in : (o : Option (Text × Net)) (i : ℕ) → bits_in Inner i o ≡ None
inner_in (Some e) i = inner_at e.1.range e.1.role i
inner_in None i = refl

inner_bits : (nets : Nets) (i : ℕ) → net_bits Inner nets i ≡ None
unfolding net_bits
inner_bits nets i = inner_in (slice_get nets i) i

none_listed : (nets : Nets) (n : ℕ) → over_first (λ i. behind (net_bits Inner nets i)) n [] ≡ []
none_listed nets zero = refl
none_listed nets (suc n) =
    ap (λ o. behind o (over_first (λ i. behind (net_bits Inner nets i)) n [])) (inner_bits nets n) ∙ none_listed nets n

pub inner_ports : (nets : Nets) → ports_of Inner nets ≡ []
unfolding ports_of
inner_ports nets = none_listed nets (length nets)
