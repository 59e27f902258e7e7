-- Mentions that are kept stand for what commands change.
use Rattle.std.proofs.Common.{◌≡◌, refl, sym, ap, ◌∙◌, ℕ, zero, suc, [], ◌∷◌, ◌++◌, ◌+◌, length, map, take, subst, arith}
use Rattle.std.specs.Prelude.{if◌then◌else◌, List, Bool, true, false, ◌==◌, Option, Some, None, is_some, option_map, IfSome, position, Result, Ok, Err, OnOk, ◌≤◌}
use Rattle.std.specs.Option.{IsSomeAnd}
use Rattle.std.specs.Str.{bytes_eq}
use Rattle.std.specs.List.{slice_get, slice_index_or}
use Rattle.std.proofs.lemmas.Bool.Decides.{nat_tests}
use Rattle.std.proofs.lemmas.List.{length-map, map_more, take_all}
use Rattle.std.proofs.lemmas.List.Elements.{All-append, All-from_recursion}
use Rattle.std.proofs.lemmas.Option.{slice_get-map, slice_get_within, get_or_from_slice_get}
use Rattle.xt_model.specs.Options.{◌>>=◌}
use Rattle.verilog_net.specs.declared.netlist.Net.{Net}
use Rattle.verilog_net.specs.declared.netlist.PortRole.{PortRole}
use Rattle.verilog_net.specs.declared.netlist.PortRole.TheVariants.{Input, Output, Inner}
use Rattle.verilog_net.specs.Nets.{Nets, NetBit, named_bit}
use Rattle.verilog_net.specs.Ports.{bits_by, bits_of, port_as, port_of}
use Rattle.sdc_words.specs.Words.{Text}
use Rattle.sdc_read.specs.declared.change.Change.{Change}
use Rattle.sdc_read.specs.declared.constraints.Clock.{Clock}
use Rattle.sdc_read.specs.declared.mentions.Mention.{Mention}
use Rattle.sdc_read.specs.declared.ports.PortBit.{PortBit}
use Rattle.sdc_read.specs.Ports.{Ports}
use Rattle.sdc_read.specs.Changes.{Bits, over_first, role_for}
use Rattle.sdc_read.specs.Objects.{same_role, bits_if, bits_in, net_bits, named_bits, change_if, change_all}
use Rattle.sdc_read.specs.Mentions.{nets_of, found_bits, port_bits, step, told, Fits, AllFit}
use Rattle.sdc_read.proofs.Over.{over_last}

-- one mention more
pub told_push : (ns : List Net) (ms : List Mention) (m : Mention) → told ns (ms ++ m ∷ []) ≡ step ns m (told ns ms)
told_push ns ms m = over_last (step ns) ms m []

-- ---- nets without their names

port_in : (wanted : PortRole) (i : ℕ) (o : Option (Text × Net))
    → bits_if wanted (found_bits i (option_map (λ e. e.1) o)) ≡ bits_in wanted i o
port_in wanted i None = refl
port_in wanted i (Some e) = refl

pub port_net : (wanted : PortRole) (nets : Nets) (i : ℕ) → port_bits wanted (nets_of nets) i ≡ net_bits wanted nets i
unfolding net_bits
port_net wanted nets i =
    ap (λ o. bits_if wanted (found_bits i o)) (slice_get-map (λ e. e.1) nets i) ∙ port_in wanted i (slice_get nets i)

over_same : {A : Type 0} (f g : ℕ → A → A) → ((i : ℕ) (s : A) → f i s ≡ g i s) → (n : ℕ) (s : A)
    → over_first f n s ≡ over_first g n s
over_same f g same zero s = refl
over_same f g same (suc n) s = same n (over_first f n s) ∙ ap (g n) (over_same f g same n s)

-- all ports of a direction are changed
pub all_told : (nets : Nets) (clock : Option PortBit) (c : Change) (ps : Ports)
    → over_first (λ i. change_if clock c (port_bits (role_for c) (nets_of nets) i)) (length (nets_of nets)) ps
    ≡ change_all nets clock c ps
unfolding change_all
all_told nets clock c ps =
    over_same (λ i. change_if clock c (port_bits (role_for c) (nets_of nets) i)) (λ i. change_if clock c (net_bits (role_for c) nets i))
    (λ i s. ap (λ o. change_if clock c o s) (port_net (role_for c) nets i)) (length (nets_of nets)) ps
    ∙ ap (λ n. over_first (λ i. change_if clock c (net_bits (role_for c) nets i)) n ps) (length-map nets (λ e. e.1))

-- ---- what holds of mentions

module _ (ns : List Net) (clock : Option PortBit) where
  -- one mention more
  pub fits_push : (ms : List Mention) (m : Mention) → Fits ns clock m → AllFit ns clock ms → AllFit ns clock (ms ++ m ∷ [])
  fits_push ms m fit all = All-append (Fits ns clock) ms (m ∷ []) all (All-from_recursion (Fits ns clock) (m ∷ []) (fit, tt))

pub same_clock : (clock : Option PortBit) → IfSome clock (λ b. clock ≡ Some b)
same_clock None = tt
same_clock (Some b) = refl

no_clock : (c o : Option PortBit) → IfSome c (λ b. None ≡ Some b) → IfSome c (λ b. o ≡ Some b)
no_clock None o h = tt
no_clock (Some b) o h = absurd (cc)

-- what fits before there is a clock fits with any
pub any_clock : (ns : List Net) (o : Option PortBit) (ms : List Mention) → AllFit ns None ms → AllFit ns o ms
any_clock ns o ms all = λ k d h.
    let fit : Fits ns None (slice_index_or ms k d) = all k d h in
    record { change = fit.change; clock = no_clock (slice_index_or ms k d).clock o fit.clock; bits = fit.bits }

pub none_clock : (o : Option Clock) → is_some o ≡ false → o ≡ None
none_clock None h = refl
none_clock (Some c) h = absurd (cc)

-- what is kept by a call that answers
pub kept_by : {U E : Type 0} (r : Result U E) {P Q P' Q' : Type 0} → (P' → P) → (Q → Q') → OnOk r (P → Q) → OnOk r (P' → Q')
kept_by (Ok u) f g h = λ p. g (h (f p))
kept_by (Err e) f g h = tt

-- ---- one net more

module _ (nets : Nets) (i : ℕ) (old new : List Net) (so_far : old ≡ map (λ e. e.1) (take i nets)) where
  more_by : (o : Option (Text × Net)) → slice_get nets i ≡ o → IsSomeAnd o (λ e. new ≡ old ++ e.1 ∷ [])
      → new ≡ map (λ e. e.1) (take (i + 1) nets)
  more_by None at h = absurd h
  more_by (Some e) at h =
      h ∙ (ap (λ l. l ++ e.1 ∷ []) so_far
      ∙ sym (map_more (λ x. x.1) nets i e (slice_get_within nets i e at)
      ∙ ap (λ (x : Text × Net). map (λ y. y.1) (take i nets) ++ x.1 ∷ []) (get_or_from_slice_get nets i e e at)))

  pub net_more : IsSomeAnd (slice_get nets i) (λ e. new ≡ old ++ e.1 ∷ []) → new ≡ map (λ e. e.1) (take (i + 1) nets)
  net_more h = more_by (slice_get nets i) refl h

  pub net_all : length nets ≤ i → old ≡ nets_of nets
  net_all past = so_far ∙ ap (map (λ e. e.1)) (take_all i nets past)

-- ---- a name stands for one bit or for a whole port

decl_if : (t : Bool) (i first last : ℕ) (b : Bits) → (if t then Some (i, first, last) else None) ≡ Some b → b.0 ≡ i
decl_if true i first last b h = let k : ◌≡◌ {A = Bits} (i, first, last) b = cc in ap (λ x. x.0) (sym k)
decl_if false i first last b h = absurd (cc)

decl_of : (wanted : PortRole) (i : ℕ) (range : Option (ℕ × ℕ)) (role : PortRole) (b : Bits)
    → bits_if wanted (bits_by i range role) ≡ Some b → b.0 ≡ i
decl_of wanted i (Some range) role b h = decl_if (same_role wanted role) i range.0 range.1 b h
decl_of wanted i None Input b h = decl_if (same_role wanted Input) i 0 0 b h
decl_of wanted i None Output b h = decl_if (same_role wanted Output) i 0 0 b h
decl_of wanted i None Inner b h = absurd (cc)

module _ (wanted : PortRole) (nets : Nets) (name : Text) (b : Bits) (two : (b.1 == b.2) ≡ false) where
  abbrev IsWhole : Type 0
  IsWhole = port_bits wanted (nets_of nets) b.0 ≡ Some b

  whole_net : (i : ℕ) (e : Text × Net) → slice_get nets i ≡ Some e → bits_if wanted (bits_of i e.1) ≡ Some b → IsWhole
  whole_net i e at is =
      let P : ℕ → Type 0 = λ k. port_bits wanted (nets_of nets) k ≡ Some b in
      subst P (sym (decl_of wanted i e.1.range e.1.role b is))
      (ap (λ o. bits_if wanted (found_bits i o)) (slice_get-map (λ x. x.1) nets i ∙ ap (option_map (λ x. x.1)) at) ∙ is)

  one_if : (t : Bool) (k : NetBit) → (if t then Some (k.0, k.1, k.1) else None) ≡ Some b → IsWhole
  one_if true k h =
      let same : ◌≡◌ {A = Bits} (k.0, k.1, k.1) b = cc in
      let first : k.1 ≡ b.1 = ap (λ x. x.1) same in
      let last : k.1 ≡ b.2 = ap (λ x. x.2) same in
      let one : (b.1 == b.2) ≡ true = grind (arith, nat_tests) in
      absurd (cc)
  one_if false k h = absurd (cc)

  one_bit : (o : Option NetBit) → bits_if wanted (port_as None o) ≡ Some b → IsWhole
  one_bit None h = absurd (cc)
  one_bit (Some k) h = one_if (same_role wanted k.2) k h

  by_net : (i : ℕ) (o : Option (Text × Net)) → slice_get nets i ≡ o
      → bits_if wanted (port_as (o >>= λ e. Some (i, e.1)) (named_bit name nets)) ≡ Some b → IsWhole
  by_net i None at h = one_bit (named_bit name nets) h
  by_net i (Some e) at h = whole_net i e at h

  by_place : (o : Option ℕ)
      → bits_if wanted (port_as (o >>= λ i. slice_get nets i >>= λ e. Some (i, e.1)) (named_bit name nets)) ≡ Some b → IsWhole
  by_place None h = one_bit (named_bit name nets) h
  by_place (Some i) h = by_net i (slice_get nets i) refl h

pub named_place : (wanted : PortRole) (nets : Nets) (name : Text) (b : Bits)
    → named_bits wanted nets name ≡ Some b → (b.1 == b.2) ≡ false → port_bits wanted (nets_of nets) b.0 ≡ Some b
unfolding named_bits port_of
named_place wanted nets name b is two = by_place wanted nets name b two (position (bytes_eq name) (map (λ e. e.0) nets)) is
