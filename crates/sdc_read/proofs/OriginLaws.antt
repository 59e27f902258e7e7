-- Numbers by the mentions that set them stand for the numbers that are set.
use Rattle.std.proofs.Common.{◌≡◌, refl, sym, ap, ◌∙◌, subst, ℕ, zero, suc, ◌+◌, ◌-◌, ◌<◌, add-one, cond, map, ℤ, arith}
use Rattle.std.specs.Prelude.{◌==◌, List, [], ◌∷◌, Bool, true, false, ◌&&◌, if◌then◌else◌, Option, Some, None, option_map}
use Rattle.std.specs.List.{slice_get}
use Rattle.std.specs.Map.{lookup}
use Rattle.std.specs.Option.{option_or}
use Rattle.std.proofs.lemmas.Bool.{ne_eqb}
use Rattle.indexmap.specs.IndexMap.{insert_entry}
use Rattle.sdc_forms.specs.declared.picked.Picked.{Picked}
use Rattle.sdc_read.specs.declared.change.Change.{Change}
use Rattle.sdc_read.specs.declared.change.Change.TheVariants as changes
use Rattle.sdc_read.specs.declared.mentions.Mention.{Mention}
use Rattle.verilog_net.specs.declared.netlist.Net.{Net}
use Rattle.sdc_read.specs.declared.origins.Origins.{Origins}
use Rattle.sdc_read.specs.declared.origins.SideOrigins.{SideOrigins}
use Rattle.sdc_read.specs.declared.ports.PortBit.{PortBit}
use Rattle.sdc_read.specs.declared.set_numbers.SetNumbers.{SetNumbers}
use Rattle.sdc_read.specs.Ports.{no_sides, same_bit}
use Rattle.sdc_read.specs.Changes.{chosen, with_number, role_for}
use Rattle.sdc_read.specs.Levels.{SaidLevels, or_sides, or_numbers, numbers_of, or_set, put, for_port, for_bit, with_bit, with_port}
use Rattle.sdc_read.specs.Origins.{number_in, number_by, number_at, sides_at, numbers_at, or_number, or_side_origins, or_origins, number_if, picked_origins, origins_of, or_all, put_origins}
use Rattle.sdc_read.proofs.NumberLaws.{same_sides, same_numbers}

-- ---- entries that are seen in another way
module _ {K V W : Type 0} (f : V → W) where
  pub put_mapped : (same : K → K → Bool) (k : K) (v : V) (es : List (K × V))
      → map (λ e. (e.0, f e.1)) (insert_entry same es k v) ≡ insert_entry same (map (λ e. (e.0, f e.1)) es) k (f v)
  put_mapped same k v [] = refl
  put_mapped same k v (e ∷ es) = by_test (same k e.0) (put_mapped same k v es)
    where
      by_test : (t : Bool)
          → map (λ e. (e.0, f e.1)) (insert_entry same es k v) ≡ insert_entry same (map (λ e. (e.0, f e.1)) es) k (f v)
          → map (λ e. (e.0, f e.1)) (if t then (e.0, v) ∷ es else e ∷ insert_entry same es k v)
          ≡ (if t then (e.0, f v) ∷ map (λ e. (e.0, f e.1)) es else (e.0, f e.1) ∷ insert_entry same (map (λ e. (e.0, f e.1)) es) k (f v))
      by_test true h = refl
      by_test false h = ap (λ l. (e.0, f e.1) ∷ l) h

  pub found_mapped : (test : K → Bool) (es : List (K × V)) → option_map f (lookup test es) ≡ lookup test (map (λ e. (e.0, f e.1)) es)
  found_mapped test [] = refl
  found_mapped test (e ∷ es) = by_test (test e.0) (found_mapped test es)
    where
      by_test : (t : Bool) → option_map f (lookup test es) ≡ lookup test (map (λ e. (e.0, f e.1)) es)
          → option_map f (if t then Some e.1 else lookup test es) ≡ (if t then Some (f e.1) else lookup test (map (λ e. (e.0, f e.1)) es))
      by_test true h = refl
      by_test false h = h

module _ (ms : List Mention) where
  number_or : (a b : ℕ) → number_at ms (or_number a b) ≡ option_or (number_at ms a) (number_at ms b)
  number_or zero b = refl
  number_or (suc a) b = ap (λ t. number_at ms (cond t b (suc a))) (ne_eqb (suc a) 0 (λ e. absurd (omega (arith, e))))

  sides_or : (a b : SideOrigins) → sides_at ms (or_side_origins a b) ≡ or_sides (sides_at ms a) (sides_at ms b)
  sides_or a b = same_sides (sides_at ms (or_side_origins a b)) (or_sides (sides_at ms a) (sides_at ms b))
      (number_or a.rise_min b.rise_min) (number_or a.rise_max b.rise_max) (number_or a.fall_min b.fall_min) (number_or a.fall_max b.fall_max)

  numbers_or : (a b : Origins) → numbers_at ms (or_origins a b) ≡ or_numbers (numbers_at ms a) (numbers_at ms b)
  numbers_or a b = same_numbers (numbers_at ms (or_origins a b)) (or_numbers (numbers_at ms a) (numbers_at ms b))
      (sides_or a.input b.input) (sides_or a.output b.output) (sides_or a.slew b.slew) (number_or a.load b.load)

  pub all_or : (a b : Option Origins) → option_map (numbers_at ms) (or_all a b) ≡ or_set (option_map (numbers_at ms) a) (option_map (numbers_at ms) b)
  all_or None b = refl
  all_or (Some a) None = refl
  all_or (Some a) (Some b) = ap Some (numbers_or a b)

  module _ (i : ℕ) (m : Mention) (at : slice_get ms i ≡ Some m) where
    number_here : (t : Bool) (x : ℤ) → number_in m.change ≡ x → number_at ms (number_if t (i + 1)) ≡ chosen t x None
    number_here true x same = rw add-one (ap (λ o. Some (number_by o)) at ∙ ap Some same)
    number_here false x same = refl

    sides_here : (p : Picked) (x : ℤ) → number_in m.change ≡ x → sides_at ms (picked_origins p (i + 1)) ≡ with_number p x no_sides
    sides_here p x same = same_sides (sides_at ms (picked_origins p (i + 1))) (with_number p x no_sides)
        (number_here (p.rise && p.min) x same) (number_here (p.rise && p.max) x same) (number_here (p.fall && p.min) x same) (number_here (p.fall && p.max) x same)

    numbers_here : (c : Change) → m.change ≡ c → numbers_at ms (origins_of c (i + 1)) ≡ numbers_of c
    numbers_here (changes.InputDelay p x) same = same_numbers (numbers_at ms (origins_of (changes.InputDelay p x) (i + 1))) (numbers_of (changes.InputDelay p x)) (sides_here p x (ap number_in same)) refl refl refl
    numbers_here (changes.OutputDelay p x) same = same_numbers (numbers_at ms (origins_of (changes.OutputDelay p x) (i + 1))) (numbers_of (changes.OutputDelay p x)) refl (sides_here p x (ap number_in same)) refl refl
    numbers_here (changes.Slew p x) same = same_numbers (numbers_at ms (origins_of (changes.Slew p x) (i + 1))) (numbers_of (changes.Slew p x)) refl refl (sides_here p x (ap number_in same)) refl
    numbers_here (changes.Load x) same = same_numbers (numbers_at ms (origins_of (changes.Load x) (i + 1))) (numbers_of (changes.Load x)) refl refl refl
        (number_here true x (ap number_in same))

    -- what is put by its number is what is put
    pub put_here : (o : Option Origins) → numbers_at ms (put_origins o m.change (i + 1)) ≡ put (option_map (numbers_at ms) o) m.change
    put_here None = numbers_here m.change refl
    put_here (Some a) = numbers_or a (origins_of m.change (i + 1)) ∙ ap (or_numbers (numbers_at ms a)) (numbers_here m.change refl)

-- ---- what an earlier mention sets, put below what is there

module _ (ms : List Mention) (m : Mention) (n : ℕ) (some : 0 < n) (there : slice_get ms (n - 1) ≡ Some m) (o : Option Origins) (w : Option SetNumbers)
    (is : option_map (numbers_at ms) o ≡ w) where
  pub origins_put : numbers_at ms (put_origins o m.change n) ≡ put w m.change
  origins_put =
      let next : n ≡ n - 1 + 1 = omega (arith, some) in
      ap (λ k. numbers_at ms (put_origins o m.change k)) next ∙ (put_here ms (n - 1) m there o ∙ ap (λ x. put x m.change) is)

  pub entry_put : {K : Type 0} (same : K → K → Bool) (k : K) (es : List (K × Origins))
      → map (λ e. (e.0, numbers_at ms e.1)) (insert_entry same es k (put_origins o m.change n)) ≡ insert_entry same (map (λ e. (e.0, numbers_at ms e.1)) es) k (put w m.change)
  entry_put same k es =
      put_mapped (numbers_at ms) same k (put_origins o m.change n) es ∙ ap (insert_entry same (map (λ e. (e.0, numbers_at ms e.1)) es) k) origins_put

-- ---- levels as they are kept

abbrev pub kept_levels : List Mention → List (PortBit × Origins) → List (ℕ × Origins) → Option Origins → Option Origins → SaidLevels
kept_levels ms bits ports inputs outputs = record {
  said = ms;
  levels = record {
    bits = map (λ e. (e.0, numbers_at ms e.1)) bits;
    ports = map (λ e. (e.0, numbers_at ms e.1)) ports;
    inputs = option_map (numbers_at ms) inputs;
    outputs = option_map (numbers_at ms) outputs;
  };
}

module _ (ms : List Mention) (bits : List (PortBit × Origins)) (ports : List (ℕ × Origins)) (inputs outputs : Option Origins) (now : SaidLevels)
    (are : kept_levels ms bits ports inputs outputs ≡ now) where
  pub bit_found : (test : PortBit → Bool) (o : Option Origins) → lookup test bits ≡ o → option_map (numbers_at now.said) o ≡ lookup test now.levels.bits
  bit_found test o at =
      subst (λ (s : SaidLevels). option_map (numbers_at s.said) o ≡ lookup test s.levels.bits) are
      (sym (ap (option_map (numbers_at ms)) at) ∙ found_mapped (numbers_at ms) test bits)

  pub port_found : (test : ℕ → Bool) (o : Option Origins) → lookup test ports ≡ o → option_map (numbers_at now.said) o ≡ lookup test now.levels.ports
  port_found test o at =
      subst (λ (s : SaidLevels). option_map (numbers_at s.said) o ≡ lookup test s.levels.ports) are
      (sym (ap (option_map (numbers_at ms)) at) ∙ found_mapped (numbers_at ms) test ports)

  module _ (m : Mention) (n : ℕ) (some : 0 < n) (there : slice_get now.said (n - 1) ≡ Some m) (o : Option Origins) where
    here : slice_get ms (n - 1) ≡ Some m
    here = ap (λ (s : SaidLevels). slice_get s.said (n - 1)) are ∙ there

    pub bit_put : (ns : List Net) (at : PortBit) → option_map (numbers_at now.said) o ≡ for_bit ns now.levels at
        → (new : List (PortBit × Origins)) → new ≡ insert_entry same_bit bits at (put_origins o m.change n)
        → kept_levels ms new ports inputs outputs ≡ record now { levels = with_bit ns at m.change now.levels }
    bit_put ns at is new put =
        let was : option_map (numbers_at ms) o ≡ for_bit ns (kept_levels ms bits ports inputs outputs).levels at =
        subst (λ (s : SaidLevels). option_map (numbers_at s.said) o ≡ for_bit ns s.levels at) (sym are) is in
        ap (λ (l : List (PortBit × SetNumbers)). record (kept_levels ms bits ports inputs outputs) { levels = record (kept_levels ms bits ports inputs outputs).levels { bits = l } })
        (ap (map (λ e. (e.0, numbers_at ms e.1))) put ∙ entry_put ms m n some here o (for_bit ns (kept_levels ms bits ports inputs outputs).levels at) was same_bit at bits)
        ∙ ap (λ (s : SaidLevels). record s { levels = with_bit ns at m.change s.levels }) are

    pub port_put : (decl : ℕ) → option_map (numbers_at now.said) o ≡ for_port now.levels decl (role_for m.change)
        → (new : List (ℕ × Origins)) → new ≡ insert_entry (λ a b. a == b) ports decl (put_origins o m.change n)
        → kept_levels ms bits new inputs outputs ≡ record now { levels = with_port decl m.change now.levels }
    port_put decl is new put =
        let was : option_map (numbers_at ms) o ≡ for_port (kept_levels ms bits ports inputs outputs).levels decl (role_for m.change) =
        subst (λ (s : SaidLevels). option_map (numbers_at s.said) o ≡ for_port s.levels decl (role_for m.change)) (sym are) is in
        ap (λ (l : List (ℕ × SetNumbers)). record (kept_levels ms bits ports inputs outputs) { levels = record (kept_levels ms bits ports inputs outputs).levels { ports = l } })
        (ap (map (λ e. (e.0, numbers_at ms e.1))) put
        ∙ entry_put ms m n some here o (for_port (kept_levels ms bits ports inputs outputs).levels decl (role_for m.change)) was (λ a b. a == b) decl ports)
        ∙ ap (λ (s : SaidLevels). record s { levels = with_port decl m.change s.levels }) are
