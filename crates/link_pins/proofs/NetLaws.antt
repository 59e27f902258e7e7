-- The check points of output ports, one net after another.
use Rattle.std.proofs.Common.{◌≡◌, ℕ, ◌+◌, ◌≤◌, List, [], ◌∷◌, ◌++◌, length, take, Some, sym, ap, ◌∙◌, arith, append_assoc}
use Rattle.std.specs.List.{slice_get}
use Rattle.std.proofs.lemmas.List.{append-nil, take_all, length-take-le}
use Rattle.std.proofs.lemmas.Option.{slice_get_within}
use Rattle.xt_model.specs.declared.check.CheckPoint.{CheckPoint}
use Rattle.liberty_cells.specs.declared.library.Library.{Library}
use Rattle.verilog_net.specs.declared.netlist.Netlist.{Netlist}
use Rattle.sdc_read.specs.declared.constraints.Constraints.{Constraints}
use Rattle.verilog_net.specs.Bits.{Bit}
use Rattle.link_rules.specs.Checks.{port_checks, port_checks_from}
use Rattle.link_pins.proofs.PinLaws.{take_next}

module _ (library : Library) (netlist : Netlist) (constraints : Constraints) where
  ports_append : (net : ℕ) (xs ys : List Bit) → port_checks_from library netlist constraints net (xs ++ ys)
      ≡ port_checks_from library netlist constraints net xs ++ port_checks_from library netlist constraints (net + length xs) ys
  ports_append net [] ys = ap (λ n. port_checks_from library netlist constraints n ys) (omega arith)
  ports_append net (b ∷ more) ys =
      ap (λ l. port_checks library netlist constraints net b b.role ++ l)
      (ports_append (net + 1) more ys ∙ ap (λ n. port_checks_from library netlist constraints (net + 1) more ++ port_checks_from library netlist constraints n ys) (omega arith))
      ∙ sym (append_assoc (port_checks library netlist constraints net b b.role) (port_checks_from library netlist constraints (net + 1) more) (port_checks_from library netlist constraints (net + length (b ∷ more)) ys))

  -- the port of one net more
  pub ports_more : (bs : List Bit) (net : ℕ) (b : Bit) (old cur new : List CheckPoint) → slice_get bs net ≡ Some b → cur ≡ old ++ port_checks_from library netlist constraints 0 (take net bs)
      → new ≡ cur ++ port_checks library netlist constraints net b b.role → new ≡ old ++ port_checks_from library netlist constraints 0 (take (net + 1) bs)
  ports_more bs net b old cur new at so_far step =
      let len : 0 + length (take net bs) ≡ net = omega (arith, length-take-le net bs (omega (arith, slice_get_within bs net b at))) in
      let one : port_checks_from library netlist constraints 0 (take (net + 1) bs) ≡ port_checks_from library netlist constraints 0 (take net bs) ++ port_checks library netlist constraints net b b.role =
      ap (port_checks_from library netlist constraints 0) (take_next net bs b at)
      ∙ (ports_append 0 (take net bs) (b ∷ [])
      ∙ (ap (λ n. port_checks_from library netlist constraints 0 (take net bs) ++ port_checks_from library netlist constraints n (b ∷ [])) len
      ∙ ap (λ l. port_checks_from library netlist constraints 0 (take net bs) ++ l) (append-nil (port_checks library netlist constraints net b b.role)))) in
      step ∙ (ap (λ l. l ++ port_checks library netlist constraints net b b.role) so_far
      ∙ (append_assoc old (port_checks_from library netlist constraints 0 (take net bs)) (port_checks library netlist constraints net b b.role) ∙ ap (λ l. old ++ l) (sym one)))

  pub ports_all : (bs : List Bit) (net : ℕ) (old cur : List CheckPoint) → length bs ≤ net → cur ≡ old ++ port_checks_from library netlist constraints 0 (take net bs)
      → cur ≡ old ++ port_checks_from library netlist constraints 0 bs
  ports_all bs net old cur past so_far = so_far ∙ ap (λ (l : List Bit). old ++ port_checks_from library netlist constraints 0 l) (take_all net bs past)
