-- What four values make together: a design, or the first fault in the order of the tests.
use Rattle.std.specs.Prelude.{◌≡◌, ℕ, List, [], length, map, Some, None, unwrap_or, option_map, Result, Ok, Err, ◌⊎◌}
use Rattle.std.specs.List.{slice_get}
use Rattle.xt_model.specs.declared.net.Net.{Net}
use Rattle.xt_model.specs.Parts.{Parts}
use Rattle.xt_model.specs.Levels.{AreLevelled}
use Rattle.elmore_tree.specs.declared.form.WireForm.{WireForm}
use Rattle.name_numbers.specs.Names.{Text}
use Rattle.link_rules.specs.declared.fault.LinkFault.{LinkFault}
use Rattle.link_rules.specs.declared.fault.LinkFault.TheVariants as faults
use Rattle.link_rules.specs.declared.fault.LinkRefusal.TheVariants as refusals
use Rattle.verilog_net.specs.declared.netlist.Netlist.{Netlist}
use Rattle.spef_read.specs.declared.parasitics.Parasitics.{Parasitics}
use Rattle.elmore_tree.specs.Forms.{IsFormOf}
use Rattle.link_rules.specs.Bare.{Numbered, Inputs, numbered, tree, bare_parts, bare_nets, parts_with}
use Rattle.xt_model.specs.Loops.{IsFirstLoop}
use Rattle.link_rules.specs.Limits.{count_fault, size_fault}
use Rattle.link_rules.specs.Refusals.{instance_fault, driver_fault, AreAcceptedWires, IsFirstWireFault, clock_fault}

-- the name of the net of a number
abbrev pub name_at : List Net → ℕ → Text
name_at nets i = unwrap_or (option_map (λ n. n.name) (slice_get nets i)) []

-- the first loop of arcs, by the names of its nets
abbrev pub IsLoopFault : List Net → LinkFault → Type 0
IsLoopFault nets (faults.Refused (refusals.K4 names)) =
    (loop : List ℕ) × IsFirstLoop nets loop × (names ≡ map (name_at nets) loop)
IsLoopFault nets _ = ⊥

-- the forms of wires, one for each net
pub record AreForms (netlist : Netlist) (parasitics : Parasitics) (nets : List Numbered) (forms : List WireForm)
    : Type 0 where
  pub count : length forms ≡ length nets
  pub each : (i : ℕ) (n : Numbered) (form : WireForm) → slice_get nets i ≡ Some n → slice_get forms i ≡ Some form
      → IsFormOf (tree netlist parasitics n) form

module _ (x : Inputs) where
  -- nothing is refused up to the pins of nets, and then up to their wires
  pub record HasAcceptedPins : Type 0 where
    pub counts : count_fault x.netlist ≡ None
    pub instances : instance_fault x.library x.netlist ≡ None
    pub drivers : driver_fault x.library x.netlist ≡ None

  pub record HasAcceptedWires : Type 0 where
    pub pins : HasAcceptedPins
    pub wires : AreAcceptedWires x.netlist x.parasitics (numbered x)

  -- the tests in their order, each where those before it refuse nothing
  pub record AtInstances (fault : LinkFault) : Type 0 where
    pub counts : count_fault x.netlist ≡ None
    pub here : instance_fault x.library x.netlist ≡ Some fault

  pub record AtDrivers (fault : LinkFault) : Type 0 where
    pub counts : count_fault x.netlist ≡ None
    pub instances : instance_fault x.library x.netlist ≡ None
    pub here : driver_fault x.library x.netlist ≡ Some fault

  pub record AtWires (fault : LinkFault) : Type 0 where
    pub pins : HasAcceptedPins
    pub here : IsFirstWireFault x.netlist x.parasitics (numbered x) fault

  pub record AtSizes (fault : LinkFault) : Type 0 where
    pub wires : HasAcceptedWires
    pub here : size_fault (bare_parts x) ≡ Some fault

  pub record AtLevels (fault : LinkFault) : Type 0 where
    pub wires : HasAcceptedWires
    pub sizes : size_fault (bare_parts x) ≡ None
    pub here : IsLoopFault (bare_nets x) fault

  pub record AtClock (fault : LinkFault) : Type 0 where
    pub wires : HasAcceptedWires
    pub sizes : size_fault (bare_parts x) ≡ None
    pub levels : AreLevelled (bare_nets x)
    pub here : clock_fault (bare_parts x) ≡ Some fault

  -- the first fault
  abbrev pub IsRefused : LinkFault → Type 0
  IsRefused fault =
      (count_fault x.netlist ≡ Some fault) ⊎ (AtInstances fault ⊎ (AtDrivers fault ⊎ (AtWires fault
      ⊎ (AtSizes fault ⊎ (AtLevels fault ⊎ AtClock fault)))))

  -- nothing is refused, and the design has the forms of its wires
  pub record IsLinked (d : Parts) : Type 0 where
    pub wires : HasAcceptedWires
    pub sizes : size_fault (bare_parts x) ≡ None
    pub levels : AreLevelled (bare_nets x)
    pub clock : clock_fault (bare_parts x) ≡ None
    pub parts : (forms : List WireForm) × AreForms x.netlist x.parasitics (numbered x) forms × (d ≡ parts_with x forms)

  -- the answer is the design, or the first fault; want of memory is always free
  abbrev pub Links : Result Parts LinkFault → Type 0
  Links (Ok d) = IsLinked d
  Links (Err faults.NoMemory) = Unit {0}
  Links (Err fault) = IsRefused fault
