use Rattle.std.proofs.Common.{◌≡◌, refl, ℕ, Bool, true, false, if◌then◌else◌, List, Option, Some, None, Ok, Err, map, ap, sym, subst, ◌∙◌}
use Rattle.xt_model.specs.declared.code.Code.{Code}
use Rattle.xt_model.specs.declared.code.Code.TheVariants.{V1, V5}
use Rattle.verilog_net.specs.declared.netlist.Instance.{Instance}
use Rattle.verilog_net.specs.declared.netlist.Netlist.{Netlist}
use Rattle.verilog_net.specs.Nets.{Nets}
use Rattle.hier_flatten.specs.declared.fault.FlatFault.TheVariants as faults
use Rattle.hier_flatten.specs.Meaning.{Outcome}
use Rattle.hier_flatten.specs.Names.{is_repeated, has_equal_names, has_long_name, IsTabled}
use Rattle.hier_flatten.proofs.NamesLaws.{equal_nets}
use Rattle.hier_flatten.proofs.names.with_names.Goals as goal

abbrev fault_by : Bool → Bool → Option Code
fault_by equal long = if equal then Some V5 else if long then Some V1 else None

abbrev fault_of : Nets → List Instance → Option Code
fault_of nets is = fault_by (has_equal_names nets is) (has_long_name nets is)

abbrev outcome_by : ℕ → Netlist → Bool → Bool → Outcome
outcome_by last n equal long = if equal then Err (faults.Refused last V5) else if long then Err (faults.Refused last V1) else Ok n

fault_is : (last : ℕ) (n : Netlist) (equal long : Bool) (code : Code) → Some code ≡ fault_by equal long → Err (faults.Refused last code) ≡ outcome_by last n equal long
fault_is last n true long code e = let same : code ≡ V5 = cc in rw same refl
fault_is last n false true code e = let same : code ≡ V1 = cc in rw same refl
fault_is last n false false code e = absurd (cc)

flat_is : (last : ℕ) (n : Netlist) (equal long : Bool) → None ≡ fault_by equal long → Ok n ≡ outcome_by last n equal long
flat_is last n true long e = absurd (cc)
flat_is last n false true e = absurd (cc)
flat_is last n false false e = refl

pub returns-in_default : goal.returns-in_default
returns-in_default c =
    let tabled : IsTabled c.args.flat.nets None = rw c.in_default.is at c.into_parts-table.ensures.nets in
    let equal : has_equal_names c.args.flat.nets c.args.flat.instances ≡ true = equal_nets c.args.flat.nets c.args.flat.instances tabled in
    rw equal refl

pub returns-in-Some-2 : goal.returns-in-Some-2
returns-in-Some-2 c =
    let nets = c.args.flat.nets in
    let instances = c.args.flat.instances in
    let tabled : IsTabled nets (Some c.in-Some.nets) = rw c.in-Some.is at c.into_parts-table.ensures.nets in
    let differ : is_repeated (map (λ net. net.0) c.in-Some.nets) ≡ false =
    subst (λ ns. is_repeated (map (λ net. net.0) ns) ≡ false) (sym tabled.1) tabled.0 in
    let same : fault_of c.in-Some.nets c.as_slice.result.now ≡ fault_of nets instances =
    ap (λ ns. fault_of ns c.as_slice.result.now) tabled.1 ∙ ap (fault_of nets) (c.as_slice.ensures.value ∙ c.into_parts-table.ensures.instances) in
    fault_is c.args.last_line (record { «module» = c.args.top.now.«module»; nets = nets; instances = instances }) (has_equal_names nets instances)
    (has_long_name nets instances) c.in-Some-2.code (sym c.in-Some-2.is ∙ (c.in_ok-code.ensures differ ∙ same))

pub returns : goal.returns
returns c =
    let nets = c.args.flat.nets in
    let instances = c.args.flat.instances in
    let tabled : IsTabled nets (Some c.in-Some.nets) = rw c.in-Some.is at c.into_parts-table.ensures.nets in
    let differ : is_repeated (map (λ net. net.0) c.in-Some.nets) ≡ false =
    subst (λ ns. is_repeated (map (λ net. net.0) ns) ≡ false) (sym tabled.1) tabled.0 in
    let same : fault_of c.in-Some.nets c.as_slice.result.now ≡ fault_of nets instances =
    ap (λ ns. fault_of ns c.as_slice.result.now) tabled.1 ∙ ap (fault_of nets) (c.as_slice.ensures.value ∙ c.into_parts-table.ensures.instances) in
    let all : c.from_vec.result ≡ instances = c.from_vec.ensures ∙ c.into_parts-table.ensures.instances in
    rw c.in_ok-shared.ensures (rw tabled.1 (rw all
    (flat_is c.args.last_line (record { «module» = c.args.top.now.«module»; nets = nets; instances = instances }) (has_equal_names nets instances)
    (has_long_name nets instances) (sym c.in_default-2.is ∙ (c.in_ok-code.ensures differ ∙ same)))))
