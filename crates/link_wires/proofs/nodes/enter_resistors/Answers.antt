use Rattle.std.proofs.Common.{◌≡◌, ◌∙◌, sym, ap, refl, get_or, subst}
use Rattle.std.specs.Prelude.{ℕ, List}
use Rattle.name_numbers.specs.Names.{with_name}
use Rattle.xt_model.specs.Names.{IsName}
use Rattle.spef_read.specs.declared.parasitics.ResText.{ResText}
use Rattle.link_rules.specs.Nodes.{text_of}
use Rattle.link_wires.proofs.NodeLaws.{fold_pair, pair_second, pair_rest, no_resistor}
use Rattle.link_wires.proofs.nodes.enter_resistors.Goals as goal

pub enter-requires-in-len1-up : goal.enter-requires-in-len1-up
enter-requires-in-len1-up c =
    let p = c.args.nodes.now.parasitics in
    let rest = c.resistors.rest.now in
    let x = get_or rest 0 no_resistor in
    let a : ResText → List ℕ = λ r. text_of p r.a in
    let b : ResText → List ℕ = λ r. text_of p r.b in
    let same : c.enter.new.self.parasitics ≡ p = c.in_ok-enter.ensures.same ∙ c.resistors.invariant.same in
    subst (λ q. IsName (text_of q x.b)) (sym same) (pair_second a b rest no_resistor x c.in-len1-up.len_at_least refl c.resistors.invariant.names)

pub resistors-preserved : goal.resistors-preserved
resistors-preserved c =
    let p = c.args.nodes.now.parasitics in
    let rest = c.resistors.rest.now in
    let x = get_or rest 0 no_resistor in
    let a : ResText → List ℕ = λ r. text_of p r.a in
    let b : ResText → List ℕ = λ r. text_of p r.b in
    let old = c.resistors.nodes.list in
    let mid = c.enter.new.self.list in
    let same : c.enter.new.self.parasitics ≡ p = c.in_ok-enter.ensures.same ∙ c.resistors.invariant.same in
    record {
      same = c.in_ok-enter-2.ensures.same ∙ same;
      value =
          fold_pair a b rest no_resistor x old mid c.enter-in-len1-up.new.self.list c.in-len1-up.len_at_least refl
          (c.in_ok-enter.ensures.list ∙ ap (λ q. with_name (text_of q x.a) old) c.resistors.invariant.same)
          (c.in_ok-enter-2.ensures.list ∙ ap (λ q. with_name (text_of q x.b) mid) same)
          ∙ c.resistors.invariant.value;
      names = pair_rest a b rest no_resistor c.in-len1-up.len_at_least c.resistors.invariant.names;
    }
