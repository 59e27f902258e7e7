use Rattle.std.proofs.Common.{◌≡◌, ◌<◌, ◌≤◌, ◌-◌, ◌∙◌, Some, [], ◌++◌, length, map, get_or, sym, ap, subst, arith}
use Rattle.std.proofs.lemmas.List.{length-map, length-append, get_or_append_left, get_or-append_right, get_or-map}
use Rattle.std.proofs.lemmas.Option.{slice_get-get_or}
use Rattle.std.specs.List.{slice_get}
use Rattle.name_parts.specs.Parts.{whole}
use Rattle.xt_model.specs.Names.{IsName}
use Rattle.link_rules.specs.Nodes.{text_of}
use Rattle.link_wires.specs.Marks.{NodesOf}
use Rattle.link_wires.proofs.ListLaws.{all_right, all_unmapped}
use Rattle.link_wires.proofs.nodes.Nodes.name.Goals as goal

pub returns-else-place-len-clause-sound : goal.returns-else-place-len-clause-sound
returns-else-place-len-clause-sound c =
    let s = c.self.inside in
    let p = s.parasitics.now in
    let ends = s.ends.items in
    let others = s.others.items in
    let x = c.index-else-place-len.result.now in
    let j = c.args.number - c.len-else-place-len.result in
    let whole_length = ap (λ (v : NodesOf). length v.list) c.self.view_is in
    let lt : j < length others =
    omega (arith, c.requires, whole_length, length-append ends (map (text_of p) others), length-map others (text_of p), c.if-place-len.false, c.len.ensures, c.len-else-place-len.ensures, s.ends.ok.0) in
    let named : IsName (text_of p (get_or others j x)) =
    all_unmapped IsName (text_of p) others (all_right IsName ends (map (text_of p) others) c.self.invariant.names) j x lt in
    let e : whole c.text_of.result ≡ text_of p (get_or others j x) = c.text_of.ensures ∙ ap (text_of p) c.index-else-place-len.ensures in
    subst IsName (sym e) named

pub index-requires : goal.index-requires
index-requires c = omega (arith, c.if-place-len.true, c.len.ensures)

pub overflow_sub-place : goal.overflow_sub-place
overflow_sub-place c = omega (arith, c.if-place-len.false, c.len.ensures, c.len-else-place-len.ensures)

pub index-requires-else-place-len : goal.index-requires-else-place-len
index-requires-else-place-len c =
    let s = c.self.inside in
    let p = s.parasitics.now in
    let ends = s.ends.items in
    let others = s.others.items in
    let whole_length = ap (λ (v : NodesOf). length v.list) c.self.view_is in
    omega (arith, c.requires, whole_length, length-append ends (map (text_of p) others), length-map others (text_of p), c.if-place-len.false, c.len.ensures, c.len-else-place-len.ensures, s.ends.ok.0, s.others.ok.0)

pub returns-then-place-len-clause-sound : goal.returns-then-place-len-clause-sound
returns-then-place-len-clause-sound c = subst IsName (sym (c.of.ensures ∙ c.bytes.ensures.value)) c.bytes.ensures.sound

pub returns-else-place-len-clause-value : goal.returns-else-place-len-clause-value
returns-else-place-len-clause-value c =
    let s = c.self.inside in
    let p = s.parasitics.now in
    let ends = s.ends.items in
    let others = s.others.items in
    let x = c.index-else-place-len.result.now in
    let i = c.args.number in
    let j = i - c.len-else-place-len.result in
    let whole_length = ap (λ (v : NodesOf). length v.list) c.self.view_is in
    let lt : j < length others =
    omega (arith, c.requires, whole_length, length-append ends (map (text_of p) others), length-map others (text_of p), c.if-place-len.false, c.len.ensures, c.len-else-place-len.ensures, s.ends.ok.0) in
    let past : length ends ≡ c.len-else-place-len.result = omega (arith, c.len-else-place-len.ensures, s.ends.ok.0) in
    let low : c.len-else-place-len.result ≤ i = omega (arith, c.if-place-len.false, c.len.ensures, c.len-else-place-len.ensures) in
    let here = get_or-append_right ends (map (text_of p) others) c.len-else-place-len.result i [] past low ∙ get_or-map (text_of p) others j x [] lt in
    let same = c.text_of.ensures ∙ ap (text_of p) c.index-else-place-len.ensures in
    let at = slice_get-get_or (ends ++ map (text_of p) others) i [] (omega (arith, c.requires, whole_length)) in
    let list = ap (λ (v : NodesOf). v.list) c.self.view_is in
    subst (λ l. slice_get l i ≡ Some (whole c.text_of.result)) list (at ∙ ap Some (here ∙ sym same))

pub returns-then-place-len-clause-value : goal.returns-then-place-len-clause-value
returns-then-place-len-clause-value c =
    let s = c.self.inside in
    let p = s.parasitics.now in
    let ends = s.ends.items in
    let others = s.others.items in
    let i = c.args.number in
    let x = c.index.result.now in
    let whole_length = ap (λ (v : NodesOf). length v.list) c.self.view_is in
    let low : i < length ends = omega (arith, c.if-place-len.true, c.len.ensures, s.ends.ok.0) in
    let here = get_or_append_left ends (map (text_of p) others) x i low in
    let same = c.of.ensures ∙ (c.bytes.ensures.value ∙ c.index.ensures) in
    let at = slice_get-get_or (ends ++ map (text_of p) others) i x (omega (arith, c.requires, whole_length)) in
    let list = ap (λ (v : NodesOf). v.list) c.self.view_is in
    subst (λ l. slice_get l i ≡ Some (whole c.of.result)) list (at ∙ ap Some (here ∙ sym same))
