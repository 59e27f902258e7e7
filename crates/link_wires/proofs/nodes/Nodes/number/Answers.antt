use Rattle.std.proofs.Common.{◌≡◌, ◌++◌, ◌∙◌, Some, None, length, map, sym, ap, subst}
use Rattle.std.specs.List.{slice_get}
use Rattle.name_numbers.specs.Names.{number_of}
use Rattle.link_rules.specs.Nodes.{text_of}
use Rattle.link_wires.specs.Marks.{NodesOf, mark_of}
use Rattle.link_wires.proofs.MarkLaws.{number_by}
use Rattle.link_wires.proofs.nodes.Nodes.number.Goals as goal

pub returns-in-Some : goal.returns-in-Some
returns-in-Some c =
    let s = c.self.inside in
    let p = s.parasitics.now in
    let list = s.ends.items ++ map (text_of p) s.others.items in
    let marks = s.marks.items in
    let name = c.args.name in
    let mark : mark_of s.turn (slice_get marks name.number) ≡ Some c.in-Some.number =
    sym (c.in-Some.ensures ∙ ap (λ l. mark_of s.turn (slice_get l name.number)) c.deref.ensures.value) in
    let P : NodesOf → Type 0 = λ v. c.in-Some.number ≡ number_of (text_of v.parasitics name) v.list in
    subst P c.self.view_is (number_by p list s.turn marks c.self.invariant name (Some c.in-Some.number) mark)

pub returns-in-None : goal.returns-in-None
returns-in-None c =
    let s = c.self.inside in
    let p = s.parasitics.now in
    let list = s.ends.items ++ map (text_of p) s.others.items in
    let marks = s.marks.items in
    let name = c.args.name in
    let mark : mark_of s.turn (slice_get marks name.number) ≡ None =
    sym (c.in-None.ensures ∙ ap (λ l. mark_of s.turn (slice_get l name.number)) c.deref.ensures.value) in
    let len : c.len.result ≡ length list = c.len.ensures ∙ ap (λ (v : NodesOf). length v.list) (sym c.self.view_is) in
    let P : NodesOf → Type 0 = λ v. c.len.result ≡ number_of (text_of v.parasitics name) v.list in
    subst P c.self.view_is (len ∙ number_by p list s.turn marks c.self.invariant name None mark)
