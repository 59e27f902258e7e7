use Rattle.std.proofs.Common.{◌≡◌, ◌<◌, ◌++◌, ◌∷◌, [], ◌∙◌, true, false, length, map, sym, ap, refl, subst, arith, append_assoc, slice_set}
use Rattle.std.specs.Prelude.{is_some}
use Rattle.std.specs.List.{slice_get}
use Rattle.std.proofs.lemmas.List.{map-append}
use Rattle.std.proofs.lemmas.Option.{slice_get_within}
use Rattle.name_numbers.specs.Names.{with_name}
use Rattle.xt_model.specs.Names.{IsName}
use Rattle.link_rules.specs.Nodes.{text_of}
use Rattle.link_wires.specs.Marks.{NodesOf, mark_of, AreNodes}
use Rattle.link_wires.proofs.MarkLaws.{with_by, name_there, nodes_push}
use Rattle.link_wires.proofs.nodes.Nodes.enter.Goals as goal

pub returns-then-is_some-clause-list : goal.returns-then-is_some-clause-list
returns-then-is_some-clause-list c =
    let s = c.self.inside in
    let p = s.parasitics.now in
    let list = s.ends.items ++ map (text_of p) s.others.items in
    let marks = s.marks.items in
    let name = c.args.name in
    let mark : mark_of s.turn (slice_get marks name.number) ≡ c.marked.result =
    sym (c.marked.ensures ∙ ap (λ l. mark_of s.turn (slice_get l name.number)) c.deref.ensures.value) in
    let some : is_some (mark_of s.turn (slice_get marks name.number)) ≡ true = ap is_some mark ∙ (sym c.is_some.ensures ∙ c.if-is_some.true) in
    let P : NodesOf → Type 0 = λ v. v.list ≡ with_name (text_of v.parasitics name) v.list in
    subst P c.self.view_is (sym (with_by p list s.turn marks c.self.invariant name true some))

pub index_mut-requires : goal.index_mut-requires
index_mut-requires c =
    let s = c.self.inside in
    let p = s.parasitics.now in
    let list = s.ends.items ++ map (text_of p) s.others.items in
    let marks = s.marks.items in
    let name = c.args.name in
    let named : IsName (text_of p name) = subst (λ (v : NodesOf). IsName (text_of v.parasitics name)) (sym c.self.view_is) c.requires in
    let within = slice_get_within _ name.number (text_of p name) (name_there p list s.turn marks c.self.invariant name named) in
    let count = c.self.invariant.marked.count in
    omega (arith, within, count, s.marks.ok.0)

pub invariant_of-self-2 : goal.invariant_of-self-2
invariant_of-self-2 c =
    let s = c.self.inside in
    let p = s.parasitics.now in
    let list = s.ends.items ++ map (text_of p) s.others.items in
    let marks = s.marks.items in
    let name = c.args.name in
    let named : IsName (text_of p name) = subst (λ (v : NodesOf). IsName (text_of v.parasitics name)) (sym c.self.view_is) c.requires in
    let mark : mark_of s.turn (slice_get marks name.number) ≡ c.marked.result =
    sym (c.marked.ensures ∙ ap (λ l. mark_of s.turn (slice_get l name.number)) c.deref.ensures.value) in
    let none : is_some (mark_of s.turn (slice_get marks name.number)) ≡ false = ap is_some mark ∙ (sym c.is_some.ensures ∙ c.if-is_some.false) in
    let lists : s.ends.items ++ map (text_of p) c.push.new.self.items ≡ list ++ text_of p name ∷ [] =
    ap (λ l. s.ends.items ++ map (text_of p) l) c.in_ok-push.ensures.items
    ∙ (ap (λ l. s.ends.items ++ l) (map-append (text_of p) s.others.items (name ∷ []))
    ∙ sym (append_assoc s.ends.items (map (text_of p) s.others.items) (text_of p name ∷ []))) in
    let len : c.len-number.result ≡ length list = c.len-number.ensures ∙ ap (λ (v : NodesOf). length v.list) (sym c.self.view_is) in
    let few : length list < 4294967295 = omega (arith, len, c.if-number-ge-MOST_KEPT.false) in
    subst (λ l. AreNodes p l s.turn (slice_set marks name.number (record { turn = s.turn; number = c.len-number.result }))) (sym lists)
    (nodes_push p list s.turn marks c.self.invariant name (record { turn = s.turn; number = c.len-number.result }) _ named none refl len few refl)

pub returns-clause-list : goal.returns-clause-list
returns-clause-list c =
    let s = c.self.inside in
    let p = s.parasitics.now in
    let list = s.ends.items ++ map (text_of p) s.others.items in
    let marks = s.marks.items in
    let name = c.args.name in
    let mark : mark_of s.turn (slice_get marks name.number) ≡ c.marked.result =
    sym (c.marked.ensures ∙ ap (λ l. mark_of s.turn (slice_get l name.number)) c.deref.ensures.value) in
    let none : is_some (mark_of s.turn (slice_get marks name.number)) ≡ false = ap is_some mark ∙ (sym c.is_some.ensures ∙ c.if-is_some.false) in
    let lists : s.ends.items ++ map (text_of p) c.push.new.self.items ≡ list ++ text_of p name ∷ [] =
    ap (λ l. s.ends.items ++ map (text_of p) l) c.in_ok-push.ensures.items
    ∙ (ap (λ l. s.ends.items ++ l) (map-append (text_of p) s.others.items (name ∷ []))
    ∙ sym (append_assoc s.ends.items (map (text_of p) s.others.items) (text_of p name ∷ []))) in
    let P : NodesOf → Type 0 = λ v. (list ++ text_of p name ∷ []) ≡ with_name (text_of v.parasitics name) v.list in
    lists ∙ subst P c.self.view_is (sym (with_by p list s.turn marks c.self.invariant name false none))
