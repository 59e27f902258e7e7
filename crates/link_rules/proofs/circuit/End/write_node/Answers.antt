use Rattle.std.proofs.Common.{◌≡◌, ◌+◌, ◌<◌, suc, ◌∷◌, ◌++◌, length, take, drop, sym, ap, ◌∙◌, subst, arith}
use Rattle.std.specs.Prelude.{Some, slice_set}
use Rattle.std.proofs.lemmas.List.{set_split}
use Rattle.std.proofs.lemmas.Option.{slice_get_within}
use Rattle.link_rules.specs.Ends.{end_name, end_by, IsJoint}
use Rattle.link_rules.proofs.circuit.End.write_node.Goals as goal

pub returns-in-Some : goal.returns-in-Some
returns-in-Some c =
    let name = c.self.inside.name in
    let joint = c.in-Some.joint in
    let byte = c.args.delimiter in
    let items : c.extend_from_slice.new.self.items ≡ name =
    c.in_ok-extend_from_slice.ensures.items ∙ (ap (λ xs. xs ++ c.bytes.result.now) c.clear.ensures.items ∙ c.bytes.ensures.value) in
    let slash : IsJoint name (Some joint) = subst (IsJoint name) c.in-Some.is c.self.invariant in
    let there : joint < length name = slice_get_within name joint 47 slash in
    let next : suc joint ≡ joint + 1 = omega arith in
    ap (λ xs. slice_set xs joint byte) items ∙ (set_split name joint byte there ∙ (ap (λ n. take joint name ++ byte ∷ drop n name) next
    ∙ ap (end_name byte) (ap (end_by name) (sym c.in-Some.is) ∙ c.self.view_is)))
