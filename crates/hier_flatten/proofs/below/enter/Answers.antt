use Rattle.std.proofs.Common.{◌≡◌, ◌∷◌, [], ◌++◌, length, ap, sym, subst, ◌∙◌, arith}
use Rattle.std.proofs.lemmas.List.{append_assoc, length-take-le}
use Rattle.hier_flatten.specs.Flat.{Flat, ranges_of, prefix_below, wires_below, own_nets}
use Rattle.hier_flatten.specs.Walk.{scope_of, IsEntered}
use Rattle.hier_flatten.proofs.BelowLaws.{entered_is}
use Rattle.hier_flatten.proofs.WalkLaws.{whole_path}
use Rattle.hier_flatten.proofs.below.enter.Goals as goal

pub returns-clause-growing : goal.returns-clause-growing
returns-clause-growing c =
    let s = scope_of c.args.path.now.items c.args.frame.now in
    let here : c.ranges-2.result.now ≡ ranges_of c.args.growing.now.nets = c.ranges-2.ensures.ranges ∙ ap (λ (f : Flat). ranges_of f.nets) c.enter.ensures in
    let connected : c.in_ok-below.wires.items ≡ wires_below (ranges_of c.args.growing.now.nets) s c.args.instance.now c.args.inner.now =
    c.in_ok-below.ensures.wires s.prefix ∙ ap (λ r. wires_below r s c.args.instance.now c.args.inner.now) here in
    let way : c.push.new.self.items ≡ prefix_below s.prefix c.args.instance.now.name =
    c.in_ok-push.ensures.items
    ∙ (ap (λ t. t ++ 47 ∷ []) (c.in_ok-extend_from_slice.ensures.items ∙ ap (λ n. c.args.path.now.items ++ n) c.bytes.ensures)
    ∙ (append_assoc c.args.path.now.items c.args.instance.now.name (47 ∷ [])
    ∙ ap (λ p. prefix_below p c.args.instance.now.name) (sym (whole_path c.args.path.now.items c.args.frame.now.path c.requires.path)))) in
    entered_is c.args.growing.now c.enter.new.self s c.args.instance.now c.args.inner.now c.in_ok-below.wires.items c.push.new.self.items connected way
    c.enter.ensures c.add_nets.new.growing
    (c.in_ok-add_nets.ensures.nets
    ∙ ap (λ w. record c.enter.new.self { nets = c.enter.new.self.nets ++ own_nets c.push.new.self.items c.args.inner.now.nets w }) c.as_slice.ensures.value)

pub returns-clause-frame : goal.returns-clause-frame
returns-clause-frame c =
    let s = scope_of c.args.path.now.items c.args.frame.now in
    let here : c.ranges-2.result.now ≡ ranges_of c.args.growing.now.nets = c.ranges-2.ensures.ranges ∙ ap (λ (f : Flat). ranges_of f.nets) c.enter.ensures in
    let short : length s.prefix ≡ c.args.frame.now.path = length-take-le c.args.frame.now.path c.args.path.now.items (omega (arith, c.requires.path)) in
    subst (λ r. IsEntered r s c.args.instance.now c.args.inner.now c.in_ok-below.below) here (c.in_ok-below.ensures.frame s.prefix short)

pub returns-clause-links : goal.returns-clause-links
returns-clause-links c = c.in_ok-below.ensures.links
