use Rattle.std.proofs.Common.{◌≡◌, sym, subst, ◌++◌, ◌∷◌, [], SFits, w64, to_z-of_z, rules}
use Rattle.std.specs.List.{All}
use Rattle.std.proofs.lemmas.List.Elements.{All-push}
use Rattle.xt_model.specs.Tables.{IsTableNumber}
use Rattle.liberty_tables.proofs.numbers.Numbers.push.Goals as goal

pub invariant_of-self : goal.invariant_of-self
invariant_of-self c = subst (All IsTableNumber) (sym c.in_err-push.ensures.items) c.self.invariant

pub invariant_of-self-2 : goal.invariant_of-self-2
invariant_of-self-2 c =
    let fits : SFits w64 c.args.number = search rules in
    let more : c.push.new.self.items ≡ c.self.inside.items.items ++ c.args.number ∷ [] =
    rw (to_z-of_z fits) at c.in_ok-push.ensures.items in
    subst (All IsTableNumber) (sym more)
    (All-push IsTableNumber c.self.inside.items.items c.args.number c.self.invariant (record { low = c.requires.low; high = c.requires.high }))

pub returns : goal.returns
returns c =
    let fits : SFits w64 c.args.number = search rules in
    rw (← c.self.view_is) (rw (to_z-of_z fits) at c.in_ok-push.ensures.items)
