use Rattle.std.proofs.Common.{◌≡◌, refl, ◌++◌, length, None, sym, subst}
use Rattle.hier_flatten.specs.Flat.{Flat, counts_of, limit_of}
use Rattle.hier_flatten.proofs.GrowingLaws.{grown_enter}
use Rattle.hier_flatten.proofs.growing.Growing.enter.Goals as goal

pub invariant_of-self : goal.invariant_of-self
invariant_of-self c =
    let flat : Flat = record { nets = c.self.inside.table ++ c.self.inside.more.items; instances = c.self.inside.instances.items; entered = c.self.inside.entered } in
    grown_enter c.self.inside.table c.self.inside.more.items c.self.inside.ranges.items c.self.inside.bits c.self.inside.entered (length c.self.inside.instances.items) (counts_of flat)
    (subst (λ (v : Flat). limit_of (counts_of v) ≡ None) (sym c.self.view_is) c.requires) refl c.self.invariant
