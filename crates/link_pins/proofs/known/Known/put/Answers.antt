use Rattle.std.proofs.Common.{◌∙◌, sym, refl, inl, inr}
use Rattle.link_pins.proofs.KnownLaws.{known_put, known_others}
use Rattle.link_pins.proofs.known.Known.put.Goals as goal

pub returns-clause-this : goal.returns-clause-this
returns-clause-this g c = known_put c.grow.new.self.of.items _ c.args.number c.args.found c.in_ok-grow.ensures.room refl

pub returns-clause-others : goal.returns-clause-others
returns-clause-others g c = λ n d f x h. elim (known_others c.grow.new.self.of.items _ c.args.number c.args.found c.in_ok-grow.ensures.room refl n d f x h) [
  | inl e ↦ inl e
  | inr k ↦ inr (sym (c.in_ok-grow.ensures.same n d f) ∙ k)
]
