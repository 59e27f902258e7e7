use Rattle.std.proofs.Common.{ap, ◌∙◌, refl, not, map}
use Rattle.std.specs.Str.{bytes_eq}
use Rattle.name_numbers.proofs.NameLaws.{any_mapped, number_mapped, entered_mapped}
use Rattle.name_numbers.proofs.names.Names.enter.Goals as goal

pub returns-clause-number : goal.returns-clause-number
returns-clause-number c =
    let k = c.in_ok-insert_full.ensures.index ∙ number_mapped (bytes_eq c.args.name.now) (λ k. k.bytes.now) c.self.inside.set.keys in
    k ∙ rw c.self.view_is refl

pub returns-clause-fresh : goal.returns-clause-fresh
returns-clause-fresh c =
    let k = c.in_ok-insert_full.ensures.added ∙ ap not (any_mapped (bytes_eq c.args.name.now) (λ k. k.bytes.now) c.self.inside.set.keys) in
    k ∙ rw c.self.view_is refl

pub returns-clause-entered : goal.returns-clause-entered
returns-clause-entered c =
    let k = ap (map (λ k. k.bytes.now)) c.in_ok-insert_full.ensures.keys ∙ entered_mapped (λ k. k.bytes.now) _ c.self.inside.set.keys in
    k ∙ rw c.self.view_is refl
