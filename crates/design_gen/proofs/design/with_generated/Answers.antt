use Rattle.std.proofs.Common.{List, subst}
use Rattle.xt_model.specs.declared.net.Net.{Net}
use Rattle.xt_model.specs.Levels.{IsLoop}
use Rattle.design_gen.proofs.Soundness.{sound, no_loop}
use Rattle.design_gen.proofs.design.with_generated.Goals as goal

pub with_nets-requires-clause-sound : goal.with_nets-requires-clause-sound
with_nets-requires-clause-sound c = let s = sound c.args.number c.args.count c.requires.count in rw (c.requires.nets) s

pub with_nets-requires-clause-acyclic : goal.with_nets-requires-clause-acyclic
with_nets-requires-clause-acyclic c path loop =
    let P : List Net → Type 0 = λ ns. IsLoop ns path in
    no_loop c.args.number c.args.count c.requires.count path (subst P c.requires.nets loop)
