use Rattle.std.proofs.Common.{◌+◌, ℕ, None, Ok, Err, refl, sym, ap, subst, ◌∙◌}
use Rattle.std.specs.List.{All}
use Rattle.xt_model.specs.Limits.{most_instances}
use Rattle.xt_model.specs.declared.fault.LimitKind.{LimitKind}
use Rattle.verilog_net.specs.declared.netlist.Modules.{Modules}
use Rattle.verilog_net.specs.Sound.{IsSoundModule}
use Rattle.call_meaning.specs.declared.refusal.PassedLimit.{PassedLimit}
use Rattle.call_meaning.specs.declared.refusal.TextRefusal.TheVariants.{At, Beyond}
use Rattle.call_meaning.proofs.Netlists.{modules_at_fault, flat_modules, lone_means, lone_sound}
use Rattle.call_files.proofs.block.flat_netlist.Goals as goal

pub returns-in-Err-clause-stop : goal.returns-in-Err-clause-stop
returns-in-Err-clause-stop c =
    rw c.stop_at.ensures (modules_at_fault c.args.file c.args.bytes.now c.in-Err.fault (λ line code is. rw is at c.in-Err.ensures.value))

pub returns-in-Ok-lone_module-clause-ok : goal.returns-in-Ok-lone_module-clause-ok
returns-in-Ok-lone_module-clause-ok c =
    lone_means c.args.bytes.now c.in-Ok.modules.list c.in-Ok-lone_module.netlist c.in-Ok.ensures.value c.in-Ok-lone_module.ensures.ok

pub returns-in-Ok-lone_module-clause-sound : goal.returns-in-Ok-lone_module-clause-sound
returns-in-Ok-lone_module-clause-sound c =
    lone_sound c.args.bytes.now c.in-Ok.modules.list c.in-Ok-lone_module.netlist c.in-Ok.ensures.value c.in-Ok-lone_module.ensures.ok c.in-Ok.ensures.sound

pub returns-in-Ok-flatten-clause-sound : goal.returns-in-Ok-flatten-clause-sound
returns-in-Ok-flatten-clause-sound c =
    c.in-Ok-flatten.ensures.sound (subst (λ (m : Modules). All IsSoundModule m.list) (sym c.in-Err-lone_module.ensures.err.0) c.in-Ok.ensures.sound)

pub returns-in-Err-Refused-clause-stop : goal.returns-in-Err-Refused-clause-stop
returns-in-Err-Refused-clause-stop c =
    rw c.stop_at-in-Err-Refused.ensures (record {
      result = Err (At c.in-Err-Refused.line c.in-Err-Refused.code);
      meant = flat_modules c.args.bytes.now c.in-Err-lone_module.modules.list (Err (At c.in-Err-Refused.line c.in-Err-Refused.code))
          (c.in-Ok.ensures.value ∙ ap (λ (m : Modules). Ok m.list) (sym c.in-Err-lone_module.ensures.err.0))
          (rw (c.last_line.ensures, c.in-Err-Refused.field-0-is) at c.in-Err-Refused.ensures.value);
      leads = refl;
    })

pub returns-in-Err-Limit-clause-stop : goal.returns-in-Err-Limit-clause-stop
returns-in-Err-Limit-clause-stop c =
    let limit : PassedLimit LimitKind ℕ = record { what = c.in-Err-Limit.what; name = None; value = most_instances + 1 } in
    rw c.beyond.ensures (record {
      result = Err (Beyond limit);
      meant = flat_modules c.args.bytes.now c.in-Err-lone_module.modules.list (Err (Beyond limit))
          (c.in-Ok.ensures.value ∙ ap (λ (m : Modules). Ok m.list) (sym c.in-Err-lone_module.ensures.err.0))
          (rw (c.last_line.ensures, c.in-Err-Limit.field-0-is) at c.in-Err-Limit.ensures.value, refl, refl);
      leads = refl;
    })

pub returns-in-Err-clause-ok : goal.returns-in-Err-clause-ok
returns-in-Err-clause-ok c = tt

pub returns-in-Err-clause-sound : goal.returns-in-Err-clause-sound
returns-in-Err-clause-sound c = tt

pub returns-in-Ok-lone_module-clause-stop : goal.returns-in-Ok-lone_module-clause-stop
returns-in-Ok-lone_module-clause-stop c = tt

pub returns-in-Ok-flatten-clause-ok : goal.returns-in-Ok-flatten-clause-ok
returns-in-Ok-flatten-clause-ok c =
    flat_modules c.args.bytes.now c.in-Err-lone_module.modules.list (Ok c.in-Ok-flatten.netlist) (c.in-Ok.ensures.value ∙ ap (λ (m : Modules). Ok m.list) (sym c.in-Err-lone_module.ensures.err.0))
    (rw c.last_line.ensures at c.in-Ok-flatten.ensures.value)

pub returns-in-Ok-flatten-clause-stop : goal.returns-in-Ok-flatten-clause-stop
returns-in-Ok-flatten-clause-stop c = tt

pub returns-in-Err-Refused-clause-ok : goal.returns-in-Err-Refused-clause-ok
returns-in-Err-Refused-clause-ok c = tt

pub returns-in-Err-Refused-clause-sound : goal.returns-in-Err-Refused-clause-sound
returns-in-Err-Refused-clause-sound c = tt

pub returns-in-Err-Limit-clause-ok : goal.returns-in-Err-Limit-clause-ok
returns-in-Err-Limit-clause-ok c = tt

pub returns-in-Err-Limit-clause-sound : goal.returns-in-Err-Limit-clause-sound
returns-in-Err-Limit-clause-sound c = tt

pub returns-in-Err-NoMemory-clause-ok : goal.returns-in-Err-NoMemory-clause-ok
returns-in-Err-NoMemory-clause-ok c = tt

pub returns-in-Err-NoMemory-clause-sound : goal.returns-in-Err-NoMemory-clause-sound
returns-in-Err-NoMemory-clause-sound c = tt

pub returns-in-Err-NoMemory-clause-stop : goal.returns-in-Err-NoMemory-clause-stop
returns-in-Err-NoMemory-clause-stop c = tt
