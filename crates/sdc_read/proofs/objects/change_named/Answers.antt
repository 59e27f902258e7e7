use Rattle.std.proofs.Common.{rules, ◌≡◌, sym, ap, ◌∙◌, subst}
use Rattle.std.specs.Prelude.{Some, Ok}
use Rattle.sdc_read.specs.declared.mentions.Mention.{Mention}
use Rattle.sdc_read.specs.Changes.{role_for}
use Rattle.sdc_read.specs.Mentions.{nets_of, told, AllFit}
use Rattle.sdc_read.specs.Objects.{named_bits, change_found}
use Rattle.sdc_read.specs.View.{bits_text}
use Rattle.sdc_read.proofs.MentionLaws.{told_push, fits_push, same_clock, named_place}
use Rattle.sdc_read.proofs.objects.change_named.Goals as goal

pub returns-clause-value : goal.returns-clause-value
returns-clause-value c =
    let found : named_bits (role_for c.args.change) c.args.netlist.now c.args.name.now ≡ Some (bits_text c.in-Some.bits) = search rules in
    ap (λ o. change_found c.args.clock c.args.change o (told (nets_of c.args.netlist.now) c.args.said.now)) found
    ∙ ap Ok (sym (ap (told (nets_of c.args.netlist.now)) c.in_ok-push.ensures
    ∙ told_push (nets_of c.args.netlist.now) c.args.said.now _))

pub returns-clause-fits : goal.returns-clause-fits
returns-clause-fits c = λ all.
    let found : named_bits (role_for c.args.change) c.args.netlist.now c.args.name.now ≡ Some (bits_text c.in-Some.bits) = search rules in
    let m : Mention = record { change = c.args.change; clock = c.args.clock; bits = Some c.in-Some.bits } in
    subst (AllFit (nets_of c.args.netlist.now) c.args.clock) (sym c.in_ok-push.ensures)
    (fits_push (nets_of c.args.netlist.now) c.args.clock c.args.said.now m
    (record {
      change = c.requires;
      clock = same_clock c.args.clock;
      bits = λ two. named_place (role_for c.args.change) c.args.netlist.now c.args.name.now (bits_text c.in-Some.bits) found two;
    }) all)
