use Rattle.std.proofs.Common.{[], map, ap, sym, subst, ◌∙◌, arith}
use Rattle.std.proofs.lemmas.List.Elements.{All-nil}
use Rattle.xt_model.specs.Names.{IsName}
use Rattle.verilog_net.specs.Bits.{bits}
use Rattle.link_index.specs.Names.{with_names, AreNames}
use Rattle.link_index.proofs.NameLaws.{no_nets, all_nets, names_all, names_apart, entered_more}
use Rattle.link_index.proofs.names.names_of.Goals as goal

pub loop-number-init : goal.loop-number-init
loop-number-init c = record {
  names = c.new-names.ensures ∙ ap (λ l. with_names [] (map (λ b. b.name) l)) (sym (no_nets c.args.netlist.now.nets));
  spelled = subst AreNames (sym c.new-names.ensures) (All-nil (λ e. IsName e.0));
}

pub loop-number-preserved : goal.loop-number-preserved
loop-number-preserved c = record {
  names =
      entered_more c.args.netlist.now.nets c.loop-number.number c.loop-number.names c.add_net.new.names c.loop-number.invariant.names c.in_ok-add_net.ensures.entered;
  spelled = c.in_ok-add_net.ensures.spelled;
}

pub returns-clause-names : goal.returns-clause-names
returns-clause-names c =
    let nets = c.args.netlist.now.nets in
    let whole = all_nets nets c.loop-number.number (omega (arith, c.len-number-end.ensures, c.loop-number-test.false)) in
    ap (map (λ e. e.0)) (c.loop-number.invariant.names ∙ ap (λ l. with_names [] (map (λ b. b.name) l)) whole)
    ∙ names_all (map (λ b. b.name) (bits nets)) (names_apart (bits nets) c.requires.sound.own.differ)

pub returns-clause-spelled : goal.returns-clause-spelled
returns-clause-spelled c = c.loop-number.invariant.spelled
