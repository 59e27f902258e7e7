use Rattle.std.proofs.Common.{◌≡◌, ◌∙◌, refl, ap, List}
use Rattle.verilog_net.specs.declared.netlist.PortRole.{PortRole}
use Rattle.sdc_read.specs.declared.mentions.Mention.{Mention}
use Rattle.sdc_read.specs.declared.set_numbers.SetNumbers.{SetNumbers}
use Rattle.sdc_read.specs.Changes.{role_for}
use Rattle.sdc_read.specs.Levels.{Levels, SaidLevels, for_role, with_role}
use Rattle.sdc_read.specs.Origins.{numbers_at}
use Rattle.sdc_read.proofs.OriginLaws.{origins_put}
use Rattle.sdc_read.proofs.levels.Levels.set_all.Goals as goal

role_put : (ms : List Mention) (l : Levels) (r wanted : PortRole) (x y : SetNumbers) → r ≡ wanted → x ≡ y
    → ◌≡◌ {A = SaidLevels} (record { said = ms; levels = with_role r x l }) (record { said = ms; levels = with_role wanted y l })
role_put ms l r wanted x y is_role is = rw (is_role, is) refl

pub returns : goal.returns
returns c =
    let l = c.args.self.now in
    let role = role_for c.args.mention.change in
    let before = c.for_role.ensures ∙ ap (for_role l.levels) c.role.ensures in
    let put = ap (numbers_at l.said) c.put_origins-origins.ensures ∙ origins_put l.said c.args.mention c.args.number c.requires.some c.requires.there c.for_role.result (for_role l.levels role) before in
    c.set_role.ensures ∙ role_put l.said l.levels c.role-2.result role _ _ c.role-2.ensures put
