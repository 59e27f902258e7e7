use Rattle.std.proofs.Common.{refl, SFits, w64, to_z-of_z, rules}
use Rattle.spef_read.proofs.state.Progress.end_net.Goals as goal

pub returns : goal.returns
returns c =
    let total : SFits w64 c.self.inside.total = search rules in
    rw (← c.self.view_is, c.in_ok-push.ensures.items, to_z-of_z total, c.from_vec.ensures, c.in_ok-caps.ensures.items, c.as_slice.ensures.value, c.from_vec-2.ensures, c.in_ok-resistors.ensures.items, c.as_slice-2.ensures.value, c.clear.ensures.items, c.clear-2.ensures.items)
    refl
