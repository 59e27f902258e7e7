use Rattle.std.proofs.Common.{◌≡◌, sym, ap, subst, ◌∙◌, List, set, arith}
use Rattle.xt_model.specs.declared.net.Net.{Net}
use Rattle.xt_model.specs.Levels.{AreLevels, IsPairCount}
use Rattle.xt_model.specs.Parts.{Parts}
use Rattle.xt_model.specs.Sound.{IsSound}
use Rattle.eco_warm.specs.Edits.{edited, first_of, move_of, pairs_left, second_of}
use Rattle.eco_warm.proofs.Allowed.{edited_levels, edited_sound, parts_made}
use Rattle.eco_warm.proofs.Pairs.{count_after, fewer_left, some_pair}
use Rattle.eco_warm.proofs.Shrinking.{nets_apart}
use Rattle.eco_warm.proofs.design.replaced.Goals as goal

pub pairs_after-requires : goal.pairs_after-requires
pairs_after-requires c =
    let d = c.args.design in
    let e = c.args.edit.now in
    some_pair d.nets (first_of e) (second_of e) c.into_parts-parts.result.2 (nets_apart d e c.into_parts-parts.ensures.sound c.requires.between) c.requires.between.couples c.into_parts-parts.ensures.pairs

pub from_order-requires-clause-sound : goal.from_order-requires-clause-sound
from_order-requires-clause-sound c =
    let d = c.args.design in
    let p = c.into_parts-parts.result.0 in
    let e = c.args.edit.now in
    let made : c.from_vec.result ≡ set (set c.into_vec-nets.result.items c.nets.result.0.0 c.args.first) c.nets.result.1.0 c.args.second = c.from_vec.ensures in
    let whole = parts_made d p e c.nets.result.0.0 c.nets.result.1.0 c.from_vec.result c.into_vec-nets.result.items c.args.first c.args.second c.into_parts-parts.ensures.parts c.nets.ensures.first c.nets.ensures.second
    c.into_vec-nets.ensures made c.into_parts-parts.ensures.sound c.requires.between c.requires.first c.requires.second in
    subst IsSound (sym whole) (edited_sound d e c.into_parts-parts.ensures.sound c.requires.between c.requires.allowed)

pub from_order-requires-clause-levels : goal.from_order-requires-clause-levels
from_order-requires-clause-levels c =
    let d = c.args.design in
    let p = c.into_parts-parts.result.0 in
    let e = c.args.edit.now in
    let made : c.from_vec.result ≡ set (set c.into_vec-nets.result.items c.nets.result.0.0 c.args.first) c.nets.result.1.0 c.args.second = c.from_vec.ensures in
    let whole = parts_made d p e c.nets.result.0.0 c.nets.result.1.0 c.from_vec.result c.into_vec-nets.result.items c.args.first c.args.second c.into_parts-parts.ensures.parts c.nets.ensures.first c.nets.ensures.second
    c.into_vec-nets.ensures made c.into_parts-parts.ensures.sound c.requires.between c.requires.first c.requires.second in
    subst (λ (ns : List Net). AreLevels ns c.into_parts-parts.result.1) (sym (ap (λ (x : Parts). x.nets) whole))
    (edited_levels d e c.into_parts-parts.result.1 c.into_parts-parts.ensures.sound c.requires.between c.into_parts-parts.ensures.levels)

pub from_order-requires-clause-pairs : goal.from_order-requires-clause-pairs
from_order-requires-clause-pairs c =
    let d = c.args.design in
    let p = c.into_parts-parts.result.0 in
    let e = c.args.edit.now in
    let made : c.from_vec.result ≡ set (set c.into_vec-nets.result.items c.nets.result.0.0 c.args.first) c.nets.result.1.0 c.args.second = c.from_vec.ensures in
    let whole = parts_made d p e c.nets.result.0.0 c.nets.result.1.0 c.from_vec.result c.into_vec-nets.result.items c.args.first c.args.second c.into_parts-parts.ensures.parts c.nets.ensures.first c.nets.ensures.second
    c.into_vec-nets.ensures made c.into_parts-parts.ensures.sound c.requires.between c.requires.first c.requires.second in
    let n = c.into_parts-parts.result.2 in
    let is : c.pairs_after.result ≡ pairs_left (move_of e) n = c.pairs_after.ensures ∙ ap (λ m. pairs_left m n) c.moving.ensures in
    let count = count_after (move_of e) (first_of e) (second_of e) (nets_apart d e c.into_parts-parts.ensures.sound c.requires.between) d.nets n c.requires.between.couples c.into_parts-parts.ensures.pairs in
    subst (λ (ns : List Net). IsPairCount ns c.pairs_after.result) (sym (ap (λ (x : Parts). x.nets) whole)) (subst (IsPairCount (edited e d).nets) (sym is) count)

pub from_order-requires-clause-few : goal.from_order-requires-clause-few
from_order-requires-clause-few c =
    let fewer = fewer_left c.moving.result c.into_parts-parts.result.2 in
    omega (arith, fewer, c.pairs_after.ensures, c.into_parts-parts.ensures.few)

pub returns : goal.returns
returns c =
    let d = c.args.design in
    let p = c.into_parts-parts.result.0 in
    let e = c.args.edit.now in
    let made : c.from_vec.result ≡ set (set c.into_vec-nets.result.items c.nets.result.0.0 c.args.first) c.nets.result.1.0 c.args.second = c.from_vec.ensures in
    let whole = parts_made d p e c.nets.result.0.0 c.nets.result.1.0 c.from_vec.result c.into_vec-nets.result.items c.args.first c.args.second c.into_parts-parts.ensures.parts c.nets.ensures.first c.nets.ensures.second
    c.into_vec-nets.ensures made c.into_parts-parts.ensures.sound c.requires.between c.requires.first c.requires.second in
    c.from_order.ensures ∙ whole
