use Rattle.std.proofs.Common.{◌<◌, ap, ◌∙◌, ◌++◌, ◌∷◌, length, map, set, get_or, [], arith}
use Rattle.std.proofs.lemmas.Bool.{and_from}
use Rattle.std.proofs.lemmas.List.{length-map}
use Rattle.design_gen.specs.Couples.{has_room}
use Rattle.design_gen.proofs.RowLaws.{couple_appended, room_by}
use Rattle.design_gen.proofs.couplings.couple.Goals as goal

pub returns-in_ok-push_item-2-clause-couples :
    goal.returns-in_ok-push_item-2-clause-couples
returns-in_ok-push_item-2-clause-couples c = λ cs h.
    let l = length-map c.args.rows.now.items (λ r. r.items) in
    let p : c.args.first < length (map (λ r. r.items) c.args.rows.now.items) = omega (arith, l, c.requires.first) in
    let q : c.args.second < length (map (λ r. r.items) c.args.rows.now.items) = omega (arith, l, c.requires.second) in
    let one = room_by (λ r. r.items) c.args.rows.now.items cs c.args.first c.index.result.now c.len.result h c.requires.first c.if-len-lt-MOST_COUPLINGS.true
    c.len.ensures.value c.index.ensures in
    let two = room_by (λ r. r.items) c.args.rows.now.items cs c.args.second c.index-then-len-lt-MOST_COUPLINGS.result.now c.len-then-len-lt-MOST_COUPLINGS.result h
    c.requires.second c.if-len-lt-MOST_COUPLINGS-2.true c.len-then-len-lt-MOST_COUPLINGS.ensures.value c.index-then-len-lt-MOST_COUPLINGS.ensures in
    couple_appended (map (λ r. r.items) c.args.rows.now.items) (map (λ r. r.items) c.push_item.new.rows.items)
    (map (λ r. r.items) c.push_item-then-len-lt-MOST_COUPLINGS-2.new.rows.items) cs c.args.first c.args.second c.args.cap p q c.requires.differ
    (and_from (has_room cs c.args.first) (has_room cs c.args.second) one two) h
    (c.in_ok-push_item.ensures
    ∙ ap (λ k. set (map (λ r. r.items) c.args.rows.now.items) c.args.first (get_or (map (λ r. r.items) c.args.rows.now.items) c.args.first [] ++ k ∷ [])) c.new.ensures)
    (c.in_ok-push_item-2.ensures
    ∙ ap (λ k. set (map (λ r. r.items) c.push_item.new.rows.items) c.args.second (get_or (map (λ r. r.items) c.push_item.new.rows.items) c.args.second [] ++ k ∷ [])) c.new-then-len-lt-MOST_COUPLINGS-2.ensures)
