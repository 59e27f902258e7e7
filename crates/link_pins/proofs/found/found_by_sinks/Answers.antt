use Rattle.std.proofs.Common.{◌≡◌, ◌+◌, ◌++◌, ◌∷◌, [], ◌∙◌, Vec, Global, ℕ, true, Ok, Err, Some, get_or, take, sym, ap, subst}
use Rattle.std.specs.List.{slice_get}
use Rattle.std.proofs.lemmas.List.{take_all, take_more}
use Rattle.std.proofs.lemmas.List.Filters.{dedup_is}
use Rattle.std.proofs.lemmas.Option.{slice_get-get_or}
use Rattle.link_pins.specs.Places.{is_sink}
use Rattle.link_pins.proofs.IndexLaws.{AreHits, hit_more, hit_none, all_hits, search_is}
use Rattle.link_pins.proofs.found.found_by_sinks.Goals as goal
use Rattle.link_pins.proofs.found.found_by_sinks.Goals.{in-Ok+in_ok-push, in_default}

pub loop-pin-preserved : goal.loop-pin-preserved
loop-pin-preserved c =
    let at = c.args.places.now.at.items in
    let pins = c.args.pins.now in
    let listed = c.pins-pin-items.result.now in
    let i = c.loop-pin.pin-index in
    let k = get_or listed i 0 in
    let push : take (i + 1) listed ≡ take i listed ++ k ∷ [] = take_more listed i 0 c.loop-pin-test.true in
    let held : slice_get listed i ≡ Some k = slice_get-get_or listed i 0 c.loop-pin-test.true in
    let sink : is_sink at k ≡ true = c.requires.listed.each i k (ap (λ l. slice_get l i) (sym c.pins-pin-items.ensures) ∙ held) in
    elim c.match-binary_search.branch [
      | in-Ok+in_ok-push w ↦
          let there : slice_get pins w.in-Ok.at ≡ Some k = search_is pins c.requires.rising k (Ok w.in-Ok.at) w.in-Ok.ensures.position in
          hit_more pins c.requires.rising at (take i listed) (take (i + 1) listed) k w.in-Ok.at c.loop-pin.found.items c.match-binary_search.found.items push
          (ap (λ (v : Vec ℕ Global). v.items) w.found-is ∙ w.in_ok-push.ensures.items) there sink c.loop-pin.invariant
      | in_default w ↦
          subst (λ (v : Vec ℕ Global). AreHits pins at (take (i + 1) listed) v.items) (sym w.found-is)
          (hit_none pins c.requires.rising at (take i listed) (take (i + 1) listed) k c.loop-pin.found.items push
          (search_is pins c.requires.rising k (Err w.in_default.field-0) w.in_default.ensures.position) c.loop-pin.invariant)
    ]

pub returns : goal.returns
returns c =
    let at = c.args.places.now.at.items in
    let all : AreHits c.args.pins.now at c.args.places.now.pins.items c.loop-pin.found.items =
    subst (λ l. AreHits c.args.pins.now at l c.loop-pin.found.items) (take_all c.loop-pin.pin-index c.pins-pin-items.result.now c.loop-pin-test.false ∙ c.pins-pin-items.ensures) c.loop-pin.invariant in
    all_hits c.args.pins.now c.requires.rising at c.args.places.now.pins.items c.loop-pin.found.items _ _ c.requires.listed.all all
    c.sort_unstable.ensures.permutation c.sort_unstable.ensures.sorted (dedup_is _ _ _ c.dedup.ensures.filtered)
