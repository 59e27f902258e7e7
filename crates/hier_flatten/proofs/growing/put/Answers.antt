use Rattle.std.proofs.Common.{◌≡◌, [], ◌∷◌, ◌++◌, ◌==◌, length, true, false, map, ap, ◌∙◌}
use Rattle.name_numbers.specs.Names.{has_name}
use Rattle.hier_flatten.proofs.NamesLaws.{is_found, none_in, some_in, put_more, put_in}
use Rattle.hier_flatten.proofs.growing.put.Goals.{then-not-is_empty-via-then-not-is_empty, then-not-is_empty-via-else-not-is_empty+then-is_some}
use Rattle.hier_flatten.proofs.growing.put.Goals as goal

pub returns-then-not-is_empty-clause-apart : goal.returns-then-not-is_empty-clause-apart
returns-then-not-is_empty-clause-apart c =
    let again : c.args.more.now.items ≡ [] → has_name c.args.name.now (map (λ e. e.0) c.args.table.now) ≡ true =
    elim c.then-not-is_empty.branch [
      | then-not-is_empty-via-then-not-is_empty w ↦ λ none. absurd (some_in c.args.more.now.items c.is_empty.result (c.is_empty.ensures ∙ ap (λ xs. length xs == 0) c.as_slice.ensures.value) w.if-not-is_empty.true none)
      | then-not-is_empty-via-else-not-is_empty+then-is_some w ↦ λ none.
          is_found w.find.result (λ f. (f.0, f.1.now)) c.args.name.now c.args.table.now w.is_some.result w.find.ensures w.is_some.ensures ∙ w.if-is_some.true
    ] in
    (put_more c.args.table.now c.args.name.now c.args.net c.args.more.now.items c.push.new.self.items c.requires again
    (c.in_ok-push.ensures.items ∙ ap (λ n. c.args.more.now.items ++ (n, c.args.net) ∷ []) c.in_ok-copied.ensures)).0

pub returns-clause-apart : goal.returns-clause-apart
returns-clause-apart c =
    let fresh : has_name c.args.name.now (map (λ e. e.0) c.args.table.now) ≡ false =
    is_found c.find.result (λ f. (f.0, f.1.now)) c.args.name.now c.args.table.now c.is_some.result c.find.ensures c.is_some.ensures ∙ c.if-is_some.false in
    (put_in c.args.table.now c.args.name.now c.args.net c.args.more.now.items c.set.new.self
    (none_in c.args.more.now.items c.is_empty.result (c.is_empty.ensures ∙ ap (λ xs. length xs == 0) c.as_slice.ensures.value) c.if-not-is_empty.false) c.requires fresh c.in_ok-set.ensures.given).0

pub returns-clause-nets : goal.returns-clause-nets
returns-clause-nets c =
    let fresh : has_name c.args.name.now (map (λ e. e.0) c.args.table.now) ≡ false =
    is_found c.find.result (λ f. (f.0, f.1.now)) c.args.name.now c.args.table.now c.is_some.result c.find.ensures c.is_some.ensures ∙ c.if-is_some.false in
    (put_in c.args.table.now c.args.name.now c.args.net c.args.more.now.items c.set.new.self
    (none_in c.args.more.now.items c.is_empty.result (c.is_empty.ensures ∙ ap (λ xs. length xs == 0) c.as_slice.ensures.value) c.if-not-is_empty.false) c.requires fresh c.in_ok-set.ensures.given).1
