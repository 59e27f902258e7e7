use Rattle.std.proofs.Common.{◌≡◌, Bool, true, false, List, ◌++◌, refl, sym, ◌∙◌, append_assoc, if◌then◌else◌}
use Rattle.std.proofs.lemmas.List.{nil_from_length, append-nil, map-append}
use Rattle.std.proofs.lemmas.List.Folds.{list_any-append}
use Rattle.name_numbers.specs.Names.{has_name}
use Rattle.verilog_net.proofs.pin_names.PinNames.enter.Goals as goal

after_few : {A : Type 0} (known : Bool) (few others more : List A)
    → few ++ (if known then others else others ++ more) ≡ (if known then few ++ others else (few ++ others) ++ more)
after_few true few others more = refl
after_few false few others more = sym (append_assoc few others more)

pub returns-clause-entered : goal.returns-clause-entered
returns-clause-entered c =
    rw (c.in_ok-fresh.ensures.entered, ← c.self.view_is, list_any-append, ← c.as_slice.ensures.value, ← c.if-is_among.ensures)
    (after_few (has_name c.args.name.now c.self.inside.others) _ c.self.inside.others _)

pub returns-clause-fresh : goal.returns-clause-fresh
returns-clause-fresh c =
    rw (← c.self.view_is, list_any-append, ← c.as_slice.ensures.value, ← c.if-is_among.ensures) c.in_ok-fresh.ensures.fresh

pub returns-then-is_among-clause-entered : goal.returns-then-is_among-clause-entered
returns-then-is_among-clause-entered c =
    rw (← c.self.view_is, list_any-append, ← c.as_slice.ensures.value, ← c.if-is_among.ensures) refl

pub returns-then-is_among-clause-fresh : goal.returns-then-is_among-clause-fresh
returns-then-is_among-clause-fresh c =
    rw (← c.self.view_is, list_any-append, ← c.as_slice.ensures.value, ← c.if-is_among.ensures) refl

pub returns-then-len-eq0-clause-entered : goal.returns-then-len-eq0-clause-entered
returns-then-len-eq0-clause-entered c =
    let none = nil_from_length c.self.inside.others (sym c.len-then-len-lt-FEW.ensures ∙ c.if-len-eq0.true) in
    rw (← c.self.view_is, c.in_ok-push.ensures.items, none, append-nil, append-nil, map-append, ← c.as_slice.ensures.value, ← c.if-is_among.ensures) refl

pub returns-then-len-eq0-clause-fresh : goal.returns-then-len-eq0-clause-fresh
returns-then-len-eq0-clause-fresh c =
    let none = nil_from_length c.self.inside.others (sym c.len-then-len-lt-FEW.ensures ∙ c.if-len-eq0.true) in
    rw (← c.self.view_is, none, append-nil, ← c.as_slice.ensures.value, ← c.if-is_among.ensures) refl
