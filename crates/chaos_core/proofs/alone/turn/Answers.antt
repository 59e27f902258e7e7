use Rattle.std.proofs.Common.{◌≡◌, ℕ, sym, refl, ◌∙◌, ap, subst, List, length, arith}
use Rattle.std.specs.Prelude.{Option, Some, IfSome}
use Rattle.std.specs.List.{All, slice_get}
use Rattle.xt_model.specs.declared.net.Net.{Net}
use Rattle.xt_model.specs.declared.quad.Pair.{Pair}
use Rattle.xt_model.specs.Quads.{IsPairInRange}
use Rattle.xt_meaning.specs.Words.{numbers_of}
use Rattle.net_eval.specs.ReadLists.{reads_of}
use Rattle.chaos_core.specs.Tasks.{list_of}
use Rattle.chaos_core.specs.OnlyWorker.{made_of}
use Rattle.chaos_core.specs.Passes.{HoldPair}
use Rattle.chaos_core.specs.TurnMarks.{AreMarks, IsSettledNet, Marks}
use Rattle.chaos_core.proofs.Places.{ids_count}
use Rattle.chaos_core.proofs.OnlyWorker.{turn_there}
use Rattle.chaos_core.proofs.PassLaws.{pair_held, published_same}
use Rattle.chaos_core.proofs.Telling.{inputs_there, marks_begun, marks_seen}
use Rattle.chaos_core.proofs.alone.turn.Goals as goal

-- a net whose windows are a pair has its words
same_held : (words : List ℕ) (v : List Pair) (n : ℕ) (p pair : Pair) → All IsPairInRange v → numbers_of v ≡ words → slice_get v n ≡ Some p → p ≡ pair → HoldPair words n pair
same_held words v n p pair range is at same = subst (λ (q : Pair). HoldPair words n q) same (pair_held words v n p range is at)

pub of-requires : goal.of-requires
of-requires c = let n = c.requires.lists.count in let h = c.requires.net in omega (arith, n, h)

pub is_settled-requires-clause-seen : goal.is_settled-requires-clause-seen
is_settled-requires-clause-seen c = let e = ap (λ (m : Marks). length m.seen) c.begin_turn.ensures.rest in let n = c.requires.marks.counts.seen in let h = c.requires.net in omega (arith, e, n, h)

pub is_settled-requires-clause-answers : goal.is_settled-requires-clause-answers
is_settled-requires-clause-answers c = let e = ap (λ (m : Marks). length m.answers) c.begin_turn.ensures.rest in let n = c.requires.marks.counts.answers in let h = c.requires.net in omega (arith, e, n, h)

pub is_settled-requires-clause-inputs : goal.is_settled-requires-clause-inputs
is_settled-requires-clause-inputs c =
    let e = ap (λ (m : Marks). length m.moved) c.begin_turn.ensures.rest in
    inputs_there c.args.design.now c.args.net.0 c.net.result.now _ (e ∙ c.requires.marks.counts.moved) c.net.ensures.sound

pub is_settled-requires-clause-inputs_answers : goal.is_settled-requires-clause-inputs_answers
is_settled-requires-clause-inputs_answers c =
    let e = ap (λ (m : Marks). length m.answers) c.begin_turn.ensures.rest in
    inputs_there c.args.design.now c.args.net.0 c.net.result.now _ (e ∙ c.requires.marks.counts.answers) c.net.ensures.sound

-- a settled net has the words that it would publish
pub returns-then-is_settled-clause-turn : goal.returns-then-is_settled-clause-turn
returns-then-is_settled-clause-turn c = λ order place h at.
    let b = c.args.board.now in
    let d = c.args.design.now in
    let lists = c.args.lists.now in
    let net = c.args.net.0 in
    let size : length c.of.result.now ≡ length (list_of lists net) = ap length c.of.ensures ∙ sym (ids_count (reads_of lists net)) in
    let settled = subst (λ (o : Option Net). IfSome o (IsSettledNet c.begin_turn.new.self net)) (sym c.net.ensures.there) (c.is_settled.ensures c.if-is_settled.true) in
    let hold = ((marks_begun c.args.design.now c.args.board.now.words c.args.marks.now c.begin_turn.new.self c.begin_turn.ensures.later c.begin_turn.ensures.rest c.requires.marks).settled net c.requires.net settled).hold in
    turn_there b d lists order place net (length c.of.result.now) (made_of d b.words net) c.args.direction c.args.source.now.state _ _ _ _ c.requires.design c.requires.direction c.requires.lists
    c.requires.lists.sound h c.requires.net at size c.pick_only.ensures c.pick_only-2.ensures c.pick_only-3.ensures refl (sym (published_same c.args.direction net (made_of d b.words net) b.words 8 (omega arith) hold))

pub returns-then-is_settled-clause-marks : goal.returns-then-is_settled-clause-marks
returns-then-is_settled-clause-marks c = marks_begun c.args.design.now c.args.board.now.words c.args.marks.now c.begin_turn.new.self c.begin_turn.ensures.later c.begin_turn.ensures.rest c.requires.marks

pub pair-requires : goal.pair-requires
pair-requires c = let n = c.made-pair.ensures.windows.count in let h = c.requires.net in omega (arith, n, h)

pub note_look-requires : goal.note_look-requires
note_look-requires c = let e = ap (λ (m : Marks). length m.seen) c.read_ahead.ensures in let n = (marks_begun c.args.design.now c.args.board.now.words c.args.marks.now c.begin_turn.new.self c.begin_turn.ensures.later c.begin_turn.ensures.rest c.requires.marks).counts.seen in let h = c.requires.net in omega (arith, e, n, h)

pub returns-then-same-clause-turn : goal.returns-then-same-clause-turn
returns-then-same-clause-turn c = λ order place h at.
    let b = c.args.board.now in
    let lists = c.args.lists.now in
    let net = c.args.net.0 in
    let size : length c.of.result.now ≡ length (list_of lists net) = ap length c.of.ensures ∙ sym (ids_count (reads_of lists net)) in
    turn_there b c.args.design.now lists order place net (length c.of.result.now) c.made-pair.result c.args.direction c.args.source.now.state _ _ _ _ c.requires.design c.requires.direction c.requires.lists
    c.requires.lists.sound h c.requires.net at size c.pick_only.ensures c.pick_only-2.ensures c.pick_only-3.ensures c.made-pair.ensures.value
    (sym (published_same c.args.direction net c.made-pair.result b.words 8 (omega arith) (same_held c.args.board.now.words c.args.windows.now c.args.net.0 c.pair.result c.made-pair.result c.made-pair.ensures.windows.in_range c.requires.numbers c.pair.ensures.value (c.same.ensures.0 c.if-same.true))))

pub returns-then-same-clause-marks : goal.returns-then-same-clause-marks
returns-then-same-clause-marks c =
    let d = c.args.design.now in
    let words = c.args.board.now.words in
    let net = c.args.net.0 in
    let hold : HoldPair words net (made_of d words net) = subst (λ (p : Pair). HoldPair words net p) c.made-pair.ensures.value (same_held c.args.board.now.words c.args.windows.now c.args.net.0 c.pair.result c.made-pair.result c.made-pair.ensures.windows.in_range c.requires.numbers c.pair.ensures.value (c.same.ensures.0 c.if-same.true)) in
    subst (AreMarks d words) (sym c.note_look.ensures) (marks_seen d words c.read_ahead.new.self net (subst (AreMarks d words) (sym c.read_ahead.ensures) (marks_begun c.args.design.now c.args.board.now.words c.args.marks.now c.begin_turn.new.self c.begin_turn.ensures.later c.begin_turn.ensures.rest c.requires.marks)) (record { hold = hold; range = subst IsPairInRange c.made-pair.ensures.value c.made-pair.ensures.fits.range }))

pub move_to-requires-clause-kept : goal.move_to-requires-clause-kept
move_to-requires-clause-kept c = c.made-pair.ensures.kept

pub move_to-requires-clause-marks : goal.move_to-requires-clause-marks
move_to-requires-clause-marks c = subst (AreMarks c.args.design.now c.args.board.now.words) (sym c.read_ahead.ensures) (marks_begun c.args.design.now c.args.board.now.words c.args.marks.now c.begin_turn.new.self c.begin_turn.ensures.later c.begin_turn.ensures.rest c.requires.marks)

pub returns-clause-turn : goal.returns-clause-turn
returns-clause-turn c = λ order place h at.
    let lists = c.args.lists.now in
    let net = c.args.net.0 in
    let size : length c.of.result.now ≡ length (list_of lists net) = ap length c.of.ensures ∙ sym (ids_count (reads_of lists net)) in
    turn_there c.args.board.now c.args.design.now lists order place net (length c.of.result.now) c.made-pair.result c.args.direction c.args.source.now.state _ _ _ _ c.requires.design c.requires.direction c.requires.lists
    c.requires.lists.sound h c.requires.net at size c.pick_only.ensures c.pick_only-2.ensures c.pick_only-3.ensures c.made-pair.ensures.value c.move_to.ensures.words

pub made-pair-requires-clause-design : goal.made-pair-requires-clause-design
made-pair-requires-clause-design c = c.requires.design

pub made-pair-requires-clause-groups : goal.made-pair-requires-clause-groups
made-pair-requires-clause-groups c = c.requires.groups

pub made-pair-requires-clause-net : goal.made-pair-requires-clause-net
made-pair-requires-clause-net c = c.requires.net

pub made-pair-requires-clause-numbers : goal.made-pair-requires-clause-numbers
made-pair-requires-clause-numbers c = c.requires.numbers

pub move_to-requires-clause-design : goal.move_to-requires-clause-design
move_to-requires-clause-design c = c.requires.design

pub move_to-requires-clause-direction : goal.move_to-requires-clause-direction
move_to-requires-clause-direction c = c.requires.direction

pub move_to-requires-clause-listed : goal.move_to-requires-clause-listed
move_to-requires-clause-listed c = c.requires.listed

pub move_to-requires-clause-net : goal.move_to-requires-clause-net
move_to-requires-clause-net c = c.requires.net

pub move_to-requires-clause-numbers : goal.move_to-requires-clause-numbers
move_to-requires-clause-numbers c = c.requires.numbers

pub move_to-requires-clause-fits : goal.move_to-requires-clause-fits
move_to-requires-clause-fits c = c.made-pair.ensures.fits

pub move_to-requires-clause-made : goal.move_to-requires-clause-made
move_to-requires-clause-made c = c.made-pair.ensures.value

pub move_to-requires-clause-windows : goal.move_to-requires-clause-windows
move_to-requires-clause-windows c = c.made-pair.ensures.windows

pub returns-clause-marks : goal.returns-clause-marks
returns-clause-marks c = c.move_to.ensures.marks

pub returns-clause-numbers : goal.returns-clause-numbers
returns-clause-numbers c = c.move_to.ensures.numbers

pub returns-clause-setting : goal.returns-clause-setting
returns-clause-setting c = c.move_to.ensures.setting

pub returns-then-is_settled-clause-numbers : goal.returns-then-is_settled-clause-numbers
returns-then-is_settled-clause-numbers c = c.requires.numbers

pub returns-then-is_settled-clause-setting : goal.returns-then-is_settled-clause-setting
returns-then-is_settled-clause-setting c = refl

pub returns-then-same-clause-numbers : goal.returns-then-same-clause-numbers
returns-then-same-clause-numbers c = c.requires.numbers

pub returns-then-same-clause-setting : goal.returns-then-same-clause-setting
returns-then-same-clause-setting c = refl
