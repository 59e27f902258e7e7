use Rattle.std.proofs.Common.{ℕ, List, refl, sym, ap, subst, ◌∙◌, length}
use Rattle.xt_model.specs.Parts.{Parts}
use Rattle.chaos_core.specs.declared.setting.Setting.{Setting}
use Rattle.chaos_core.specs.Knowing.{IsKnown, KnowsMoves, KnowsTurns}
use Rattle.chaos_core.specs.Rounds.{IsRound, pause_at}
use Rattle.chaos_core.specs.TurnMarks.{AreMarks}
use Rattle.chaos_core.proofs.Listing.{rows_back}
use Rattle.chaos_core.proofs.LookLaws.{steady_kept}
use Rattle.chaos_core.proofs.Settling.{carried, fits_under}
use Rattle.chaos_core.proofs.known.Known.round.Goals as goal

pub closed_after-requires-clause-sound : goal.closed_after-requires-clause-sound
closed_after-requires-clause-sound c = c.requires.lists.sound

-- a net of which the round did not move what decides it is steady after it
pub closed_after-requires-clause-kept : goal.closed_after-requires-clause-kept
closed_after-requires-clause-kept c = λ net alike.
    let a = c.args.board.now.setting in
    let d = c.args.design.now in
    let lists = c.args.lists.now in
    let way = c.args.direction in
    let order = c.requires.lists.ordered.0 in
    let o = c.requires.lists.ordered.1 in
    let v = c.load_into.new.windows in
    let w = c.load_into-in-Moves.new.windows in
    let p = pause_at c.args.source.now.state c.args.board.now in
    let q = pause_at c.round.new.source.state c.round.new.board in
    let carry = carried a d lists order (length c.args.workers.now) p q c.requires.design c.requires.some c.requires.lists o c.requires.kept (c.round.ensures.round order o) in
    let before = fits_under a a d way v refl c.requires.design c.requires.direction c.load_into.ensures.fits in
    let after = fits_under a c.round.new.board.setting d way w c.round.ensures.setting c.requires.design c.requires.direction c.load_into-in-Moves.ensures.fits in
    steady_kept a d way v w p.words q.words c.requires.design c.requires.direction before after c.load_into.ensures.numbers c.load_into-in-Moves.ensures.numbers carry net alike

pub round_alone-requires-clause-groups : goal.round_alone-requires-clause-groups
round_alone-requires-clause-groups c = c.requires.groups

pub round_alone-requires-clause-design : goal.round_alone-requires-clause-design
round_alone-requires-clause-design c = c.requires.design

pub round_alone-requires-clause-direction : goal.round_alone-requires-clause-direction
round_alone-requires-clause-direction c = c.requires.direction

pub round_alone-requires-clause-lists : goal.round_alone-requires-clause-lists
round_alone-requires-clause-lists c = c.requires.lists

pub round_alone-requires-clause-numbers : goal.round_alone-requires-clause-numbers
round_alone-requires-clause-numbers c = c.requires.numbers

pub round_alone-requires-clause-listed : goal.round_alone-requires-clause-listed
round_alone-requires-clause-listed c =
    let know : KnowsTurns c.args.design.now (length c.args.workers.now) c.args.board.now.words c.in-Turns.marks c.in-Turns.listed =
    subst (IsKnown c.args.design.now (length c.args.workers.now) c.args.board.now.words) c.in-Turns.is c.requires.known in
    know.listed

pub round_alone-requires-clause-marks : goal.round_alone-requires-clause-marks
round_alone-requires-clause-marks c =
    let know : KnowsTurns c.args.design.now (length c.args.workers.now) c.args.board.now.words c.in-Turns.marks c.in-Turns.listed =
    subst (IsKnown c.args.design.now (length c.args.workers.now) c.args.board.now.words) c.in-Turns.is c.requires.known in
    know.marks

pub closed_by-requires-clause-groups : goal.closed_by-requires-clause-groups
closed_by-requires-clause-groups c = c.requires.groups

pub closed_by-requires-clause-windows : goal.closed_by-requires-clause-windows
closed_by-requires-clause-windows c = c.round_alone.ensures.fits.windows

pub closed_by-requires-clause-within : goal.closed_by-requires-clause-within
closed_by-requires-clause-within c = c.round_alone.ensures.fits.within

pub closed_by-requires-clause-marks : goal.closed_by-requires-clause-marks
closed_by-requires-clause-marks c =
    subst (λ (words : List ℕ). AreMarks c.args.design.now words c.round_alone.new.marks) (sym c.round_alone.ensures.numbers) c.round_alone.ensures.marks

pub load_into-requires : goal.load_into-requires
load_into-requires c =
    let know : KnowsMoves c.args.design.now c.in-Moves.before c.in-Moves.unmoved.items c.in-Moves.marks.items =
    subst (IsKnown c.args.design.now (length c.args.workers.now) c.args.board.now.words) c.in-Moves.is c.requires.known in
    know.before ∙ sym (ap (λ (d : Parts). length d.nets) c.requires.design)

pub round-requires-clause-design : goal.round-requires-clause-design
round-requires-clause-design c = c.requires.design

pub round-requires-clause-direction : goal.round-requires-clause-direction
round-requires-clause-direction c = c.requires.direction

pub round-requires-clause-lists : goal.round-requires-clause-lists
round-requires-clause-lists c = c.requires.lists

pub round-requires-clause-few : goal.round-requires-clause-few
round-requires-clause-few c = c.requires.few

pub round-requires-clause-rooms : goal.round-requires-clause-rooms
round-requires-clause-rooms c = c.requires.rooms

pub load_into-requires-in-Moves : goal.load_into-requires-in-Moves
load_into-requires-in-Moves c =
    let design = ap (λ (a : Setting). a.design) c.round.ensures.setting ∙ c.requires.design in
    c.requires.windows ∙ sym (ap (λ (d : Parts). length d.nets) design)

pub closed_after-requires-clause-groups : goal.closed_after-requires-clause-groups
closed_after-requires-clause-groups c = c.requires.groups

pub closed_after-requires-clause-unmoved : goal.closed_after-requires-clause-unmoved
closed_after-requires-clause-unmoved c =
    let know : KnowsMoves c.args.design.now c.in-Moves.before c.in-Moves.unmoved.items c.in-Moves.marks.items =
    subst (IsKnown c.args.design.now (length c.args.workers.now) c.args.board.now.words) c.in-Moves.is c.requires.known in
    ap length c.as_mut_slice.ensures.value ∙ know.unmoved

pub closed_after-requires-clause-marks : goal.closed_after-requires-clause-marks
closed_after-requires-clause-marks c =
    let know : KnowsMoves c.args.design.now c.in-Moves.before c.in-Moves.unmoved.items c.in-Moves.marks.items =
    subst (IsKnown c.args.design.now (length c.args.workers.now) c.args.board.now.words) c.in-Moves.is c.requires.known in
    ap length c.as_mut_slice-in-Moves.ensures.value ∙ know.marks

pub closed_after-requires-clause-before : goal.closed_after-requires-clause-before
closed_after-requires-clause-before c =
    let fits = fits_under c.args.board.now.setting c.args.board.now.setting c.args.design.now c.args.direction c.load_into.new.windows refl c.requires.design c.requires.direction c.load_into.ensures.fits in
    fits.windows.count

pub closed_after-requires-clause-after : goal.closed_after-requires-clause-after
closed_after-requires-clause-after c =
    let fits = fits_under c.args.board.now.setting c.round.new.board.setting c.args.design.now c.args.direction c.load_into-in-Moves.new.windows c.round.ensures.setting c.requires.design c.requires.direction c.load_into-in-Moves.ensures.fits in
    fits.windows

pub closed_after-requires-clause-within : goal.closed_after-requires-clause-within
closed_after-requires-clause-within c =
    let fits = fits_under c.args.board.now.setting c.round.new.board.setting c.args.design.now c.args.direction c.load_into-in-Moves.new.windows c.round.ensures.setting c.requires.design c.requires.direction c.load_into-in-Moves.ensures.fits in
    fits.within

pub returns-in-Turns-clause-setting : goal.returns-in-Turns-clause-setting
returns-in-Turns-clause-setting c = c.round_alone.ensures.setting

pub returns-in-Turns-clause-count : goal.returns-in-Turns-clause-count
returns-in-Turns-clause-count c = refl

pub returns-in-Turns-clause-rooms : goal.returns-in-Turns-clause-rooms
returns-in-Turns-clause-rooms c = c.requires.rooms

pub returns-in-Turns-clause-round : goal.returns-in-Turns-clause-round
returns-in-Turns-clause-round c = λ order o.
    let know : KnowsTurns c.args.design.now (length c.args.workers.now) c.args.board.now.words c.in-Turns.marks c.in-Turns.listed =
    subst (IsKnown c.args.design.now (length c.args.workers.now) c.args.board.now.words) c.in-Turns.is c.requires.known in
    let p = pause_at c.args.source.now.state c.args.board.now in
    let q = pause_at c.round_alone.new.source.state c.round_alone.new.board in
    subst (λ (k : ℕ). IsRound c.args.board.now.setting c.args.lists.now order k p q) (sym know.one) (c.round_alone.ensures.round order o)

pub returns-in-Turns-clause-numbers : goal.returns-in-Turns-clause-numbers
returns-in-Turns-clause-numbers c = c.round_alone.ensures.numbers

pub returns-in-Turns-clause-fits : goal.returns-in-Turns-clause-fits
returns-in-Turns-clause-fits c = c.round_alone.ensures.fits

pub returns-in-Turns-clause-closed : goal.returns-in-Turns-clause-closed
returns-in-Turns-clause-closed c = c.closed_by.ensures.closed

pub returns-in-Turns-clause-known : goal.returns-in-Turns-clause-known
returns-in-Turns-clause-known c =
    let know : KnowsTurns c.args.design.now (length c.args.workers.now) c.args.board.now.words c.in-Turns.marks c.in-Turns.listed =
    subst (IsKnown c.args.design.now (length c.args.workers.now) c.args.board.now.words) c.in-Turns.is c.requires.known in
    record {
      one = know.one;
      marks = subst (λ (words : List ℕ). AreMarks c.args.design.now words c.closed_by.new.marks) c.round_alone.ensures.numbers c.closed_by.ensures.marks;
      listed = know.listed;
    }

pub returns-in-Moves-clause-setting : goal.returns-in-Moves-clause-setting
returns-in-Moves-clause-setting c = c.round.ensures.setting

pub returns-in-Moves-clause-count : goal.returns-in-Moves-clause-count
returns-in-Moves-clause-count c = c.round.ensures.count

pub returns-in-Moves-clause-rooms : goal.returns-in-Moves-clause-rooms
returns-in-Moves-clause-rooms c = c.round.ensures.rooms

pub returns-in-Moves-clause-round : goal.returns-in-Moves-clause-round
returns-in-Moves-clause-round c = c.round.ensures.round

pub returns-in-Moves-clause-numbers : goal.returns-in-Moves-clause-numbers
returns-in-Moves-clause-numbers c = c.load_into-in-Moves.ensures.numbers

pub returns-in-Moves-clause-fits : goal.returns-in-Moves-clause-fits
returns-in-Moves-clause-fits c =
    fits_under c.args.board.now.setting c.round.new.board.setting c.args.design.now c.args.direction c.load_into-in-Moves.new.windows c.round.ensures.setting c.requires.design c.requires.direction c.load_into-in-Moves.ensures.fits

pub returns-in-Moves-clause-closed : goal.returns-in-Moves-clause-closed
returns-in-Moves-clause-closed c = c.closed_after.ensures.closed

pub returns-in-Moves-clause-known : goal.returns-in-Moves-clause-known
returns-in-Moves-clause-known c =
    let know : KnowsMoves c.args.design.now c.in-Moves.before c.in-Moves.unmoved.items c.in-Moves.marks.items =
    subst (IsKnown c.args.design.now (length c.args.workers.now) c.args.board.now.words) c.in-Moves.is c.requires.known in
    let fits = fits_under c.args.board.now.setting c.args.board.now.setting c.args.design.now c.args.direction c.load_into.new.windows refl c.requires.design c.requires.direction c.load_into.ensures.fits in
    let unmoved = c.closed_after.ensures.unmoved ∙ ap length c.as_mut_slice.ensures.value in
    let marks = c.closed_after.ensures.marks ∙ ap length c.as_mut_slice-in-Moves.ensures.value in
    record {
      before = fits.windows.count;
      unmoved = ap length (rows_back c.in-Moves.unmoved.len c.in-Moves.unmoved.items c.closed_after.new.unmoved c.in-Moves.unmoved.ok.0 unmoved) ∙ (unmoved ∙ know.unmoved);
      marks = ap length (rows_back c.in-Moves.marks.len c.in-Moves.marks.items c.closed_after.new.marks c.in-Moves.marks.ok.0 marks) ∙ (marks ∙ know.marks);
    }
